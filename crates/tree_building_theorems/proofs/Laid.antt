-- The bytes of a tree and the tree that stands in them.
use Prim.Native.Nat.{ℕ, zero, suc, ◌+◌, ◌-◌, ◌*◌, ◌/◌, ◌%◌, ◌<◌, ◌≤◌}
use mathlib.Core.Bool.{true}
use mathlib.Core.List.{List, ◌++◌}
use mathlib.Core.Path.{◌≡◌, refl, ◌∙◌}
use native.Mathlib.Decide.{dec_lt}
use native.Mathlib.Omega.{arith}
use borrow.Author.Tests.{eq-eqb, le-leb}
use lib.Dec.{lit<}
use lib.ListN.{length, get_or, length-append, get_or-append}
use lib.Seq.{get_or-append-add}
use Rattle.tree_spec.specs.Nodes.{most_nodes, count_of, kind_at, bit_at, place_at}
use Rattle.tree_spec.specs.Form.{counted}
use Rattle.tree_spec.specs.Verdicts.{bytes_of}
use Rattle.tree_building_spec.specs.Tree.{Tree, leaf, test, size_of, node_bytes, nodes_from, tree_bytes}
use Rattle.tree_building_theorems.specs.Plain.{Plain, plain-leaf, plain-test}
use Rattle.tree_building_theorems.specs.Stands.{NodeIs, Stands, tip, fork}

-- a tree has a node
pub size-some : (t : Tree) → 1 ≤ size_of t
unfolding size_of
size-some (leaf v) = omega arith
size-some (test k c z o) = omega arith

-- four bytes to a node
pub nodes-length : (i : ℕ) (t : Tree) → length (nodes_from i t) ≡ 4 * size_of t
unfolding nodes_from size_of bytes_of
nodes-length i (leaf v) = refl
nodes-length i (test k c z o) =
    let x : ℕ = suc i + size_of z in
    omega (arith, length-append (nodes_from (suc i) z) (nodes_from x o), nodes-length (suc i) z, nodes-length x o)

-- the bytes w stand in b, the first at `from`
abbrev pub Holds : List ℕ → ℕ → List ℕ → Type 0
Holds b from w = (k : ℕ) → k < length w → get_or b (from + k) 0 ≡ get_or w k 0

module _ (b : List ℕ) (from : ℕ) (v w : List ℕ) where
  holds-left : Holds b from (v ++ w) → Holds b from v
  holds-left h k l = h k (omega (arith, length-append v w)) ∙ get_or-append v w 0 k l

  holds-right : Holds b from (v ++ w) → Holds b (from + length v) w
  holds-right h k l =
      let e : from + length v + k ≡ from + (length v + k) = omega arith in
      rw e (h (length v + k) (omega (arith, length-append v w)) ∙ get_or-append-add v w k 0)

  holds-both : Holds b from v → Holds b (from + length v) w → Holds b from (v ++ w)
  holds-both f g k l = go (dec_lt k (length v))
    where
      go : Dec (k < length v) → get_or b (from + k) 0 ≡ get_or (v ++ w) k 0
      go (yes m) = rw (get_or-append v w 0 k m) (f k m)
      go (no m) =
          let e : k ≡ length v + (k - length v) = omega arith in
          let q : from + (length v + (k - length v)) ≡ from + length v + (k - length v) = omega arith in
          rw (e, get_or-append-add v w (k - length v) 0, q) (g (k - length v) (omega (arith, length-append v w)))

-- a node, by its four bytes
module _ (b : List ℕ) (i k c v : ℕ) where
  -- their places
  byte-0 : 4 * i + 2 + 0 ≡ 4 * i + 2
  byte-0 = omega arith

  byte-1 : 4 * i + 2 + 1 ≡ 4 * i + 3
  byte-1 = omega arith

  byte-2 : 4 * i + 2 + 2 ≡ 4 * i + 4
  byte-2 = omega arith

  byte-3 : 4 * i + 2 + 3 ≡ 4 * i + 4 + 1
  byte-3 = omega arith

  node-is : v < 65536 → Holds b (4 * i + 2) (node_bytes k c v) → NodeIs b i k c v
  unfolding kind_at bit_at place_at bytes_of
  node-is l h =
      let low : get_or b (4 * i + 4) 0 ≡ v % 256 = rw byte-2 at (h 2 (lit< tt)) in
      let high : get_or b (4 * i + 4 + 1) 0 ≡ v / 256 % 256 = rw byte-3 at (h 3 (lit< tt)) in
      record { kind = rw byte-0 at (h 0 (lit< tt)); bit = rw byte-1 at (h 1 (lit< tt)); place = omega arith }

  -- two bytes below 256 are those of the number that they make
  node-holds : ((j : ℕ) → get_or b j 0 < 256) → NodeIs b i k c v → Holds b (4 * i + 2) (node_bytes k c v)
  unfolding kind_at bit_at place_at bytes_of
  node-holds small r zero l = rw byte-0 r.kind
  node-holds small r (suc zero) l = rw byte-1 r.bit
  node-holds small r (suc (suc zero)) l = rw byte-2 (omega (arith, r.place, small (4 * i + 4), small (4 * i + 4 + 1)))
  node-holds small r (suc (suc (suc zero))) l = rw byte-3 (omega (arith, r.place, small (4 * i + 4), small (4 * i + 4 + 1)))
  node-holds small r (suc (suc (suc (suc j)))) l = absurd (omega arith)

-- the sides of a test stand behind its node
zero-place : (i : ℕ) → 4 * i + 2 + 4 ≡ 4 * suc i + 2
zero-place i = omega arith

one_place : (i : ℕ) (z : Tree) → 4 * i + 2 + 4 + length (nodes_from (suc i) z) ≡ 4 * (suc i + size_of z) + 2
one_place i z = omega (arith, nodes-length (suc i) z)

-- a tree whose bytes stand in b stands there
pub stands_of : (b : List ℕ) (i : ℕ) {t : Tree} → Plain t → i + size_of t ≤ most_nodes → Holds b (4 * i + 2) (nodes_from i t) → Stands b i t
unfolding nodes_from size_of bytes_of
stands_of b i (plain-leaf {v} l) few h = tip (node-is b i 0 0 v l h)
stands_of b i (plain-test {k} {c} {z} {o} x y) few h =
    let next : ℕ = suc i + size_of z in
    let own : List ℕ = node_bytes k c next in
    let zeros : List ℕ = nodes_from (suc i) z in
    let ones : List ℕ = nodes_from next o in
    let rest : Holds b (4 * i + 2 + 4) (zeros ++ ones) = holds-right b (4 * i + 2) own (zeros ++ ones) h in
    fork (node-is b i k c next (omega arith) (holds-left b (4 * i + 2) own (zeros ++ ones) h))
    (stands_of b (suc i) x (omega arith) (rw (zero-place i) at (holds-left b (4 * i + 2 + 4) zeros ones rest)))
    (stands_of b next y (omega arith) (rw (one_place i z) at (holds-right b (4 * i + 2 + 4) zeros ones rest)))

-- .. and the other way round, in bytes below 256
module _ (b : List ℕ) (small : (j : ℕ) → get_or b j 0 < 256) where
  holds_of : {i : ℕ} {t : Tree} → Stands b i t → Holds b (4 * i + 2) (nodes_from i t)
  unfolding nodes_from bytes_of
  holds_of {i} (tip {v = v} r) = node-holds b i 0 0 v small r
  holds_of {i} (fork {k = k} {c} {z} {o} r x y) =
      let next : ℕ = suc i + size_of z in
      let own : List ℕ = node_bytes k c next in
      let zeros : List ℕ = nodes_from (suc i) z in
      let ones : List ℕ = nodes_from next o in
      holds-both b (4 * i + 2) own (zeros ++ ones) (node-holds b i k c next small r)
      (holds-both b (4 * i + 2 + 4) zeros ones (rw (zero-place i) (holds_of x)) (rw (one_place i z) (holds_of y)))

  pub stands-bytes : {i : ℕ} {t : Tree} → Stands b i t → (k : ℕ) → k < 4 * size_of t → get_or b (4 * i + 2 + k) 0 ≡ get_or (nodes_from i t) k 0
  stands-bytes {i} {t} s k l = holds_of s k (omega (arith, nodes-length i t))

-- the bytes of a whole tree
module _ (t : Tree) where
  pub laid-length : length (tree_bytes t) ≡ 2 + 4 * size_of t
  unfolding tree_bytes bytes_of
  laid-length = omega (arith, nodes-length 0 t)

  pub laid-count : size_of t ≤ most_nodes → count_of (tree_bytes t) ≡ size_of t
  unfolding tree_bytes bytes_of
  laid-count few = omega arith

  pub laid : Plain t → size_of t ≤ most_nodes → Stands (tree_bytes t) 0 t
  unfolding tree_bytes bytes_of
  laid plain few =
      stands_of (tree_bytes t) 0 plain (omega arith)
      (holds-right (tree_bytes t) 0 (bytes_of 2 (size_of t)) (nodes_from 0 t) (λ k l. let e : 0 + k ≡ k = omega arith in rw e))

  -- the form check's count and length
  pub laid-counted : size_of t ≤ most_nodes → counted (tree_bytes t) ≡ true
  laid-counted few =
      let s : ℕ = size_of t in
      rw (laid-length, laid-count few, le-leb 2 (2 + 4 * s) (omega arith), le-leb 1 s (size-some t), le-leb s most_nodes few, eq-eqb (2 + 4 * s) (2 + 4 * s) refl)
