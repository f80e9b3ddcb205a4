-- The tree that is built for a table without a clash is of good form, and the tree check accepts it.
use Prim.Native.Nat.{ℕ, zero, suc, ◌+◌, ◌-◌, ◌<◌, ◌≤◌}
use mathlib.Core.Bool.{Bool, true, false, cond, not, ◌&&◌}
use mathlib.Core.List.{List}
use mathlib.Core.Path.{◌≡◌, refl, sym, ◌∙◌}
use native.Mathlib.Decide.{ℕ_discrete, dec_lt}
use native.Mathlib.Numerals.{add-one}
use native.Mathlib.Omega.{arith}
use borrow.Author.Tests.{eq-eqb, ne_eqb, le-leb, lt-ltb, le-ltb}
use lib.Dec.{leb, ltb, lit<}
use Rattle.std.specs.Prelude.{None, Ok}
use Rattle.lists.proofs.Bools.{or_yes}
use Rattle.format.specs.declared.Pattern.{Pattern}
use Rattle.patterns.specs.Relations.{inside, overlap}
use Rattle.choosing_spec.specs.Clashing.{clash_of}
use Rattle.choosing_spec.specs.ValidPattern.{ValidPattern}
use Rattle.tree_spec.specs.Nodes.{most_nodes, no_place, count_of, kind_at, bit_at, place_at}
use Rattle.tree_spec.specs.Form.{start, side, leaf_ok, test_ok, node_ok, form_of}
use Rattle.tree_spec.specs.Verdicts.{Accepts}
use Rattle.tree_form.proofs.Nodes.{test-byte, test-context}
use Rattle.tree_form.proofs.Steps.{Walks, Half, walk-leaf, walk-both, form-counted}
use Rattle.tree_form.proofs.Trees.{ends_at}
use Rattle.tree_rule.specs.Rule.{shows_wrong}
use Rattle.tree_rule.proofs.Rule.{own-case, none-case, named-case}
use Rattle.tree_theorems.specs.Path.{path_from, path_of}
use Rattle.tree_theorems.proofs.Judging.{accepts, leaf-sound}
use Rattle.tree_theorems.proofs.Reach.{path-end, path-zero, path-one}
use Rattle.tree_theorems.proofs.Sides.{sound-start}
use Rattle.tree_building_spec.specs.Rule.{masks, kind_of, bit_of, live, node_of}
use Rattle.tree_building_spec.specs.Tree.{Tree, leaf, test, tree_of, size_of, tree_bytes}
use Rattle.tree_building_spec.specs.declared.Node.{Node}
use Rattle.tree_building_spec.specs.declared.Node.TheVariants.{Leaf}
use Rattle.tree_building_theorems.specs.Numbered.{longer}
use Rattle.tree_building_theorems.specs.Decides.{Decides, empty, names, tests}
use Rattle.tree_building_theorems.specs.Growth.{tests_below, tree_at}
use Rattle.tree_building_theorems.specs.Plain.{Plain, plain-leaf, plain-test}
use Rattle.tree_building_theorems.specs.Stands.{NodeIs, Stands, tip, fork}
use Rattle.tree_building_theorems.proofs.Numbered.{masks-byte, masks-context, longer-valid}
use Rattle.tree_building_theorems.proofs.Deciding.{wanted-is, decides}
use Rattle.tree_building_theorems.proofs.Growth.{tests-le, longer-tests, tree-start, leaf-grows, test-grows}
use Rattle.tree_building_theorems.proofs.Laid.{laid, laid-count, laid-counted}

-- a test is no leaf
kind-some : (k : ℕ) → 0 < kind_of k
kind-some k = go (ltb k 64)
  where
    go : (t : Bool) → 0 < cond t 1 2
    go true = lit< tt
    go false = lit< tt

module _ (first : ℕ) (at : ℕ → Pattern) (n : ℕ) where
  -- a tree as the rule grows it from the end of a path: each leaf is the rule's, and each test is of a bit that is not on the path
  data Ruled : Pattern → Tree → Type 0 where
    ends : {p : Pattern} {v : ℕ} → Decides first at n p (Leaf v) → Ruled p (leaf v)
    parts : {p : Pattern} {z o : Tree} (k : ℕ) → k < 96 → masks p k ≡ false → Ruled (longer p k 0) z → Ruled (longer p k 1) o
        → Ruled p (test (kind_of k) (bit_of k) z o)

  module _ (sound : (j : ℕ) → j < n → ValidPattern (at j)) (clear : clash_of at n ≡ None) where
    -- the tree at the end of a path is one: d is enough for the tests that the path leaves
    ruled : (d : ℕ) (p : Pattern) → ValidPattern p → 96 < tests_below 96 p + d → Ruled p (tree_at first at n p)
    ruled zero p valid h = absurd (omega (arith, tests-le 96 p))
    ruled (suc d) p valid h =
        go (node_of first at n p) refl (decides at n sound p valid clear first)
        (λ k x s l free. ruled d (longer p k x) (longer-valid p k x s l free valid) (omega (arith, longer-tests p k x s l free valid)))
      where
        go : (nd : Node) → node_of first at n p ≡ nd → Decides first at n p nd
            → ((k x : ℕ) → k < 96 → x < 2 → masks p k ≡ false → Ruled (longer p k x) (tree_at first at n (longer p k x)))
            → Ruled p (tree_at first at n p)
        go _ e (empty f) more = rw (leaf-grows first at n p no_place e) (ends (empty f))
        go _ e (names t r) more = rw (leaf-grows first at n p (first + t) e) (ends (names t r))
        go _ e (tests k r) more =
            let free = (wanted-is at n p k r.here).free in
            rw (test-grows first at n p k valid r.small free e)
            (parts k r.small free (more k 0 r.small (lit< tt) free) (more k 1 r.small (lit< tt) free))

  module _ (b : List ℕ) where
    -- such a tree's nodes are sound where it stands in bytes
    leaf-ok : {p : Pattern} {v : ℕ} → Decides first at n p (Leaf v) → (i : ℕ) → NodeIs b i 0 0 v → node_ok first n p b i ≡ true
    unfolding node_ok leaf_ok
    leaf-ok (empty f) i r = rw (r.kind, r.bit, r.place) (or_yes (leb first no_place && ltb no_place (first + n)))
    leaf-ok (names t m) i r =
        rw (r.kind, r.bit, r.place, le-leb first (first + t) (omega arith), lt-ltb (first + t) (first + n) (omega (arith, m.within)))

    module _ (p : Pattern) (k i v : ℕ) (h : k < 96) (free : masks p k ≡ false) (r : NodeIs b i (kind_of k) (bit_of k) v) where
      no-leaf : kind_at b i ≡ 0 → ⊥
      no-leaf e = omega (arith, kind-some k, r.kind)

      test-ok : node_ok first n p b i ≡ true
      unfolding node_ok
      test-ok = rw (ne_eqb (kind_at b i) 0 no-leaf) (go (dec_lt k 64))
        where
          go : Dec (k < 64) → test_ok p b i ≡ true
          go (yes l) =
              let e : kind_of k ≡ 1 = rw (lt-ltb k 64 l) in
              let c : bit_of k ≡ k = rw (lt-ltb k 64 l) in
              test-byte p b i (r.kind ∙ e) ∙ rw (r.bit, c, lt-ltb k 64 l, ← masks-byte p k l, free)
          go (no l) =
              let m : 64 ≤ k = omega arith in
              let e : kind_of k ≡ 2 = rw (le-ltb k 64 m) in
              let c : bit_of k ≡ k - 64 = rw (le-ltb k 64 m) in
              test-context p b i (r.kind ∙ e) ∙ rw (r.bit, c, lt-ltb (k - 64) 32 (omega arith), ← masks-context p k m, free)

      side-is : (x : ℕ) → longer p k x ≡ side p (kind_at b i) (bit_at b i) x
      side-is x = rw (r.kind, r.bit)

    -- the walk of the form check goes through it
    walk-built : {p : Pattern} {t : Tree} {i : ℕ} → Ruled p t → Stands b i t → i + size_of t ≤ count_of b
        → Walks first n b p i (ends_at (i + size_of t) no_place)
    unfolding size_of
    walk-built {p} {i = i} (ends d) (tip r) h = walk-leaf first n b p i (omega arith) (leaf-ok d i r) r.kind
    walk-built {p} {i = i} (parts k s free x y) (fork {z = z} {o} r u w) h =
        let next : ℕ = suc i + size_of z in
        let e : next + size_of o ≡ i + suc (size_of z + size_of o) = omega arith in
        let half : Half first n b p i (longer p k 0) (ends_at next no_place) =
        record {
          here = omega arith;
          good = test-ok p k i next s free r;
          test = no-leaf p k i next s free r;
          path = side-is p k i next s free r 0;
          walked = rw (add-one i) (walk-built x u (omega arith));
        } in
        rw (r.place, eq-eqb next next refl, e) at
        (walk-both half (record { next = next; side = no_place }) refl (longer p k 1) (ends_at (next + size_of o) no_place) (side-is p k i next s free r 1) (walk-built y w (omega arith)))

    -- each of its leaves is the rule's at the end of the leaf's path
    rule-built : {p : Pattern} {t : Tree} {i : ℕ} → Ruled p t → Stands b i t → (j f : ℕ) → i ≤ j → j < i + size_of t → kind_at b j ≡ 0 → j ≤ i + f
        → Decides first at n (path_from f b j p i) (Leaf (place_at b j))
    unfolding size_of
    rule-built {p} {i = i} (ends d) (tip r) j f a l q h =
        let e : j ≡ i = omega arith in
        rw (e, path-end first n b f i p, r.place) d
    rule-built {p} {i = i} (parts k s free x y) (fork {z = z} r u w) j zero a l q h =
        let e : j ≡ i = omega arith in
        absurd (no-leaf p k i (suc i + size_of z) s free r (rw e at q))
    rule-built {p} {i = i} (parts k s free x y) (fork {z = z} r u w) j (suc f) a l q h =
        go (dec_lt j (suc i + size_of z)) (λ m. rule-built x u j f (omega (arith, past)) m q (omega arith))
        (λ m. rule-built y w j f m (omega arith) q (omega arith))
      where
        past : i < j
        past = let d : j ≡ i → ⊥ = λ e. no-leaf p k i (suc i + size_of z) s free r (rw e at q) in omega (arith, d)

        go : Dec (j < suc i + size_of z) → (j < suc i + size_of z → Decides first at n (path_from f b j (longer p k 0) (suc i)) (Leaf (place_at b j)))
            → (suc i + size_of z ≤ j → Decides first at n (path_from f b j (longer p k 1) (suc i + size_of z)) (Leaf (place_at b j)))
            → Decides first at n (path_from (suc f) b j p i) (Leaf (place_at b j))
        go (yes m) left right = rw (path-zero first n b f j i p past (rw r.place m), r.kind, r.bit) (left m)
        go (no m) left right = rw (path-one first n b f j i p past (rw r.place (omega arith)), r.kind, r.bit, r.place) (right (omega arith))

  module _ (sound : (j : ℕ) → j < n → ValidPattern (at j)) (low : first + n ≤ 512) where
    -- no record shows a leaf wrong that the rule made
    rule-right : (p : Pattern) → ValidPattern p → (v : ℕ) → Decides first at n p (Leaf v) → (j : ℕ) → j < n → shows_wrong first at p v j ≡ false
    unfolding live
    rule-right p valid _ (empty f) j h = none-case first at n sound low p valid no_place j h refl ∙ f j h
    rule-right p valid _ (names t r) j h = go (ℕ_discrete j t)
      where
        other : (j ≡ t → ⊥) → (x : Bool) → overlap p (at j) ≡ x → (x && not (inside (at t) (at j) && not (inside (at j) (at t)))) ≡ false
        other d true q = rw ((r.below j h d q).0, (r.below j h d q).1)
        other d false q = refl

        go : Dec (j ≡ t) → shows_wrong first at p (first + t) j ≡ false
        go (yes e) = own-case first at n sound low p valid (first + t) j (omega arith) ∙ rw (e, r.holds)
        go (no d) = named-case first at n sound low p valid (first + t) j t refl r.within d ∙ other d (overlap p (at j)) refl

    -- a leaf's place fits into two bytes
    leaf-plain : (p : Pattern) (v : ℕ) → Decides first at n p (Leaf v) → v < 65536
    leaf-plain p _ (empty f) = lit< tt
    leaf-plain p _ (names t r) = omega (arith, r.within)

    rule-plain : {p : Pattern} {t : Tree} → Ruled p t → Plain t
    rule-plain {p} (ends {v = v} d) = plain-leaf (leaf-plain p v d)
    rule-plain (parts k h free x y) = plain-test (rule-plain x) (rule-plain y)

module _ (first : ℕ) (at : ℕ → Pattern) (n : ℕ) (sound : (j : ℕ) → j < n → ValidPattern (at j)) (clear : clash_of at n ≡ None)
    (low : first + n ≤ 512) where
  abbrev tree : Tree
  tree = tree_of first at n

  built-ruled : Ruled first at n start tree
  built-ruled = rw tree-start at (ruled first at n sound clear 97 start sound-start (omega arith))

  pub built-plain : Plain (tree_of first at n)
  built-plain = rule-plain first at n sound low built-ruled

  module _ (few : size_of (tree_of first at n) ≤ most_nodes) where
    built-stands : Stands (tree_bytes tree) 0 tree
    built-stands = laid tree built-plain few

    -- the written tree is well formed
    pub built-form : form_of first n (tree_bytes (tree_of first at n)) ≡ Ok tt
    built-form =
        let c = laid-count tree few in
        let walked = walk-built first at n (tree_bytes tree) built-ruled built-stands (omega arith) in
        sym (form-counted first n (tree_bytes tree) (ends_at (0 + size_of tree) no_place) (laid-counted tree few) walked)
        ∙ rw (eq-eqb (0 + size_of tree) (count_of (tree_bytes tree)) (omega arith))

    -- each leaf is the rule's
    built-leaf : (i : ℕ) → i < count_of (tree_bytes tree) → kind_at (tree_bytes tree) i ≡ 0
        → Decides first at n (path_of (tree_bytes tree) i) (Leaf (place_at (tree_bytes tree) i))
    unfolding path_of
    built-leaf i h k = rule-built first at n (tree_bytes tree) built-ruled built-stands i i (omega arith) (omega (arith, laid-count tree few)) k (omega arith)

    -- the tree check accepts it
    pub built-accepts : Accepts first at n (tree_bytes (tree_of first at n))
    built-accepts =
        let b : List ℕ = tree_bytes tree in
        accepts first at n b sound low built-form
        (λ i h k.
        rule-right first at n sound low (path_of b i) (leaf-sound first at n b sound low built-form i h k) (place_at b i) (built-leaf i h k))
