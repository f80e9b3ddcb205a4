-- The count's turns: a test goes on to its zero side, a leaf to the next path.
use Prim.Native.Nat.{ℕ, ◌+◌, ◌-◌, ◌<◌, ◌≤◌}
use mathlib.Core.Path.{◌≡◌, ap, subst, ◌∙◌}
use native.Mathlib.Decide.{dec_lt}
use native.Mathlib.Numerals.{add-one}
use native.Mathlib.Omega.{arith}
use borrow.Author.Tests.{le-leb, lt-leb, lt-ltb, le-ltb}
use Rattle.std.specs.Prelude.{Option, Some, None}
use Rattle.format.specs.declared.Pattern.{Pattern}
use Rattle.choosing_spec.specs.Clashing.{clash_of}
use Rattle.choosing_spec.specs.ValidPattern.{ValidPattern}
use Rattle.tree_spec.specs.Nodes.{no_place}
use Rattle.tree_spec.specs.Form.{side}
use Rattle.tree_building_spec.specs.Rule.{kind_of, bit_of, node_of}
use Rattle.tree_building_spec.specs.Tree.{tree_of, size_of}
use Rattle.tree_building_spec.specs.declared.Node.{Node}
use Rattle.tree_building_spec.specs.declared.Node.TheVariants.{Leaf, Test}
use Rattle.tree_building_theorems.specs.Numbered.{longer}
use Rattle.tree_building_theorems.specs.Decides.{Lowest, Decides, empty, names, tests}
use Rattle.tree_building_theorems.specs.Growth.{tree_at}
use Rattle.tree_building_theorems.proofs.Deciding.{decides}
use Rattle.tree_building_theorems.proofs.Growth.{leaf-grows}
use Rattle.tree_building_theorems.proofs.Laid.{size-some}
use Rattle.tree_counting.specs.Counting.{counted_of}
use Rattle.tree_counting.specs.Seen.{Seen, zeroth}
use Rattle.tree_counting.specs.Turning.{Turns}
use Rattle.tree_counting.proofs.Paths.{seen-valid, seen-within, climb}

bit-fits : (k a b : ℕ) → k < 96 → a ≡ kind_of k → b ≡ bit_of k → (b < 64) × ((a ≡ 1 → ⊥) → b < 32)
bit-fits k a b h x y = go (dec_lt k 64)
  where
    go : Dec (k < 64) → (b < 64) × ((a ≡ 1 → ⊥) → b < 32)
    go (yes l) =
        let x1 : a ≡ 1 = rw (lt-ltb k 64 l) at x in
        let y1 : b ≡ k = rw (lt-ltb k 64 l) at y in
        (omega arith, λ f. absurd (f x1))
    go (no l) =
        let y1 : b ≡ k - 64 = rw (le-ltb k 64 (omega arith)) at y in
        (omega arith, λ f. omega arith)

module _ (first : ℕ) (at : ℕ → Pattern) (n : ℕ) (sound : (j : ℕ) → j < n → ValidPattern (at j)) (clear : clash_of at n ≡ None) where
  -- what a test is, and what a leaf says
  pub record TestAt (p : Pattern) (a b : ℕ) : Type 0 where
    pub at-bit : ℕ
    pub low : Lowest at n p at-bit
    pub kind : a ≡ kind_of at-bit
    pub bit : b ≡ bit_of at-bit

  test-inside : (p : Pattern) (nd : Node) → Decides first at n p nd → (a b : ℕ) → nd ≡ Test a b → TestAt p a b
  test-inside p _ (empty f) a b e = cc
  test-inside p _ (names t r) a b e = cc
  test-inside p _ (tests k low) a b e =
      let x : a ≡ kind_of k = cc in
      let y : b ≡ bit_of k = cc in
      record { at-bit = k; low = low; kind = x; bit = y }

  pub test_at : (p : Pattern) → ValidPattern p → (a b : ℕ) → node_of first at n p ≡ Test a b → TestAt p a b
  test_at p valid a b e = test-inside p (node_of first at n p) (decides at n sound p valid clear first) a b e

  leaf-inside : (p : Pattern) (nd : Node) → Decides first at n p nd → (v : ℕ) → nd ≡ Leaf v → first + n ≤ 512 → v < 65536
  leaf-inside p _ (empty f) v e low = let z : v ≡ no_place = cc in omega arith
  leaf-inside p _ (names t r) v e low = let z : v ≡ first + t = cc in omega (arith, r.within)
  leaf-inside p _ (tests k r) v e low = cc

  -- a leaf's place fits two bytes
  pub leaf-small : (p : Pattern) → ValidPattern p → first + n ≤ 512 → (v : ℕ) → node_of first at n p ≡ Leaf v → v < 65536
  leaf-small p valid low v e = leaf-inside p (node_of first at n p) (decides at n sound p valid clear first) v e low

  -- a test's bit is one of its kind
  pub test_fits : (p : Pattern) → ValidPattern p → (a b : ℕ) → node_of first at n p ≡ Test a b → (b < 64) × ((a ≡ 1 → ⊥) → b < 32)
  test_fits p valid a b e = let t = test_at p valid a b e in bit-fits t.at-bit a b t.low.small t.kind t.bit

  module _ (p : Pattern) (m : ℕ) (seen : Seen first at n p m) where
    pub seen-zero : (a b : ℕ) → node_of first at n p ≡ Test a b → (r : Pattern) → r ≡ side p a b 0 → Seen first at n r (m + 1)
    seen-zero a b e r is =
        let t = test_at p (seen-valid first at n sound seen) a b e in
        let z : r ≡ longer p t.at-bit 0 =
        is ∙ (ap (λ y. side p y b 0) t.kind ∙ ap (λ y. side p (kind_of t.at-bit) y 0) t.bit) in
        rw (z, add-one m) (zeroth t.at-bit t.low seen)

    -- a leaf is its whole tree
    leaf-size : (v : ℕ) → node_of first at n p ≡ Leaf v → m + size_of (tree_at first at n p) ≡ m + 1
    unfolding size_of
    leaf-size v e = rw (leaf-grows first at n p v e)

    pub seen-side : (v : ℕ) → node_of first at n p ≡ Leaf v → (q : Pattern) (r : Option Pattern) → Turns p r → r ≡ Some q → Seen first at n q (m + 1)
    seen-side v e q r t is = rw (leaf-size v e) at (climb first at n sound seen (Some q) (subst (Turns p) is t))

    pub seen-whole : (v most : ℕ) → node_of first at n p ≡ Leaf v → (r : Option Pattern) → Turns p r → r ≡ None → m < most
        → Some (m + 1) ≡ counted_of most (size_of (tree_of first at n))
    seen-whole v most e r t is h =
        let z : m + 1 ≡ size_of (tree_of first at n) = rw (leaf-size v e) at (climb first at n sound seen None (subst (Turns p) is t)) in
        rw (← z, le-leb (m + 1) most (omega arith))

    -- a node is still to be looked at
    pub seen_more : m < size_of (tree_of first at n)
    seen_more = omega (arith, seen-within first at n sound seen, size-some (tree_at first at n p))

    pub seen-too-many : (most : ℕ) → most ≤ m → None ≡ counted_of most (size_of (tree_of first at n))
    seen-too-many most h = rw (lt-leb (size_of (tree_of first at n)) most (omega (arith, seen_more)))
