-- How a tree grows from the rule's nodes: each test uses up one of the 96 bits, so that the depth suffices.
use Prim.Native.Nat.{ℕ, zero, suc, ◌+◌, ◌-◌, ◌<◌, ◌≤◌}
use mathlib.Core.Bool.{Bool, true, false, cond}
use mathlib.Core.Path.{◌≡◌, refl, ◌∙◌}
use native.Mathlib.Decide.{dec_lt}
use native.Mathlib.Omega.{arith}
use lib.Dec.{lit<}
use Rattle.std.specs.Prelude.{None}
use Rattle.format.specs.declared.Pattern.{Pattern}
use Rattle.choosing_spec.specs.Clashing.{clash_of}
use Rattle.choosing_spec.specs.ValidPattern.{ValidPattern}
use Rattle.tree_spec.specs.Form.{start, side}
use Rattle.tree_theorems.proofs.Sides.{sound-start}
use Rattle.tree_building_spec.specs.Rule.{masks, kind_of, bit_of, node_of}
use Rattle.tree_building_spec.specs.Tree.{leaf, test, grown, tree_from, tree_of}
use Rattle.tree_building_spec.specs.declared.Node.{Node}
use Rattle.tree_building_spec.specs.declared.Node.TheVariants.{Leaf, Test}
use Rattle.tree_building_theorems.specs.Numbered.{longer}
use Rattle.tree_building_theorems.specs.Decides.{Lowest, Decides, empty, names, tests}
use Rattle.tree_building_theorems.specs.Growth.{tests_below, tree_at}
use Rattle.tree_building_theorems.proofs.Numbered.{start-masks, longer-valid, longer-own, longer-other}
use Rattle.tree_building_theorems.proofs.Deciding.{wanted-is, decides}

-- a path has no more tests than there are bits
pub tests-le : (k : ℕ) (p : Pattern) → tests_below k p ≤ k
unfolding tests_below
tests-le zero p = omega arith
tests-le (suc k) p = go (masks p k) (tests-le k p)
  where
    go : (b : Bool) → tests_below k p ≤ k → cond b (suc (tests_below k p)) (tests_below k p) ≤ suc k
    go true h = omega arith
    go false h = omega arith

tests-none : (k : ℕ) → tests_below k start ≡ 0
unfolding tests_below
tests-none zero = refl
tests-none (suc k) = rw (start-masks k) (tests-none k)

-- paths that differ in bit k alone
module _ (p q : Pattern) (k : ℕ) (free : masks p k ≡ false) (own : masks q k ≡ true)
    (other : (j : ℕ) → j < 96 → (j ≡ k → ⊥) → masks q j ≡ masks p j) where
  tests-before : (n : ℕ) → n ≤ k → n ≤ 96 → tests_below n q ≡ tests_below n p
  unfolding tests_below
  tests-before zero h l = refl
  tests-before (suc n) h l = rw (other n (omega arith) (λ e. omega arith), tests-before n (omega arith) (omega arith))

  tests-more : (n : ℕ) → k < n → n ≤ 96 → tests_below n q ≡ suc (tests_below n p)
  unfolding tests_below
  tests-more zero h l = absurd (omega arith)
  tests-more (suc n) h l = go (dec_lt k n) (λ m. tests-more n m (omega arith))
    where
      step : (b : Bool) → cond b (suc (suc (tests_below n p))) (suc (tests_below n p)) ≡ suc (cond b (suc (tests_below n p)) (tests_below n p))
      step true = refl
      step false = refl

      go : Dec (k < n) → (k < n → tests_below n q ≡ suc (tests_below n p))
          → cond (masks q n) (suc (tests_below n q)) (tests_below n q) ≡ suc (cond (masks p n) (suc (tests_below n p)) (tests_below n p))
      go (yes m) f = rw (other n (omega arith) (λ e. omega arith), f m) (step (masks p n))
      go (no m) f =
          let e : n ≡ k = omega arith in
          rw (e, own, free, ← e, tests-before n (omega arith) (omega arith))

-- a test more on the path
pub longer-tests : (p : Pattern) (k x : ℕ) → k < 96 → x < 2 → masks p k ≡ false → ValidPattern p
    → tests_below 96 (longer p k x) ≡ suc (tests_below 96 p)
longer-tests p k x h l free valid =
    tests-more p (longer p k x) k free (longer-own p k x h l free valid).0 (λ j i d. (longer-other p k x h l free valid j i d).0) 96 h (omega arith)

module _ (first : ℕ) (at : ℕ → Pattern) (n : ℕ) where
  -- the tree at the end of the empty path is the whole
  pub tree-start : tree_at first at n start ≡ tree_of first at n
  unfolding tree_at tree_of
  tree-start = rw (tests-none 96)

  -- the tree at the end of a path, by the rule's node there
  tree-grows : (p : Pattern) → tree_at first at n p ≡ grown (node_of first at n p) (λ k b x. tree_from first at n (96 - tests_below 96 p) (side p k b x))
  unfolding tree_at tree_from
  tree-grows p =
      let e : 97 - tests_below 96 p ≡ suc (96 - tests_below 96 p) = omega (arith, tests-le 96 p) in
      rw e

  pub leaf-grows : (p : Pattern) (v : ℕ) → node_of first at n p ≡ Leaf v → tree_at first at n p ≡ leaf v
  leaf-grows p v e = tree-grows p ∙ rw e

  -- a longer path leaves one test fewer
  side-depth : (p : Pattern) (k x : ℕ) → ValidPattern p → k < 96 → masks p k ≡ false → x < 2
      → tree_at first at n (longer p k x) ≡ tree_from first at n (96 - tests_below 96 p) (longer p k x)
  unfolding tree_at
  side-depth p k x valid h free l =
      let e : 97 - tests_below 96 (longer p k x) ≡ 96 - tests_below 96 p = omega (arith, longer-tests p k x h l free valid) in
      rw e

  pub test-grows : (p : Pattern) (k : ℕ) → ValidPattern p → k < 96 → masks p k ≡ false → node_of first at n p ≡ Test (kind_of k) (bit_of k)
      → tree_at first at n p ≡ test (kind_of k) (bit_of k) (tree_at first at n (longer p k 0)) (tree_at first at n (longer p k 1))
  test-grows p k valid h free e = tree-grows p ∙ rw (e, ← side-depth p k 0 valid h free (lit< tt), ← side-depth p k 1 valid h free (lit< tt))

  -- with any depth that is enough the tree is the same
  module _ (sound : (j : ℕ) → j < n → ValidPattern (at j)) (clear : clash_of at n ≡ None) where
    pub deep-enough : (d e : ℕ) (p : Pattern) → ValidPattern p → 96 < tests_below 96 p + d → 96 < tests_below 96 p + e
        → tree_from first at n d p ≡ tree_from first at n e p
    unfolding tree_from
    deep-enough zero e p valid h l = absurd (omega (arith, tests-le 96 p))
    deep-enough (suc d) zero p valid h l = absurd (omega (arith, tests-le 96 p))
    deep-enough (suc d) (suc e) p valid h l =
        go (node_of first at n p) (decides at n sound p valid clear first)
        (λ k x r i free.
        let m = longer-tests p k x r.small i free valid in
        deep-enough d e (longer p k x) (longer-valid p k x r.small i free valid) (omega arith) (omega arith))
      where
        go : (nd : Node) → Decides first at n p nd
            → ((k x : ℕ) → Lowest at n p k → x < 2 → masks p k ≡ false → tree_from first at n d (longer p k x) ≡ tree_from first at n e (longer p k x))
            → grown nd (λ k b x. tree_from first at n d (side p k b x)) ≡ grown nd (λ k b x. tree_from first at n e (side p k b x))
        go _ (empty f) same = refl
        go _ (names t r) same = refl
        go _ (tests k r) same =
            let free = (wanted-is at n p k r.here).free in
            rw (same k 0 r (lit< tt) free, same k 1 r (lit< tt) free)

    -- so the depth of the whole tree suffices
    pub depth-suffices : (d : ℕ) → tree_from first at n (97 + d) start ≡ tree_of first at n
    unfolding tree_of
    depth-suffices d = deep-enough (97 + d) 97 start sound-start (omega arith) (omega arith)
