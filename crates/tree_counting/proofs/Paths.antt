-- The paths that the rule's tests lead to: their tests ascend, so that a finished path says which one comes next, and the nodes before
-- each are counted.
use Prim.Native.Nat.{ℕ, suc, ◌+◌, ◌<◌, ◌≤◌}
use mathlib.Core.Bool.{Bool, true, false, cond, false≢true}
use mathlib.Core.Path.{◌≡◌, refl, sym, ap, ◌∙◌}
use native.Mathlib.Decide.{dec_lt, ℕ_discrete}
use native.Mathlib.Omega.{arith}
use borrow.Author.Tests.{eq-eqb, ne_eqb, lt-ltb, le-ltb, ltb-true}
use lib.Dec.{eqb, ltb, lit<}
use Rattle.std.specs.Prelude.{Option, Some, None}
use Rattle.format.specs.declared.Pattern.{Pattern}
use Rattle.choosing_spec.specs.ValidPattern.{ValidPattern}
use Rattle.tree_theorems.proofs.Sides.{sound-start}
use Rattle.tree_building_spec.specs.Rule.{masks, kind_of, bit_of, live, wanted}
use Rattle.tree_building_spec.specs.Tree.{test, tree_of, size_of}
use Rattle.tree_building_theorems.specs.Numbered.{value_at, longer}
use Rattle.tree_building_theorems.specs.Decides.{Lowest}
use Rattle.tree_building_theorems.specs.Growth.{tree_at}
use Rattle.tree_building_theorems.proofs.Numbered.{same-pattern, value-free, start-masks, overlap-at, overlap-of, longer-valid, longer-own, longer-other}
use Rattle.tree_building_theorems.proofs.Deciding.{wanted-is, is-wanted, node-tests}
use Rattle.tree_building_theorems.proofs.Growth.{tree-start, test-grows}
use Rattle.tree_counting.specs.Turning.{LastZero, TurnedAt, Turns}
use Rattle.tree_counting.specs.Seen.{Seen, begin, zeroth, oneth}

module _ (at : ℕ → Pattern) (n : ℕ) (q : Pattern) (k : ℕ) (low : Lowest at n q k) (valid : ValidPattern q) where
  free : masks q k ≡ false
  free = (wanted-is at n q k low.here).free

  -- a side of the test
  module _ (x : ℕ) (l : x < 2) where
    pub side-valid : ValidPattern (longer q k x)
    side-valid = longer-valid q k x low.small l free valid

    own : (masks (longer q k x) k ≡ true) × (value_at (longer q k x) k ≡ x)
    own = longer-own q k x low.small l free valid

    other : (j : ℕ) → j < 96 → (j ≡ k → ⊥) → (masks (longer q k x) j ≡ masks q j) × (value_at (longer q k x) j ≡ value_at q j)
    other = longer-other q k x low.small l free valid

    unlike : (j : ℕ) → masks q j ≡ true → j ≡ k → ⊥
    unlike j m e = false≢true (sym free ∙ rw e at m)

    -- what is live behind it was live before
    live-before : (i : ℕ) → live at n (longer q k x) i ≡ true → live at n q i ≡ true
    unfolding live
    live-before i e =
        overlap-of q (at i)
        (λ j h m a.
        let o = other j h (unlike j m) in
        sym o.1 ∙ overlap-at (longer q k x) (at i) e j h (o.0 ∙ m) a)

    -- so a bit that is wanted behind it is higher, and was wanted before
    later : (j : ℕ) → j < 96 → wanted at n (longer q k x) j ≡ true → (wanted at n q j ≡ true) × (k < j)
    later j h e =
        let w = wanted-is at n (longer q k x) j e in
        let d : j ≡ k → ⊥ = λ z. false≢true (sym w.free ∙ rw z own.0) in
        let o : wanted at n q j ≡ true =
        is-wanted at n q j
        (record { free = sym (other j h d).0 ∙ w.free; by = w.by; within = w.within; lives = live-before w.by w.lives; masked = w.masked }) in
        let b : j < k → ⊥ = λ g. false≢true (sym (low.none j g) ∙ o) in
        (o, omega (arith, d, b))

  -- the tests of q ascend to k
  module _ (ascends : (j : ℕ) → j < 96 → masks q j ≡ true → j < k) where
    -- the zero side's last test is this one
    pub zero-whole : ((j : ℕ) → j < 96 → masks (longer q k 0) j ≡ true → value_at (longer q k 0) j ≡ 1) → ⊥
    zero-whole f =
        let o = own 0 (lit< tt) in
        let e = f k low.small o.0 in
        omega (arith, o.1, e)

    pub zero-turned : (z : ℕ) (r : Pattern) → LastZero (longer q k 0) z → TurnedAt (longer q k 0) z r → r ≡ longer q k 1
    zero-turned z r last turned =
        same-pattern r (longer q k 1) turned.valid (side-valid 1 (lit< tt))
        (λ j h. turned.tests j h ∙ (rw is (tests j h (ℕ_discrete j k) (dec_lt j k))))
        (λ j h. turned.values j h ∙ (rw is (values j h (ℕ_discrete j k) (dec_lt j k))))
      where
        is : z ≡ k
        is = go (dec_lt z k) (ℕ_discrete z k)
          where
            go : Dec (z < k) → Dec (z ≡ k) → z ≡ k
            go (yes h) d =
                let o = own 0 (lit< tt) in
                let e = last.behind k h low.small o.0 in
                absurd (omega (arith, o.1, e))
            go (no h) (yes d) = d
            go (no h) (no d) =
                let m = ascends z last.small (sym (other 0 (lit< tt) z last.small d).0 ∙ last.tested) in
                absurd (omega arith)

        none : (j : ℕ) → j < 96 → k ≤ j → masks q j ≡ false
        none j h g = go (masks q j) refl
          where
            go : (b : Bool) → masks q j ≡ b → b ≡ false
            go false e = refl
            go true e = let m = ascends j h e in absurd (omega arith)

        tests : (j : ℕ) → j < 96 → Dec (j ≡ k) → Dec (j < k)
            → cond (eqb j k) true (cond (ltb j k) (masks (longer q k 0) j) false) ≡ masks (longer q k 1) j
        tests j h (yes e) d = rw (eq-eqb j k e, e) (sym (own 1 (lit< tt)).0)
        tests j h (no e) (yes d) = rw (ne_eqb j k e, lt-ltb j k d) ((other 0 (lit< tt) j h e).0 ∙ sym (other 1 (lit< tt) j h e).0)
        tests j h (no e) (no d) = rw (ne_eqb j k e, le-ltb j k (omega arith)) (sym ((other 1 (lit< tt) j h e).0 ∙ none j h (omega arith)))

        values : (j : ℕ) → j < 96 → Dec (j ≡ k) → Dec (j < k)
            → cond (eqb j k) 1 (cond (ltb j k) (value_at (longer q k 0) j) 0) ≡ value_at (longer q k 1) j
        values j h (yes e) d = rw (eq-eqb j k e, e) (sym (own 1 (lit< tt)).1)
        values j h (no e) (yes d) = rw (ne_eqb j k e, lt-ltb j k d) ((other 0 (lit< tt) j h e).1 ∙ sym (other 1 (lit< tt) j h e).1)
        values j h (no e) (no d) =
            rw (ne_eqb j k e, le-ltb j k (omega arith)) (sym ((other 1 (lit< tt) j h e).1 ∙ value-free q valid j (none j h (omega arith))))

    -- what comes behind the one side comes behind q
    pub one-turns : (r : Option Pattern) → Turns (longer q k 1) r → Turns q r
    one-turns None f = λ j h m.
        let o = other 1 (lit< tt) j h (unlike 1 (lit< tt) j m) in
        sym o.1 ∙ f j h (o.0 ∙ m)
    one-turns (Some r) (z, last, turned) =
        let d : z ≡ k → ⊥ = λ e. absurd (differs e) in
        let o = other 1 (lit< tt) z last.small d in
        let m : masks q z ≡ true = sym o.0 ∙ last.tested in
        let below : z < k = ascends z last.small m in (
          z,
          record {
            small = last.small;
            tested = m;
            zero = sym o.1 ∙ last.zero;
            behind = λ j g h w. let a = other 1 (lit< tt) j h (unlike 1 (lit< tt) j w) in sym a.1 ∙ last.behind j g h (a.0 ∙ w);
          },
          record {
            valid = turned.valid;
            tests = λ j h. turned.tests j h ∙ tests below j h (ltb j z) refl;
            values = λ j h. turned.values j h ∙ values below j h (ltb j z) refl;
          },
        )
      where
        differs : z ≡ k → ⊥
        differs e =
            let a : value_at (longer q k 1) k ≡ 1 = (own 1 (lit< tt)).1 in
            let b : value_at (longer q k 1) k ≡ 0 = rw e at last.zero in
            omega arith

        tests : z < k → (j : ℕ) → j < 96 → (b : Bool) → ltb j z ≡ b
            → cond (eqb j z) true (cond b (masks (longer q k 1) j) false) ≡ cond (eqb j z) true (cond b (masks q j) false)
        tests l j h false e = refl
        tests l j h true e = ap (λ t. cond (eqb j z) true t) (other 1 (lit< tt) j h (λ i. omega (arith, ltb-true j z e))).0

        values : z < k → (j : ℕ) → j < 96 → (b : Bool) → ltb j z ≡ b
            → cond (eqb j z) 1 (cond b (value_at (longer q k 1) j) 0) ≡ cond (eqb j z) 1 (cond b (value_at q j) 0)
        values l j h false e = refl
        values l j h true e = ap (λ t. cond (eqb j z) 1 t) (other 1 (lit< tt) j h (λ i. omega (arith, ltb-true j z e))).1

module _ (first : ℕ) (at : ℕ → Pattern) (n : ℕ) (sound : (j : ℕ) → j < n → ValidPattern (at j)) where
  pub seen-valid : {p : Pattern} {m : ℕ} → Seen first at n p m → ValidPattern p
  seen-valid begin = sound-start
  seen-valid (zeroth {q} k low s) = side-valid at n q k low (seen-valid s) 0 (lit< tt)
  seen-valid (oneth {q} k low s) = side-valid at n q k low (seen-valid s) 1 (lit< tt)

  -- the tests on a path ascend, and what is wanted at its end is higher
  side-ascends : (q : Pattern) (i x : ℕ) → Lowest at n q i → ValidPattern q → x < 2
      → ((j k : ℕ) → j < 96 → k < 96 → masks q j ≡ true → wanted at n q k ≡ true → j < k)
      → (j k : ℕ) → j < 96 → k < 96 → masks (longer q i x) j ≡ true → wanted at n (longer q i x) k ≡ true → j < k
  side-ascends q i x low valid l f j k h g m w =
      let r = later at n q i low valid x l k g w in
      go r (ℕ_discrete j i)
    where
      go : (wanted at n q k ≡ true) × (i < k) → Dec (j ≡ i) → j < k
      go r (yes e) = omega (arith, r.1)
      go r (no d) = f j k h g (sym (other at n q i low valid x l j h d).0 ∙ m) r.0

  pub ascending : {p : Pattern} {m : ℕ} → Seen first at n p m
      → (j k : ℕ) → j < 96 → k < 96 → masks p j ≡ true → wanted at n p k ≡ true → j < k
  ascending begin = λ j k h g m w. absurd (false≢true (sym (start-masks j) ∙ m))
  ascending (zeroth {q} i low s) = side-ascends q i 0 low (seen-valid s) (lit< tt) (ascending s)
  ascending (oneth {q} i low s) = side-ascends q i 1 low (seen-valid s) (lit< tt) (ascending s)

  -- .. to the test at its end
  pub ascends-to : {p : Pattern} {m : ℕ} → Seen first at n p m → (k : ℕ) → Lowest at n p k → (j : ℕ) → j < 96 → masks p j ≡ true → j < k
  ascends-to s k low j h m = ascending s j k h low.small m low.here

  -- a test has its two sides behind it
  pub test-tree : (q : Pattern) (k : ℕ) → Lowest at n q k → ValidPattern q
      → tree_at first at n q ≡ test (kind_of k) (bit_of k) (tree_at first at n (longer q k 0)) (tree_at first at n (longer q k 1))
  test-tree q k low valid =
      test-grows first at n q k valid low.small (wanted-is at n q k low.here).free (node-tests at n sound q valid first k low)

  pub test-size : (q : Pattern) (k : ℕ) → Lowest at n q k → ValidPattern q
      → size_of (tree_at first at n q) ≡ suc (size_of (tree_at first at n (longer q k 0)) + size_of (tree_at first at n (longer q k 1)))
  unfolding size_of
  test-size q k low valid = ap size_of (test-tree q k low valid)

  -- the nodes before a path's end, and those of its tree, are nodes of the whole
  pub seen-within : {p : Pattern} {m : ℕ} → Seen first at n p m → m + size_of (tree_at first at n p) ≤ size_of (tree_of first at n)
  seen-within begin = rw (tree-start first at n) (omega arith)
  seen-within (zeroth {q} k low s) = omega (arith, seen-within s, test-size q k low (seen-valid s))
  seen-within (oneth {q} k low s) = omega (arith, seen-within s, test-size q k low (seen-valid s))

  -- behind a finished path the whole tree is finished, or the next path follows
  abbrev pub Climbed : ℕ → Option Pattern → Type 0
  Climbed e None = e ≡ size_of (tree_of first at n)
  Climbed e (Some q) = Seen first at n q e

  pub climb : {p : Pattern} {m : ℕ} → Seen first at n p m → (r : Option Pattern) → Turns p r → Climbed (m + size_of (tree_at first at n p)) r
  climb begin None f = rw (tree-start first at n) (omega arith)
  climb begin (Some q) (z, last, turned) = absurd (false≢true (sym (start-masks z) ∙ last.tested))
  climb (zeroth {q} k low s) None f = absurd (zero-whole at n q k low (seen-valid s) (ascends-to s k low) f)
  climb (zeroth {q} k low s) (Some r) (z, last, turned) =
      rw (zero-turned at n q k low (seen-valid s) (ascends-to s k low) z r last turned) (oneth k low s)
  climb (oneth {q} {m} k low s) r f =
      let size = test-size q k low (seen-valid s) in
      let e : suc m + size_of (tree_at first at n (longer q k 0)) + size_of (tree_at first at n (longer q k 1)) ≡ m + size_of (tree_at first at n q) = omega arith in
      rw e (climb s r (one-turns at n q k low (seen-valid s) (ascends-to s k low) r f))
