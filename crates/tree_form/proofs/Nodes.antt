-- What a sound node says.
use Prim.Native.Nat.{ℕ, ◌+◌, ◌<◌, ◌≤◌}
use mathlib.Core.Bool.{Bool, true, false, ◌&&◌, ◌||◌, not}
use mathlib.Core.List.{List}
use mathlib.Core.Logic.{◌⊎◌, inl, inr, ⊎_elim}
use mathlib.Core.Path.{◌≡◌, refl}
use native.Mathlib.Omega.{arith}
use borrow.Author.Tests.{eq-eqb, ne_eqb, eqb-true, leb-true, ltb-true, not-true}
use lib.Dec.{eqb, leb, ltb}
use Rattle.lists.proofs.Bools.{and_left, and_right, and3, or_no}
use Rattle.bits.specs.Bits.{is_set}
use Rattle.format.specs.declared.Pattern.{Pattern}
use Rattle.tree_spec.specs.Nodes.{no_place, kind_at, bit_at, place_at}
use Rattle.tree_spec.specs.Form.{leaf_ok, test_ok, node_ok}

module _ (p : Pattern) (b : List ℕ) (i : ℕ) where
  -- a test, by its kind
  pub test-byte : kind_at b i ≡ 1 → test_ok p b i ≡ (ltb (bit_at b i) 64 && not (is_set p.mask (bit_at b i)))
  unfolding test_ok
  test-byte e = rw e (or_no _)

  pub test-context : kind_at b i ≡ 2 → test_ok p b i ≡ (ltb (bit_at b i) 32 && not (is_set p.contextmask (bit_at b i)))
  unfolding test_ok
  test-context e = rw e

  pub test-none : (kind_at b i ≡ 1 → ⊥) → (kind_at b i ≡ 2 → ⊥) → test_ok p b i ≡ false
  unfolding test_ok
  test-none f g = rw (ne_eqb (kind_at b i) 1 f, ne_eqb (kind_at b i) 2 g)

either : (s t : Bool) → s || t ≡ true → (s ≡ true) ⊎ (t ≡ true)
either true t e = inl refl
either false t e = inr e

module _ (first n : ℕ) (p : Pattern) (b : List ℕ) (i : ℕ) (good : node_ok first n p b i ≡ true) where
  leaf-ok : kind_at b i ≡ 0 → leaf_ok first n b i ≡ true
  unfolding node_ok
  leaf-ok e = rw (eq-eqb (kind_at b i) 0 e) at good

  test-ok : (kind_at b i ≡ 0 → ⊥) → test_ok p b i ≡ true
  unfolding node_ok
  test-ok f = rw (ne_eqb (kind_at b i) 0 f) at good

  -- a leaf says no constructor, or one of the table's
  pub leaf-place : kind_at b i ≡ 0 → (place_at b i ≡ no_place) ⊎ ((first ≤ place_at b i) × (place_at b i < first + n))
  unfolding leaf_ok
  leaf-place e =
      ⊎_elim
      (λ (h : (leb first (place_at b i) && ltb (place_at b i) (first + n)) ≡ true).
      inr (leb-true _ _ (and_left (leb first (place_at b i)) (ltb (place_at b i) (first + n)) h), ltb-true _ _ (and_right (leb first (place_at b i)) (ltb (place_at b i) (first + n)) h)))
      (λ (h : eqb (place_at b i) no_place ≡ true). inl (eqb-true _ _ h))
      (either (leb first (place_at b i) && ltb (place_at b i) (first + n)) (eqb (place_at b i) no_place)
      (and_right (eqb (bit_at b i) 0) ((leb first (place_at b i) && ltb (place_at b i) (first + n)) || eqb (place_at b i) no_place) (leaf-ok e)))

  -- a test is of a bit that the path has not tested
  pub test_bit : (kind_at b i ≡ 0 → ⊥)
      → ((kind_at b i ≡ 1) × (bit_at b i < 64) × (is_set p.mask (bit_at b i) ≡ false))
      ⊎ ((kind_at b i ≡ 2) × (bit_at b i < 32) × (is_set p.contextmask (bit_at b i) ≡ false))
  unfolding test_ok
  test_bit f =
      ⊎_elim
      (λ (h : (eqb (kind_at b i) 1 && ltb (bit_at b i) 64 && not (is_set p.mask (bit_at b i))) ≡ true).
      let t = and3 (eqb (kind_at b i) 1) (ltb (bit_at b i) 64) (not (is_set p.mask (bit_at b i))) h in
      inl (eqb-true _ _ t.0, ltb-true _ _ t.1, not-true (is_set p.mask (bit_at b i)) t.2))
      (λ (h : (eqb (kind_at b i) 2 && ltb (bit_at b i) 32 && not (is_set p.contextmask (bit_at b i))) ≡ true).
      let t = and3 (eqb (kind_at b i) 2) (ltb (bit_at b i) 32) (not (is_set p.contextmask (bit_at b i))) h in
      inr (eqb-true _ _ t.0, ltb-true _ _ t.1, not-true (is_set p.contextmask (bit_at b i)) t.2))
      (either (eqb (kind_at b i) 1 && ltb (bit_at b i) 64 && not (is_set p.mask (bit_at b i)))
      (eqb (kind_at b i) 2 && ltb (bit_at b i) 32 && not (is_set p.contextmask (bit_at b i))) (test-ok f))

  -- so its bit is one of the path's words'
  pub bit-fits : (kind_at b i ≡ 0 → ⊥) → (bit_at b i < 64) × ((kind_at b i ≡ 1 → ⊥) → bit_at b i < 32)
  bit-fits f =
      ⊎_elim
      (λ (h : (kind_at b i ≡ 1) × (bit_at b i < 64) × (is_set p.mask (bit_at b i) ≡ false)). (h.1, λ g. absurd (g h.0)))
      (λ (h : (kind_at b i ≡ 2) × (bit_at b i < 32) × (is_set p.contextmask (bit_at b i) ≡ false)). (omega (arith, h.1), λ g. h.1))
      (test_bit f)
