-- Scratch rows that differ in the values of computed operands alone are read alike.
use Prim.Native.Nat.{ℕ, zero, suc, ◌+◌, ◌-◌, ◌*◌, ◌<◌}
use mathlib.Core.Bool.{Bool, true, false, cond}
use mathlib.Core.List.{List}
use mathlib.Core.Path.{◌≡◌, refl, sym, ap, ◌∙◌}
use native.Mathlib.Omega.{arith}
use borrow.Author.Tests.{eqb-true}
use lib.Dec.{eqb}
use lib.IntN.{ℤ, pos, nat_abs}
use lib.ListN.{get_or, set}
use lib.Seq.{get_or-set_other}
use Rattle.format.specs.Description.{Description, no_field}
use Rattle.walk_steps.specs.Scratch.{scratch_numbers}
use Rattle.scratch_rows.specs.Places.{cell, kind_at, number_at, start_at, last_at, size_at}
use Rattle.instructions.specs.Settling.{owner_below, count_at, counts_from, counts_at, computed_at}

pub record Alike (a b : List ℤ) : Type 0 where
  pub kind : (r : ℕ) → kind_at b r ≡ kind_at a r
  pub number : (r : ℕ) → number_at b r ≡ number_at a r
  pub start : (r : ℕ) → start_at b r ≡ start_at a r
  pub size : (r : ℕ) → size_at b r ≡ size_at a r
  pub last : (r : ℕ) → (kind_at a r ≡ 3 → ⊥) → last_at b r ≡ last_at a r

pub alike_same : (a : List ℤ) → Alike a a
alike_same a = record { kind = λ r. refl; number = λ r. refl; start = λ r. refl; size = λ r. refl; last = λ r z. refl }

-- a computed operand's value is put in
pub alike_set : (a b : List ℤ) (r : ℕ) (v : ℤ) → Alike a b → kind_at b r ≡ 3 → Alike a (set b (scratch_numbers * r + 3) v)
unfolding kind_at number_at start_at size_at last_at
alike_set a b r v h k =
    record {
      kind = λ q. ap nat_abs (other q 0 (omega arith) (λ e. omega arith)) ∙ h.kind q;
      number = λ q. ap nat_abs (other q 1 (omega arith) (λ e. omega arith)) ∙ h.number q;
      start = λ q. ap nat_abs (other q 2 (omega arith) (λ e. omega arith)) ∙ h.start q;
      size = λ q. ap nat_abs (other q 4 (omega arith) (λ e. omega arith)) ∙ h.size q;
      last = λ q z.
          get_or-set_other b (scratch_numbers * r + 3) (scratch_numbers * q + 3) v (pos 0)
          (λ e. let s : q ≡ r = omega arith in z (sym (h.kind q) ∙ rw s k)) ∙ h.last q z;
    }
  where
    other : (q j : ℕ) → j < 5 → (j ≡ 3 → ⊥) → cell (set b (scratch_numbers * r + 3) v) q j ≡ cell b q j
    other q j l n = get_or-set_other b (scratch_numbers * r + 3) (scratch_numbers * q + j) v (pos 0) (λ e. n (omega arith))

module _ (a b : List ℤ) (h : Alike a b) where
  owner-alike : (r k : ℕ) → owner_below b r k ≡ owner_below a r k
  unfolding owner_below
  owner-alike r zero = refl
  owner-alike r (suc k) = rw (h.size k, owner-alike r k)

  module _ (d : Description) where
    count-alike : (r : ℕ) → count_at d b r ≡ count_at d a r
    unfolding count_at
    count-alike r = rw (h.kind r, h.number r) (go (eqb (kind_at a r) 1) (eqb (kind_at a r) 2) refl refl)
      where
        first : ℕ
        first = (get_or d.fields (number_at a r) no_field).first

        go : (t u : Bool) → eqb (kind_at a r) 1 ≡ t → eqb (kind_at a r) 2 ≡ u
            → cond t (last_at b r) (cond u (pos (nat_abs (last_at b r) - first)) (pos 0)) ≡ cond t (last_at a r) (cond u (pos (nat_abs (last_at a r) - first)) (pos 0))
        go true u p q = h.last r (λ z. let k : kind_at a r ≡ 1 = eqb-true (kind_at a r) 1 p in omega arith)
        go false true p q = rw (h.last r (λ z. let k : kind_at a r ≡ 2 = eqb-true (kind_at a r) 2 q in omega arith))
        go false false p q = refl

    counts-alike : (row end left : ℕ) → counts_from d b row end left ≡ counts_from d a row end left
    unfolding counts_from
    counts-alike row end zero = refl
    counts-alike row end (suc left) =
        rw (h.size row, count-alike row, counts-alike (row + size_at a row) end left, counts-alike row end left)

    pub computed-alike : (here after r : ℕ) → computed_at d here after b r ≡ computed_at d here after a r
    unfolding computed_at counts_at
    computed-alike here after r =
        rw (h.number r, owner-alike r r, h.size (owner_below a r r), counts-alike (owner_below a r r + 1) (owner_below a r r + size_at a (owner_below a r r)) 8)
