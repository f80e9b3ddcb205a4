-- The lowest set bit of a word, by its trailing zeros.
use Prim.Native.Nat.{ℕ, zero, suc, ◌+◌, ◌/◌, ◌%◌, ◌^◌, ◌<◌}
use mathlib.Core.Bool.{true, false}
use mathlib.Core.Path.{◌≡◌, refl, ◌∙◌}
use native.Mathlib.Numerals.{one-add}
use native.Mathlib.Omega.{arith}
use lib.Count.{count_trailing_zeros, under}
use lib.Pow.{shr-shr, shr_lt}
use Rattle.bits.specs.Bits.{is_set}

-- bit t is the lowest one that is set
pub record LowestSet (w x t : ℕ) : Type 0 where
  pub small : t < w
  pub here : is_set x t ≡ true
  pub none : (j : ℕ) → j < t → is_set x j ≡ false

-- a bit of a number is the next lower one of its half
half-bit : (x j : ℕ) → is_set x (suc j) ≡ is_set (x / 2) j
half-bit x j = rw (← one-add j, ← shr-shr x 1 j)

pub lowest_set : (w x : ℕ) → 0 < x → x < 2 ^ w → LowestSet w x (count_trailing_zeros w x)
unfolding count_trailing_zeros
lowest_set zero x p h = absurd (omega arith)
lowest_set (suc w) x p h =
    go (x % 2) refl (λ q. lowest_set w (x / 2) q (shr_lt w 1 (rw (one_more w) h)))
  where
    one_more : (w : ℕ) → w + 1 ≡ suc w
    one_more w = omega arith

    go : (r : ℕ) → x % 2 ≡ r → (0 < x / 2 → LowestSet w (x / 2) (count_trailing_zeros w (x / 2)))
        → LowestSet (suc w) x (under r (count_trailing_zeros w (x / 2)))
    go zero e f =
        let s = f (omega arith) in
        record {
          small = omega (arith, s.small);
          here = half-bit x (count_trailing_zeros w (x / 2)) ∙ s.here;
          none = λ j i. below s j i;
        }
      where
        below : LowestSet w (x / 2) (count_trailing_zeros w (x / 2)) → (j : ℕ) → j < suc (count_trailing_zeros w (x / 2)) → is_set x j ≡ false
        below s zero i = let d : x / 1 ≡ x = omega arith in rw (d, e)
        below s (suc j) i = half-bit x j ∙ s.none j (omega arith)
    go (suc zero) e f =
        let d : x / 1 ≡ x = omega arith in
        record { small = omega arith; here = rw (d, e); none = λ j i. absurd (omega arith) }
    go (suc (suc r)) e f = absurd (omega arith)
