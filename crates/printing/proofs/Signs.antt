-- The sign of a value.
use Prim.Native.Nat.{ℕ}
use mathlib.Core.Bool.{true, false}
use mathlib.Core.List.{◌∷◌, ◌++◌}
use mathlib.Core.Path.{◌≡◌, refl}
use native.Mathlib.Omega.{arith}
use borrow.Author.Tests.{ltb-true}
use lib.IntN.{ℤ, pos, negsuc, nat_abs}
use lib.Signed.{lt_z}
use Rattle.printing.specs.Numerals.{digits_of, sign_text, prefix_text, number_text}

pub number-below : (base : ℕ) (z : ℤ) → lt_z z (pos 0) ≡ true → number_text base z ≡ 45 ∷ (prefix_text base ++ digits_of base (nat_abs z))
unfolding number_text sign_text
number-below base (pos n) e = let h = ltb-true n 0 e in absurd (omega arith)
number-below base (negsuc n) e = refl

pub number-unsigned : (base : ℕ) (z : ℤ) → lt_z z (pos 0) ≡ false → number_text base z ≡ prefix_text base ++ digits_of base (nat_abs z)
unfolding number_text sign_text
number-unsigned base (pos n) e = refl
number-unsigned base (negsuc n) e = let x : ◌≡◌ {A = ℕ} 0 1 = cc in absurd (omega arith)
