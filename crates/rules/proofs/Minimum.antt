-- A mask's bits past a byte, by a shift.
use Prim.Native.Nat.{ℕ, ◌*◌, ◌/◌, ◌^◌, ◌<◌, ◌≤◌}
use mathlib.Core.Bool.{true}
use mathlib.Core.Path.{◌≡◌}
use native.Mathlib.Nat.{lt_of_lt_of_le, div-eq_of_lt, div-lt_iff_lt-mul}
use native.Mathlib.Omega.{arith}
use borrow.Author.Tests.{lt-ltb, ltb-true, eq-eqb, eqb-true}
use lib.Dec.{ltb, eqb}
use lib.Pow.{pow_mono, pow_pos}
use Rattle.lists.proofs.Bools.{same}

-- a mask of eight bytes has no bit past the eighth
pub none-past-eight : (mask minimum : ℕ) → mask < 2 ^ 64 → 8 ≤ minimum → ltb mask (2 ^ (8 * minimum)) ≡ true
none-past-eight mask minimum h p =
    lt-ltb mask (2 ^ (8 * minimum)) (lt_of_lt_of_le h (pow_mono {i = 64} {j = 8 * minimum} (omega arith)))

-- what a shift leaves is nothing exactly where no bit lies past it
pub none-past : (mask k : ℕ) → eqb (mask / 2 ^ k) 0 ≡ ltb mask (2 ^ k)
none-past mask k =
    same (eqb (mask / 2 ^ k) 0) (ltb mask (2 ^ k))
    (λ e.
    let z : mask / 2 ^ k ≡ 0 = eqb-true (mask / 2 ^ k) 0 e in
    let h : mask / 2 ^ k < 1 = omega arith in
    let m : mask < 1 * 2 ^ k = (div-lt_iff_lt-mul (pow_pos k)).0 h in
    lt-ltb mask (2 ^ k) (omega arith))
    (λ e. eq-eqb (mask / 2 ^ k) 0 (div-eq_of_lt (ltb-true mask (2 ^ k) e)))
