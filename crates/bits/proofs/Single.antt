-- Numbers with one bit, and a number with one bit more.
use Prim.Native.Nat.{ℕ, ◌+◌, ◌-◌, ◌*◌, ◌^◌, ◌<◌, ◌≤◌}
use mathlib.Core.Bool.{cond, ◌||◌}
use mathlib.Core.Path.{◌≡◌, sym, ap, ◌∙◌}
use native.Mathlib.Decide.{dec_lt, ℕ_discrete}
use native.Mathlib.Nat.{zero-div, div-eq_of_lt, mul_comm, one-mul}
use native.Mathlib.Omega.{arith}
use borrow.Author.Tests.{eq-eqb, ne_eqb}
use lib.Bits.{bit_or}
use lib.Dec.{eqb, lit<}
use lib.Pow.{pow_pos, pow_mono}
use Rattle.lists.proofs.Bools.{or_yes, or_no}
use Rattle.bits.specs.Bits.{bit, is_set}
use Rattle.bits.proofs.Digits.{bit-small, bit-or, low_bit, high_bit}

-- a number with one bit at most, at k
pub shifted-bit : (x k j : ℕ) → x < 2 → (j ≡ k → ⊥) → bit (x * 2 ^ k) j ≡ 0
shifted-bit x k j h d = go (dec_lt j k)
  where
    turn : x * 2 ^ k ≡ 0 + 2 ^ k * x
    turn = omega (arith, mul_comm x (2 ^ k))

    go : Dec (j < k) → bit (x * 2 ^ k) j ≡ 0
    go (yes l) = rw turn (low_bit k 0 x j (pow_pos k) l ∙ rw (zero-div (2 ^ j)))
    go (no l) =
        let m : 2 ^ 1 ≤ 2 ^ (j - k) = pow_mono {i = 1} {j = j - k} (omega arith) in
        let q : x < 2 ^ (j - k) = omega arith in
        rw turn (high_bit k 0 x j (pow_pos k) (omega arith) ∙ rw (div-eq_of_lt q))

pub own-bit : (x k : ℕ) → x < 2 → bit (x * 2 ^ k) k ≡ x
own-bit x k h =
    let turn : x * 2 ^ k ≡ 0 + 2 ^ k * x = omega (arith, mul_comm x (2 ^ k)) in
    let z : k - k ≡ 0 = omega arith in
    rw turn (high_bit k 0 x k (pow_pos k) (omega arith) ∙ rw z (omega arith))

-- the one bit of a power
pub power-own : (k : ℕ) → bit (2 ^ k) k ≡ 1
power-own k = ap (λ y. bit y k) (sym (one-mul (2 ^ k))) ∙ own-bit 1 k (lit< tt)

pub power-other : (k j : ℕ) → (j ≡ k → ⊥) → bit (2 ^ k) j ≡ 0
power-other k j d = ap (λ y. bit y j) (sym (one-mul (2 ^ k))) ∙ shifted-bit 1 k j (lit< tt) d

-- a mask and a value with bit k
pub set_more : (m k j : ℕ) → is_set (bit_or m (2 ^ k)) j ≡ (is_set m j || eqb j k)
set_more m k j = go (ℕ_discrete j k)
  where
    go : Dec (j ≡ k) → is_set (bit_or m (2 ^ k)) j ≡ (is_set m j || eqb j k)
    go (yes e) =
        let b : bit (2 ^ k) j ≡ 1 = rw e (power-own k) in
        let o : bit (bit_or m (2 ^ k)) j ≡ 1 = omega (arith, bit-or m (2 ^ k) j, bit-small m j) in
        rw (eq-eqb (bit (bit_or m (2 ^ k)) j) 1 o, eq-eqb j k e) (sym (or_yes (is_set m j)))
    go (no d) =
        let o : bit (bit_or m (2 ^ k)) j ≡ bit m j = omega (arith, bit-or m (2 ^ k) j, power-other k j d) in
        rw (o, ne_eqb j k d) (sym (or_no (is_set m j)))

pub bit-more : (v k x j : ℕ) → x < 2 → bit v k ≡ 0 → bit (bit_or v (x * 2 ^ k)) j ≡ cond (eqb j k) x (bit v j)
bit-more v k x j h z = go (ℕ_discrete j k)
  where
    go : Dec (j ≡ k) → bit (bit_or v (x * 2 ^ k)) j ≡ cond (eqb j k) x (bit v j)
    go (yes e) =
        let o : bit (bit_or v (x * 2 ^ k)) k ≡ x = omega (arith, bit-or v (x * 2 ^ k) k, own-bit x k h) in
        rw (eq-eqb j k e, e, o)
    go (no d) =
        let o : bit (bit_or v (x * 2 ^ k)) j ≡ bit v j = omega (arith, bit-or v (x * 2 ^ k) j, shifted-bit x k j h d) in
        rw (ne_eqb j k d, o)
