-- Single bits: a bit is 0 or 1, the machine's operations bit by bit, and numbers with the same bits.
use Prim.Native.Nat.{ℕ, zero, suc, ◌+◌, ◌-◌, ◌*◌, ◌/◌, ◌%◌, ◌^◌, ◌<◌, ◌≤◌, min, max}
use mathlib.Core.Path.{◌≡◌, refl, sym, ap, ◌∙◌}
use native.Mathlib.Nat.{div-lt_iff_lt-mul, mod-eq_of_lt, mul_comm}
use native.Mathlib.Numerals.{one-add}
use native.Mathlib.Omega.{arith}
use lib.Bits.{bit_and, bit_or, bit_xor, differ, and_shr, or_shr, xor_shr, and_step, or_step, xor_step}
use lib.Pow.{pow_pos, shr_lt, shr-shr, high, low, field, mod-mod-pow}
use Rattle.bits.specs.Bits.{bit}

pub bit-small : (x k : ℕ) → bit x k < 2
bit-small x k = omega arith

-- what holds of 0 and of 1 holds of a bit
pub either : (P : ℕ → Type 0) → P 0 → P 1 → (x : ℕ) → x < 2 → P x
either P p q zero h = p
either P p q (suc zero) h = q
either P p q (suc (suc x)) h = absurd (omega arith)

pub bit-and : (a b k : ℕ) → bit (bit_and a b) k ≡ min (bit a k) (bit b k)
bit-and a b k = rw (and_shr a b k, and_step (a / 2 ^ k) (b / 2 ^ k)) (omega arith)

pub bit-or : (a b k : ℕ) → bit (bit_or a b) k ≡ max (bit a k) (bit b k)
bit-or a b k = rw (or_shr a b k, or_step (a / 2 ^ k) (b / 2 ^ k)) (omega arith)

differ-small : (x y : ℕ) → x < 2 → y < 2 → differ x y < 2
differ-small x y p q = either (λ x. differ x y < 2) (either (λ y. differ 0 y < 2) (omega arith) (omega arith) y q) (either (λ y. differ 1 y < 2) (omega arith) (omega arith) y q) x p

pub bit-xor : (a b k : ℕ) → bit (bit_xor a b) k ≡ differ (bit a k) (bit b k)
bit-xor a b k =
    rw (xor_shr a b k, xor_step (a / 2 ^ k) (b / 2 ^ k))
    (let h = differ-small (bit a k) (bit b k) (bit-small a k) (bit-small b k) in omega arith)

-- a number with no bit is 0
pub no_bits : (n x : ℕ) → x < 2 ^ n → ((k : ℕ) → k < n → bit x k ≡ 0) → x ≡ 0
no_bits zero x h f = omega arith
no_bits (suc n) x h f =
    let q : x / 2 ^ n < 2 ^ 1 = shr_lt 1 n (rw one-add h) in
    let z : x / 2 ^ n ≡ 0 = omega (arith, f n (omega arith)) in
    let l : x / 2 ^ n < 1 = omega arith in
    let m : x < 1 * 2 ^ n = (div-lt_iff_lt-mul (pow_pos n)).0 l in
    no_bits n x (omega arith) (λ k p. f k (omega arith))

-- a number put together from a low part of m bits and a high part: each bit is one of the two parts'
turned : (m a b : ℕ) → a + 2 ^ m * b ≡ b * 2 ^ m + a
turned m a b = omega (arith, mul_comm (2 ^ m) b)

-- a bit below m is one of the lowest m
cut : (m k x : ℕ) → k < m → bit x k ≡ x % 2 ^ m % 2 ^ (1 + k) / 2 ^ k
cut m k x l =
    let s : m - (1 + k) + (1 + k) ≡ m = omega arith in
    sym (ap (λ n. x % 2 ^ n % 2 ^ (1 + k) / 2 ^ k) (sym s) ∙ rw (mod-mod-pow x (m - (1 + k)) (1 + k)) (field x 1 k))

pub low_bit : (m a b k : ℕ) → a < 2 ^ m → k < m → bit (a + 2 ^ m * b) k ≡ bit a k
low_bit m a b k h l =
    cut m k (a + 2 ^ m * b) l ∙ (rw (turned m a b, low b m h, mod-eq_of_lt h) refl ∙ sym (cut m k a l))

pub high_bit : (m a b k : ℕ) → a < 2 ^ m → m ≤ k → bit (a + 2 ^ m * b) k ≡ bit b (k - m)
high_bit m a b k h l =
    let s : m + (k - m) ≡ k = omega arith in
    ap (λ n. (a + 2 ^ m * b) / 2 ^ n % 2) (sym s)
    ∙ rw (← shr-shr (a + 2 ^ m * b) m (k - m), turned m a b, high b m h)
