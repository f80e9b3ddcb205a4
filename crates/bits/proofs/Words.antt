-- Whole words: what one test of a word says of every bit.
use Prim.Native.Nat.{ℕ, zero, suc, ◌/◌, ◌%◌, ◌^◌, ◌<◌, min, max}
use mathlib.Core.Bool.{Bool, true, not, ◌&&◌, ◌||◌}
use mathlib.Core.Path.{◌≡◌, refl, sym, ◌∙◌}
use native.Mathlib.Nat.{zero-div, mod-lt, mod-eq_of_lt}
use native.Mathlib.Numerals.{one-add}
use native.Mathlib.Omega.{arith}
use borrow.Author.Tests.{eq-eqb, eqb-true}
use lib.Bits.{bit_and, bit_or, bit_xor, differ, and_lt, or_lt, xor_lt, and_le_l, and_le_r, xor_add_and}
use lib.Count.{ones, ones_cat, ones-ones}
use lib.Dec.{eqb}
use lib.Pow.{mod-pow-add, pow_pos}
use Rattle.lists.specs.Below.{all_below}
use Rattle.lists.proofs.Below.{all_of, all-at}
use Rattle.lists.proofs.Bools.{same}
use Rattle.bits.specs.Bits.{bit, is_set, ones_of}
use Rattle.bits.proofs.Digits.{bit-small, either, bit-and, bit-or, bit-xor, no_bits}

-- numbers with the same bits are equal
pub same_bits : (n a b : ℕ) → a < 2 ^ n → b < 2 ^ n → ((k : ℕ) → k < n → bit a k ≡ bit b k) → a ≡ b
same_bits n a b p q f =
    let z : bit_xor a b ≡ 0 = no_bits n (bit_xor a b) (xor_lt n a b p q) (λ k h. bit-xor a b k ∙ rw (f k h) (alike (bit b k) (bit-small b k))) in
    omega (arith, xor_add_and a b, and_le_l a b, and_le_r a b)
  where
    alike : (x : ℕ) → x < 2 → differ x x ≡ 0
    alike x h = either (λ x. differ x x ≡ 0) refl refl x h

-- a word is 0 exactly where every bit of it passes a test that says so
pub zero_test : (n x : ℕ) (f : ℕ → Bool) → x < 2 ^ n → ((k : ℕ) → k < n → eqb (bit x k) 0 ≡ f k) → eqb x 0 ≡ all_below n f
zero_test n x f h e =
    same (eqb x 0) (all_below n f)
    (λ z. all_of f n (λ k p. sym (e k p) ∙ rw (eqb-true x 0 z) (none k)))
    (λ a. eq-eqb x 0 (no_bits n x h (λ k p. eqb-true (bit x k) 0 (e k p ∙ all-at f n k a p))))
  where
    none : (k : ℕ) → eqb (bit 0 k) 0 ≡ true
    none k = rw (zero-div (2 ^ k))

-- wherever the mask has a bit, a and b have the same
abbrev Alike : ℕ → ℕ → ℕ → Type 0
Alike x y m = eqb (min (differ x y) m) 0 ≡ (not (eqb m 1) || eqb x y)

alike-bits : (x y m : ℕ) → x < 2 → y < 2 → m < 2 → Alike x y m
alike-bits x y m hx hy hm =
    either (λ x. Alike x y m)
    (either (λ y. Alike 0 y m) (either (Alike 0 0) refl refl m hm) (either (Alike 0 1) refl refl m hm) y hy)
    (either (λ y. Alike 1 y m) (either (Alike 1 0) refl refl m hm) (either (Alike 1 1) refl refl m hm) y hy) x hx

pub agrees-law : (n a b m : ℕ) → m < 2 ^ n
    → eqb (bit_and (bit_xor a b) m) 0 ≡ all_below n (λ k. not (is_set m k) || eqb (bit a k) (bit b k))
agrees-law n a b m h =
    zero_test n (bit_and (bit_xor a b) m) (λ k. not (is_set m k) || eqb (bit a k) (bit b k)) (omega (arith, and_le_r (bit_xor a b) m))
    (λ k l.
    rw (bit-and (bit_xor a b) m k, bit-xor a b k)
    (alike-bits (bit a k) (bit b k) (bit m k) (bit-small a k) (bit-small b k) (bit-small m k)))

-- wherever mask b has a bit, mask a has it too, and the values have the same
abbrev Within : ℕ → ℕ → ℕ → ℕ → Type 0
Within am av bm bv = eqb (min (max (differ am bm) (differ av bv)) bm) 0 ≡ (not (eqb bm 1) || (eqb am 1 && eqb av bv))

within-bits : (am av bm bv : ℕ) → am < 2 → av < 2 → bm < 2 → bv < 2 → Within am av bm bv
within-bits am av bm bv p q r s =
    either (λ am. Within am av bm bv) (value 0 (either (λ bm. (x y : ℕ) → x < 2 → y < 2 → Within 0 x bm y) (free 0) fixed bm r))
    (value 1 (either (λ bm. (x y : ℕ) → x < 2 → y < 2 → Within 1 x bm y) (free 1) held bm r)) am p
  where
    value : (m : ℕ) → ((x y : ℕ) → x < 2 → y < 2 → Within m x bm y) → Within m av bm bv
    value m f = f av bv q s

    free : (m x y : ℕ) → x < 2 → y < 2 → Within m x 0 y
    free m x y hx hy = eq-eqb (min (max (differ m 0) (differ x y)) 0) 0 (omega arith)

    fixed : (x y : ℕ) → x < 2 → y < 2 → Within 0 x 1 y
    fixed x y hx hy =
        either (λ x. Within 0 x 1 y) (either (Within 0 0 1) refl refl y hy) (either (Within 0 1 1) refl refl y hy) x hx

    held : (x y : ℕ) → x < 2 → y < 2 → Within 1 x 1 y
    held x y hx hy =
        either (λ x. Within 1 x 1 y) (either (Within 1 0 1) refl refl y hy) (either (Within 1 1 1) refl refl y hy) x hx

pub inside-law : (n am av bm bv : ℕ) → am < 2 ^ n → av < 2 ^ n → bm < 2 ^ n → bv < 2 ^ n
    → eqb (bit_and (bit_or (bit_xor am bm) (bit_xor av bv)) bm) 0
    ≡ all_below n (λ k. not (is_set bm k) || (is_set am k && eqb (bit av k) (bit bv k)))
inside-law n am av bm bv p q r s =
    zero_test n (bit_and (bit_or (bit_xor am bm) (bit_xor av bv)) bm) (λ k. not (is_set bm k) || (is_set am k && eqb (bit av k) (bit bv k)))
    (and_lt n (bit_or (bit_xor am bm) (bit_xor av bv)) bm (or_lt n (bit_xor am bm) (bit_xor av bv) (xor_lt n am bm p r) (xor_lt n av bv q s)) r)
    (λ k h.
    rw (bit-and (bit_or (bit_xor am bm) (bit_xor av bv)) bm k, bit-or (bit_xor am bm) (bit_xor av bv) k, bit-xor am bm k, bit-xor av bv k)
    (within-bits (bit am k) (bit av k) (bit bm k) (bit bv k) (bit-small am k) (bit-small av k) (bit-small bm k) (bit-small bv k)))

-- no bit stands in both
abbrev Apart : ℕ → ℕ → Type 0
Apart x y = eqb (min x y) 0 ≡ not (eqb x 1 && eqb y 1)

pub apart-law : (n a b : ℕ) → a < 2 ^ n → b < 2 ^ n → eqb (bit_and a b) 0 ≡ all_below n (λ k. not (is_set a k && is_set b k))
apart-law n a b p q =
    zero_test n (bit_and a b) (λ k. not (is_set a k && is_set b k)) (and_lt n a b p q)
    (λ k h.
    rw (bit-and a b k)
    (either (λ x. Apart x (bit b k)) (either (Apart 0) refl refl (bit b k) (bit-small b k))
    (either (Apart 1) refl refl (bit b k) (bit-small b k)) (bit a k) (bit-small a k)))

-- the language's count of ones counts the bits
ones_bit : (x : ℕ) → x < 2 → ones x ≡ x
ones_bit x h = either (λ x. ones x ≡ x) (ones-ones 0) (ones-ones 1) x h

ones_low : (n x : ℕ) → ones_of n x ≡ ones (x % 2 ^ n)
unfolding ones_of
ones_low zero x = let z : x % 1 ≡ 0 = omega arith in rw z (sym (ones-ones 0))
ones_low (suc n) x =
    rw (← one-add n, mod-pow-add x 1 n, ones_cat n (x / 2 ^ n % 2 ^ 1) (x % 2 ^ n) (mod-lt x (pow_pos n)))
    (omega (arith, ones_low n x, ones_bit (bit x n) (bit-small x n)))

pub ones-law : (n x : ℕ) → x < 2 ^ n → ones x ≡ ones_of n x
ones-law n x h = rw (ones_low n x, mod-eq_of_lt h)

-- a bit of the meeting of two masks
pub set-and : (a b k : ℕ) → is_set (bit_and a b) k ≡ (is_set a k && is_set b k)
set-and a b k =
    rw (bit-and a b k)
    (either (λ x. eqb (min x (bit b k)) 1 ≡ (eqb x 1 && eqb (bit b k) 1))
    (either (λ y. eqb (min 0 y) 1 ≡ (eqb 0 1 && eqb y 1)) refl refl (bit b k) (bit-small b k))
    (either (λ y. eqb (min 1 y) 1 ≡ (eqb 1 1 && eqb y 1)) refl refl (bit b k) (bit-small b k)) (bit a k) (bit-small a k))

-- .. and of their union
pub set-or : (a b k : ℕ) → is_set (bit_or a b) k ≡ (is_set a k || is_set b k)
set-or a b k =
    rw (bit-or a b k)
    (either (λ x. eqb (max x (bit b k)) 1 ≡ (eqb x 1 || eqb (bit b k) 1))
    (either (λ y. eqb (max 0 y) 1 ≡ (eqb 0 1 || eqb y 1)) refl refl (bit b k) (bit-small b k))
    (either (λ y. eqb (max 1 y) 1 ≡ (eqb 1 1 || eqb y 1)) refl refl (bit b k) (bit-small b k)) (bit a k) (bit-small a k))
