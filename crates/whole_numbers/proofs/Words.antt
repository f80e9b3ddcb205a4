-- The machine's words: and, or, exclusive or and shifts of the 64 bits, and what they make of the numbers.
use Prim.Native.Nat.{ℕ, zero, suc, ◌+◌, ◌-◌, ◌*◌, ◌/◌, ◌%◌, ◌^◌, ◌<◌, ◌≤◌}
use mathlib.Core.Bool.{Bool, true, ◌||◌}
use mathlib.Core.Path.{◌≡◌, refl, sym, ap, ◌∙◌}
use native.Mathlib.Nat.{mod-eq_of_lt, add-mul-mod_self_left, mul-le-mul_right, lt_of_mul-lt-mul_right, div-lt_iff_lt-mul, div-le_self}
use native.Mathlib.Omega.{arith}
use borrow.Author.Tests.{eq-eqb, ne_eqb, eqb-true, lt-ltb, ltb-true, le-leb, leb-true}
use lib.Bits.{bit_and, bit_or, bit_xor, and_step, and_zero_l, and_comm, and_le_l, or_comm, xor_comm, or_add_and, xor_add_and, or_lt, xor_lt}
use lib.Dec.{eqb, ltb, leb}
use lib.IntN.{ℤ, pos, negsuc, neg_ℤ}
use lib.Pow.{pow-add, pow_pos}
use lib.Signed.{mag, shr_z, mag_shr}
use mir.Facts.{to_z_pos, to_z-neg}
use mir.Syntax.{w64}
use mir.Val.{to_z, of_z}
use Rattle.lists.proofs.Bools.{same, or_no}
use Rattle.whole_numbers.specs.Range.{inside}
use Rattle.whole_numbers.specs.Operators.{without, and_z, or_z, xor_z, left_z, right_z}
use Rattle.whole_numbers.proofs.Kept.{back, inside-mag}

-- a number's bits, those of b and those not of b
and-not : (n a b : ℕ) → a < 2 ^ n → b < 2 ^ n → bit_and a (2 ^ n - suc b) + bit_and a b ≡ a
and-not zero a b p q = let z : a ≡ 0 = omega arith in rw (z, and_zero_l (1 - suc b), and_zero_l b)
and-not (suc n) a b p q =
    let x : 2 ^ n - suc (b / 2) ≡ (2 ^ suc n - suc b) / 2 = omega arith in
    let y : (2 ^ suc n - suc b) % 2 ≡ 1 - b % 2 = omega arith in
    let r = rw x at (and-not n (a / 2) (b / 2) (omega arith) (omega arith)) in
    rw (and_step a (2 ^ suc n - suc b), and_step a b, y)
    (omega arith)

module _ (a b : ℕ) (p : a < 2 ^ 63) (q : b < 2 ^ 63) where
  and-mixed : bit_and a (2 ^ 64 - suc b) ≡ without a b
  unfolding without
  and-mixed = omega (arith, and-not 64 a b (omega arith) (omega arith))

  and_below : bit_and (2 ^ 64 - suc a) (2 ^ 64 - suc b) ≡ 2 ^ 64 - suc (bit_or a b)
  and_below =
      omega (
        arith,
        and-not 64 (2 ^ 64 - suc a) b (omega arith) (omega arith),
        and_comm (2 ^ 64 - suc a) b,
        and-not 64 b a (omega arith) (omega arith),
        and_comm a b,
        or_add_and a b,
      )

  or-mixed : bit_or a (2 ^ 64 - suc b) ≡ 2 ^ 64 - suc (without b a)
  unfolding without
  or-mixed = omega (arith, or_add_and a (2 ^ 64 - suc b), and-not 64 a b (omega arith) (omega arith), and_comm a b, and_le_l b a)

  or-below : bit_or (2 ^ 64 - suc a) (2 ^ 64 - suc b) ≡ 2 ^ 64 - suc (bit_and a b)
  or-below = omega (arith, or_add_and (2 ^ 64 - suc a) (2 ^ 64 - suc b), and_below, or_add_and a b, and_le_l a b)

  xor-mixed : bit_xor a (2 ^ 64 - suc b) ≡ 2 ^ 64 - suc (bit_xor a b)
  xor-mixed = omega (arith, xor_add_and a (2 ^ 64 - suc b), and-not 64 a b (omega arith) (omega arith), xor_add_and a b, and_le_l a b)

  xor_below : bit_xor (2 ^ 64 - suc a) (2 ^ 64 - suc b) ≡ bit_xor a b
  xor_below = omega (arith, xor_add_and (2 ^ 64 - suc a) (2 ^ 64 - suc b), and_below, or_add_and a b, xor_add_and a b, and_le_l a b)

pub and_word : (a b : ℤ) → mag a < 2 ^ 63 → mag b < 2 ^ 63 → to_z w64 (bit_and (of_z w64 a) (of_z w64 b)) ≡ and_z a b
unfolding and_z without
and_word (pos a) (pos b) p q = to_z_pos w64 (omega (arith, and_le_l a b))
and_word (pos a) (negsuc b) p q = rw (and-mixed a b p q) (to_z_pos w64 (omega arith))
and_word (negsuc a) (pos b) p q = rw (and_comm (2 ^ 64 - suc a) b, and-mixed b a q p) (to_z_pos w64 (omega arith))
and_word (negsuc a) (negsuc b) p q = rw (and_below a b p q) (to_z-neg w64 (bit_or a b) (or_lt 63 a b p q))

pub or_word : (a b : ℤ) → mag a < 2 ^ 63 → mag b < 2 ^ 63 → to_z w64 (bit_or (of_z w64 a) (of_z w64 b)) ≡ or_z a b
unfolding or_z without
or_word (pos a) (pos b) p q = to_z_pos w64 (or_lt 63 a b p q)
or_word (pos a) (negsuc b) p q = rw (or-mixed a b p q) (to_z-neg w64 (without b a) (omega arith))
or_word (negsuc a) (pos b) p q = rw (or_comm (2 ^ 64 - suc a) b, or-mixed b a q p) (to_z-neg w64 (without a b) (omega arith))
or_word (negsuc a) (negsuc b) p q = rw (or-below a b p q) (to_z-neg w64 (bit_and a b) (omega (arith, and_le_l a b)))

pub xor_word : (a b : ℤ) → mag a < 2 ^ 63 → mag b < 2 ^ 63 → to_z w64 (bit_xor (of_z w64 a) (of_z w64 b)) ≡ xor_z a b
unfolding xor_z
xor_word (pos a) (pos b) p q = to_z_pos w64 (xor_lt 63 a b p q)
xor_word (pos a) (negsuc b) p q = rw (xor-mixed a b p q) (to_z-neg w64 (bit_xor a b) (xor_lt 63 a b p q))
xor_word (negsuc a) (pos b) p q =
    rw (xor_comm (2 ^ 64 - suc a) b, xor-mixed b a q p, xor_comm b a) (to_z-neg w64 (bit_xor a b) (xor_lt 63 a b p q))
xor_word (negsuc a) (negsuc b) p q = rw (xor_below a b p q) (to_z_pos w64 (xor_lt 63 a b p q))

pub right_word : (z : ℤ) (k : ℕ) → mag z < 2 ^ 63 → to_z w64 (of_z w64 (shr_z z (2 ^ k))) ≡ right_z z k
unfolding right_z
right_word z k h = back (shr_z z (2 ^ k)) (omega (arith, mag_shr z (2 ^ k)))

-- a left shift: with j + k = 63, no bits leave at the top exactly where the result is in range
module _ (n j k : ℕ) (s : j + k ≡ 63) where
  all-bits : 2 ^ j * 2 ^ k ≡ 2 ^ 63
  all-bits = sym (pow-add 2 j k) ∙ ap (λ i. 2 ^ i) s

  top-none : n / 2 ^ j ≡ 0 → suc n * 2 ^ k ≤ 2 ^ 63
  top-none e =
      let l : n / 2 ^ j < 1 = omega arith in
      let m : n < 1 * 2 ^ j = (div-lt_iff_lt-mul (pow_pos j)).0 l in
      let h : suc n ≤ 2 ^ j = omega arith in
      omega (arith, mul-le-mul_right (2 ^ k) h, all-bits)

  none-top : n * 2 ^ k < 2 ^ 63 → n / 2 ^ j ≡ 0
  none-top h =
      let l : n * 2 ^ k < 2 ^ j * 2 ^ k = omega (arith, all-bits) in
      let m : n < 1 * 2 ^ j = omega (arith, lt_of_mul-lt-mul_right (2 ^ k) l) in
      omega (arith, (div-lt_iff_lt-mul (pow_pos j)).1 m)

  top_above : eqb (n / 2 ^ j) 0 ≡ ltb (n * 2 ^ k) (2 ^ 63)
  top_above =
      same (eqb (n / 2 ^ j) 0) (ltb (n * 2 ^ k) (2 ^ 63))
      (λ e. lt-ltb (n * 2 ^ k) (2 ^ 63) (omega (arith, top-none (eqb-true (n / 2 ^ j) 0 e), pow_pos k)))
      (λ e. eq-eqb (n / 2 ^ j) 0 (none-top (ltb-true (n * 2 ^ k) (2 ^ 63) e)))

  top_below : eqb (n / 2 ^ j) 0 ≡ leb (suc n * 2 ^ k) (2 ^ 63)
  top_below =
      same (eqb (n / 2 ^ j) 0) (leb (suc n * 2 ^ k) (2 ^ 63))
      (λ e. le-leb (suc n * 2 ^ k) (2 ^ 63) (top-none (eqb-true (n / 2 ^ j) 0 e)))
      (λ e. eq-eqb (n / 2 ^ j) 0 (none-top (omega (arith, leb-true (suc n * 2 ^ k) (2 ^ 63) e, pow_pos k))))

-- the negation of a natural
below : (x : ℕ) → leb x (2 ^ 63) ≡ inside (neg_ℤ (pos x))
unfolding inside
below zero = refl
below (suc x) = refl

-- the machine's test of a word: no bit is set, or every bit
abbrev pub alike : ℕ → Bool
alike w = eqb w 0 || eqb w (2 ^ 64 - 1)

alike-above : (q : ℕ) → q < 2 ^ 63 → alike q ≡ eqb q 0
alike-above q h = rw (ne_eqb q (2 ^ 64 - 1) (λ e. omega arith)) (or_no (eqb q 0))

alike-below : (q : ℕ) → q < 2 ^ 63 → alike (2 ^ 64 - suc q) ≡ eqb q 0
alike-below q h =
    rw (ne_eqb (2 ^ 64 - suc q) 0 (λ e. omega arith))
    (same (eqb (2 ^ 64 - suc q) (2 ^ 64 - 1)) (eqb q 0)
    (λ e. eq-eqb q 0 (omega (arith, eqb-true (2 ^ 64 - suc q) (2 ^ 64 - 1) e)))
    (λ e. eq-eqb (2 ^ 64 - suc q) (2 ^ 64 - 1) (omega (arith, eqb-true q 0 e))))

pub left-test : (z : ℤ) (k : ℕ) → k < 64 → mag z < 2 ^ 63 → alike (of_z w64 (shr_z z (2 ^ (63 - k)))) ≡ inside (left_z z k)
unfolding left_z inside
left-test (pos n) k l h =
    alike-above (n / 2 ^ (63 - k)) (omega (arith, div-le_self n (2 ^ (63 - k)))) ∙ top_above n (63 - k) k (omega arith)
left-test (negsuc n) k l h =
    alike-below (n / 2 ^ (63 - k)) (omega (arith, div-le_self n (2 ^ (63 - k))))
    ∙ (top_below n (63 - k) k (omega arith) ∙ below (suc n * 2 ^ k))

-- the word of a negated number
neg_word : (x : ℕ) → 0 < x → x ≤ 2 ^ 63 → to_z w64 (2 ^ 64 - x) ≡ neg_ℤ (pos x)
neg_word zero l h = absurd (omega arith)
neg_word (suc x) l h = to_z-neg w64 x h

-- below zero the product's word is the modulus less the distance from zero
wrapped : (w d n p : ℕ) → d + suc n ≡ w → 0 < p → suc n * p ≤ w → d * p ≡ w - suc n * p + w * (p - 1)
wrapped w d n zero e l h = absurd (omega arith)
wrapped w d n (suc p) e l h = let z : suc p - 1 ≡ p = omega arith in rw z (omega (arith, ap (λ x. x * suc p) e))

pub left_word : (z : ℤ) (k : ℕ) → mag z < 2 ^ 63 → inside (left_z z k) ≡ true → to_z w64 (of_z w64 z * 2 ^ k % 2 ^ 64) ≡ left_z z k
unfolding left_z
left_word (pos n) k h e =
    let l : n * 2 ^ k < 2 ^ 63 = inside-mag (pos (n * 2 ^ k)) e in
    let m : n * 2 ^ k < 2 ^ 64 = omega arith in
    rw (mod-eq_of_lt m) (to_z_pos w64 l)
left_word (negsuc n) k h e =
    let l : suc n * 2 ^ k ≤ 2 ^ 63 = leb-true (suc n * 2 ^ k) (2 ^ 63) (below (suc n * 2 ^ k) ∙ e) in
    let m : 2 ^ 64 - suc n * 2 ^ k < 2 ^ 64 = omega (arith, pow_pos k) in
    rw (
      wrapped (2 ^ 64) (2 ^ 64 - suc n) n (2 ^ k) (omega arith) (pow_pos k) (omega arith),
      add-mul-mod_self_left (2 ^ 64 - suc n * 2 ^ k) (2 ^ 64) (2 ^ k - 1),
      mod-eq_of_lt m,
    )
    (neg_word (suc n * 2 ^ k) (omega (arith, pow_pos k)) l)
