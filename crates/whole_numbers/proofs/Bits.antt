-- "Below zero the bit operators read endless two's complement; a right shift rounds down": the operators bit by bit, for every bit.
use Prim.Native.Nat.{ℕ, zero, suc, ◌+◌, ◌-◌, ◌*◌, ◌/◌, ◌%◌, ◌^◌, ◌<◌, ◌≤◌, min, max}
use mathlib.Core.Bool.{Bool, true, false, cond, not, ◌&&◌, ◌||◌, beq, false≢true}
use mathlib.Core.Path.{◌≡◌, refl, sym, ap}
use native.Mathlib.Nat.{add_comm, mod-lt, div-add-mod', div-eq_of_lt}
use native.Mathlib.Omega.{arith}
use lib.Bits.{bit_and, bit_xor, differ, and_le_l, xor_add_and}
use borrow.Author.Tests.{ltb-true, ltb-false}
use lib.Dec.{eqb, ltb}
use lib.IntN.{ℤ, pos, negsuc, sub_ℕ, neg_ℤ, ◌+ℤ◌, ◌*ℤ◌}
use lib.Pow.{pow_pos, pow_mono, shr-shr}
use Rattle.bits.specs.Bits.{bit, is_set}
use Rattle.bits.proofs.Digits.{bit-small, either, bit-and, bit-or, bit-xor}
use Rattle.bits.proofs.Words.{same_bits}
use Rattle.whole_numbers.specs.Operators.{bit_z, without, and_z, or_z, xor_z, right_z}

-- a statement about two bits, tried on the four pairs
pairs : (P : ℕ → ℕ → Type 0) → P 0 0 → P 0 1 → P 1 0 → P 1 1 → (a b k : ℕ) → P (bit a k) (bit b k)
pairs P p q r s a b k =
    either (λ x. P x (bit b k)) (either (P 0) p q (bit b k) (bit-small b k)) (either (P 1) r s (bit b k) (bit-small b k)) (bit a k) (bit-small a k)

small : (n : ℕ) → n < 2 ^ n
small zero = omega arith
small (suc n) = omega (arith, small n)

-- a number has no bits beyond those that hold it
no-bit : (x k : ℕ) → x < 2 ^ k → is_set x k ≡ false
no-bit x k h = rw (div-eq_of_lt h)

absorbed : (a b : ℕ) → bit_and a (bit_and a b) ≡ bit_and a b
absorbed a b =
    same_bits a (bit_and a (bit_and a b)) (bit_and a b) (omega (arith, small a, and_le_l a (bit_and a b))) (omega (arith, small a, and_le_l a b))
    (λ k h. rw (bit-and a (bit_and a b) k, bit-and a b k) (omega arith))

-- the bits of a that b has not are a's and not b's
bit-without : (a b k : ℕ) → bit (without a b) k ≡ bit a k - bit b k
unfolding without
bit-without a b k =
    let e : a - bit_and a b ≡ bit_xor a (bit_and a b) = omega (arith, xor_add_and a (bit_and a b), absorbed a b) in
    rw (e, bit-xor a (bit_and a b) k, bit-and a b k) (pairs (λ x y. differ x (min x y) ≡ x - y) refl refl refl refl a b k)

pub and-bits : (a b : ℤ) (k : ℕ) → bit_z (and_z a b) k ≡ (bit_z a k && bit_z b k)
unfolding bit_z and_z
and-bits (pos a) (pos b) k =
    rw (bit-and a b k) (pairs (λ x y. eqb (min x y) 1 ≡ (eqb x 1 && eqb y 1)) refl refl refl refl a b k)
and-bits (pos a) (negsuc b) k =
    rw (bit-without a b k) (pairs (λ x y. eqb (x - y) 1 ≡ (eqb x 1 && not (eqb y 1))) refl refl refl refl a b k)
and-bits (negsuc a) (pos b) k =
    rw (bit-without b a k) (pairs (λ x y. eqb (y - x) 1 ≡ (not (eqb x 1) && eqb y 1)) refl refl refl refl a b k)
and-bits (negsuc a) (negsuc b) k =
    rw (bit-or a b k) (pairs (λ x y. not (eqb (max x y) 1) ≡ (not (eqb x 1) && not (eqb y 1))) refl refl refl refl a b k)

pub or-bits : (a b : ℤ) (k : ℕ) → bit_z (or_z a b) k ≡ (bit_z a k || bit_z b k)
unfolding bit_z or_z
or-bits (pos a) (pos b) k =
    rw (bit-or a b k) (pairs (λ x y. eqb (max x y) 1 ≡ (eqb x 1 || eqb y 1)) refl refl refl refl a b k)
or-bits (pos a) (negsuc b) k =
    rw (bit-without b a k) (pairs (λ x y. not (eqb (y - x) 1) ≡ (eqb x 1 || not (eqb y 1))) refl refl refl refl a b k)
or-bits (negsuc a) (pos b) k =
    rw (bit-without a b k) (pairs (λ x y. not (eqb (x - y) 1) ≡ (not (eqb x 1) || eqb y 1)) refl refl refl refl a b k)
or-bits (negsuc a) (negsuc b) k =
    rw (bit-and a b k) (pairs (λ x y. not (eqb (min x y) 1) ≡ (not (eqb x 1) || not (eqb y 1))) refl refl refl refl a b k)

-- the two bits differ
pub xor-bits : (a b : ℤ) (k : ℕ) → bit_z (xor_z a b) k ≡ not (beq (bit_z a k) (bit_z b k))
unfolding bit_z xor_z
xor-bits (pos a) (pos b) k =
    rw (bit-xor a b k) (pairs (λ x y. eqb (differ x y) 1 ≡ not (beq (eqb x 1) (eqb y 1))) refl refl refl refl a b k)
xor-bits (pos a) (negsuc b) k =
    rw (bit-xor a b k) (pairs (λ x y. not (eqb (differ x y) 1) ≡ not (beq (eqb x 1) (not (eqb y 1)))) refl refl refl refl a b k)
xor-bits (negsuc a) (pos b) k =
    rw (bit-xor a b k) (pairs (λ x y. not (eqb (differ x y) 1) ≡ not (beq (not (eqb x 1)) (eqb y 1))) refl refl refl refl a b k)
xor-bits (negsuc a) (negsuc b) k =
    rw (bit-xor a b k) (pairs (λ x y. eqb (differ x y) 1 ≡ not (beq (not (eqb x 1)) (not (eqb y 1)))) refl refl refl refl a b k)

large : (a b : ℕ) → a < 2 ^ (a + b)
large a b = omega (arith, small a, pow_mono {i = a} {j = a + b} (omega arith))

-- all the bits fix the number
same-natural : (a b : ℕ) → ((k : ℕ) → is_set a k ≡ is_set b k) → a ≡ b
same-natural a b f =
    same_bits (a + b) a b (large a b) (rw (add_comm a b) (large b a))
    (λ k h. pairs (λ x y. eqb x 1 ≡ eqb y 1 → x ≡ y) (λ e. refl) (λ e. absurd (false≢true e)) (λ e. absurd (false≢true (sym e))) (λ e. refl) a b k (f k))

not_same : (a b : ℕ) {A : Type 0} → ((k : ℕ) → is_set a k ≡ not (is_set b k)) → A
not_same a b f =
    let l : b < 2 ^ (a + b) = rw (add_comm a b) (large b a) in
    absurd (false≢true (rw (no-bit a (a + b) (large a b), no-bit b (a + b) l) at (f (a + b))))

pub same_number : (a b : ℤ) → ((k : ℕ) → bit_z a k ≡ bit_z b k) → a ≡ b
unfolding bit_z
same_number (pos a) (pos b) f = ap pos (same-natural a b f)
same_number (pos a) (negsuc b) f = not_same a b f
same_number (negsuc a) (pos b) f = not_same b a (λ k. sym (f k))
same_number (negsuc a) (negsuc b) f = ap negsuc (same-natural a b (λ k. turn (is_set a k) (is_set b k) (f k)))
  where
    turn : (x y : Bool) → not x ≡ not y → x ≡ y
    turn true true e = refl
    turn true false e = sym e
    turn false true e = sym e
    turn false false e = refl

-- a right shift moves the bits down
pub right-bits : (z : ℤ) (k j : ℕ) → bit_z (right_z z k) j ≡ bit_z z (k + j)
unfolding bit_z right_z
right-bits (pos n) k j = rw (shr-shr n k j)
right-bits (negsuc n) k j = rw (shr-shr n k j)

-- z is q times m and a rest below m: q is z / m, rounded down
pub record Rounded (z q : ℤ) (m : ℕ) : Type 0 where
  pub rest : ℕ
  pub small : rest < m
  pub is : z ≡ q *ℤ pos m +ℤ pos rest

-- a difference of two naturals, by its sign
split-sub : (P : ℤ → Type 0) (a b : ℕ) → (a < b → P (negsuc (b - suc a))) → (b ≤ a → P (pos (a - b))) → P (sub_ℕ a b)
split-sub P a b f g = go (ltb a b) refl
  where
    go : (t : Bool) → ltb a b ≡ t → P (cond t (negsuc (b - suc a)) (pos (a - b)))
    go true e = f (ltb-true a b e)
    go false e = g (ltb-false a b e)

raised : (n r x : ℕ) → x ≡ suc n + r → neg_ℤ (pos x) +ℤ pos r ≡ negsuc n
raised n r zero e = absurd (omega arith)
raised n r (suc x) e = split-sub (λ z. z ≡ negsuc n) r (suc x) (λ h. ap negsuc (omega arith)) (λ h. absurd (omega arith))

pub rounds-down : (z : ℤ) (k : ℕ) → Rounded z (right_z z k) (2 ^ k)
unfolding right_z
rounds-down (pos n) k =
    record { rest = n % 2 ^ k; small = mod-lt n (pow_pos k); is = ap pos (sym (div-add-mod' n (2 ^ k))) }
rounds-down (negsuc n) k =
    let l : n % 2 ^ k < 2 ^ k = mod-lt n (pow_pos k) in
    record {
      rest = 2 ^ k - suc (n % 2 ^ k);
      small = omega arith;
      is = sym (raised n (2 ^ k - suc (n % 2 ^ k)) (suc (n / 2 ^ k) * 2 ^ k) (omega (arith, div-add-mod' n (2 ^ k))));
    }
