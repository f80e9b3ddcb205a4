-- The digits of a number, and how long a numeral is.
use Prim.Native.Nat.{ℕ, zero, suc, ◌+◌, ◌/◌, ◌%◌, ◌^◌, ◌≤◌, ◌<◌}
use mathlib.Core.Bool.{Bool, true, false, cond}
use mathlib.Core.List.{List, [], ◌∷◌, ◌++◌, append_assoc}
use mathlib.Core.Path.{◌≡◌, sym, ◌∙◌, ap}
use native.Mathlib.Decide.{dec_lt}
use native.Mathlib.Nat.{mod-eq_of_lt, div-eq_of_lt, div-lt_iff_lt-mul, pow-zero, pow-suc}
use native.Mathlib.Omega.{arith}
use borrow.Author.Tests.{lt-ltb, le-ltb}
use lib.Dec.{eqb, ltb}
use lib.IntN.{ℤ, pos, negsuc, nat_abs}
use lib.ListN.{length, length-append}
use Rattle.printing.specs.declared.Base.{Base}
use Rattle.printing.specs.declared.Base.TheVariants.{Decimal, Hexadecimal}
use Rattle.printing.specs.Numerals.{base_number, digit_of, digits_up_to, digits_of, sign_text, prefix_text, number_text}

pub up-to-length : (most base n : ℕ) → length (digits_up_to most base n) ≤ most
unfolding digits_up_to
up-to-length zero base n = omega arith
up-to-length (suc most) base n = go (up-to-length most base (n / base)) (ltb n base)
  where
    go : length (digits_up_to most base (n / base)) ≤ most → (b : Bool) → length (cond b (digit_of n ∷ []) (digits_up_to most base (n / base) ++ (digit_of (n % base) ∷ []))) ≤ suc most
    go h true = omega arith
    go h false = simp length-append (omega arith)

pub digits-length : (base n : ℕ) → length (digits_of base n) ≤ 20
unfolding digits_of
digits-length base n = up-to-length 20 base n

-- a numeral has at least one digit
pub digits-some : (base n : ℕ) → 1 ≤ length (digits_of base n)
unfolding digits_of digits_up_to
digits-some base n = go (ltb n base)
  where
    go : (b : Bool) → 1 ≤ length (cond b (digit_of n ∷ []) (digits_up_to 19 base (n / base) ++ (digit_of (n % base) ∷ [])))
    go true = omega arith
    go false = simp length-append (omega arith)

-- a numeral without its sign
pub unsigned-length : (base n : ℕ) → length (prefix_text base ++ digits_of base n) ≤ 22
unfolding prefix_text
unsigned-length base n = simp length-append (omega (arith, prefix (eqb base 16), digits-length base n))
  where
    prefix : (b : Bool) → length {A = ℕ} (cond b (48 ∷ 120 ∷ []) []) ≤ 2
    prefix true = omega arith
    prefix false = omega arith

pub number-length : (base : ℕ) (z : ℤ) → length (number_text base z) ≤ 23
unfolding number_text sign_text
number-length base z = rw length-append (omega (arith, sign z, unsigned-length base (nat_abs z)))
  where
    sign : (v : ℤ) → length (sign_text v) ≤ 1
    sign (pos n) = omega arith
    sign (negsuc n) = omega arith

-- where the bound does not cut, one digit more changes nothing
more : (k base n : ℕ) → 0 < base → n < base ^ suc k → digits_up_to (suc k) base n ≡ digits_up_to (suc (suc k)) base n
unfolding digits_up_to
more zero base n b h = let l : n < base = omega (arith, rw (pow-suc, pow-zero) at h) in rw (lt-ltb n base l)
more (suc k) base n b h =
    ap (λ (l : List ℕ). cond (ltb n base) (digit_of n ∷ []) (l ++ (digit_of (n % base) ∷ [])))
    (more k base (n / base) b ((div-lt_iff_lt-mul {k = base} {x = n} {y = base ^ suc k} b).1 (rw (pow-suc base (suc k)) at h)))

-- a number of 64 bits has at most 16 hex digits
pub hex-digits : (n : ℕ) → n < 2 ^ 64 → digits_of 16 n ≡ digits_up_to 16 16 n
unfolding digits_of
hex-digits n h =
    let some : 0 < 16 = omega arith in
    sym (more 15 16 n some h ∙ more 16 16 n some (omega arith) ∙ more 17 16 n some (omega arith) ∙ more 18 16 n some (omega arith))

-- a number of 64 bits, less its last digit, has at most 19
quotient-small : (base : Base) (n : ℕ) → n < 2 ^ 64 → n / base_number base < base_number base ^ 19
quotient-small Decimal n h = omega arith
quotient-small Hexadecimal n h = omega arith

pub base-some : (base : Base) → 0 < base_number base
base-some Decimal = omega arith
base-some Hexadecimal = omega arith

pub digits-one : (base n : ℕ) → n < base → digits_of base n ≡ digit_of n ∷ []
unfolding digits_of digits_up_to
digits-one base n h = rw (lt-ltb n base h)

pub digits_step : (base : Base) (n : ℕ) → n < 2 ^ 64 → base_number base ≤ n
    → digits_of (base_number base) n ≡ digits_of (base_number base) (n / base_number base) ++ (digit_of (n % base_number base) ∷ [])
unfolding digits_of digits_up_to
digits_step b n h l =
    let base = base_number b in
    ap (λ (t : Bool). cond t (digit_of n ∷ []) (digits_up_to 19 base (n / base) ++ (digit_of (n % base) ∷ []))) (le-ltb n base l)
    ∙ ap (λ (d : List ℕ). d ++ (digit_of (n % base) ∷ []))
    (more 18 base (n / base) (base-some b) (quotient-small b n h))

-- the digits still to come, before those that stand there, leave room for the longest
pub room : (base rest n : ℕ) (l : List ℕ) → digits_of base rest ++ l ≡ digits_of base n → length l ≤ 19
room base rest n l e =
    let d : length (digits_of base rest) + length l ≤ 20 = rw (← length-append (digits_of base rest) l, e) (digits-length base n) in
    omega (arith, digits-some base rest)

-- the last digit is written; others come before it
pub digit-more : (base : Base) (rest : ℕ) (l : List ℕ) → rest < 2 ^ 64 → (rest / base_number base ≡ 0 → ⊥)
    → digits_of (base_number base) (rest / base_number base) ++ (digit_of (rest % base_number base) ∷ l) ≡ digits_of (base_number base) rest ++ l
digit-more base rest l h q =
    rw (digits_step base rest h (go (dec_lt rest (base_number base))), append_assoc)
  where
    go : Dec (rest < base_number base) → base_number base ≤ rest
    go (yes p) = absurd (q (div-eq_of_lt p))
    go (no p) = omega arith

-- the first digit is written
pub digit-first : (base : Base) (rest : ℕ) (l : List ℕ) → rest / base_number base ≡ 0
    → digit_of (rest % base_number base) ∷ l ≡ digits_of (base_number base) rest ++ l
digit-first base rest l q =
    let less : rest < base_number base =
    omega (arith, (div-lt_iff_lt-mul {k = base_number base} {x = rest} {y = 1} (base-some base)).0 (omega arith)) in
    rw (mod-eq_of_lt less, digits-one (base_number base) rest less)
