-- Numbers as text, as lists of character codes.
use Rattle.std.specs.Prelude.{ℕ, zero, suc, ◌+◌, ◌/◌, ◌%◌, cond, List, [], ◌∷◌, ◌++◌, eqb, ltb, ℤ, pos, negsuc, nat_abs}
use Rattle.printing.specs.declared.Base.{Base}
use Rattle.printing.specs.declared.Base.TheVariants.{Decimal, Hexadecimal}

abbrev pub base_number : Base → ℕ
base_number Decimal = 10
base_number Hexadecimal = 16

-- '0' to '9', then "lower-case digits" 'a' to 'f'
unfoldable pub digit_of : ℕ → ℕ
digit_of d = cond (ltb d 10) (48 + d) (87 + d)

-- the last digits of a number in a base, "without leading zeros", so many at most
unfoldable pub digits_up_to : ℕ → ℕ → ℕ → List ℕ
digits_up_to zero base n = []
digits_up_to (suc most) base n = cond (ltb n base) (digit_of n ∷ []) (digits_up_to most base (n / base) ++ (digit_of (n % base) ∷ []))

-- a number of 64 bits has at most 20 digits in a base of 10 or more
unfoldable pub digits_of : ℕ → ℕ → List ℕ
digits_of base n = digits_up_to 20 base n

-- "a minus sign first if below zero"
unfoldable pub sign_text : ℤ → List ℕ
sign_text (pos n) = []
sign_text (negsuc n) = 45 ∷ []

-- "Hex is 0x and lower-case digits without leading zeros"
unfoldable pub prefix_text : ℕ → List ℕ
prefix_text base = cond (eqb base 16) (48 ∷ 120 ∷ []) []

unfoldable pub number_text : ℕ → ℤ → List ℕ
number_text base z = sign_text z ++ (prefix_text base ++ digits_of base (nat_abs z))
