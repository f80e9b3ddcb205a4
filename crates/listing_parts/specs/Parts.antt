-- The parts of a listing's line, as lists of bytes.
use Rattle.std.specs.Prelude.{ℕ, zero, suc, ◌+◌, ◌/◌, ◌%◌, ◌^◌, cond, List, [], ◌∷◌, ◌++◌, ltb, length, replicate}
use Rattle.format.specs.Numbers.{longest_text}
use Rattle.acceptance.specs.Acceptance.{first_value, second_value}
use Rattle.acceptance.specs.declared.Rejection.{Rejection}
use Rattle.printing.specs.Numerals.{digit_of, digits_up_to, digits_of}
use Rattle.printing.specs.Writing.{over}
use Rattle.listing_parts.specs.declared.FaultLine.{FaultLine}

-- so many lower-case hex digits
unfoldable pub hex_digits : ℕ → ℕ → List ℕ
hex_digits zero n = []
hex_digits (suc k) n = hex_digits k (n / 16) ++ (digit_of (n % 16) ∷ [])

-- ".byte ", ".short", ".long", "malformed "
abbrev pub byte_word : List ℕ
byte_word = 46 ∷ 98 ∷ 121 ∷ 116 ∷ 101 ∷ 32 ∷ []

abbrev pub short_word : List ℕ
short_word = 46 ∷ 115 ∷ 104 ∷ 111 ∷ 114 ∷ 116 ∷ []

abbrev pub long_word : List ℕ
long_word = 46 ∷ 108 ∷ 111 ∷ 110 ∷ 103 ∷ []

abbrev pub malformed_word : List ℕ
malformed_word = 109 ∷ 97 ∷ 108 ∷ 102 ∷ 111 ∷ 114 ∷ 109 ∷ 101 ∷ 100 ∷ 32 ∷ []

-- "A .byte has two digits always": behind 0x
unfoldable pub byte_text : ℕ → List ℕ
byte_text byte = 48 ∷ 120 ∷ hex_digits 2 byte

-- each byte behind ", "
unfoldable pub bytes_behind : List ℕ → List ℕ
bytes_behind [] = []
bytes_behind (byte ∷ rest) = (44 ∷ 32 ∷ []) ++ byte_text byte ++ bytes_behind rest

-- the bytes joined by ", "
unfoldable pub bytes_text : List ℕ → List ℕ
bytes_text [] = []
bytes_text (byte ∷ rest) = byte_text byte ++ bytes_behind rest

-- a gap's line shows all its bytes
unfoldable pub gap_text : List ℕ → List ℕ
gap_text bytes = byte_word ++ bytes_text bytes

-- an address as eight digits; "no address wraps": as many as it has, 16 at most, where eight are too few
unfoldable pub address_text : ℕ → List ℕ
address_text n = cond (ltb n (16 ^ 8)) (hex_digits 8 n) (digits_up_to 16 16 n)

-- the address, a colon and a blank; what is shown; the line's end
unfoldable pub line_text : ℕ → List ℕ → List ℕ
line_text here shown = address_text here ++ (58 ∷ 32 ∷ []) ++ shown ++ (10 ∷ [])

-- "A bad description prints one line, as "malformed 6 65535"."
unfoldable pub malformed_text : (section number : ℕ) → List ℕ
malformed_text section number = malformed_word ++ digits_of 10 section ++ (32 ∷ []) ++ digits_of 10 number ++ (10 ∷ [])

abbrev pub fault_text : Rejection → List ℕ
fault_text x = malformed_text (first_value x) (second_value x)

-- room for the longest line: an address, a colon and a blank, a text, the line's end
abbrev pub line_bytes : ℕ
line_bytes = 16 + 2 + longest_text + 1

-- that line in a buffer of its own, with zeros behind it
unfoldable pub fault_line : Rejection → FaultLine
fault_line x = record { bytes = over (fault_text x) (replicate line_bytes 0); size = length (fault_text x) }
