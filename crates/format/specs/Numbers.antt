-- The numbers of the format, each named once: "1 fields | 256", "2 names | 1,024", "3 constructors | 1 to 512", "4 operands | 2,048", "5 pieces | 4,096", "6 text | 8,192".
use Rattle.std.specs.Prelude.{ℕ}

abbrev pub most_fields : ℕ
most_fields = 256

abbrev pub most_names : ℕ
most_names = 1024

abbrev pub least_constructors : ℕ
least_constructors = 1

abbrev pub most_constructors : ℕ
most_constructors = 512

abbrev pub most_operands : ℕ
most_operands = 2048

abbrev pub most_pieces : ℕ
most_pieces = 4096

abbrev pub most_letters : ℕ
most_letters = 8192

-- section 7: "at most 256, of at most 16 steps"
abbrev pub most_expressions : ℕ
most_expressions = 256

abbrev pub most_steps : ℕ
most_steps = 16

-- "each after its count (two bytes)", and a record's bytes
abbrev pub count_bytes : ℕ
count_bytes = 2

abbrev pub field_bytes : ℕ
field_bytes = 8

abbrev pub name_bytes : ℕ
name_bytes = 3

abbrev pub constructor_bytes : ℕ
constructor_bytes = 32

abbrev pub operand_bytes : ℕ
operand_bytes = 4

abbrev pub piece_bytes : ℕ
piece_bytes = 4

abbrev pub letter_bytes : ℕ
letter_bytes = 1

-- an expression's bytes: its count of steps, then all steps, of nine bytes each
abbrev pub step_bytes : ℕ
step_bytes = 9

abbrev pub expression_bytes : ℕ
expression_bytes = 145

-- "width 1 to 4 bytes", "4 names", "Look 4 has at most 8 bits", "one byte, 32 to 126"
abbrev pub widest : ℕ
widest = 4

abbrev pub names_look : ℕ
names_look = 4

abbrev pub names_bits : ℕ
names_bits = 8

abbrev pub first_letter : ℕ
first_letter = 32

abbrev pub last_letter : ℕ
last_letter = 126

-- how many values a byte has
abbrev pub byte_values : ℕ
byte_values = 256

-- "table 0 to 63", "minimum length 0 to 16", "at most 8 operands and 16 pieces", "Offset 0 to 15"
abbrev pub tables : ℕ
tables = 64

abbrev pub longest : ℕ
longest = 16

abbrev pub operands_each : ℕ
operands_each = 8

abbrev pub pieces_each : ℕ
pieces_each = 16

abbrev pub farthest : ℕ
farthest = 15

-- "a 33rd row is needed", "four signed 64-bit numbers each", "text over 256 bytes"
abbrev pub most_rows : ℕ
most_rows = 32

abbrev pub row_numbers : ℕ
row_numbers = 4

abbrev pub longest_text : ℕ
longest_text = 256

-- a sweep's rows: "rows of four 64-bit numbers"
abbrev pub sweep_numbers : ℕ
sweep_numbers = 4

-- "that section's fault with record 65,535"
abbrev pub section_itself : ℕ
section_itself = 65535
