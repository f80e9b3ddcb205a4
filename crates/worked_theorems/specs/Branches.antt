-- Description S with a section 7 and two more constructors of table 1, which show a computed operand each.
use Rattle.std.specs.Prelude.{ℕ, List, [], ◌∷◌, ◌++◌, drop, replicate}
use Rattle.format.specs.Example.{s_fields, s_names, s_constructors, s_operands, s_pieces, s_text}

-- behind those of S, with two bytes each: 4 where byte 0 is 4x, 5 where it is 5x
abbrev pub b_constructors : List ℕ
b_constructors =
    6 ∷ 0 ∷ (drop 2 s_constructors
    ++ (1 ∷ 2 ∷ 240 ∷ 0 ∷ 0 ∷ 0 ∷ 0 ∷ 0 ∷ 0 ∷ 0 ∷ 64 ∷ 0 ∷ 0 ∷ 0 ∷ 0 ∷ 0 ∷ 0 ∷ 0 ∷ 0 ∷ 0 ∷ 0 ∷ 0 ∷ 0 ∷ 0 ∷ 0 ∷ 0 ∷ 2 ∷ 3 ∷ 0 ∷ 2 ∷ 8 ∷ 0 ∷
    1 ∷ 2 ∷ 240 ∷ 0 ∷ 0 ∷ 0 ∷ 0 ∷ 0 ∷ 0 ∷ 0 ∷ 80 ∷ 0 ∷ 0 ∷ 0 ∷ 0 ∷ 0 ∷ 0 ∷ 0 ∷ 0 ∷ 0 ∷ 0 ∷ 0 ∷ 0 ∷ 0 ∷ 0 ∷ 0 ∷ 2 ∷ 5 ∷ 0 ∷ 2 ∷ 10 ∷ 0 ∷ []))

-- each has the signed byte 1 as its first operand, and an expression as its second
abbrev pub b_operands : List ℕ
b_operands =
    7 ∷ 0 ∷ (drop 2 s_operands ++ (0 ∷ 1 ∷ 0 ∷ 1 ∷ 2 ∷ 0 ∷ 0 ∷ 0 ∷ 0 ∷ 1 ∷ 0 ∷ 1 ∷ 2 ∷ 1 ∷ 0 ∷ 0 ∷ []))

abbrev pub b_pieces : List ℕ
b_pieces =
    12 ∷ 0 ∷ (drop 2 s_pieces ++ (0 ∷ 4 ∷ 16 ∷ 0 ∷ 1 ∷ 2 ∷ 0 ∷ 0 ∷ 0 ∷ 4 ∷ 20 ∷ 0 ∷ 1 ∷ 2 ∷ 0 ∷ 0 ∷ []))

-- "jmp " and "shl " behind the text of S
abbrev pub b_text : List ℕ
b_text =
    24 ∷ 0 ∷ (drop 2 s_text ++ (106 ∷ 109 ∷ 112 ∷ 32 ∷ 115 ∷ 104 ∷ 108 ∷ 32 ∷ []))

-- the address after the instruction plus operand 1; operand 1 shifted left by 63
abbrev pub b_expressions : List ℕ
b_expressions =
    2 ∷ 0 ∷
    (3 ∷ 3 ∷ 0 ∷ 0 ∷ 0 ∷ 0 ∷ 0 ∷ 0 ∷ 0 ∷ 0 ∷ 1 ∷ 1 ∷ 0 ∷ 0 ∷ 0 ∷ 0 ∷ 0 ∷ 0 ∷ 0 ∷ 4 ∷ 0 ∷ 0 ∷ 0 ∷ 0 ∷ 0 ∷ 0 ∷ 0 ∷ 0 ∷ [])
    ++ replicate 117 0
    ++ (2 ∷ 1 ∷ 1 ∷ 0 ∷ 0 ∷ 0 ∷ 0 ∷ 0 ∷ 0 ∷ 0 ∷ 10 ∷ 63 ∷ 0 ∷ 0 ∷ 0 ∷ 0 ∷ 0 ∷ 0 ∷ 0 ∷ [])
    ++ replicate 126 0

abbrev pub B : List ℕ
B = s_fields ++ (s_names ++ (b_constructors ++ (b_operands ++ (b_pieces ++ (b_text ++ b_expressions)))))
