-- Description S is judged by computation: it is well formed, and this is what it says.
use mathlib.Core.List.{[], ◌∷◌}
use mathlib.Core.Path.{◌≡◌, refl}
use lib.ListN.{length}
use Rattle.lists.specs.Below.{all_below, any_below, first_below}
use Rattle.lists.specs.Tab.{tab_from}
use Rattle.format.specs.Layout.{section_at, layout_of, names_from, constructors_from, operands_from, pieces_from, text_from, expressions_from}
use Rattle.format.specs.Description.{Description, fields_of, names_of, constructors_of, operands_of, pieces_of, text_of, expressions_of}
use Rattle.format.specs.Rules.{field_ok, constructor_ok, shape_ok, operand_fits, piece_fits, shows, has_table, field_operand, expression_fits, operand_ok}
use Rattle.format.specs.Check.{formed, parse, check_of, fault_of, part_fault, last_fault, bad_field, bad_name, bad_constructor, bad_operand, bad_piece, bad_letter, bad_expression}
use Rattle.format.specs.Example.{S}

pub s_meaning : Description
s_meaning =
    record {
      fields =
          (record { source = 0; width = 1; order = 0; low = 0; high = 3; look = 0; first = 0 }) ∷
          (record { source = 0; width = 1; order = 0; low = 0; high = 7; look = 3; first = 0 }) ∷
          [];
      names = [];
      constructors =
          (record {
            table = 0;
            minimum = 1;
            pattern = record { mask = 0; value = 0; contextmask = 0; contextvalue = 0 };
            operands = record { first = 0; count = 1 };
            pieces = record { first = 0; count = 1 };
          }) ∷
          (record {
            table = 1;
            minimum = 1;
            pattern = record { mask = 240; value = 16; contextmask = 0; contextvalue = 0 };
            operands = record { first = 1; count = 1 };
            pieces = record { first = 1; count = 2 };
          }) ∷
          (record {
            table = 1;
            minimum = 1;
            pattern = record { mask = 240; value = 32; contextmask = 0; contextvalue = 0 };
            operands = record { first = 1; count = 2 };
            pieces = record { first = 3; count = 4 };
          }) ∷
          (record {
            table = 1;
            minimum = 1;
            pattern = record { mask = 255; value = 31; contextmask = 0; contextvalue = 0 };
            operands = record { first = 0; count = 0 };
            pieces = record { first = 7; count = 1 };
          }) ∷
          [];
      operands =
          (record { kind = 0; index = 1; anchor = 0; offset = 0 }) ∷
          (record { kind = 0; index = 0; anchor = 0; offset = 0 }) ∷
          (record { kind = 1; index = 0; anchor = 0; offset = 1 }) ∷
          [];
      pieces =
          (record { kind = 1; n = 1; offset = 0 }) ∷
          (record { kind = 0; n = 5; offset = 0 }) ∷
          (record { kind = 1; n = 1; offset = 0 }) ∷
          (record { kind = 0; n = 5; offset = 5 }) ∷
          (record { kind = 1; n = 1; offset = 0 }) ∷
          (record { kind = 0; n = 2; offset = 10 }) ∷
          (record { kind = 1; n = 2; offset = 0 }) ∷
          (record { kind = 0; n = 4; offset = 12 }) ∷
          [];
      text = 105 ∷ 110 ∷ 99 ∷ 32 ∷ 114 ∷ 97 ∷ 100 ∷ 100 ∷ 32 ∷ 114 ∷ 44 ∷ 32 ∷ 104 ∷ 97 ∷ 108 ∷ 116 ∷ [];
      expressions = [];
    }

-- "Description S, 216 bytes."
pub s-length : length S ≡ 216
s-length = refl

-- S is well formed
pub s-formed : parse S ≡ formed s_meaning
unfolding parse check_of layout_of names_from constructors_from operands_from pieces_from text_from expressions_from section_at
    fields_of names_of constructors_of operands_of pieces_of text_of expressions_of tab_from all_below any_below first_below
    fault_of part_fault last_fault bad_field bad_name bad_constructor bad_operand bad_piece bad_letter bad_expression
    field_ok constructor_ok shape_ok operand_fits piece_fits shows has_table field_operand expression_fits operand_ok s_meaning
s-formed = refl
