-- Every worked case of the table holds, by computation.
use Prim.Native.Nat.{ℕ, ◌<◌}
use native.Mathlib.Omega.{arith}
use lib.Dec.{lit<, lit≤}
use mathlib.Core.Path.{◌≡◌, refl}
use Rattle.std.proofs.Common.{Some, None}
use Rattle.lists.specs.Below.{all_below, any_below, first_below}
use Rattle.lists.specs.Tab.{tab_from}
use Rattle.bits.specs.Bits.{ones_of}
use Rattle.format.specs.Layout.{section_at, layout_of, names_from, constructors_from, operands_from, pieces_from, text_from, expressions_from}
use Rattle.format.specs.Description.{fields_of, names_of, constructors_of, operands_of, pieces_of, text_of, expressions_of}
use Rattle.format.specs.Rules.{field_ok, constructor_ok, shape_ok, field_operand, expression_fits, operand_fits, piece_fits, shows, has_table, operand_ok}
use Rattle.format.specs.Expression.{expression_at, depth_after, step_value_ok, step_ok, steps_ok, rest_empty, writes_expression, names_only}
use Rattle.whole_numbers.specs.Range as range
use Rattle.whole_numbers.specs.Operators.{left_z}
use Rattle.expressions.specs.Value as value
use Rattle.format.specs.Check.{check_of, fault_of, part_fault, last_fault, bad_field, bad_name, bad_constructor, bad_operand, bad_piece, bad_letter, bad_expression}
use Rattle.format.specs.Tables.{table_first, table_end}
use Rattle.patterns.specs.Matching.{context_agrees, matches, agrees, masks_missing, cut_off}
use Rattle.patterns.specs.Relations.{inside_bits, inside, meet_bits, overlap, weight}
use Rattle.choosing_spec.specs.Choosing.{short, matching, innermost, taken, alone, choose}
use Rattle.choosing_spec.specs.Clashing.{crossing, third, clashing, partner, first_clash, clash_of}
use Rattle.choosing_spec.specs.Table.{pattern_from}
use Rattle.acceptance.specs.Acceptance.{acceptance_of}
use Rattle.table_query.specs.Asking.{ask_in, ask_of}
use Rattle.clash_check.specs.Entry.{clash_in, clash_answer}
use Rattle.format.specs.declared.Pattern.{Pattern}
use Rattle.choosing_spec.specs.ValidPattern.{ValidPattern}
use Rattle.tree_spec.specs.Nodes.{kind_at, bit_at, place_at}
use Rattle.tree_spec.specs.Form.{start, leaf_ok, node_ok, walk_of, form_of}
use Rattle.tree_spec.specs.Verdicts.{Accepts, Rejects}
use Rattle.tree_rule.specs.Rule.{refutes, shows_wrong}
use Rattle.tree_theorems.specs.Path.{path_from, path_of}
use Rattle.tree_theorems.proofs.Sides.{sound-start}
use Rattle.tree_theorems.proofs.Judging.{accepts, rejects}
use Rattle.tree_spec.specs.Verdicts as verdicts
use Rattle.tree_spec.specs.Form as form
use Rattle.tree_building_spec.specs.Rule.{masks, live, on_path, settles, settled, wanted, lowest_wanted, node_of}
use Rattle.tree_building_spec.specs.Tree.{tree_from, tree_of, size_of, nodes_from, tree_bytes}
use Rattle.tree_building.specs.Building.{fits, outcome_for, outcome_in, build_of, build_after}
use Rattle.fields.specs.Value.{value_of, of_bits, source_bit, token_byte}
use Rattle.fields.specs.Look.{look_of, number_of, signed_of}
use Rattle.decoding_spec.specs.Tree.{rows_of, rows_of_all, numbers_of}
use Rattle.decoding_spec.specs.Walk as walk
use Rattle.decoding_spec.specs.Walk.{shown_as, field_from, computed_from, operand_from, closed, constructor_from, table_from, walk_from, choice_in, walked_from, walked_of}
use Rattle.decoding_spec.specs.Instruction.{counts_as, counts_of, with_values, with_values_all, completed, instruction_of}
use Rattle.decoding.specs.Decoding.{decode_of, rows_after}
use Rattle.printing.specs.Numerals.{digit_of, digits_up_to, digits_of, sign_text, prefix_text, number_text}
use Rattle.printing.specs.Writing.{over}
use Rattle.text.specs.Text as text
use Rattle.text.specs.Text.{computed_text, letters, piece_text, pieces_text, constructor_text, name_text, texts_of}
use Rattle.text_decoding.specs.TextDecoding.{decode_text_of, text_after}
use Rattle.worked_theorems.specs.Cases as cases_of
use Rattle.worked_theorems.specs.Cases.{Starred, leaf_zero, leaf_none, same, all_hold, asks, clashes, bytes, rows, two, three, halves, chooses, pairs, decodes_by, reads_by, decodes, reads, grows, builds, nested, cases, holds}

-- what table 0 of S has: one pattern, of no masked bit
module _ (at : ℕ → Pattern) (e : at 0 ≡ start) where
  sound : (j : ℕ) → j < 1 → ValidPattern (at j)
  sound j h = let s : j ≡ 0 = omega arith in rw (s, e) sound-start

  leaf-zero : Accepts 0 at 1 leaf_zero
  unfolding form_of walk_of node_ok leaf_ok kind_at bit_at place_at shows_wrong refutes path_of path_from inside inside_bits all_below
  leaf-zero =
      accepts 0 at 1 leaf_zero sound (lit≤ tt) refl
      (λ i l k j h. let s : i ≡ 0 = omega arith in let t : j ≡ 0 = omega arith in rw (s, t, e))

  leaf-none : Rejects 0 at 1 leaf_none 0 0 0
  unfolding form_of walk_of node_ok leaf_ok kind_at bit_at place_at shows_wrong refutes path_of path_from overlap meet_bits all_below
  leaf-none =
      rw e at (rejects 0 at 1 leaf_none sound (lit≤ tt) refl 0 0 (lit< tt) refl (lit< tt) refl (λ k h. absurd (omega arith)))

pub cases-hold : Starred
unfolding holds cases all_hold same asks clashes bytes rows two three halves chooses pairs grows builds nested
    all_below any_below first_below tab_from ones_of
    section_at layout_of names_from constructors_from operands_from pieces_from text_from expressions_from
    fields_of names_of constructors_of operands_of pieces_of text_of expressions_of
    field_ok constructor_ok shape_ok field_operand expression_fits operand_fits piece_fits shows has_table operand_ok
    expression_at depth_after step_value_ok step_ok steps_ok rest_empty writes_expression names_only
    range.inside left_z value.term_of value.operator_of value.made_of value.step_on value.stack_after value.value_of
    check_of fault_of part_fault last_fault bad_field bad_name bad_constructor bad_operand bad_piece bad_letter bad_expression
    table_first table_end context_agrees matches agrees masks_missing cut_off inside_bits inside meet_bits overlap weight
    short matching innermost taken alone choose crossing third clashing partner first_clash clash_of
    acceptance_of pattern_from ask_in ask_of clash_in clash_answer form_of walk_of node_ok leaf_ok kind_at bit_at place_at
    cases_of.signed_of decodes_by decodes value_of of_bits source_bit token_byte look_of number_of signed_of rows_of rows_of_all numbers_of shown_as field_from computed_from operand_from
    walk.operands_from closed constructor_from table_from walk_from choice_in walked_from walked_of
    counts_as counts_of with_values with_values_all completed instruction_of decode_of rows_after
    reads_by reads digit_of digits_up_to digits_of sign_text prefix_text number_text over computed_text letters piece_text pieces_text constructor_text name_text text.text_of texts_of
    decode_text_of text_after
    form.side verdicts.bytes_of masks live on_path settles settled wanted lowest_wanted node_of tree_from tree_of size_of nodes_from tree_bytes fits outcome_for outcome_in build_of build_after
cases-hold =
    record {
      computed = refl;
      right = (None, refl, leaf-zero _ refl);
      wrong = (Some (record { node = 0; word = 0; context = 0 }), refl, leaf-none _ refl);
    }
