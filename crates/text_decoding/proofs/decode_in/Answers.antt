use mathlib.Core.Path.{refl, sym, ap, ◌∙◌}
use native.Mathlib.Omega.{arith}
use Rattle.std.proofs.Common.{Err}
use Rattle.std.proofs.lemmas.Result.{err_from_is_err_and}
use Rattle.format.specs.Description.{description}
use Rattle.text_decoding.specs.TextDecoding.{line_answer}
use Rattle.text_decoding.proofs.Answers.{Answers, filled, told_fixed, some-rows, sound-rows, refusal-answers, line-answers}
use Rattle.text_decoding.proofs.decode_in.Goals.{After-print_text}
use Rattle.text_decoding.proofs.decode_in.Goals as goal

pub decode_at-requires : goal.decode_at-requires
decode_at-requires c = (filled _ _ c.requires _ c.fill-fixed.ensures, omega arith, refl)

pub slice_bounds-print_text-end : goal.slice_bounds-print_text-end
slice_bounds-print_text-end c =
    let fills = c.fill-fixed.ensures in
    let decodes = c.decode_at.ensures in
    sym (sound-rows _ _ c.requires _ fills _ _ _ _ decodes.rows_after _ _ c.in_ok-walk.was _ decodes.fixed_after).long

pub print_text-requires : goal.print_text-requires
print_text-requires c =
    let formed = c.requires in
    let fills = c.fill-fixed.ensures in
    let decodes = c.decode_at.ensures in
    let done = c.in_ok-walk.was in record { fixed = told_fixed _ _ formed _ fills c.args.code.now _ decodes.fixed_after; sound_rows = (sound-rows _ _ formed _ fills _ _ _ _ decodes.rows_after _ _ done _ decodes.fixed_after, some-rows _ _ formed _ fills _ _ _ _ decodes.rows_after _ _ done) }

-- the text is printed
printed : (c : After-print_text)
    → let start = c.args in
    Answers (description start.desc.now start.layout) start.context start.address start.code.now start.out.now c.print_text.new.out (line_answer c.print_text.result)
printed c =
    let formed = c.requires in
    let fills = c.fill-fixed.ensures in
    let decodes = c.decode_at.ensures in
    let done = c.in_ok-walk.was in
    let prints = c.print_text.ensures in
    line-answers _ _ formed _ fills _ _ _ _ decodes.rows_after _ _ done _ decodes.fixed_after _ _ _ prints.value prints.out_after

pub returns-in_err-walk : goal.returns-in_err-walk
returns-in_err-walk c =
    let decodes = c.decode_at.ensures in
    let h = refusal-answers _ _ c.requires _ c.fill-fixed.ensures _ _ _ _ decodes.rows_after c.args.out.now _ c.in_err-walk.was in
    let e = err_from_is_err_and _ c.from_residual.ensures.1 in
    record { value = e.1 ∙ ap Err e.2 ∙ h.0; out_after = h.1 }

pub returns : goal.returns
returns c =
    let h = printed (goal.at.returns c).After-print_text in
    record { value = ap line_answer (sym c.in_ok-count.was) ∙ h.0; out_after = h.1 }

pub returns-in_err-count : goal.returns-in_err-count
returns-in_err-count c =
    let h = printed (goal.at.returns-in_err-count c).After-print_text in
    let e = err_from_is_err_and c.from_residual-in_err-count.result c.from_residual-in_err-count.ensures.1 in
    record { value = rw (e.1, e.2) (ap line_answer (sym c.in_err-count.was) ∙ h.0); out_after = h.1 }
