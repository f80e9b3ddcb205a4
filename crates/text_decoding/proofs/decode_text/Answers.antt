use mathlib.Core.Path.{sym, ap, ◌∙◌}
use Rattle.std.proofs.Common.{Err}
use Rattle.std.proofs.lemmas.Result.{err_from_is_err_and}
use Rattle.acceptance.proofs.Facts.{accepted-formed}
use Rattle.text_decoding.specs.TextDecoding.{decode_text_of, text_after}
use Rattle.text_decoding.proofs.decode_text.Goals as goal

pub decode_in-requires : goal.decode_in-requires
decode_in-requires c = accepted-formed _ _ (sym c.in_ok-layout.ensures)

pub returns-in_err-layout : goal.returns-in_err-layout
unfolding decode_text_of text_after
returns-in_err-layout c =
    let e = err_from_is_err_and _ c.from_residual.ensures.1 in
    let rejected = sym c.in_err-layout.ensures in
    record { value = rw rejected (e.1 ∙ ap Err e.2); out_after = rw rejected }

pub returns : goal.returns
unfolding decode_text_of text_after
returns c =
    let accepted = sym c.in_ok-layout.ensures in
    record { value = rw accepted c.decode_in.ensures.value; out_after = rw accepted c.decode_in.ensures.out_after }
