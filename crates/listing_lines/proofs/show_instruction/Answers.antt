use native.Mathlib.Omega.{arith}
use Rattle.listing_lines.proofs.Showing.{fixed_told, rows-there, next_fits, shows-text}
use Rattle.listing_lines.proofs.show_instruction.Goals as goal

-- `listing_lines::show_instruction` meets its contract. Assumes nothing.
pub show_text-requires : goal.show_text-requires
show_text-requires c =
    let told = c.decode_at-walked.ensures.fixed_after in
    record { fixed = (fixed_told _ _ c.args.code.now c.args.at c.requires.0.fixed _ told, c.requires.1); sound_rows = rows-there _ _ _ _ _ _ _ c.requires.0 _ told _ c.decode_at-walked.ensures.rows_after _ _ c.in-Ok.is }

pub overflow_add-result : goal.overflow_add-result
overflow_add-result c =
    omega (arith, next_fits _ _ _ _ _ _ _ c.requires.0 _ c.decode_at-walked.ensures.fixed_after _ c.decode_at-walked.ensures.rows_after _ _ c.in-Ok.is)

pub returns-in-Ok : goal.returns-in-Ok
returns-in-Ok c =
    shows-text _ _ _ _ _ _ _ c.requires.0 _ c.decode_at-walked.ensures.fixed_after _ c.decode_at-walked.ensures.rows_after _ _ c.in-Ok.is _ _ _
    c.show_text.ensures
