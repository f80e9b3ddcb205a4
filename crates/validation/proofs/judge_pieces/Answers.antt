use mathlib.Core.Path.{sym, ◌∙◌}
use borrow.Author.Tests.{le-ltb}
use native.Mathlib.Omega.{arith}
use Rattle.std.proofs.Common.{rules}
use Rattle.lists.proofs.Below.{first_done}
use Rattle.format.proofs.Lists.{pieces-length, text-length}
use Rattle.format.specs.Description.{no_piece, pieces_of}
use Rattle.format.specs.Rules.{piece_ok}
use Rattle.format.specs.Check.{bad_piece}
use Rattle.validation.proofs.judge_pieces.Goals as goal

pub returns-then-all_pieces : goal.returns-then-all_pieces
unfolding bad_piece
returns-then-all_pieces c =
    let n = c.args.layout.pieces.count in
    rw (text-length, first_done _ _ (sym c.all_pieces.ensures ∙ c.if-all_pieces.true), pieces-length, le-ltb n n (omega arith))

pub returns : goal.returns
unfolding bad_piece pieces_of
returns c = rw text-length (c.judge.ensures (λ _. piece_ok c.args.layout.text.count) no_piece (λ i r h p. search rules))
