use mathlib.Core.Path.{sym, ◌∙◌}
use borrow.Author.Tests.{le-ltb}
use native.Mathlib.Omega.{arith}
use Rattle.std.proofs.Common.{rules}
use Rattle.lists.proofs.Below.{first_done}
use Rattle.format.proofs.Lists.{text-length}
use Rattle.format.specs.Description.{text_of}
use Rattle.format.specs.Rules.{letter_ok}
use Rattle.format.specs.Check.{bad_letter}
use Rattle.validation.proofs.Text.{text_slice}
use Rattle.validation.proofs.judge_text.Goals as goal

pub returns-then-all_letters : goal.returns-then-all_letters
unfolding bad_letter
returns-then-all_letters c =
    let n = c.args.layout.text.count in
    let whole = text_slice c.args.desc.now c.args.layout (omega arith) in
    rw (first_done _ _ (rw whole at (sym c.all_letters.ensures ∙ c.if-all_letters.true)), text-length, le-ltb n n (omega arith))

pub returns : goal.returns
unfolding bad_letter text_of
returns c = c.judge.ensures (λ _. letter_ok) 0 (λ i r h p. search rules)
