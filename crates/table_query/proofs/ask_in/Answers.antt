use Rattle.table_query.proofs.Answer.{answer}
use Rattle.table_query.specs.Asking.{answered, ask_in}
use Rattle.choosing_theorems.proofs.Taken.{taken-facts}
use Rattle.choosing.proofs.Settling.{described}
use Rattle.tables.proofs.Range.{absent, there, in-section}
use Rattle.format.proofs.Lists.{constructors-length}
use Rattle.format.proofs.Formation.{obeyed}
use native.Mathlib.Omega.{arith}
use Rattle.std.specs.Prelude.{Result, Ok, Err}
use borrow.Author.Rules.{rules}
use Rattle.choosing_spec.specs.declared.NotChosen.{NotChosen}
use Rattle.choosing_spec.specs.declared.NotChosen.TheVariants.{Short, NoMatch, Ambiguous}
use mathlib.Core.Path.{◌≡◌, refl, sym, ap, ◌∙◌}
use Rattle.format.specs.Description.{description}
use Prim.Native.Nat.{ℕ}
use Rattle.table_query.proofs.ask_in.Goals.{After-choose_in-choice}
use Rattle.table_query.proofs.ask_in.Goals as goal

pub returns-then-table-eq0 : goal.returns-then-table-eq0
unfolding ask_in
returns-then-table-eq0 c =
    rw (absent _ (obeyed _ _ c.requires) _ _ _ c.table_of-table.ensures.first_value c.table_of-table.ensures.count_value c.if-table-eq0.true)

pub choose_in-choice-requires : goal.choose_in-choice-requires
choose_in-choice-requires c =
    (c.requires.room.constructors, rw constructors-length at (in-section _ (obeyed _ _ c.requires) _ _ _ c.table_of-table.ensures.first_value c.table_of-table.ensures.count_value))

pub taken-requires : goal.taken-requires
taken-requires c =
    let f = taken-facts _ _ _ _ _ (described c.args.desc.now c.args.layout _ _ _ _ _ (sym c.choose_in-choice.ensures ∙ c.in-Ok.is)) in
    let n = rw constructors-length at (in-section _ (obeyed _ _ c.requires) _ _ _ c.table_of-table.ensures.first_value c.table_of-table.ensures.count_value) in
    record { sections_in_bounds = c.requires.room; j_bound = omega (arith, f.within, n) }

-- the answer, from the choice
told : (c : After-choose_in-choice) (r : Result ℕ NotChosen) → c.choose_in-choice.result ≡ r
    → answered (description c.args.desc.now c.args.layout) c.args.t r ≡ ask_in (description c.args.desc.now c.args.layout) c.args.t c.args.context c.args.code.now
told c r e =
    answer _ _ _ _ _ _ c.table_of-table.ensures.first_value c.table_of-table.ensures.count_value
    (there _ (obeyed _ _ c.requires) _ _ _ c.table_of-table.ensures.first_value c.table_of-table.ensures.count_value c.if-table-eq0.false) _
    (described c.args.desc.now c.args.layout _ _ _ _ _ (sym c.choose_in-choice.ensures ∙ e))

pub returns-in-Ok : goal.returns-in-Ok
returns-in-Ok c =
    ap Ok c.taken.ensures
    ∙ (rw c.table_of-table.ensures.first_value refl ∙ told (goal.at.returns-in-Ok c).After-choose_in-choice _ c.in-Ok.is)

pub returns-in-Err-Short : goal.returns-in-Err-Short
returns-in-Err-Short c = told (goal.at.returns-in-Err-Short c).After-choose_in-choice (Err Short) (search rules)

pub returns-in-Err-NoMatch : goal.returns-in-Err-NoMatch
returns-in-Err-NoMatch c = told (goal.at.returns-in-Err-NoMatch c).After-choose_in-choice (Err NoMatch) (search rules)

pub returns-in-Err-Ambiguous : goal.returns-in-Err-Ambiguous
returns-in-Err-Ambiguous c = told (goal.at.returns-in-Err-Ambiguous c).After-choose_in-choice (Err Ambiguous) (search rules)
