use mathlib.Core.Path.{◌≡◌, sym, ◌∙◌}
use native.Mathlib.Omega.{arith}
use lib.ListN.{length}
use Rattle.format.specs.Tables.{root_of}
use Rattle.format.proofs.Lists.{constructors-length}
use Rattle.tables.specs.Starts.{table_starts}
use Rattle.decoding_theorems.proofs.Records.{root-low}
use Rattle.setting.specs.Fixed.{setting_in}
use Rattle.setting.proofs.Laws.{obeyed-in, some_in, root-first-within, gathered-root}
use Rattle.setting.proofs.root_range.Goals.{After-from}
use Rattle.setting.proofs.root_range.Goals as goal

is-root : (c : After-from) → c.from.result ≡ root_of (setting_in c.args.desc.now c.args.fixed.now).description
unfolding setting_in
is-root c = c.from.ensures ∙ c.root-root.ensures

counted : (c : After-from) → c.args.fixed.now.layout.constructors.count ≡ length (setting_in c.args.desc.now c.args.fixed.now).description.constructors
unfolding setting_in
counted c = sym (constructors-length _ _)

-- what was gathered is the description's
gathered-in : (c : After-from) → c.in-Some.starts ≡ table_starts (setting_in c.args.desc.now c.args.fixed.now).description
unfolding setting_in
gathered-in c = c.requires.gathered _ c.in-Some.is

pub bounds-starts-from : goal.bounds-starts-from
bounds-starts-from c =
    omega (arith, is-root (goal.at.bounds-starts-from c).After-from, root-low _ (obeyed-in _ _ c.requires) (some_in _ _ c.requires))

pub overflow_sub-result : goal.overflow_sub-result
overflow_sub-result c =
    let here = (goal.at.overflow_sub-result c).After-from in
    rw (is-root here) (root-first-within _ (obeyed-in _ _ c.requires) (some_in _ _ c.requires) c.in-Some.starts (gathered-in here) _ (counted here))

pub returns-in-Some : goal.returns-in-Some
returns-in-Some c =
    let here = (goal.at.returns-in-Some c).After-from in
    rw (is-root here) (gathered-root _ (obeyed-in _ _ c.requires) (some_in _ _ c.requires) c.in-Some.starts (gathered-in here) _ (counted here))

pub returns : goal.returns
unfolding setting_in
returns c = record { first = c.root_table.ensures.first_value; count = c.root_table.ensures.count_value }
