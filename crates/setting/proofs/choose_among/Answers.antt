use mathlib.Core.Path.{◌≡◌, sym, ◌∙◌}
use native.Mathlib.Omega.{arith}
use Prim.Native.Nat.{ℕ}
use Rattle.std.specs.Prelude.{Result}
use Rattle.std.proofs.lemmas.Result.{err_from_is_err_and}
use Rattle.format.proofs.Lists.{constructors-length}
use Rattle.choosing_spec.specs.Choosing.{choose}
use Rattle.choosing_spec.specs.Table.{pattern_from}
use Rattle.choosing_spec.specs.declared.NotChosen.{NotChosen}
use Rattle.setting.specs.Fixed.{setting_in}
use Rattle.setting.proofs.Laws.{few-in, among, taken-inside}
use Rattle.choosing.proofs.Settling.{described}
use Rattle.setting.proofs.choose_among.Goals.{After-choose_in}
use Rattle.setting.proofs.choose_among.Goals as goal

-- `setting::choose_among` meets its contract. Assumes nothing.
pub choose_in-requires : goal.choose_in-requires
unfolding setting_in
choose_in-requires c =
    (c.requires.0.formed.room.constructors, rw constructors-length at c.requires.1)

-- what was chosen by the section is the description's
was : (c : After-choose_in) (q : Result ℕ NotChosen) → c.choose_in.result ≡ q
    → choose (pattern_from (setting_in c.args.desc.now c.args.fixed.now).description c.args.range.first) c.args.range.count c.args.code.now c.args.context ≡ q
unfolding setting_in
was c q e =
    described c.args.desc.now c.args.fixed.now.layout _ _ _ _ _ ((sym c.choose_in.ensures ∙ e))

pub overflow_add-result : goal.overflow_add-result
overflow_add-result c =
    omega (arith, few-in _ _ c.requires.0, taken-inside _ c.args.range _ _ _ (was (goal.at.overflow_add-result c).After-choose_in _ c.in_ok-within.was) c.requires.1)

pub returns-in_err-within : goal.returns-in_err-within
returns-in_err-within c =
    let p = err_from_is_err_and c.from_residual.result c.from_residual.ensures.1 in
    rw (p.1, p.2) (among _ _ _ _ _ (was (goal.at.returns-in_err-within c).After-choose_in _ c.in_err-within.was))

pub returns : goal.returns
returns c = among _ _ _ _ _ (was (goal.at.returns c).After-choose_in _ c.in_ok-within.was)
