use Rattle.tree_building.proofs.Entry.{ready, clear-outcome, pair-outcome}
use Rattle.choosing.proofs.Settling.{patterns-are}
use Rattle.choosing_theorems.proofs.Clear.{pair-first}
use native.Mathlib.Omega.{arith}
use mathlib.Core.Path.{refl, sym, ◌∙◌}
use Rattle.tree_building.proofs.build_for.Goals as goal

pub build_clear-requires : goal.build_clear-requires
build_clear-requires c =
    ready c.args.desc.now c.args.layout (λ i. omega (arith, c.type_inv.desc i)) c.requires.well_formed c.args.table c.requires.count_bound
    (sym c.first_clash.ensures ∙ c.in-None.is)

pub overflow_add-result : goal.overflow_add-result
overflow_add-result c =
    let pair = pair-first _ _ _ _ (sym c.first_clash.ensures ∙ c.in-Some.is) in
    omega (arith, pair.order, pair.inside, c.requires.count_bound, c.requires.well_formed.room.constructors)

pub overflow_add-result-in-Some : goal.overflow_add-result-in-Some
overflow_add-result-in-Some c =
    let pair = pair-first _ _ _ _ (sym c.first_clash.ensures ∙ c.in-Some.is) in
    omega (arith, pair.order, pair.inside, c.requires.count_bound, c.requires.well_formed.room.constructors)

pub returns-in-None : goal.returns-in-None
returns-in-None c =
    rw (clear-outcome _ _ _ (sym c.first_clash.ensures ∙ c.in-None.is))
    (rw (patterns-are c.args.desc.now c.args.layout c.args.table.first) at c.build_clear.ensures)

pub returns-in-Some : goal.returns-in-Some
returns-in-Some c =
    rw (pair-outcome _ _ _ _ _ (sym c.first_clash.ensures ∙ c.in-Some.is)) (record { answer = refl; bytes = refl })
