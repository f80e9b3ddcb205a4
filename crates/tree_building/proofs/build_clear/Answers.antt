use Rattle.tree_building.proofs.Entry.{counted-fits, builds-tree, builds-large}
use native.Mathlib.Omega.{arith}
use Rattle.tree_building.proofs.build_clear.Goals as goal

pub put_word-requires : goal.put_word-requires
put_word-requires c =
    let fit = counted-fits _ _ _ _ _ c.most_nodes-most.ensures c.count.ensures c.in-Some.is in
    record { at_in_bounds = omega (arith, fit.size, fit.few, fit.room_for); word_bound = omega (arith, fit.size, fit.few) }

pub write-requires : goal.write-requires
write-requires c =
    let fit = counted-fits _ _ _ _ _ c.most_nodes-most.ensures c.count.ensures c.in-Some.is in record { ready = c.requires; count_value = fit.size; count_bound = (omega (arith, fit.size, fit.few), omega (arith, fit.size, fit.room_for, c.put_word.ensures.kept.same)) }

pub returns-in_default : goal.returns-in_default
returns-in_default c = builds-large _ _ _ _ c.most_nodes-most.ensures c.count.ensures c.in_default.not-Some

pub returns : goal.returns
returns c =
    let fit = counted-fits _ _ _ _ _ c.most_nodes-most.ensures c.count.ensures c.in-Some.is in
    builds-tree _ _ _ _ _ fit c.put_word.ensures c.write.ensures (λ k. omega (arith, c.type_inv.out k))
