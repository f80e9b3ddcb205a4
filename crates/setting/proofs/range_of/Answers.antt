use Rattle.setting.specs.Fixed.{setting_in}
use Rattle.setting.proofs.Laws.{obeyed-in, in_order, gathered-range}
use Rattle.setting.proofs.range_of.Goals as goal

pub overflow_sub-result : goal.overflow_sub-result
unfolding setting_in
overflow_sub-result c =
    rw c.from-at.ensures (in_order _ (obeyed-in _ _ c.requires.0) _ c.requires.1 c.in-Some.starts (c.requires.0.gathered _ c.in-Some.is))

pub returns-in-Some : goal.returns-in-Some
unfolding setting_in
returns-in-Some c =
    rw c.from-at.ensures (gathered-range _ (obeyed-in _ _ c.requires.0) _ c.requires.1 c.in-Some.starts (c.requires.0.gathered _ c.in-Some.is))

pub returns : goal.returns
unfolding setting_in
returns c = rw (← c.from.ensures) (record { first = c.table_of.ensures.first_value; count = c.table_of.ensures.count_value })
