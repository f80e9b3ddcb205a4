use Prim.Native.Nat.{◌+◌}
use native.Mathlib.Omega.{arith}
use Rattle.choosing.specs.Patterns.{patterns_in}
use Rattle.choosing.specs.Scan.{Skips}
use Rattle.choosing.proofs.Keeping.{skip-none, skip-next}
use Rattle.choosing.proofs.skip_four.Goals.{Else-may_agree, Else-may_agree-2, Else-may_agree-3, Else-may_agree-4}
use Rattle.choosing.proofs.skip_four.Goals as goal

-- past the first record, the second, the third, the fourth
past_one : (c : Else-may_agree) → Skips (patterns_in c.args.desc.now c.args.constructors c.args.table) c.args.input c.args.table.count c.args.from (c.args.from + 1)
past_one c = skip-next _ _ _ _ c.args.from _ (omega arith) (omega (arith, c.requires.from_bound.0)) (c.may_agree.ensures c.if-may_agree.false) (skip-none _ _ _ _ (omega (arith, c.requires.from_bound.0)))

past_two : (c : Else-may_agree-2) → Skips (patterns_in c.args.desc.now c.args.constructors c.args.table) c.args.input c.args.table.count c.args.from (c.args.from + 1)
    → Skips (patterns_in c.args.desc.now c.args.constructors c.args.table) c.args.input c.args.table.count c.args.from (c.args.from + 2)
past_two c = skip-next _ _ _ _ (c.args.from + 1) _ (omega arith) (omega (arith, c.requires.from_bound.0)) (c.may_agree-2.ensures c.if-may_agree-2.false)

past_three : (c : Else-may_agree-3) → Skips (patterns_in c.args.desc.now c.args.constructors c.args.table) c.args.input c.args.table.count c.args.from (c.args.from + 2)
    → Skips (patterns_in c.args.desc.now c.args.constructors c.args.table) c.args.input c.args.table.count c.args.from (c.args.from + 3)
past_three c = skip-next _ _ _ _ (c.args.from + 2) _ (omega arith) (omega (arith, c.requires.from_bound.0)) (c.may_agree-3.ensures c.if-may_agree-3.false)

pub returns-then-may_agree : goal.returns-then-may_agree
returns-then-may_agree c = (skip-none _ _ _ _ (omega (arith, c.requires.from_bound.0)), omega arith)

pub returns-then-may_agree-2 : goal.returns-then-may_agree-2
returns-then-may_agree-2 c = (past_one (goal.at.returns-then-may_agree-2 c).Else-may_agree, omega arith)

pub returns-then-may_agree-3 : goal.returns-then-may_agree-3
returns-then-may_agree-3 c =
    let at = goal.at.returns-then-may_agree-3 c in (past_two at.Else-may_agree-2 (past_one at.Else-may_agree), omega arith)

pub returns-then-may_agree-4 : goal.returns-then-may_agree-4
returns-then-may_agree-4 c =
    let at = goal.at.returns-then-may_agree-4 c in
    (past_three at.Else-may_agree-3 (past_two at.Else-may_agree-2 (past_one at.Else-may_agree)), omega arith)

pub returns : goal.returns
returns c =
    let at = goal.at.returns c in (
      skip-next _ _ _ _ (c.args.from + 3) _ (omega arith) (omega (arith, c.requires.from_bound.0)) (c.may_agree-4.ensures c.if-may_agree-4.false)
          (past_three at.Else-may_agree-3 (past_two at.Else-may_agree-2 (past_one at.Else-may_agree))),
      omega arith,
    )
