use Rattle.rules.proofs.Gathered.{marks-none, marks-one, marks-all}
use Rattle.format.specs.Numbers.{byte_values}
use Rattle.format.proofs.Lists.{constructors-length}
use Rattle.format.specs.Rules.{has_table}
use lib.ListN.{length-set}
use native.Mathlib.Omega.{arith}
use mathlib.Core.Path.{◌≡◌, ◌∙◌}
use Rattle.rules.proofs.mark_tables.Invariants.{hits}
use Rattle.rules.proofs.mark_tables.Goals as goal

pub loop-i-init : goal.loop-i-init
loop-i-init c =
    let empty = c.requires.1 in
    let start = marks-none byte_values (hits c.args.desc.now c.args.layout) in
    (rw empty, rw empty start)

pub loop-i-preserved : goal.loop-i-preserved
loop-i-preserved c =
    let inv = c.loop-i.invariant in (
      simp length-set inv.0,
      marks-one byte_values c.loop-i.i c.table_at-table.result c.loop-i.marks (hits _ _) (omega arith) (omega arith)
          (λ k l. rw c.table_at-table.ensures) inv.1,
    )

pub returns : goal.returns
unfolding has_table
returns c =
    let inv = c.loop-i.invariant in
    let s : c.loop-i.i ≡ c.args.layout.constructors.count = omega arith in
    marks-all _ _ inv.0 (record { marked = λ k h. inv.1.marked k h ∙ rw (constructors-length, s) })
