use Rattle.format.proofs.Tables.{sorted}
use Rattle.format.proofs.Lists.{constructors-length}
use Rattle.format.proofs.Formation.{obeyed}
use Rattle.format.specs.Tables.{table_first}
use Rattle.format.specs.Rules.{table_at}
use Rattle.format.specs.Description.{description}
use Rattle.lists.proofs.Below.{first-here, all_of}
use lib.ListN.{length}
use lib.Dec.{ltb}
use borrow.Author.Tests.{lt-ltb, le-ltb}
use native.Mathlib.Omega.{arith}
use mathlib.Core.Path.{◌≡◌, sym}
use Prim.Native.Nat.{◌≤◌}
use Rattle.tables.proofs.first_from.Goals as goal

pub loop-low-init : goal.loop-low-init
loop-low-init c = (omega arith, omega arith, λ i h. absurd (omega arith), λ h. absurd (omega arith))

pub table_at-table-requires : goal.table_at-table-requires
table_at-table-requires c = record { sections_in_bounds = c.requires.room; i_lt_count = omega arith }

pub loop-low-preserved-then-table-t : goal.loop-low-preserved-then-table-t
loop-low-preserved-then-table-t c = (
  omega arith,
  omega arith,
  λ i h.
      let d = description c.args.desc.now c.args.layout in
      let m = c.loop-low.low in
      let a : table_at d i ≤ c.table_at-table.result = rw c.table_at-table.ensures (sorted d (obeyed _ _ c.requires) i _ (omega arith) (rw constructors-length (omega arith))) in
      omega (arith, c.if-table-t.true),
  c.loop-low.invariant.3,
)

pub loop-low-preserved : goal.loop-low-preserved
loop-low-preserved c = (
  omega arith,
  omega arith,
  c.loop-low.invariant.2,
  λ h. rw (← c.table_at-table.ensures) c.if-table-t.false,
)

pub returns : goal.returns
unfolding table_first
returns c =
    let d = description c.args.desc.now c.args.layout in
    let t = c.args.t in
    let inv = c.loop-low.invariant in
    let e : c.loop-low.high ≡ c.loop-low.low = omega arith in
    sym (first-here (λ i. ltb (table_at d i) t) (length d.constructors) c.loop-low.low
    (record {
      within = rw constructors-length (omega arith);
      before = all_of _ _ (λ i h. lt-ltb (table_at d i) t (inv.2 i h));
      fails = λ h. le-ltb (table_at d c.loop-low.low) t ((rw e at inv.3) (rw constructors-length at h));
    }))
