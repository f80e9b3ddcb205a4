use Rattle.text.proofs.Parts.{moved, no-piece, next-piece, full-piece, all-pieces, part-constructor, piece-letters, piece-operand}
use Rattle.text.proofs.Pieces.{showable, pieces-inside}
use Rattle.scratch_rows.proofs.Standing.{kind-here}
use Rattle.scratch_rows.specs.Places.{number_at, skip}
use Rattle.text.specs.Text.{constructor_text}
use Rattle.format.specs.Description.{no_constructor, no_piece}
use Rattle.setting.proofs.Laws.{obeyed-in}
use Rattle.text.specs.Prints.{described}
use lib.IntN.{ℤ}
use lib.ListN.{get_or}
use mathlib.Core.List.{List}
use native.Mathlib.Omega.{arith}
use mathlib.Core.Path.{◌≡◌, sym, ◌∙◌}
use Prim.Native.Nat.{ℕ, ◌<◌, ◌≤◌, ◌+◌, ◌-◌}
use Rattle.text.proofs.+print.Goals.{print_constructor-After-constructor-constructor, print_piece-Else-piece-eq0}
use Rattle.text.proofs.+print.Goals as goal

pub print_constructor-constructor-constructor-requires : goal.print_constructor-constructor-constructor-requires
unfolding number_at
print_constructor-constructor-constructor-requires t c =
    (c.requires.printable.fixed, rw c.column-number.ensures (c.requires.printable.sound.constructors c.args.r c.requires.printable.row c.requires.r_value))

-- the constructor that was read is that of the row
found : (t : ℕ)
    (c : print_constructor-After-constructor-constructor t)
    → let d = described c.args.desc.now c.args.fixed.now in
    c.constructor-constructor.result ≡ get_or d.constructors (number_at c.args.rows.now c.args.r) no_constructor
unfolding number_at
found t c = rw c.column-number.ensures at c.constructor-constructor.ensures

pub print_constructor-loop-q-init : goal.print_constructor-loop-q-init
print_constructor-loop-q-init t c = no-piece _ _ _ _ _ _ _ c.requires.printable.place

pub print_constructor-print_piece-requires : goal.print_constructor-print_piece-requires
print_constructor-print_piece-requires t c =
    let d = described c.args.desc.now c.args.fixed.now in
    let o = obeyed-in _ _ c.requires.printable.fixed in
    let k = number_at c.args.rows.now c.args.r in
    let low = c.requires.printable.sound.constructors c.args.r c.requires.printable.row c.requires.r_value in
    let read = found t (goal.at.print_constructor-print_piece-requires t c).After-constructor-constructor in
    let test = rw read at c.loop-q-test.true in (
      omega (arith, c.decreases, c.requires.printable.sound.few, c.requires.printable.row),
      (
        moved c.requires.printable c.requires.printable.row c.loop-q.invariant.room,
        record {
          kind = c.requires.r_value;
          inside = rw read (omega (arith, pieces-inside d o k low, test));
          showable = rw read (showable d o k low c.loop-q.q test);
        },
      ),
    )

pub print_constructor-returns-in_err-end : goal.print_constructor-returns-in_err-end
unfolding constructor_text
print_constructor-returns-in_err-end t c =
    λ depth g.
    let adds = c.print_piece.ensures in
    let after = c.print_piece.new.out in
    rw c.from_residual.ensures
    (rw (found t (goal.at.print_constructor-returns-in_err-end t c).After-constructor-constructor) at
    (full-piece _ _ _ _ _ _ _ _ _ _ c.loop-q.invariant c.loop-q-test.true _ _ adds c.in_err-end.was depth g after))

pub print_constructor-loop-q-preserved : goal.print_constructor-loop-q-preserved
print_constructor-loop-q-preserved t c =
    let adds = c.print_piece.ensures in
    let same = c.print_piece.auto.out in
    next-piece _ _ _ _ _ _ _ _ _ _ c.loop-q.invariant c.loop-q-test.true _ _ adds _ c.in_ok-end.was same

pub print_constructor-returns : goal.print_constructor-returns
unfolding constructor_text
print_constructor-returns t c = λ depth g. rw (found t (goal.at.print_constructor-returns t c).After-constructor-constructor) at (all-pieces _ _ _ _ _ _ _ _ _ _ c.loop-q.invariant c.loop-q-test.false depth g)

pub print_part-print_constructor-requires : goal.print_part-print_constructor-requires
print_part-print_constructor-requires t c = (
  omega (arith, c.decreases, c.requires.sound.few, c.requires.row),
  (c.requires, sym (kind-here _ c.args.r _ c.column-kind.ensures) ∙ c.if-kind-eq0.true),
)

pub print_part-returns-then-kind-eq0 : goal.print_part-returns-then-kind-eq0
print_part-returns-then-kind-eq0 t c =
    part-constructor _ _ _ (omega (arith, c.requires.sound.few, c.requires.row)) _ _ _ _
    (sym (kind-here _ c.args.r _ c.column-kind.ensures) ∙ c.if-kind-eq0.true)
    c.print_constructor.ensures

pub print_part-print_value-requires : goal.print_part-print_value-requires
print_part-print_value-requires t c =
    record {
      printable = c.requires;
      value_row = record { is = kind-here _ c.args.r _ c.column-kind.ensures; other = c.if-kind-eq0.false };
    }

pub print_piece-put_letters-requires : goal.print_piece-put_letters-requires
print_piece-put_letters-requires t c =
    let read = c.piece-piece.ensures in
    record {
      fixed = (c.requires.printable.fixed, rw read (c.requires.piece_row.showable.letters (rw read at c.if-piece-eq0.true)));
      at_in_bounds = c.requires.printable.place;
    }

pub print_piece-returns-then-piece-eq0 : goal.print_piece-returns-then-piece-eq0
print_piece-returns-then-piece-eq0 t c =
    λ depth g.
    let read = c.piece-piece.ensures in
    piece-letters _ _ _ _ _ _ _ (rw read at c.if-piece-eq0.true) (rw read at c.put_letters.ensures)

-- the row of operand n stands behind its constructor's
abbrev Behind : List ℤ → ℕ → ℕ → ℕ → Type 0
Behind rows r n used = (r < skip rows (r + 1) (n - 1)) × (skip rows (r + 1) (n - 1) < used)

behind : (t : ℕ) (c : print_piece-Else-piece-eq0 t)
    → Behind c.args.rows.now c.args.r c.piece-piece.result.n c.args.used
behind t c =
    let read = c.piece-piece.ensures in
    let other = rw read at c.if-piece-eq0.false in
    let p = get_or (described c.args.desc.now c.args.fixed.now).pieces c.args.i no_piece in
    let some : 1 ≤ p.n = c.requires.piece_row.showable.some other in
    let few = c.requires.piece_row.showable.few other in
    rw read (c.requires.printable.sound.operands c.args.r c.requires.printable.row c.requires.piece_row.kind (p.n - 1) (omega (arith, few)))

pub print_piece-row_behind-row-requires : goal.print_piece-row_behind-row-requires
print_piece-row_behind-row-requires t c =
    (c.requires.printable.sound.long, omega (arith, c.requires.printable.sound.few, (behind t (goal.at.print_piece-row_behind-row-requires t c).Else-piece-eq0).1))

pub print_piece-print_part-requires : goal.print_piece-print_part-requires
print_piece-print_part-requires t c =
    let row = behind t (goal.at.print_piece-print_part-requires t c).Else-piece-eq0 in (
      omega (arith, c.decreases, c.requires.printable.sound.few, c.requires.printable.row, c.row_behind-row.ensures, row.0, row.1),
      moved c.requires.printable (rw c.row_behind-row.ensures row.1) c.requires.printable.place,
    )

pub print_piece-returns : goal.print_piece-returns
print_piece-returns t c =
    λ depth g.
    let read = c.piece-piece.ensures in
    let row = c.row_behind-row.ensures in
    let behind = behind t (goal.at.print_piece-returns t c).Else-piece-eq0 in
    piece-operand _ _ _ _ _ _ _ (rw read at c.if-piece-eq0.false)
    (rw (row, read) at (c.print_part.ensures depth (omega (arith, row, behind.0))))
