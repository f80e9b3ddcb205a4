use Prim.Native.Nat.{ℕ}
use mathlib.Core.Path.{◌≡◌, ap, ◌∙◌}
use borrow.Author.Tests.{eq-eqb, ne_eqb}
use Rattle.std.specs.Prelude.{Option, Some, None, Result, Ok, Err, IsErrAnd}
use Rattle.std.specs.Option.{ok_or}
use Rattle.std.proofs.lemmas.Result.{err_from_is_err_and}
use Rattle.format.specs.Layout.{layout_of, names_from, constructors_from, operands_from, pieces_from, text_from, expressions_from}
use Rattle.format.specs.declared.Layout.{Layout}
use Rattle.format.specs.declared.Read.{Read}
use Rattle.format.specs.declared.Section.{Section}
use Rattle.sections.proofs.read_layout.Goals as goal

-- what a count gave, where `ok_or` goes on with it, and where it does not
found : (k : ℕ) (o : Option (Read Section)) {read : Option (Read Section)} {r : Read Section} → Ok r ≡ ok_or o k → o ≡ read → read ≡ Some r
found k (Some x) e f = cc
found k None e f = cc

missing : (k x : ℕ) (o : Option (Read Section)) {read : Option (Read Section)} → Err x ≡ ok_or o k → o ≡ read → read ≡ None
missing k x (Some y) e f = cc
missing k x None e f = cc

left : (k x : ℕ) (o : Option (Read Section)) (r : Result Layout ℕ) → Err x ≡ ok_or o k → IsErrAnd r (λ y. y ≡ x) → r ≡ Err k
left k x (Some y) r e f = cc
left k x None r e f = let g : (y : ℕ) × (r ≡ Err y) × (y ≡ x) = err_from_is_err_and r f in g.1 ∙ ap Err (cc)

pub returns-in_err-fields : goal.returns-in_err-fields
unfolding layout_of
returns-in_err-fields c =
    rw (missing 1 _ c.count.result c.in_err-fields.ensures.value c.count.ensures) (left 1 _ c.count.result _ c.in_err-fields.ensures.value c.from_residual.ensures.1)

pub returns-in_err-names : goal.returns-in_err-names
unfolding layout_of names_from
returns-in_err-names c =
    rw (found 1 c.count.result c.in_ok-fields.ensures.value c.count.ensures, missing 2 _ c.count-2.result c.in_err-names.ensures.value c.count-2.ensures) (left 2 _ c.count-2.result _ c.in_err-names.ensures.value c.from_residual-in_err-names.ensures.1)

pub returns-in_err-constructors : goal.returns-in_err-constructors
unfolding layout_of names_from constructors_from
returns-in_err-constructors c =
    rw (found 1 c.count.result c.in_ok-fields.ensures.value c.count.ensures, found 2 c.count-2.result c.in_ok-names.ensures.value c.count-2.ensures, missing 3 _ c.count-3.result c.in_err-constructors.ensures.value c.count-3.ensures) (left 3 _ c.count-3.result _ c.in_err-constructors.ensures.value c.from_residual-in_err-constructors.ensures.1)

pub returns-in_err-operands : goal.returns-in_err-operands
unfolding layout_of names_from constructors_from operands_from
returns-in_err-operands c =
    rw (found 1 c.count.result c.in_ok-fields.ensures.value c.count.ensures, found 2 c.count-2.result c.in_ok-names.ensures.value c.count-2.ensures, found 3 c.count-3.result c.in_ok-constructors.ensures.value c.count-3.ensures, missing 4 _ c.count-4.result c.in_err-operands.ensures.value c.count-4.ensures) (left 4 _ c.count-4.result _ c.in_err-operands.ensures.value c.from_residual-in_err-operands.ensures.1)

pub returns-in_err-pieces : goal.returns-in_err-pieces
unfolding layout_of names_from constructors_from operands_from pieces_from
returns-in_err-pieces c =
    rw (found 1 c.count.result c.in_ok-fields.ensures.value c.count.ensures, found 2 c.count-2.result c.in_ok-names.ensures.value c.count-2.ensures, found 3 c.count-3.result c.in_ok-constructors.ensures.value c.count-3.ensures, found 4 c.count-4.result c.in_ok-operands.ensures.value c.count-4.ensures, missing 5 _ c.count-5.result c.in_err-pieces.ensures.value c.count-5.ensures) (left 5 _ c.count-5.result _ c.in_err-pieces.ensures.value c.from_residual-in_err-pieces.ensures.1)

pub returns-in_err-text : goal.returns-in_err-text
unfolding layout_of names_from constructors_from operands_from pieces_from text_from
returns-in_err-text c =
    rw (found 1 c.count.result c.in_ok-fields.ensures.value c.count.ensures, found 2 c.count-2.result c.in_ok-names.ensures.value c.count-2.ensures, found 3 c.count-3.result c.in_ok-constructors.ensures.value c.count-3.ensures, found 4 c.count-4.result c.in_ok-operands.ensures.value c.count-4.ensures, found 5 c.count-5.result c.in_ok-pieces.ensures.value c.count-5.ensures, missing 6 _ c.count-6.result c.in_err-text.ensures.value c.count-6.ensures) (left 6 _ c.count-6.result _ c.in_err-text.ensures.value c.from_residual-in_err-text.ensures.1)

pub returns-in_err-expressions : goal.returns-in_err-expressions
unfolding layout_of names_from constructors_from operands_from pieces_from text_from expressions_from
returns-in_err-expressions c =
    rw (found 1 c.count.result c.in_ok-fields.ensures.value c.count.ensures, found 2 c.count-2.result c.in_ok-names.ensures.value c.count-2.ensures, found 3 c.count-3.result c.in_ok-constructors.ensures.value c.count-3.ensures, found 4 c.count-4.result c.in_ok-operands.ensures.value c.count-4.ensures, found 5 c.count-5.result c.in_ok-pieces.ensures.value c.count-5.ensures, found 6 c.count-6.result c.in_ok-text.ensures.value c.count-6.ensures, ne_eqb _ _ c.if-text-desc.false, missing 7 _ c.count-7.result c.in_err-expressions.ensures.value c.count-7.ensures) (left 7 _ c.count-7.result _ c.in_err-expressions.ensures.value c.from_residual-in_err-expressions.ensures.1)

pub returns-then-text-desc : goal.returns-then-text-desc
unfolding layout_of names_from constructors_from operands_from pieces_from text_from
returns-then-text-desc c =
    rw (found 1 c.count.result c.in_ok-fields.ensures.value c.count.ensures, found 2 c.count-2.result c.in_ok-names.ensures.value c.count-2.ensures, found 3 c.count-3.result c.in_ok-constructors.ensures.value c.count-3.ensures, found 4 c.count-4.result c.in_ok-operands.ensures.value c.count-4.ensures, found 5 c.count-5.result c.in_ok-pieces.ensures.value c.count-5.ensures, found 6 c.count-6.result c.in_ok-text.ensures.value c.count-6.ensures, eq-eqb _ _ c.if-text-desc.true)

pub returns-then-expressions-desc : goal.returns-then-expressions-desc
unfolding layout_of names_from constructors_from operands_from pieces_from text_from expressions_from
returns-then-expressions-desc c =
    rw (found 1 c.count.result c.in_ok-fields.ensures.value c.count.ensures, found 2 c.count-2.result c.in_ok-names.ensures.value c.count-2.ensures, found 3 c.count-3.result c.in_ok-constructors.ensures.value c.count-3.ensures, found 4 c.count-4.result c.in_ok-operands.ensures.value c.count-4.ensures, found 5 c.count-5.result c.in_ok-pieces.ensures.value c.count-5.ensures, found 6 c.count-6.result c.in_ok-text.ensures.value c.count-6.ensures, ne_eqb _ _ c.if-text-desc.false, found 7 c.count-7.result c.in_ok-expressions.ensures.value c.count-7.ensures, ne_eqb _ _ c.if-expressions-desc.true)

pub returns : goal.returns
unfolding layout_of names_from constructors_from operands_from pieces_from text_from expressions_from
returns c =
    rw (found 1 c.count.result c.in_ok-fields.ensures.value c.count.ensures, found 2 c.count-2.result c.in_ok-names.ensures.value c.count-2.ensures, found 3 c.count-3.result c.in_ok-constructors.ensures.value c.count-3.ensures, found 4 c.count-4.result c.in_ok-operands.ensures.value c.count-4.ensures, found 5 c.count-5.result c.in_ok-pieces.ensures.value c.count-5.ensures, found 6 c.count-6.result c.in_ok-text.ensures.value c.count-6.ensures, ne_eqb _ _ c.if-text-desc.false, found 7 c.count-7.result c.in_ok-expressions.ensures.value c.count-7.ensures, eq-eqb _ _ c.if-expressions-desc.false)
