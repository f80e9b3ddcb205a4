use Prim.Native.Nat.{ℕ, ◌<◌}
use Rattle.std.specs.Prelude.{Err}
use borrow.Author.Rules.{rules}
use mathlib.Core.Path.{◌≡◌, sym, ◌∙◌}
use native.Mathlib.Omega.{arith}
use Rattle.tree_form.proofs.Nodes.{bit-fits}
use Rattle.tree_form.proofs.Steps.{Half, walk-out, walk-fault, walk-leaf, zero-failed, zero-next, walk-both}
use Rattle.tree_form.proofs.+walk.Goals.{After-bit-bit, After-walk}
use Rattle.tree_form.proofs.+walk.Goals as goal

-- the bit is one of its kind
walk-bit : (t : ℕ) (c : After-bit-bit t) → (c.bit-bit.result < 64) × ((c.kind-kind.result ≡ 1 → ⊥) → c.bit-bit.result < 32)
walk-bit t c =
    rw (c.bit-bit.ensures, c.kind-kind.ensures)
    (bit-fits _ _ _ _ _ (sym c.node_ok.ensures ∙ c.if-not-node_ok.false) (λ e. c.if-kind-eq0.false (c.kind-kind.ensures ∙ e)))

-- a node that is there, sound and a test, and its zero side
walk-half : (t : ℕ) (c : After-walk t)
    → Half c.args.first c.args.n c.args.tree.now c.args.p c.args.i c.side_of.result c.walk.result
walk-half t c =
    record {
      here = rw c.requires.count_value.0 at c.if-count-i.false;
      good = sym c.node_ok.ensures ∙ c.if-not-node_ok.false;
      test = λ e. c.if-kind-eq0.false (c.kind-kind.ensures ∙ e);
      path = rw (c.kind-kind.ensures, c.bit-bit.ensures) at c.side_of.ensures;
      walked = c.walk.ensures;
    }

pub returns-then-count-i : goal.returns-then-count-i
returns-then-count-i t c = walk-out _ _ _ _ _ (rw c.requires.count_value.0 at c.if-count-i.true)

pub returns-then-not-node_ok : goal.returns-then-not-node_ok
returns-then-not-node_ok t c =
    walk-fault _ _ _ _ _ (rw c.requires.count_value.0 at c.if-count-i.false) (sym c.node_ok.ensures ∙ c.if-not-node_ok.true)

pub returns-then-kind-eq0 : goal.returns-then-kind-eq0
returns-then-kind-eq0 t c =
    walk-leaf _ _ _ _ _ (rw c.requires.count_value.0 at c.if-count-i.false) (sym c.node_ok.ensures ∙ c.if-not-node_ok.false)
    (sym c.kind-kind.ensures ∙ c.if-kind-eq0.true)

pub side_of-requires : goal.side_of-requires
side_of-requires t c =
    let w = walk-bit t (goal.at.side_of-requires t c).After-bit-bit in (w.0, w.1, omega arith)

pub side_of-requires-2 : goal.side_of-requires-2
side_of-requires-2 t c =
    let w = walk-bit t (goal.at.side_of-requires-2 t c).After-bit-bit in (w.0, w.1, omega arith)

pub walk-requires-2 : goal.walk-requires-2
walk-requires-2 t c =
    let h = zero-next (walk-half t (goal.at.walk-requires-2 t c).After-walk) _ c.in_ok-zero.was in
    (omega arith, (c.requires.count_value, c.requires.n_bound))

pub returns-in_err-zero : goal.returns-in_err-zero
returns-in_err-zero t c =
    let e : c.from_residual.result ≡ Err c.in_err-zero.field-0.0 = search rules in
    rw e (zero-failed (walk-half t (goal.at.returns-in_err-zero t c).After-walk) _ c.in_err-zero.was)

pub returns-in_err-one : goal.returns-in_err-one
returns-in_err-one t c =
    let e : c.from_residual-in_err-one.result ≡ Err c.in_err-one.field-0.0 = search rules in
    rw e
    (walk-both (walk-half t (goal.at.returns-in_err-one t c).After-walk) _ c.in_ok-zero.was _ _
    (rw (c.kind-kind.ensures, c.bit-bit.ensures) at c.side_of-2.ensures) c.in_err-one.ensures)

pub returns : goal.returns
returns t c =
    rw (c.min-2.ensures, c.own_side-own.ensures, c.min.ensures, c.place.ensures)
    (walk-both (walk-half t (goal.at.returns t c).After-walk) _ c.in_ok-zero.was _ _
    (rw (c.kind-kind.ensures, c.bit-bit.ensures) at c.side_of-2.ensures) c.in_ok-one.ensures)
