-- A done instruction lies in the input and in the limits, and so does every row; its state has counted its rows.
use Prim.Native.Nat.{ℕ, ◌+◌, ◌≤◌}
use mathlib.Core.List.{List}
use mathlib.Core.Path.{◌≡◌, ap}
use native.Mathlib.Omega.{arith}
use lib.ListN.{length, length-append}
use Rattle.format.specs.Numbers.{most_rows}
use Rattle.format.specs.Description.{Description}
use Rattle.format.specs.Tables.{root_of}
use Rattle.decoding_spec.specs.State.{starting}
use Rattle.format.specs.declared.Constructor.{Constructor}
use Rattle.format.specs.declared.Operand.{Operand}
use Rattle.decoding_spec.specs.Tree.{Node, Nodes, rows_of, rows_of_all}
use Rattle.decoding_spec.specs.Walk.{done, walked_of}
use Rattle.decoding_spec.specs.Instruction.{instruction_of}
use Rattle.decoding_spec.specs.declared.State.{State}
use Rattle.decoding_theorems.specs.Facts.{Each, end_of, InBounds}
use Rattle.decoding_theorems.specs.Relation.{TableWalk, OperandWalk, OperandsWalk, Fits, taken, number, name, compute, table, last, next}
use Rattle.decoding_theorems.proofs.Relation.{walked}
use Rattle.decoding_theorems.proofs.Instructions.{relation}
use Rattle.decoding_theorems.proofs.Rows.{each_append}

abbrev used : State → ℕ
used st = st.used

module _ (d : Description) (input : List ℕ) where
  mutual
    unfolding rows_of rows_of_all

    -- the rows used are counted
    pub table-used : {t at : ℕ} {st st' : State} {n : Node} {l : ℕ} → TableWalk d input t at st n l st' → st'.used ≡ st.used + length (rows_of n)
    table-used (taken c f) = omega (arith, ap used c.state, operands-used f)

    operand-used : {x : Operand} {at : ℕ} {st st' : State} {n : Node} {l : ℕ} → OperandWalk d input x at st n l st'
        → st'.used ≡ st.used + length (rows_of n)
    operand-used (number r q) = omega (arith, ap used r.state)
    operand-used (name r q) = omega (arith, ap used r.state)
    operand-used (compute r) = omega (arith, ap used r.state)
    operand-used (table z y w) = table-used w

    operands-used : {k : Constructor} {at left o far far' : ℕ} {ends : List ℕ} {st st' : State} {f : Nodes}
        → OperandsWalk d input k at left o ends far st f far' st' → st'.used ≡ st.used + length (rows_of_all f)
    operands-used last = omega arith
    operands-used (next {n} {f} x r) = omega (arith, operand-used x, operands-used r, length-append (rows_of n) (rows_of_all f))

  mutual
    -- there was room for them
    table-few : {t at : ℕ} {st st' : State} {n : Node} {l : ℕ} → TableWalk d input t at st n l st' → st'.used ≤ most_rows
    table-few (taken c f) = rw c.state (operands-few f (omega (arith, c.fits.room)))

    operand-few : {x : Operand} {at : ℕ} {st st' : State} {n : Node} {l : ℕ} → OperandWalk d input x at st n l st' → st'.used ≤ most_rows
    operand-few (number r q) = omega (arith, ap used r.state, r.fits.room)
    operand-few (name r q) = omega (arith, ap used r.state, r.fits.room)
    operand-few (compute r) = omega (arith, ap used r.state, r.fits.room)
    operand-few (table z y w) = table-few w

    operands-few : {k : Constructor} {at left o far far' : ℕ} {ends : List ℕ} {st st' : State} {f : Nodes}
        → OperandsWalk d input k at left o ends far st f far' st' → st.used ≤ most_rows → st'.used ≤ most_rows
    operands-few last u = u
    operands-few (next x r) u = operands-few r (operand-few x)

  -- the farthest end is one of the ends, or what it was before
  operands-far : {k : Constructor} {at left o far far' : ℕ} {ends : List ℕ} {st st' : State} {f : Nodes}
      → OperandsWalk d input k at left o ends far st f far' st' → far ≤ far'
  operands-far last = omega arith
  operands-far (next x r) = omega (arith, operands-far r)

  mutual
    unfolding rows_of rows_of_all

    table-ends : {t at : ℕ} {st st' : State} {n : Node} {l : ℕ} → TableWalk d input t at st n l st' → (end : ℕ) → at + l ≤ end
        → Each (λ r. end_of d r ≤ end) (rows_of n)
    table-ends (taken c f) end w = (w, operands_end f end (omega (arith, c.size)))

    operand-ends : {x : Operand} {at : ℕ} {st st' : State} {n : Node} {l : ℕ} → OperandWalk d input x at st n l st' → (end : ℕ) → at + l ≤ end
        → Each (λ r. end_of d r ≤ end) (rows_of n)
    operand-ends (number r q) end w = (rw r.size at w, tt)
    operand-ends (name r q) end w = (rw r.size at w, tt)
    operand-ends (compute r) end w = (omega arith, tt)
    operand-ends (table z y t) end w = table-ends t end w

    operands_end : {k : Constructor} {at left o far far' : ℕ} {ends : List ℕ} {st st' : State} {f : Nodes}
        → OperandsWalk d input k at left o ends far st f far' st' → (end : ℕ) → at + far' ≤ end → Each (λ r. end_of d r ≤ end) (rows_of_all f)
    operands_end last end w = tt
    operands_end (next {n} {f} x r) end w =
        each_append (λ r. end_of d r ≤ end) (rows_of n) (rows_of_all f) (operand-ends x end (omega (arith, operands-far r))) (operands_end r end w)

  table_fits : {t at : ℕ} {st st' : State} {n : Node} {l : ℕ} → TableWalk d input t at st n l st' → Fits input at st l
  table_fits (taken c f) = c.fits

-- of the walk's tree, and of the instruction's
root-bounds : (d : Description) (c : ℕ) (s : List ℕ) (n : Node) (l : ℕ) (st : State) → 1 ≤ l → TableWalk d s (root_of d) 0 (starting c) n l st → InBounds d s n l
root-bounds d c s n l st some root =
    let r = table_fits d s root in
    record {
      some = some;
      near = omega (arith, r.near);
      here = omega (arith, r.here);
      few = omega (arith, table-used d s root, table-few d s root);
      rows = table-ends d s root l (omega arith);
    }

pub walked-bounds : (d : Description) (c : ℕ) (s : List ℕ) (n : Node) (l : ℕ) (st : State) → walked_of d c s ≡ done n l st → InBounds d s n l
walked-bounds d c s n l st e = let w = walked d c s n l st e in root-bounds d c s n l st w.some w.root

pub in_bounds : (d : Description) (c a : ℕ) (s : List ℕ) (n : Node) (l : ℕ) (st : State) → instruction_of d c a s ≡ done n l st → InBounds d s n l
in_bounds d c a s n l st e = let i = relation d c a s n l st e in root-bounds d c s n l st i.some i.root

-- the state's count of rows is that of the tree
pub walked-rows : (d : Description) (c : ℕ) (s : List ℕ) (n : Node) (l : ℕ) (st : State) → walked_of d c s ≡ done n l st → st.used ≡ length (rows_of n)
walked-rows d c s n l st e = let u = table-used d s (walked d c s n l st e).root in omega arith

pub used-rows : (d : Description) (c a : ℕ) (s : List ℕ) (n : Node) (l : ℕ) (st : State) → instruction_of d c a s ≡ done n l st → st.used ≡ length (rows_of n)
used-rows d c a s n l st e = let u = table-used d s (relation d c a s n l st e).root in omega arith
