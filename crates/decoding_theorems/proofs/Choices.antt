-- Demand 2, for an instruction: what is taken in each table lies inside every other matching constructor, and "no match" means that
-- none matches.
use Prim.Native.Nat.{ℕ, ◌+◌, ◌-◌}
use mathlib.Core.List.{List}
use mathlib.Core.Path.{◌≡◌, refl, ap, subst, ◌∙◌}
use native.Mathlib.Omega.{arith}
use lib.ListN.{drop}
use Rattle.format.specs.Description.{Description}
use Rattle.format.specs.Tables.{table_first}
use Rattle.format.specs.declared.Constructor.{Constructor}
use Rattle.format.specs.declared.Operand.{Operand}
use Rattle.format.proofs.Formation.{RulesHold}
use Rattle.std.specs.Prelude.{Ok}
use Rattle.choosing_spec.specs.Records.{TakenIn, NoneIn}
use Rattle.choosing.proofs.Records.{taken_in, none_in}
use Rattle.decoding_spec.specs.Tree.{Node, Nodes, rows_of, rows_of_all}
use Rattle.decoding_spec.specs.Walk.{done, refused, choice_in}
use Rattle.decoding_spec.specs.Instruction.{instruction_of}
use Rattle.decoding_spec.specs.declared.State.{State}
use Rattle.decoding_spec.specs.declared.Refusal.TheVariants.{NoMatch}
use Rattle.decoding_theorems.specs.Demand.{InmostRow}
use Rattle.decoding_theorems.specs.Facts.{Each}
use Rattle.decoding_theorems.specs.Relation.{TableWalk, OperandWalk, OperandsWalk, taken, number, name, compute, table, last, next}
use Rattle.decoding_theorems.proofs.Instructions.{relation, refused-walked}
use Rattle.decoding_theorems.proofs.Refusals.{choice-refused}
use Rattle.decoding_theorems.proofs.Rows.{each_append}
use Rattle.decoding_theorems.proofs.Taken.{takes, none-taken}

abbrev context : State → ℕ
context st = st.context

module _ (d : Description) (o : RulesHold d) (c : ℕ) (input : List ℕ) where
  -- constructor k is what table t takes at a place
  inmost : (t at k : ℕ) (st : State) → st.context ≡ c → choice_in d t (drop at input) st.context ≡ Ok k → TakenIn d t (drop at input) c k
  inmost t at k st h e =
      let w = takes d st.context t (drop at input) o k e in
      let same : table_first d t + (k - table_first d t) ≡ k = omega (arith, w.from) in
      subst (λ (x : ℕ). TakenIn d t (drop at input) x k) h
      (subst (λ (i : ℕ). TakenIn d t (drop at input) st.context i) same (taken_in d o t (drop at input) st.context (k - table_first d t) w.taken))

  mutual
    unfolding rows_of rows_of_all

    table-rows : {t at l : ℕ} {st st' : State} {n : Node} → TableWalk d input t at st n l st' → st.context ≡ c
        → Each (InmostRow d c input) (rows_of n) × (st'.context ≡ c)
    table-rows (taken {t} {at} {k} {st} x f) h =
        let r = operands-rows f h in
        ((λ z. (t, inmost t at k st h x.chosen), r.0), ap context x.state ∙ r.1)

    operand_rows : {x : Operand} {at l : ℕ} {st st' : State} {n : Node} → OperandWalk d input x at st n l st' → st.context ≡ c
        → Each (InmostRow d c input) (rows_of n) × (st'.context ≡ c)
    operand_rows (number r q) h = ((λ z. absurd (omega arith), tt), ap context r.state ∙ h)
    operand_rows (name r q) h = ((λ z. absurd (omega arith), tt), ap context r.state ∙ h)
    operand_rows (compute r) h = ((λ z. absurd (omega arith), tt), ap context r.state ∙ h)
    operand_rows (table z y w) h = table-rows w h

    operands-rows : {k : Constructor} {at left i far far' : ℕ} {ends : List ℕ} {st st' : State} {f : Nodes}
        → OperandsWalk d input k at left i ends far st f far' st' → st.context ≡ c → Each (InmostRow d c input) (rows_of_all f) × (st'.context ≡ c)
    operands-rows last h = (tt, h)
    operands-rows (next {n} {f} x r) h =
        let a = operand_rows x h in
        let b = operands-rows r a.1 in
        (each_append (InmostRow d c input) (rows_of n) (rows_of_all f) a.0 b.0, b.1)

  pub inmost-rows : (a : ℕ) (n : Node) (l : ℕ) (st : State) → instruction_of d c a input ≡ done n l st → Each (InmostRow d c input) (rows_of n)
  inmost-rows a n l st e = (table-rows (relation d c a input n l st e).root refl).0

  pub none-there : (a p t : ℕ) → instruction_of d c a input ≡ refused (NoMatch p t) → NoneIn d t (drop p input) c
  none-there a p t e =
      none_in d o t (drop p input) c
      (none-taken d c t (drop p input) (choice-refused d c input (NoMatch p t) (refused-walked d c a input (NoMatch p t) (λ q z. cc) e)))
