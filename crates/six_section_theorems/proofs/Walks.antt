-- Without expressions no operand is computed, so that the walk is document 01's.
use Prim.Native.Nat.{ℕ, zero, suc, ◌+◌, ◌<◌, max}
use mathlib.Core.List.{List}
use mathlib.Core.Path.{◌≡◌, refl, sym, ap, fun_ext, ◌∙◌}
use native.Mathlib.Decide.{dec_lt}
use native.Mathlib.Omega.{arith}
use borrow.Author.Tests.{ne_eqb}
use lib.ListN.{length, get_or, set, replicate, get_or-eq_default}
use Rattle.format.specs.Numbers.{most_rows, operands_each}
use Rattle.format.specs.Description.{Description, no_operand, no_constructor}
use Rattle.lists.proofs.Below.{all-at}
use Rattle.format.specs.Rules.{operand_ok}
use Rattle.format.specs.Tables.{root_of}
use Rattle.format.specs.declared.Constructor.{Constructor}
use Rattle.format.specs.declared.Operand.{Operand}
use Rattle.format.proofs.Formation.{RulesHold}
use Rattle.std.proofs.Common.{Result, Ok, Err}
use Rattle.choosing_spec.specs.declared.NotChosen.{NotChosen}
use Rattle.choosing_spec.specs.declared.NotChosen.TheVariants as choice
use Rattle.decoding_spec.specs.State.{Setting, setting_of, starting, counted}
use Rattle.decoding_spec.specs.Tree.{Nodes, more}
use Rattle.decoding_spec.specs.Walk.{Result as WalkResult, done, refused, Walker, and_then, choice_in, start_of, operand_from, operands_from, closing, constructor_from, taking, table_from, walk_from, reject_empty, walked_from, walked_of}
use Rattle.decoding_spec.specs.Instruction.{instruction_of}
use Rattle.decoding_spec.specs.declared.State.{State}
use Rattle.decoding_theorems.proofs.Records.{expression-placed}
use Rattle.decoding_theorems.proofs.Shapes.{without-expressions}
use Rattle.six_section_theorems.specs.Base.{operand_base, operands_base, constructor_base, taking_base, table_base, walk_base, instruction_base}

-- what follows is the same
then_same : {A B : Type 0} (r : WalkResult A) (f h : A → ℕ → State → WalkResult B) → ((a : A) (l : ℕ) (st : State) → f a l st ≡ h a l st) → and_then r f ≡ and_then r h
then_same (done a l st) f h e = e a l st
then_same (refused x) f h e = refl

module _ (g : Setting) (o : RulesHold g.description) (z : length g.description.expressions ≡ 0) where
  never : (j : ℕ) → (get_or g.description.operands j no_operand).kind ≡ 2 → ⊥
  never j e = go (dec_lt j (length g.description.operands))
    where
      d : Description
      d = g.description

      go : Dec (j < length g.description.operands) → ⊥
      go (yes h) =
          let ok = all-at (λ i. operand_ok d.fields (length d.expressions) (get_or d.operands i no_operand)) (length d.operands) j o.operands h in
          omega (arith, expression-placed d (get_or d.operands j no_operand) ok e)
      go (no h) =
          let none-there : get_or d.operands j no_operand ≡ no_operand = get_or-eq_default d.operands no_operand (omega (arith, h)) in
          let two : ◌≡◌ {A = ℕ} 0 2 = sym (ap (λ (x : Operand). x.kind) none-there) ∙ e in
          omega arith

  operand-base : (w : Walker) (j : ℕ) (s : List ℕ) (at start : ℕ) (st : State)
      → operand_from g w (get_or g.description.operands j no_operand) s at start st ≡ operand_base g w (get_or g.description.operands j no_operand) s at start st
  unfolding operand_from operand_base
  operand-base w j s at start st = rw (ne_eqb (get_or g.description.operands j no_operand).kind 2 (never j))

  operands-base : (w : Walker) (first : ℕ) (s : List ℕ) (at left i : ℕ) (ends : List ℕ) (far : ℕ) (st : State)
      → operands_from g w first s at left i ends far st ≡ operands_base g w first s at left i ends far st
  unfolding operands_from operands_base
  operands-base w first s at zero i ends far st = refl
  operands-base w first s at (suc left) i ends far st =
      let x = get_or g.description.operands (first + i) no_operand in
      rw (operand-base w (first + i) s at (start_of ends x) st)
      (then_same (operand_base g w x s at (start_of ends x) st) _ _
      (λ n size st.
      ap (λ (r : WalkResult Nodes). and_then r λ f far st. done (more n f) far st)
      (operands-base w first s at left (i + 1) (set ends (i + 1) (start_of ends x + size)) (max far (start_of ends x + size)) st)))

  constructor-base : (w : Walker) (n : ℕ) (k : Constructor) (s : List ℕ) (at : ℕ) (st : State) → constructor_from g w n k s at st ≡ constructor_base g w n k s at st
  unfolding constructor_from constructor_base
  constructor-base w n k s at st =
      ap (closing g n k.minimum at) (operands-base w k.operands.first s at k.operands.count 0 (replicate (operands_each + 1) 0) 0 (counted st))

  taking-base : (w : Walker) (t : ℕ) (s : List ℕ) (at : ℕ) (st : State) (x : Result ℕ NotChosen) → taking g w t s at st x ≡ taking_base g w t s at st x
  taking-base w t s at st (Err choice.Short) = refl
  taking-base w t s at st (Err choice.NoMatch) = refl
  taking-base w t s at st (Ok n) = constructor-base w n (get_or g.description.constructors n no_constructor) s at st
  taking-base w t s at st (Err choice.Ambiguous) = refl

  table-base : (w : Walker) (t : ℕ) (s : List ℕ) (at : ℕ) (st : State) → table_from g w t s at st ≡ table_base g w t s at st
  unfolding table_from table_base
  table-base w t s at st = rw (taking-base w t s at st (choice_in g.description t s st.context))

  walk-base : (depth t : ℕ) (s : List ℕ) (at : ℕ) (st : State) → walk_from g depth t s at st ≡ walk_base g depth t s at st
  unfolding walk_from walk_base
  walk-base zero t s at st = refl
  walk-base (suc depth) t s at st =
      let same : walk_from g depth ≡ walk_base g depth = fun_ext λ t. fun_ext λ s. fun_ext λ at. fun_ext λ st. walk-base depth t s at st in
      rw same (table-base (walk_base g depth) t s at st)

-- "A description may end after six sections": its instructions, at every address
module _ (d : Description) (o : RulesHold d) (z : length d.expressions ≡ 0) where
  pub walked-base : (c : ℕ) (s : List ℕ) → walked_of d c s ≡ instruction_base d c s
  unfolding walked_of walked_from instruction_base
  walked-base c s = ap reject_empty (walk-base (setting_of d (length s)) o z (suc most_rows) (root_of d) s 0 (starting c))

  pub decodes-as-before : (c a : ℕ) (s : List ℕ) → instruction_of d c a s ≡ instruction_base d c s
  decodes-as-before c a s = without-expressions d o z c a s ∙ walked-base c s
