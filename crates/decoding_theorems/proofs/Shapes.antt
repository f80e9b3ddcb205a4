-- The tree's numbers are those of the description's records, and each constructor has as many operands as its record says.
use Prim.Native.Nat.{ℕ, ◌<◌, ◌+◌, ◌≤◌}
use mathlib.Core.List.{List, []}
use mathlib.Core.Path.{◌≡◌, refl}
use native.Mathlib.Omega.{arith}
use lib.IntN.{ℤ}
use lib.ListN.{length, get_or, drop}
use Rattle.format.specs.Description.{Description, no_field}
use Rattle.format.specs.Rules.{operand_of}
use Rattle.format.specs.declared.Constructor.{Constructor}
use Rattle.format.specs.declared.Operand.{Operand}
use Rattle.format.proofs.Formation.{RulesHold}
use Rattle.fields.proofs.Values.{named-within}
use Rattle.decoding_spec.specs.Tree.{Node, Nodes, built, numbered, named, computed, none, more}
use Rattle.decoding_spec.specs.Walk.{Result, done, refused, walked_of}
use Rattle.decoding_spec.specs.Instruction.{valued, counts_of, with_values, with_values_all, completed, instruction_of}
use Rattle.decoding_spec.specs.declared.State.{State}
use Rattle.decoding_theorems.specs.Facts.{Built, Shaped, ShapedAll, count_of}
use Rattle.decoding_theorems.specs.Relation.{TableWalk, OperandWalk, OperandsWalk, taken, number, name, compute, table, last, next}
use Rattle.decoding_theorems.specs.Usable.{Placed}
use Rattle.decoding_theorems.proofs.Records.{field-ok, usable}
use Rattle.decoding_theorems.proofs.Relation.{walked}
use Rattle.decoding_theorems.proofs.Instructions.{relation}
use Rattle.decoding_theorems.proofs.Taken.{takes}

module _ (d : Description) (o : RulesHold d) (input : List ℕ) where
  counted : {k : Constructor} {at left i far far' : ℕ} {ends : List ℕ} {st st' : State} {f : Nodes}
      → OperandsWalk d input k at left i ends far st f far' st' → count_of f ≡ left
  unfolding count_of
  counted last = refl
  counted (next x r) = omega (arith, counted r)

  mutual
    table-shaped : {t at : ℕ} {st st' : State} {n : Node} {l : ℕ} → TableWalk d input t at st n l st' → Shaped d n
    table-shaped (taken {t} {at} {k} {st} c f) =
        let w = (takes d st.context t (drop at input) o k c.chosen).within in
        (w, counted f, operands-shaped f (λ j a b. (usable d o k w).placed j (omega arith)))

    operand-shaped : {x : Operand} {at : ℕ} {st st' : State} {n : Node} {l : ℕ} → OperandWalk d input x at st n l st' → Placed d x → Shaped d n
    operand-shaped (number r q) p = rw r.index (p.field r.kind)
    operand-shaped (name {at} {i} {st} r q) p =
        let low : i < length d.fields = rw r.index (p.field r.kind) in
        (low, rw q.value (named-within (length d.names) (get_or d.fields i no_field) (drop at input) st.context (field-ok d o i low) q.look))
    operand-shaped (compute r) p = rw r.index (p.expression r.kind, p.names r.kind)
    operand-shaped (table z y t) p = table-shaped t

    operands-shaped : {k : Constructor} {at left i far far' : ℕ} {ends : List ℕ} {st st' : State} {f : Nodes}
        → OperandsWalk d input k at left i ends far st f far' st' → ((j : ℕ) → i ≤ j → j < i + left → Placed d (operand_of d k j)) → ShapedAll d f
    operands-shaped last p = tt
    operands-shaped (next {o = i} x r) p =
        (operand-shaped x (p i (omega arith) (omega arith)), operands-shaped r (λ j a b. p j (omega arith) (omega arith)))

pub shaped : (d : Description) → RulesHold d → (c a : ℕ) (s : List ℕ) (n : Node) (l : ℕ) (st : State) → instruction_of d c a s ≡ done n l st → Shaped d n
shaped d o c a s n l st e = table-shaped d o s (relation d c a s n l st e).root

-- of the walk's tree, which starts with a constructor
pub walked-shaped : (d : Description) → RulesHold d → (c : ℕ) (s : List ℕ) (n : Node) (l : ℕ) (st : State) → walked_of d c s ≡ done n l st → Shaped d n
walked-shaped d o c s n l st e = table-shaped d o s (walked d c s n l st e).root

table-built : {d : Description} {input : List ℕ} {t at : ℕ} {st st' : State} {n : Node} {l : ℕ} → TableWalk d input t at st n l st' → Built n
table-built (taken c f) = tt

pub walked-built : (d : Description) (c : ℕ) (s : List ℕ) (n : Node) (l : ℕ) (st : State) → walked_of d c s ≡ done n l st → Built n
walked-built d c s n l st e = table-built (walked d c s n l st e).root

-- a description without expressions has no computed operands
module _ (d : Description) (none-there : length d.expressions ≡ 0) (here after : ℕ) where
  mutual
    unfolding with_values with_values_all

    bare : (n : Node) (operands : List ℤ) → Shaped d n → with_values d here after operands n ≡ valued n
    bare (built k s l f) operands h = rw (bare-all f (counts_of d f) h.2)
    bare (numbered i s v) operands h = refl
    bare (named i s n) operands h = refl
    bare (computed i s v) operands h = absurd (omega (arith, h.0))

    bare-all : (f : Nodes) (operands : List ℤ) → ShapedAll d f → with_values_all d here after operands f ≡ valued f
    bare-all none operands h = refl
    bare-all (more n f) operands h = rw (bare n operands h.0, bare-all f operands h.1)

-- and its instructions are the walk's, at every address
pub without-expressions : (d : Description) → RulesHold d → length d.expressions ≡ 0 → (c a : ℕ) (s : List ℕ) → instruction_of d c a s ≡ walked_of d c s
unfolding instruction_of completed
without-expressions d o z c a s = go (walked_of d c s) refl
  where
    go : (r : Result Node) → walked_of d c s ≡ r → completed d a r ≡ r
    go (done n l st) e = rw (bare d z a (a + l) n [] (walked-shaped d o c s n l st e))
    go (refused x) e = refl
