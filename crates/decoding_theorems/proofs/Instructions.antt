-- An instruction is a walk whose computed operands have their values: what was shown of the walk holds of it.
use Prim.Native.Nat.{ℕ, ◌+◌, ◌≤◌}
use mathlib.Core.List.{List, [], ◌++◌}
use mathlib.Core.Path.{◌≡◌, refl, sym, ap, subst}
use lib.IntN.{ℤ}
use Rattle.format.specs.Description.{Description}
use Rattle.format.specs.Tables.{root_of}
use Rattle.format.specs.declared.Constructor.{Constructor}
use Rattle.format.specs.declared.Operand.{Operand}
use Rattle.format.proofs.Formation.{RulesHold}
use Rattle.std.specs.Prelude.{Option, Some, None}
use Rattle.decoding_spec.specs.State.{starting}
use Rattle.decoding_spec.specs.Tree.{Node, Nodes, built, numbered, named, computed, none, more}
use Rattle.decoding_spec.specs.Walk.{Result, done, refused, walked_of}
use Rattle.decoding_spec.specs.Instruction.{Valued, valued, outside, where_inside, computed_as, counts_as, counts_of, expression_value, with_values, with_values_all, ended, completed, instruction_of}
use Rattle.decoding_spec.specs.declared.State.{State}
use Rattle.decoding_spec.specs.declared.Refusal.{Refusal}
use Rattle.decoding_spec.specs.declared.Refusal.TheVariants.{Short, ValueOutside}
use Rattle.decoding_theorems.specs.Relation.{TableWalk, OperandWalk, OperandsWalk, taken, number, name, compute, table, last, next, HasValues, HasValuesAll}
use Rattle.decoding_theorems.proofs.Relation.{walked}
use Rattle.decoding_theorems.proofs.Stays.{walk-stays-whole}

-- what was inside, and what was made of it
record Inside {A B : Type 0} (r : Valued A) (rest : A → Valued B) (b : B) : Type 0 where
  it : A
  is : r ≡ valued it
  then : rest it ≡ valued b

split : {A B : Type 0} (r : Valued A) (rest : A → Valued B) (b : B) → where_inside r rest ≡ valued b → Inside r rest b
split (valued a) rest b e = record { it = a; is = refl; then = e }
split (outside p) rest b e = cc

-- a computed operand that has its value
record Computed (i s : ℕ) (w : Option ℤ) (n : Node) : Type 0 where
  value : ℤ
  is : w ≡ Some value
  node : computed i s value ≡ n

computed-is : (i s : ℕ) (w : Option ℤ) (n : Node) → computed_as i s w ≡ valued n → Computed i s w n
computed-is i s (Some v) n e = record { value = v; is = refl; node = cc }
computed-is i s None n e = cc

module _ (d : Description) (here after : ℕ) where
  -- a part counts as much with its values as without
  counts_same : (operands : List ℤ) (n n' : Node) → with_values d here after operands n ≡ valued n' → counts_as d n' ≡ counts_as d n
  unfolding with_values counts_as
  counts_same operands (built k s l f) n' e = let r = split (with_values_all d here after (counts_of d f) f) _ n' e in let z : built k s l r.it ≡ n' = cc r.then in rw (← z)
  counts_same operands (numbered i s v) n' e = let z : numbered i s v ≡ n' = cc in rw (← z)
  counts_same operands (named i s n) n' e = let z : named i s n ≡ n' = cc in rw (← z)
  counts_same operands (computed i s v) n' e = let r = computed-is i s (expression_value d here after operands i) n' e in rw (← r.node)

  counts_all : (operands : List ℤ) (f f' : Nodes) → with_values_all d here after operands f ≡ valued f' → counts_of d f' ≡ counts_of d f
  unfolding with_values_all counts_of
  counts_all operands none f' e = let z : none ≡ f' = cc in rw (← z)
  counts_all operands (more n f) f' e =
      let r = split (with_values d here after operands n) _ f' e in
      let q = split (with_values_all d here after operands f) _ f' r.then in
      let z : more r.it q.it ≡ f' = cc q.then in
      rw (← z, counts_same operands n r.it r.is, counts_all operands f q.it q.is)

  mutual
    unfolding with_values with_values_all

    -- the values are those of the expressions
    pub has-values : (operands : List ℤ) (n n' : Node) → with_values d here after operands n ≡ valued n' → HasValues d here after operands n'
    has-values operands (built k s l f) n' e =
        let r = split (with_values_all d here after (counts_of d f) f) _ n' e in
        let z : built k s l r.it ≡ n' = cc r.then in
        rw (← z)
        (subst (λ (x : List ℤ). HasValuesAll d here after x r.it) (sym (counts_all (counts_of d f) f r.it r.is))
        (has-values-all (counts_of d f) f r.it r.is))
    has-values operands (numbered i s v) n' e = let z : numbered i s v ≡ n' = cc in rw (← z) tt
    has-values operands (named i s n) n' e = let z : named i s n ≡ n' = cc in rw (← z) tt
    has-values operands (computed i s v) n' e = let r = computed-is i s (expression_value d here after operands i) n' e in rw (← r.node) r.is

    has-values-all : (operands : List ℤ) (f f' : Nodes) → with_values_all d here after operands f ≡ valued f' → HasValuesAll d here after operands f'
    has-values-all operands none f' e = let z : none ≡ f' = cc in rw (← z) tt
    has-values-all operands (more n f) f' e =
        let r = split (with_values d here after operands n) _ f' e in
        let q = split (with_values_all d here after operands f) _ f' r.then in
        let z : more r.it q.it ≡ f' = cc q.then in
        rw (← z) (has-values operands n r.it r.is, has-values-all operands f q.it q.is)

  module _ (input : List ℕ) where
    mutual
      unfolding with_values with_values_all

      -- a walk is the same walk with its values
      table-keeps : {t at l : ℕ} {st st' : State} {n : Node} → TableWalk d input t at st n l st' → (operands : List ℤ) (n' : Node)
          → with_values d here after operands n ≡ valued n' → TableWalk d input t at st n' l st'
      table-keeps (taken {at = at} {k = k} {l = l} {f = f} c w) operands n' e =
          let r = split (with_values_all d here after (counts_of d f) f) _ n' e in
          let z : built k at l r.it ≡ n' = cc r.then in
          rw (← z) (taken c (operands-keep w (counts_of d f) r.it r.is))

      operand-keeps : {x : Operand} {at l : ℕ} {st st' : State} {n : Node} → OperandWalk d input x at st n l st' → (operands : List ℤ) (n' : Node)
          → with_values d here after operands n ≡ valued n' → OperandWalk d input x at st n' l st'
      operand-keeps {n = n} (number r q) operands n' e = let z : n ≡ n' = cc in rw (← z) (number r q)
      operand-keeps {n = n} (name r q) operands n' e = let z : n ≡ n' = cc in rw (← z) (name r q)
      operand-keeps (compute {at = at} {i = i} r) operands n' e =
          let c = computed-is i at (expression_value d here after operands i) n' e in
          rw (← c.node) (compute r)
      operand-keeps (table z y w) operands n' e = table z y (table-keeps w operands n' e)

      operands-keep : {k : Constructor} {at left o far far' : ℕ} {ends : List ℕ} {st st' : State} {f : Nodes}
          → OperandsWalk d input k at left o ends far st f far' st' → (operands : List ℤ) (f' : Nodes) → with_values_all d here after operands f ≡ valued f'
          → OperandsWalk d input k at left o ends far st f' far' st'
      operands-keep last operands f' e = let z : none ≡ f' = cc in rw (← z) last
      operands-keep (next {n = n} {f = f} x r) operands f' e =
          let p = split (with_values d here after operands n) _ f' e in
          let q = split (with_values_all d here after operands f) _ f' p.then in
          let z : more p.it q.it ≡ f' = cc q.then in
          rw (← z) (next (operand-keeps x operands p.it p.is) (operands-keep r operands q.it q.is))

-- the walk behind a done instruction
pub record Completed (d : Description) (here : ℕ) (r : Result Node) (n : Node) (l : ℕ) (st : State) : Type 0 where
  pub bare : Node
  pub is : r ≡ done bare l st
  pub values : with_values d here (here + l) [] bare ≡ valued n

pub completed-done : (d : Description) (here : ℕ) (r : Result Node) (n : Node) (l : ℕ) (st : State) → completed d here r ≡ done n l st → Completed d here r n l st
unfolding completed
completed-done d here (done b m st') n l st e = go (with_values d here (here + m) [] b) refl e
  where
    go : (v : Valued Node) → with_values d here (here + m) [] b ≡ v → ended m st' v ≡ done n l st → Completed d here (done b m st') n l st
    go (valued x) p q =
        let x-is : x ≡ n = cc in
        let m-is : m ≡ l = cc in
        let st-is : st' ≡ st = cc in
        record { bare = b; is = cc; values = rw (← m-is, ← x-is) p }
    go (outside y) p q = cc
completed-done d here (refused x) n l st e = cc

-- the tree of a done instruction at an address, of this length, with the state behind it
pub record Instruction (d : Description) (c here : ℕ) (s : List ℕ) (n : Node) (l : ℕ) (st : State) : Type 0 where
  pub some : 1 ≤ l
  pub root : TableWalk d s (root_of d) 0 (starting c) n l st
  pub values : HasValues d here (here + l) [] n

pub relation : (d : Description) (c a : ℕ) (s : List ℕ) (n : Node) (l : ℕ) (st : State) → instruction_of d c a s ≡ done n l st → Instruction d c a s n l st
unfolding instruction_of
relation d c a s n l st e =
    let r = completed-done d a (walked_of d c s) n l st e in
    let w = walked d c s r.bare l st r.is in
    record {
      some = w.some;
      root = table-keeps d a (a + l) s w.root [] n r.values;
      values = has-values d a (a + l) [] r.bare n r.values;
    }

-- a refusal is the walk's, or 13
pub completed-refused : (d : Description) (here : ℕ) (r : Result Node) (x : Refusal) → ((p : ℕ) → x ≡ ValueOutside p → ⊥) → completed d here r ≡ refused x → r ≡ refused x
unfolding completed
completed-refused d here (done b m st') x h e = go (with_values d here (here + m) [] b) e
  where
    go : (v : Valued Node) → ended m st' v ≡ refused x → done b m st' ≡ refused x
    go (valued n) q = cc
    go (outside p) q = absurd (h p cc)
completed-refused d here (refused y) x h e = e

pub refused-walked : (d : Description) (c a : ℕ) (s : List ℕ) (x : Refusal) → ((p : ℕ) → x ≡ ValueOutside p → ⊥) → instruction_of d c a s ≡ refused x → walked_of d c s ≡ refused x
unfolding instruction_of
refused-walked d c a s x h e = completed-refused d a (walked_of d c s) x h e

-- "An answer, unless "short", stays the same whatever bytes follow", for one address
pub stays : (d : Description) → RulesHold d → (c a : ℕ) (s m : List ℕ) → ((p : ℕ) → instruction_of d c a s ≡ refused (Short p) → ⊥)
    → instruction_of d c a (s ++ m) ≡ instruction_of d c a s
unfolding instruction_of completed
stays d o c a s m h = ap (completed d a) (walk-stays-whole d o c s m (λ p e. h p (ap (completed d a) e)))
