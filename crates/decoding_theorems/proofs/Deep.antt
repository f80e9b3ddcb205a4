-- One level more than there may be rows leaves nothing out: walks that may nest deeper come to the same.
use Prim.Native.Nat.{ℕ, zero, suc, ◌+◌, ◌≤◌, max}
use mathlib.Core.Bool.{Bool, true, false, cond, ◌||◌}
use mathlib.Core.List.{List}
use mathlib.Core.Path.{◌≡◌, refl, ap, ◌∙◌}
use native.Mathlib.Omega.{arith}
use borrow.Author.Tests.{le-leb}
use lib.Dec.{ltb, eqb}
use lib.ListN.{get_or, drop, set, replicate}
use Rattle.format.specs.Numbers.{longest, most_rows, operands_each}
use Rattle.format.specs.Description.{no_field, no_name, no_constructor, no_operand}
use Rattle.format.specs.Tables.{root_of}
use Rattle.format.specs.declared.Field.{Field}
use Rattle.format.specs.declared.Operand.{Operand}
use Rattle.fields.specs.Value.{value_of}
use Rattle.fields.specs.Look.{look_of}
use Rattle.fields.specs.declared.Look.{Look}
use Rattle.fields.specs.declared.Look.TheVariants as look
use Rattle.std.specs.Prelude.{Ok, Err}
use Rattle.std.specs.Prelude as std
use Rattle.choosing_spec.specs.declared.NotChosen.{NotChosen}
use Rattle.choosing_spec.specs.declared.NotChosen.TheVariants as choice
use Rattle.decoding_spec.specs.State.{Setting, starting, counted}
use Rattle.decoding_spec.specs.Tree.{Node, Nodes, more}
use Rattle.decoding_spec.specs.Walk.{Result, done, refused, Walker, and_then, full, width_of, choice_in, shown_as, start_of, closed, field_from, computed_from, operand_from, operands_from, constructor_from, taking, table_from, walk_from, reject_empty, walked_from}
use Rattle.decoding_spec.specs.declared.State.{State}
use Rattle.decoding_spec.specs.declared.Refusal.{Refusal}
use Rattle.decoding_spec.specs.declared.Refusal.TheVariants.{Short, Hole, TooFar, TooManyRows}
use Rattle.decoding_theorems.proofs.Relation.{Done, test, then}

-- a walk never uses fewer rows than before
abbrev Since : {A : Type 0} → ℕ → A → ℕ → State → Type 0
Since u a l st = u ≤ st.used

-- what comes behind is asked only of states with as many rows
then_same : {A B : Type 0} (u : ℕ) (r : Result A) (rest rest' : A → ℕ → State → Result B) → Done (Since u) r
    → ((a : A) (l : ℕ) (st : State) → u ≤ st.used → rest' a l st ≡ rest a l st) → and_then r rest' ≡ and_then r rest
then_same u (done a l st) rest rest' h f = f a l st h
then_same u (refused x) rest rest' h f = refl

test-same : (t : Bool) (x : Refusal) (r r' : Result Node) → r' ≡ r → cond t (refused x) r' ≡ cond t (refused x) r
test-same t x r r' e = ap (cond t (refused x)) e

module _ (g : Setting) where
  abbrev Grows : Walker → Type 0
  Grows w = (t : ℕ) (s : List ℕ) (at : ℕ) (st : State) → Done (Since st.used) (w t s at st)

  shown-grows : (f : Field) (i p v : ℕ) (k : Look) (st : State) (u : ℕ) → u ≤ st.used → Done (Since u) (shown_as g.description f i p v k st)
  unfolding shown_as
  shown-grows f i p v (look.Number signed base) st u h = h
  shown-grows f i p v look.Name st u h = test (Since u) (eqb (get_or g.description.names (f.first + v) no_name).length 0) (Hole p) _ λ z. h

  field-grows : (f : Field) (i : ℕ) (s : List ℕ) (p : ℕ) (st : State) → Done (Since st.used) (field_from g f i s p st)
  unfolding field_from
  field-grows f i s p st =
      test (Since st.used) (full st) TooManyRows _ λ a.
      test (Since st.used) (ltb longest p || ltb longest (p + width_of f)) (TooFar p) _ λ b.
      test (Since st.used) (ltb g.total (p + width_of f)) (Short p) _ λ c.
      shown-grows f i p (value_of f s st.context) (look_of f.look) (counted st) st.used (omega arith)

  computed-grows : (i p : ℕ) (st : State) → Done (Since st.used) (computed_from g i p st)
  unfolding computed_from
  computed-grows i p st =
      test (Since st.used) (full st) TooManyRows _ λ a.
      test (Since st.used) (ltb longest p) (TooFar p) _ λ b. test (Since st.used) (ltb g.total p) (Short p) _ λ c. omega arith

  module _ (w : Walker) (grows : Grows w) where
    operand-grows : (x : Operand) (s : List ℕ) (at start : ℕ) (st : State) → Done (Since st.used) (operand_from g w x s at start st)
    unfolding operand_from
    operand-grows x s at start st = go (eqb x.kind 0) (eqb x.kind 2)
      where
        go : (t u : Bool)
            → Done (Since st.used) (cond t (field_from g (get_or g.description.fields x.index no_field) x.index (drop start s) (at + start) st)
            (cond u (computed_from g x.index (at + start) st) (w x.index (drop start s) (at + start) st)))
        go true u = field-grows (get_or g.description.fields x.index no_field) x.index (drop start s) (at + start) st
        go false true = computed-grows x.index (at + start) st
        go false false = grows x.index (drop start s) (at + start) st

    operands-grow : (first : ℕ) (s : List ℕ) (at left o : ℕ) (ends : List ℕ) (far : ℕ) (st : State) (u : ℕ) → u ≤ st.used
        → Done (Since u) (operands_from g w first s at left o ends far st)
    unfolding operands_from
    operands-grow first s at zero o ends far st u h = h
    operands-grow first s at (suc left) o ends far st u h =
        let x = get_or g.description.operands (first + o) no_operand in
        then (Since st.used) (Since u) (operand_from g w x s at (start_of ends x) st) _ (operand-grows x s at (start_of ends x) st)
        (λ n l st' e.
        then (Since u) (Since u) (operands_from g w first s at left (o + 1) (set ends (o + 1) (start_of ends x + l)) (max far (start_of ends x + l)) st') _
        (operands-grow first s at left (o + 1) (set ends (o + 1) (start_of ends x + l)) (max far (start_of ends x + l)) st' u (omega arith))
        (λ f far st e. e))

    table-grows : Grows (table_from g w)
    unfolding table_from constructor_from closed
    table-grows t s at st =
        test (Since st.used) (full st) TooManyRows _ λ a.
        test (Since st.used) (ltb longest at) (TooFar at) _ λ b.
        go (choice_in g.description t s st.context)
      where
        go : (q : std.Result ℕ NotChosen) → Done (Since st.used) (taking g w t s at st q)
        go (Err choice.Short) = tt
        go (Err choice.NoMatch) = tt
        go (Err choice.Ambiguous) = tt
        go (Ok n) =
            let k = get_or g.description.constructors n no_constructor in
            then (Since st.used) (Since st.used)
            (operands_from g w k.operands.first s at k.operands.count 0 (replicate (operands_each + 1) 0) 0 (counted st)) _
            (operands-grow k.operands.first s at k.operands.count 0 (replicate (operands_each + 1) 0) 0 (counted st) st.used (omega arith))
            (λ f far st' h.
            test (Since st.used) (ltb longest (at + max k.minimum far)) (TooFar at) _ λ c.
            test (Since st.used) (ltb g.total (at + max k.minimum far)) (Short at) _ λ e. h)

  walk-grows : (depth : ℕ) → Grows (walk_from g depth)
  unfolding walk_from
  walk-grows zero t s at st = tt
  walk-grows (suc depth) t s at st = table-grows (walk_from g depth) (walk-grows depth) t s at st

  -- two walkers that come to the same wherever so many rows are used
  abbrev Same : ℕ → Walker → Walker → Type 0
  Same u w w' = (t : ℕ) (s : List ℕ) (at : ℕ) (st : State) → u ≤ st.used → w' t s at st ≡ w t s at st

  module _ (w w' : Walker) (grows : Grows w) (u : ℕ) (same : Same u w w') where
    operand_same : (x : Operand) (s : List ℕ) (at start : ℕ) (st : State) → u ≤ st.used
        → operand_from g w' x s at start st ≡ operand_from g w x s at start st
    unfolding operand_from
    operand_same x s at start st h =
        ap (λ (r : Result Node).
        cond (eqb x.kind 0) (field_from g (get_or g.description.fields x.index no_field) x.index (drop start s) (at + start) st)
        (cond (eqb x.kind 2) (computed_from g x.index (at + start) st) r))
        (same x.index (drop start s) (at + start) st h)

    operands_same : (first : ℕ) (s : List ℕ) (at left o : ℕ) (ends : List ℕ) (far : ℕ) (st : State) → u ≤ st.used
        → operands_from g w' first s at left o ends far st ≡ operands_from g w first s at left o ends far st
    unfolding operands_from
    operands_same first s at zero o ends far st h = refl
    operands_same first s at (suc left) o ends far st h =
        let x = get_or g.description.operands (first + o) no_operand in
        rw (operand_same x s at (start_of ends x) st h)
        (then_same st.used (operand_from g w x s at (start_of ends x) st) _ _ (operand-grows w grows x s at (start_of ends x) st)
        (λ n l st' e.
        ap (λ (r : Result Nodes). and_then r (λ f far st. done (more n f) far st))
        (operands_same first s at left (o + 1) (set ends (o + 1) (start_of ends x + l)) (max far (start_of ends x + l)) st' (omega arith))))

    table_same : (t : ℕ) (s : List ℕ) (at : ℕ) (st : State) → u ≤ st.used + 1 → table_from g w' t s at st ≡ table_from g w t s at st
    unfolding table_from constructor_from
    table_same t s at st h =
        test-same (full st) TooManyRows _ _ (test-same (ltb longest at) (TooFar at) _ _ (go (choice_in g.description t s st.context)))
      where
        go : (q : std.Result ℕ NotChosen) → taking g w' t s at st q ≡ taking g w t s at st q
        go (Err choice.Short) = refl
        go (Err choice.NoMatch) = refl
        go (Err choice.Ambiguous) = refl
        go (Ok n) =
            let k = get_or g.description.constructors n no_constructor in
            ap (λ (r : Result Nodes). and_then r (λ f far st. closed g n at f (max k.minimum far) st))
            (operands_same k.operands.first s at k.operands.count 0 (replicate (operands_each + 1) 0) 0 (counted st) h)

  -- a walk has no room where all rows are used, however deep it may nest
  full-same : (depth t : ℕ) (s : List ℕ) (at : ℕ) (st : State) → most_rows ≤ st.used → walk_from g depth t s at st ≡ refused TooManyRows
  unfolding walk_from table_from
  full-same zero t s at st h = refl
  full-same (suc depth) t s at st h = rw (le-leb most_rows st.used h)

  walk-deep : (depth deeper t : ℕ) (s : List ℕ) (at : ℕ) (st : State) → most_rows ≤ st.used + depth
      → walk_from g (depth + deeper) t s at st ≡ walk_from g depth t s at st
  unfolding walk_from
  walk-deep zero deeper t s at st h = full-same (0 + deeper) t s at st (omega arith) ∙ refl
  walk-deep (suc depth) deeper t s at st h =
      let more : suc depth + deeper ≡ suc (depth + deeper) = omega arith in
      rw more
      (table_same (walk_from g depth) (walk_from g (depth + deeper)) (walk-grows depth) (st.used + 1)
      (λ t s at st' e. walk-deep depth deeper t s at st' (omega arith)) t s at st (omega arith))

  -- the instruction with any greater depth
  pub deep : (deeper c : ℕ) (s : List ℕ)
      → reject_empty (walk_from g (suc most_rows + deeper) (root_of g.description) s 0 (starting c)) ≡ walked_from g c s
  unfolding walked_from
  deep deeper c s = ap reject_empty (walk-deep (suc most_rows) deeper (root_of g.description) s 0 (starting c) (omega arith))
