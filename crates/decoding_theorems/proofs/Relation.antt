-- A decoded instruction is a walk over the named constructors.
use Prim.Native.Nat.{ℕ, zero, suc, ◌+◌, ◌≤◌, ◌<◌, max}
use mathlib.Core.Bool.{Bool, true, false, cond, ◌||◌, false≢true}
use mathlib.Core.List.{List}
use mathlib.Core.Path.{◌≡◌, refl, sym, ap, ◌∙◌}
use native.Mathlib.Omega.{arith}
use borrow.Author.Tests.{ltb-false, leb-false, eqb-true, eqb-false}
use lib.Dec.{ltb, eqb}
use lib.ListN.{length, get_or, drop, set, replicate}
use lib.Seq.{drop-drop}
use Rattle.format.specs.Numbers.{longest, most_rows, operands_each}
use Rattle.format.specs.Description.{Description, no_name}
use Rattle.format.specs.Rules.{bits_of, operand_of}
use Rattle.format.specs.Tables.{root_of}
use Rattle.format.specs.declared.Constructor.{Constructor}
use Rattle.format.specs.declared.Operand.{Operand}
use Rattle.fields.specs.Value.{value_of}
use Rattle.fields.specs.Look.{look_of, number_of}
use Rattle.fields.specs.declared.Look.{Look}
use Rattle.fields.specs.declared.Look.TheVariants as look
use Rattle.std.specs.Prelude.{Ok, Err}
use Rattle.std.specs.Prelude as std
use Rattle.choosing_spec.specs.declared.NotChosen.{NotChosen}
use Rattle.choosing_spec.specs.declared.NotChosen.TheVariants as choice
use Rattle.decoding_spec.specs.State.{Setting, starting, counted, setting_of}
use Rattle.decoding_spec.specs.Tree.{Node}
use Rattle.decoding_spec.specs.Walk.{Result, done, refused, Walker, and_then, full, width_of, choice_in, shown_as, start_of, closed, field_from, computed_from, operand_from, operands_from, constructor_from, taking, table_from, walk_from, walked_from, walked_of}
use Rattle.decoding_spec.specs.declared.State.{State}
use Rattle.decoding_spec.specs.declared.Refusal.{Refusal}
use Rattle.decoding_spec.specs.declared.Refusal.TheVariants.{Short, Hole, TooFar, TooManyRows, RootLengthZero}
use Rattle.decoding_theorems.specs.Relation.{Fits, FieldAt, field_of, constructor_of, TableWalk, OperandWalk, OperandsWalk, taken, number, name, compute, table, last, next}

-- what holds of a result that is done
abbrev pub Done : {A : Type 0} → (A → ℕ → State → Type 0) → Result A → Type 0
Done P (done a l st) = P a l st
Done P (refused x) = Unit {0}

-- a test that leads to a refusal, and what holds where it does not
pub test : {A : Type 0} (P : A → ℕ → State → Type 0) (t : Bool) (x : Refusal) (r : Result A) → (t ≡ false → Done P r) → Done P (cond t (refused x) r)
test P true x r h = tt
test P false x r h = h refl

pub then : {A B : Type 0} (P : A → ℕ → State → Type 0) (Q : B → ℕ → State → Type 0) (r : Result A) (rest : A → ℕ → State → Result B) → Done P r
    → ((a : A) (l : ℕ) (st : State) → P a l st → Done Q (rest a l st)) → Done Q (and_then r rest)
then P Q (done a l st) rest h f = f a l st h
then P Q (refused x) rest h f = tt

or-none : (a b : Bool) → (a || b) ≡ false → b ≡ false
or-none true b e = absurd (false≢true (sym e))
or-none false b e = e

module _ (d : Description) (input : List ℕ) where
  abbrev g : Setting
  g = setting_of d (length input)

  -- the walk of a table
  abbrev Walks : Walker → Type 0
  Walks w = (t : ℕ) (s : List ℕ) (at : ℕ) (st : State) → s ≡ drop at input → Done (TableWalk d input t at st) (w t s at st)

  shown-walk : (x : Operand) (i at : ℕ) (st : State) (v : ℕ) → FieldAt d input x at st i (width_of (field_of d input i)) (counted st)
      → v ≡ value_of (field_of d input i) (drop at input) st.context → (k : Look) → look_of (field_of d input i).look ≡ k
      → Done (OperandWalk d input x at st) (shown_as d (field_of d input i) i at v k (counted st))
  unfolding shown_as
  shown-walk x i at st v f e (look.Number signed base) q =
      number f (record { signed = signed; base = base; look = q; value = ap (number_of signed (bits_of (field_of d input i))) e })
  shown-walk x i at st v f e look.Name q =
      let n = (field_of d input i).first + v in
      test (OperandWalk d input x at st) (eqb (get_or d.names n no_name).length 0) (Hole at) _
      (λ h. name f (record { look = q; value = ap (λ (u : ℕ). (field_of d input i).first + u) e; whole = eqb-false (get_or d.names n no_name).length 0 h }))

  field-walk : (x : Operand) (s : List ℕ) (at : ℕ) (st : State) → x.kind ≡ 0 → s ≡ drop at input
      → Done (OperandWalk d input x at st) (field_from g (field_of d input x.index) x.index s at st)
  unfolding field_from
  field-walk x s at st z p =
      let f = field_of d input x.index in
      let end = at + width_of f in
      test (OperandWalk d input x at st) (full st) TooManyRows _ λ room.
      test (OperandWalk d input x at st) (ltb longest at || ltb longest end) (TooFar at) _ λ near.
      test (OperandWalk d input x at st) (ltb (length input) end) (Short at) _ λ here.
      let fits : Fits input at st (width_of f) = record {
        room = leb-false most_rows st.used room;
        near = ltb-false longest end (or-none (ltb longest at) (ltb longest end) near);
        here = ltb-false (length input) end here;
      } in
      shown-walk x x.index at st (value_of f s st.context) (record { kind = z; index = refl; size = refl; fits = fits; state = refl })
      (ap (λ (l : List ℕ). value_of f l st.context) p) (look_of f.look) refl

  computed-walk : (x : Operand) (at : ℕ) (st : State) → x.kind ≡ 2 → Done (OperandWalk d input x at st) (computed_from g x.index at st)
  unfolding computed_from
  computed-walk x at st z =
      test (OperandWalk d input x at st) (full st) TooManyRows _ λ room.
      test (OperandWalk d input x at st) (ltb longest at) (TooFar at) _ λ near.
      test (OperandWalk d input x at st) (ltb (length input) at) (Short at) _ λ here.
      let a = leb-false most_rows st.used room in
      let b = ltb-false longest at near in
      let c = ltb-false (length input) at here in
      compute (record { kind = z; index = refl; fits = record { room = a; near = omega arith; here = omega arith }; state = refl })

  module _ (w : Walker) (walks : Walks w) where
    operand-walk : (x : Operand) (s : List ℕ) (at start : ℕ) (st : State) → s ≡ drop at input
        → Done (OperandWalk d input x (at + start) st) (operand_from g w x s at start st)
    unfolding operand_from
    operand-walk x s at start st p = go (eqb x.kind 0) (eqb x.kind 2) refl refl
      where
        there : drop start s ≡ drop (at + start) input
        there = ap (drop start) p ∙ drop-drop start at input

        go : (t u : Bool) → eqb x.kind 0 ≡ t → eqb x.kind 2 ≡ u
            → Done (OperandWalk d input x (at + start) st) (cond t (field_from g (field_of d input x.index) x.index (drop start s) (at + start) st)
            (cond u (computed_from g x.index (at + start) st) (w x.index (drop start s) (at + start) st)))
        go true u q q' = field-walk x (drop start s) (at + start) st (eqb-true x.kind 0 q) there
        go false true q q' = computed-walk x (at + start) st (eqb-true x.kind 2 q')
        go false false q q' = inner (w x.index (drop start s) (at + start) st) (walks x.index (drop start s) (at + start) st there)
          where
            inner : (r : Result Node) → Done (TableWalk d input x.index (at + start) st) r → Done (OperandWalk d input x (at + start) st) r
            inner (done n l st') h = table (eqb-false x.kind 0 q) (eqb-false x.kind 2 q') h
            inner (refused r) h = tt

    operands-walk : (k : Constructor) (s : List ℕ) (at left o : ℕ) (ends : List ℕ) (far : ℕ) (st : State) → s ≡ drop at input
        → Done (OperandsWalk d input k at left o ends far st) (operands_from g w k.operands.first s at left o ends far st)
    unfolding operands_from
    operands-walk k s at zero o ends far st p = last
    operands-walk k s at (suc left) o ends far st p =
        let x = operand_of d k o in
        let start = start_of ends x in
        then (OperandWalk d input x (at + start) st) (OperandsWalk d input k at (suc left) o ends far st) (operand_from g w x s at start st) _
        (operand-walk x s at start st p)
        (λ n l st' h.
        then (OperandsWalk d input k at left (o + 1) (set ends (o + 1) (start + l)) (max far (start + l)) st') (OperandsWalk d input k at (suc left) o ends far st)
        (operands_from g w k.operands.first s at left (o + 1) (set ends (o + 1) (start + l)) (max far (start + l)) st') _
        (operands-walk k s at left (o + 1) (set ends (o + 1) (start + l)) (max far (start + l)) st' p)
        (λ f far' st'' h'. next h h'))

    table-walk : Walks (table_from g w)
    unfolding table_from constructor_from closed
    table-walk t s at st p =
        test (TableWalk d input t at st) (full st) TooManyRows _ λ room.
        test (TableWalk d input t at st) (ltb longest at) (TooFar at) _ λ near.
        go (leb-false most_rows st.used room) (choice_in d t s st.context) refl
      where
        go : st.used < most_rows → (q : std.Result ℕ NotChosen) → choice_in d t s st.context ≡ q → Done (TableWalk d input t at st) (taking g w t s at st q)
        go room (Err choice.Short) q = tt
        go room (Err choice.NoMatch) q = tt
        go room (Err choice.Ambiguous) q = tt
        go room (Ok n) q =
            let k = constructor_of d input n in
            then (OperandsWalk d input k at k.operands.count 0 (replicate (operands_each + 1) 0) 0 (counted st)) (TableWalk d input t at st)
            (operands_from g w k.operands.first s at k.operands.count 0 (replicate (operands_each + 1) 0) 0 (counted st)) _
            (operands-walk k s at k.operands.count 0 (replicate (operands_each + 1) 0) 0 (counted st) p)
            (λ f far st' h.
            let l = max k.minimum far in
            test (TableWalk d input t at st) (ltb longest (at + l)) (TooFar at) _ λ near.
            test (TableWalk d input t at st) (ltb (length input) (at + l)) (Short at) _ λ here.
            let fits : Fits input at st l = record { room = room; near = ltb-false longest (at + l) near; here = ltb-false (length input) (at + l) here } in
            taken (record { fits = fits; chosen = rw p at q; size = refl; state = refl }) h)

  walk : (depth : ℕ) → Walks (walk_from g depth)
  unfolding walk_from
  walk zero t s at st p = tt
  walk (suc depth) t s at st p = table-walk (walk_from g depth) (walk depth) t s at st p

-- the tree of a done walk, of this length, with the state behind it
pub record Walked (d : Description) (c : ℕ) (s : List ℕ) (n : Node) (l : ℕ) (st : State) : Type 0 where
  pub some : 1 ≤ l
  pub root : TableWalk d s (root_of d) 0 (starting c) n l st

every : (d : Description) (c : ℕ) (s : List ℕ) → Done (Walked d c s) (walked_of d c s)
unfolding walked_of walked_from
every d c s =
    then (TableWalk d s (root_of d) 0 (starting c)) (Walked d c s) (walk_from (g d s) (suc most_rows) (root_of d) s 0 (starting c)) _
    (walk d s (suc most_rows) (root_of d) s 0 (starting c) refl)
    (λ n l st h. test (Walked d c s) (eqb l 0) RootLengthZero (done n l st) λ z. let some = eqb-false l 0 z in record { some = omega arith; root = h })

pub walked : (d : Description) (c : ℕ) (s : List ℕ) (n : Node) (l : ℕ) (st : State) → walked_of d c s ≡ done n l st → Walked d c s n l st
walked d c s n l st e = rw e at (every d c s)
