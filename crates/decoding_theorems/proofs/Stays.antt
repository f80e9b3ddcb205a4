-- "An answer, unless "short", stays the same whatever bytes follow."
use Prim.Native.Nat.{ℕ, zero, suc, ◌+◌, ◌-◌, ◌≤◌, ◌<◌, max}
use mathlib.Core.Bool.{Bool, true, false, cond, ◌||◌}
use mathlib.Core.List.{List, [], ◌∷◌, ◌++◌}
use mathlib.Core.Path.{◌≡◌, refl, ap, ◌∙◌}
use native.Mathlib.Omega.{arith}
use borrow.Author.Tests.{ltb-false, eqb-true, eqb-false, le-ltb}
use lib.Dec.{ltb, eqb}
use lib.ListN.{length, get_or, drop, set, replicate, length-append, length-drop}
use Rattle.format.specs.Numbers.{longest, most_rows, operands_each}
use Rattle.format.specs.Description.{Description, no_field, no_constructor, no_operand}
use Rattle.format.specs.Tables.{root_of, table_first}
use Rattle.format.specs.declared.Field.{Field}
use Rattle.format.specs.declared.Constructor.{Constructor}
use Rattle.format.specs.declared.Operand.{Operand}
use Rattle.format.proofs.Formation.{RulesHold}
use Rattle.fields.specs.Value.{Readable}
use Rattle.fields.specs.Look.{look_of}
use Rattle.fields.proofs.Values.{value_stays, readable}
use Rattle.std.specs.Prelude.{Ok, Err}
use Rattle.std.specs.Prelude as std
use Rattle.choosing_spec.specs.declared.NotChosen.{NotChosen}
use Rattle.choosing_spec.specs.declared.NotChosen.TheVariants as choice
use Rattle.choosing_theorems.proofs.Stays as choosing
use Rattle.decoding_spec.specs.State.{Setting, starting, counted, setting_of}
use Rattle.decoding_spec.specs.Tree.{Node, Nodes}
use Rattle.decoding_spec.specs.Walk.{Result, done, refused, Walker, and_then, full, width_of, numbered_from, choice_in, shown_as, start_of, closed, field_from, computed_from, operand_from, operands_from, constructor_from, taking, table_from, walk_from, walked_from, walked_of}
use Rattle.decoding_spec.specs.declared.State.{State}
use Rattle.decoding_spec.specs.declared.Refusal.{Refusal}
use Rattle.decoding_spec.specs.declared.Refusal.TheVariants.{Short, TooFar, TooManyRows}
use Rattle.decoding_theorems.specs.Usable.{Placed, Usable}
use Rattle.decoding_theorems.proofs.Records.{field-ok, usable}
use Rattle.decoding_theorems.proofs.Taken.{takes}

-- an answer that is not "short"
abbrev Whole : {A : Type 0} → Result A → Type 0
Whole r = (p : ℕ) → r ≡ refused (Short p) → ⊥

done-whole : {A : Type 0} (a : A) (l : ℕ) (st : State) → Whole (done a l st)
done-whole a l st p e = cc

-- a part past the end is empty, and so much less of what follows is left
drop_more : (n : ℕ) (s m : List ℕ) → drop n (s ++ m) ≡ drop n s ++ drop (n - length s) m
drop_more zero s m = let z : 0 - length s ≡ 0 = omega arith in rw z
drop_more (suc n) [] m = let z : suc n - 0 ≡ suc n = omega arith in rw z
drop_more (suc n) (a ∷ s) m = let z : suc n - length (a ∷ s) ≡ n - length s = omega arith in rw z (drop_more n s m)

then-stays : {A B : Type 0} (r r' : Result A) (rest rest' : A → ℕ → State → Result B) → (Whole r → r' ≡ r)
    → ((a : A) (l : ℕ) (st : State) → Whole (rest a l st) → rest' a l st ≡ rest a l st) → Whole (and_then r rest)
    → and_then r' rest' ≡ and_then r rest
then-stays (done a l st) r' rest rest' e f h = rw (e (done-whole a l st)) (f a l st h)
then-stays (refused x) r' rest rest' e f h = rw (e (λ p q. h p (let z : x ≡ Short p = cc in ap refused z)))

-- a test that leads to the same refusal
test-stays : (t : Bool) (x : Refusal) (r r' : Result Node) → (Whole r → r' ≡ r) → Whole (cond t (refused x) r)
    → cond t (refused x) r' ≡ cond t (refused x) r
test-stays true x r r' e h = refl
test-stays false x r r' e h = e h

-- for an input of `total` bytes, and one that is at least as long
module _ (d : Description) (o : RulesHold d) (total total' : ℕ) (grows : total ≤ total') where
  abbrev g : Setting
  g = setting_of d total

  abbrev g' : Setting
  g' = setting_of d total'

  -- a test for the input's end, before what is done within it
  within-stays : (at end : ℕ) (r r' : Result Node) → (end ≤ total → Whole r → r' ≡ r) → Whole (cond (ltb total end) (refused (Short at)) r)
      → cond (ltb total' end) (refused (Short at)) r' ≡ cond (ltb total end) (refused (Short at)) r
  within-stays at end r r' e h = go (ltb total end) refl h
    where
      go : (t : Bool) → ltb total end ≡ t → Whole (cond t (refused (Short at)) r)
          → cond (ltb total' end) (refused (Short at)) r' ≡ cond t (refused (Short at)) r
      go true q w = absurd (w at refl)
      go false q w =
          let here : end ≤ total = ltb-false total end q in
          rw (le-ltb total' end (omega arith)) (e here w)

  field-stays : (f : Field) (i : ℕ) (s m : List ℕ) (p : ℕ) (st : State) → Readable f → length s ≡ total - p
      → Whole (field_from g f i s p st) → field_from g' f i (s ++ m) p st ≡ field_from g f i s p st
  unfolding field_from
  field-stays f i s m p st r l =
      test-stays (full st) TooManyRows _ _
      (test-stays (ltb longest p || ltb longest (p + width_of f)) (TooFar p) _ _
      (within-stays p (p + width_of f) _ _
      (λ near h.
      ap (λ (v : ℕ). shown_as d f i p v (look_of f.look) (counted st)) (value_stays f s m st.context (long (eqb f.source 0) refl near) r))))
    where
      long : (t : Bool) → eqb f.source 0 ≡ t → p + cond t f.width 0 ≤ total → f.source ≡ 0 → f.width ≤ length s
      long true q near e = omega arith
      long false q near e = absurd (eqb-false f.source 0 q e)

  computed-stays : (i p : ℕ) (st : State) → Whole (computed_from g i p st) → computed_from g' i p st ≡ computed_from g i p st
  unfolding computed_from
  computed-stays i p st = test-stays (full st) TooManyRows _ _ (test-stays (ltb longest p) (TooFar p) _ _ (within-stays p p _ _ (λ near h. refl)))

  -- two walkers agree wherever the first is not short
  abbrev Agree : Walker → Walker → Type 0
  Agree w w' =
      (t : ℕ) (s m : List ℕ) (at : ℕ) (st : State) → length s ≡ total - at → Whole (w t s at st) → w' t (s ++ m) at st ≡ w t s at st

  closed-stays : (n at : ℕ) (f : Nodes) (l : ℕ) (st : State) → Whole (closed g n at f l st) → closed g' n at f l st ≡ closed g n at f l st
  unfolding closed
  closed-stays n at f l st = test-stays (ltb longest (at + l)) (TooFar at) _ _ (within-stays at (at + l) _ _ (λ near h. refl))

  module _ (w w' : Walker) (agree : Agree w w') where
    operand-stays : (x : Operand) (s m : List ℕ) (at start : ℕ) (st : State) → Placed d x → length s ≡ total - at
        → Whole (operand_from g w x s at start st) → operand_from g' w' x (s ++ m) at start st ≡ operand_from g w x s at start st
    unfolding operand_from
    operand-stays x s m at start st p l h = rw (drop_more start s m) (go (eqb x.kind 0) (eqb x.kind 2) refl h)
      where
        f : Field
        f = get_or d.fields x.index no_field

        behind : List ℕ
        behind = drop (start - length s) m

        inner : length (drop start s) ≡ total - (at + start)
        inner = length-drop start s ∙ omega arith

        go : (t u : Bool) → eqb x.kind 0 ≡ t
            → Whole (cond t (field_from g f x.index (drop start s) (at + start) st)
            (cond u (computed_from g x.index (at + start) st) (w x.index (drop start s) (at + start) st)))
            → cond t (field_from g' f x.index (drop start s ++ behind) (at + start) st)
            (cond u (computed_from g' x.index (at + start) st) (w' x.index (drop start s ++ behind) (at + start) st))
            ≡ cond t (field_from g f x.index (drop start s) (at + start) st)
            (cond u (computed_from g x.index (at + start) st) (w x.index (drop start s) (at + start) st))
        go true u q h =
            field-stays f x.index (drop start s) behind (at + start) st
            (readable (length d.names) f (field-ok d o x.index (p.field (eqb-true x.kind 0 q)))) inner h
        go false true q h = computed-stays x.index (at + start) st h
        go false false q h = agree x.index (drop start s) behind (at + start) st inner h

    operands-stay : (first : ℕ) (s m : List ℕ) (at left i : ℕ) (ends : List ℕ) (far : ℕ) (st : State)
        → ((j : ℕ) → i ≤ j → j < i + left → Placed d (get_or d.operands (first + j) no_operand)) → length s ≡ total - at
        → Whole (operands_from g w first s at left i ends far st)
        → operands_from g' w' first (s ++ m) at left i ends far st ≡ operands_from g w first s at left i ends far st
    unfolding operands_from
    operands-stay first s m at zero i ends far st p l h = refl
    operands-stay first s m at (suc left) i ends far st p l h =
        let x = get_or d.operands (first + i) no_operand in
        then-stays (operand_from g w x s at (start_of ends x) st) (operand_from g' w' x (s ++ m) at (start_of ends x) st) _ _
        (operand-stays x s m at (start_of ends x) st (p i (omega arith) (omega arith)) l)
        (λ n size st.
        then-stays (operands_from g w first s at left (i + 1) (set ends (i + 1) (start_of ends x + size)) (max far (start_of ends x + size)) st) _ _ _
        (operands-stay first s m at left (i + 1) (set ends (i + 1) (start_of ends x + size)) (max far (start_of ends x + size)) st
        (λ j a b. p j (omega arith) (omega arith)) l)
        (λ f far st h. refl))
        h

    constructor-stays : (n : ℕ) (k : Constructor) (s m : List ℕ) (at : ℕ) (st : State) → Usable d k → length s ≡ total - at
        → Whole (constructor_from g w n k s at st) → constructor_from g' w' n k (s ++ m) at st ≡ constructor_from g w n k s at st
    unfolding constructor_from
    constructor-stays n k s m at st u l h =
        then-stays (operands_from g w k.operands.first s at k.operands.count 0 (replicate (operands_each + 1) 0) 0 (counted st)) _ _ _
        (operands-stay k.operands.first s m at k.operands.count 0 (replicate (operands_each + 1) 0) 0 (counted st)
        (λ j a b. u.placed j (omega arith)) l)
        (λ f far st. closed-stays n at f (max k.minimum far) st)
        h

    taking-stays : (t : ℕ) (s m : List ℕ) (at : ℕ) (st : State) → length s ≡ total - at → (q : std.Result ℕ NotChosen) → choice_in d t s st.context ≡ q
        → Whole (taking g w t s at st q) → taking g' w' t (s ++ m) at st q ≡ taking g w t s at st q
    taking-stays t s m at st l (Err choice.Short) e h = refl
    taking-stays t s m at st l (Err choice.NoMatch) e h = refl
    taking-stays t s m at st l (Err choice.Ambiguous) e h = refl
    taking-stays t s m at st l (Ok n) e h =
        constructor-stays n (get_or d.constructors n no_constructor) s m at st (usable d o n (takes d st.context t s o n e).within) l h

    choice-stays : (t : ℕ) (s m : List ℕ) (c : ℕ) → (choice_in d t s c ≡ (Err choice.Short) → ⊥) → choice_in d t (s ++ m) c ≡ choice_in d t s c
    unfolding choice_in
    choice-stays t s m c h = ap (numbered_from (table_first d t)) (choosing.stays _ _ s m c (λ e. h (ap (numbered_from (table_first d t)) e)))

    table_stays : Agree (table_from g w) (table_from g' w')
    unfolding table_from
    table_stays t s m at st l =
        test-stays (full st) TooManyRows _ _
        (test-stays (ltb longest at) (TooFar at) _ _
        (λ h.
        ap (taking g' w' t (s ++ m) at st) (choice-stays t s m st.context (λ e. h at (ap (taking g w t s at st) e)))
        ∙ taking-stays t s m at st l (choice_in d t s st.context) refl h))

  walk-stays : (depth : ℕ) → Agree (walk_from g depth) (walk_from g' depth)
  unfolding walk_from
  walk-stays zero t s m at st l h = refl
  walk-stays (suc depth) t s m at st l h = table_stays (walk_from g depth) (walk_from g' depth) (walk-stays depth) t s m at st l h

pub walk-stays-whole : (d : Description) → RulesHold d → (c : ℕ) (s m : List ℕ) → ((p : ℕ) → walked_of d c s ≡ refused (Short p) → ⊥)
    → walked_of d c (s ++ m) ≡ walked_of d c s
unfolding walked_of walked_from
walk-stays-whole d o c s m h =
    then-stays (walk_from (setting_of d (length s)) (suc most_rows) (root_of d) s 0 (starting c)) _ _ _
    (walk-stays d o (length s) (length (s ++ m)) (omega (arith, length-append s m)) (suc most_rows) (root_of d) s m 0 (starting c) (omega arith))
    (λ n l st h. refl)
    h
