-- ""no match" means that none matches", for an instruction: answers 3 and 4 are what choosing says in their table at their place.
use Prim.Native.Nat.{ℕ, zero, suc, ◌+◌, ◌-◌, ◌<◌, max}
use mathlib.Core.Bool.{Bool, true, false, cond, ◌||◌}
use mathlib.Core.List.{List}
use mathlib.Core.Path.{◌≡◌, refl, ap, subst, ◌∙◌}
use native.Mathlib.Omega.{arith}
use lib.Dec.{ltb, eqb}
use lib.ListN.{length, get_or, drop, set, replicate}
use lib.Seq.{drop-drop}
use Rattle.format.specs.Numbers.{longest, most_rows, operands_each}
use Rattle.format.specs.Description.{Description, no_field, no_name, no_constructor, no_operand}
use Rattle.format.specs.Rules.{table_at}
use Rattle.format.specs.Tables.{root_of, table_first, table_end}
use Rattle.format.specs.declared.Field.{Field}
use Rattle.format.specs.declared.Operand.{Operand}
use Rattle.format.proofs.Formation.{RulesHold}
use Rattle.format.proofs.Tables.{of-table}
use Rattle.patterns.specs.Matching.{matches}
use Rattle.fields.specs.Value.{value_of}
use Rattle.fields.specs.Look.{look_of}
use Rattle.fields.specs.declared.Look.{Look}
use Rattle.fields.specs.declared.Look.TheVariants as look
use Rattle.choosing_spec.specs.Choosing.{matching}
use Rattle.std.specs.Prelude.{Ok, Err}
use Rattle.std.specs.Prelude as std
use Rattle.choosing_spec.specs.declared.NotChosen.{NotChosen}
use Rattle.choosing_spec.specs.declared.NotChosen.TheVariants as choice
use Rattle.choosing_spec.specs.Table.{pattern_from}
use Rattle.choosing_theorems.proofs.Taken as choosing
use Rattle.decoding_spec.specs.State.{Setting, starting, counted, setting_of}
use Rattle.decoding_spec.specs.Walk.{Result, done, refused, Walker, and_then, full, width_of, choice_in, shown_as, start_of, closed, field_from, computed_from, operand_from, operands_from, constructor_from, taking, table_from, walk_from, walked_from, walked_of}
use Rattle.decoding_spec.specs.declared.State.{State}
use Rattle.decoding_spec.specs.declared.Refusal.{Refusal}
use Rattle.decoding_spec.specs.declared.Refusal.TheVariants.{Short, NoMatch, Hole, TooFar, TooManyRows, RootLengthZero}
use Rattle.decoding_theorems.specs.Facts.{ChoiceRefused}
use Rattle.decoding_theorems.proofs.Taken.{none-taken}

module _ (d : Description) (c : ℕ) (input : List ℕ) where
  -- a result that is done in the same context, or a refusal that choosing explains
  abbrev Explained : {A : Type 0} → Result A → Type 0
  Explained (done a l st) = st.context ≡ c
  Explained (refused x) = ChoiceRefused d c input x

  test : {A : Type 0} (t : Bool) (x : Refusal) (r : Result A) → ChoiceRefused d c input x → Explained r → Explained (cond t (refused x) r)
  test true x r h g = h
  test false x r h g = g

  and-then : {A B : Type 0} (r : Result A) (rest : A → ℕ → State → Result B) → Explained r
      → ((a : A) (l : ℕ) (st : State) → st.context ≡ c → Explained (rest a l st)) → Explained (and_then r rest)
  and-then (done a l st) rest h g = g a l st h
  and-then (refused x) rest h g = h

  module _ (g : Setting) (same : g.description ≡ d) where
    shown : (e : Description) (f : Field) (i p v : ℕ) (k : Look) (st : State) → st.context ≡ c → Explained (shown_as e f i p v k st)
    unfolding shown_as
    shown e f i p v (look.Number signed base) st h = h
    shown e f i p v look.Name st h = test (eqb (get_or e.names (f.first + v) no_name).length 0) (Hole p) _ tt h

    field : (f : Field) (i : ℕ) (s : List ℕ) (p : ℕ) (st : State) → st.context ≡ c → Explained (field_from g f i s p st)
    unfolding field_from
    field f i s p st h =
        test (full st) TooManyRows _ tt
        (test (ltb longest p || ltb longest (p + width_of f)) (TooFar p) _ tt
        (test (ltb g.total (p + width_of f)) (Short p) _ tt
        (shown g.description f i p (value_of f s st.context) (look_of f.look) (counted st) h)))

    compute : (i p : ℕ) (st : State) → st.context ≡ c → Explained (computed_from g i p st)
    unfolding computed_from
    compute i p st h =
        test (full st) TooManyRows _ tt (test (ltb longest p) (TooFar p) _ tt (test (ltb g.total p) (Short p) _ tt h))

    -- a walker that is handed the input's bytes from its place on
    abbrev Explains : Walker → Type 0
    Explains w = (t : ℕ) (s : List ℕ) (at : ℕ) (st : State) → s ≡ drop at input → st.context ≡ c → Explained (w t s at st)

    module _ (w : Walker) (explains : Explains w) where
      operand : (x : Operand) (s : List ℕ) (at start : ℕ) (st : State) → s ≡ drop at input → st.context ≡ c
          → Explained (operand_from g w x s at start st)
      unfolding operand_from
      operand x s at start st p h = go (eqb x.kind 0) (eqb x.kind 2)
        where
          go : (t u : Bool)
              → Explained (cond t (field_from g (get_or g.description.fields x.index no_field) x.index (drop start s) (at + start) st)
              (cond u (computed_from g x.index (at + start) st) (w x.index (drop start s) (at + start) st)))
          go true u = field (get_or g.description.fields x.index no_field) x.index (drop start s) (at + start) st h
          go false true = compute x.index (at + start) st h
          go false false = explains x.index (drop start s) (at + start) st (ap (drop start) p ∙ drop-drop start at input) h

      operands : (first : ℕ) (s : List ℕ) (at left o : ℕ) (ends : List ℕ) (far : ℕ) (st : State) → s ≡ drop at input → st.context ≡ c
          → Explained (operands_from g w first s at left o ends far st)
      unfolding operands_from
      operands first s at zero o ends far st p h = h
      operands first s at (suc left) o ends far st p h =
          let x = get_or g.description.operands (first + o) no_operand in
          and-then (operand_from g w x s at (start_of ends x) st) _ (operand x s at (start_of ends x) st p h)
          (λ n l st h.
          and-then (operands_from g w first s at left (o + 1) (set ends (o + 1) (start_of ends x + l)) (max far (start_of ends x + l)) st) _
          (operands first s at left (o + 1) (set ends (o + 1) (start_of ends x + l)) (max far (start_of ends x + l)) st p h)
          (λ f far st h. h))

      taken : (t : ℕ) (s : List ℕ) (at : ℕ) (st : State) → s ≡ drop at input → st.context ≡ c → (q : std.Result ℕ NotChosen) → choice_in d t s c ≡ q
          → Explained (taking g w t s at st q)
      unfolding constructor_from closed
      taken t s at st p h (Err choice.Short) e = tt
      taken t s at st p h (Err choice.NoMatch) e = rw p at e
      taken t s at st p h (Err choice.Ambiguous) e = rw p at e
      taken t s at st p h (Ok n) e =
          let k = get_or g.description.constructors n no_constructor in
          and-then (operands_from g w k.operands.first s at k.operands.count 0 (replicate (operands_each + 1) 0) 0 (counted st)) _
          (operands k.operands.first s at k.operands.count 0 (replicate (operands_each + 1) 0) 0 (counted st) p h)
          (λ f far st h.
          test (ltb longest (at + max k.minimum far)) (TooFar at) _ tt (test (ltb g.total (at + max k.minimum far)) (Short at) _ tt h))

      table : Explains (table_from g w)
      unfolding table_from
      table t s at st p h =
          test (full st) TooManyRows _ tt
          (test (ltb longest at) (TooFar at) _ tt (taken t s at st p h (choice_in g.description t s st.context) (rw (same, h))))

    walk : (depth : ℕ) → Explains (walk_from g depth)
    unfolding walk_from
    walk zero t s at st p h = tt
    walk (suc depth) t s at st p h = table (walk_from g depth) (walk depth) t s at st p h

  explained : Explained (walked_of d c input)
  unfolding walked_of walked_from
  explained =
      let g : Setting = setting_of d (length input) in
      and-then (walk_from g (suc most_rows) (root_of d) input 0 (starting c)) _ (walk g refl (suc most_rows) (root_of d) input 0 (starting c) refl refl)
      (λ n l st h. test (eqb l 0) RootLengthZero (done n l st) tt h)

  pub choice-refused : (x : Refusal) → walked_of d c input ≡ refused x → ChoiceRefused d c input x
  choice-refused x e = rw e at explained

  -- none of that table's constructors matches the input's bytes from that place on
  pub none-matches : RulesHold d → (p t : ℕ) → walked_of d c input ≡ refused (NoMatch p t) → (k : ℕ) → k < length d.constructors
      → table_at d k ≡ t → matches (get_or d.constructors k no_constructor).pattern (drop p input) c ≡ false
  unfolding pattern_from matching
  none-matches o p t e k h f =
      let r = of-table d o t k h f in
      let same : table_first d t + (k - table_first d t) ≡ k = omega (arith, r.0) in
      subst (λ (i : ℕ). matches (get_or d.constructors i no_constructor).pattern (drop p input) c ≡ false) same
      (choosing.no-match (pattern_from d (table_first d t)) (table_end d t - table_first d t) (drop p input) c
      (none-taken d c t (drop p input) (choice-refused (NoMatch p t) e)) (k - table_first d t)
      (omega (arith, r.0, r.1))).0
