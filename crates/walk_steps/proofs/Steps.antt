-- Between the code's answers and the definition's results: one law for each way out of a step.
use Prim.Native.Nat.{ℕ, ◌+◌, ◌≤◌, ◌<◌}
use mathlib.Core.Bool.{Bool, true, false, ◌||◌, false≢true}
use mathlib.Core.List.{List, [], ◌∷◌}
use mathlib.Core.Path.{◌≡◌, refl, sym}
use native.Mathlib.Omega.{arith}
use borrow.Author.Tests.{ltb-false, lt-ltb, le-ltb, le-leb, lt-leb, ne_eqb}
use lib.Dec.{ltb}
use lib.IntN.{ℤ, pos}
use lib.ListN.{get_or}
use Rattle.std.specs.Prelude.{Err}
use Rattle.format.specs.Numbers.{longest, most_rows}
use Rattle.format.specs.Description.{Description, no_name}
use Rattle.format.specs.Rules.{bits_of}
use Rattle.format.specs.declared.Field.{Field}
use Rattle.fields.specs.Value.{value_of}
use Rattle.fields.specs.Look.{look_of, number_of}
use Rattle.printing.specs.declared.Base.{Base}
use Rattle.fields.specs.declared.Look.{Look}
use Rattle.fields.specs.declared.Look.TheVariants as look
use Rattle.decoding_spec.specs.State.{Setting, counted}
use Rattle.decoding_spec.specs.Tree.{Node, numbered, named, computed}
use Rattle.decoding_spec.specs.Walk.{Result, done, refused, width_of, shown_as, field_from, computed_from}
use Rattle.decoding_spec.specs.declared.State.{State}
use Rattle.decoding_spec.specs.declared.Refusal.{Refusal}
use Rattle.decoding_spec.specs.declared.Refusal.TheVariants.{Short, Hole, TooFar, TooManyRows}
use Rattle.walk_steps.specs.Scratch.{SizedRow, sized, sized_of, written}
use Rattle.walk_steps.specs.Steps.{StepsTo, Walked, arrived}

refuses : (result : Result Node) (at used : ℕ) (old : List ℤ) (r : Refusal) → result ≡ refused r → StepsTo sized_of result (Err r) at used old old
refuses result at used old r e = rw e (record { answer = refl; held = refl; bounded = tt })

-- one row behind those used so far
puts : (result : Result Node) (n : Node) (r : SizedRow) (l : ℕ) (st : State) (at : ℕ) (old new : List ℤ) → result ≡ done n l (counted st) → sized_of n ≡ r ∷ []
    → st.used < most_rows → at + l ≤ longest → new ≡ written st.used (r ∷ []) old
    → StepsTo sized_of result (arrived (counted st) l) at st.used old new
puts result n r l st at old new e row u near h =
    rw e (record { answer = refl; held = rw row h; bounded = (rw row, omega arith, near) })

module _ (d : Description) (f : Field) (i p v : ℕ) (st : State) (old : List ℤ) where
  pub shows-hole : (l : Look) → l ≡ look.Name → (get_or d.names (f.first + v) no_name).length ≡ 0
      → StepsTo sized_of (shown_as d f i p v l (counted st)) (Err (Hole p)) p st.used old old
  unfolding shown_as
  shows-hole l e h = refuses _ _ _ _ _ (rw (e, h))

  module _ (new : List ℤ) (width : ℕ) (w : width ≡ width_of f) (room : st.used < most_rows) (near : p + width_of f ≤ longest) where
    pub shows-number : (l : Look) (signed : Bool) (base : Base) → l ≡ look.Number signed base
        → new ≡ written st.used (sized 1 i p (number_of signed (bits_of f) v) 1 ∷ []) old
        → StepsTo sized_of (shown_as d f i p v l (counted st)) (arrived (counted st) width) p st.used old new
    unfolding shown_as sized_of
    shows-number l signed base e n =
        puts (shown_as d f i p v l (counted st)) (numbered i p (number_of signed (bits_of f) v)) _ width st p old new (rw (e, w)) refl room (rw w near) n

    pub shows-name : (l : Look) → l ≡ look.Name → ((get_or d.names (f.first + v) no_name).length ≡ 0 → ⊥)
        → new ≡ written st.used (sized 2 i p (pos (f.first + v)) 1 ∷ []) old
        → StepsTo sized_of (shown_as d f i p v l (counted st)) (arrived (counted st) width) p st.used old new
    unfolding shown_as sized_of
    shows-name l e h n =
        puts (shown_as d f i p v l (counted st)) (named i p (f.first + v)) _ width st p old new
        (rw (e, ne_eqb (get_or d.names (f.first + v) no_name).length 0 h, w)) refl room (rw w near) n

-- neither its start nor its end is too far
pub near-end : (p end : ℕ) → (ltb longest p || ltb longest end) ≡ false → end ≤ longest
near-end p end h = ltb-false longest end (go (ltb longest p) (ltb longest end) h)
  where
    go : (a b : Bool) → (a || b) ≡ false → b ≡ false
    go true b e = absurd (false≢true (sym e))
    go false b e = e

-- a field: "7, 6, 2, 5"
module _ (g : Setting) (f : Field) (i : ℕ) (s : List ℕ) (p : ℕ) (st : State) where
  pub field-full : (old : List ℤ) → most_rows ≤ st.used → StepsTo sized_of (field_from g f i s p st) (Err TooManyRows) p st.used old old
  unfolding field_from
  field-full old h = refuses _ _ _ _ _ (rw (le-leb most_rows st.used h, field_from))

  module _ (u : st.used < most_rows) where
    pub field-far : (old : List ℤ) (end : ℕ) → end ≡ p + width_of f → (ltb longest p || ltb longest end) ≡ true
        → StepsTo sized_of (field_from g f i s p st) (Err (TooFar p)) p st.used old old
    unfolding field_from
    field-far old end e h = refuses _ _ _ _ _ (rw (lt-leb most_rows st.used u, rw e at h, field_from))

    module _ (end : ℕ) (e : end ≡ p + width_of f) (near : (ltb longest p || ltb longest end) ≡ false) where
      pub field-short : (old : List ℤ) → g.total < end → StepsTo sized_of (field_from g f i s p st) (Err (Short p)) p st.used old old
      unfolding field_from
      field-short old h =
          refuses _ _ _ _ _ (rw (lt-leb most_rows st.used u, rw e at near, lt-ltb g.total (p + width_of f) (rw e at h), field_from))

      pub field-shown : end ≤ g.total
          → field_from g f i s p st ≡ shown_as g.description f i p (value_of f s st.context) (look_of f.look) (counted st)
      unfolding field_from
      field-shown h = rw (lt-leb most_rows st.used u, rw e at near, le-ltb g.total (p + width_of f) (rw e at h), field_from)

-- a computed operand: "7, 6, 2"
module _ (g : Setting) (i p : ℕ) (st : State) (old : List ℤ) where
  abbrev Computes : Walked → List ℤ → Type 0
  Computes r new = StepsTo sized_of (computed_from g i p st) r p st.used old new

  pub computed-full : most_rows ≤ st.used → Computes (Err TooManyRows) old
  unfolding computed_from
  computed-full h = refuses _ _ _ _ _ (rw (le-leb most_rows st.used h, computed_from))

  module _ (u : st.used < most_rows) where
    pub computed-far : longest < p → Computes (Err (TooFar p)) old
    unfolding computed_from
    computed-far h = refuses _ _ _ _ _ (rw (lt-leb most_rows st.used u, lt-ltb longest p h, computed_from))

    module _ (near : p ≤ longest) where
      pub computed-short : g.total < p → Computes (Err (Short p)) old
      unfolding computed_from
      computed-short h = refuses _ _ _ _ _ (rw (lt-leb most_rows st.used u, le-ltb longest p near, lt-ltb g.total p h, computed_from))

      pub computed-put : (new : List ℤ) → p ≤ g.total → new ≡ written st.used (sized 3 i p (pos 0) 1 ∷ []) old → Computes (arrived (counted st) 0) new
      unfolding computed_from sized_of
      computed-put new h n =
          puts (computed_from g i p st) (computed i p (pos 0)) _ 0 st p old new
          (rw (lt-leb most_rows st.used u, le-ltb longest p near, le-ltb g.total p h, computed_from)) refl u (omega arith) n
