-- Demand 2 for an asked table.
use Prim.Native.Nat.{ℕ, ◌+◌, ◌-◌}
use mathlib.Core.Bool.{Bool, true, false, cond}
use mathlib.Core.List.{List, ◌++◌}
use mathlib.Core.Path.{◌≡◌, refl, ap, ◌∙◌}
use native.Mathlib.Omega.{arith}
use borrow.Author.Tests.{eq-eqb}
use lib.Dec.{eqb}
use lib.ListN.{length}
use Rattle.std.specs.Prelude.{Result, Ok, Err}
use Rattle.lists.proofs.Below.{any_at}
use Rattle.format.specs.Description.{Description, description}
use Rattle.format.specs.Rules.{table_at, has_table}
use Rattle.format.specs.Tables.{table_first, table_end}
use Rattle.format.specs.declared.Layout.{Layout}
use Rattle.format.proofs.Tables.{of-table}
use Rattle.format.proofs.Formation.{RulesHold, obeyed}
use Rattle.acceptance.specs.Acceptance.{acceptance_of, accepting}
use Rattle.acceptance.specs.declared.Rejection.{Rejection}
use Rattle.acceptance.proofs.Facts.{accepted-formed}
use Rattle.patterns.specs.Relations.{weight}
use Rattle.choosing_spec.specs.declared.NotChosen.{NotChosen}
use Rattle.choosing_spec.specs.declared.NotChosen.TheVariants as not_chosen
use Rattle.choosing_spec.specs.Table.{pattern_from, choose_in}
use Rattle.choosing_spec.specs.Records.{pattern_of, TakenIn, NoneIn}
use Rattle.choosing.proofs.Records.{taken_in, none_in, in_taken, in-none}
use Rattle.choosing_theorems.proofs.Stays.{stays}
use Rattle.table_query.specs.Asking.{answered, ask_in, ask_of}
use Rattle.table_query.specs.Facts.{TakenWith}
use Rattle.table_query.specs.declared.Asked.{Asked}
use Rattle.table_query.specs.declared.AskError.{AskError}
use Rattle.table_query.specs.declared.AskError.TheVariants.{Rejected, NoTable, Short, NoMatch, Ambiguous}

-- an answer, unless short, stays the same whatever bytes follow
in-stays : (d : Description) (t c : ℕ) (s m : List ℕ) → (ask_in d t c s ≡ Err Short → ⊥) → ask_in d t c (s ++ m) ≡ ask_in d t c s
unfolding ask_in
in-stays d t c s m f = go (has_table d t) refl
  where
    go : (h : Bool) → has_table d t ≡ h
        → cond h (answered d t (choose_in d t (s ++ m) c)) (Err (NoTable t)) ≡ cond h (answered d t (choose_in d t s c)) (Err (NoTable t))
    go true h = ap (answered d t) (stays (pattern_from d (table_first d t)) (table_end d t - table_first d t) s m c (λ e. f (rw (h, e))))
    go false h = refl

pub ask-stays : (b : List ℕ) (t c : ℕ) (s m : List ℕ) → (ask_of b t c s ≡ Err Short → ⊥) → ask_of b t c (s ++ m) ≡ ask_of b t c s
unfolding ask_of
ask-stays b t c s m f = go (acceptance_of b) refl
  where
    go : (x : Result Layout Rejection) → acceptance_of b ≡ x
        → accepting (λ y. Err (Rejected y)) (λ d. ask_in d t c (s ++ m)) b x ≡ accepting (λ y. Err (Rejected y)) (λ d. ask_in d t c s) b x
    go (Ok l) e = in-stays (description b l) t c s m (λ q. f (rw e q))
    go (Err x) e = refl

-- what an answer says of the table, in a description that obeys its rules
abbrev Told : Description → ℕ → ℕ → List ℕ → Result Asked AskError → Type 0
Told d t c s (Ok a) = TakenWith d t c s a.constructor a.weight
Told d t c s (Err (NoMatch u)) = NoneIn d t s c
Told d t c s (Err (Rejected x)) = Unit {0}
Told d t c s (Err (NoTable u)) = Unit {0}
Told d t c s (Err Short) = Unit {0}
Told d t c s (Err (Ambiguous u)) = Unit {0}

told : (d : Description) → RulesHold d → (t c : ℕ) (s : List ℕ) → Told d t c s (ask_in d t c s)
unfolding ask_in pattern_from
told d o t c s = go (has_table d t) (choose_in d t s c) refl
  where
    go : (h : Bool) (r : Result ℕ NotChosen) → choose_in d t s c ≡ r → Told d t c s (cond h (answered d t r) (Err (NoTable t)))
    go false r e = tt
    go true (Err not_chosen.Short) e = tt
    go true (Err not_chosen.NoMatch) e = none_in d o t s c e
    go true (Ok j) e = record { taken = taken_in d o t s c j e; weighs = refl }
    go true (Err not_chosen.Ambiguous) e = tt

-- bytes b that are accepted as a description
module _ (b : List ℕ) (l : Layout) (good : acceptance_of b ≡ Ok l) (t c : ℕ) (s : List ℕ) where
  says : Told (description b l) t c s (ask_of b t c s)
  unfolding ask_of
  says = rw good (told (description b l) (obeyed b l (accepted-formed b l good)) t c s)

  -- the constructor and weight of a done answer
  pub ask-done : (k w : ℕ) → ask_of b t c s ≡ Ok (record { constructor = k; weight = w }) → TakenWith (description b l) t c s k w
  ask-done k w e = rw e at says

  -- "no match" means that none matches
  pub ask-none : ask_of b t c s ≡ Err (NoMatch t) → NoneIn (description b l) t s c
  ask-none e = rw e at says

  -- a table that is there answers by its choice
  pub by-choice : has_table (description b l) t ≡ true → ask_of b t c s ≡ answered (description b l) t (choose_in (description b l) t s c)
  unfolding ask_of ask_in
  by-choice h = rw (good, h)

  -- and back, unless short: the constructor that is taken is answered, with its weight ..
  pub done-ask : (k : ℕ) → TakenIn (description b l) t s c k → (ask_of b t c s ≡ Err Short → ⊥)
      → ask_of b t c s ≡ Ok (record { constructor = k; weight = weight (pattern_of (description b l) k) })
  unfolding has_table pattern_from
  done-ask k r f =
      let d = description b l in
      let o = obeyed b l (accepted-formed b l good) in
      let m = r.is.matching in
      let j = k - table_first d t in
      let e : table_first d t + j ≡ k = omega (arith, (of-table d o t k m.there m.table).0) in
      let h : has_table d t ≡ true = any_at (λ i. eqb (table_at d i) t) (length d.constructors) k m.there (eq-eqb (table_at d k) t m.table) in
      let x : choose_in d t s c ≡ Ok j = in_taken d o t s c j (rw e r) (λ q. f (by-choice h ∙ ap (answered d t) q)) in
      by-choice h ∙ (ap (answered d t) x ∙ ap {B = Result Asked AskError} (λ y. Ok (record { constructor = y; weight = weight (pattern_of d y) })) e)

  -- .. and "no match" where none matches
  pub none-ask : has_table (description b l) t ≡ true → NoneIn (description b l) t s c → (ask_of b t c s ≡ Err Short → ⊥) → ask_of b t c s ≡ Err (NoMatch t)
  none-ask h r f =
      let d = description b l in
      by-choice h ∙ ap (answered d t) (in-none d (obeyed b l (accepted-formed b l good)) t s c r (λ q. f (by-choice h ∙ ap (answered d t) q)))
