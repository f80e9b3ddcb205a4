-- A table that the clash check calls clear, asked: for any bytes as the description.
use Prim.Native.Nat.{ℕ, ◌+◌, ◌-◌, ◌<◌}
use mathlib.Core.Bool.{Bool, true, false, cond}
use mathlib.Core.List.{List, ◌++◌}
use mathlib.Core.Path.{◌≡◌, refl, sym, ap, ◌∙◌}
use native.Mathlib.Omega.{arith}
use lib.ListN.{get_or, length-append}
use Rattle.std.specs.Prelude.{Option, Some, None, Result, Ok, Err}
use Rattle.format.specs.Check.{check_of, WellFormed}
use Rattle.format.specs.Description.{Description, description}
use Rattle.format.specs.Rules.{has_table}
use Rattle.format.specs.Tables.{table_first, table_end}
use Rattle.format.specs.declared.Fault.{Fault}
use Rattle.format.specs.declared.Layout.{Layout}
use Rattle.format.proofs.Formation.{formed}
use Rattle.acceptance.specs.Acceptance.{acceptance_of}
use Rattle.choosing_spec.specs.Clashing.{clash_of}
use Rattle.choosing_spec.specs.declared.NotChosen.{NotChosen}
use Rattle.choosing_spec.specs.declared.NotChosen.TheVariants as not_chosen
use Rattle.choosing_spec.specs.Table.{pattern_from, choose_in}
use Rattle.table_query.specs.Asking.{answered, ask_of}
use Rattle.table_query.specs.declared.Asked.{Asked}
use Rattle.table_query.specs.declared.AskError.{AskError}
use Rattle.table_query.specs.declared.AskError.TheVariants.{Rejected, NoTable, Short, NoMatch, Ambiguous}
use Rattle.table_query.proofs.Facts.{by-choice, ask-stays}
use Rattle.clash_check.specs.Entry.{placed, clash_in, judged_by, clash_answer}
use Rattle.clash_check.specs.declared.ClashError.TheVariants as clash_error
use Rattle.clash_check.proofs.Facts.{clear-table, short-table}
use Rattle.clear_theorems.specs.Continuing.{AskedApart}

-- a well-formed description is accepted
good-accepted : (b : List ℕ) (l : Layout) → check_of b ≡ Ok l → acceptance_of b ≡ Ok l
unfolding acceptance_of
good-accepted b l e = rw e

-- what "clear" says: the bytes are a description, it has the table, and there no pair clashes
record Cleared (b : List ℕ) (t : ℕ) : Type 0 where
  layout : Layout
  good : check_of b ≡ Ok layout
  has : has_table (description b layout) t ≡ true
  clear : clash_of (pattern_from (description b layout) (table_first (description b layout) t)) (table_end (description b layout) t - table_first (description b layout) t) ≡ None

cleared : (b : List ℕ) (t : ℕ) → clash_answer b t ≡ Ok None → Cleared b t
unfolding clash_answer clash_in
cleared b t e = go (check_of b) refl e
  where
    pairs : Description → Option (ℕ × ℕ)
    pairs d = clash_of (pattern_from d (table_first d t)) (table_end d t - table_first d t)

    inner : (l : Layout) → check_of b ≡ Ok l → (h : Bool) → has_table (description b l) t ≡ h → (r : Option (ℕ × ℕ)) → pairs (description b l) ≡ r
        → cond h (Ok (placed (table_first (description b l) t) r)) (Err (clash_error.NoTable t)) ≡ Ok None → Cleared b t
    inner l g false h r p q = cc
    inner l g true h None p q = record { layout = l; good = g; has = h; clear = p }
    inner l g true h (Some (i, j)) p q = cc

    go : (x : Result Layout Fault) → check_of b ≡ x → judged_by b t x ≡ Ok None → Cleared b t
    go (Ok l) g q = inner l g (has_table (description b l) t) refl (pairs (description b l)) refl q
    go (Err f) g q = cc

-- the choice behind an answer
abbrev chosen : ℕ → Result Asked AskError → Result ℕ NotChosen
chosen first (Ok a) = Ok (a.constructor - first)
chosen first (Err (Rejected x)) = Err not_chosen.Short
chosen first (Err (NoTable u)) = Err not_chosen.Short
chosen first (Err Short) = Err not_chosen.Short
chosen first (Err (NoMatch u)) = Err not_chosen.NoMatch
chosen first (Err (Ambiguous u)) = Err not_chosen.Ambiguous

chosen_is : (d : Description) (t : ℕ) (r : Result ℕ NotChosen) → chosen (table_first d t) (answered d t r) ≡ r
chosen_is d t (Err not_chosen.Short) = refl
chosen_is d t (Err not_chosen.NoMatch) = refl
chosen_is d t (Ok j) = let e : table_first d t + j - table_first d t ≡ j = omega arith in rw e
chosen_is d t (Err not_chosen.Ambiguous) = refl

module _ (b : List ℕ) (t : ℕ) (bytes : (i : ℕ) → get_or b i 0 < 256) (clear : clash_answer b t ≡ Ok None) (c : ℕ) where
  table : Cleared b t
  table = cleared b t clear

  abbrev d : Description
  d = description b table.layout

  choice-of : (s : List ℕ) (r : Result Asked AskError) → ask_of b t c s ≡ r → choose_in d t s c ≡ chosen (table_first d t) r
  choice-of s r e = sym (chosen_is d t (choose_in d t s c)) ∙ ap (chosen (table_first d t)) (sym (by-choice b table.layout (good-accepted b table.layout table.good) t c s table.has) ∙ e)

  fit : WellFormed b table.layout
  fit = formed b table.layout table.good

  -- "A clear table is never ambiguous."
  pub never-ambiguous : (s : List ℕ) (u : ℕ) → ask_of b t c s ≡ Err (Ambiguous u) → ⊥
  never-ambiguous s u e = clear-table b table.layout bytes fit t table.clear s c (choice-of s (Err (Ambiguous u)) e)

  -- "In a clear table "short" is given exactly when two continuations to eight or more bytes would be answered differently."
  pub short-apart : (s : List ℕ) → ask_of b t c s ≡ Err Short → AskedApart b t c s
  short-apart s e =
      let w = short-table b table.layout bytes fit t table.clear s c (choice-of s (Err Short) e) in
      record {
        these = w.these;
        those = w.those;
        these-bytes = w.these-bytes;
        those-bytes = w.those-bytes;
        these-long = rw length-append w.these-long;
        those-long = rw length-append w.those-long;
        apart = λ q. w.differ (choice-of (s ++ w.these) (ask_of b t c (s ++ w.those)) q ∙ sym (choice-of (s ++ w.those) (ask_of b t c (s ++ w.those)) refl));
      }

-- and back, in any table: an answer other than "short" stays
pub apart-short : (b : List ℕ) (t c : ℕ) (s : List ℕ) → AskedApart b t c s → ask_of b t c s ≡ Err Short
apart-short b t c s w = go (ask_of b t c s) refl
  where
    stay : (ask_of b t c s ≡ Err Short → ⊥) → ⊥
    stay f = w.apart (ask-stays b t c s w.these f ∙ sym (ask-stays b t c s w.those f))

    go : (r : Result Asked AskError) → ask_of b t c s ≡ r → r ≡ Err Short
    go (Ok a) e = absurd (stay (λ (q : ask_of b t c s ≡ Err Short). cc))
    go (Err (Rejected y)) e = absurd (stay (λ (q : ask_of b t c s ≡ Err Short). cc))
    go (Err (NoTable u)) e = absurd (stay (λ (q : ask_of b t c s ≡ Err Short). cc))
    go (Err Short) e = refl
    go (Err (NoMatch u)) e = absurd (stay (λ (q : ask_of b t c s ≡ Err Short). cc))
    go (Err (Ambiguous u)) e = absurd (stay (λ (q : ask_of b t c s ≡ Err Short). cc))
