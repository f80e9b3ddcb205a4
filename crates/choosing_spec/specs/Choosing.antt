-- Choosing in a table: `at j` is the pattern of record j, and there are n; s are the bytes present, c is the context.
use Rattle.std.specs.Prelude.{ℕ, Bool, cond, ◌&&◌, ◌||◌, not, List, [], ◌∷◌, eqb, ltb, Result, Ok, Err}
use Rattle.lists.specs.Below.{all_below, any_below, first_below}
use Rattle.patterns.specs.Matching.{matches, cut_off}
use Rattle.patterns.specs.Relations.{inside}
use Rattle.format.specs.declared.Pattern.{Pattern}
use Rattle.choosing_spec.specs.declared.NotChosen.{NotChosen}
use Rattle.choosing_spec.specs.declared.NotChosen.TheVariants.{Short, NoMatch, Ambiguous}

module _ (at : ℕ → Pattern) (n : ℕ) (s : List ℕ) (c : ℕ) where
  unfoldable pub short : ℕ → Bool
  short i = cut_off (at i) s c

  unfoldable pub matching : ℕ → Bool
  matching i = matches (at i) s c

  -- "the matching constructor inside all other matching ones"
  unfoldable pub innermost : ℕ → Bool
  innermost i = matching i && all_below n (λ j. eqb i j || not (matching j) || inside (at i) (at j))

  -- the first such one, or n
  unfoldable pub taken : ℕ
  taken = first_below n (λ i. not (innermost i))

  -- there is one, and no other
  unfoldable pub alone : Bool
  alone = ltb taken n && all_below n (λ i. eqb i taken || not (innermost i))

  -- "1. Short, if some pattern agrees with the context and all bytes present and masks a bit of a missing byte. 2. No match, if
  -- none matches. 3. Taken is the matching constructor inside all other matching ones; if there is none such, or more than one,
  -- ambiguous." A record is numbered within its table.
  unfoldable pub choose : Result ℕ NotChosen
  choose =
      cond (any_below n short) (Err Short)
      (cond (any_below n matching) (cond alone (Ok taken) (Err Ambiguous)) (Err NoMatch))

-- a choice's number in document 01's table ..
abbrev pub choice_number : Result ℕ NotChosen → ℕ
choice_number (Ok j) = 0
choice_number (Err Short) = 2
choice_number (Err NoMatch) = 3
choice_number (Err Ambiguous) = 4

-- .. and its values, as far as the table alone gives them: the taken record, numbered within the table, or place 0
abbrev pub choice_values : Result ℕ NotChosen → List ℕ
choice_values (Ok j) = j ∷ []
choice_values (Err e) = 0 ∷ []
