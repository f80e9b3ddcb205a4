-- Building a tree: the answers in the order 1, 12, 15, 16, and the lent bytes afterwards.
use Rattle.std.specs.Prelude.{ℕ, ◌+◌, ◌-◌, ◌*◌, Bool, cond, ◌&&◌, List, [], ◌∷◌, ◌≡◌, leb, length, Option, Some, None, Result, Ok, Err}
use Rattle.format.specs.Description.{Description}
use Rattle.format.specs.Rules.{has_table}
use Rattle.format.specs.Tables.{table_first, table_end}
use Rattle.format.specs.declared.Pattern.{Pattern}
use Rattle.acceptance.specs.Acceptance.{acceptance_of, accepting, rejection_number, rejection_values}
use Rattle.choosing_spec.specs.Clashing.{clash_of}
use Rattle.choosing_spec.specs.Table.{pattern_from}
use Rattle.printing.specs.Writing.{over}
use Rattle.tree_spec.specs.Nodes.{most_nodes}
use Rattle.tree_building_spec.specs.Tree.{Tree, tree_of, size_of, tree_bytes}
use Rattle.tree_building.specs.declared.BuildError.{BuildError}
use Rattle.tree_building.specs.declared.BuildError.TheVariants.{Rejected, NoTable, Clashes, TooLarge}

-- a tree to be written, or a refusal
abbrev pub Outcome : Type 0
Outcome = Result Tree BuildError

-- not "a tree over 4,095 nodes or larger than the lent buffer"
unfoldable pub fits : Tree → ℕ → Bool
fits t room = leb (size_of t) most_nodes && leb (2 + 4 * size_of t) room

-- what is answered, with room for so many bytes
abbrev pub told : ℕ → Outcome → Result ℕ BuildError
told room (Ok t) = cond (fits t room) (Ok (2 + 4 * size_of t)) (Err TooLarge)
told room (Err e) = Err e

-- the lent bytes afterwards
abbrev pub lent : List ℕ → Outcome → List ℕ
lent old (Ok t) = cond (fits t (length old)) (over (tree_bytes t) old) old
lent old (Err e) = old

-- an outcome as it is answered and written
pub record Builds (o : Outcome) (old : List ℕ) (r : Result ℕ BuildError) (new : List ℕ) : Type 0 where
  pub answer : r ≡ told (length old) o
  pub bytes : new ≡ lent old o

-- "A table that clashes is refused with 15 and the pair", by their records of section 3
abbrev pub unless_clash : ℕ → (ℕ → Pattern) → ℕ → Option (ℕ × ℕ) → Outcome
unless_clash first at n None = Ok (tree_of first at n)
unless_clash first at n (Some (i, j)) = Err (Clashes (first + i) (first + j))

-- the constructors from `first` on, n of them
unfoldable pub outcome_for : Description → ℕ → ℕ → Outcome
outcome_for d first n = unless_clash first (pattern_from d first) n (clash_of (pattern_from d first) n)

-- 12 where the description has no such table
unfoldable pub outcome_in : Description → ℕ → Outcome
outcome_in d t = cond (has_table d t) (outcome_for d (table_first d t) (table_end d t - table_first d t)) (Err (NoTable t))

-- bytes b as the description, table t, room for so many bytes
unfoldable pub build_of : List ℕ → ℕ → ℕ → Result ℕ BuildError
build_of b t room = accepting (λ x. Err (Rejected x)) (λ d. told room (outcome_in d t)) b (acceptance_of b)

-- the lent bytes afterwards
unfoldable pub build_after : List ℕ → ℕ → List ℕ → List ℕ
build_after b t old = accepting (λ x. old) (λ d. lent old (outcome_in d t)) b (acceptance_of b)

-- the answer's number in the tables of documents 01 and 02 ..
abbrev pub number_of : Result ℕ BuildError → ℕ
number_of (Ok k) = 0
number_of (Err (Rejected x)) = rejection_number x
number_of (Err (NoTable t)) = 12
number_of (Err (Clashes i j)) = 15
number_of (Err TooLarge) = 16

-- .. and its values, unused ones 0
abbrev pub values_of : Result ℕ BuildError → List ℕ
values_of (Ok k) = k ∷ 0 ∷ 0 ∷ 0 ∷ []
values_of (Err (Rejected x)) = rejection_values x
values_of (Err (NoTable t)) = t ∷ 0 ∷ 0 ∷ 0 ∷ []
values_of (Err (Clashes i j)) = i ∷ j ∷ 0 ∷ 0 ∷ []
values_of (Err TooLarge) = 0 ∷ 0 ∷ 0 ∷ 0 ∷ []
