-- The clash check of a table: `at j` is the pattern of record j, and there are n.
use Rattle.std.specs.Prelude.{ℕ, Bool, cond, ◌&&◌, ◌||◌, not, List, [], ◌∷◌, eqb, ltb, leb, Option, Some, None}
use Rattle.lists.specs.Below.{any_below, first_below}
use Rattle.patterns.specs.Relations.{inside, overlap, overlap_of, equal}
use Rattle.format.specs.declared.Pattern.{Pattern}

module _ (at : ℕ → Pattern) (n : ℕ) where
  -- "overlap with neither inside the other"
  unfoldable pub crossing : ℕ → ℕ → Bool
  crossing i j = overlap (at i) (at j) && not (inside (at i) (at j)) && not (inside (at j) (at i))

  -- a record other than i and j has pattern p
  abbrev pub another : ℕ → ℕ → Pattern → Bool
  another i j p = any_below n (λ t. not (eqb t i) && not (eqb t j) && equal (at t) p)

  -- "third in the table equal to exactly their overlap"
  unfoldable pub third : ℕ → ℕ → Bool
  third i j = another i j (overlap_of (at i) (at j))

  -- "patterns are equal, or overlap with neither inside the other and no third in the table equal to exactly their overlap"
  unfoldable pub clashing : ℕ → ℕ → Bool
  clashing i j = equal (at i) (at j) || (crossing i j && not (third i j))

  -- the first record after i that clashes with it, or n
  unfoldable pub partner : ℕ → ℕ
  partner i = first_below n (λ j. not (ltb i j && clashing i j))

  -- the first record that has such a partner, or n
  unfoldable pub first_clash : ℕ
  first_clash = first_below n (λ i. leb n (partner i))

  -- "the pair of records i < j with smallest i, then j .. else clear", numbered within the table
  unfoldable pub clash_of : Option (ℕ × ℕ)
  clash_of = cond (ltb first_clash n) (Some (first_clash, partner first_clash)) None

-- its number in document 01's table, since a clash is an answer and not a refusal ..
abbrev pub clash_number : Option (ℕ × ℕ) → ℕ
clash_number r = 0

-- .. and its values: 0 for clear, or 1 and the pair
abbrev pub clash_values : Option (ℕ × ℕ) → List ℕ
clash_values None = 0 ∷ []
clash_values (Some (i, j)) = 1 ∷ i ∷ j ∷ []
