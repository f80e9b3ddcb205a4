-- Demand 2 for a table of a description, by records of section 3.
use Rattle.std.specs.Prelude.{ℕ, ◌<◌, true, List, ◌≡◌, length, get_or}
use Rattle.format.specs.Description.{Description, no_constructor}
use Rattle.format.specs.Rules.{table_at}
use Rattle.format.specs.declared.Pattern.{Pattern}
use Rattle.patterns.specs.Matching.{matches}
use Rattle.patterns.specs.Relations.{inside}

abbrev pub pattern_of : Description → ℕ → Pattern
pattern_of d i = (get_or d.constructors i no_constructor).pattern

-- constructor i is one of table t, and its pattern matches the bytes s and the context c
pub record MatchesIn (d : Description) (t : ℕ) (s : List ℕ) (c i : ℕ) : Type 0 where
  pub there : i < length d.constructors
  pub table : table_at d i ≡ t
  pub fits : matches (pattern_of d i) s c ≡ true

-- "the matching constructor inside all other matching ones"
pub record InmostIn (d : Description) (t : ℕ) (s : List ℕ) (c k : ℕ) : Type 0 where
  pub matching : MatchesIn d t s c k
  pub inmost : (i : ℕ) → MatchesIn d t s c i → (i ≡ k → ⊥) → inside (pattern_of d k) (pattern_of d i) ≡ true

-- constructor k is such a one, and the only one
pub record TakenIn (d : Description) (t : ℕ) (s : List ℕ) (c k : ℕ) : Type 0 where
  pub is : InmostIn d t s c k
  pub only : (i : ℕ) → InmostIn d t s c i → i ≡ k

-- "none matches"
abbrev pub NoneIn : Description → ℕ → List ℕ → ℕ → Type 0
NoneIn d t s c = (i : ℕ) → MatchesIn d t s c i → ⊥
