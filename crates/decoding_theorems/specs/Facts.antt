-- What the theorems say of a decoded instruction.
use Rattle.std.specs.Prelude.{ℕ, ◌+◌, ◌≤◌, ◌<◌, true, cond, List, [], ◌∷◌, ◌≡◌, eqb, nat_abs, length, get_or, drop, Err}
use Rattle.format.specs.Numbers.{longest, most_rows, operands_each}
use Rattle.format.specs.Expression.{no_expression, names_only}
use Rattle.expressions.specs.Value as expression
use Rattle.format.specs.Description.{Description, no_field, no_constructor}
use Rattle.choosing_spec.specs.declared.NotChosen.TheVariants as choice
use Rattle.decoding_spec.specs.Tree.{Row, Node, Nodes, built, numbered, named, computed, none, more, rows_of}
use Rattle.decoding_spec.specs.Walk.{width_of, choice_in}
use Rattle.decoding_spec.specs.declared.Refusal.{Refusal}
use Rattle.decoding_spec.specs.declared.Refusal.TheVariants.{Short, NoMatch, Ambiguous, Hole, TooFar, TooManyRows, RootLengthZero, ValueOutside}

-- every row of a list
abbrev pub Each : (Row → Type 0) → List Row → Type 0
Each P [] = Unit {0}
Each P (r ∷ rs) = P r × Each P rs

-- answers 3 and 4 are what choosing says in the table that they name, for the input's bytes from their place on
abbrev pub ChoiceRefused : Description → ℕ → List ℕ → Refusal → Type 0
ChoiceRefused d c s (NoMatch p t) = choice_in d t (drop p s) c ≡ Err choice.NoMatch
ChoiceRefused d c s (Ambiguous p t) = choice_in d t (drop p s) c ≡ Err choice.Ambiguous
ChoiceRefused d c s (Short p) = Unit {0}
ChoiceRefused d c s (Hole p) = Unit {0}
ChoiceRefused d c s (TooFar p) = Unit {0}
ChoiceRefused d c s TooManyRows = Unit {0}
ChoiceRefused d c s RootLengthZero = Unit {0}
ChoiceRefused d c s (ValueOutside p) = Unit {0}

-- where a row ends: a constructor by its length, a field by its width; a computed operand has no bytes
abbrev pub end_of : Description → Row → ℕ
end_of d r =
    cond (eqb r.kind 0)
    (r.start + nat_abs r.last)
    (cond (eqb r.kind 3) r.start (r.start + width_of (get_or d.fields r.number no_field)))

-- an instruction of this length for the input s: 1 to 16 bytes, all of them there, at most 32 rows, and every row ends in it
pub record InBounds (d : Description) (s : List ℕ) (n : Node) (size : ℕ) : Type 0 where
  pub some : 1 ≤ size
  pub near : size ≤ longest
  pub here : size ≤ length s
  pub few : length (rows_of n) ≤ most_rows
  pub rows : Each (λ r. end_of d r ≤ size) (rows_of n)

-- a constructor, as every root is
abbrev pub Built : Node → Type 0
Built (built k s l f) = Unit {0}
Built (numbered i s v) = ⊥
Built (named i s n) = ⊥
Built (computed i s v) = ⊥

-- how many operands there are
unfoldable pub count_of : Nodes → ℕ
count_of none = 0
count_of (more n f) = 1 + count_of f

-- the tree's numbers are those of the description's records, and each constructor has as many operands as its record says
abbrev mutual
  pub Shaped : Description → Node → Type 0
  Shaped d (built k s l f) =
      (k < length d.constructors) × (count_of f ≡ (get_or d.constructors k no_constructor).operands.count) × ShapedAll d f
  Shaped d (numbered i s v) = i < length d.fields
  Shaped d (named i s n) = (i < length d.fields) × (n < length d.names)
  Shaped d (computed i s v) = (i < length d.expressions) × (names_only (expression.numbered operands_each) (get_or d.expressions i no_expression) ≡ true)

  pub ShapedAll : Description → Nodes → Type 0
  ShapedAll d none = Unit {0}
  ShapedAll d (more n f) = Shaped d n × ShapedAll d f
