-- What an instruction consists of, as a tree of constructors, fields and computed operands, and the rows that say it.
use Rattle.std.specs.Prelude.{ℕ, List, [], ◌∷◌, ◌++◌, ℤ, pos}

mutual
  pub data Node : Type 0 where
    -- a constructor, its start and length, and its operands in order
    built : (constructor start size : ℕ) → Nodes → Node
    -- a field, its start and its value
    numbered : (field start : ℕ) → ℤ → Node
    -- a field, its start and its name number
    named : (field start name : ℕ) → Node
    -- an expression, its start and its value, which is 0 until the root's end
    computed : (expression start : ℕ) → ℤ → Node

  pub data Nodes : Type 0 where
    none : Nodes
    more : Node → Nodes → Nodes

pub record Row : Type 0 where
  pub kind : ℕ
  pub number : ℕ
  pub start : ℕ
  pub last : ℤ

-- "Rows, in the order of the walk (a constructor, then its operands) ..: 0, constructor, start, length; 1, field, start, value;
-- 2, field, start, name number (first name plus value)."; "its row is 3, expression, start, value"
unfoldable mutual
  pub rows_of : Node → List Row
  rows_of (built k s l f) = record { kind = 0; number = k; start = s; last = pos l } ∷ rows_of_all f
  rows_of (numbered i s v) = record { kind = 1; number = i; start = s; last = v } ∷ []
  rows_of (named i s n) = record { kind = 2; number = i; start = s; last = pos n } ∷ []
  rows_of (computed i s v) = record { kind = 3; number = i; start = s; last = v } ∷ []

  pub rows_of_all : Nodes → List Row
  rows_of_all none = []
  rows_of_all (more n f) = rows_of n ++ rows_of_all f

-- "four signed 64-bit numbers each"
unfoldable pub numbers_of : List Row → List ℤ
numbers_of [] = []
numbers_of (r ∷ rs) = pos r.kind ∷ pos r.number ∷ pos r.start ∷ r.last ∷ numbers_of rs
