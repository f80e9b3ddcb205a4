-- What the rules of a constructor are asked with.
use Rattle.std.specs.Prelude.{ℕ, ◌+◌, ◌<◌, ◌≤◌, Bool, List, ◌≡◌, get_or}
use Rattle.format.specs.Numbers.{operands_each, pieces_each}
use Rattle.format.specs.Layout.{SectionsInBounds}
use Rattle.format.specs.Description.{description, constructors_of, no_constructor}
use Rattle.format.specs.declared.Constructor.{Constructor}
use Rattle.format.specs.declared.Layout.{Layout}
use Rattle.format.specs.declared.Range.{Range}
use Rattle.rules.specs.Marks.{table_marks}

-- the sections lie inside the bytes, and the tables that have a constructor are marked
pub record Marked (b : List ℕ) (l : Layout) (marks : List Bool) : Type 0 where
  pub room : SectionsInBounds b l
  pub tables : marks ≡ table_marks (description b l)

-- .. and c is record i of section 3
pub record Judging (b : List ℕ) (l : Layout) (marks : List Bool) (i : ℕ) (c : Constructor) : Type 0 where
  pub marked : Marked b l marks
  pub within : i < l.constructors.count
  pub is : c ≡ get_or (constructors_of b l) i no_constructor

-- records of a section of so many: no more than the most, and inside it
pub record Ranged (most count : ℕ) (r : Range) : Type 0 where
  pub few : r.count ≤ most
  pub inside : r.first + r.count ≤ count

-- so a constructor's operands and pieces, in sections of m and n records
pub record Shaped (m n : ℕ) (c : Constructor) : Type 0 where
  pub operands : Ranged operands_each m c.operands
  pub pieces : Ranged pieces_each n c.pieces
