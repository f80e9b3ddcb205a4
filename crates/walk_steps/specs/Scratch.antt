-- The scratch rows: a row's four numbers, and how many rows its part has, since the text steps from part to part.
use Rattle.std.specs.Prelude.{ℕ, suc, ◌+◌, ◌*◌, cond, List, [], ◌∷◌, ◌++◌, eqb, ℤ, pos, length, take, drop}
use Rattle.format.specs.Numbers.{most_rows}
use Rattle.decoding_spec.specs.Tree.{Row, Node, Nodes, built, numbered, named, computed, none, more}

abbrev pub scratch_numbers : ℕ
scratch_numbers = 5

abbrev pub scratch_length : ℕ
scratch_length = scratch_numbers * most_rows

-- a row, and the number of rows of its part, itself included
pub record SizedRow : Type 0 where
  pub row : Row
  pub size : ℕ

abbrev pub sized : (kind number start : ℕ) → ℤ → ℕ → SizedRow
sized kind number start last size = record { row = record { kind = kind; number = number; start = start; last = last }; size = size }

unfoldable mutual
  pub sized_of : Node → List SizedRow
  sized_of (built k s l f) = sized 0 k s (pos l) (suc (length (sized_of_all f))) ∷ sized_of_all f
  sized_of (numbered i s v) = sized 1 i s v 1 ∷ []
  sized_of (named i s n) = sized 2 i s (pos n) 1 ∷ []
  sized_of (computed i s v) = sized 3 i s v 1 ∷ []

  pub sized_of_all : Nodes → List SizedRow
  sized_of_all none = []
  sized_of_all (more n f) = sized_of n ++ sized_of_all f

abbrev pub scratch_row : SizedRow → List ℤ
scratch_row r = pos r.row.kind ∷ pos r.row.number ∷ pos r.row.start ∷ r.row.last ∷ pos r.size ∷ []

unfoldable pub scratch_of : List SizedRow → List ℤ
scratch_of [] = []
scratch_of (r ∷ rs) = scratch_row r ++ scratch_of rs

-- l with the numbers w from place k on
unfoldable pub put_at : ℕ → List ℤ → List ℤ → List ℤ
put_at k w l = take k l ++ (w ++ drop (k + length w) l)

-- l with these rows behind so many; a list of another length than the scratch's is left alone
unfoldable pub written : ℕ → List SizedRow → List ℤ → List ℤ
written used rs l = cond (eqb (length l) scratch_length) (put_at (scratch_numbers * used) (scratch_of rs) l) l
