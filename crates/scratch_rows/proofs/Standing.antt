-- Where a tree's rows stand in the scratch, and what is read there.
use Prim.Native.Nat.{ℕ, suc, ◌+◌, ◌*◌, ◌≤◌}
use mathlib.Core.List.{List, [], ◌∷◌, ◌++◌, append_assoc}
use mathlib.Core.Path.{◌≡◌, refl, sym, ap, ◌∙◌}
use native.Mathlib.Omega.{arith}
use lib.IntN.{ℤ, pos, nat_abs}
use lib.ListN.{length, get_or, drop}
use lib.Seq.{get_or-drop, drop-drop, drop_at}
use Rattle.decoding_spec.specs.Tree.{Node, Nodes, built, numbered, named, computed, more}
use Rattle.walk_steps.specs.Scratch.{scratch_numbers, scratch_length, SizedRow, sized, sized_of, sized_of_all, scratch_row, scratch_of, put_at, written}
use Rattle.walk_steps.proofs.Writing.{scratch-length, scratch-append}
use Rattle.scratch_rows.specs.Places.{cell, kind_at, number_at, start_at, last_at, size_at}

-- a part has its own row
pub rows-some : (n : Node) → 1 ≤ length (sized_of n)
unfolding sized_of
rows-some (built k s l f) = omega arith
rows-some (numbered i s v) = omega arith
rows-some (named i s n) = omega arith
rows-some (computed i s v) = omega arith

pub scratch-split : (a b : List SizedRow) (rest : List ℤ) → scratch_of (a ++ b) ++ rest ≡ scratch_of a ++ (scratch_of b ++ rest)
scratch-split a b rest = rw scratch-append (append_assoc (scratch_of a) (scratch_of b) rest)

-- a row's first number is its kind
pub kind-here : (rows : List ℤ) (r k : ℕ) → k ≡ nat_abs (get_or rows (scratch_numbers * r) (pos 0)) → k ≡ kind_at rows r
unfolding kind_at
kind-here rows r k e = let z : scratch_numbers * r + 0 ≡ scratch_numbers * r = omega arith in rw z e

module _ (rows : List ℤ) where
  -- from row r on these rows stand, and behind them these numbers
  unfoldable pub Stands : ℕ → List SizedRow → List ℤ → Type 0
  Stands r rs rest = drop (scratch_numbers * r) rows ≡ scratch_of rs ++ rest

  pub stands-first : (r : ℕ) (a b : List SizedRow) (rest : List ℤ) → Stands r (a ++ b) rest → Stands r a (scratch_of b ++ rest)
  unfolding Stands
  stands-first r a b rest h = h ∙ scratch-split a b rest

  pub stands-behind : (r n : ℕ) (a b : List SizedRow) (rest : List ℤ) → n ≡ length a → Stands r (a ++ b) rest → Stands (r + n) b rest
  unfolding Stands
  stands-behind r n a b rest e h =
      let z : scratch_numbers * (r + n) ≡ scratch_numbers * r + scratch_numbers * n = omega arith in
      rw z
      (sym (drop-drop (scratch_numbers * n) (scratch_numbers * r) rows)
      ∙ ap (drop (scratch_numbers * n)) (stands-first r a b rest h)
      ∙ drop_at (scratch_of a) (scratch_of b ++ rest) (scratch_numbers * n) (scratch-length a ∙ omega arith))

  module _ (r : ℕ) (x : SizedRow) (rs : List SizedRow) (rest : List ℤ) (h : Stands r (x ∷ rs) rest) where
    at : (j : ℕ) → cell rows r j ≡ get_or (scratch_row x ++ (scratch_of rs ++ rest)) j (pos 0)
    unfolding Stands scratch_of
    at j = sym (get_or-drop (scratch_numbers * r) rows j (pos 0)) ∙ ap (λ (l : List ℤ). get_or l j (pos 0)) h

    pub kind-is : kind_at rows r ≡ x.row.kind
    unfolding kind_at
    kind-is = ap nat_abs (at 0)

    pub number_is : number_at rows r ≡ x.row.number
    unfolding number_at
    number_is = ap nat_abs (at 1)

    pub start_is : start_at rows r ≡ x.row.start
    unfolding start_at
    start_is = ap nat_abs (at 2)

    pub last-is : last_at rows r ≡ x.row.last
    unfolding last_at
    last-is = at 3

    pub size_is : size_at rows r ≡ x.size
    unfolding size_at
    size_is = ap nat_abs (at 4)

  -- a part's first row says how many rows it has
  pub part-size : (n : Node) (r : ℕ) (rest : List ℤ) → Stands r (sized_of n) rest → size_at rows r ≡ length (sized_of n)
  unfolding sized_of
  part-size (built k s l f) r rest h = size_is r _ (sized_of_all f) rest h
  part-size (numbered i s v) r rest h = size_is r _ [] rest h
  part-size (named i s n) r rest h = size_is r _ [] rest h
  part-size (computed i s v) r rest h = size_is r _ [] rest h

  -- the right neighbours of a part
  pub neighbours : (n : Node) (f : Nodes) (r : ℕ) (rest : List ℤ) → Stands r (sized_of_all (more n f)) rest → Stands (r + size_at rows r) (sized_of_all f) rest
  unfolding sized_of_all
  neighbours n f r rest h =
      stands-behind r (size_at rows r) (sized_of n) (sized_of_all f) rest
      (part-size n r (scratch_of (sized_of_all f) ++ rest) (stands-first r (sized_of n) (sized_of_all f) rest h)) h

  -- a constructor's operands
  pub inner : (k s l : ℕ) (f : Nodes) (r : ℕ) (rest : List ℤ) → Stands r (sized_of (built k s l f)) rest → Stands (r + 1) (sized_of_all f) rest
  unfolding sized_of
  inner k s l f r rest h =
      stands-behind r 1
      (sized 0 k s (pos l) (suc (length (sized_of_all f))) ∷ []) (sized_of_all f) rest refl h

-- the scratch rows that a tree has left, from the first on
pub stands-all : (n : Node) (old : List ℤ) → length old ≡ scratch_length
    → Stands (written 0 (sized_of n) old) 0 (sized_of n) (drop (0 + length (scratch_of (sized_of n))) old)
unfolding Stands written put_at
stands-all n old long = rw long
