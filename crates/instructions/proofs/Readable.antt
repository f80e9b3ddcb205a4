-- The rows that a walk has left can be read.
use Prim.Native.Nat.{ℕ, zero, suc, ◌+◌, ◌≤◌, ◌<◌}
use mathlib.Core.Bool.{Bool, true, false, cond}
use mathlib.Core.List.{List, [], ◌∷◌, ◌++◌}
use mathlib.Core.Path.{◌≡◌, refl, sym, ◌∙◌}
use native.Mathlib.Omega.{arith}
use lib.Dec.{eqb}
use lib.IntN.{ℤ, pos, nat_abs}
use lib.ListN.{length, get_or, replicate}
use Rattle.format.specs.Numbers.{longest, most_rows, operands_each}
use Rattle.format.specs.Description.{Description, no_field}
use Rattle.format.specs.Expression.{no_expression, names_only}
use Rattle.expressions.specs.Value as values
use Rattle.decoding_spec.specs.Tree.{Row, Node, Nodes, built, numbered, named, computed, none, more, rows_of}
use Rattle.decoding_spec.specs.Walk.{width_of}
use Rattle.decoding_theorems.specs.Facts.{Each, end_of, Shaped, ShapedAll}
use Rattle.walk_steps.specs.Scratch.{scratch_length, SizedRow, sized_of, sized_of_all, written}
use Rattle.walk_steps.proofs.Writing.{written-length}
use Rattle.scratch_rows.specs.Places.{kind_at, number_at, start_at, last_at}
use Rattle.scratch_rows.proofs.Standing.{Stands, stands-behind, kind-is, number_is, start_is, last-is, stands-all}
use Rattle.instructions.specs.Instructions.{ReadableRows}
use Rattle.instructions.proofs.InstructionRows.{plain, plain_rows}
use Rattle.instructions.proofs.Owners.{part-ends}

-- what a row of a tree is
record GoodRow (d : Description) (x : SizedRow) : Type 0 where
  field : x.row.kind ≡ 2 → x.row.number < length d.fields
  name : x.row.kind ≡ 2 → x.row.last ≡ pos (nat_abs x.row.last)
  expression : x.row.kind ≡ 3 → x.row.number < length d.expressions
  names : x.row.kind ≡ 3 → names_only (values.numbered operands_each) (get_or d.expressions x.row.number no_expression) ≡ true

-- every row of a list
abbrev All : (SizedRow → Type 0) → List SizedRow → Type 0
All P [] = Unit {0}
All P (x ∷ xs) = P x × All P xs

all_append : (P : SizedRow → Type 0) (a b : List SizedRow) → All P a → All P b → All P (a ++ b)
all_append P [] b p q = q
all_append P (x ∷ a) b p q = (p.0, all_append P a b p.1 q)

module _ (d : Description) where
  mutual
    unfolding sized_of sized_of_all

    good-rows : (n : Node) → Shaped d n → All (GoodRow d) (sized_of n)
    good-rows (built k s l f) h =
        (record { field = λ z. absurd (omega arith); name = λ z. absurd (omega arith); expression = λ z. absurd (omega arith); names = λ z. absurd (omega arith) }, good-all f h.2)
    good-rows (numbered i s v) h =
        (record { field = λ z. absurd (omega arith); name = λ z. absurd (omega arith); expression = λ z. absurd (omega arith); names = λ z. absurd (omega arith) }, tt)
    good-rows (named i s n) h =
        (record { field = λ z. h.0; name = λ z. refl; expression = λ z. absurd (omega arith); names = λ z. absurd (omega arith) }, tt)
    good-rows (computed i s v) h =
        (record { field = λ z. absurd (omega arith); name = λ z. absurd (omega arith); expression = λ z. h.0; names = λ z. h.1 }, tt)

    good-all : (f : Nodes) → ShapedAll d f → All (GoodRow d) (sized_of_all f)
    good-all none h = tt
    good-all (more n f) h = all_append (GoodRow d) (sized_of n) (sized_of_all f) (good-rows n h.0) (good-all f h.1)

-- no row starts behind its end
start-low : (d : Description) (r : Row) (end : ℕ) → end_of d r ≤ end → r.start ≤ end
start-low d r end h = go (eqb r.kind 0) (eqb r.kind 3) h
  where
    go : (t u : Bool) → cond t (r.start + nat_abs r.last) (cond u r.start (r.start + width_of (get_or d.fields r.number no_field))) ≤ end → r.start ≤ end
    go true u h = omega arith
    go false true h = h
    go false false h = omega arith

near-rows : (d : Description) (end : ℕ) (xs : List SizedRow) → Each (λ r. end_of d r ≤ end) (plain xs) → All (λ x. x.row.start ≤ end) xs
near-rows d end [] h = tt
near-rows d end (x ∷ xs) h = (start-low d x.row end h.0, near-rows d end xs h.1)

-- row q of those that stand in the scratch
record ReadAs (P : SizedRow → Type 0) (rows : List ℤ) (q : ℕ) : Type 0 where
  it : SizedRow
  holds : P it
  kind : kind_at rows q ≡ it.row.kind
  number : number_at rows q ≡ it.row.number
  start : start_at rows q ≡ it.row.start
  last : last_at rows q ≡ it.row.last

read_as : (P : SizedRow → Type 0) (rows : List ℤ) (xs : List SizedRow) (r : ℕ) (rest : List ℤ) → Stands rows r xs rest → All P xs
    → (j q : ℕ) → j < length xs → q ≡ r + j → ReadAs P rows q
read_as P rows [] r rest h a j q l e = absurd (omega arith)
read_as P rows (x ∷ xs) r rest h a zero q l e =
    let z : q ≡ r = omega arith in
    rw z
    (record {
      it = x;
      holds = a.0;
      kind = kind-is rows r x xs rest h;
      number = number_is rows r x xs rest h;
      start = start_is rows r x xs rest h;
      last = last-is rows r x xs rest h;
    })
read_as P rows (x ∷ xs) r rest h a (suc j) q l e =
    read_as P rows xs (r + 1) rest (stands-behind rows r 1 (x ∷ []) xs rest refl h) a.1 j q (omega arith) (omega arith)

module _ (d : Description) (n : Node) (shaped : Shaped d n) (few : length (sized_of n) ≤ most_rows) (size : ℕ) (near : size ≤ longest)
    (rows-near : Each (λ r. end_of d r ≤ size) (rows_of n)) where
  abbrev rows : List ℤ
  rows = written 0 (sized_of n) (replicate scratch_length (pos 0))

  pub readable-tree : ReadableRows d (written 0 (sized_of n) (replicate scratch_length (pos 0))) (length (sized_of n))
  readable-tree =
      record {
        long = written-length 0 (sized_of n) (replicate scratch_length (pos 0)) (omega arith);
        few = few;
        row = λ q l.
            let stands = stands-all n (replicate scratch_length (pos 0)) refl in
            let good = read_as (GoodRow d) rows (sized_of n) 0 _ stands (good-rows d n shaped) q q l (omega arith) in
            let low = read_as (λ x. x.row.start ≤ size) rows (sized_of n) 0 _ stands (near-rows d size (sized_of n) (rw (plain_rows n) rows-near)) q q l (omega arith) in
            record {
              ends = let z = part-ends rows n 0 _ stands q (omega arith) (omega arith) in omega arith;
              near = omega (arith, low.start, low.holds);
              field = λ k. rw good.number (good.holds.field (sym good.kind ∙ k));
              name = λ k. rw good.last (good.holds.name (sym good.kind ∙ k));
              expression = λ k. rw good.number (good.holds.expression (sym good.kind ∙ k));
              names = λ k. rw good.number (good.holds.names (sym good.kind ∙ k));
            };
      }
