-- The sections' places, once the counts are read, lie inside the bytes.
use Prim.Native.Nat.{ℕ, ◌+◌, ◌*◌, ◌≤◌}
use mathlib.Core.Bool.{Bool, true, false, cond, ◌&&◌}
use mathlib.Core.List.{List}
use mathlib.Core.Path.{◌≡◌, refl}
use native.Mathlib.Omega.{arith}
use native.Mathlib.Nat.{mul_comm}
use Rattle.std.specs.Prelude.{Some, None, Result, Ok, Err}
use borrow.Author.Tests.{leb-true}
use lib.Dec.{leb, eqb}
use lib.ListN.{length}
use Rattle.lists.proofs.Bools.{and4}
use Rattle.format.specs.Bytes.{u16_at}
use Rattle.format.specs.Numbers.{count_bytes}
use Rattle.format.specs.Layout.{SectionsInBounds, inside, next, end_or, section_at, layout_of, names_from, constructors_from, operands_from, pieces_from, text_from, expressions_from}
use Rattle.format.specs.declared.Section.{Section}
use Rattle.format.specs.declared.Layout.{Layout}

-- what a count that was found says of its section
pub record Placed (b : List ℕ) (least most size : ℕ) (s : Section) : Type 0 where
  pub fits : inside b size s
  pub enough : least ≤ s.count
  pub few : s.count ≤ most

-- the section that a step went past, and what the step after it gave
record Passed (b : List ℕ) (least most size : ℕ) (more : Section → ℕ → Result Layout ℕ) (l : Layout) : Type 0 where
  section : Section
  at : ℕ
  placed : Placed b least most size section
  rest : more section at ≡ Ok l

passed : (b : List ℕ) (k at least most size : ℕ) (more : Section → ℕ → Result Layout ℕ) (l : Layout)
    → next k (section_at b at least most size) more ≡ Ok l → Passed b least most size more l
unfolding section_at
passed b k at least most size more l e = go _ refl e
  where
    n : ℕ
    n = u16_at b at

    go : (t : Bool)
        → (leb (at + count_bytes) (length b) && leb least n && leb n most && leb (at + count_bytes + n * size) (length b)) ≡ t
        → next k (cond t (Some (record { value = record { start = at + count_bytes; count = n }; next = record { at = at + count_bytes + n * size } })) None) more ≡ Ok l
        → Passed b least most size more l
    go true p q =
        let f = and4 (leb (at + count_bytes) (length b)) (leb least n) (leb n most) (leb (at + count_bytes + n * size) (length b)) p in
        record {
          section = record { start = at + count_bytes; count = n };
          at = at + count_bytes + n * size;
          placed =
              record {
                fits = omega (arith, mul_comm n size, leb-true (at + count_bytes + n * size) (length b) f.3);
                enough = leb-true least n f.1;
                few = leb-true n most f.2;
              };
          rest = q;
        }
    go false p q = cc

-- reading on from a layout that has room gives, if there is no fault, one that has room
Keeps : List ℕ → (Layout → ℕ → Result Layout ℕ) → Type 0
Keeps b rest = (l m : Layout) (at : ℕ) → SectionsInBounds b l → rest l at ≡ Ok m → SectionsInBounds b m

fault-keeps : (b : List ℕ) (k : ℕ) → Keeps b (λ l at. Err k)
unfolding Keeps
fault-keeps b k l m at r e = cc

-- .. also where the description may end
end-keeps : (b : List ℕ) (rest : Layout → ℕ → Result Layout ℕ) → Keeps b rest → Keeps b (end_or b rest)
unfolding Keeps
end-keeps b rest k l m at r e = go (eqb at (length b)) e
  where
    go : (t : Bool) → cond t (Ok l) (rest l at) ≡ Ok m → SectionsInBounds b m
    go true p = let s : l ≡ m = cc in rw s at r
    go false p = k l m at r p

expressions-keeps : (b : List ℕ) → Keeps b (expressions_from b)
unfolding expressions_from Keeps
expressions-keeps b l m at r e =
    let expressions = passed b 7 _ _ _ _ _ m e in
    end-keeps b (λ l at. Err 7) (fault-keeps b 7) _ m expressions.at
    (record {
      fields = r.fields;
      names = r.names;
      constructors = r.constructors;
      operands = r.operands;
      pieces = r.pieces;
      text = r.text;
      expressions = expressions.placed.fits;
      some = r.some;
      few = r.few;
      few_fields = r.few_fields;
      few_names = r.few_names;
      few_expressions = expressions.placed.few;
    })
    expressions.rest

-- the places that the counts give
pub laid-room : (b : List ℕ) (l : Layout) → layout_of b ≡ Ok l → SectionsInBounds b l
unfolding layout_of names_from constructors_from operands_from pieces_from text_from Keeps
laid-room b l e =
    let fields = passed b 1 _ _ _ _ _ l e in
    let names = passed b 2 _ _ _ _ _ l fields.rest in
    let constructors = passed b 3 _ _ _ _ _ l names.rest in
    let operands = passed b 4 _ _ _ _ _ l constructors.rest in
    let pieces = passed b 5 _ _ _ _ _ l operands.rest in
    let text = passed b 6 _ _ _ _ _ l pieces.rest in
    end-keeps b (expressions_from b) (expressions-keeps b) _ l text.at
    (record {
      fields = fields.placed.fits;
      names = names.placed.fits;
      constructors = constructors.placed.fits;
      operands = operands.placed.fits;
      pieces = pieces.placed.fits;
      text = text.placed.fits;
      expressions = omega arith;
      some = constructors.placed.enough;
      few = constructors.placed.few;
      few_fields = fields.placed.few;
      few_names = names.placed.few;
      few_expressions = omega arith;
    })
    text.rest
