-- What the text uses of a well-formed description: its names' and its pieces' letters lie inside the text, and a constructor's pieces show
-- operands that it has.
use Prim.Native.Nat.{ℕ, ◌+◌, ◌≤◌, ◌<◌}
use mathlib.Core.Bool.{true, ◌&&◌, not, or-false}
use mathlib.Core.Path.{◌≡◌}
use native.Mathlib.Omega.{arith}
use borrow.Author.Tests.{leb-true, eqb-true, ne_eqb}
use lib.Dec.{leb, eqb}
use lib.ListN.{length, get_or}
use Rattle.lists.specs.Below.{all_below, any_below}
use Rattle.lists.proofs.Below.{all-at}
use Rattle.lists.proofs.Bools.{and_left, and_right}
use Rattle.format.specs.Numbers.{operands_each, pieces_each}
use Rattle.format.specs.Description.{Description, no_name, no_constructor, no_piece}
use Rattle.format.specs.Rules.{constructor_ok, shape_ok, table_ok, minimum_ok, value_ok, range_ok, operand_fits, piece_of, piece_fits, piece_ok, shows, name_ok}
use Rattle.format.specs.declared.Constructor.{Constructor}
use Rattle.format.specs.declared.Piece.{Piece}
use Rattle.format.proofs.Formation.{RulesHold}
use Rattle.format.proofs.Tables.{shaped}
use Rattle.text.specs.Places.{Showable}

range-ok : (d : Description) (i : ℕ) (k : Constructor) → shape_ok d i k ≡ true → range_ok pieces_each (length d.pieces) k.pieces ≡ true
unfolding shape_ok
range-ok d i k e =
    and_right (table_ok d i && minimum_ok k && value_ok k.pattern && range_ok operands_each (length d.operands) k.operands)
    (range_ok pieces_each (length d.pieces) k.pieces) e

fits : (d : Description) (n : ℕ) → constructor_ok d n ≡ true → (q : ℕ)
    → q < (get_or d.constructors n no_constructor).pieces.count → piece_fits d (get_or d.constructors n no_constructor) q ≡ true
unfolding constructor_ok
fits d n e q l =
    let k = get_or d.constructors n no_constructor in
    all-at (piece_fits d k) k.pieces.count q
    (and_right (shape_ok d n k && all_below k.operands.count (operand_fits d k)) (all_below k.pieces.count (piece_fits d k)) e) l

letters-inside : (m : ℕ) (p : Piece) → piece_ok m p ≡ true → p.kind ≡ 0 → p.offset + p.n ≤ m
letters-inside m p e z =
    let both : leb 1 p.n && leb (p.offset + p.n) m ≡ true = simp (z, or-false) at e in
    leb-true (p.offset + p.n) m (and_right (leb 1 p.n) (leb (p.offset + p.n) m) both)

-- a kind that is not 0 is 1
kind-one : (m : ℕ) (p : Piece) → piece_ok m p ≡ true → (p.kind ≡ 0 → ⊥) → p.kind ≡ 1
kind-one m p e z =
    let both : eqb p.kind 1 && eqb p.offset 0 ≡ true = simp (ne_eqb p.kind 0 z) at e in
    eqb-true p.kind 1 (and_left (eqb p.kind 1) (eqb p.offset 0) both)

within : (d : Description) (k : Constructor) (q : ℕ) → piece_fits d k q ≡ true → (piece_of d k q).kind ≡ 1
    → (1 ≤ (piece_of d k q).n) × ((piece_of d k q).n ≤ k.operands.count)
unfolding piece_fits
within d k q e z =
    let n = (piece_of d k q).n in
    let all : leb 1 n && leb n k.operands.count && not (any_below q (shows d k n)) ≡ true = simp z at e in
    let both = and_left (leb 1 n && leb n k.operands.count) (not (any_below q (shows d k n))) all in (
      leb-true 1 n (and_left (leb 1 n) (leb n k.operands.count) both),
      leb-true n k.operands.count (and_right (leb 1 n) (leb n k.operands.count) both),
    )

module _ (d : Description) (o : RulesHold d) where
  pub pieces-inside : (n : ℕ) → n < length d.constructors
      → (get_or d.constructors n no_constructor).pieces.first + (get_or d.constructors n no_constructor).pieces.count ≤ length d.pieces
  pieces-inside n h =
      let k = get_or d.constructors n no_constructor in
      let range = range-ok d n k (shaped d n (all-at (constructor_ok d) _ n o.constructors h)) in
      leb-true (k.pieces.first + k.pieces.count) (length d.pieces)
      (and_right (leb k.pieces.count pieces_each) (leb (k.pieces.first + k.pieces.count) (length d.pieces)) range)

  pub showable : (n : ℕ) → n < length d.constructors → (q : ℕ) → q < (get_or d.constructors n no_constructor).pieces.count
      → Showable d (get_or d.constructors n no_constructor) (get_or d.pieces ((get_or d.constructors n no_constructor).pieces.first + q) no_piece)
  showable n h q l =
      let k = get_or d.constructors n no_constructor in
      let p = piece_of d k q in
      let own : piece_ok (length d.text) p ≡ true =
      all-at (λ j. piece_ok (length d.text) (get_or d.pieces j no_piece)) (length d.pieces) (k.pieces.first + q) o.pieces
      (omega (arith, pieces-inside n h)) in
      let fit = fits d n (all-at (constructor_ok d) _ n o.constructors h) q l in
      record {
        letters = letters-inside (length d.text) p own;
        some = λ z. (within d k q fit (kind-one (length d.text) p own z)).0;
        few = λ z. (within d k q fit (kind-one (length d.text) p own z)).1;
      }

  pub name-inside : (n : ℕ) → n < length d.names → (get_or d.names n no_name).offset + (get_or d.names n no_name).length ≤ length d.text
  name-inside n h =
      leb-true ((get_or d.names n no_name).offset + (get_or d.names n no_name).length) (length d.text)
      (all-at (λ i. name_ok (length d.text) (get_or d.names i no_name)) (length d.names) n o.names h)
