-- What a well-formed description is to the layers above: its places lie inside its bytes, and every record obeys its rules.
use Prim.Native.Nat.{ℕ, ◌≤◌}
use mathlib.Core.Bool.{Bool, true, false, cond}
use mathlib.Core.List.{List}
use mathlib.Core.Path.{◌≡◌, refl}
use Rattle.std.specs.Prelude.{Result, Ok, Err}
use borrow.Author.Tests.{ltb-false}
use lib.Dec.{ltb}
use lib.ListN.{length}
use Rattle.lists.specs.Below.{all_below}
use Rattle.lists.proofs.Below.{first-all}
use Rattle.format.specs.Layout.{layout_of}
use Rattle.format.specs.Description.{Description, description, no_field, no_name, no_operand, no_piece}
use Rattle.format.specs.Expression.{no_expression, writes_expression}
use Rattle.format.specs.Rules.{field_ok, name_ok, constructor_ok, operand_ok, piece_ok, letter_ok}
use Rattle.format.specs.Check.{all_good, named, fault_of, part_fault, last_fault, judged, check_of, WellFormed, bad_field, bad_name, bad_constructor, bad_operand, bad_piece, bad_letter, bad_expression}
use Rattle.format.specs.declared.Layout.{Layout}
use Rattle.format.specs.declared.Fault.{Fault}
use Rattle.format.proofs.Places.{laid-room}

-- every record of every section obeys its rules
pub record RulesHold (d : Description) : Type 0 where
  pub fields : all_good (field_ok (length d.names)) no_field d.fields ≡ true
  pub names : all_good (name_ok (length d.text)) no_name d.names ≡ true
  pub constructors : all_below (length d.constructors) (constructor_ok d) ≡ true
  pub operands : all_good (operand_ok d.fields (length d.expressions)) no_operand d.operands ≡ true
  pub pieces : all_good (piece_ok (length d.text)) no_piece d.pieces ≡ true
  pub text : all_good letter_ok 0 d.text ≡ true
  pub expressions : all_good writes_expression no_expression d.expressions ≡ true

-- a section that is passed over has no faulty record
passed : (k i n : ℕ) (rest : Result Layout Fault) (l : Layout) → named k i n rest ≡ Ok l → (n ≤ i) × (rest ≡ Ok l)
passed k i n rest l e = go (ltb i n) refl e
  where
    go : (t : Bool) → ltb i n ≡ t → cond t (Err (record { section = k; number = i })) rest ≡ Ok l → (n ≤ i) × (rest ≡ Ok l)
    go true p q = cc
    go false p q = (ltb-false i n p, q)

-- no fault: the places are handed on, and every record obeys its rules
unfaulted : (d : Description) (l m : Layout) → fault_of d l ≡ Ok m → (l ≡ m) × RulesHold d
unfolding fault_of part_fault last_fault bad_field bad_name bad_constructor bad_operand bad_piece bad_letter bad_expression
unfaulted d l m e =
    let fields = passed 1 (bad_field d) (length d.fields) _ m e in
    let names = passed 2 (bad_name d) (length d.names) _ m fields.1 in
    let constructors = passed 3 (bad_constructor d) (length d.constructors) _ m names.1 in
    let operands = passed 4 (bad_operand d) (length d.operands) _ m constructors.1 in
    let pieces = passed 5 (bad_piece d) (length d.pieces) _ m operands.1 in
    let text = passed 6 (bad_letter d) (length d.text) _ m pieces.1 in
    let expressions = passed 7 (bad_expression d) (length d.expressions) _ m text.1 in (
      cc expressions.1,
      record {
        fields = first-all _ _ fields.0;
        names = first-all _ _ names.0;
        constructors = first-all _ _ constructors.0;
        operands = first-all _ _ operands.0;
        pieces = first-all _ _ pieces.0;
        text = first-all _ _ text.0;
        expressions = first-all _ _ expressions.0;
      },
    )

-- the layout that was judged
laid_of : (b : List ℕ) (l : Layout) (x : Result Layout ℕ) → layout_of b ≡ x → judged b x ≡ Ok l → (layout_of b ≡ Ok l) × RulesHold (description b l)
laid_of b l (Ok m) p e =
    let u = unfaulted (description b m) m l e in
    (rw u.0 at p, rw u.0 at u.1)
laid_of b l (Err k) p e = cc

module _ (b : List ℕ) (l : Layout) where
  -- the door to everything above: what `check` says when it finds no fault
  pub formed : check_of b ≡ Ok l → WellFormed b l
  unfolding check_of
  formed e = record { room = laid-room b l (laid_of b l (layout_of b) refl e).0; good = e }

  pub obeyed : WellFormed b l → RulesHold (description b l)
  unfolding check_of
  obeyed f = (laid_of b l (layout_of b) refl f.good).1
