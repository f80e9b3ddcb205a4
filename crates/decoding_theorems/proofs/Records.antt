-- What the walk uses of a well-formed description: each of its records obeys its rules.
use Prim.Native.Nat.{ℕ, ◌+◌, ◌-◌, ◌≤◌, ◌<◌, ◌^◌}
use mathlib.Core.Bool.{Bool, true, false, ◌&&◌, ◌||◌, not, or-false}
use mathlib.Core.Path.{◌≡◌, refl}
use native.Mathlib.Omega.{arith}
use borrow.Author.Tests.{ltb-true, leb-true, le-leb, eqb-true, ne_eqb}
use lib.Dec.{ltb, leb, eqb}
use lib.Pow.{pow_mono}
use lib.ListN.{length, get_or}
use Rattle.lists.specs.Below.{all_below}
use Rattle.lists.proofs.Below.{all-at, all_of}
use Rattle.lists.proofs.Bools.{and_left, and_right, and_both, and3}
use Rattle.format.specs.Numbers.{tables, farthest, operands_each, pieces_each}
use Rattle.format.specs.Description.{Description, no_field, no_constructor, no_operand}
use Rattle.format.specs.Expression.{Expression, no_expression, step_of, writes_expression, names_operand, names_only}
use Rattle.format.specs.Rules.{bits_of, field_ok, constructor_ok, shape_ok, table_ok, minimum_ok, value_ok, range_ok, operand_fits, anchor_fits, table_fits, expression_fits, piece_fits, operand_of, field_operand, operand_ok, field_fits, computed_fits, has_table}
use Rattle.expressions.specs.Value.{numbered}
use Rattle.fields.specs.Value.{Readable}
use Rattle.fields.proofs.Values.{bits-some}
use Rattle.format.specs.Tables.{root_of}
use Rattle.format.specs.declared.Field.{Field}
use Rattle.format.specs.declared.Constructor.{Constructor}
use Rattle.format.specs.declared.Operand.{Operand}
use Rattle.format.proofs.Formation.{RulesHold}
use Rattle.format.proofs.Tables.{shaped, table-low}
use Rattle.decoding_theorems.specs.Usable.{Usable}

-- the front and the back of a rule's last part
operands-ok : (d : Description) (i : ℕ) (k : Constructor) → shape_ok d i k ≡ true → range_ok operands_each (length d.operands) k.operands ≡ true
unfolding shape_ok
operands-ok d i k e =
    let before = table_ok d i && minimum_ok k && value_ok k.pattern in
    let operands = range_ok operands_each (length d.operands) k.operands in
    and_right before operands (and_left (before && operands) (range_ok pieces_each (length d.pieces) k.pieces) e)

-- an operand's kind, and what goes with it
kind_ok : (d : Description) (x : Operand) → operand_ok d.fields (length d.expressions) x ≡ true
    → ((eqb x.kind 0 && field_fits d.fields x) || eqb x.kind 1 || (eqb x.kind 2 && computed_fits (length d.expressions) x)) ≡ true
unfolding operand_ok
kind_ok d x e =
    and_right (leb x.offset farthest)
    ((eqb x.kind 0 && field_fits d.fields x) || eqb x.kind 1 || (eqb x.kind 2 && computed_fits (length d.expressions) x)) e

-- an operand that obeys its own rule and its user's can be looked up
field-placed : (d : Description) (x : Operand) → operand_ok d.fields (length d.expressions) x ≡ true → x.kind ≡ 0 → x.index < length d.fields
field-placed d x e z =
    let fits : field_fits d.fields x ≡ true = simp (z, or-false) at (kind_ok d x e) in
    ltb-true x.index (length d.fields)
    (and_left (ltb x.index (length d.fields))
    (not (eqb (get_or d.fields x.index no_field).source 1) || (eqb x.anchor 0 && eqb x.offset 0)) fits)

pub expression-placed : (d : Description) (x : Operand) → operand_ok d.fields (length d.expressions) x ≡ true → x.kind ≡ 2
    → x.index < length d.expressions
expression-placed d x e z =
    let fits : computed_fits (length d.expressions) x ≡ true = simp z at (kind_ok d x e) in
    ltb-true x.index (length d.expressions)
    (and3 (ltb x.index (length d.expressions)) (eqb x.anchor 0) (eqb x.offset 0) fits).0

-- an operand fits its user
fits : (d : Description) (n : ℕ) → constructor_ok d n ≡ true → (i : ℕ)
    → i < (get_or d.constructors n no_constructor).operands.count → operand_fits d (get_or d.constructors n no_constructor) i ≡ true
unfolding constructor_ok
fits d n e i l =
    let k = get_or d.constructors n no_constructor in
    let operands = all_below k.operands.count (operand_fits d k) in
    all-at (operand_fits d k) k.operands.count i
    (and_right (shape_ok d n k) operands (and_left (shape_ok d n k && operands) (all_below k.pieces.count (piece_fits d k)) e)) l

-- the three parts of that
parts : (d : Description) (k : Constructor) (i : ℕ) → operand_fits d k i ≡ true
    → (anchor_fits i (operand_of d k i) ≡ true) × (table_fits d k (operand_of d k i) ≡ true) × (expression_fits d k (operand_of d k i) ≡ true)
unfolding operand_fits
parts d k i e = and3 (anchor_fits i (operand_of d k i)) (table_fits d k (operand_of d k i)) (expression_fits d k (operand_of d k i)) e

anchored : (d : Description) (k : Constructor) (i : ℕ) → operand_fits d k i ≡ true → (operand_of d k i).anchor ≤ i
anchored d k i e =
    let x = operand_of d k i in
    let h : x.anchor < i + 1 = ltb-true x.anchor (i + 1) (parts d k i e).0 in
    omega arith

-- a kind that is neither 0 nor 2 is 1
kind-one : (d : Description) (x : Operand) → operand_ok d.fields (length d.expressions) x ≡ true → (x.kind ≡ 0 → ⊥) → (x.kind ≡ 2 → ⊥) → x.kind ≡ 1
kind-one d x e z y = eqb-true x.kind 1 (simp (ne_eqb x.kind 0 z, ne_eqb x.kind 2 y, or-false) at (kind_ok d x e))

table-placed : (d : Description) (k : Constructor) (i : ℕ) → operand_ok d.fields (length d.expressions) (operand_of d k i) ≡ true → operand_fits d k i ≡ true
    → ((operand_of d k i).kind ≡ 0 → ⊥) → ((operand_of d k i).kind ≡ 2 → ⊥) → (operand_of d k i).index < k.table
table-placed d k i own e z y =
    let x = operand_of d k i in
    ltb-true x.index k.table
    (and_left (ltb x.index k.table) (has_table d x.index) (simp (kind-one d x own z y) at (parts d k i e).1))

-- an expression that is written names field operands of its user
names-fields : (d : Description) (k : Constructor) (x : Operand) → expression_fits d k x ≡ true → x.kind ≡ 2
    → writes_expression (get_or d.expressions x.index no_expression) ≡ true
    → names_only (field_operand d k) (get_or d.expressions x.index no_expression) ≡ true
unfolding expression_fits
names-fields d k x e z w = simp (z, w) at e

-- and so numbers that an operand may have
names-numbered : (d : Description) (k : Constructor) → k.operands.count ≤ operands_each → (e : Expression) → names_only (field_operand d k) e ≡ true
    → names_only (numbered operands_each) e ≡ true
unfolding names_only field_operand
names-numbered d k few e h =
    all_of (λ i. not (names_operand (step_of e i)) || numbered operands_each (step_of e i).value) e.count
    (λ i l. go (names_operand (step_of e i)) (step_of e i).value (all-at (λ i. not (names_operand (step_of e i)) || field_operand d k (step_of e i).value) e.count i h l))
  where
    go : (t : Bool) (n : ℕ) → (not t || field_operand d k n) ≡ true → (not t || numbered operands_each n) ≡ true
    go false n p = refl
    go true n p =
        let r = and3 (leb 1 n) (leb n k.operands.count) (eqb (operand_of d k (n - 1)).kind 0) p in
        let low : n ≤ k.operands.count = leb-true n k.operands.count r.1 in
        and_both (leb 1 n) (leb n operands_each) r.0 (le-leb n operands_each (omega arith))

module _ (d : Description) (o : RulesHold d) where
  pub field-ok : (i : ℕ) → i < length d.fields → field_ok (length d.names) (get_or d.fields i no_field) ≡ true
  field-ok i h = all-at _ _ i o.fields h

  pub expression-ok : (i : ℕ) → i < length d.expressions → writes_expression (get_or d.expressions i no_expression) ≡ true
  expression-ok i h = all-at _ _ i o.expressions h

  pub usable : (n : ℕ) → n < length d.constructors → Usable d (get_or d.constructors n no_constructor)
  usable n h =
      let k = get_or d.constructors n no_constructor in
      let ok = all-at (constructor_ok d) _ n o.constructors h in
      let range = operands-ok d n k (shaped d n ok) in
      let few = leb-true k.operands.count operands_each (and_left (leb k.operands.count operands_each) (leb (k.operands.first + k.operands.count) (length d.operands)) range) in
      let inside = leb-true (k.operands.first + k.operands.count) (length d.operands) (and_right (leb k.operands.count operands_each) (leb (k.operands.first + k.operands.count) (length d.operands)) range) in
      record {
        few = few;
        inside = inside;
        anchored = λ i l. anchored d k i (fits d n ok i l);
        placed = λ i l.
            let own = all-at (λ j. operand_ok d.fields (length d.expressions) (get_or d.operands j no_operand)) (length d.operands) (k.operands.first + i) o.operands (omega arith) in
            record {
              field = field-placed d (operand_of d k i) own;
              expression = expression-placed d (operand_of d k i) own;
              names = λ z.
                  let x = operand_of d k i in
                  names-numbered d k few (get_or d.expressions x.index no_expression)
                  (names-fields d k x (parts d k i (fits d n ok i l)).2 z (expression-ok x.index (expression-placed d x own z)));
              table = λ z y. omega (arith, table-placed d k i own (fits d n ok i l) z y, table-low d o n h);
            };
      }

  -- "The root is the last constructor's table."
  pub root-low : 1 ≤ length d.constructors → root_of d < tables
  root-low h = table-low d o (length d.constructors - 1) (omega arith)

pub narrow : (f : Field) (v : ℕ) → Readable f → v < 2 ^ bits_of f → v < 2 ^ 32
narrow f v r h = omega (arith, pow_mono {i = bits_of f} {j = 32} (bits-some f r).1)
