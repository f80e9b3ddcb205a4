-- A walk over the named constructors: what each node of a decoded tree has to do with the description and the input, place by place.
use Rattle.std.specs.Prelude.{ℕ, zero, suc, ◌+◌, ◌≤◌, ◌<◌, max, List, Bool, ◌≡◌, ℤ, length, get_or, drop, set, replicate, Ok, Some}
use Rattle.format.specs.Numbers.{longest, most_rows, operands_each}
use Rattle.format.specs.Description.{Description, no_field, no_name, no_constructor}
use Rattle.format.specs.Rules.{bits_of, operand_of}
use Rattle.format.specs.declared.Field.{Field}
use Rattle.format.specs.declared.Constructor.{Constructor}
use Rattle.format.specs.declared.Operand.{Operand}
use Rattle.fields.specs.Value.{value_of}
use Rattle.fields.specs.Look.{look_of, number_of}
use Rattle.fields.specs.declared.Look.TheVariants as look
use Rattle.printing.specs.declared.Base.{Base}
use Rattle.decoding_spec.specs.State.{counted, closed_by}
use Rattle.decoding_spec.specs.Tree.{Node, Nodes, built, numbered, named, computed, none, more}
use Rattle.decoding_spec.specs.Walk.{width_of, start_of, choice_in}
use Rattle.decoding_spec.specs.Instruction.{counts_of, expression_value}
use Rattle.decoding_spec.specs.declared.State.{State}

-- a part of so many bytes from place `at` on: there is a row for it, and its bytes are in the input and not too far
pub record Fits (input : List ℕ) (at : ℕ) (st : State) (l : ℕ) : Type 0 where
  pub room : st.used < most_rows
  pub near : at + l ≤ longest
  pub here : at + l ≤ length input

module _ (d : Description) (input : List ℕ) where
  abbrev pub field_of : ℕ → Field
  field_of i = get_or d.fields i no_field

  abbrev pub constructor_of : ℕ → Constructor
  constructor_of k = get_or d.constructors k no_constructor

  -- what field i reads at a place
  abbrev pub value_at : ℕ → ℕ → State → ℕ
  value_at i at st = value_of (field_of i) (drop at input) st.context

  -- constructor k is what choosing takes in table t at a place, in a state; its length goes by the farthest end of its operands, and
  -- the state behind it is that behind its operands
  pub record ConstructorAt (t at : ℕ) (st : State) (k l far : ℕ) (st' st'' : State) : Type 0 where
    pub fits : Fits input at st l
    pub chosen : choice_in d t (drop at input) st.context ≡ Ok k
    pub size : l ≡ max (constructor_of k).minimum far
    pub state : st'' ≡ closed_by k st'

  -- operand x is field i, of this width, with one row
  pub record FieldAt (x : Operand) (at : ℕ) (st : State) (i l : ℕ) (st' : State) : Type 0 where
    pub kind : x.kind ≡ 0
    pub index : i ≡ x.index
    pub size : l ≡ width_of (field_of i)
    pub fits : Fits input at st l
    pub state : st' ≡ counted st

  -- shown as the number v
  pub record NumberAt (at : ℕ) (st : State) (i : ℕ) (v : ℤ) : Type 0 where
    pub signed : Bool
    pub base : Base
    pub look : look_of (field_of i).look ≡ look.Number signed base
    pub value : v ≡ number_of signed (bits_of (field_of i)) (value_at i at st)

  -- shown by name v, which is no hole
  pub record NameAt (at : ℕ) (st : State) (i v : ℕ) : Type 0 where
    pub look : look_of (field_of i).look ≡ look.Name
    pub value : v ≡ (field_of i).first + value_at i at st
    pub whole : (get_or d.names v no_name).length ≡ 0 → ⊥

  -- operand x is expression i, with no bytes and one row
  pub record ComputedAt (x : Operand) (at : ℕ) (st : State) (i : ℕ) (st' : State) : Type 0 where
    pub kind : x.kind ≡ 2
    pub index : i ≡ x.index
    pub fits : Fits input at st 0
    pub state : st' ≡ counted st

  mutual
    -- what table t at a place consists of, in a state: its constructor and that one's operands; its length; and the state behind it
    pub data TableWalk : (t at : ℕ) → State → Node → ℕ → State → Type 0 where
      taken : {t at k l far : ℕ} {st st' st'' : State} {f : Nodes} → ConstructorAt t at st k l far st' st''
          → OperandsWalk (constructor_of k) at (constructor_of k).operands.count 0 (replicate (operands_each + 1) 0) 0 (counted st) f far st'
          → TableWalk t at st (built k at l f) l st''

    -- operand x at a place: its field's value there, by the field's look, its expression, whose value is another relation's, or its table
    pub data OperandWalk : Operand → (at : ℕ) → State → Node → ℕ → State → Type 0 where
      number : {x : Operand} {at i l : ℕ} {v : ℤ} {st st' : State} → FieldAt x at st i l st' → NumberAt at st i v
          → OperandWalk x at st (numbered i at v) l st'
      name : {x : Operand} {at i l v : ℕ} {st st' : State} → FieldAt x at st i l st' → NameAt at st i v → OperandWalk x at st (named i at v) l st'
      compute : {x : Operand} {at i : ℕ} {v : ℤ} {st st' : State} → ComputedAt x at st i st' → OperandWalk x at st (computed i at v) 0 st'
      table : {x : Operand} {at l : ℕ} {n : Node} {st st' : State} → (x.kind ≡ 0 → ⊥) → (x.kind ≡ 2 → ⊥) → TableWalk x.index at st n l st'
          → OperandWalk x at st n l st'

    -- so many operands of constructor k at a place, from operand o on (the first is 0 here), each at anchor + offset; with the ends of
    -- those before them and the farthest of these; and the farthest of all
    pub data OperandsWalk : Constructor → (at left o : ℕ) → List ℕ → (far : ℕ) → State → Nodes → ℕ → State → Type 0 where
      last : {k : Constructor} {at o far : ℕ} {ends : List ℕ} {st : State} → OperandsWalk k at zero o ends far st none far st
      next : {k : Constructor} {at left o far far' l : ℕ} {ends : List ℕ} {st st' st'' : State} {n : Node} {f : Nodes}
          → OperandWalk (operand_of d k o) (at + start_of ends (operand_of d k o)) st n l st'
          → OperandsWalk k at left (o + 1) (set ends (o + 1) (start_of ends (operand_of d k o) + l)) (max far (start_of ends (operand_of d k o) + l)) st' f far' st''
          → OperandsWalk k at (suc left) o ends far st (more n f) far' st''

-- each computed operand's value is its expression's: here is the instruction's address, and after it that of the next
module _ (d : Description) (here after : ℕ) where
  abbrev mutual
    -- of a constructor whose operands count as these
    pub HasValues : List ℤ → Node → Type 0
    HasValues operands (built k s l f) = HasValuesAll (counts_of d f) f
    HasValues operands (numbered i s v) = Unit {0}
    HasValues operands (named i s n) = Unit {0}
    HasValues operands (computed i s v) = expression_value d here after operands i ≡ Some v

    pub HasValuesAll : List ℤ → Nodes → Type 0
    HasValuesAll operands none = Unit {0}
    HasValuesAll operands (more n f) = HasValues operands n × HasValuesAll operands f
