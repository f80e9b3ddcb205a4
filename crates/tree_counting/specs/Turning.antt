-- From the end of a finished path to the next one: the last test that went to its zero side is turned to its one side.
use Rattle.std.specs.Prelude.{ℕ, ◌-◌, ◌^◌, ◌<◌, true, false, cond, ◌≡◌, eqb, ltb, Option, Some, None}
use Rattle.std.specs.Int.Bits.{bit_and, bit_or, bit_xor}
use Rattle.std.specs.Int.Count.{count_leading_zeros}
use Rattle.bits.specs.Bits.{bit}
use Rattle.format.specs.declared.Pattern.{Pattern}
use Rattle.choosing_spec.specs.ValidPattern.{ValidPattern}
use Rattle.tree_building_spec.specs.Rule.{masks}
use Rattle.tree_building_theorems.specs.Numbered.{value_at}

-- the highest set bit of a word that is not 0, as a word
abbrev pub top_of : ℕ → ℕ
top_of x = 2 ^ (63 - count_leading_zeros 64 x)

-- a word's bits below a bit, and that bit
abbrev pub cut_at : ℕ → ℕ → ℕ
cut_at x top = bit_or (bit_and x (top - 1)) top

-- the last test that went to its zero side is the highest bit of those tested to be 0: it is turned, and the tests behind it are dropped
unfoldable pub turn_of : Pattern → Option Pattern
turn_of p =
    let bytes = bit_xor p.mask p.value in
    let context = bit_xor p.contextmask p.contextvalue in
    let byte : Pattern =
    record { mask = cut_at p.mask (top_of bytes); value = cut_at p.value (top_of bytes); contextmask = 0; contextvalue = 0 } in
    let contextual : Pattern =
    record { mask = p.mask; value = p.value; contextmask = cut_at p.contextmask (top_of context); contextvalue = cut_at p.contextvalue (top_of context) } in
    cond (eqb context 0) (cond (eqb bytes 0) None (Some byte)) (Some contextual)

-- a word has one highest bit that is set
pub record HighestSet (x top : ℕ) : Type 0 where
  pub place : ℕ
  pub small : place < 64
  pub is : top ≡ 2 ^ place
  pub here : bit x place ≡ 1
  pub none : (k : ℕ) → place < k → bit x k ≡ 0

-- bit z is the highest one that path p tested to be 0
pub record LastZero (p : Pattern) (z : ℕ) : Type 0 where
  pub small : z < 96
  pub tested : masks p z ≡ true
  pub zero : value_at p z ≡ 0
  pub behind : (k : ℕ) → z < k → k < 96 → masks p k ≡ true → value_at p k ≡ 1

-- q has the tests of p below bit z, and bit z as 1
pub record TurnedAt (p : Pattern) (z : ℕ) (q : Pattern) : Type 0 where
  pub valid : ValidPattern q
  pub tests : (k : ℕ) → k < 96 → masks q k ≡ cond (eqb k z) true (cond (ltb k z) (masks p k) false)
  pub values : (k : ℕ) → k < 96 → value_at q k ≡ cond (eqb k z) 1 (cond (ltb k z) (value_at p k) 0)

abbrev pub Turns : Pattern → Option Pattern → Type 0
Turns p None = (k : ℕ) → k < 96 → masks p k ≡ true → value_at p k ≡ 1
Turns p (Some q) = (z : ℕ) × LastZero p z × TurnedAt p z q
