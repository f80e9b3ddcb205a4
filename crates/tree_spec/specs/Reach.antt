-- The leaf that an input reaches, and what proves a leaf wrong.
use Rattle.std.specs.Prelude.{ℕ, zero, suc, ◌+◌, ◌<◌, ◌≤◌, ◌^◌, Bool, false, cond, not, List, eqb, length, get_or, Result, Ok, Err}
use Rattle.bits.specs.Bits.{bit}
use Rattle.format.specs.declared.Pattern.{Pattern}
use Rattle.patterns.specs.Matching.{byte_bit}
use Rattle.choosing_spec.specs.Choosing.{choose}
use Rattle.choosing_spec.specs.declared.NotChosen.{NotChosen}
use Rattle.choosing_spec.specs.declared.NotChosen.TheVariants.{Short, NoMatch, Ambiguous}
use Rattle.tree_spec.specs.Nodes.{no_place, count_of, kind_at, bit_at, place_at}

-- the bit that node i tests: "Kind 1 tests bit 0 to 63 of the bytes (byte bit/8, bit bit mod 8); kind 2 tests context bit 0 to 31."
abbrev pub tested_bit : List ℕ → List ℕ → ℕ → ℕ → ℕ
tested_bit b s c i = cond (eqb (kind_at b i) 1) (byte_bit s (bit_at b i)) (bit c (bit_at b i))

-- "going, at each test, to the one side if the tested bit is 1 and to the zero side if it is 0"
unfoldable pub reach_from : ℕ → List ℕ → List ℕ → ℕ → ℕ → ℕ
reach_from zero b s c i = i
reach_from (suc deep) b s c i =
    let zero-side = reach_from deep b s c (suc i) in
    let one_side = reach_from deep b s c (place_at b i) in
    cond (eqb (kind_at b i) 0) i (cond (eqb (tested_bit b s c i) 1) one_side zero-side)

-- "the leaf found from node 0 on"
unfoldable pub reach_of : List ℕ → List ℕ → ℕ → ℕ
reach_of b s c = reach_from (count_of b) b s c 0

-- a leaf that says v is right for an answer of Choosing: "wrong if it names a constructor that Choosing, in that table, doesn't
-- take .., or says none and a constructor matches; where Choosing says ambiguous, the leaf reached is wrong whatever it says"
abbrev pub right : ℕ → ℕ → Result ℕ NotChosen → Bool
right first v (Err Short) = false
right first v (Err NoMatch) = eqb v no_place
right first v (Ok j) = eqb v (first + j)
right first v (Err Ambiguous) = false

-- these bytes and this context prove leaf i wrong
unfoldable pub proves_wrong : ℕ → (ℕ → Pattern) → ℕ → List ℕ → List ℕ → ℕ → ℕ → Bool
proves_wrong first at n b s c i = not (right first (place_at b i) (choose at n s c))

-- "Bytes (eight or more) and a context"
pub record Input (s : List ℕ) (c : ℕ) : Type 0 where
  pub long : 8 ≤ length s
  pub bytes : (k : ℕ) → get_or s k 0 < 256
  pub context : c < 2 ^ 32
