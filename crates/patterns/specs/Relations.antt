-- Two patterns, bit by bit, and a pattern's weight.
use Rattle.std.specs.Prelude.{ℕ, ◌+◌, Bool, ◌&&◌, ◌||◌, not, eqb}
use Rattle.std.specs.Int.Bits.{bit_or}
use Rattle.lists.specs.Below.{all_below}
use Rattle.bits.specs.Bits.{bit, is_set, ones_of}
use Rattle.format.specs.declared.Pattern.{Pattern}

-- "Pattern A lies inside B where every bit masked in B is masked in A with the same value."
unfoldable pub inside_bits : ℕ → ℕ → ℕ → ℕ → ℕ → Bool
inside_bits n am av bm bv = all_below n (λ k. not (is_set bm k) || (is_set am k && eqb (bit av k) (bit bv k)))

unfoldable pub inside : Pattern → Pattern → Bool
inside a b =
    inside_bits 64 a.mask a.value b.mask b.value
    && inside_bits 32 a.contextmask a.contextvalue b.contextmask b.contextvalue

-- two patterns overlap where some bytes and context match both: a bit that both mask has one value
unfoldable pub meet_bits : ℕ → ℕ → ℕ → ℕ → ℕ → Bool
meet_bits n am av bm bv = all_below n (λ k. not (is_set am k && is_set bm k) || eqb (bit av k) (bit bv k))

unfoldable pub overlap : Pattern → Pattern → Bool
overlap a b =
    meet_bits 64 a.mask a.value b.mask b.value
    && meet_bits 32 a.contextmask a.contextvalue b.contextmask b.contextvalue

-- "their overlap": the unions of the masks and of the values
abbrev pub overlap_of : Pattern → Pattern → Pattern
overlap_of a b =
    record {
      mask = bit_or a.mask b.mask;
      value = bit_or a.value b.value;
      contextmask = bit_or a.contextmask b.contextmask;
      contextvalue = bit_or a.contextvalue b.contextvalue;
    }

-- the same masks and values
abbrev pub equal : Pattern → Pattern → Bool
equal a b =
    eqb a.mask b.mask && eqb a.value b.value && eqb a.contextmask b.contextmask
    && eqb a.contextvalue b.contextvalue

-- "the weight of the taken pattern, its number of masked bits (bytes and context)"
unfoldable pub weight : Pattern → ℕ
weight p = ones_of 64 p.mask + ones_of 32 p.contextmask
