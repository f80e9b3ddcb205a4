-- The input as machine words, made once for a choice, and the tests on them.
use Rattle.std.specs.Prelude.{ℕ, ◌-◌, ◌*◌, ◌<◌, ◌^◌, min, Bool, ◌&&◌, List, eqb, length}
use Rattle.std.specs.Int.Bits.{bit_and, bit_xor}
use Rattle.format.specs.Bytes.{u64_at}
use Rattle.format.specs.declared.Pattern.{Pattern}
use Rattle.patterns.specs.declared.Input.{Input}

-- the numbers fit their words
pub record Small (p : Pattern) : Type 0 where
  pub mask : p.mask < 2 ^ 64
  pub value : p.value < 2 ^ 64
  pub contextmask : p.contextmask < 2 ^ 32
  pub contextvalue : p.contextvalue < 2 ^ 32

-- the first eight bytes of s as a little-endian number, missing ones 0, the bits of those that are here and of those that are
-- missing, and the context c
unfoldable pub input_of : List ℕ → ℕ → Input
input_of s c =
    let here = 2 ^ (8 * min 8 (length s)) - 1 in
    record { word = u64_at s 0; here = here; missing = 2 ^ 64 - 1 - here; context = c }

-- no masked bit that is here differs
abbrev pub words_agree : Pattern → Input → Bool
words_agree p i =
    eqb (bit_and (bit_xor i.word p.value) (bit_and p.mask i.here)) 0
    && eqb (bit_and (bit_xor i.context p.contextvalue) p.contextmask) 0

-- no masked bit is missing
abbrev pub words_whole : Pattern → Input → Bool
words_whole p i = eqb (bit_and p.mask i.missing) 0
