-- A pattern against bytes and a context, bit by bit. A pattern has 64 byte bits and 32 context bits.
use Rattle.std.specs.Prelude.{ℕ, ◌/◌, ◌%◌, Bool, ◌&&◌, ◌||◌, not, List, ltb, eqb, length, get_or}
use Rattle.lists.specs.Below.{all_below, any_below}
use Rattle.bits.specs.Bits.{bit, is_set}
use Rattle.format.specs.declared.Pattern.{Pattern}

-- bit k of the bytes: bit k mod 8 of byte k / 8
abbrev pub byte_bit : List ℕ → ℕ → ℕ
byte_bit s k = bit (get_or s (k / 8) 0) (k % 8)

-- the byte of bit k is there
abbrev pub present : List ℕ → ℕ → Bool
present s k = ltb (k / 8) (length s)

unfoldable pub context_agrees : Pattern → ℕ → Bool
context_agrees p c = all_below 32 (λ k. not (is_set p.contextmask k) || eqb (bit c k) (bit p.contextvalue k))

-- "A pattern matches where every masked bit of the bytes, from the constructor's start, and of the context has its value."
unfoldable pub matches : Pattern → List ℕ → ℕ → Bool
matches p s c =
    all_below 64 (λ k. not (is_set p.mask k) || (present s k && eqb (byte_bit s k) (bit p.value k))) && context_agrees p c

-- "agrees with the context and all bytes present"
unfoldable pub agrees : Pattern → List ℕ → ℕ → Bool
agrees p s c =
    all_below 64 (λ k. not (is_set p.mask k && present s k) || eqb (byte_bit s k) (bit p.value k)) && context_agrees p c

-- "masks a bit of a missing byte"
unfoldable pub masks_missing : Pattern → List ℕ → Bool
masks_missing p s = any_below 64 (λ k. is_set p.mask k && not (present s k))

-- "Short, if some pattern agrees with the context and all bytes present and masks a bit of a missing byte."
unfoldable pub cut_off : Pattern → List ℕ → ℕ → Bool
cut_off p s c = agrees p s c && masks_missing p s
