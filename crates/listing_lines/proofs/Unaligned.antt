-- With alignment 1 a place shows what it showed without: a gap of one byte.
use Prim.Native.Nat.{ℕ, ◌+◌, ◌-◌, ◌<◌}
use mathlib.Core.List.{List, [], ◌∷◌, ◌++◌}
use mathlib.Core.Path.{◌≡◌, refl, ap, ◌∙◌}
use native.Mathlib.Omega.{arith}
use lib.ListN.{length, take, drop, get_or}
use lib.Seq.{drop-cons}
use Rattle.alignment.proofs.Laws.{one-multiple, one-gap}
use Rattle.format.specs.Description.{Description}
use Rattle.decoding_spec.specs.Instruction.{instruction_of}
use Rattle.listing_parts.specs.Parts.{hex_digits, byte_word, byte_text, bytes_behind, bytes_text, gap_text}
use Rattle.listing_lines.specs.Line.{gap_at, gap_bytes, shown_by, next_by, shown_at, next_at}

-- ".byte 0x" and two digits
pub one_byte : (byte : ℕ) → gap_text (byte ∷ []) ≡ byte_word ++ (48 ∷ 120 ∷ hex_digits 2 byte)
unfolding gap_text bytes_text bytes_behind byte_text hex_digits
one_byte byte = refl

module _ (d : Description) (c address : ℕ) (s : List ℕ) (at : ℕ) (h : at < length s) where
  long : gap_at address 1 s at ≡ 1
  long = one-gap (address + at) (length s - at) (omega arith)

  bytes : gap_bytes address 1 s at ≡ get_or s at 0 ∷ []
  bytes = ap (λ (n : ℕ). take n (drop at s)) long ∙ ap (take 1) (drop-cons s at 0 h)

  pub shown-unaligned : shown_at d c address 1 s at ≡ shown_by d (get_or s at 0 ∷ []) (instruction_of d c (address + at) (drop at s))
  unfolding shown_at
  shown-unaligned = rw (one-multiple (address + at)) (ap (λ (l : List ℕ). shown_by d l (instruction_of d c (address + at) (drop at s))) bytes)

  pub next-unaligned : next_at d c address 1 s at ≡ next_by at 1 (length s) (instruction_of d c (address + at) (drop at s))
  unfolding next_at
  next-unaligned = rw (one-multiple (address + at)) (ap (λ (n : ℕ). next_by at n (length s) (instruction_of d c (address + at) (drop at s))) long)
