-- One line of a listing, as a list of bytes.
use Rattle.std.specs.Prelude.{ℕ, ◌+◌, ◌-◌, cond, List, leb, length, take, drop}
use Rattle.alignment.specs.Alignment.{is_multiple, gap_length}
use Rattle.format.specs.Numbers.{longest_text}
use Rattle.format.specs.Description.{Description}
use Rattle.decoding_spec.specs.Refusals.{is_short}
use Rattle.decoding_spec.specs.Tree.{Node}
use Rattle.decoding_spec.specs.Walk.{Result, done, refused}
use Rattle.decoding_spec.specs.Instruction.{instruction_of}
use Rattle.decoding_spec.specs.declared.Refusal.{Refusal}
use Rattle.text.specs.Text.{text_of}
use Rattle.listing_parts.specs.Parts.{short_word, long_word, gap_text, line_text}
use Rattle.listing_lines.specs.declared.Shown.{Shown}

-- a refusal that would make a gap of these bytes
abbrev pub refused_text : List ℕ → Refusal → List ℕ
refused_text bytes r = cond (is_short r) short_word (gap_text bytes)

-- "Text over 256 prints ".long"."
abbrev pub fitting : List ℕ → List ℕ
fitting w = cond (leb (length w) longest_text) w long_word

abbrev pub shown_by : Description → List ℕ → Result Node → List ℕ
shown_by d bytes (done n l st) = fitting (text_of d n)
shown_by d bytes (refused r) = refused_text bytes r

-- behind a gap of this length; "short" ends the listing, so that it goes on at the code's end
abbrev pub refused_next : (at long end : ℕ) → Refusal → ℕ
refused_next at long end r = cond (is_short r) end (at + long)

abbrev pub next_by : (at long end : ℕ) → Result Node → ℕ
next_by at long end (done n l st) = at + l
next_by at long end (refused r) = refused_next at long end r

-- a gap at a place of the code s, whose byte 0 has this address, with alignment n: its length and its bytes
abbrev pub gap_at : (address n : ℕ) → List ℕ → ℕ → ℕ
gap_at address n s at = gap_length n (address + at) (length s - at)

abbrev pub gap_bytes : (address n : ℕ) → List ℕ → ℕ → List ℕ
gap_bytes address n s at = take (gap_at address n s at) (drop at s)

-- what is shown at a place, in the context c, and the next place; "A place that is no multiple is a gap"
unfoldable pub shown_at : Description → (c address n : ℕ) → List ℕ → ℕ → List ℕ
shown_at d c address n s at =
    cond (is_multiple n (address + at))
    (shown_by d (gap_bytes address n s at) (instruction_of d c (address + at) (drop at s)))
    (gap_text (gap_bytes address n s at))

unfoldable pub next_at : Description → (c address n : ℕ) → List ℕ → ℕ → ℕ
next_at d c address n s at =
    cond (is_multiple n (address + at))
    (next_by at (gap_at address n s at) (length s) (instruction_of d c (address + at) (drop at s)))
    (at + gap_at address n s at)

unfoldable pub line_at : Description → (c address n : ℕ) → List ℕ → ℕ → List ℕ
line_at d c address n s at = line_text (address + at) (shown_at d c address n s at)

-- the line's size, and the next place
unfoldable pub line_shown : Description → (c address n : ℕ) → List ℕ → ℕ → Shown
line_shown d c address n s at = record { size = length (line_at d c address n s at); next = next_at d c address n s at }
