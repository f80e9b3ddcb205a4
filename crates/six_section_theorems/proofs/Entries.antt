-- The entry points over a description without expressions: at every address, and with alignment 1, what document 01 says.
use Prim.Native.Nat.{ℕ, ◌+◌, ◌/◌, ◌<◌}
use mathlib.Core.List.{List, [], ◌∷◌}
use mathlib.Core.Path.{◌≡◌, ap, fun_ext, ◌∙◌}
use lib.IntN.{ℤ}
use lib.ListN.{length, get_or, drop}
use Rattle.std.proofs.Common.{Option, Ok}
use Rattle.format.specs.Numbers.{sweep_numbers}
use Rattle.format.specs.Description.{description}
use Rattle.format.specs.declared.Layout.{Layout}
use Rattle.format.proofs.Formation.{obeyed}
use Rattle.acceptance.specs.Acceptance.{acceptance_of}
use Rattle.acceptance.proofs.Facts.{accepted-formed}
use Rattle.decoding_spec.specs.Instruction.{instruction_of}
use Rattle.decoding.specs.Decoding as decoding
use Rattle.decoding.specs.Decoding.{decode_of, rows_after}
use Rattle.text_decoding.specs.TextDecoding as texting
use Rattle.text_decoding.specs.TextDecoding.{decode_text_of, text_after}
use Rattle.sweep.specs.Sweep as sweeping
use Rattle.sweep.specs.Sweep.{Sweep, step_by, sweep_by, sweep_in, sweep_of, buffer_with}
use Rattle.sweep_theorems.specs.Unaligned.{unaligned_step, unaligned_sweep}
use Rattle.sweep_theorems.proofs.Unaligned.{sweep-unaligned}
use Rattle.sweep.specs.declared.Row.{Row}
use Rattle.listing_lines.specs.Line.{shown_by, next_by, shown_at, next_at}
use Rattle.listing_lines.proofs.Unaligned.{shown-unaligned, next-unaligned}
use Rattle.six_section_theorems.specs.Base.{instruction_base, sweep_base}
use Rattle.six_section_theorems.proofs.Walks.{decodes-as-before}

-- bytes b are an accepted description without expressions
module _ (b : List ℕ) (l : Layout) (e : acceptance_of b ≡ Ok l) (none-there : length (description b l).expressions ≡ 0) (c a : ℕ) (s : List ℕ) where
  before : (a : ℕ) (s : List ℕ) → instruction_of (description b l) c a s ≡ instruction_base (description b l) c s
  before a s = decodes-as-before (description b l) (obeyed b l (accepted-formed b l e)) none-there c a s

  pub decode-as-before : (room : ℕ) → decode_of b c a s room ≡ decoding.answer_of room (instruction_base (description b l) c s)
  unfolding decode_of
  decode-as-before room = rw e (ap (decoding.answer_of room) (before a s))

  pub rows-as-before : (old : List ℤ) → rows_after b c a s old ≡ decoding.buffer_after old (instruction_base (description b l) c s)
  unfolding rows_after
  rows-as-before old = rw e (ap (decoding.buffer_after old) (before a s))

  pub text-as-before : (room : ℕ) → decode_text_of b c a s room ≡ texting.answer_of (description b l) room (instruction_base (description b l) c s)
  unfolding decode_text_of
  text-as-before room = rw e (ap (texting.answer_of (description b l) room) (before a s))

  pub lent-text-as-before : (old : List ℕ) → text_after b c a s old ≡ texting.buffer_after (description b l) old (instruction_base (description b l) c s)
  unfolding text_after
  lent-text-as-before old = rw e (ap (texting.buffer_after (description b l) old) (before a s))

  swept : (numbers : ℕ) → sweep_in (description b l) c a 1 s numbers ≡ sweep_base (description b l) c s numbers
  unfolding unaligned_sweep unaligned_step sweep_base
  swept numbers =
      sweep-unaligned (description b l) c a s numbers
      ∙ ap (λ (f : ℕ → Option Row). sweep_by f (length s) (numbers / sweep_numbers) 0) (fun_ext λ at. ap (step_by 1) (before (a + at) (drop at s)))

  pub sweep-as-before : (numbers : ℕ) → sweep_of b c a 1 s numbers ≡ Ok (sweeping.answer_of (sweep_base (description b l) c s numbers))
  unfolding sweep_of
  sweep-as-before numbers = rw e (ap (λ (w : Sweep). Ok (sweeping.answer_of w)) (swept numbers))

  pub lent-rows-as-before : (old : List ℤ) → sweeping.buffer_after b c a 1 s old ≡ buffer_with (sweep_base (description b l) c s (length old)).rows old
  unfolding sweeping.buffer_after
  lent-rows-as-before old = rw e (ap (λ (w : Sweep). buffer_with w.rows old) (swept (length old)))

  -- a line of the listing shows, behind its address, what it showed
  module _ (at : ℕ) (h : at < length s) where
    pub shown-as-before : shown_at (description b l) c a 1 s at ≡ shown_by (description b l) (get_or s at 0 ∷ []) (instruction_base (description b l) c (drop at s))
    shown-as-before = shown-unaligned (description b l) c a s at h ∙ ap (shown_by (description b l) (get_or s at 0 ∷ [])) (before (a + at) (drop at s))

    pub next-as-before : next_at (description b l) c a 1 s at ≡ next_by at 1 (length s) (instruction_base (description b l) c (drop at s))
    next-as-before = next-unaligned (description b l) c a s at h ∙ ap (next_by at 1 (length s)) (before (a + at) (drop at s))
