-- From the instruction and the printed text to the answer and the lent bytes.
use Prim.Native.Nat.{ℕ, suc, ◌-◌, ◌<◌}
use mathlib.Core.Bool.{false}
use mathlib.Core.List.{List}
use mathlib.Core.Path.{◌≡◌, sym, ap, ◌∙◌}
use lib.IntN.{ℤ}
use lib.ListN.{length}
use Rattle.std.proofs.Common.{Result, Err}
use Rattle.format.specs.Numbers.{most_rows}
use Rattle.format.specs.Check.{WellFormed}
use Rattle.format.specs.Description.{Description, description}
use Rattle.format.specs.declared.Layout.{Layout}
use Rattle.format.proofs.Formation.{obeyed}
use Rattle.decoding_spec.specs.State.{Setting}
use Rattle.decoding_spec.specs.Instruction.{instruction_of}
use Rattle.decoding_spec.specs.declared.Refusal.{Refusal}
use Rattle.decoding_spec.specs.declared.State.{State}
use Rattle.setting.specs.Fixed.{fixed_of, Fixed}
use Rattle.setting.proofs.Laws.{fixed-of, setting-of, fixed-for, setting-for}
use Rattle.setting.specs.declared.Prepared.{Prepared}
use Rattle.walking.specs.Walks.{Instruction, instruction_as, told_length}
use Rattle.instructions.specs.Instructions.{result_at}
use Rattle.instructions.proofs.InstructionRows.{Whole, was-refused, was-done, first-here}
use Rattle.walk_steps.specs.Steps.{arrived}
use Rattle.text.specs.Text.{text_of}
use Rattle.text.specs.Places.{text_at, SoundRows}
use Rattle.text.specs.Lines.{line_of, lent_after}
use Rattle.text.specs.Prints.{described, whole_text}
use Rattle.text.specs.declared.NoText.{NoText}
use Rattle.text.proofs.InstructionText.{rows-used, rows-sound, rows-text}
use Rattle.text_decoding.specs.TextDecoding.{line_answer, answer_of, buffer_after, instruction_answer, instruction_buffer}
use Rattle.text_decoding.specs.declared.TextError.{TextError}
use Rattle.text_decoding.specs.declared.TextError.TheVariants.{Refused}

-- the answer and the lent bytes are those of the instruction
abbrev pub Answers : Description → (c address : ℕ) → List ℕ → (old new : List ℕ) → Result ℕ TextError → Type 0
Answers d c address s old new r = (r ≡ instruction_answer d c address s (length old)) × (new ≡ instruction_buffer d c address s old)

-- the numbers as they are filled, and as they are told the code's length
module _ (b : List ℕ) (l : Layout) (formed : WellFormed b l) (a : Prepared) (fills : a ≡ fixed_of (description b l) l false) where
  pub filled : Fixed b a
  filled = rw fills (fixed-of b l false formed)

  described-here : described b a ≡ description b l
  described-here = rw fills (setting-of b l false)

  module _ (s : List ℕ) (a' : Prepared) (tells : a' ≡ told_length a s 0) where
    pub told_fixed : Fixed b a'
    told_fixed = rw tells (fixed-for b a (length s - 0) filled)

    told-described : described b a' ≡ description b l
    told-described =
        rw tells
        (ap (λ (g : Setting). g.description) (setting-for b a (length s - 0)) ∙ described-here)

  module _ (c address : ℕ) (s : List ℕ) (i : Instruction) (decoded : i ≡ instruction_as (result_at b a s 0 c address)) where
    decoded-here : i ≡ instruction_as (instruction_of (description b l) c address s)
    decoded-here = decoded ∙ ap instruction_as (first-here b l a s false c address fills)

    pub refusal-answers : (old : List ℕ) (r : Refusal) → i.walked ≡ Err r → Answers (description b l) c address s old old (Err (Refused r))
    refusal-answers old r e =
        let z = was-refused (description b l) c address s i decoded-here r e in
        (rw z, rw z)

    module _ (size : ℕ) (st : State) (e : i.walked ≡ arrived st size) where
      found : Whole (description b l) c address s i decoded-here size st
      found = was-done (description b l) c address s i decoded-here size st e

      pub some-rows : 0 < st.used
      some-rows = rows-used (description b l) (obeyed b l formed) c address s found.tree size st found.result

      module _ (a' : Prepared) (tells : a' ≡ told_length a s 0) where
        pub sound-rows : SoundRows (described b a') i.rows st.used
        sound-rows =
            rw (told-described s a' tells, found.rows)
            (rows-sound (description b l) (obeyed b l formed) c address s found.tree size st found.result)

        whole-text : whole_text b a' i.rows ≡ text_of (description b l) found.tree
        whole-text =
            rw (told-described s a' tells)
            (ap (λ (rows : List ℤ). text_at (description b l) rows (suc most_rows) 0) found.rows
            ∙ rows-text (description b l) (obeyed b l formed) c address s found.tree size st found.result)

        pub line-answers : (old new : List ℕ) (r : Result ℕ NoText) → r ≡ line_of (whole_text b a' i.rows) (length old)
            → new ≡ lent_after (whole_text b a' i.rows) old → Answers (description b l) c address s old new (line_answer r)
        line-answers old new r h k =
            let text = whole-text in (
              ap line_answer (rw text at h) ∙ sym (ap (answer_of (description b l) (length old)) found.result),
              rw text at k ∙ sym (ap (buffer_after (description b l) old) found.result),
            )
