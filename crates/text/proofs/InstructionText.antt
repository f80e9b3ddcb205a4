-- The scratch rows of a done instruction, for the text: they are sound, and their text is the instruction's.
use Prim.Native.Nat.{ℕ, suc, ◌≤◌, ◌<◌}
use mathlib.Core.List.{List}
use mathlib.Core.Path.{◌≡◌, sym, ◌∙◌}
use native.Mathlib.Omega.{arith}
use lib.IntN.{pos}
use lib.ListN.{length, replicate, length-replicate}
use Rattle.format.specs.Numbers.{most_rows}
use Rattle.format.specs.Description.{Description}
use Rattle.format.proofs.Formation.{RulesHold}
use Rattle.decoding_spec.specs.Tree.{Node}
use Rattle.decoding_spec.specs.Walk.{done}
use Rattle.decoding_spec.specs.Instruction.{instruction_of}
use Rattle.decoding_spec.specs.declared.State.{State}
use Rattle.decoding_theorems.proofs.InBounds.{in_bounds, used-rows}
use Rattle.decoding_theorems.proofs.Shapes.{shaped}
use Rattle.walk_steps.specs.Scratch.{scratch_length, sized_of, written}
use Rattle.instructions.proofs.InstructionRows.{sized-length}
use Rattle.scratch_rows.proofs.Standing.{rows-some}
use Rattle.text.specs.Text.{text_of}
use Rattle.text.specs.Places.{text_at, SoundRows}
use Rattle.text.proofs.Trees.{sound-tree, text-tree}

module _ (d : Description) (o : RulesHold d) (c address : ℕ) (s : List ℕ) (n : Node) (l : ℕ) (st : State) (e : instruction_of d c address s ≡ done n l st) where
  used-sized : st.used ≡ length (sized_of n)
  used-sized = used-rows d c address s n l st e ∙ sym (sized-length n)

  few : length (sized_of n) ≤ most_rows
  few = omega (arith, sized-length n, (in_bounds d c address s n l st e).few)

  pub rows-used : 0 < st.used
  rows-used = omega (arith, used-sized, rows-some n)

  pub rows-sound : SoundRows d (written 0 (sized_of n) (replicate scratch_length (pos 0))) st.used
  rows-sound = rw used-sized (sound-tree n (replicate scratch_length (pos 0)) (length-replicate scratch_length (pos 0)) d (shaped d o c address s n l st e) few)

  pub rows-text : text_at d (written 0 (sized_of n) (replicate scratch_length (pos 0))) (suc most_rows) 0 ≡ text_of d n
  rows-text = text-tree n (replicate scratch_length (pos 0)) (length-replicate scratch_length (pos 0)) d (shaped d o c address s n l st e) few o
