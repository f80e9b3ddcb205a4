-- From the instruction and its rows to the answer and the lent rows.
use Prim.Native.Nat.{ℕ, ◌*◌, ◌≤◌, ◌<◌}
use mathlib.Core.List.{List, ◌++◌}
use mathlib.Core.Path.{◌≡◌, sym, ap, ◌∙◌}
use native.Mathlib.Omega.{arith}
use borrow.Author.Tests.{le-leb, lt-leb}
use lib.Dec.{leb}
use lib.IntN.{ℤ, pos}
use lib.ListN.{length, take, drop, replicate}
use Rattle.std.proofs.Common.{Ok, Err}
use Rattle.format.specs.Numbers.{most_rows, row_numbers}
use Rattle.format.specs.Description.{Description}
use Rattle.decoding_spec.specs.Tree.{rows_of, numbers_of}
use Rattle.decoding_spec.specs.Instruction.{instruction_of}
use Rattle.decoding_spec.specs.declared.State.{State}
use Rattle.decoding_spec.specs.declared.Refusal.{Refusal}
use Rattle.walk_steps.specs.Scratch.{scratch_numbers, scratch_length, sized_of, written}
use Rattle.walking.specs.Walks.{Instruction, instruction_as}
use Rattle.walk_steps.specs.Steps.{arrived}
use Rattle.instructions.proofs.InstructionRows.{was-refused, was-done, plain_rows, sized-length, rows-first}
use Rattle.decoding.specs.Decoding.{Decodes, answer_of, buffer_after}
use Rattle.decoding.specs.Copying.{Copied}
use Rattle.decoding.specs.declared.DecodeError.TheVariants.{Refused, NoRoom}
use Rattle.decoding.proofs.Numbers.{copy-all}

module _ (d : Description) (c a : ℕ) (s : List ℕ) (i : Instruction) (is : i ≡ instruction_as (instruction_of d c a s)) where
  pub refusal-told : (old : List ℤ) (r : Refusal) → i.walked ≡ Err r → Decodes d c a s old (Err (Refused r)) old
  refusal-told old r e = let z = was-refused d c a s i is r e in record { answer = rw z; buffer = rw z }

  module _ (l : ℕ) (st : State) (e : i.walked ≡ arrived st l) where
    pub few : st.used ≤ most_rows
    few = let w = was-done d c a s i is l st e in omega (arith, w.count, w.few)

    pub no-room-told : (old : List ℤ) → length old < row_numbers * st.used → Decodes d c a s old (Err NoRoom) old
    no-room-told old h =
        let w = was-done d c a s i is l st e in
        let n = length (rows_of w.tree) in
        let f : leb (row_numbers * n) (length old) ≡ _ = lt-leb (row_numbers * n) (length old) (omega (arith, w.count)) in
        record { answer = sym (ap (answer_of (length old)) w.result ∙ rw f); buffer = sym (ap (buffer_after old) w.result ∙ rw f) }

    pub rows_told : (old new : List ℤ) → row_numbers * st.used ≤ length old → Copied i.rows (row_numbers * st.used) old new → Decodes d c a s old (Ok st.used) new
    rows_told old new h g =
        let w = was-done d c a s i is l st e in
        let n = length (rows_of w.tree) in
        let f : leb (row_numbers * n) (length old) ≡ _ = le-leb (row_numbers * n) (length old) (omega (arith, w.count)) in
        let copied : new ≡ numbers_of (rows_of w.tree) ++ drop (row_numbers * st.used) old =
        rw (plain_rows w.tree) at
        (copy-all i.rows (sized_of w.tree) st.used old new (w.count ∙ sym (sized-length w.tree)) (ap (take (scratch_numbers * st.used)) w.rows ∙ ap (λ (k : ℕ). take (scratch_numbers * k) (written 0 (sized_of w.tree) (replicate scratch_length (pos 0)))) w.count ∙ rows-first w.tree w.few) h g) in
        record {
          answer = sym (ap (answer_of (length old)) w.result ∙ rw f (ap Ok (sym w.count)));
          buffer = copied ∙ ap (λ (k : ℕ). numbers_of (rows_of w.tree) ++ drop (row_numbers * k) old) w.count ∙ sym (ap (buffer_after old) w.result ∙ rw f);
        }
