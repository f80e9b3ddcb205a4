-- What is shown at a place, from the instruction there.
use Prim.Native.Nat.{ℕ, suc, ◌+◌, ◌-◌, ◌≤◌, ◌<◌}
use mathlib.Core.Bool.{Bool, true, false, cond}
use mathlib.Core.List.{List}
use mathlib.Core.Path.{◌≡◌, sym, ap, subst, ◌∙◌}
use native.Mathlib.Omega.{arith}
use lib.IntN.{ℤ}
use lib.ListN.{length, take, drop, length-drop}
use lib.Seq.{length-take-le}
use Rattle.alignment.specs.Alignment.{is_multiple}
use Rattle.alignment.proofs.Laws.{alignment-some, alignment-few, gap-some, gap-inside, gap-reach}
use Rattle.format.specs.Numbers.{most_rows}
use Rattle.format.specs.Description.{Description}
use Rattle.decoding_spec.specs.State.{Setting}
use Rattle.decoding_spec.specs.Instruction.{instruction_of}
use Rattle.decoding_spec.specs.declared.State.{State}
use Rattle.decoding_spec.specs.declared.Refusal.{Refusal}
use Rattle.decoding_theorems.proofs.InBounds.{in_bounds}
use Rattle.setting.specs.Fixed.{Fixed}
use Rattle.setting.proofs.Laws.{obeyed-in, fixed-for, setting-for}
use Rattle.setting.specs.declared.Prepared.{Prepared}
use Rattle.walking.specs.Walks.{Instruction, instruction_as, told_length}
use Rattle.instructions.specs.Instructions.{result_at}
use Rattle.std.proofs.Common.{Err}
use Rattle.walk_steps.specs.Steps.{arrived}
use Rattle.instructions.proofs.InstructionRows.{was-refused, was-done}
use Rattle.text.specs.Text.{text_of}
use Rattle.text.specs.Places.{text_at, SoundRows}
use Rattle.text.specs.Prints.{described, whole_text}
use Rattle.text.proofs.InstructionText.{rows-used, rows-sound, rows-text}
use Rattle.listing_parts.specs.Parts.{gap_text}
use Rattle.listing_lines.specs.Line.{gap_at, gap_bytes, refused_text, refused_next, fitting, shown_by, next_by, shown_at, next_at}
use Rattle.listing_parts.specs.Put.{Put, GapBytes}
use Rattle.listing_lines.specs.Put.{GapAt, PlaceOf, ShowsInstruction, Shows, ShowsText, told_at}
use Rattle.listing_lines.specs.declared.Shown.{Shown}

-- the walk was told the length from there on: the description stays the same
module _ (b : List ℕ) (a : Prepared) (s : List ℕ) (at : ℕ) (f : Fixed b a) (a' : Prepared) (told : a' ≡ told_length a s at) where
  same-told : described b a' ≡ described b a
  same-told =
      ap (λ (n : Prepared). described b n) told ∙ ap (λ (g : Setting). g.description) (setting-for b a (length s - at))

  pub fixed_told : Fixed b a'
  fixed_told = rw told (fixed-for b a (length s - at) f)

module _ (b : List ℕ) (a : Prepared) (s : List ℕ) (c address at : ℕ) (gap : List ℕ) (place : GapAt b a s at gap) (a' : Prepared) (told : a' ≡ told_length a s at) (i : Instruction)
    (is : i ≡ instruction_as (result_at b a s at c address)) where
  here : i ≡ instruction_as (instruction_of (described b a) c (address + at) (drop at s))
  unfolding result_at
  here = is

  pub shows-refusal : (r : Refusal) → i.walked ≡ Err r → (old new : List ℕ) (shown : Shown) → Put (refused_text gap r) old new shown.size
      → shown.next ≡ refused_next at (length gap) (length s) r → ShowsInstruction b a s c address at gap old shown new a'
  unfolding result_at
  shows-refusal r e old new shown p q =
      let z = was-refused (described b a) c (address + at) (drop at s) i here r e in
      record { text = rw z p; next = rw z q; told = told }

  module _ (l : ℕ) (st : State) (e : i.walked ≡ arrived st l) where
    pub rows-there : SoundRows (described b a') i.rows st.used × (0 < st.used)
    rows-there =
        let w = was-done (described b a) c (address + at) (drop at s) i here l st e in
        let o = obeyed-in b a place.fixed in (
          rw (same-told b a s at place.fixed a' told, w.rows) (rows-sound (described b a) o c (address + at) (drop at s) w.tree l st w.result),
          rows-used (described b a) o c (address + at) (drop at s) w.tree l st w.result,
        )

    pub next_fits : at + l ≤ length s
    next_fits =
        let w = was-done (described b a) c (address + at) (drop at s) i here l st e in
        omega (arith, (in_bounds (described b a) c (address + at) (drop at s) w.tree l st w.result).here, length-drop at s, place.here)

    pub shows-text : (old new : List ℕ) (n : ℕ) → ShowsText b a' i.rows old new n → ShowsInstruction b a s c address at gap old (record { size = n; next = at + l }) new a'
    unfolding result_at
    shows-text old new n p =
        let w = was-done (described b a) c (address + at) (drop at s) i here l st e in
        let t : whole_text b a' i.rows ≡ text_of (described b a) w.tree =
        ap (λ (d : Description). text_at d i.rows (suc most_rows) 0) (same-told b a s at place.fixed a' told)
        ∙ ap (λ (rows : List ℤ). text_at (described b a) rows (suc most_rows) 0) w.rows
        ∙ rows-text (described b a) (obeyed-in b a place.fixed) c (address + at) (drop at s) w.tree l st w.result in
        record {
          text = subst (λ (v : List ℕ). Put v old new n) (ap fitting t ∙ sym (ap (shown_by (described b a) gap) w.result)) p;
          next = sym (ap (next_by at (length gap) (length s)) w.result);
          told = told;
        }

-- a place of the code, with an alignment
module _ (b : List ℕ) (a : Prepared) (n : ℕ) (s : List ℕ) (c address at : ℕ) (place : PlaceOf b a n s at) where
  -- the gap there, as the part of the code that it is
  module _ (end : ℕ) (ends : end ≡ at + gap_at address n s at) where
    pub end-inside : (at < end) × (end ≤ length s)
    end-inside =
        let long = gap-some n (address + at) (length s - at) (alignment-some n place.aligned) (omega (arith, place.inside)) in
        (omega (arith, long), omega (arith, gap-inside n (address + at) (length s - at), place.inside))

    gap_is : take (end - at) (drop at s) ≡ gap_bytes address n s at
    gap_is = let z : end - at ≡ gap_at address n s at = omega arith in rw z

    gap-long : length (take (end - at) (drop at s)) ≡ gap_at address n s at
    gap-long = length-take-le (end - at) (drop at s) (omega (arith, length-drop at s, end-inside.1)) ∙ omega arith

    pub gap-there : GapAt b a s at (take (end - at) (drop at s))
    gap-there =
        let long = gap-long in
        record {
          fixed = place.fixed;
          some = omega (arith, end-inside.0);
          few = omega (arith, gap-reach n (address + at) (length s - at), alignment-few n place.aligned);
          here = omega (arith, end-inside.1);
        }

    pub gap-room : (out : List ℕ) → 52 ≤ length out → GapBytes (take (end - at) (drop at s)) out
    gap-room out h = record { some = gap-there.some; few = gap-there.few; room = h }

    pub shows-there : (old new : List ℕ) (a' : Prepared) (r : Shown) → is_multiple n (address + at) ≡ true
        → ShowsInstruction b a s c address at (take (end - at) (drop at s)) old r new a' → Shows b a s c address n at old r new a'
    unfolding shown_at next_at told_at result_at
    shows-there old new a' r m h =
        let long = gap-long in
        record {
          text = rw (m, ← gap_is) h.text;
          next = rw (m, ← long) h.next;
          told = rw m h.told;
        }

    pub shows-gap : (old new : List ℕ) (size : ℕ) → is_multiple n (address + at) ≡ false → Put (gap_text (take (end - at) (drop at s))) old new size
        → Shows b a s c address n at old (record { size = size; next = end }) new a
    unfolding shown_at next_at told_at
    shows-gap old new size m p = record { text = rw (m, ← gap_is) p; next = rw m ends; told = rw m }

  -- afterwards what is fixed is that of the same description
  module _ (a' : Prepared) (told : a' ≡ told_at address n a s at) where
    pub same-description : described b a' ≡ described b a
    unfolding told_at
    same-description = go (is_multiple n (address + at)) told
      where
        go : (m : Bool) → a' ≡ cond m (told_length a s at) a → described b a' ≡ described b a
        go true e = same-told b a s at place.fixed a' e
        go false e = ap (described b) e

    pub fixed-there : Fixed b a'
    unfolding told_at
    fixed-there = go (is_multiple n (address + at)) told
      where
        go : (m : Bool) → a' ≡ cond m (told_length a s at) a → Fixed b a'
        go true e = fixed_told b a s at place.fixed a' e
        go false e = rw e place.fixed
