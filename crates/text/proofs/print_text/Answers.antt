use Prim.Native.Nat.{ℕ, suc}
use mathlib.Core.Path.{sym, ◌∙◌}
use native.Mathlib.Omega.{arith}
use lib.ListN.{replicate, length-replicate}
use lib.Seq.{length-take-le}
use Rattle.format.specs.Numbers.{most_rows}
use Rattle.text.specs.Prints.{whole_text}
use Rattle.text.specs.Append.{Appended}
use Rattle.text.proofs.LentText.{long-line, end-few, line-copied}
use Rattle.text.proofs.print_text.Goals.{In-Some}
use Rattle.text.proofs.print_text.Goals as goal

pub print_part-requires : goal.print_part-requires
print_part-requires c =
    record { fixed = c.requires.fixed; sound = c.requires.sound_rows.0; row = c.requires.sound_rows.1; place = omega arith }

-- the text stands in the buffer, where it was written
in_buffer : (c : In-Some)
    → let whole = whole_text c.args.desc.now c.args.fixed.now c.args.rows.now in
    Appended 0 whole (replicate 256 0) c.print_part.new.out c.in-Some.end
in_buffer c = rw c.in-Some.is at (c.print_part.ensures (suc most_rows) (omega arith)).is

pub slice_bounds-text-end : goal.slice_bounds-text-end
slice_bounds-text-end c =
    let few = end-few _ _ _ c.args.out.now (length-replicate {A = ℕ} 256 0) _ (in_buffer (goal.at.slice_bounds-text-end c).In-Some) in
    rw c.print_part.auto.out few

pub slice_bounds-put_bytes-end : goal.slice_bounds-put_bytes-end
slice_bounds-put_bytes-end c =
    let few = end-few _ _ _ c.args.out.now (length-replicate {A = ℕ} 256 0) _ (in_buffer (goal.at.slice_bounds-put_bytes-end c).In-Some) in
    sym (length-take-le _ _ (rw c.print_part.auto.out few))

pub returns-in_default : goal.returns-in_default
returns-in_default c =
    let h = long-line _ (replicate 256 0) _ _ (length-replicate {A = ℕ} 256 0)
    (rw c.in_default.is at (c.print_part.ensures (suc most_rows) (omega arith))) in
    record { value = h.0; out_after = h.1 }

pub returns : goal.returns
returns c =
    let text = in_buffer (goal.at.returns c).In-Some in
    let h = line-copied _ _ _ _ (length-replicate {A = ℕ} 256 0) _ text _ _ c.put_bytes.ensures in
    record { value = c.ok_or.ensures.value ∙ h.0; out_after = h.1 }
