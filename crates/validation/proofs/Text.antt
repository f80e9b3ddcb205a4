-- The text, as a slice of the description.
use Prim.Native.Nat.{ℕ, ◌+◌, ◌-◌, ◌≤◌, ◌<◌}
use mathlib.Core.List.{List}
use mathlib.Core.Path.{◌≡◌, sym, ◌∙◌}
use native.Mathlib.Omega.{arith}
use lib.ListN.{length, take, drop}
use lib.Seq.{ext_get_or}
use Rattle.std.proofs.lemmas.List.{get_or-take, get_or-drop, length-take-le, length-drop}
use Rattle.format.specs.Description.{text_of}
use Rattle.format.specs.declared.Layout.{Layout}
use Rattle.format.proofs.Lists.{text-length, letter-here}

pub text_slice : (b : List ℕ) (l : Layout) → l.text.start + l.text.count ≤ length b
    → take (l.text.start + l.text.count - l.text.start) (drop l.text.start b) ≡ text_of b l
text_slice b l h =
    let start = l.text.start in
    let n = l.text.count in
    let m : start + n - start ≡ n = omega arith in
    let long : length (take n (drop start b)) ≡ n = length-take-le n (drop start b) (omega (arith, length-drop start b)) in
    rw m
    (ext_get_or 0 (take n (drop start b)) (text_of b l) (long ∙ sym (text-length b l))
    (λ i g.
    let k : i < n = omega arith in
    get_or-take n (drop start b) i 0 k ∙ get_or-drop start b i 0 ∙ sym (letter-here b l i k)))
