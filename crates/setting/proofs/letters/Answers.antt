use Prim.Native.Nat.{ℕ, ◌+◌, ◌-◌, ◌≤◌, ◌<◌}
use mathlib.Core.List.{List}
use mathlib.Core.Path.{◌≡◌, refl, sym, ap, ◌∙◌}
use native.Mathlib.Omega.{arith}
use lib.ListN.{length, get_or, take, drop, length-drop}
use lib.Seq.{length-take-le, get_or-take, get_or-drop, ext_get_or}
use Rattle.format.specs.Layout.{SectionsInBounds}
use Rattle.format.specs.Description.{text_of}
use Rattle.format.specs.declared.Layout.{Layout}
use Rattle.format.proofs.Lists.{text-length, letter-here}
use Rattle.setting.specs.Fixed.{setting_in, Fixed}
use Rattle.setting.specs.declared.Prepared.{Prepared}
use Rattle.setting.proofs.letters.Goals as goal

-- `setting::letters` meets its contract. Assumes nothing.
-- the text section lies in the description
inside : (b : List ℕ) (a : Prepared) (offset n : ℕ) → Fixed b a → offset + n ≤ length (setting_in b a).description.text → a.layout.text.start + (offset + n) ≤ length b
unfolding setting_in
inside b a offset n f h = omega (arith, f.formed.room.text, rw (text-length b a.layout) at h)

-- its bytes are the description's
letters-are : (b : List ℕ) (l : Layout) (offset n from end : ℕ) → SectionsInBounds b l → offset + n ≤ l.text.count → from ≡ l.text.start + offset
    → end ≡ from + n → take (end - from) (drop from b) ≡ take n (drop offset (text_of b l))
letters-are b l offset n from end room h f e =
    ext_get_or 0 (take (end - from) (drop from b)) (take n (drop offset (text_of b l))) (long ∙ sym short) at
  where
    long : length (take (end - from) (drop from b)) ≡ n
    long = length-take-le (end - from) (drop from b) (omega (arith, length-drop from b, room.text)) ∙ omega arith

    short : length (take n (drop offset (text_of b l))) ≡ n
    short = length-take-le n (drop offset (text_of b l)) (omega (arith, length-drop offset (text_of b l), text-length b l))

    at : (i : ℕ) → i < length (take (end - from) (drop from b)) → get_or (take (end - from) (drop from b)) i 0 ≡ get_or (take n (drop offset (text_of b l))) i 0
    at i g =
        let k : i < n = omega (arith, long) in
        let z : from + i ≡ l.text.start + (offset + i) = omega arith in
        get_or-take (end - from) (drop from b) i 0 (omega arith) ∙ get_or-drop from b i 0 ∙ ap (λ (j : ℕ). get_or b j 0) z
        ∙ sym (letter-here b l (offset + i) (omega arith)) ∙ sym (get_or-drop offset (text_of b l) i 0)
        ∙ sym (get_or-take n (drop offset (text_of b l)) i 0 k)

pub overflow_add-from : goal.overflow_add-from
overflow_add-from c = omega (arith, inside c.args.desc.now c.args.fixed.now c.args.offset c.args.n c.requires.0 c.requires.1)

pub overflow_add-end : goal.overflow_add-end
overflow_add-end c = omega (arith, inside c.args.desc.now c.args.fixed.now c.args.offset c.args.n c.requires.0 c.requires.1)

pub slice_bounds-result-end : goal.slice_bounds-result-end
slice_bounds-result-end c = omega (arith, inside c.args.desc.now c.args.fixed.now c.args.offset c.args.n c.requires.0 c.requires.1)

pub returns : goal.returns
unfolding setting_in
returns c =
    letters-are _ c.args.fixed.now.layout c.args.offset c.args.n _ _ c.requires.0.formed.room
    (rw text-length at c.requires.1) refl refl
