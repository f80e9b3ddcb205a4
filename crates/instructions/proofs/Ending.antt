-- The instruction's end: what the walk came to, with its values.
use Prim.Native.Nat.{ℕ, ◌+◌, ◌-◌, ◌≤◌}
use mathlib.Core.List.{List, []}
use mathlib.Core.Path.{◌≡◌, refl, sym, ap, subst, ◌∙◌}
use native.Mathlib.Omega.{arith}
use lib.IntN.{ℤ, pos}
use lib.ListN.{length, drop, replicate}
use Rattle.format.specs.Numbers.{longest}
use Rattle.format.specs.Description.{Description}
use Rattle.format.proofs.Lists.{expressions-length}
use Rattle.decoding_spec.specs.State.{Setting}
use Rattle.decoding_spec.specs.Tree.{Node}
use Rattle.decoding_spec.specs.Walk.{Result, done, refused, walked_of}
use Rattle.decoding_spec.specs.Instruction.{Valued, valued, outside, where_inside, with_values, ended, completed, instruction_of}
use Rattle.decoding_spec.specs.declared.State.{State}
use Rattle.decoding_spec.specs.declared.Refusal.{Refusal}
use Rattle.decoding_spec.specs.declared.Refusal.TheVariants.{ValueOutside}
use Rattle.decoding_theorems.proofs.InBounds.{walked-bounds, walked-rows}
use Rattle.decoding_theorems.proofs.Shapes.{walked-shaped, walked-built, without-expressions}
use Rattle.setting.specs.Fixed.{Fixed, setting_in}
use Rattle.setting.proofs.Laws.{obeyed-in, fixed-for, setting-for}
use Rattle.setting.specs.declared.Prepared.{Prepared}
use Rattle.walk_steps.specs.Scratch.{scratch_length, sized_of, written}
use Rattle.walk_steps.specs.Steps.{Walked, arrived, answer_of}
use Rattle.walking.specs.Walks.{Instruction, leaving, no_rows, instruction_as, walked_at, told_length}
use Rattle.std.specs.Prelude.{Ok, Err}
use Rattle.std.specs.Prelude as std
use Rattle.walk_steps.specs.declared.Walk.{Walk}
use Rattle.instructions.specs.Settling.{settled_from, valued_as, settled_walk}
use Rattle.instructions.specs.Instructions.{ReadableRows, Settleable, Settles, result_at}
use Rattle.instructions.proofs.SettledTree.{settled-tree}
use Rattle.instructions.proofs.InstructionRows.{sized-length}
use Rattle.instructions.proofs.Readable.{readable-tree}

abbrev empty : List ℤ
empty = replicate scratch_length (pos 0)

pub walked-of : (r : Result Node) → (instruction_as r).walked ≡ answer_of r
walked-of (done n l st) = refl
walked-of (refused x) = refl

module _ (b : List ℕ) (a : Prepared) (s : List ℕ) (at c address : ℕ) (f : Fixed b a) where
  abbrev d : Description
  d = (setting_in b a).description

  -- "A description may end after six sections"
  pub none-computed : a.layout.expressions.count ≡ 0 → walked_at b a s at c ≡ result_at b a s at c address
  unfolding walked_at result_at setting_in
  none-computed z = sym (without-expressions d (obeyed-in b a f) (expressions-length b a.layout ∙ z) c (address + at) (drop at s))

  completes : result_at b a s at c address ≡ completed d (address + at) (walked_at b a s at c)
  unfolding result_at walked_at instruction_of
  completes = refl

  module _ (i : Instruction) (is : i ≡ instruction_as (walked_at b a s at c)) where
    walked-is : i.walked ≡ answer_of (walked_at b a s at c)
    walked-is = ap (λ (x : Instruction). x.walked) is ∙ walked-of (walked_at b a s at c)

    -- a refusal of the walk is the instruction's
    stays-refused : (x : Refusal) → i.walked ≡ Err x → i ≡ instruction_as (result_at b a s at c address)
    unfolding completed
    stays-refused x e = is ∙ go (walked_at b a s at c) refl (sym walked-is ∙ e)
      where
        go : (r : Result Node) → walked_at b a s at c ≡ r → answer_of r ≡ Err x → instruction_as (walked_at b a s at c) ≡ instruction_as (result_at b a s at c address)
        go (done n l st) p q = cc
        go (refused y) p q = ap instruction_as (p ∙ sym (ap (completed d (address + at)) p)) ∙ ap instruction_as (sym completes)

    -- what a done walk has left
    record Left (l : ℕ) (st : State) : Type 0 where
      tree : Node
      result : walked_of d c (drop at s) ≡ done tree l st
      rows : i.rows ≡ written 0 (sized_of tree) empty
      used : st.used ≡ length (sized_of tree)

    left : (l : ℕ) (st : State) → i.walked ≡ arrived st l → Left l st
    unfolding walked_at
    left l st e = go (walked_at b a s at c) refl (sym walked-is ∙ e)
      where
        go : (r : Result Node) → walked_at b a s at c ≡ r → answer_of r ≡ arrived st l → Left l st
        go (done n m x) p q =
            let same : ◌≡◌ {A = Walk} (record { state = x; length = m }) (record { state = st; length = l }) = cc q in
            let st-is : x ≡ st = ap (λ (v : Walk). v.state) same in
            let l-is : m ≡ l = ap (λ (v : Walk). v.length) same in
            let r : walked_of d c (drop at s) ≡ done n l st = p ∙ rw (st-is, l-is) in
            record {
              tree = n;
              result = r;
              rows = ap (λ (y : Instruction). y.rows) (is ∙ ap instruction_as p);
              used = walked-rows d c (drop at s) n l st r ∙ sym (sized-length n);
            }
        go (refused y) p q = cc

    module _ (l : ℕ) (st : State) (w : Left l st) where
      readable : ReadableRows d i.rows st.used
      readable =
          let bounds = walked-bounds d c (drop at s) w.tree l st w.result in
          subst (λ (u : ℕ). ReadableRows d i.rows u) (sym w.used)
          (subst (λ (x : List ℤ). ReadableRows d x (length (sized_of w.tree))) (sym w.rows)
          (readable-tree d w.tree (walked-shaped d (obeyed-in b a f) c (drop at s) w.tree l st w.result) (omega (arith, sized-length w.tree, bounds.few)) l bounds.near bounds.rows))

      settled : settled_from d (address + at) (address + at + l) i.rows 0 st.used
          ≡ where_inside (with_values d (address + at) (address + at + l) [] w.tree) (λ m. valued (written 0 (sized_of m) empty))
      settled =
          ap (settled_from d (address + at) (address + at + l) i.rows 0) w.used
          ∙ ap (λ (x : List ℤ). settled_from d (address + at) (address + at + l) x 0 (length (sized_of w.tree))) w.rows
          ∙ settled-tree d (obeyed-in b a f) (address + at) (address + at + l) w.tree (walked-built d c (drop at s) w.tree l st w.result) (walked-shaped d (obeyed-in b a f) c (drop at s) w.tree l st w.result)

      whole : result_at b a s at c address ≡ ended l st (with_values d (address + at) (address + at + l) [] w.tree)
      unfolding completed walked_at
      whole = completes ∙ ap (completed d (address + at)) w.result

      valued-here : valued_as (arrived st l) (settled_from d (address + at) (address + at + l) i.rows 0 st.used) ≡ instruction_as (result_at b a s at c address)
      valued-here = rw (settled, whole) (go (with_values d (address + at) (address + at + l) [] w.tree))
        where
          go : (v : Valued Node) → valued_as (arrived st l) (where_inside v (λ m. valued (written 0 (sized_of m) empty))) ≡ instruction_as (ended l st v)
          go (valued m) = refl
          go (outside p) = refl

      -- short enough for the address after it
      near : l ≤ longest
      near = (walked-bounds d c (drop at s) w.tree l st w.result).near

  -- a walk's answer and rows can have their values put in, and are the instruction then
  pub settleable : (w : Walked) (rows : List ℤ) → leaving w rows ≡ instruction_as (walked_at b a s at c) → Settleable (setting_in b a).description w rows
  settleable (Ok w) rows is =
      let x = left (leaving (Ok w) rows) is w.length w.state refl in
      (readable (leaving (Ok w) rows) is w.length w.state x, near (leaving (Ok w) rows) is w.length w.state x)
  settleable (Err x) rows is = tt

  pub settles-all : (w : Walked) (rows : List ℤ) → leaving w rows ≡ instruction_as (walked_at b a s at c)
      → settled_walk (setting_in b a).description (address + at) w rows ≡ instruction_as (result_at b a s at c address)
  settles-all (Ok w) rows is =
      valued-here (leaving (Ok w) rows) is w.length w.state (left (leaving (Ok w) rows) is w.length w.state refl)
  settles-all (Err x) rows is = stays-refused (leaving (Err x) rows) is x refl

-- .. put in by the code
pub settled-inside : (v : Valued (List ℤ)) (w : Walked) (r : std.Result (Unit {0}) Refusal) (new : List ℤ) → Settles v r new → r ≡ Ok tt → leaving w new ≡ valued_as w v
settled-inside (valued rows) w r new h e = ap (leaving w) h.1
settled-inside (outside p) w r new h e = cc

pub settled-outside : (v : Valued (List ℤ)) (w : Walked) (r : std.Result (Unit {0}) Refusal) (new : List ℤ) → Settles v r new → (x : Refusal) → r ≡ Err x
    → leaving (Err x) no_rows ≡ valued_as w v
settled-outside (valued rows) w r new h x e = cc h.0
settled-outside (outside q) w r new h x e = let z : ValueOutside q ≡ x = cc in rw (← z)

-- told the length of the code from the place on, the numbers are of the same description
module _ (b : List ℕ) (a : Prepared) (s : List ℕ) (at : ℕ) (f : Fixed b a) (a' : Prepared) (told : a' ≡ told_length a s at) where
  pub told_fixed : Fixed b a'
  told_fixed = rw told (fixed-for b a (length s - at) f)

  pub told_same : (setting_in b a').description ≡ (setting_in b a).description
  told_same = rw told (ap (λ (g : Setting). g.description) (setting-for b a (length s - at)))
