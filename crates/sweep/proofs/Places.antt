-- One place of a sweep: what its decoding says of the row.
use Prim.Native.Nat.{ℕ, ◌+◌, ◌-◌, ◌≤◌, ◌<◌}
use mathlib.Core.Bool.{Bool, true, false, cond}
use mathlib.Core.List.{List, ◌++◌}
use mathlib.Core.Logic.{◌⊎◌, inl, inr}
use mathlib.Core.Path.{◌≡◌, refl, sym, ap, ◌∙◌}
use native.Mathlib.Omega.{arith}
use lib.ListN.{length, drop, length-append, length-drop}
use lib.Seq.{drop-append-le}
use Rattle.std.proofs.Common.{None, Result, Ok, Err}
use Rattle.alignment.specs.Alignment.{is_multiple, gap_length, no_multiple}
use Rattle.alignment.proofs.Laws.{gap-some, gap-inside, gap-longer}
use Rattle.format.specs.Check.{WellFormed}
use Rattle.format.specs.Description.{Description, description}
use Rattle.format.specs.declared.Layout.{Layout}
use Rattle.format.proofs.Formation.{RulesHold}
use Rattle.format.proofs.Lists.{constructors-length}
use Rattle.decoding_spec.specs.Tree.{Node, built, numbered, named, computed}
use Rattle.decoding_spec.specs.Walk.{Result as WalkResult, done, refused}
use Rattle.decoding_spec.specs.Instruction.{instruction_of}
use Rattle.decoding_spec.specs.Refusals.{refusal_number, is_short}
use Rattle.decoding_spec.specs.declared.State.{State}
use Rattle.decoding_spec.specs.declared.Refusal.{Refusal}
use Rattle.decoding_spec.specs.declared.Refusal.TheVariants.{Short, NoMatch, Ambiguous, Hole, TooFar, TooManyRows, RootLengthZero, ValueOutside}
use Rattle.decoding_theorems.specs.Facts.{Shaped}
use Rattle.decoding_theorems.specs.Relation.{TableWalk, taken}
use Rattle.decoding_theorems.proofs.InBounds.{in_bounds}
use Rattle.decoding_theorems.proofs.Instructions.{relation, stays}
use Rattle.decoding_theorems.proofs.Shapes.{shaped}
use Rattle.setting.specs.Fixed.{setting_in}
use Rattle.setting.specs.declared.Prepared.{Prepared}
use Rattle.walk_steps.specs.Steps.{answer_of}
use Rattle.instructions.specs.Instructions.{result_at, stepped_as}
use Rattle.instructions.specs.declared.Stepped.{Stepped}
use Rattle.sweep.specs.Sweep.{root_number, no_root, row_of, gap, step_by, aligned_step, step_at}
use Rattle.sweep.specs.declared.Row.{Row}

-- the constructor closed last is the root's
walk-taken : {d : Description} {s : List ℕ} {t at : ℕ} {st : State} {n : Node} {l : ℕ} {st' : State} → TableWalk d s t at st n l st'
    → st'.taken ≡ root_number n
walk-taken (taken c f) = ap (λ (st : State). st.taken) c.state

pub root-taken : (d : Description) (c a : ℕ) (s : List ℕ) (n : Node) (l : ℕ) (st : State) → instruction_of d c a s ≡ done n l st
    → st.taken ≡ root_number n
root-taken d c a s n l st e = walk-taken (relation d c a s n l st e).root

-- a place's step, from the instruction there; a gap would be so long
module _ (b : List ℕ) (a : Prepared) (s : List ℕ) (at c address long : ℕ) (w : Result Stepped Refusal) (is : w ≡ stepped_as (answer_of (result_at b a s at c address))) where
  pub gap_step : (r : Refusal) → w ≡ Err r → gap long r ≡ step_by long (result_at b a s at c address)
  gap_step r e = go (result_at b a s at c address) (sym is ∙ e)
    where
      go : (x : WalkResult Node) → stepped_as (answer_of x) ≡ Err r → gap long r ≡ step_by long x
      go (done n l st) q = cc
      go (refused r') q = let z : r ≡ r' = cc in ap (gap long) z

  pub row_step : (x : Stepped) → w ≡ Ok x → row_of x.length 0 x.constructor ≡ step_by long (result_at b a s at c address)
  unfolding result_at
  row_step x e = go (result_at b a s at c address) refl (sym is ∙ e)
    where
      go : (r : WalkResult Node) → instruction_of (setting_in b a).description c (address + at) (drop at s) ≡ r → stepped_as (answer_of r) ≡ Ok x
          → row_of x.length 0 x.constructor ≡ step_by long r
      go (done n m st) p q =
          let y : ◌≡◌ {A = Stepped} (record { length = m; constructor = st.taken }) x = cc in
          ap (λ (x : Stepped). row_of x.length 0 x.constructor) (sym y) ∙ ap (row_of m 0) (root-taken _ c (address + at) (drop at s) n m st p)
      go (refused r) p q = cc

-- a row is at least a byte long and ends in the code, and its constructor is a record's number or 65,535
pub record Fits (s : List ℕ) (at l k : ℕ) : Type 0 where
  pub some : 1 ≤ l
  pub here : at + l ≤ length s
  pub small : k ≤ no_root

pub few-records : (b : List ℕ) (l : Layout) → WellFormed b l → length (description b l).constructors ≤ no_root
few-records b l f = rw constructors-length (omega (arith, f.room.few))

root-small : (d : Description) (n : Node) → length d.constructors ≤ no_root → Shaped d n → root_number n ≤ no_root
root-small d (built k s l f) h g = omega (arith, g.0)
root-small d (numbered i s v) h g = omega arith
root-small d (named i s n) h g = omega arith
root-small d (computed i s v) h g = omega arith

-- what a row stands for: an instruction at a multiple, a refused one, or a place between two multiples
pub data Stands (n here left : ℕ) (r : WalkResult Node) (l x k : ℕ) : Type 0 where
  decoded : (t : Node) (st : State) → r ≡ done t l st → is_multiple n here ≡ true → x ≡ 0 → k ≡ root_number t → Stands n here left r l x k
  gap_here : (y : Refusal) → r ≡ refused y → is_short y ≡ false → is_multiple n here ≡ true → x ≡ refusal_number y → l ≡ gap_length n here left → k ≡ no_root → Stands n here left r l x k
  between : is_multiple n here ≡ false → x ≡ no_multiple → l ≡ gap_length n here left → k ≡ no_root → Stands n here left r l x k

-- a row is its numbers
record SameRow (l x k l' x' k' : ℕ) : Type 0 where
  size : l ≡ l'
  answer : x ≡ x'
  root : k ≡ k'

same-row : (l x k l' x' k' : ℕ) → row_of l x k ≡ row_of l' x' k' → SameRow l x k l' x' k'
same-row l x k l' x' k' e =
    let f : ◌≡◌ {A = Row} (record { length = l; answer = x; constructor = k }) (record { length = l'; answer = x'; constructor = k' }) = cc in
    record { size = ap (λ (r : Row). r.length) f; answer = ap (λ (r : Row). r.answer) f; root = ap (λ (r : Row). r.constructor) f }

pub stands : (n here left : ℕ) (r : WalkResult Node) (l x k : ℕ) → aligned_step n here left r ≡ row_of l x k → Stands n here left r l x k
stands n here left r l x k e = aligned (is_multiple n here) refl e
  where
    refusal : (y : Refusal) → r ≡ refused y → is_multiple n here ≡ true → (short : Bool) → is_short y ≡ short
        → cond short None (row_of (gap_length n here left) (refusal_number y) no_root) ≡ row_of l x k → Stands n here left r l x k
    refusal y p m true f q = let z : ◌≡◌ {A = ℕ} 0 1 = cc in absurd (omega arith)
    refusal y p m false f q = let r = same-row _ _ _ l x k q in gap_here y p f m (sym r.answer) (sym r.size) (sym r.root)

    result : (v : WalkResult Node) → r ≡ v → is_multiple n here ≡ true → step_by (gap_length n here left) v ≡ row_of l x k → Stands n here left r l x k
    result (done t l' st) p m q =
        let r = same-row _ _ _ l x k q in
        decoded t st (rw r.size at p) m (sym r.answer) (sym r.root)
    result (refused y) p m q = refusal y p m (is_short y) refl q

    aligned : (b : Bool) → is_multiple n here ≡ b
        → cond b (step_by (gap_length n here left) r) (row_of (gap_length n here left) no_multiple no_root) ≡ row_of l x k → Stands n here left r l x k
    aligned true m q = result r refl m q
    aligned false m q = let r = same-row _ _ _ l x k q in between m (sym r.answer) (sym r.size) (sym r.root)

-- no refusal has the number of an instruction, or of a place between two multiples
pub refusal-numbers : (y : Refusal) → (1 < refusal_number y) × (refusal_number y < no_multiple)
refusal-numbers (Short p) = (omega arith, omega arith)
refusal-numbers (NoMatch p t) = (omega arith, omega arith)
refusal-numbers (Ambiguous p t) = (omega arith, omega arith)
refusal-numbers (Hole p) = (omega arith, omega arith)
refusal-numbers (TooFar p) = (omega arith, omega arith)
refusal-numbers TooManyRows = (omega arith, omega arith)
refusal-numbers RootLengthZero = (omega arith, omega arith)
refusal-numbers (ValueOutside p) = (omega arith, omega arith)

-- the step of what stands there, with so many bytes left
stand-decoded : (n here left : ℕ) (t : Node) (l : ℕ) (st : State) → is_multiple n here ≡ true → aligned_step n here left (done t l st) ≡ row_of l 0 (root_number t)
stand-decoded n here left t l st m = rw m

stand-gap : (n here left : ℕ) (y : Refusal) → is_short y ≡ false → is_multiple n here ≡ true
    → aligned_step n here left (refused y) ≡ row_of (gap_length n here left) (refusal_number y) no_root
stand-gap n here left y f m = rw (m, f)

pub stand-between : (n here left : ℕ) (r : WalkResult Node) → is_multiple n here ≡ false → aligned_step n here left r ≡ row_of (gap_length n here left) no_multiple no_root
stand-between n here left r m = rw m

module _ (d : Description) (o : RulesHold d) (c a n : ℕ) (some : 0 < n) (s : List ℕ) (at : ℕ) where
  -- the instruction at the place, and how many bytes are left
  abbrev result : WalkResult Node
  result = instruction_of d c (a + at) (drop at s)

  abbrev left : ℕ
  left = length s - at

  pub step_fits : length d.constructors ≤ no_root → at < length s → (l x k : ℕ) → step_at d c a n s at ≡ row_of l x k → Fits s at l k
  unfolding step_at
  step_fits few h l x k e = go (stands n (a + at) left result l x k e)
    where
      gap : l ≡ gap_length n (a + at) left → k ≡ no_root → Fits s at l k
      gap p q =
          record {
            some = rw p (gap-some n (a + at) left some (omega arith));
            here = omega (arith, gap-inside n (a + at) left);
            small = omega arith;
          }

      go : Stands n (a + at) left result l x k → Fits s at l k
      go (decoded t st p m y z) =
          let f = in_bounds d c (a + at) (drop at s) t l st p in
          record {
            some = omega (arith, f.some);
            here = omega (arith, f.here, length-drop at s);
            small = omega (arith, root-small d t few (shaped d o c (a + at) (drop at s) t l st p));
          }
      go (gap_here y p f m x' size root) = gap size root
      go (between m x' size root) = gap size root

  -- a place that has a row has the same one where the code m follows, unless it is a gap that the end had cut: then that end is no multiple,
  -- and the gap reaches farther
  pub data Longer (m : List ℕ) (l x k : ℕ) : Type 0 where
    same : step_at d c a n (s ++ m) at ≡ row_of l x k → Longer m l x k
    cut : at + l ≡ length s → is_multiple n (a + length s) ≡ false → k ≡ no_root → (x ≡ 0 → ⊥)
        → step_at d c a n (s ++ m) at ≡ row_of (gap_length n (a + at) (length (s ++ m) - at)) x k → Longer m l x k

  module _ (m : List ℕ) (h : at < length s) where
    -- what is not short stays the same
    result-stays : ((p : ℕ) → result ≡ refused (Short p) → ⊥) → instruction_of d c (a + at) (drop at (s ++ m)) ≡ result
    result-stays f =
        ap (instruction_of d c (a + at)) (drop-append-le at s m (omega arith)) ∙ stays d o c (a + at) (drop at s) m f

    -- a gap, whatever it is for
    gap-stays : (l x k : ℕ) → l ≡ gap_length n (a + at) left → k ≡ no_root → (x ≡ 0 → ⊥) → step_at d c a n (s ++ m) at ≡ row_of (gap_length n (a + at) (length (s ++ m) - at)) x k
        → Longer m l x k
    gap-stays l x k size root some-answer e = go (gap-longer n (a + at) left (length m) some (omega arith))
      where
        longer : length (s ++ m) - at ≡ left + length m
        longer = omega (arith, length-append s m)

        go : (gap_length n (a + at) (left + length m) ≡ gap_length n (a + at) left) ⊎ ((gap_length n (a + at) left ≡ left) × (is_multiple n (a + at + left) ≡ false))
            → Longer m l x k
        go (inl q) = same (e ∙ ap (λ (g : ℕ). row_of g x k) (ap (gap_length n (a + at)) longer ∙ q ∙ sym size))
        go (inr q) =
            let end : a + at + left ≡ a + length s = omega arith in
            cut (omega (arith, q.0)) (rw end at q.1) root some-answer e

    pub step-longer : (l x k : ℕ) → step_at d c a n s at ≡ row_of l x k → Longer m l x k
    unfolding step_at
    step-longer l x k e = go (stands n (a + at) left result l x k e)
      where
        more : ℕ
        more = length (s ++ m) - at

        go : Stands n (a + at) left result l x k → Longer m l x k
        go (decoded t st p f y z) =
            let r = result-stays (λ q u. let v : ◌≡◌ {A = ℕ} 0 1 = cc in omega arith) ∙ p in
            same (ap (aligned_step n (a + at) more) r ∙ stand-decoded n (a + at) more t l st f ∙ cc)
        go (gap_here y p f g x' size root) =
            let r = result-stays (λ q u. let v : y ≡ Short q = cc in let w : true ≡ false = sym (ap is_short v) ∙ f in let z : ◌≡◌ {A = ℕ} 0 1 = cc in omega arith) ∙ p in
            gap-stays l x k size root (λ z. omega (arith, (refusal-numbers y).0)) (ap (aligned_step n (a + at) more) r ∙ stand-gap n (a + at) more y f g ∙ cc)
        go (between f x' size root) =
            gap-stays l x k size root (λ z. omega arith) (stand-between n (a + at) more (instruction_of d c (a + at) (drop at (s ++ m))) f ∙ cc)
