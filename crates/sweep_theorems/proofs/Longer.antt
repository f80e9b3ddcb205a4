-- A sweep over longer code begins with the same rows, but for a last gap that the end had cut.
use Prim.Native.Nat.{ℕ, zero, suc, ◌+◌, ◌-◌, ◌*◌, ◌/◌, ◌≤◌, ◌<◌}
use mathlib.Core.Bool.{Bool, true, false, cond}
use mathlib.Core.List.{List, [], ◌∷◌, ◌++◌, append_assoc, append-nil}
use mathlib.Core.Logic.{◌⊎◌, inl, inr}
use mathlib.Core.Path.{◌≡◌, refl, sym, ap, ◌∙◌}
use native.Mathlib.Omega.{arith}
use borrow.Author.Tests.{leb-false}
use lib.Dec.{leb}
use lib.IntN.{ℤ}
use lib.ListN.{length, take, drop, length-append}
use Rattle.std.proofs.Common.{Option, Some, None, Result, Ok, Err}
use lib.Seq.{take-append-le, take_at, take-nil}
use Rattle.alignment.specs.Alignment.{is_alignment, is_multiple, gap_length}
use Rattle.alignment.proofs.Laws.{alignment-some}
use Rattle.format.specs.Numbers.{sweep_numbers}
use Rattle.format.specs.Description.{Description, description}
use Rattle.format.specs.declared.Layout.{Layout}
use Rattle.format.proofs.Formation.{RulesHold, obeyed}
use Rattle.acceptance.specs.Acceptance.{acceptance_of, accepting}
use Rattle.acceptance.specs.declared.Rejection.{Rejection}
use Rattle.acceptance.proofs.Facts.{accepted-formed}
use Rattle.sweep.specs.Sweep.{SweepRow, Sweep, joined, end_at, row_at, row_of, row_then, step_at, sweep_by, sweep_from, numbers_of, sweep_in, answer_of, buffer_with, sweep_of, buffer_after, no_root}
use Rattle.sweep_theorems.specs.Facts.{Extends, all-rows, cut-gap}
use Rattle.sweep.specs.declared.End.{End}
use Rattle.sweep.specs.declared.End.TheVariants as end
use Rattle.sweep.specs.declared.Row.{Row}
use Rattle.sweep.specs.declared.Swept.{Swept}
use Rattle.sweep.specs.declared.SweepError.{SweepError}
use Rattle.sweep.specs.declared.SweepError.TheVariants.{Rejected, NoAlignment}
use Rattle.sweep.proofs.Places.{Fits, few-records, step_fits, Longer, same, cut, step-longer}
use Rattle.sweep.proofs.Turns.{numbers-length, used-up, no_room, goes_on}

-- where the end of s cut no gap, the longer sweep has all rows of the shorter
whole-rows : (d : Description) (c a u : ℕ) (s m : List ℕ) (room : ℕ) (w w' : Sweep) → Extends d c a u s m room w w'
    → ((w.why ≡ end.Used → ⊥) ⊎ (is_multiple u (a + length s) ≡ true))
    → w' ≡ joined w.rows (sweep_from d c a u (s ++ m) (room - length w.rows) w.next)
whole-rows d c a u s m room w w' (all-rows e) h = e
whole-rows d c a u s m room w w' (cut-gap rs at l x e f g y i) (inl h) = absurd (h (ap (λ (v : Sweep). v.why) e))
whole-rows d c a u s m room w w' (cut-gap rs at l x e f g y i) (inr h) = let z : ◌≡◌ {A = ℕ} 0 1 = cc in absurd (omega arith)

-- over the code s, and over s ++ m
module _ (d : Description) (o : RulesHold d) (few : length d.constructors ≤ no_root) (c a u : ℕ) (some : 0 < u) (s m : List ℕ) where
  abbrev Grows : ℕ → ℕ → Sweep → Type 0
  Grows room at w = Extends d c a u s m room w (sweep_from d c a u (s ++ m) room at)

  no_more : (room at : ℕ) (why : End) → Grows room at (end_at why at)
  no_more room at why = all-rows (let z : room - 0 ≡ room = omega arith in rw z)

  -- a row before both
  one_more : (room : ℕ) (r : SweepRow) (w w' : Sweep) → Extends d c a u s m room w w' → Extends d c a u s m (suc room) (joined (r ∷ []) w) (joined (r ∷ []) w')
  one_more room r w w' (all-rows e) =
      let z : suc room - suc (length w.rows) ≡ room - length w.rows = omega arith in
      all-rows (rw z (ap (joined (r ∷ [])) e))
  one_more room r w w' (cut-gap rs at l x e f g h i) =
      let z : suc room - (suc (length rs) + 1) ≡ room - (length rs + 1) = omega arith in
      cut-gap (r ∷ rs) at l x (ap (joined (r ∷ [])) e) f g h (rw z (ap (joined (r ∷ [])) i))

  extends : (room at : ℕ) → at ≤ length s → Grows room at (sweep_from d c a u s room at)
  unfolding sweep_by
  extends zero at h = go (leb (length s) at)
    where
      go : (b : Bool) → Grows zero at (cond b (end_at end.Used at) (end_at end.Full at))
      go true = no_more zero at end.Used
      go false = no_more zero at end.Full
  extends (suc room) at h = go (leb (length s) at) refl (λ next l. extends room next l)
    where
      longer : at < length s → at < length (s ++ m)
      longer l = omega (arith, length-append s m)

      row : at < length s → ((next : ℕ) → next ≤ length s → Grows room next (sweep_from d c a u s room next)) → (n x k : ℕ) → step_at d c a u s at ≡ row_of n x k
          → Grows (suc room) at (row_then at (row_of n x k) (sweep_from d c a u s room))
      row l rest n x k e = there (step-longer d o c a u some s at m l n x k e)
        where
          f : Fits s at n k
          f = step_fits d o c a u some s at few l n x k e

          y : suc room - 1 ≡ room
          y = omega arith

          there : Longer d o c a u some s at m n x k → Grows (suc room) at (row_then at (row_of n x k) (sweep_from d c a u s room))
          there (same g) =
              rw (goes_on d c a u (s ++ m) (suc room) at n x k (longer l) (omega arith) g, y)
              (one_more room (row_at at n x k) _ _ (rest (at + n) f.here))
          there (cut p apart root some-answer g) =
              cut-gap [] at n x
              (ap (joined (row_at at n x k ∷ [])) (used-up d c a u s room (at + n) (omega arith) ∙ ap (end_at end.Used) p) ∙ rw root)
              p apart some-answer
              (goes_on d c a u (s ++ m) (suc room) at _ x k (longer l) (omega arith) g ∙ rw root)

      here : at < length s → ((next : ℕ) → next ≤ length s → Grows room next (sweep_from d c a u s room next)) → (x : Option Row) → step_at d c a u s at ≡ x
          → Grows (suc room) at (row_then at x (sweep_from d c a u s room))
      here l rest (Some r) e = row l rest r.length r.answer r.constructor e
      here l rest None e = no_more (suc room) at end.Short

      go : (b : Bool) → leb (length s) at ≡ b → ((next : ℕ) → next ≤ length s → Grows room next (sweep_from d c a u s room next))
          → Grows (suc room) at (cond b (end_at end.Used at) (row_then at (step_at d c a u s at) (sweep_from d c a u s room)))
      go true e rest = no_more (suc room) at end.Used
      go false e rest = here (leb-false (length s) at e) rest (step_at d c a u s at) refl

  -- where a sweep is full, it has all the rows that there is room for, and code is left
  record AllRows (room : ℕ) (w : Sweep) : Type 0 where
    all : length w.rows ≡ room
    left : w.next < length s

  is-full : (room at : ℕ) → (sweep_from d c a u s room at).why ≡ end.Full → AllRows room (sweep_from d c a u s room at)
  unfolding sweep_by
  is-full zero at = go (leb (length s) at) refl
    where
      go : (b : Bool) → leb (length s) at ≡ b → (cond b (end_at end.Used at) (end_at end.Full at)).why ≡ end.Full
          → AllRows zero (cond b (end_at end.Used at) (end_at end.Full at))
      go true e q = let z : ◌≡◌ {A = ℕ} 0 1 = cc in absurd (omega arith)
      go false e q = record { all = refl; left = leb-false (length s) at e }
  is-full (suc room) at = go (leb (length s) at) (step_at d c a u s at) (λ next. is-full room next)
    where
      here : (x : Option Row) → ((next : ℕ) → (sweep_from d c a u s room next).why ≡ end.Full → AllRows room (sweep_from d c a u s room next))
          → (row_then at x (sweep_from d c a u s room)).why ≡ end.Full → AllRows (suc room) (row_then at x (sweep_from d c a u s room))
      here (Some x) rest q = let r = rest (at + x.length) q in record { all = ap suc r.all; left = r.left }
      here None rest q = let z : ◌≡◌ {A = ℕ} 0 1 = cc in absurd (omega arith)

      go : (b : Bool) (x : Option Row) → ((next : ℕ) → (sweep_from d c a u s room next).why ≡ end.Full → AllRows room (sweep_from d c a u s room next))
          → (cond b (end_at end.Used at) (row_then at x (sweep_from d c a u s room))).why ≡ end.Full
          → AllRows (suc room) (cond b (end_at end.Used at) (row_then at x (sweep_from d c a u s room)))
      go true x rest q = let z : ◌≡◌ {A = ℕ} 0 1 = cc in absurd (omega arith)
      go false x rest q = here x rest q

  -- then longer code gives the same sweep
  full-same : (room : ℕ) → (sweep_from d c a u s room 0).why ≡ end.Full → sweep_from d c a u (s ++ m) room 0 ≡ sweep_from d c a u s room 0
  full-same room q =
      let w = sweep_from d c a u s room 0 in
      let f = is-full room 0 q in
      let e = no_room d c a u (s ++ m) (room - length w.rows) w.next (omega (arith, f.left, length-append s m)) (omega (arith, f.all)) in
      whole-rows d c a u s m room w _ (extends room 0 (omega arith)) (inl (λ z. let y : ◌≡◌ {A = ℕ} 0 1 = cc in omega arith))
      ∙ ap (joined w.rows) e ∙ rw (append-nil w.rows, ← q)

-- the first k rows are the same
record Alike (k : ℕ) (w w' : Sweep) : Type 0 where
  few : k ≤ length w.rows
  few' : k ≤ length w'.rows
  rows : take k w'.rows ≡ take k w.rows

-- of what two sweeps over s and over s ++ m are to each other
module _ (d : Description) (c a u : ℕ) (s m : List ℕ) (room : ℕ) (w w' : Sweep) (x : Extends d c a u s m room w w') where
  all_alike : ((w.why ≡ end.Used → ⊥) ⊎ (is_multiple u (a + length s) ≡ true)) → Alike (length w.rows) w w'
  all_alike h =
      let rest = (sweep_from d c a u (s ++ m) (room - length w.rows) w.next).rows in
      let e : w'.rows ≡ w.rows ++ rest = ap (λ (v : Sweep). v.rows) (whole-rows d c a u s m room w w' x h) in
      record {
        few = omega arith;
        few' = rw e (omega (arith, length-append w.rows rest));
        rows = rw e (take-append-le (length w.rows) w.rows rest (omega arith));
      }

  earlier-alike : Alike (length w.rows - 1) w w'
  earlier-alike = go x
    where
      go : Extends d c a u s m room w w' → Alike (length w.rows - 1) w w'
      go (all-rows e) =
          let rest = (sweep_from d c a u (s ++ m) (room - length w.rows) w.next).rows in
          let p : w'.rows ≡ w.rows ++ rest = ap (λ (v : Sweep). v.rows) e in
          record {
            few = omega arith;
            few' = rw p (omega (arith, length-append w.rows rest));
            rows = rw p (take-append-le (length w.rows - 1) w.rows rest (omega arith));
          }
      go (cut-gap rs at l y e f g h i) =
          let long = gap_length u (a + at) (length (s ++ m) - at) in
          let g₁ : SweepRow = row_at at l y no_root in
          let g₂ : SweepRow = row_at at long y no_root in
          let rest = (sweep_from d c a u (s ++ m) (room - (length rs + 1)) (at + long)).rows in
          let p : w.rows ≡ rs ++ (g₁ ∷ []) = ap (λ (v : Sweep). v.rows) e ∙ append-nil (rs ++ (g₁ ∷ [])) in
          let q : w'.rows ≡ rs ++ (g₂ ∷ rest) = ap (λ (v : Sweep). v.rows) i ∙ append_assoc rs (g₂ ∷ []) rest in
          let n : length w.rows - 1 ≡ length rs = rw p (omega (arith, length-append rs (g₁ ∷ []))) in
          record {
            few = omega arith;
            few' = rw (n, q) (omega (arith, length-append rs (g₂ ∷ rest)));
            rows = rw (n, q, p) (take_at rs (g₂ ∷ rest) (length rs) refl ∙ sym (take_at rs (g₁ ∷ []) (length rs) refl));
          }

-- so are their numbers
numbers-take : (k : ℕ) (rs : List SweepRow) → take (sweep_numbers * k) (numbers_of rs) ≡ numbers_of (take k rs)
unfolding numbers_of
numbers-take zero rs = refl
numbers-take (suc k) [] = take-nil (sweep_numbers * suc k)
numbers-take (suc k) (r ∷ rs) =
    let z : sweep_numbers * suc k ≡ suc (suc (suc (suc (sweep_numbers * k)))) = omega arith in
    rw (z, numbers-take k rs)

same_numbers : (k : ℕ) (w w' : Sweep) (old : List ℤ) → Alike k w w' → take (sweep_numbers * k) (buffer_with w'.rows old) ≡ take (sweep_numbers * k) (buffer_with w.rows old)
same_numbers k w w' old h = first w'.rows h.few' ∙ ap numbers_of h.rows ∙ sym (first w.rows h.few)
  where
    first : (rs : List SweepRow) → k ≤ length rs → take (sweep_numbers * k) (buffer_with rs old) ≡ numbers_of (take k rs)
    first rs l =
        take-append-le (sweep_numbers * k) (numbers_of rs) (drop (sweep_numbers * length rs) old) (omega (arith, numbers-length rs)) ∙ numbers-take k rs

-- of any bytes that are a well-formed description, with the same numbers lent: what a sweep over s gives, and what the sweep over s ++ m
pub sweep-extends : (b : List ℕ) (l : Layout) → acceptance_of b ≡ Ok l → (c a u : ℕ) → is_alignment u ≡ true → (s m : List ℕ) (numbers : ℕ)
    → Extends (description b l) c a u s m (numbers / sweep_numbers) (sweep_in (description b l) c a u s numbers) (sweep_in (description b l) c a u (s ++ m) numbers)
unfolding sweep_in
sweep-extends b l e c a u h s m numbers =
    let f = accepted-formed b l e in
    extends (description b l) (obeyed b l f) (few-records b l f) c a u (alignment-some u h) s m (numbers / sweep_numbers) 0 (omega arith)

sweep-full : (b : List ℕ) (l : Layout) → acceptance_of b ≡ Ok l → (c a u : ℕ) → is_alignment u ≡ true → (s m : List ℕ) (numbers : ℕ)
    → (sweep_in (description b l) c a u s numbers).why ≡ end.Full → sweep_in (description b l) c a u (s ++ m) numbers ≡ sweep_in (description b l) c a u s numbers
unfolding sweep_in
sweep-full b l e c a u h s m numbers q =
    let f = accepted-formed b l e in
    full-same (description b l) (obeyed b l f) (few-records b l f) c a u (alignment-some u h) s m (numbers / sweep_numbers) q

-- at the entry point: bytes b as the description, the code s and s ++ m, and a sweep over s that ended so
module _ (b : List ℕ) (c a u : ℕ) (s m : List ℕ) (old : List ℤ) (why : End) (n next : ℕ) where
  abbrev answer : List ℕ → Bool → Result Layout Rejection → Result Swept SweepError
  answer t h x = accepting (λ x. Err (Rejected x)) (λ d. cond h (Ok (answer_of (sweep_in d c a u t (length old)))) (Err (NoAlignment u))) b x

  abbrev buffer : List ℕ → Bool → Result Layout Rejection → List ℤ
  buffer t h x = accepting (λ x. old) (λ d. cond h (buffer_with (sweep_in d c a u t (length old)).rows old) old) b x

  begin : (k : ℕ) → ((w w' : Sweep) → answer_of w ≡ record { why = why; rows = n; next = next } → ((d : Description) → Extends d c a u s m (length old / sweep_numbers) w w' → Alike k w w'))
      → (h : Bool) → is_alignment u ≡ h → (x : Result Layout Rejection) → acceptance_of b ≡ x → answer s h x ≡ Ok (record { why = why; rows = n; next = next })
      → take (sweep_numbers * k) (buffer (s ++ m) h x) ≡ take (sweep_numbers * k) (buffer s h x)
  begin k alike true h (Ok l) e q =
      let p : ◌≡◌ {A = Swept} (answer_of (sweep_in (description b l) c a u s (length old))) (record { why = why; rows = n; next = next }) = cc in
      same_numbers k _ _ old (alike _ _ p (description b l) (sweep-extends b l e c a u h s m (length old)))
  begin k alike false h (Ok l) e q = refl
  begin k alike h f (Err x) e q = refl

  -- the numbers of its rows are the same whatever code follows, unless the code was used up and its end is no multiple ..
  pub rows_stay : sweep_of b c a u s (length old) ≡ Ok (record { why = why; rows = n; next = next }) → ((why ≡ end.Used → ⊥) ⊎ (is_multiple u (a + length s) ≡ true))
      → take (sweep_numbers * n) (buffer_after b c a u (s ++ m) old) ≡ take (sweep_numbers * n) (buffer_after b c a u s old)
  unfolding sweep_of buffer_after
  rows_stay q h = begin n alike (is_alignment u) refl (acceptance_of b) refl q
    where
      alike : (w w' : Sweep) → answer_of w ≡ record { why = why; rows = n; next = next } → (d : Description) → Extends d c a u s m (length old / sweep_numbers) w w' → Alike n w w'
      alike w w' q d x =
          let count : length w.rows ≡ n = ap (λ (r : Swept). r.rows) q in
          let end_is : w.why ≡ why = ap (λ (r : Swept). r.why) q in
          rw count at (all_alike d c a u s m (length old / sweep_numbers) w w' x (rw end_is h))

  -- .. and those of all but the last are in every case
  pub earlier-stay : sweep_of b c a u s (length old) ≡ Ok (record { why = why; rows = n; next = next })
      → take (sweep_numbers * (n - 1)) (buffer_after b c a u (s ++ m) old) ≡ take (sweep_numbers * (n - 1)) (buffer_after b c a u s old)
  unfolding sweep_of buffer_after
  earlier-stay q = begin (n - 1) alike (is_alignment u) refl (acceptance_of b) refl q
    where
      alike : (w w' : Sweep) → answer_of w ≡ record { why = why; rows = n; next = next } → (d : Description) → Extends d c a u s m (length old / sweep_numbers) w w' → Alike (n - 1) w w'
      alike w w' q d x =
          let count : length w.rows ≡ n = ap (λ (r : Swept). r.rows) q in
          rw count at (earlier-alike d c a u s m (length old / sweep_numbers) w w' x)

-- and where it ended "full", its answer and all lent numbers are
module _ (b : List ℕ) (c a u : ℕ) (s m : List ℕ) (old : List ℤ) (n next : ℕ) where
  stay : (h : Bool) → is_alignment u ≡ h → (x : Result Layout Rejection) → acceptance_of b ≡ x → answer b c a u s m old end.Full n next s h x ≡ Ok (record { why = end.Full; rows = n; next = next })
      → (answer b c a u s m old end.Full n next (s ++ m) h x ≡ answer b c a u s m old end.Full n next s h x)
      × (buffer b c a u s m old end.Full n next (s ++ m) h x ≡ buffer b c a u s m old end.Full n next s h x)
  stay true h (Ok l) e q =
      let p : ◌≡◌ {A = Swept} (answer_of (sweep_in (description b l) c a u s (length old))) (record { why = end.Full; rows = n; next = next }) = cc in
      let why : (sweep_in (description b l) c a u s (length old)).why ≡ end.Full = ap (λ (r : Swept). r.why) p in
      let same = sweep-full b l e c a u h s m (length old) why in
      (ap (λ (w : Sweep). Ok (answer_of w)) same, ap (λ (w : Sweep). buffer_with w.rows old) same)
  stay false h (Ok l) e q = (refl, refl)
  stay h f (Err x) e q = (refl, refl)

  pub full-stays : sweep_of b c a u s (length old) ≡ Ok (record { why = end.Full; rows = n; next = next })
      → (sweep_of b c a u (s ++ m) (length old) ≡ sweep_of b c a u s (length old)) × (buffer_after b c a u (s ++ m) old ≡ buffer_after b c a u s old)
  unfolding sweep_of buffer_after
  full-stays q = stay (is_alignment u) refl (acceptance_of b) refl q
