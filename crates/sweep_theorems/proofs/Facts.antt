-- What is a gap. A sweep's rows tile the code, its instructions start at multiples, and with more numbers lent it begins with the same rows.
use Prim.Native.Nat.{ℕ, zero, suc, ◌+◌, ◌-◌, ◌/◌, ◌≤◌, ◌<◌}
use mathlib.Core.Bool.{Bool, true, false, cond}
use mathlib.Core.List.Memᴰ
use mathlib.Core.List.{List, [], ◌∷◌, Memᴰ}
use mathlib.Core.Logic.{◌⊎◌, inl, inr}
use mathlib.Core.Path.{◌≡◌, refl, ap}
use native.Mathlib.Omega.{arith}
use borrow.Author.Tests.{leb-false, ne_eqb}
use lib.Dec.{leb}
use lib.ListN.{length, take, drop}
use Rattle.std.proofs.Common.{Option, Some, None, Ok}
use Rattle.alignment.specs.Alignment.{is_alignment, is_multiple, gap_length, no_multiple}
use Rattle.alignment.proofs.Laws.{alignment-some}
use Rattle.format.specs.Numbers.{sweep_numbers}
use Rattle.format.specs.Description.{Description, description}
use Rattle.format.specs.declared.Layout.{Layout}
use Rattle.format.proofs.Formation.{RulesHold, obeyed}
use Rattle.acceptance.specs.Acceptance.{acceptance_of}
use Rattle.acceptance.proofs.Facts.{accepted-formed}
use Rattle.decoding_spec.specs.Walk.{refused}
use Rattle.decoding_spec.specs.Instruction.{instruction_of}
use Rattle.decoding_spec.specs.declared.Refusal.TheVariants.{ValueOutside}
use Rattle.sweep.specs.Sweep.{SweepRow, end_at, row_at, row_of, row_then, step_at, sweep_by, sweep_from, sweep_in, no_root}
use Rattle.sweep_theorems.specs.Facts.{Tiles, Tiled, RowAligned}
use Rattle.sweep.specs.declared.End.TheVariants as end
use Rattle.sweep.specs.declared.Row.{Row}
use Rattle.sweep.proofs.Places.{few-records, step_fits, Stands, stands, decoded, gap_here, between, stand-between, refusal-numbers}

-- 13: "in a sweep it makes a gap"
pub outside-gap : (d : Description) (c a u : ℕ) (s : List ℕ) (at p : ℕ) → is_multiple u (a + at) ≡ true → instruction_of d c (a + at) (drop at s) ≡ refused (ValueOutside p)
    → step_at d c a u s at ≡ row_of (gap_length u (a + at) (length s - at)) 13 65535
unfolding step_at
outside-gap d c a u s at p h e = rw (h, e)

-- "A place that is no multiple is a gap with answer 14, tested before decoding.", so it is never short
pub between-gap : (d : Description) (c a u : ℕ) (s : List ℕ) (at : ℕ) → is_multiple u (a + at) ≡ false
    → step_at d c a u s at ≡ row_of (gap_length u (a + at) (length s - at)) 14 65535
unfolding step_at
between-gap d c a u s at h = stand-between u (a + at) (length s - at) (instruction_of d c (a + at) (drop at s)) h

module _ (d : Description) (o : RulesHold d) (few : length d.constructors ≤ no_root) (c a u : ℕ) (some : 0 < u) (s : List ℕ) where
  tile : (room at : ℕ) → at ≤ length s → Tiled d c a u s at (sweep_from d c a u s room at)
  unfolding sweep_by
  tile zero at h = go (leb (length s) at)
    where
      go : (b : Bool) → Tiled d c a u s at (cond b (end_at end.Used at) (end_at end.Full at))
      go true = record { tiles = refl; inside = h }
      go false = record { tiles = refl; inside = h }
  tile (suc room) at h = go (leb (length s) at) refl (λ next l. tile room next l)
    where
      here : at < length s → ((next : ℕ) → next ≤ length s → Tiled d c a u s next (sweep_from d c a u s room next)) → (x : Option Row) → step_at d c a u s at ≡ x
          → Tiled d c a u s at (row_then at x (sweep_from d c a u s room))
      here l rest (Some x) e =
          let f = step_fits d o c a u some s at few l x.length x.answer x.constructor e in
          let r = rest (at + x.length) f.here in
          record { tiles = (refl, f.some, e, r.tiles); inside = r.inside }
      here l rest None e = record { tiles = refl; inside = h }

      go : (b : Bool) → leb (length s) at ≡ b → ((next : ℕ) → next ≤ length s → Tiled d c a u s next (sweep_from d c a u s room next))
          → Tiled d c a u s at (cond b (end_at end.Used at) (row_then at (step_at d c a u s at) (sweep_from d c a u s room)))
      go true e rest = record { tiles = refl; inside = h }
      go false e rest = here (leb-false (length s) at e) rest (step_at d c a u s at) refl

  -- "from byte 0"
  tile-all : (numbers : ℕ) → Tiled d c a u s 0 (sweep_in d c a u s numbers)
  unfolding sweep_in
  tile-all numbers = tile (numbers / sweep_numbers) 0 (omega arith)

-- of any bytes that are a well-formed description: the rows tile the code up to the next byte, which lies in the code or at its end
pub sweep-tiles : (b : List ℕ) (l : Layout) → acceptance_of b ≡ Ok l → (c a u : ℕ) → is_alignment u ≡ true → (s : List ℕ) (numbers : ℕ)
    → Tiled (description b l) c a u s 0 (sweep_in (description b l) c a u s numbers)
sweep-tiles b l e c a u h s numbers =
    let f = accepted-formed b l e in
    tile-all (description b l) (obeyed b l f) (few-records b l f) c a u (alignment-some u h) s numbers

-- an instruction starts at a multiple, and what starts elsewhere has answer 14
step-aligned : (d : Description) (c a u : ℕ) (s : List ℕ) (r : SweepRow) → step_at d c a u s r.start ≡ row_of r.length r.answer r.constructor → RowAligned a u r
unfolding step_at
step-aligned d c a u s r e = go (stands u (a + r.start) (length s - r.start) (instruction_of d c (a + r.start) (drop r.start s)) _ _ _ e)
  where
    go : Stands u (a + r.start) (length s - r.start) (instruction_of d c (a + r.start) (drop r.start s)) r.length r.answer r.constructor → RowAligned a u r
    go (decoded t st p h x k) = record { done = λ z. h; between = rw (x, h) }
    go (gap_here y p f h x l k) = record { done = λ z. h; between = rw h (ne_eqb r.answer no_multiple (λ z. omega (arith, (refusal-numbers y).1))) }
    go (between h x l k) = record { done = λ z. absurd (omega arith); between = rw (x, h) }

-- so of every row that tiles the code
tiles-aligned : (d : Description) (c a u : ℕ) (s : List ℕ) (at : ℕ) (rs : List SweepRow) (next : ℕ) → Tiles d c a u s at rs next
    → (r : SweepRow) → Memᴰ r rs → RowAligned a u r
tiles-aligned d c a u s at [] next t r i = absurd (Memᴰ.not-nil i)
tiles-aligned d c a u s at (q ∷ rs) next t r i = go (Memᴰ.cases_cons i) (λ j. tiles-aligned d c a u s (at + q.length) rs next t.3 r j)
  where
    go : (r ≡ q) ⊎ Memᴰ r rs → (Memᴰ r rs → RowAligned a u r) → RowAligned a u r
    go (inl e) rest = rw e (step-aligned d c a u s q (rw t.0 t.2))
    go (inr j) rest = rest j

pub rows-aligned : (b : List ℕ) (l : Layout) → acceptance_of b ≡ Ok l → (c a u : ℕ) → is_alignment u ≡ true → (s : List ℕ) (numbers : ℕ) (r : SweepRow)
    → Memᴰ r (sweep_in (description b l) c a u s numbers).rows → RowAligned a u r
rows-aligned b l e c a u h s numbers r i = tiles-aligned (description b l) c a u s 0 _ _ (sweep-tiles b l e c a u h s numbers).tiles r i

module _ (d : Description) (c a u : ℕ) (s : List ℕ) where
  begins : (m n at : ℕ) → m ≤ n → (sweep_from d c a u s m at).rows ≡ take m (sweep_from d c a u s n at).rows
  unfolding sweep_by
  begins zero n at h = go (leb (length s) at)
    where
      go : (b : Bool) → (cond b (end_at end.Used at) (end_at end.Full at)).rows ≡ []
      go true = refl
      go false = refl
  begins (suc m) zero at h = absurd (omega arith)
  begins (suc m) (suc n) at h = go (leb (length s) at) (step_at d c a u s at) (λ next. begins m n next (omega arith))
    where
      here : (x : Option Row) → ((next : ℕ) → (sweep_from d c a u s m next).rows ≡ take m (sweep_from d c a u s n next).rows)
          → (row_then at x (sweep_from d c a u s m)).rows ≡ take (suc m) (row_then at x (sweep_from d c a u s n)).rows
      here (Some r) rest =
          ap (λ (rs : List SweepRow). row_at at r.length r.answer r.constructor ∷ rs) (rest (at + r.length))
      here None rest = refl

      go : (b : Bool) (x : Option Row) → ((next : ℕ) → (sweep_from d c a u s m next).rows ≡ take m (sweep_from d c a u s n next).rows)
          → (cond b (end_at end.Used at) (row_then at x (sweep_from d c a u s m))).rows
          ≡ take (suc m) (cond b (end_at end.Used at) (row_then at x (sweep_from d c a u s n))).rows
      go true x rest = refl
      go false x rest = here x rest

  -- with more numbers lent the sweep begins with the same rows
  pub sweep-begins : (less more : ℕ) → less / sweep_numbers ≤ more / sweep_numbers
      → (sweep_in d c a u s less).rows ≡ take (less / sweep_numbers) (sweep_in d c a u s more).rows
  unfolding sweep_in
  sweep-begins less more h = begins (less / sweep_numbers) (more / sweep_numbers) 0 h
