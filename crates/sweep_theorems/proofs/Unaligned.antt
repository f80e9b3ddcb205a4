-- "With alignment 1 every case of 01 stands.": every row, end and buffer is that of the sweep without an alignment.
use Prim.Native.Nat.{ℕ, zero, suc, ◌+◌, ◌-◌, ◌/◌, ◌<◌}
use mathlib.Core.Bool.{Bool, true, false, cond}
use mathlib.Core.List.{List, [], ◌∷◌}
use mathlib.Core.Path.{◌≡◌, refl, ap, fun_ext}
use native.Mathlib.Omega.{arith}
use borrow.Author.Tests.{leb-false}
use lib.Dec.{leb}
use lib.IntN.{ℤ}
use lib.ListN.{length}
use Rattle.std.proofs.Common.{Option, Some, None, Ok, Err}
use Rattle.alignment.proofs.Laws.{one-multiple, one-gap}
use Rattle.format.specs.Numbers.{sweep_numbers}
use Rattle.format.specs.Description.{Description}
use Rattle.acceptance.specs.Acceptance.{acceptance_of, accepting}
use Rattle.sweep.specs.Sweep.{Sweep, joined, end_at, row_at, row_then, step_at, sweep_by, sweep_in, answer_of, buffer_with, sweep_of, buffer_after}
use Rattle.sweep_theorems.specs.Unaligned.{unaligned_step, unaligned_sweep}
use Rattle.sweep.specs.declared.End.TheVariants as end
use Rattle.sweep.specs.declared.Row.{Row}
use Rattle.sweep.specs.declared.SweepError.TheVariants.{Rejected}

-- a sweep goes by the steps at places before the code's end alone
pub same-steps : (f g : ℕ → Option Row) (size : ℕ) → ((at : ℕ) → at < size → f at ≡ g at) → (room at : ℕ) → sweep_by f size room at ≡ sweep_by g size room at
unfolding sweep_by
same-steps f g size e zero at = refl
same-steps f g size e (suc room) at = go (leb size at) refl (λ next. same-steps f g size e room next)
  where
    here : (x : Option Row) → ((next : ℕ) → sweep_by f size room next ≡ sweep_by g size room next) → row_then at x (sweep_by f size room) ≡ row_then at x (sweep_by g size room)
    here (Some r) rest = ap (joined (row_at at r.length r.answer r.constructor ∷ [])) (rest (at + r.length))
    here None rest = refl

    go : (b : Bool) → leb size at ≡ b → ((next : ℕ) → sweep_by f size room next ≡ sweep_by g size room next)
        → cond b (end_at end.Used at) (row_then at (f at) (sweep_by f size room)) ≡ cond b (end_at end.Used at) (row_then at (g at) (sweep_by g size room))
    go true p rest = refl
    go false p rest = rw (e at (leb-false size at p)) (here (g at) rest)

module _ (d : Description) (c a : ℕ) (s : List ℕ) where
  pub unaligned-step : (at : ℕ) → at < length s → step_at d c a 1 s at ≡ unaligned_step d c a s at
  unfolding step_at unaligned_step
  unaligned-step at h = rw (one-multiple (a + at), one-gap (a + at) (length s - at) (omega arith))

  pub sweep-unaligned : (numbers : ℕ) → sweep_in d c a 1 s numbers ≡ unaligned_sweep d c a s numbers
  unfolding sweep_in unaligned_sweep
  sweep-unaligned numbers = same-steps (step_at d c a 1 s) (unaligned_step d c a s) (length s) unaligned-step (numbers / sweep_numbers) 0

-- of any bytes as the description and as the code: the answer and the lent numbers afterwards
pub answer-unaligned : (b : List ℕ) (c a : ℕ) (s : List ℕ) (numbers : ℕ)
    → sweep_of b c a 1 s numbers ≡ accepting (λ x. Err (Rejected x)) (λ d. Ok (answer_of (unaligned_sweep d c a s numbers))) b (acceptance_of b)
unfolding sweep_of
answer-unaligned b c a s numbers =
    ap (λ (f : Description → Sweep). accepting (λ x. Err (Rejected x)) (λ d. Ok (answer_of (f d))) b (acceptance_of b)) (fun_ext λ d. sweep-unaligned d c a s numbers)

pub buffer-unaligned : (b : List ℕ) (c a : ℕ) (s : List ℕ) (old : List ℤ)
    → buffer_after b c a 1 s old ≡ accepting (λ x. old) (λ d. buffer_with (unaligned_sweep d c a s (length old)).rows old) b (acceptance_of b)
unfolding buffer_after
buffer-unaligned b c a s old =
    ap (λ (f : Description → Sweep). accepting (λ x. old) (λ d. buffer_with (f d).rows old) b (acceptance_of b)) (fun_ext λ d. sweep-unaligned d c a s (length old))
