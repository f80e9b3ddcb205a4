-- "An answer, unless "short", stays the same whatever bytes follow" (demand 2), for any answer that is told of an instruction.
use Prim.Native.Nat.{ℕ}
use mathlib.Core.List.{List, ◌++◌}
use mathlib.Core.Path.{◌≡◌, refl, ap}
use Rattle.format.specs.Description.{Description, description}
use Rattle.format.specs.declared.Layout.{Layout}
use Rattle.format.proofs.Formation.{obeyed}
use Rattle.acceptance.specs.Acceptance.{acceptance_of, accepting}
use Rattle.acceptance.specs.declared.Rejection.{Rejection}
use Rattle.std.specs.Prelude.{Ok, Err}
use Rattle.std.specs.Prelude as std
use Rattle.acceptance.proofs.Facts.{accepted-formed}
use Rattle.decoding_spec.specs.Tree.{Node}
use Rattle.decoding_spec.specs.Walk.{Result, refused}
use Rattle.decoding_spec.specs.Instruction.{instruction_of}
use Rattle.decoding_spec.specs.declared.Refusal.TheVariants.{Short}
use Rattle.decoding_theorems.proofs.Instructions.{stays}

pub answers_stay : {A : Type 0} (rejected : Rejection → A) (tell : Description → Result Node → A) (b : List ℕ) (c a : ℕ) (s m : List ℕ)
    → ((l : Layout) → acceptance_of b ≡ Ok l → (p : ℕ) → instruction_of (description b l) c a s ≡ refused (Short p) → ⊥)
    → accepting rejected (λ d. tell d (instruction_of d c a (s ++ m))) b (acceptance_of b)
    ≡ accepting rejected (λ d. tell d (instruction_of d c a s)) b (acceptance_of b)
answers_stay rejected tell b c a s m whole = go (acceptance_of b) refl
  where
    go : (x : std.Result Layout Rejection) → acceptance_of b ≡ x
        → accepting rejected (λ d. tell d (instruction_of d c a (s ++ m))) b x ≡ accepting rejected (λ d. tell d (instruction_of d c a s)) b x
    go (Ok l) e = ap (tell (description b l)) (stays (description b l) (obeyed b l (accepted-formed b l e)) c a s m (whole l e))
    go (Err x) e = refl
