-- What is accepted is well formed.
use mathlib.Core.List.{List}
use mathlib.Core.Path.{◌≡◌}
use Prim.Native.Nat.{ℕ}
use Rattle.std.specs.Prelude.{Result, Ok, Err}
use Rattle.format.specs.Check.{check_of, WellFormed}
use Rattle.format.specs.declared.Fault.{Fault}
use Rattle.format.specs.declared.Layout.{Layout}
use Rattle.format.proofs.Formation.{formed}
use Rattle.acceptance.specs.Acceptance.{accepted_by, acceptance_of}

pub accepted-good : (b : List ℕ) (l : Layout) → acceptance_of b ≡ Ok l → check_of b ≡ Ok l
unfolding acceptance_of
accepted-good b l e = go (check_of b) e
  where
    go : (x : Result Layout Fault) → accepted_by x ≡ Ok l → x ≡ Ok l
    go (Ok m) q = cc
    go (Err f) q = cc

pub accepted-formed : (b : List ℕ) (l : Layout) → acceptance_of b ≡ Ok l → WellFormed b l
accepted-formed b l e = formed b l (accepted-good b l e)
