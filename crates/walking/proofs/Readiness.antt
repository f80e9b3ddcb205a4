-- What a function of the walk asks, handed on to those that it calls.
use Prim.Native.Nat.{ℕ, ◌+◌, ◌-◌, ◌≤◌, ◌<◌, min}
use mathlib.Core.List.{List}
use mathlib.Core.Path.{◌≡◌}
use native.Mathlib.Omega.{arith}
use lib.ListN.{length, take, drop}
use Rattle.format.specs.Numbers.{longest, most_rows}
use Rattle.decoding_spec.specs.declared.State.{State}
use Rattle.setting.specs.Fixed.{setting_in}
use Rattle.setting.specs.declared.Prepared.{Prepared}
use Rattle.walk_steps.specs.Steps.{Ready, beyond_places}
use Rattle.walking.proofs.Turns.{part_length}

module _ {Own Own' : Type 0} (b : List ℕ) (a : Prepared) (s : List ℕ) (at : ℕ) (st : State) (ready : Ready Own b a s at st) where
  -- at the same place, in another state
  pub stayed : (st' : State) → st'.used ≤ most_rows → Own' → Ready Own' b a s at st'
  stayed st' few own = record { fixed = ready.fixed; code = ready.code; close = ready.close; few = few; own = own }

  -- at a place behind it
  pub moved : (start from : ℕ) → from ≡ min start (length s) → at ≤ longest → start < beyond_places - longest → Own'
      → Ready Own' b a (take (length s - from) (drop from s)) (at + start) st
  moved start from e near small own =
      record {
        fixed = ready.fixed;
        code = part_length s start from at (setting_in b a).total e ready.code;
        close = omega arith;
        few = ready.few;
        own = own;
      }
