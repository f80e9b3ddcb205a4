use mathlib.Core.Path.{◌≡◌}
use lib.ListN.{length}
use Rattle.listing_run.proofs.Parts.{left}
use Rattle.listing_run.proofs.run.Given as goal

-- `listing_run::run` ends: each part of the listing moves on. Assumes the contracts of the system's reading and writing.
abbrev pub invariant-loop-part : goal.invariant-loop-part
invariant-loop-part l = length l.text ≡ 4096

abbrev pub decreases-loop-part : goal.decreases-loop-part
decreases-loop-part l = left l.all l.part
