use Rattle.rules.specs.Marks.{Marks, shown_marks}
use Rattle.format.specs.Rules.{piece_fits, shows}
use Rattle.format.specs.Description.{description}
use Rattle.lists.specs.Below.{all_below, any_below}
use lib.ListN.{length}
use mathlib.Core.Path.{◌≡◌}
use mathlib.Core.Bool.{true}
use Rattle.rules.proofs.pieces_ok.Given as goal

abbrev pub invariant-loop-q : goal.invariant-loop-q
invariant-loop-q l =
    (length l.shown ≡ shown_marks) × (l.good ≡ all_below l.q (piece_fits (description l.desc l.layout) l.c))
    × (l.good ≡ true → Marks shown_marks l.shown (λ m. any_below l.q (shows (description l.desc l.layout) l.c m)))
