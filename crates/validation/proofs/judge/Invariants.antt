use Prim.Native.Nat.{ℕ, ◌+◌, ◌*◌, ◌<◌}
use mathlib.Core.Bool.{Bool}
use mathlib.Core.Path.{◌≡◌}
use Rattle.section_theorems.proofs.Search.{Searched}
use Rattle.validation.proofs.judge.Given as goal

abbrev pub invariant-loop-i : goal.invariant-loop-i
invariant-loop-i g l =
    let reading = g.T.Record.reading l.desc in
    let size = g.T.Record.BYTES in
    let s = l.fn.records in
    (l.c.at ≡ s.start + size * l.i)
    × ((rule : ℕ → g.row.T.Denot → Bool) (none : g.row.T.Denot)
    → ((i : ℕ) (r : Bool) → i < s.count → goal.F-post g l.good i (reading (s.start + size * i)) r → r ≡ rule i (reading (s.start + size * i)))
    → Searched g.T.Record.reading size rule none l.desc s l.c.at l.i)
