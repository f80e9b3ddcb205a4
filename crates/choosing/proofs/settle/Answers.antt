use Rattle.choosing.proofs.Keeping.{clears-inmost, inmost-clears}
use Rattle.choosing.proofs.settle.Goals.{else-best-via-then-best+else-not-clears_all, else-best-via-else-best}
use Rattle.lists.proofs.Below.{any_at}
use mathlib.Core.Path.{sym, ◌∙◌}
use mathlib.Core.Bool.{false≢true}
use Rattle.choosing.proofs.settle.Goals as goal

pub clears_all-requires : goal.clears_all-requires
clears_all-requires c =
    let k = rw c.in-Some.is at c.requires.passed in
    record { inside = c.requires.inside; count_bound = c.requires.count_bound; t_lt_count = k.within }

pub returns-then-not-clears_all : goal.returns-then-not-clears_all
returns-then-not-clears_all c =
    let k = rw c.in-Some.is at c.requires.passed in (
      any_at _ _ c.in-Some.best.at k.within k.hits,
      λ t m. false≢true (sym c.if-not-clears_all.true ∙ (c.clears_all.ensures ∙ inmost-clears _ _ _ _ (rw (← k.held t m.within m) at m))),
    )

pub returns : goal.returns
returns c =
    let k = rw c.in-Some.is at c.requires.passed in
    elim c.else-best.branch [
      | else-best-via-then-best+else-not-clears_all w ↦ clears-inmost _ _ _ _ k.within k.hits (sym w.clears_all.ensures ∙ w.if-not-clears_all.false)
      | else-best-via-else-best w ↦ k.sure w.if-best.false
    ]
