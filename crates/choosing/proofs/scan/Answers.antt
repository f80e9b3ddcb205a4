use Rattle.format.specs.declared.Pattern.{Pattern}
use Rattle.choosing.proofs.Keeping.{is-match, is-short, is_none}
use Rattle.choosing.proofs.Keeping.{kept-skip, kept-with_match, none_more, skipped}
use Rattle.choosing.specs.Scan.{word_short, word_match, ScanState}
use Rattle.choosing.specs.Patterns.{patterns_in}
use Rattle.lists.proofs.Below.{any_none, any_at}
use Rattle.lists.specs.Below.{any_below}
use native.Mathlib.Omega.{arith}
use mathlib.Core.Path.{◌≡◌, refl, sym, ◌∙◌}
use mathlib.Core.Bool.{false}
use Prim.Native.Nat.{ℕ}
use Rattle.choosing.proofs.scan.Goals.{After-skip-j, Start}
use Rattle.choosing.proofs.scan.Goals as goal

-- the table's patterns
abbrev rows : Start → ℕ → Pattern
rows s = patterns_in s.args.desc.now s.args.constructors s.args.table

-- what is known behind the records passed over
behind : (c : After-skip-j)
    → (any_below c.skip-j.result (word_short (rows c.before.before.before.before.before.before) c.args.input) ≡ false)
    × ScanState (rows c.before.before.before.before.before.before) (word_match (rows c.before.before.before.before.before.before) c.args.input) c.args.table.count c.skip-j.result c.loop-next.best
behind c =
    skipped (rows c.before.before.before.before.before.before) c.args.input c.args.table.count c.loop-next.next c.skip-j.result c.loop-next.best c.skip-j.ensures c.loop-next.invariant.1 c.loop-next.invariant.2

pub loop-next-init : goal.loop-next-init
loop-next-init c = (omega arith, any_none _, any_none _)

pub returns-then-j-table : goal.returns-then-j-table
returns-then-j-table c = rw c.if-j-table.true at (behind (goal.at.returns-then-j-table c).After-skip-j)

pub loop-next-preserved-then-whole : goal.loop-next-preserved-then-whole
loop-next-preserved-then-whole c =
    let j = c.skip-j.result in
    let known = behind (goal.at.loop-next-preserved-then-whole c).After-skip-j in
    let t = is-match (rows (goal.at.loop-next-preserved-then-whole c).Start) c.args.input j c.pattern_in-p.result c.pattern_in-p.ensures (sym c.agrees.ensures ∙ c.if-agrees.true) (sym c.whole.ensures ∙ c.if-whole.true) in (
      omega (arith, c.skip-j.ensures.within),
      none_more _ j known.0 t.0,
      rw c.with_match.ensures (kept-with_match _ _ _ j t.1 (omega (arith, c.skip-j.ensures.within)) c.loop-next.best known.1),
    )

pub returns-else-whole : goal.returns-else-whole
returns-else-whole c =
    let j = c.skip-j.result in (
      refl,
      any_at _ _ j (omega (arith, c.skip-j.ensures.within))
          (is-short (rows (goal.at.returns-else-whole c).Start) c.args.input j c.pattern_in-p.result c.pattern_in-p.ensures (sym c.agrees.ensures ∙ c.if-agrees.true) (sym c.whole.ensures ∙ c.if-whole.false)),
    )

pub loop-next-preserved : goal.loop-next-preserved
loop-next-preserved c =
    let j = c.skip-j.result in
    let known = behind (goal.at.loop-next-preserved c).After-skip-j in
    let t = is_none (rows (goal.at.loop-next-preserved c).Start) c.args.input j c.pattern_in-p.result c.pattern_in-p.ensures (sym c.agrees.ensures ∙ c.if-agrees.false) in (
      omega (arith, c.skip-j.ensures.within),
      none_more _ j known.0 t.0,
      kept-skip _ _ _ j c.loop-next.best t.1 known.1,
    )
