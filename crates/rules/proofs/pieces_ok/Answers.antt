use Rattle.rules.proofs.Pieces.{piece-fits, piece-shows}
use Rattle.rules.proofs.Gathered.{marks-none, marks-next}
use Rattle.rules.specs.Marks.{shown_marks}
use Rattle.format.specs.Rules.{piece_fits, shows}
use Rattle.format.specs.Description.{description}
use Rattle.lists.proofs.Bools.{and_left, and_right}
use Rattle.lists.proofs.Below.{all_none, all_keep}
use lib.ListN.{length-set}
use lib.Dec.{eqb}
use native.Mathlib.Omega.{arith}
use mathlib.Core.Path.{◌≡◌, refl, sym, ◌∙◌}
use mathlib.Core.Bool.{true}
use Prim.Native.Nat.{◌%◌}
use Rattle.rules.proofs.pieces_ok.Goals.{After-piece_fits-good}
use Rattle.rules.proofs.pieces_ok.Goals as goal

-- while every piece fits, the test by the marks is the rule at piece q
fits-is : (c : After-piece_fits-good) → c.loop-q.good ≡ true
    → c.piece_fits-good.result
    ≡ piece_fits (description c.args.desc.now c.args.layout) c.args.c c.loop-q.q
fits-is c good =
    c.piece_fits-good.ensures
    ∙ piece-fits (description c.args.desc.now c.args.layout) c.args.c c.loop-q.q
    c.piece_at-p.result c.piece_at-p.ensures c.loop-q.shown c.requires.shaped.operands.few (c.loop-q.invariant.2 good)

pub loop-q-init : goal.loop-q-init
loop-q-init c = (refl, sym (all_none _), λ _. marks-none shown_marks (shows _ _))

pub loop-q-preserved : goal.loop-q-preserved
loop-q-preserved c =
    let inv = c.loop-q.invariant in
    let good = c.loop-q.good in (
      simp length-set inv.0,
      all_keep _ c.loop-q.q good c.piece_fits-good.result inv.1 (λ g. fits-is (goal.at.loop-q-preserved c).After-piece_fits-good g),
      λ t.
          let g = and_left good c.piece_fits-good.result t in
          marks-next shown_marks c.loop-q.q (c.piece_at-p.result.n % shown_marks) (eqb c.piece_at-p.result.kind 1) c.loop-q.shown
          (shows _ _) (omega arith) (omega arith)
          (piece-shows _ _ c.loop-q.q c.piece_at-p.result c.piece_at-p.ensures c.requires.shaped.operands.few
          (sym (fits-is (goal.at.loop-q-preserved c).After-piece_fits-good g) ∙ and_right good c.piece_fits-good.result t))
          (inv.2 g),
    )

pub returns : goal.returns
returns c =
    let s : c.loop-q.q ≡ c.args.c.pieces.count = omega arith in
    rw s at c.loop-q.invariant.1
