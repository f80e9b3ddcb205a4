use Rattle.tree_check.proofs.Searching.{shown-is}
use mathlib.Core.Path.{refl, sym, ◌∙◌}
use native.Mathlib.Omega.{arith}
use Rattle.tree_check.proofs.Searching.{clear_none, none_more}
use Rattle.tree_form.proofs.Trees.{tree_of, sized, good-counted}
use Rattle.tree_theorems.proofs.Judging.{tree-says}
use Rattle.lists.proofs.Below.{any_none}
use Rattle.tree_check.proofs.first_wrong.Goals as goal

pub leaves-init : goal.leaves-init
leaves-init c = (refl, clear_none _ _ _)

pub kind-requires : goal.kind-requires
kind-requires c =
    omega (arith, c.leaves-test.true, c.requires.nodes, (sized c.args.tree.now (good-counted _ _ c.args.tree.now c.requires.good)).bytes)

pub place-v-requires : goal.place-v-requires
place-v-requires c =
    omega (arith, c.leaves-test.true, c.requires.nodes, (sized c.args.tree.now (good-counted _ _ c.args.tree.now c.requires.good)).bytes)

pub named_by-named-requires-clause-says : goal.named_by-named-requires-clause-says
named_by-named-requires-clause-says c =
    let s = c.requires in
    rw c.place-v.ensures (tree-says _ _ _ (tree_of _ _ _ s.good) c.leaves.i (omega arith) (omega (arith, c.leaves-test.true, s.nodes)) (sym c.kind.ensures ∙ c.if-kind-eq0.true))

pub loop-j-init : goal.loop-j-init
loop-j-init c = (c.leaves.invariant.0, any_none _)

pub loop-j-preserved : goal.loop-j-preserved
loop-j-preserved c = (
  c.loop-j.invariant.0,
  none_more _ c.loop-j.j c.loop-j.invariant.1
      (shown-is _ _ _ _ _ _ _ _ _ _ c.path_to-p.ensures c.place-v.ensures c.named_by-named.ensures c.row-q.ensures c.shows_wrong.ensures ∙ c.if-shows_wrong.false),
)

pub returns-then-shows_wrong : goal.returns-then-shows_wrong
returns-then-shows_wrong c =
    record {
      here = omega (arith, c.leaves-test.true, c.requires.nodes);
      leaf = sym c.kind.ensures ∙ c.if-kind-eq0.true;
      by = c.loop-j-test.true;
      shown = shown-is _ _ _ _ _ _ _ _ _ _ c.path_to-p.ensures c.place-v.ensures c.named_by-named.ensures c.row-q.ensures c.shows_wrong.ensures ∙ c.if-shows_wrong.true;
      earlier = c.leaves.invariant.1;
    }
