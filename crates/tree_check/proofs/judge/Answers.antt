use Rattle.std.specs.Prelude.{None}
use borrow.Author.Rules.{rules}
use mathlib.Core.Path.{◌≡◌}
use Rattle.tree_check.proofs.Verdicts.{accepted, rejected}
use Rattle.tree_check.specs.Search.{FirstWrong}
use Rattle.tree_form.proofs.Trees.{sized, good-counted}
use native.Mathlib.Omega.{arith}
use Rattle.tree_check.proofs.judge.Goals as goal

pub place-v-requires : goal.place-v-requires
place-v-requires c =
    let w : FirstWrong _ _ _ _ _ = c.in_ok-i.ensures in
    omega (arith, w.here, (sized c.args.tree.now (good-counted _ _ c.args.tree.now c.requires.leaves.good)).bytes)

pub returns-in_err-i : goal.returns-in_err-i
returns-in_err-i c =
    let e : c.from_residual.result ≡ None = search rules in
    rw e
    (accepted c.args.desc.now _ (λ i. omega (arith, c.type_inv.desc i)) c.requires.well_formed _ _ _ c.requires.leaves c.in_err-i.ensures)

pub returns : goal.returns
returns c =
    let w : FirstWrong _ _ _ _ _ = c.in_ok-i.ensures in
    rw (c.word_against.ensures, c.context_against.ensures)
    (rejected c.args.desc.now _ (λ i. omega (arith, c.type_inv.desc i)) c.requires.well_formed _ _ _ c.requires.leaves _ _ _ _ _ w c.place-v.ensures c.path_to-p.ensures c.row-shown.ensures)
