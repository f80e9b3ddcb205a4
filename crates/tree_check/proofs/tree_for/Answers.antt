use Rattle.std.specs.Prelude.{Ok}
use Rattle.tree_spec.specs.Form.{form_of}
use Rattle.tree_form.proofs.Trees.{sized, good-counted}
use borrow.Author.Rules.{rules}
use mathlib.Core.Path.{◌≡◌}
use native.Mathlib.Omega.{arith}
use Rattle.tree_check.proofs.tree_for.Goals as goal

pub word-count-requires : goal.word-count-requires
word-count-requires c =
    let good : form_of c.args.table.first c.args.table.count c.args.tree.now ≡ Ok tt = search rules in
    omega (arith, (sized c.args.tree.now (good-counted _ _ c.args.tree.now good)).bytes)
