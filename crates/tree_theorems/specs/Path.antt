-- The path from node 0 to a leaf, as the pattern that its tests make.
use Rattle.std.specs.Prelude.{ℕ, zero, suc, cond, List, ltb}
use Rattle.format.specs.declared.Pattern.{Pattern}
use Rattle.tree_spec.specs.Nodes.{kind_at, bit_at, place_at}
use Rattle.tree_spec.specs.Form.{start, side}

-- from node t on, with the path p behind it: the zero side holds the nodes before the place
unfoldable pub path_from : ℕ → List ℕ → ℕ → Pattern → ℕ → Pattern
path_from zero b leaf p t = p
path_from (suc deep) b leaf p t =
    let zero-side = path_from deep b leaf (side p (kind_at b t) (bit_at b t) 0) (suc t) in
    let one_side = path_from deep b leaf (side p (kind_at b t) (bit_at b t) 1) (place_at b t) in
    cond (ltb t leaf) (cond (ltb leaf (place_at b t)) zero-side one_side) p

unfoldable pub path_of : List ℕ → ℕ → Pattern
path_of b leaf = path_from leaf b leaf start 0
