-- A path that the rule's tests lead to, and how many nodes stand before the one at its end.
use Rattle.std.specs.Prelude.{ℕ, suc, ◌+◌}
use Rattle.format.specs.declared.Pattern.{Pattern}
use Rattle.tree_spec.specs.Form.{start}
use Rattle.tree_building_spec.specs.Tree.{size_of}
use Rattle.tree_building_theorems.specs.Numbered.{longer}
use Rattle.tree_building_theorems.specs.Decides.{Lowest}
use Rattle.tree_building_theorems.specs.Growth.{tree_at}

pub data Seen (first : ℕ) (at : ℕ → Pattern) (n : ℕ) : Pattern → ℕ → Type 0 where
  begin : Seen first at n start 0
  zeroth : {q : Pattern} {m : ℕ} (k : ℕ) → Lowest at n q k → Seen first at n q m → Seen first at n (longer q k 0) (suc m)
  oneth : {q : Pattern} {m : ℕ} (k : ℕ) → Lowest at n q k → Seen first at n q m
      → Seen first at n (longer q k 1) (suc m + size_of (tree_at first at n (longer q k 0)))
