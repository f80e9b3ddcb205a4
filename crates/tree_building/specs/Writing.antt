-- What writing a node, and a tree, does to the lent bytes.
use Rattle.std.specs.Prelude.{ℕ, ◌+◌, ◌*◌, ◌/◌, ◌%◌, ◌<◌, ◌≤◌, List, ◌⊎◌, ◌≡◌, length, get_or}
use Rattle.tree_spec.specs.Nodes.{place_at}
use Rattle.tree_building_spec.specs.Tree.{Tree, size_of}
use Rattle.tree_building_theorems.specs.Stands.{NodeIs, Stands}

-- all bytes but those from one place on, before another
pub record Kept (from to : ℕ) (before after : List ℕ) : Type 0 where
  pub same : length after ≡ length before
  pub outside : (k : ℕ) → (k < from) ⊎ (to ≤ k) → get_or after k 0 ≡ get_or before k 0

-- two bytes are written
pub record PutsWord (from word : ℕ) (before after : List ℕ) : Type 0 where
  pub low : get_or after from 0 ≡ word % 256
  pub high : get_or after (from + 1) 0 ≡ word / 256
  pub kept : Kept from (from + 2) before after

-- node i is written
pub record PutsNode (i kind bit place : ℕ) (before after : List ℕ) : Type 0 where
  pub node : NodeIs after i kind bit place
  pub kept : Kept (4 * i + 2) (4 * i + 6) before after

-- the place of node i is written
pub record PutsPlace (i place : ℕ) (before after : List ℕ) : Type 0 where
  pub placed : place_at after i ≡ place
  pub kept : Kept (4 * i + 4) (4 * i + 6) before after

-- a tree is written from node 0 on
pub record PutsTree (t : Tree) (before after : List ℕ) : Type 0 where
  pub stands : Stands after 0 t
  pub kept : Kept 2 (2 + 4 * size_of t) before after
