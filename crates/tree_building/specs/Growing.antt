-- The bytes of a tree that is being written: a path, the number of the node at its end, and the last test on it whose one side is
-- still to be written.
use Rattle.std.specs.Prelude.{ℕ, suc, ◌+◌, ◌*◌, ◌<◌, ◌≤◌, List}
use Rattle.format.specs.declared.Pattern.{Pattern}
use Rattle.tree_spec.specs.Nodes.{place_at}
use Rattle.tree_spec.specs.Form.{start}
use Rattle.tree_building_spec.specs.Rule.{kind_of, bit_of}
use Rattle.tree_building_spec.specs.Tree.{size_of}
use Rattle.tree_building_theorems.specs.Numbered.{longer}
use Rattle.tree_building_theorems.specs.Decides.{Lowest}
use Rattle.tree_building_theorems.specs.Growth.{tree_at}
use Rattle.tree_building_theorems.specs.Stands.{NodeIs, Stands}
use Rattle.tree_building.specs.Writing.{Kept, PutsPlace}

-- until its zero side is written, a test's place is the last one before it that waits
pub data Growing (first : ℕ) (at : ℕ → Pattern) (n : ℕ) (b : List ℕ) : Pattern → ℕ → ℕ → Type 0 where
  begin : Growing first at n b start 0 0
  zeroth : {q : Pattern} {m o : ℕ} (k : ℕ) → Lowest at n q k → NodeIs b m (kind_of k) (bit_of k) o → Growing first at n b q m o
      → Growing first at n b (longer q k 0) (suc m) m
  oneth : {q : Pattern} {m o : ℕ} (k : ℕ) → Lowest at n q k
      → NodeIs b m (kind_of k) (bit_of k) (suc m + size_of (tree_at first at n (longer q k 0)))
      → Stands b (suc m) (tree_at first at n (longer q k 0))
      → Growing first at n b q m o
      → Growing first at n b (longer q k 1) (suc m + size_of (tree_at first at n (longer q k 0))) o

-- with the place of test o written, path q goes on at node e, and the test that waited before o waits
pub record Opens (first : ℕ) (at : ℕ → Pattern) (n : ℕ) (b : List ℕ) (o i e : ℕ) (q : Pattern) : Type 0 where
  pub below : o < i
  pub next : (after : List ℕ) → PutsPlace o e b after → Growing first at n after q e (place_at b o)

-- what writing a tree of so many nodes has come to
pub record Progress (first : ℕ) (at : ℕ → Pattern) (n count : ℕ) (before after : List ℕ) (p : Pattern) (o i : ℕ) : Type 0 where
  pub within : i ≤ count
  pub growing : Growing first at n after p i o
  pub kept : Kept 2 (2 + 4 * count) before after
