-- What the search finds, as demand 3 says it.
use Prim.Native.Nat.{ℕ, ◌+◌, ◌<◌}
use mathlib.Core.List.{List}
use mathlib.Core.Path.{◌≡◌}
use native.Mathlib.Omega.{arith}
use lib.Dec.{eqb}
use lib.ListN.{get_or}
use Rattle.format.specs.Check.{WellFormed}
use Rattle.format.specs.Description.{description}
use Rattle.format.specs.declared.Layout.{Layout}
use Rattle.format.specs.declared.Pattern.{Pattern}
use Rattle.format.proofs.Lists.{constructors-length}
use Rattle.tables.specs.declared.Table.{Table}
use Rattle.choosing_spec.specs.Table.{pattern_from}
use Rattle.choosing_spec.specs.ValidPattern.{ValidPattern}
use Rattle.choosing_theorems.proofs.None.{none-at}
use Rattle.clash_check.proofs.Facts.{pattern-sound}
use Rattle.tree_spec.specs.Nodes.{count_of, place_at}
use Rattle.tree_spec.specs.Verdicts.{Accepts, Rejects}
use Rattle.tree_rule.specs.Rule.{example_word, example_context}
use Rattle.tree_theorems.specs.Path.{path_of}
use Rattle.tree_theorems.proofs.Judging.{Clear, accepts, rejects}
use Rattle.tree_check.specs.Search.{Leaves, ClearLeaf, ClearBefore, FirstWrong}

module _ (desc : List ℕ) (layout : Layout) (bytes : (i : ℕ) → get_or desc i 0 < 256) (f : WellFormed desc layout) (table : Table) (tree : List ℕ)
    (count : ℕ) (leaves : Leaves desc layout table tree count) where
  abbrev at : ℕ → Pattern
  at = pattern_from (description desc layout) table.first

  sound : (j : ℕ) → j < table.count → ValidPattern (at j)
  sound j h = pattern-sound desc layout bytes f table.first j (rw constructors-length (omega (arith, h, leaves.within)))

  clear : (k : ℕ) → ClearLeaf at table tree k → Clear table.first at table.count tree k
  clear k e j h = none-at _ table.count e j h

  pub accepted : ClearBefore at table tree (count_of tree) → Accepts table.first at table.count tree
  accepted g = accepts table.first at table.count tree sound leaves.low leaves.good (λ i l k. clear i (g i l k))

  pub rejected : (i j v : ℕ) (p q : Pattern) → FirstWrong at table tree i j → v ≡ place_at tree i → p ≡ path_of tree i → q ≡ at j
      → Rejects table.first at table.count tree i (example_word (eqb (table.first + j) v) p q) (example_context (eqb (table.first + j) v) p q)
  rejected i j v p q w a b c =
      rw (a, b, c) (rejects table.first at table.count tree sound leaves.low leaves.good i j w.here w.leaf w.by w.shown (λ k h e. clear k (w.earlier k h e)))
