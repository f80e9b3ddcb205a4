-- What a constructor's shape shows: its operands and pieces lie in their sections.
use Prim.Native.Nat.{ℕ, ◌+◌}
use mathlib.Core.Bool.{Bool, true, ◌&&◌}
use mathlib.Core.Path.{◌≡◌}
use borrow.Author.Tests.{leb-true}
use lib.Dec.{leb}
use lib.ListN.{length}
use Rattle.lists.proofs.Bools.{and_left, and_right}
use Rattle.format.specs.Numbers.{operands_each, pieces_each}
use Rattle.format.specs.Description.{Description}
use Rattle.format.specs.Rules.{table_ok, minimum_ok, value_ok, range_ok, shape_ok}
use Rattle.format.specs.declared.Constructor.{Constructor}
use Rattle.format.specs.declared.Range.{Range}
use Rattle.rules.specs.Judging.{Ranged, Shaped}

ranged : (most count : ℕ) (r : Range) → range_ok most count r ≡ true → Ranged most count r
ranged most count r e =
    record {
      few = leb-true r.count most (and_left (leb r.count most) (leb (r.first + r.count) count) e);
      inside = leb-true (r.first + r.count) count (and_right (leb r.count most) (leb (r.first + r.count) count) e);
    }

module _ (d : Description) (i : ℕ) (c : Constructor) (e : shape_ok d i c ≡ true) where
  front : Bool
  front = table_ok d i && minimum_ok c && value_ok c.pattern

  pub shape-holds : Shaped (length d.operands) (length d.pieces) c
  unfolding shape_ok front
  shape-holds =
      let first = range_ok operands_each (length d.operands) c.operands in
      let last = range_ok pieces_each (length d.pieces) c.pieces in
      record {
        operands = ranged operands_each (length d.operands) c.operands (and_right front first (and_left (front && first) last e));
        pieces = ranged pieces_each (length d.pieces) c.pieces (and_right (front && first) last e);
      }
