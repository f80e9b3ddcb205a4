-- One pass over a table: the masks of the live patterns, and the last of them that masked all of them so far.
use Rattle.std.specs.Prelude.{ℕ, zero, suc, ◌+◌, cond, ◌&&◌, eqb}
use Rattle.std.specs.Int.Bits.{bit_or}
use Rattle.format.specs.declared.Pattern.{Pattern}
use Rattle.patterns.specs.Relations.{overlap}
use Rattle.tree_spec.specs.Nodes.{no_place}
use Rattle.tree_nodes.specs.declared.Live.{Live}

-- one more live pattern, that of constructor `at`
unfoldable pub with_live : Live → Pattern → ℕ → Live
with_live l q at =
    let mask = bit_or l.mask q.mask in
    let context = bit_or l.context q.contextmask in
    record { mask = mask; context = context; leaf = cond (eqb q.mask mask && eqb q.contextmask context) at l.leaf }

-- the first j records of the table
unfoldable pub gathered : ℕ → (ℕ → Pattern) → Pattern → ℕ → Live
gathered first at p zero = record { mask = 0; context = 0; leaf = no_place }
gathered first at p (suc j) =
    cond (overlap p (at j)) (with_live (gathered first at p j) (at j) (first + j)) (gathered first at p j)
