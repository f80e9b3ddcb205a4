-- How many nodes may be written into so many bytes.
use Rattle.std.specs.Prelude.{ℕ, ◌-◌, ◌/◌, min}
use Rattle.tree_spec.specs.Nodes.{most_nodes}

abbrev pub most_in : ℕ → ℕ
most_in room = min most_nodes ((room - 2) / 4)
