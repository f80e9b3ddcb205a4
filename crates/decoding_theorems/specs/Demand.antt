-- Demand 2, for an instruction: every constructor of the tree is the one that its table takes at its place, and "no match" means that
-- none of that table's constructors matches there.
use Rattle.std.specs.Prelude.{ℕ, List, ◌≡◌, drop}
use Rattle.format.specs.Description.{Description}
use Rattle.choosing_spec.specs.Records.{TakenIn}
use Rattle.decoding_spec.specs.Tree.{Row}

-- a constructor's row, in the context c, for the input s: in some table, it matches the input's bytes from its start on, and lies inside
-- every other constructor of that table that does
abbrev pub InmostRow : Description → ℕ → List ℕ → Row → Type 0
InmostRow d c s r = r.kind ≡ 0 → (t : ℕ) × TakenIn d t (drop r.start s) c r.number
