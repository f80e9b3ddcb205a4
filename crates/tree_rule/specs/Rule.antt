-- Which leaves are wrong, by a rule on patterns, and an input that proves it. p is the path to the leaf, as a pattern.
use Rattle.std.specs.Prelude.{ℕ, ◌+◌, ◌-◌, ◌<◌, ◌≤◌, Bool, true, false, cond, ◌&&◌, ◌||◌, not, ◌⊎◌, ◌≡◌, eqb, Option, Some, None}
use Rattle.std.specs.Int.Bits.{bit_and, bit_or, bit_xor}
use Rattle.format.specs.declared.Pattern.{Pattern}
use Rattle.patterns.specs.Relations.{inside, overlap}
use Rattle.tree_spec.specs.Nodes.{no_place}

-- what a leaf says, for a table of n records whose first is constructor `first`: none, or a constructor of the table
abbrev pub Says : ℕ → ℕ → ℕ → Type 0
Says first n v = (v ≡ no_place) ⊎ ((first ≤ v) × (v < first + n))

-- A leaf that says none is wrong where some pattern of the table overlaps p. A leaf that names a constructor is wrong where p does
-- not lie inside its pattern, or where another pattern of the table overlaps p and the named one does not lie inside that or equals
-- it. Here for one pattern q of the table: own where the leaf names q, none where it says none, named the pattern of what it names.
unfoldable pub refutes : Bool → Bool → Pattern → Pattern → Pattern → Bool
refutes own none p named q =
    cond own (not (inside p q)) (overlap p q && (none || not (inside named q && not (inside q named))))

-- the same with the pattern of what the leaf names, if it names any
abbrev pub refuted : Bool → Pattern → Option Pattern → Pattern → Bool
refuted own p (Some named) q = refutes own false p named q
refuted own p None q = refutes own true p q q

-- record j of the table whose first is constructor `first` shows that a leaf which says v is wrong
unfoldable pub shows_wrong : ℕ → (ℕ → Pattern) → Pattern → ℕ → ℕ → Bool
shows_wrong first at p v j = refutes (eqb (first + j) v) (eqb v no_place) p (at (v - first)) (at j)

-- a path's values at its masked bits, and v's at the other bits of m
abbrev pub filled : ℕ → ℕ → ℕ → ℕ → ℕ
filled pm pv m v = bit_or (bit_and pv pm) (bit_xor (bit_or (bit_and v m) pm) pm)

-- a pattern's values, or, where the leaf names it, all its bits turned round
abbrev pub turned : Bool → ℕ → ℕ → ℕ
turned own m v = cond own (bit_xor v m) v

-- the example against a leaf, from a pattern q that refutes it: eight bytes, as a little-endian number, and a context
abbrev pub example_word : Bool → Pattern → Pattern → ℕ
example_word own p q = filled p.mask p.value q.mask (turned own q.mask q.value)

abbrev pub example_context : Bool → Pattern → Pattern → ℕ
example_context own p q =
    filled p.contextmask p.contextvalue q.contextmask (turned own q.contextmask q.contextvalue)
