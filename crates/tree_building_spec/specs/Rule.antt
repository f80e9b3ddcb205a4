-- The rule's node at the end of a path. A path is the pattern that its tests make, `at j` is the pattern of record j of the table,
-- there are n, and the first of them is constructor `first`.
use Rattle.std.specs.Prelude.{ℕ, ◌+◌, ◌-◌, Bool, cond, ◌&&◌, ◌||◌, not, eqb, ltb}
use Rattle.lists.specs.Below.{all_below, any_below, first_below}
use Rattle.bits.specs.Bits.{is_set}
use Rattle.format.specs.declared.Pattern.{Pattern}
use Rattle.patterns.specs.Relations.{inside, overlap}
use Rattle.tree_spec.specs.Nodes.{no_place}
use Rattle.tree_building_spec.specs.declared.Node.{Node}
use Rattle.tree_building_spec.specs.declared.Node.TheVariants.{Leaf, Test}

-- "byte bits before context bits": bits 0 to 63 are the byte bits, 64 to 95 the context bits; whether a pattern masks bit k, or bit
-- k is on a path
unfoldable pub masks : Pattern → ℕ → Bool
masks p k = cond (ltb k 64) (is_set p.mask k) (is_set p.contextmask (k - 64))

-- the test of bit k: its kind, and its number within its kind
abbrev pub kind_of : ℕ → ℕ
kind_of k = cond (ltb k 64) 1 2

abbrev pub bit_of : ℕ → ℕ
bit_of k = cond (ltb k 64) k (k - 64)

module _ (at : ℕ → Pattern) (n : ℕ) (p : Pattern) where
  -- "Live patterns are those that agree with the path."
  unfoldable pub live : ℕ → Bool
  live j = overlap p (at j)

  -- "all its bits on the path"
  unfoldable pub on_path : ℕ → Bool
  on_path j = all_below 96 (λ k. not (masks (at j) k) || masks p k)

  -- "A live pattern with all its bits on the path and inside all other live ones"
  unfoldable pub settles : ℕ → Bool
  settles j = live j && on_path j && all_below n (λ i. eqb i j || not (live i) || inside (at j) (at i))

  -- the first such one, or n
  unfoldable pub settled : ℕ
  settled = first_below n (λ j. not (settles j))

  -- a "bit not yet on the path that a live pattern masks"
  unfoldable pub wanted : ℕ → Bool
  wanted k = not (masks p k) && any_below n (λ j. live j && masks (at j) k)

  -- "the lowest-numbered" one, or 96
  unfoldable pub lowest_wanted : ℕ
  lowest_wanted = first_below 96 (λ k. not (wanted k))

-- "None live: a leaf none. A live pattern with all its bits on the path and inside all other live ones: its leaf. Else test the
-- lowest-numbered bit not yet on the path that a live pattern masks"
unfoldable pub node_of : ℕ → (ℕ → Pattern) → ℕ → Pattern → Node
node_of first at n p =
    let k = lowest_wanted at n p in
    let found = cond (ltb (settled at n p) n) (Leaf (first + settled at n p)) (Test (kind_of k) (bit_of k)) in
    cond (any_below n (live at n p)) found (Leaf no_place)
