-- A tree's form, for a table of n records whose first is constructor `first`.
use Rattle.std.specs.Prelude.{ℕ, zero, suc, ◌+◌, ◌*◌, ◌^◌, min, Bool, cond, ◌&&◌, ◌||◌, not, List, leb, ltb, eqb, length, Result, Ok, Err}
use Rattle.std.specs.Int.Bits.{bit_or}
use Rattle.bits.specs.Bits.{is_set}
use Rattle.format.specs.declared.Pattern.{Pattern}
use Rattle.tree_spec.specs.Nodes.{most_nodes, no_place, count_of, kind_at, bit_at, place_at}
use Rattle.tree_spec.specs.declared.Subtree.{Subtree}
use Rattle.tree_spec.specs.declared.NoSubtree.{NoSubtree}
use Rattle.tree_spec.specs.declared.NoSubtree.TheVariants.{Fault, Out}

-- a path is the pattern that its tests make: the bits tested on it, and the sides taken
abbrev pub start : Pattern
start = record { mask = 0; value = 0; contextmask = 0; contextvalue = 0 }

-- the path behind a test of this kind and bit, on side x
unfoldable pub side : Pattern → ℕ → ℕ → ℕ → Pattern
side p k b x =
    cond (eqb k 1)
    (record { mask = bit_or p.mask (2 ^ b); value = bit_or p.value (x * 2 ^ b); contextmask = p.contextmask; contextvalue = p.contextvalue })
    (record { mask = p.mask; value = p.value; contextmask = bit_or p.contextmask (2 ^ b); contextvalue = bit_or p.contextvalue (x * 2 ^ b) })

-- "Kind 0, a leaf: bit 0, place a constructor of the table or 65,535 for none."
unfoldable pub leaf_ok : ℕ → ℕ → List ℕ → ℕ → Bool
leaf_ok first n b i =
    eqb (bit_at b i) 0 && ((leb first (place_at b i) && ltb (place_at b i) (first + n)) || eqb (place_at b i) no_place)

-- "Kind 1 tests bit 0 to 63 of the bytes ..; kind 2 tests context bit 0 to 31." "No bit is tested twice on a path"
unfoldable pub test_ok : Pattern → List ℕ → ℕ → Bool
test_ok p b i =
    (eqb (kind_at b i) 1 && ltb (bit_at b i) 64 && not (is_set p.mask (bit_at b i)))
    || (eqb (kind_at b i) 2 && ltb (bit_at b i) 32 && not (is_set p.contextmask (bit_at b i)))

unfoldable pub node_ok : ℕ → ℕ → Pattern → List ℕ → ℕ → Bool
node_ok first n p b i = cond (eqb (kind_at b i) 0) (leaf_ok first n b i) (test_ok p b i)

-- "The zero side is the next node; the place is the one side, which starts where the zero side ends."
abbrev pub closed : ℕ → ℕ → Result Subtree NoSubtree → Result Subtree NoSubtree
closed own low (Ok one_side) = Ok (record { next = one_side.next; side = min own (min low one_side.side) })
closed own low (Err e) = Err e

abbrev pub forked : ℕ → ℕ → Result Subtree NoSubtree → (ℕ → Result Subtree NoSubtree) → Result Subtree NoSubtree
forked i place (Ok zero_side) more = closed (cond (eqb place zero_side.next) no_place i) zero_side.side (more zero_side.next)
forked i place (Err e) more = Err e

-- the subtree from node i on, on path p: its nodes one by one, their one sides apart; no subtree is deeper than there are nodes
unfoldable pub walk_of : ℕ → ℕ → List ℕ → ℕ → Pattern → ℕ → Result Subtree NoSubtree
walk_of first n b zero p i = Err Out
walk_of first n b (suc deep) p i =
    let fork =
    forked i (place_at b i) (walk_of first n b deep (side p (kind_at b i) (bit_at b i) 0) (suc i))
    (λ next. walk_of first n b deep (side p (kind_at b i) (bit_at b i) 1) next)
    in
    cond (ltb i (count_of b))
    (cond (node_ok first n p b i) (cond (eqb (kind_at b i) 0) (Ok (record { next = suc i; side = no_place })) fork) (Err (Fault i)))
    (Err Out)

-- a tree's form: good, or its first bad node, or no_place; "nodes that run out or are left over (65,535); the one sides, lowest
-- node first"
abbrev pub ended : ℕ → Result Subtree NoSubtree → Result Unit ℕ
ended count (Ok whole) = cond (eqb whole.next count) (cond (eqb whole.side no_place) (Ok tt) (Err whole.side)) (Err no_place)
ended count (Err (Fault k)) = Err k
ended count (Err Out) = Err no_place

-- "the count, or bytes that aren't just its nodes (65,535)"
abbrev pub counted : List ℕ → Bool
counted b = leb 2 (length b) && leb 1 (count_of b) && leb (count_of b) most_nodes && eqb (length b) (2 + 4 * count_of b)

unfoldable pub form_of : ℕ → ℕ → List ℕ → Result Unit ℕ
form_of first n b = cond (counted b) (ended (count_of b) (walk_of first n b (count_of b) start 0)) (Err no_place)
