-- A well-formed description's tables never fall, so a table's constructors stand together.
use Prim.Native.Nat.{ℕ, zero, suc, ◌+◌, ◌-◌, ◌≤◌, ◌<◌}
use mathlib.Core.Bool.{Bool, true, ◌&&◌, ◌||◌}
use mathlib.Core.Path.{◌≡◌, ap, fun_ext}
use native.Mathlib.Decide.{dec_lt}
use native.Mathlib.Numerals.{add-one}
use native.Mathlib.Omega.{arith}
use borrow.Author.Tests.{ltb-true, ltb-false, leb-true, leb-false, lt-ltb, le-leb, eq-eqb, ne_eqb, eqb-true}
use lib.Dec.{ltb, leb, eqb}
use lib.ListN.{length, get_or}
use Rattle.lists.specs.Below.{all_below, first_below}
use Rattle.lists.proofs.Below.{First, first-is, all-at, any_at, any_found}
use Rattle.lists.proofs.Bools.{and_left, and_right, same}
use Rattle.format.specs.Numbers.{tables, operands_each, pieces_each}
use Rattle.format.specs.Description.{Description, no_constructor}
use Rattle.format.specs.Rules.{constructor_ok, shape_ok, table_ok, table_at, minimum_ok, value_ok, range_ok, operand_fits, piece_fits, has_table}
use Rattle.format.specs.Tables.{table_first, table_end}
use Rattle.format.specs.declared.Constructor.{Constructor}
use Rattle.format.proofs.Formation.{RulesHold}

-- the first rule of a constructor that obeys all of them
pub shaped : (d : Description) (i : ℕ) → constructor_ok d i ≡ true → shape_ok d i (get_or d.constructors i no_constructor) ≡ true
unfolding constructor_ok
shaped d i e =
    let c = get_or d.constructors i no_constructor in
    let operands = all_below c.operands.count (operand_fits d c) in
    and_left (shape_ok d i c) operands
    (and_left (shape_ok d i c && operands) (all_below c.pieces.count (piece_fits d c)) e)

tabled : (d : Description) (i : ℕ) (c : Constructor) → shape_ok d i c ≡ true → table_ok d i ≡ true
unfolding shape_ok
tabled d i c e =
    let operands = range_ok operands_each (length d.operands) c.operands in
    and_left (table_ok d i) (minimum_ok c)
    (and_left (table_ok d i && minimum_ok c) (value_ok c.pattern)
    (and_left (table_ok d i && minimum_ok c && value_ok c.pattern) operands
    (and_left (table_ok d i && minimum_ok c && value_ok c.pattern && operands) (range_ok pieces_each (length d.pieces) c.pieces) e)))

module _ (d : Description) (o : RulesHold d) where
  table-ok : (i : ℕ) → i < length d.constructors → table_ok d i ≡ true
  table-ok i h = tabled d i _ (shaped d i (all-at (constructor_ok d) _ i o.constructors h))

  -- "table 0 to 63"
  pub table-low : (i : ℕ) → i < length d.constructors → table_at d i < tables
  table-low i h =
      ltb-true (table_at d i) tables
      (and_left (ltb (table_at d i) tables) (eqb i 0 || leb (table_at d (i - 1)) (table_at d i)) (table-ok i h))

  -- "never below the record before"
  next-above : (i : ℕ) → i + 1 < length d.constructors → table_at d i ≤ table_at d (i + 1)
  next-above i h =
      let s : i + 1 - 1 ≡ i = omega arith in
      let e = and_right (ltb (table_at d (i + 1)) tables) (eqb (i + 1) 0 || leb (table_at d (i + 1 - 1)) (table_at d (i + 1))) (table-ok (i + 1) h) in
      leb-true (table_at d i) (table_at d (i + 1)) (rw (ne_eqb (i + 1) 0 (λ z. omega arith), s) at e)

  pub sorted : (i j : ℕ) → i ≤ j → j < length d.constructors → table_at d i ≤ table_at d j
  sorted i zero h l = let s : i ≡ 0 = omega arith in rw s (omega arith)
  sorted i (suc j) h l = go (dec_lt i (suc j)) (λ p. sorted i j (omega arith) (omega arith))
    where
      go : Dec (i < suc j) → (i < suc j → table_at d i ≤ table_at d j) → table_at d i ≤ table_at d (suc j)
      go (yes p) f =
          let n : table_at d j ≤ table_at d (suc j) = rw add-one at (next-above j (omega arith)) in
          omega (arith, f p, n)
      go (no p) f = let s : i ≡ suc j = omega arith in rw s (omega arith)

  module _ (t : ℕ) where
    below : ℕ → Bool
    below i = ltb (table_at d i) t

    upto : ℕ → Bool
    upto i = leb (table_at d i) t

    from : First below (length d.constructors) (table_first d t)
    unfolding table_first below
    from = first-is below (length d.constructors)

    to : First upto (length d.constructors) (table_end d t)
    unfolding table_end upto
    to = first-is upto (length d.constructors)

    pub end-within : table_end d t ≤ length d.constructors
    end-within = to.within

    pub first-within : table_first d t ≤ table_end d t
    unfolding below upto
    first-within = go (dec_lt (table_end d t) (table_first d t))
      where
        go : Dec (table_end d t < table_first d t) → table_first d t ≤ table_end d t
        go (yes p) =
            let z = table_end d t in
            let a : table_at d z < t = ltb-true (table_at d z) t (all-at below (table_first d t) z from.before p) in
            let e : t < table_at d z = leb-false (table_at d z) t (to.fails (omega (arith, from.within))) in
            absurd (omega arith)
        go (no p) = omega arith

    -- the constructors between the two have table t ..
    pub in_table : (i : ℕ) → table_first d t ≤ i → i < table_end d t → table_at d i ≡ t
    unfolding below upto
    in_table i p q =
        let f = table_first d t in
        let l : i < length d.constructors = omega (arith, to.within) in
        let a : t ≤ table_at d f = ltb-false (table_at d f) t (from.fails (omega arith)) in
        let b : table_at d f ≤ table_at d i = sorted f i p l in
        let e : table_at d i ≤ t = leb-true (table_at d i) t (all-at upto (table_end d t) i to.before q) in
        omega arith

    -- .. and no others
    pub of-table : (i : ℕ) → i < length d.constructors → table_at d i ≡ t → (table_first d t ≤ i) × (i < table_end d t)
    unfolding below upto
    of-table i l e = (go (dec_lt i (table_first d t)), stop (dec_lt i (table_end d t)))
      where
        go : Dec (i < table_first d t) → table_first d t ≤ i
        go (yes p) =
            let h : table_at d i < t = ltb-true (table_at d i) t (all-at below (table_first d t) i from.before p) in
            absurd (omega arith)
        go (no p) = omega arith

        stop : Dec (i < table_end d t) → i < table_end d t
        stop (yes p) = p
        stop (no p) =
            let z = table_end d t in
            let h : t < table_at d z = leb-false (table_at d z) t (to.fails (omega arith)) in
            let s : table_at d z ≤ table_at d i = sorted z i (omega arith) l in
            absurd (omega arith)

    -- a table that has a constructor is one whose range is not empty
    pub has-range : has_table d t ≡ ltb (table_first d t) (table_end d t)
    unfolding has_table
    has-range =
        same (has_table d t) (ltb (table_first d t) (table_end d t))
        (λ e.
        let r = any_found (λ i. eqb (table_at d i) t) (length d.constructors) e in
        let w = of-table r.0 r.1 (eqb-true (table_at d r.0) t r.2) in
        lt-ltb (table_first d t) (table_end d t) (omega (arith, w.0, w.1)))
        (λ e.
        let p : table_first d t < table_end d t = ltb-true (table_first d t) (table_end d t) e in
        any_at (λ i. eqb (table_at d i) t) (length d.constructors) (table_first d t) (omega (arith, to.within))
        (eq-eqb (table_at d (table_first d t)) t (in_table (table_first d t) (omega arith) p)))

-- the end of a table is where the next number's constructors would start
pub end_is : (d : Description) (t : ℕ) → table_end d t ≡ table_first d (t + 1)
unfolding table_end table_first
end_is d t = ap (first_below (length d.constructors)) (fun_ext (λ i. go (table_at d i)))
  where
    go : (a : ℕ) → leb a t ≡ ltb a (t + 1)
    go a =
        same (leb a t) (ltb a (t + 1)) (λ e. let h : a ≤ t = leb-true a t e in lt-ltb a (t + 1) (omega arith))
        (λ e. let h : a < t + 1 = ltb-true a (t + 1) e in le-leb a t (omega arith))
