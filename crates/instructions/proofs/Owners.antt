-- In the rows of a tree the owner of an operand is its constructor, and what is gathered there is what the tree's operands count as.
use Prim.Native.Nat.{ℕ, zero, suc, ◌+◌, ◌-◌, ◌≤◌, ◌<◌}
use mathlib.Core.List.{List, [], ◌∷◌, ◌++◌}
use mathlib.Core.Path.{◌≡◌, refl, ap}
use native.Mathlib.Decide.{ℕ_discrete, dec_lt}
use native.Mathlib.Omega.{arith}
use borrow.Author.Tests.{lt-ltb, le-ltb}
use lib.IntN.{ℤ, pos}
use lib.ListN.{length, replicate, length-append}
use Rattle.format.specs.Description.{Description}
use Rattle.decoding_spec.specs.Tree.{Node, Nodes, built, numbered, named, computed, none, more}
use Rattle.decoding_spec.specs.Instruction.{counts_as, counts_of}
use Rattle.decoding_theorems.specs.Facts.{count_of}
use Rattle.walk_steps.specs.Scratch.{sized_of, sized_of_all}
use Rattle.scratch_rows.specs.Places.{size_at}
use Rattle.scratch_rows.proofs.Standing.{rows-some, Stands, stands-first, kind-is, number_is, last-is, part-size, neighbours, inner}
use Rattle.instructions.specs.Settling.{owner_below, count_at, counts_from}

module _ (rows : List ℤ) where
  -- the last row whose part reaches past q
  pub owner-is : (q k m : ℕ) → k < m → q < k + size_at rows k → ((j : ℕ) → k < j → j < m → j + size_at rows j ≤ q) → owner_below rows q m ≡ k
  unfolding owner_below
  owner-is q k zero l s h = absurd (omega arith)
  owner-is q k (suc m) l s h = go (ℕ_discrete k m) (λ p. owner-is q k m p s (λ j a b. h j a (omega arith)))
    where
      go : Dec (k ≡ m) → (k < m → owner_below rows q m ≡ k) → owner_below rows q (suc m) ≡ k
      go (yes e) below = rw (← e, lt-ltb q (k + size_at rows k) s)
      go (no e) below = rw (le-ltb q (m + size_at rows m) (h m (omega arith) (omega arith))) (below (omega arith))

  -- no part within a part reaches past it
  mutual
    unfolding sized_of sized_of_all

    pub part-ends : (n : Node) (r : ℕ) (rest : List ℤ) → Stands rows r (sized_of n) rest → (j : ℕ) → r ≤ j → j < r + length (sized_of n)
        → j + size_at rows j ≤ r + length (sized_of n)
    part-ends (built k s l f) r rest h j a b = go (ℕ_discrete j r) (λ p q. parts-end f (r + 1) rest (inner rows k s l f r rest h) j p q)
      where
        go : Dec (j ≡ r) → (r + 1 ≤ j → j < r + 1 + length (sized_of_all f) → j + size_at rows j ≤ r + 1 + length (sized_of_all f))
            → j + size_at rows j ≤ r + length (sized_of (built k s l f))
        go (yes e) within = rw e (omega (arith, part-size rows (built k s l f) r rest h))
        go (no e) within = let z = within (omega arith) (omega arith) in omega arith
    part-ends (numbered i s v) r rest h j a b = let e : j ≡ r = omega arith in rw e (omega (arith, part-size rows (numbered i s v) r rest h))
    part-ends (named i s n) r rest h j a b = let e : j ≡ r = omega arith in rw e (omega (arith, part-size rows (named i s n) r rest h))
    part-ends (computed i s v) r rest h j a b = let e : j ≡ r = omega arith in rw e (omega (arith, part-size rows (computed i s v) r rest h))

    parts-end : (f : Nodes) (r : ℕ) (rest : List ℤ) → Stands rows r (sized_of_all f) rest → (j : ℕ) → r ≤ j → j < r + length (sized_of_all f)
        → j + size_at rows j ≤ r + length (sized_of_all f)
    parts-end none r rest h j a b = absurd (omega arith)
    parts-end (more n f) r rest h j a b =
        let own = stands-first rows r (sized_of n) (sized_of_all f) rest h in
        go (dec_lt j (r + length (sized_of n))) (λ p. part-ends n r _ own j a p)
        (λ p q. parts-end f (r + size_at rows r) rest (neighbours rows n f r rest h) j p q)
        (part-size rows n r _ own) (length-append (sized_of n) (sized_of_all f))
      where
        go : Dec (j < r + length (sized_of n)) → (j < r + length (sized_of n) → j + size_at rows j ≤ r + length (sized_of n))
            → (r + size_at rows r ≤ j → j < r + size_at rows r + length (sized_of_all f) → j + size_at rows j ≤ r + size_at rows r + length (sized_of_all f))
            → size_at rows r ≡ length (sized_of n) → length (sized_of n ++ sized_of_all f) ≡ length (sized_of n) + length (sized_of_all f)
            → j + size_at rows j ≤ r + length (sized_of n ++ sized_of_all f)
        go (yes p) first others size few = omega (arith, first p)
        go (no p) first others size few = omega (arith, others (omega arith) (omega arith))

  module _ (d : Description) where
    count-is : (n : Node) (r : ℕ) (rest : List ℤ) → Stands rows r (sized_of n) rest → count_at d rows r ≡ counts_as d n
    unfolding sized_of count_at counts_as
    count-is (built k s l f) r rest h = rw (kind-is rows r _ (sized_of_all f) rest h)
    count-is (numbered i s v) r rest h = rw (kind-is rows r _ [] rest h) (last-is rows r _ [] rest h)
    count-is (named i s n) r rest h = rw (kind-is rows r _ [] rest h, number_is rows r _ [] rest h, last-is rows r _ [] rest h)
    count-is (computed i s v) r rest h = rw (kind-is rows r _ [] rest h)

    pub no_more : (row end left : ℕ) → end ≤ row → counts_from d rows row end left ≡ replicate left (pos 0)
    unfolding counts_from
    no_more row end zero h = refl
    no_more row end (suc left) h = rw (le-ltb row end h) (ap (λ (l : List ℤ). pos 0 ∷ l) (no_more row end left h))

    pub counts-are : (f : Nodes) (r end left : ℕ) (rest : List ℤ) → Stands rows r (sized_of_all f) rest → end ≡ r + length (sized_of_all f) → count_of f ≤ left
        → counts_from d rows r end left ≡ counts_of d f ++ replicate (left - count_of f) (pos 0)
    unfolding sized_of_all count_of counts_of counts_from
    counts-are none r end left rest h e l = let z : left - 0 ≡ left = omega arith in rw z (no_more r end left (omega arith))
    counts-are (more n f) r end zero rest h e l = absurd (omega arith)
    counts-are (more n f) r end (suc left) rest h e l =
        let own = stands-first rows r (sized_of n) (sized_of_all f) rest h in
        let few = length-append (sized_of n) (sized_of_all f) in
        let z : suc left - (1 + count_of f) ≡ left - count_of f = omega arith in
        rw (lt-ltb r end (omega (arith, few, rows-some n)), z, count-is n r _ own)
        (ap (λ (l : List ℤ). counts_as d n ∷ l)
        (counts-are f (r + size_at rows r) end left rest (neighbours rows n f r rest h) (omega (arith, few, part-size rows n r _ own)) (omega arith)))
