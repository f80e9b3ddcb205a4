-- piece_fits, tested by the marks of the operands shown so far.
use Prim.Native.Nat.{ℕ, ◌%◌, ◌<◌, ◌≤◌}
use mathlib.Core.Bool.{Bool, true, false, not, ◌&&◌, ◌||◌}
use mathlib.Core.List.{List}
use mathlib.Core.Path.{◌≡◌, refl}
use native.Mathlib.Omega.{arith}
use borrow.Author.Tests.{leb-true}
use lib.Dec.{eqb, leb}
use lib.ListN.{get_or}
use Rattle.lists.specs.Below.{any_below}
use Rattle.lists.proofs.Bools.{and_no, and3}
use Rattle.format.specs.Numbers.{operands_each}
use Rattle.format.specs.Description.{Description}
use Rattle.format.specs.Rules.{piece_of, piece_fits, shows}
use Rattle.format.specs.declared.Constructor.{Constructor}
use Rattle.format.specs.declared.Piece.{Piece}
use Rattle.rules.specs.Marks.{Marks, shown_marks}

-- A number that no operand has is refused before its mark is looked at, so the marks may be read at n % shown_marks.
seen : (n operands : ℕ) (list : List Bool) (shown : ℕ → Bool) → operands ≤ operands_each → Marks shown_marks list shown
    → (leb 1 n && leb n operands && not (get_or list (n % shown_marks) false)) ≡ (leb 1 n && leb n operands && not (shown n))
seen n operands list shown h m = go (leb n operands) refl
  where
    go : (t : Bool) → leb n operands ≡ t
        → (leb 1 n && leb n operands && not (get_or list (n % shown_marks) false)) ≡ (leb 1 n && leb n operands && not (shown n))
    go false e = rw (e, and_no (leb 1 n) false refl)
    go true e =
        let l : n ≤ operands = leb-true n operands e in
        let s : n % shown_marks ≡ n = omega arith in
        rw (s, m.marked n (omega arith))

module _ (d : Description) (c : Constructor) (q : ℕ) (p : Piece) (e : p ≡ piece_of d c q) where
  -- the test that the marks decide is the rule
  pub piece-fits : (list : List Bool) → c.operands.count ≤ operands_each → Marks shown_marks list (λ n. any_below q (shows d c n))
      → (not (eqb p.kind 1) || (leb 1 p.n && leb p.n c.operands.count && not (get_or list (p.n % shown_marks) false)))
      ≡ piece_fits d c q
  unfolding piece_fits
  piece-fits list h m = rw (← e, seen p.n c.operands.count list (λ n. any_below q (shows d c n)) h m)

  -- a piece that fits marks its operand, if it shows one
  pub piece-shows : c.operands.count ≤ operands_each → piece_fits d c q ≡ true → (n : ℕ) → n < shown_marks
      → shows d c n q ≡ (eqb p.kind 1 && eqb (p.n % shown_marks) n)
  unfolding piece_fits shows
  piece-shows h f n l = rw (← e) (go (eqb p.kind 1) (rw (← e) at f))
    where
      go : (t : Bool)
          → (not t || (leb 1 p.n && leb p.n c.operands.count && not (any_below q (shows d c p.n)))) ≡ true
          → (t && eqb p.n n) ≡ (t && eqb (p.n % shown_marks) n)
      go false g = refl
      go true g =
          let r = and3 (leb 1 p.n) (leb p.n c.operands.count) (not (any_below q (shows d c p.n))) g in
          let b : p.n ≤ c.operands.count = leb-true p.n c.operands.count r.1 in
          let s : p.n % shown_marks ≡ p.n = omega arith in
          rw s
