-- What is known of a part behind a writer, and of the whole that it is a part of.
use Prim.Native.Nat.{ℕ, suc, ◌+◌, ◌-◌, ◌≤◌, ◌<◌}
use mathlib.Core.Bool.{Bool, true, false, cond}
use mathlib.Core.List.{List, [], ◌∷◌, ◌++◌, append_assoc, append-nil}
use mathlib.Core.Path.{◌≡◌, refl, sym, ◌∙◌, ap}
use native.Mathlib.Numerals.{add-one}
use native.Mathlib.Omega.{arith}
use borrow.Author.Tests.{leb-true, leb-false, le-leb}
use lib.Dec.{leb}
use lib.ListN.{length, take, drop, set, get_or, length-append, length-drop, take-append-drop, drop_of_length-le}
use lib.Seq.{take-suc, drop-cons, set_at, length-take-le, take_all, take_at, drop_at, drop-drop}
use Rattle.std.specs.Prelude.{Option, Some, None}
use Rattle.printing.specs.Writing.{over, Puts}

pub over-length : (w l : List ℕ) → length w ≤ length l → length (over w l) ≡ length l
unfolding over
over-length w l h = simp (length-append, length-drop) (omega arith)

pub over-append : (a b l : List ℕ) → over (a ++ b) l ≡ a ++ over b (drop (length a) l)
unfolding over
over-append a b l = rw (length-append, ← drop-drop (length b) (length a) l, append_assoc)

-- a list is its own first bytes over itself: where a chain of writers starts
pub over-take : (at : ℕ) (l : List ℕ) → at ≤ length l → l ≡ over (take at l) l
unfolding over
over-take at l h = sym (rw length-take-le (take-append-drop at l))

-- the whole behind a writer that was lent its part from s on
pub part-over : (a b l : List ℕ) {L mid : List ℕ} {s : ℕ} → s ≡ length a → L ≡ over a l
    → mid ≡ over b (take (length L - s) (drop s L))
    → take s L ++ (mid ++ drop (length L - s) (drop s L)) ≡ over (a ++ b) l
unfolding over
part-over a b l {L} {mid} {s} e p m =
    let front : take s L ≡ a = rw p (take_at a (drop (length a) l) s (sym e)) in
    let back : drop s L ≡ drop (length a) l = rw p (drop_at a (drop (length a) l) s (sym e)) in
    let n : length (drop s L) ≡ length L - s = length-drop s L in
    let whole : mid ≡ over b (drop (length a) l) = m ∙ ap (over b) (take_all (length L - s) (drop s L) (omega arith) ∙ back) in
    let none : drop (length L - s) (drop s L) ≡ [] = drop_of_length-le (drop s L) {i = length L - s} (omega arith) in
    rw (none, append-nil, front, whole) (sym (over-append a b l))

-- what is known where a writer wrote
pub record Done (w before after : List ℕ) (n : ℕ) : Type 0 where
  pub fits : length w ≤ length before
  pub count : n ≡ length w
  pub is : after ≡ over w before

pub puts-wrote : {w before after : List ℕ} {r : Option ℕ} {n : ℕ} → Puts w before after r → r ≡ Some n → Done w before after n
puts-wrote {w} {before} {after} {r} {n} p e = go (leb (length w) (length before)) refl p.answer p.holds
  where
    go : (b : Bool) → leb (length w) (length before) ≡ b → r ≡ cond b (Some (length w)) None → after ≡ cond b (over w before) before
        → Done w before after n
    go true h a q = record { fits = leb-true _ _ h; count = cc; is = q }
    go false h a q = let z : ◌≡◌ {A = ℕ} 0 1 = cc in absurd (omega arith)

pub puts-full : {w before after : List ℕ} {r : Option ℕ} → Puts w before after r → r ≡ None → (length before < length w) × (after ≡ before)
puts-full {w} {before} {after} {r} p e = go (leb (length w) (length before)) refl p.answer p.holds
  where
    go : (b : Bool) → leb (length w) (length before) ≡ b → r ≡ cond b (Some (length w)) None → after ≡ cond b (over w before) before
        → (length before < length w) × (after ≡ before)
    go true h a q = let z : ◌≡◌ {A = ℕ} 0 1 = cc in absurd (omega arith)
    go false h a q = (leb-false _ _ h, q)

pub puts-done : (w before : List ℕ) {after : List ℕ} → length w ≤ length before → after ≡ over w before
    → Puts w before after (Some (length w))
puts-done w before h e = record { answer = rw (le-leb _ _ h); holds = rw (le-leb _ _ h) e }

-- one byte more copied
pub copy_more : (w l : List ℕ) (i : ℕ) → i < length w → length w ≤ length l
    → set (over (take i w) l) i (get_or w i 0) ≡ over (take (i + 1) w) l
unfolding over
copy_more w l i h f =
    let a : length (take i w) ≡ i = length-take-le i w (omega arith) in
    let b : length (take (suc i) w) ≡ suc i = length-take-le (suc i) w (omega arith) in
    let d : drop i l ≡ get_or l i 0 ∷ drop (suc i) l = drop-cons l i 0 (omega arith) in
    rw (add-one, a, b, d, set_at (take i w) (get_or l i 0) (drop (suc i) l) (get_or w i 0) i a, take-suc w i 0 h, append_assoc)
