-- Numbers put into a list at a place, and rows written behind, or before, rows that are there.
use Prim.Native.Nat.{ℕ, suc, ◌+◌, ◌*◌, ◌≤◌}
use mathlib.Core.Bool.{Bool, true, false, cond}
use mathlib.Core.List.{List, [], ◌∷◌, ◌++◌, append_assoc}
use mathlib.Core.Path.{◌≡◌, refl, sym, ap, ◌∙◌}
use native.Mathlib.Omega.{arith}
use borrow.Author.Tests.{eqb-true, eq-eqb, ne_eqb}
use lib.Dec.{eqb}
use lib.IntN.{ℤ}
use lib.ListN.{length, take, drop, set, length-append, length-drop, take-append-drop}
use lib.Seq.{sets-eq, take_at, drop_at, take-append-le, take-take, drop-drop, length-take-le}
use Rattle.format.specs.Numbers.{most_rows}
use Rattle.walk_steps.specs.Scratch.{scratch_numbers, scratch_length, SizedRow, scratch_row, scratch_of, put_at, written}

-- five stores in a row
pub put_five : (l : List ℤ) (k : ℕ) (a b c d e : ℤ) → k + 5 ≤ length l
    → set (set (set (set (set l k a) (k + 1) b) (k + 2) c) (k + 3) d) (k + 4) e ≡ put_at k (a ∷ b ∷ c ∷ d ∷ e ∷ []) l
unfolding put_at
put_five l k a b c d e h =
    let p : k + 1 ≡ suc k = omega arith in
    let q : k + 2 ≡ suc (suc k) = omega arith in
    let r : k + 3 ≡ suc (suc (suc k)) = omega arith in
    let s : k + 4 ≡ suc (suc (suc (suc k))) = omega arith in
    rw (p, q, r, s) (sets-eq (a ∷ b ∷ c ∷ d ∷ e ∷ []) l k h ∙ append_assoc (take k l) (a ∷ b ∷ c ∷ d ∷ e ∷ []) (drop (k + 5) l))

pub put-length : (k : ℕ) (w l : List ℤ) → k + length w ≤ length l → length (put_at k w l) ≡ length l
unfolding put_at
put-length k w l h =
    omega (arith, length-append (take k l) (w ++ drop (k + length w) l), length-append w (drop (k + length w) l), length-take-le k l (omega arith), length-drop (k + length w) l)

-- b put behind a
put-behind : (k : ℕ) (a b l : List ℤ) → k + length a + length b ≤ length l → put_at (k + length a) b (put_at k a l) ≡ put_at k (a ++ b) l
unfolding put_at
put-behind k a b l h =
    let front = take k l in
    let rest = drop (k + length a) l in
    let long : length (front ++ a) ≡ k + length a = length-append front a ∙ omega (arith, length-take-le k l (omega arith)) in
    let whole : front ++ (a ++ rest) ≡ (front ++ a) ++ rest = sym (append_assoc front a rest) in
    let cut : take (k + length a) (front ++ (a ++ rest)) ≡ front ++ a = rw whole (take_at (front ++ a) rest (k + length a) long) in
    let same : k + length a + length b ≡ k + length (a ++ b) = omega (arith, length-append a b) in
    let left : drop (k + length a + length b) (front ++ (a ++ rest)) ≡ drop (k + length (a ++ b)) l =
    ap (drop (k + length a + length b)) whole
    ∙ sym (drop-drop (length b) (k + length a) ((front ++ a) ++ rest))
    ∙ ap (drop (length b)) (drop_at (front ++ a) rest (k + length a) long)
    ∙ drop-drop (length b) (k + length a) l
    ∙ ap (λ (n : ℕ). drop n l) same in
    rw (cut, left) (append_assoc front a (b ++ drop (k + length (a ++ b)) l) ∙ ap (λ (x : List ℤ). front ++ x) (sym (append_assoc a b (drop (k + length (a ++ b)) l))))

-- a put before b, into the room that was left
put-before : (k : ℕ) (a b l : List ℤ) → k + length a + length b ≤ length l → put_at k a (put_at (k + length a) b l) ≡ put_at k (a ++ b) l
unfolding put_at
put-before k a b l h =
    let front = take (k + length a) l in
    let rest = b ++ drop (k + length a + length b) l in
    let long : length front ≡ k + length a = length-take-le (k + length a) l (omega arith) in
    let cut : take k (front ++ rest) ≡ take k l = take-append-le k front rest (omega arith) ∙ take-take k (k + length a) l (omega arith) in
    let left : drop (k + length a) (front ++ rest) ≡ rest = drop_at front rest (k + length a) long in
    let same : k + length a + length b ≡ k + length (a ++ b) = omega (arith, length-append a b) in
    rw (cut, left)
    (ap (λ (x : List ℤ). take k l ++ x) (sym (append_assoc a b (drop (k + length a + length b) l)))
    ∙ ap (λ (n : ℕ). take k l ++ ((a ++ b) ++ drop n l)) same)

pub scratch-length : (rs : List SizedRow) → length (scratch_of rs) ≡ scratch_numbers * length rs
unfolding scratch_of
scratch-length [] = refl
scratch-length (r ∷ rs) = let e = scratch-length rs in omega arith

pub scratch-append : (a b : List SizedRow) → scratch_of (a ++ b) ≡ scratch_of a ++ scratch_of b
unfolding scratch_of
scratch-append [] b = refl
scratch-append (r ∷ a) b = ap (λ (l : List ℤ). scratch_row r ++ l) (scratch-append a b)

pub written-length : (used : ℕ) (rs : List SizedRow) (l : List ℤ) → used + length rs ≤ most_rows → length (written used rs l) ≡ length l
unfolding written
written-length used rs l h = go (eqb (length l) scratch_length) refl
  where
    go : (t : Bool) → eqb (length l) scratch_length ≡ t → length (cond t (put_at (scratch_numbers * used) (scratch_of rs) l) l) ≡ length l
    go true e = put-length (scratch_numbers * used) (scratch_of rs) l (omega (arith, eqb-true (length l) scratch_length e, scratch-length rs))
    go false e = refl

-- where no rows are kept
pub unwritten : (used : ℕ) (rs : List SizedRow) (l : List ℤ) → (length l ≡ scratch_length → ⊥) → l ≡ written used rs l
unfolding written
unwritten used rs l h = rw (ne_eqb (length l) scratch_length h)

pub written_row : (used : ℕ) (r : SizedRow) (l new : List ℤ) → length l ≡ scratch_length → new ≡ put_at (scratch_numbers * used) (scratch_row r) l
    → new ≡ written used (r ∷ []) l
unfolding written scratch_of
written_row used r l new h e = rw (eq-eqb (length l) scratch_length h) e

pub written_none : (used : ℕ) (l : List ℤ) → used ≤ most_rows → l ≡ written used [] l
unfolding written scratch_of put_at
written_none used l h = go (eqb (length l) scratch_length) refl
  where
    go : (t : Bool) → eqb (length l) scratch_length ≡ t → l ≡ cond t (take (scratch_numbers * used) l ++ drop (scratch_numbers * used + 0) l) l
    go true e = let z : scratch_numbers * used + 0 ≡ scratch_numbers * used = omega arith in rw z (sym (take-append-drop (scratch_numbers * used) l))
    go false e = refl

module _ (used u : ℕ) (a b : List SizedRow) (l : List ℤ) (e : u ≡ used + length a) (h : u + length b ≤ most_rows) where
  places : scratch_numbers * u ≡ scratch_numbers * used + length (scratch_of a)
  places = omega (arith, scratch-length a)

  pub written_behind : written u b (written used a l) ≡ written used (a ++ b) l
  unfolding written
  written_behind = rw (← len) (go (eqb (length l) scratch_length) refl)
    where
      len : length l ≡ length (written used a l)
      len = sym (written-length used a l (omega arith))

      go : (t : Bool) → eqb (length l) scratch_length ≡ t
          → cond t (put_at (scratch_numbers * u) (scratch_of b) (cond t (put_at (scratch_numbers * used) (scratch_of a) l) l)) (cond t (put_at (scratch_numbers * used) (scratch_of a) l) l)
          ≡ cond t (put_at (scratch_numbers * used) (scratch_of (a ++ b)) l) l
      go true q =
          rw (places, scratch-append a b)
          (put-behind (scratch_numbers * used) (scratch_of a) (scratch_of b) l
          (omega (arith, eqb-true (length l) scratch_length q, scratch-length a, scratch-length b)))
      go false q = refl

  pub written-before : written used a (written u b l) ≡ written used (a ++ b) l
  unfolding written
  written-before = rw (← len) (go (eqb (length l) scratch_length) refl)
    where
      len : length l ≡ length (written u b l)
      len = sym (written-length u b l h)

      go : (t : Bool) → eqb (length l) scratch_length ≡ t
          → cond t (put_at (scratch_numbers * used) (scratch_of a) (cond t (put_at (scratch_numbers * u) (scratch_of b) l) l)) (cond t (put_at (scratch_numbers * u) (scratch_of b) l) l)
          ≡ cond t (put_at (scratch_numbers * used) (scratch_of (a ++ b)) l) l
      go true q =
          rw (places, scratch-append a b)
          (put-before (scratch_numbers * used) (scratch_of a) (scratch_of b) l
          (omega (arith, eqb-true (length l) scratch_length q, scratch-length a, scratch-length b)))
      go false q = refl
