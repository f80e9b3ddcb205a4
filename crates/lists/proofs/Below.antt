-- Laws of all_below, any_below and first_below: what a loop knows at a turn, where it stops and at its end.
use Prim.Native.Nat.{ℕ, zero, suc, ◌+◌, ◌<◌, ◌≤◌}
use mathlib.Core.Path.{◌≡◌, refl, sym, ◌∙◌}
use mathlib.Core.Bool.{Bool, true, false, cond, ◌&&◌, ◌||◌, not, false≢true}
use native.Mathlib.Numerals.{add-one}
use native.Mathlib.Decide.{dec_lt}
use native.Mathlib.Omega.{arith}
use lib.Dec.{ltb}
use borrow.Author.Tests.{ltb-true, ltb-false}
use Rattle.lists.specs.Below.{all_below, any_below, first_below}
use Rattle.lists.proofs.Bools.{and_both, and_no, or_yes}

module _ (ok : ℕ → Bool) where
  -- before the first turn
  pub all_none : all_below 0 ok ≡ true
  unfolding all_below
  all_none = refl

  -- one turn more
  pub all_more : (i : ℕ) → all_below i ok ≡ true → ok i ≡ true → all_below (i + 1) ok ≡ true
  unfolding all_below
  all_more i p q = rw add-one (and_both (all_below i ok) (ok i) p q)

  -- the same, for a loop that keeps the answer so far
  pub all-next : (i : ℕ) → all_below (i + 1) ok ≡ (all_below i ok && ok i)
  unfolding all_below
  all-next i = rw add-one

  pub all_keep : (i : ℕ) (good test : Bool) → good ≡ all_below i ok → (good ≡ true → test ≡ ok i) → (good && test) ≡ all_below (i + 1) ok
  all_keep i true test e f = rw (all-next i, ← e) (f refl)
  all_keep i false test e f = rw (all-next i, ← e)

  -- a turn that fails ends the question
  pub all-stop : (n i : ℕ) → i < n → ok i ≡ false → all_below n ok ≡ false
  unfolding all_below
  all-stop zero i h e = absurd (omega arith)
  all-stop (suc n) i h e = go (dec_lt i n) (λ p. all-stop n i p e)
    where
      go : Dec (i < n) → (i < n → all_below n ok ≡ false) → all_below n ok && ok n ≡ false
      go (yes p) f = rw (f p)
      go (no p) f = let s : i ≡ n = omega arith in and_no (all_below n ok) (ok n) (rw s at e)

  -- what the question says of each number
  pub all-at : (n i : ℕ) → all_below n ok ≡ true → i < n → ok i ≡ true
  all-at n i e h = go (ok i) refl
    where
      go : (b : Bool) → ok i ≡ b → b ≡ true
      go true q = refl
      go false q = absurd (false≢true (sym (all-stop n i h q) ∙ e))

  pub all_of : (n : ℕ) → ((i : ℕ) → i < n → ok i ≡ true) → all_below n ok ≡ true
  unfolding all_below
  all_of zero f = refl
  all_of (suc n) f = and_both (all_below n ok) (ok n) (all_of n (λ i h. f i (omega arith))) (f n (omega arith))

  -- what makes i the first number below n that fails, or n
  pub record First (n i : ℕ) : Type 0 where
    pub within : i ≤ n
    pub before : all_below i ok ≡ true
    pub fails : i < n → ok i ≡ false

  next : (n i : ℕ) → First n i → (t : Bool) → ltb i n ≡ t → (b : Bool) → ok n ≡ b → First (suc n) (cond t i (cond b (suc n) n))
  unfolding all_below
  next n i f true p b q =
      let h : i < n = ltb-true i n p in
      record { within = omega arith; before = f.before; fails = λ _. f.fails h }
  next n i f false p true q =
      let h : n ≤ i = ltb-false i n p in
      let s : i ≡ n = omega (arith, f.within) in
      record {
        within = omega arith;
        before = and_both (all_below n ok) (ok n) (rw s at f.before) q;
        fails = λ c. absurd (omega arith);
      }
  next n i f false p false q =
      let h : n ≤ i = ltb-false i n p in
      let s : i ≡ n = omega (arith, f.within) in
      record { within = omega arith; before = rw s at f.before; fails = λ _. q }

  -- the search finds it ..
  pub first-is : (n : ℕ) → First n (first_below n ok)
  unfolding first_below all_below
  first-is zero = record { within = omega arith; before = refl; fails = λ h. absurd (omega arith) }
  first-is (suc n) = next n (first_below n ok) (first-is n) (ltb (first_below n ok) n) refl (ok n) refl

  -- .. and there is only one: neither lies before the other
  not-before : {n i j : ℕ} → First n i → First n j → i < j → ⊥
  not-before {n} {i} {j} f g h =
      false≢true (sym (f.fails (omega (arith, g.within))) ∙ all-at j i g.before h)

  first-only : {n i j : ℕ} → First n i → First n j → i ≡ j
  first-only {n} {i} {j} f g =
      let p : ¬ (i < j) = λ h. not-before f g h in
      let q : ¬ (j < i) = λ h. not-before g f h in
      omega arith

  pub first-here : (n i : ℕ) → First n i → first_below n ok ≡ i
  first-here n i f = first-only (first-is n) f

  -- a loop that stops at a number which fails, every one before it having passed, has found it ..
  pub first-stop : (n i : ℕ) → all_below i ok ≡ true → i < n → ok i ≡ false → first_below n ok ≡ i
  first-stop n i a h e = first-only (first-is n) (record { within = omega arith; before = a; fails = λ _. e })

  -- .. and one that comes to n has found none
  pub first_done : (n : ℕ) → all_below n ok ≡ true → first_below n ok ≡ n
  first_done n a = first-only (first-is n) (record { within = omega arith; before = a; fails = λ h. absurd (omega arith) })

  -- a search that comes to n says that every number passes
  pub first-all : (n : ℕ) → n ≤ first_below n ok → all_below n ok ≡ true
  first-all n h =
      let s : first_below n ok ≡ n = omega (arith, (first-is n).within) in
      rw s at (first-is n).before

  pub any_none : any_below 0 ok ≡ false
  unfolding any_below
  any_none = refl

  pub any-more : (i : ℕ) → any_below (i + 1) ok ≡ any_below i ok || ok i
  unfolding any_below
  any-more i = rw add-one

-- tests that agree below n give one answer
pub all_same : (n : ℕ) (f g : ℕ → Bool) → ((i : ℕ) → i < n → f i ≡ g i) → all_below n f ≡ all_below n g
unfolding all_below
all_same zero f g e = refl
all_same (suc n) f g e = rw (all_same n f g (λ i h. e i (omega arith)), e n (omega arith))

module _ (ok : ℕ → Bool) where
  -- one that passes is enough ..
  pub any_at : (n i : ℕ) → i < n → ok i ≡ true → any_below n ok ≡ true
  unfolding any_below
  any_at zero i h e = absurd (omega arith)
  any_at (suc n) i h e = go (dec_lt i n) (λ p. any_at n i p e)
    where
      go : Dec (i < n) → (i < n → any_below n ok ≡ true) → (any_below n ok || ok n) ≡ true
      go (yes p) f = rw (f p)
      go (no p) f = let s : i ≡ n = omega arith in rw (← s, e) (or_yes (any_below i ok))

  -- .. and where the answer is yes there is one
  pub any_found : (n : ℕ) → any_below n ok ≡ true → (i : ℕ) × (i < n) × (ok i ≡ true)
  unfolding any_below
  any_found zero e = absurd (false≢true e)
  any_found (suc n) e = go (any_below n ok) refl e (λ q. any_found n q)
    where
      go : (t : Bool) → any_below n ok ≡ t → (t || ok n) ≡ true → (any_below n ok ≡ true → (i : ℕ) × (i < n) × (ok i ≡ true))
          → (i : ℕ) × (i < suc n) × (ok i ≡ true)
      go true p q f = let r = f p in (r.0, omega (arith, r.1), r.2)
      go false p q f = (n, omega arith, q)

-- every one fails exactly where none passes
pub all-not : (n : ℕ) (ok : ℕ → Bool) → all_below n (λ i. not (ok i)) ≡ not (any_below n ok)
unfolding all_below any_below
all-not zero ok = refl
all-not (suc n) ok = rw (all-not n ok) (go (any_below n ok) (ok n))
  where
    go : (a b : Bool) → (not a && not b) ≡ not (a || b)
    go true b = refl
    go false b = refl

-- two questions at once
pub all-and : (n : ℕ) (f g : ℕ → Bool) → all_below n (λ i. f i && g i) ≡ (all_below n f && all_below n g)
unfolding all_below
all-and zero f g = refl
all-and (suc n) f g = rw (all-and n f g) (go (all_below n f) (all_below n g) (f n) (g n))
  where
    go : (a b x y : Bool) → (a && b && (x && y)) ≡ (a && x && (b && y))
    go false b x y = refl
    go true true x y = refl
    go true false true y = refl
    go true false false y = refl
