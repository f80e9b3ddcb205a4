-- Choosing, by what each answer says of the table.
use Prim.Native.Nat.{ℕ, ◌<◌}
use mathlib.Core.Bool.{Bool, true, false, cond, not, ◌||◌, false≢true}
use mathlib.Core.List.{List}
use mathlib.Core.Path.{◌≡◌, refl, sym, ◌∙◌}
use native.Mathlib.Decide.{ℕ_discrete}
use native.Mathlib.Omega.{arith}
use borrow.Author.Tests.{eq-eqb, ne_eqb, eqb-true, eqb-false, lt-ltb, ltb-true, not-false}
use lib.Dec.{eqb, ltb}
use Rattle.std.specs.Prelude.{Result, Ok, Err}
use Rattle.lists.specs.Below.{all_below, any_below}
use Rattle.lists.proofs.Below.{all_of, all-at, any_at, first-is, first-stop}
use Rattle.lists.proofs.Bools.{and_left, and_right, and_both, or_no, or_yes}
use Rattle.choosing_spec.specs.Choosing.{short, matching, innermost, taken, alone, choose}
use Rattle.choosing_spec.specs.declared.NotChosen.{NotChosen}
use Rattle.choosing_spec.specs.declared.NotChosen.TheVariants.{Short, NoMatch, Ambiguous}
use Rattle.format.specs.declared.Pattern.{Pattern}
use Rattle.patterns.specs.Relations.{inside}
use Rattle.choosing_theorems.specs.Taken.{TakenFacts, Strict}
use Rattle.choosing_theorems.proofs.Inside.{inside-trans}
use Rattle.choosing_theorems.proofs.None.{none-at, none_of}

module _ (at : ℕ → Pattern) (n : ℕ) (s : List ℕ) (c : ℕ) where
  -- record i lies inside all other matching ones
  abbrev pub Below : ℕ → Type 0
  Below i = (j : ℕ) → j < n → (j ≡ i → ⊥) → matching at n s c j ≡ true → inside (at i) (at j) ≡ true

  abbrev is_below : ℕ → ℕ → Bool
  is_below i j = eqb i j || not (matching at n s c j) || inside (at i) (at j)

  -- innermost, taken apart and put together
  pub inner-matches : (i : ℕ) → innermost at n s c i ≡ true → matching at n s c i ≡ true
  unfolding innermost
  inner-matches i e = and_left (matching at n s c i) (all_below n (is_below i)) e

  pub inner_below : (i : ℕ) → innermost at n s c i ≡ true → Below i
  unfolding innermost
  inner_below i e j h d m =
      rw (ne_eqb i j (λ q. d (sym q)), m) at (all-at (is_below i) n j (and_right (matching at n s c i) (all_below n (is_below i)) e) h)

  pub inner : (i : ℕ) → matching at n s c i ≡ true → Below i → innermost at n s c i ≡ true
  unfolding innermost
  inner i m f =
      and_both (matching at n s c i) (all_below n (is_below i)) m
      (all_of (is_below i) n (λ j h. go j h (eqb i j) refl (matching at n s c j) refl))
    where
      go : (j : ℕ) → j < n → (b : Bool) → eqb i j ≡ b → (t : Bool) → matching at n s c j ≡ t → b || not t || inside (at i) (at j) ≡ true
      go j h true p t q = refl
      go j h false p true q = f j h (λ e. eqb-false i j p (sym e)) q
      go j h false p false q = refl

  -- the one that is alone innermost lies strictly below the others: one that also lay inside it would be innermost too
  pub lone-strict : (t : ℕ) → t < n → innermost at n s c t ≡ true → ((j : ℕ) → j < n → innermost at n s c j ≡ true → j ≡ t)
      → Strict at n s c t
  lone-strict t l e only =
      record {
        within = l;
        matches = inner-matches t e;
        above = λ j h d m. (inner_below t e j h d m, go j h d m (inside (at j) (at t)) refl);
      }
    where
      low : (j : ℕ) → matching at n s c j ≡ true → inside (at j) (at t) ≡ true → Below j
      low j m q k h d r = look (ℕ_discrete k t)
        where
          look : Dec (k ≡ t) → inside (at j) (at k) ≡ true
          look (yes z) = rw z q
          look (no z) = inside-trans (at j) (at t) (at k) q (inner_below t e k h z r)

      go : (j : ℕ) → j < n → (j ≡ t → ⊥) → matching at n s c j ≡ true → (b : Bool) → inside (at j) (at t) ≡ b → b ≡ false
      go j h d m true q = absurd (d (only j h (inner j m (low j m q))))
      go j h d m false q = refl

  -- the strict one is innermost, and no other is
  strict-inner : (t : ℕ) → Strict at n s c t → innermost at n s c t ≡ true
  strict-inner t r = inner t r.matches (λ j h d m. (r.above j h d m).0)

  strict-only : (t : ℕ) → Strict at n s c t → (j : ℕ) → j < n → innermost at n s c j ≡ true → j ≡ t
  strict-only t r j h e = go (ℕ_discrete j t)
    where
      go : Dec (j ≡ t) → j ≡ t
      go (yes q) = q
      go (no d) =
          absurd (false≢true (sym (r.above j h d (inner-matches j e)).1 ∙ inner_below j e t r.within (λ q. d (sym q)) r.matches))

  others : (t : ℕ) → Strict at n s c t → (i : ℕ) → i < n → (i ≡ t → ⊥) → innermost at n s c i ≡ false
  others t r i h d = go (innermost at n s c i) refl
    where
      go : (b : Bool) → innermost at n s c i ≡ b → b ≡ false
      go true q = absurd (d (strict-only t r i h q))
      go false q = refl

  -- what the definition finds is such a one ..
  alone-strict : alone at n s c ≡ true → Strict at n s c (taken at n s c)
  unfolding alone taken
  alone-strict e =
      let t : ℕ = taken at n s c in
      let is_other : ℕ → Bool = λ i. eqb i t || not (innermost at n s c i) in
      let l : t < n = ltb-true t n (and_left (ltb t n) (all_below n is_other) e) in
      let all : all_below n is_other ≡ true = and_right (ltb t n) (all_below n is_other) e in
      lone-strict t l (not-false (innermost at n s c t) ((first-is (λ i. not (innermost at n s c i)) n).fails l))
      (λ j h q. eqb-true j t (sym (or_no (eqb j t)) ∙ (rw q at (all-at is_other n j all h))))

  -- .. and it finds each such one
  strict-taken : (t : ℕ) → Strict at n s c t → taken at n s c ≡ t
  unfolding taken
  strict-taken t r =
      let l : t < n = r.within in
      first-stop (λ i. not (innermost at n s c i)) n t
      (all_of (λ i. not (innermost at n s c i)) t (λ i h. rw (others t r i (omega arith) (λ e. omega arith)))) l (rw (strict-inner t r))

  strict-alone : (t : ℕ) → Strict at n s c t → alone at n s c ≡ true
  unfolding alone
  strict-alone t r =
      rw (strict-taken t r)
      (and_both (ltb t n) (all_below n is_other) (lt-ltb t n r.within) (all_of is_other n (λ i h. go i h (ℕ_discrete i t))))
    where
      is_other : ℕ → Bool
      is_other i = eqb i t || not (innermost at n s c i)

      go : (i : ℕ) → i < n → Dec (i ≡ t) → is_other i ≡ true
      go i h (yes e) = rw (eq-eqb i t e)
      go i h (no d) = rw (others t r i h d) (or_yes (eqb i t))

  -- "1. Short, if some pattern agrees with the context and all bytes present and masks a bit of a missing byte."
  pub choose-short : (i : ℕ) → i < n → short at n s c i ≡ true → choose at n s c ≡ Err Short
  unfolding choose
  choose-short i h e = rw (any_at (short at n s c) n i h e)

  -- "3. Taken is the matching constructor inside all other matching ones" ..
  pub choose-taken : any_below n (short at n s c) ≡ false → (t : ℕ) → Strict at n s c t → choose at n s c ≡ Ok t
  unfolding choose
  choose-taken e t r =
      rw (e, any_at (matching at n s c) n t r.within r.matches, strict-alone t r, strict-taken t r)

  -- .. "if there is none such, or more than one, ambiguous."
  pub choose-ambiguous : any_below n (short at n s c) ≡ false → any_below n (matching at n s c) ≡ true
      → ((t : ℕ) → Strict at n s c t → ⊥) → choose at n s c ≡ Err Ambiguous
  unfolding choose
  choose-ambiguous e m f = rw (e, m) (go (alone at n s c) refl)
    where
      go : (b : Bool) → alone at n s c ≡ b → cond b (Ok (taken at n s c)) (Err Ambiguous) ≡ Err Ambiguous
      go true q = absurd (f (taken at n s c) (alone-strict q))
      go false q = refl

  -- "2. No match, if none matches."
  pub no-match-back : ((i : ℕ) → i < n → (matching at n s c i ≡ false) × (short at n s c i ≡ false)) → choose at n s c ≡ Err NoMatch
  unfolding choose
  no-match-back f =
      rw (none_of (short at n s c) n (λ i h. (f i h).1), none_of (matching at n s c) n (λ i h. (f i h).0))

  -- the four answers, each with what it says
  pub data Answer (r : Result ℕ NotChosen) : Type 0 where
    cut : any_below n (short at n s c) ≡ true → r ≡ Err Short → Answer r
    none : any_below n (short at n s c) ≡ false → any_below n (matching at n s c) ≡ false → r ≡ Err NoMatch → Answer r
    one : any_below n (short at n s c) ≡ false → (t : ℕ) → Strict at n s c t → r ≡ Ok t → Answer r
    torn : any_below n (short at n s c) ≡ false → any_below n (matching at n s c) ≡ true → ((t : ℕ) → Strict at n s c t → ⊥)
        → r ≡ Err Ambiguous → Answer r

  pub answer : Answer (choose at n s c)
  unfolding choose
  answer = go (any_below n (short at n s c)) refl (any_below n (matching at n s c)) refl (alone at n s c) refl
    where
      go : (x : Bool) → any_below n (short at n s c) ≡ x → (y : Bool) → any_below n (matching at n s c) ≡ y → (z : Bool) → alone at n s c ≡ z
          → Answer (cond x (Err Short) (cond y (cond z (Ok (taken at n s c)) (Err Ambiguous)) (Err NoMatch)))
      go true p y q z r = cut p refl
      go false p false q z r = none p q refl
      go false p true q true r = one p (taken at n s c) (alone-strict r) refl
      go false p true q false r = torn p q (λ t h. false≢true (sym r ∙ strict-alone t h)) refl

  -- what "taken" says
  pub taken-strict : (t : ℕ) → choose at n s c ≡ Ok t → Strict at n s c t
  taken-strict t e = go answer
    where
      go : Answer (choose at n s c) → Strict at n s c t
      go (cut p q) = cc
      go (none p m q) = cc
      go (one p u r q) = let z : u ≡ t = cc in rw z at r
      go (torn p m f q) = cc

  -- the same in the words of the sentence: inside all other matching ones, and the only such one
  pub taken-facts : (t : ℕ) → choose at n s c ≡ Ok t → TakenFacts at n s c t
  taken-facts t e =
      let r : Strict at n s c t = taken-strict t e in
      record { within = r.within; matches = r.matches; inmost = λ j h d m. (r.above j h d m).0; only = strict-only t r }

  -- what "no match" says: none matches, and none is cut short
  pub no-match : choose at n s c ≡ Err NoMatch → (i : ℕ) → i < n → (matching at n s c i ≡ false) × (short at n s c i ≡ false)
  no-match e i h = go answer
    where
      go : Answer (choose at n s c) → (matching at n s c i ≡ false) × (short at n s c i ≡ false)
      go (cut p q) = cc
      go (none p m q) = (none-at (matching at n s c) n m i h, none-at (short at n s c) n p i h)
      go (one p t r q) = cc
      go (torn p m f q) = cc
