-- The clash check, and a table without a clash.
use Prim.Native.Nat.{ℕ, zero, suc, ◌<◌, ◌≤◌}
use mathlib.Core.Bool.{Bool, true, false, cond, not, ◌&&◌, false≢true}
use mathlib.Core.List.{List}
use mathlib.Core.Logic.{◌⊎◌, inl, inr}
use mathlib.Core.Path.{◌≡◌, refl, sym, subst, ◌∙◌}
use native.Mathlib.Decide.{dec_lt}
use native.Mathlib.Omega.{arith}
use borrow.Author.Tests.{eqb-true, lt-ltb, ltb-true, ltb-false, leb-true, leb-false, not-true, not-false}
use lib.Dec.{eqb, ltb, leb}
use Rattle.std.specs.Prelude.{Option, Some, None, Err}
use Rattle.lists.specs.Below.{all_below}
use Rattle.lists.proofs.Below.{First, all-at, any_found, first-is, first-all}
use Rattle.lists.proofs.Bools.{and_left, and_right, and4, or_yes}
use Rattle.choosing_spec.specs.Clashing.{crossing, third, clashing, partner, first_clash, clash_of}
use Rattle.choosing_spec.specs.Choosing.{matching, choose}
use Rattle.choosing_spec.specs.ValidPattern.{ValidPattern}
use Rattle.choosing_spec.specs.declared.NotChosen.TheVariants.{Ambiguous}
use Rattle.format.specs.declared.Pattern.{Pattern}
use Rattle.patterns.specs.Relations.{inside, overlap, overlap_of, equal}
use Rattle.choosing_theorems.specs.Pair.{FirstPair}
use Rattle.choosing_theorems.specs.Taken.{Strict}
use Rattle.choosing_theorems.proofs.Fits.{InBytes, InWord, Fits, matches-fits, fits-matches}
use Rattle.choosing_theorems.proofs.Inside.{inside-self, inside-trans}
use Rattle.choosing_theorems.proofs.Overlap.{Single, twins, both-overlap, union-fits, union-inside, union-swap}
use Rattle.choosing_theorems.proofs.Taken.{Answer, cut, none, one, torn, answer}

module _ (at : ℕ → Pattern) (n : ℕ) where
  abbrev passes : ℕ → ℕ → Bool
  passes i j = not (ltb i j && clashing at n i j)

  -- a later record that passes does not clash
  passed : (i j : ℕ) → i < j → passes i j ≡ true → clashing at n i j ≡ false
  passed i j h e = not-true (clashing at n i j) (rw (lt-ltb i j h) at e)

  -- a record without a partner clashes with none behind it
  quiet : (i : ℕ) → n ≤ partner at n i → (j : ℕ) → i < j → j < n → clashing at n i j ≡ false
  unfolding partner
  quiet i h j l m = passed i j l (all-at (passes i) n j (first-all (passes i) n h) m)

  abbrev is_quiet : ℕ → Bool
  is_quiet i = leb n (partner at n i)

  quiet-before : (m : ℕ) → all_below m is_quiet ≡ true → (i j : ℕ) → i < m → i < j → j < n → clashing at n i j ≡ false
  quiet-before m a i j h = quiet i (leb-true n (partner at n i) (all-at is_quiet m i a h)) j

  -- what stands before a pair that the two searches come to
  before : (i j : ℕ) → First is_quiet n i → First (passes i) n j → (k l : ℕ) → k < l → l < n → (k < i) ⊎ ((k ≡ i) × (l < j))
      → clashing at n k l ≡ false
  before i j f g k l h m (inl a) = quiet-before i f.before k l a h m
  before i j f g k l h m (inr (e, b)) = rw e (passed i l (rw e at h) (all-at (passes i) j l g.before b))

  -- what the searches find
  found : first_clash at n < n → FirstPair at n (first_clash at n) (partner at n (first_clash at n))
  unfolding first_clash partner
  found h =
      let i : ℕ = first_clash at n in
      let j : ℕ = partner at n i in
      let f : First is_quiet n i = first-is is_quiet n in
      let g : First (passes i) n j = first-is (passes i) n in
      let l : j < n = leb-false n j (f.fails h) in
      let e : ltb i j && clashing at n i j ≡ true = not-false (ltb i j && clashing at n i j) (g.fails l) in
      record {
        order = ltb-true i j (and_left (ltb i j) (clashing at n i j) e);
        inside = l;
        clash = and_right (ltb i j) (clashing at n i j) e;
        earlier = before i j f g;
      }

  -- "the pair of records i < j with smallest i, then j, whose patterns are equal, or overlap with neither inside the other and no
  -- third in the table equal to exactly their overlap; else clear"
  pub pair-first : (i j : ℕ) → clash_of at n ≡ Some (i, j) → FirstPair at n i j
  unfolding clash_of
  pair-first i j e = go (ltb (first_clash at n) n) refl e
    where
      go : (b : Bool) → ltb (first_clash at n) n ≡ b → cond {A = Option (ℕ × ℕ)} b (Some (first_clash at n, partner at n (first_clash at n))) None ≡ Some (i, j)
          → FirstPair at n i j
      go true p q =
          let z : ◌≡◌ {A = ℕ × ℕ} (first_clash at n, partner at n (first_clash at n)) (i, j) = cc in
          subst (λ r. FirstPair at n r.0 r.1) z (found (ltb-true (first_clash at n) n p))
      go false p q = cc

  -- in a clear table no two records clash
  pub clear-pairs : clash_of at n ≡ None → (i j : ℕ) → i < j → j < n → clashing at n i j ≡ false
  unfolding clash_of first_clash
  clear-pairs e i j h l = go (ltb (first_clash at n) n) refl e
    where
      go : (b : Bool) → ltb (first_clash at n) n ≡ b → cond {A = Option (ℕ × ℕ)} b (Some (first_clash at n, partner at n (first_clash at n))) None ≡ None
          → clashing at n i j ≡ false
      go true p q = cc
      go false p q = quiet-before n (first-all is_quiet n (ltb-false (first_clash at n) n p)) i j (omega arith) h l

-- equal patterns are one
one-pattern : (a b : Pattern) → equal a b ≡ true → a ≡ b
one-pattern a b e =
    let (p, q, r, u) =
    and4 (eqb a.mask b.mask) (eqb a.value b.value) (eqb a.contextmask b.contextmask)
    (eqb a.contextvalue b.contextvalue) e in
    λ i. record {
      mask = eqb-true a.mask b.mask p i;
      value = eqb-true a.value b.value q i;
      contextmask = eqb-true a.contextmask b.contextmask r i;
      contextvalue = eqb-true a.contextvalue b.contextvalue u i;
    }

-- in a table without a clash no two records lie inside each other: they would be equal
module _ (at : ℕ → Pattern) (n : ℕ) (sound : (i : ℕ) → i < n → ValidPattern (at i)) (clear : clash_of at n ≡ None) where
  before-apart : (i j : ℕ) → i < j → j < n → inside (at i) (at j) ≡ true → inside (at j) (at i) ≡ true → ⊥
  unfolding clashing
  before-apart i j o l p q =
      let clash : clashing at n i j ≡ true = rw (twins (at i) (at j) (sound i (omega arith)) (sound j l) p q) in
      false≢true (sym (clear-pairs at n clear i j o l) ∙ clash)

  pub apart : (i j : ℕ) → i < n → j < n → (i ≡ j → ⊥) → inside (at i) (at j) ≡ true → inside (at j) (at i) ≡ false
  apart i j h l d p = go (inside (at j) (at i)) refl (dec_lt i j)
    where
      go : (b : Bool) → inside (at j) (at i) ≡ b → Dec (i < j) → b ≡ false
      go false q o = refl
      go true q (yes o) = absurd (before-apart i j o l p q)
      go true q (no o) = absurd (before-apart j i (omega (arith, d)) h q p)

-- a table without a clash
module _ (at : ℕ → Pattern) (n : ℕ) (s : List ℕ) (c : ℕ) (sound : (i : ℕ) → i < n → ValidPattern (at i)) (clear : clash_of at n ≡ None) where
  -- a matching record inside both i and j
  record Under (i j : ℕ) : Type 0 where
    it : ℕ
    within : it < n
    matches : matching at n s c it ≡ true
    left : inside (at it) (at i) ≡ true
    right : inside (at it) (at j) ≡ true

  fits : (i : ℕ) → matching at n s c i ≡ true → Fits (InBytes s) (InWord c) (at i)
  unfolding matching
  fits i e = matches-fits (at i) s c e

  module _ (i j : ℕ) (h : i < n) (l : j < n) (p : matching at n s c i ≡ true) (q : matching at n s c j ≡ true) where
    single-byte : Single (InBytes s)
    single-byte k x y u v = sym u.1 ∙ v.1

    single-word : Single (InWord c)
    single-word k x y u v = sym u ∙ v

    -- a third that is their overlap is such a one
    third-under : third at n i j ≡ true → Under i j
    unfolding third matching
    third-under e =
        let both : Pattern = overlap_of (at i) (at j) in
        let (t, m, w) = any_found (λ t. not (eqb t i) && not (eqb t j) && equal (at t) both) n e in
        let z : at t ≡ both = one-pattern (at t) both (and_right (not (eqb t i) && not (eqb t j)) (equal (at t) both) w) in
        record { it = t; within = m; matches = rw z (fits-matches both s c union); left = rw z left; right = rw (z, union-swap (at i) (at j)) right }
      where
        union : Fits (InBytes s) (InWord c) (overlap_of (at i) (at j))
        union = union-fits (at i) (at j) (sound i h) (sound j l) (InBytes s) (InWord c) single-byte single-word (fits i p) (fits j q)

        left : inside (overlap_of (at i) (at j)) (at i) ≡ true
        left = union-inside (at i) (at j) (sound i h) (sound j l) (InBytes s) (InWord c) single-byte single-word (fits i p) (fits j q)

        right : inside (overlap_of (at j) (at i)) (at j) ≡ true
        right = union-inside (at j) (at i) (sound j l) (sound i h) (InBytes s) (InWord c) single-byte single-word (fits j q) (fits i p)

    -- one of the two, or the third that a clear table must have
    under : i < j → Under i j
    unfolding clashing crossing
    under o = go (inside (at i) (at j)) refl (inside (at j) (at i)) refl (third at n i j) refl
      where
        meet : overlap (at i) (at j) ≡ true
        meet = both-overlap (at i) (at j) (sound i h) (sound j l) (InBytes s) (InWord c) single-byte single-word (fits i p) (fits j q)

        go : (x : Bool) → inside (at i) (at j) ≡ x → (y : Bool) → inside (at j) (at i) ≡ y → (z : Bool) → third at n i j ≡ z → Under i j
        go true a y b z e = record { it = i; within = h; matches = p; left = inside-self (at i); right = a }
        go false a true b z e = record { it = j; within = l; matches = q; left = b; right = inside-self (at j) }
        go false a false b true e = third-under e
        go false a false b false e =
            let clash : clashing at n i j ≡ true = rw (meet, a, b, e) (or_yes (equal (at i) (at j))) in
            absurd (false≢true (sym (clear-pairs at n clear i j o l) ∙ clash))

  -- the same in either order
  under-any : (i j : ℕ) → i < n → j < n → matching at n s c i ≡ true → matching at n s c j ≡ true → Under i j
  under-any i j h l p q = go (dec_lt i j) (dec_lt j i)
    where
      go : Dec (i < j) → Dec (j < i) → Under i j
      go (yes o) w = under i j h l p q o
      go (no o) (yes w) =
          let r : Under j i = under j i l h q p w in
          record { it = r.it; within = r.within; matches = r.matches; left = r.right; right = r.left }
      go (no o) (no w) =
          let e : i ≡ j = omega arith in
          record { it = i; within = h; matches = p; left = inside-self (at i); right = rw e (inside-self (at j)) }

  -- a matching record inside j and inside all that match of the first m
  record Least (j m : ℕ) : Type 0 where
    it : ℕ
    within : it < n
    matches : matching at n s c it ≡ true
    low : inside (at it) (at j) ≡ true
    below : (i : ℕ) → i < m → matching at n s c i ≡ true → inside (at it) (at i) ≡ true

  least : (j : ℕ) → j < n → matching at n s c j ≡ true → (m : ℕ) → m ≤ n → Least j m
  least j h e zero l = record { it = j; within = h; matches = e; low = inside-self (at j); below = λ i k. absurd (omega arith) }
  least j h e (suc m) l = next (least j h e m (omega arith)) (matching at n s c m) refl
    where
      upto : (t : ℕ) → ((i : ℕ) → i < m → matching at n s c i ≡ true → inside (at t) (at i) ≡ true)
          → (matching at n s c m ≡ true → inside (at t) (at m) ≡ true)
          → (i : ℕ) → i < suc m → matching at n s c i ≡ true → inside (at t) (at i) ≡ true
      upto t f g i k w = go (dec_lt i m)
        where
          go : Dec (i < m) → inside (at t) (at i) ≡ true
          go (yes o) = f i o w
          go (no o) = let z : i ≡ m = omega arith in rw z (g (rw z at w))

      next : Least j m → (b : Bool) → matching at n s c m ≡ b → Least j (suc m)
      next r true q =
          let u : Under r.it m = under-any r.it m r.within l r.matches q in
          record {
            it = u.it;
            within = u.within;
            matches = u.matches;
            low = inside-trans (at u.it) (at r.it) (at j) u.left r.low;
            below = upto u.it (λ i k w. inside-trans (at u.it) (at r.it) (at i) u.left (r.below i k w)) (λ _. u.right);
          }
      next r false q =
          record {
            it = r.it;
            within = r.within;
            matches = r.matches;
            low = r.low;
            below = upto r.it r.below (λ w. absurd (false≢true (sym q ∙ w)));
          }

  -- where j matches, the table has a strict one, which lies inside j
  pub record Took (j : ℕ) : Type 0 where
    pub it : ℕ
    pub strict : Strict at n s c it
    pub low : inside (at it) (at j) ≡ true

  pub took : (j : ℕ) → j < n → matching at n s c j ≡ true → Took j
  took j h e =
      let r : Least j n = least j h e n (omega arith) in
      record {
        it = r.it;
        strict =
            record {
              within = r.within;
              matches = r.matches;
              above = λ k l d m. (r.below k l m, apart at n sound clear r.it k r.within l (λ e. d (sym e)) (r.below k l m));
            };
        low = r.low;
      }

  -- "A clear table is never ambiguous."
  pub never-ambiguous : choose at n s c ≡ Err Ambiguous → ⊥
  never-ambiguous e = go (answer at n s c)
    where
      go : Answer at n s c (choose at n s c) → ⊥
      go (cut p q) = cc
      go (none p m q) = cc
      go (one p t r q) = cc
      go (torn p m f q) =
          let (j, h, w) = any_found (matching at n s c) n m in
          let r : Took j = took j h w in
          f r.it r.strict
