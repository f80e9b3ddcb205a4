-- More bytes change an answer only where it was short.
use Prim.Native.Nat.{ℕ, ◌/◌, ◌%◌, ◌<◌}
use mathlib.Core.Bool.{Bool, true, false, not, false≢true}
use mathlib.Core.List.{List, ◌++◌}
use mathlib.Core.Path.{◌≡◌, refl, sym, ap, ◌∙◌}
use native.Mathlib.Omega.{arith}
use borrow.Author.Tests.{lt-ltb, ltb-true}
use lib.ListN.{length, length-append, get_or-append}
use Rattle.std.specs.Prelude.{Err}
use Rattle.lists.specs.Below.{any_below}
use Rattle.lists.proofs.Below.{any_at, any_found}
use Rattle.lists.proofs.Bools.{and_left, and_right, and_both, same}
use Rattle.bits.specs.Bits.{bit}
use Rattle.choosing_spec.specs.Choosing.{short, matching, choose}
use Rattle.choosing_spec.specs.declared.NotChosen.TheVariants.{Short}
use Rattle.format.specs.declared.Pattern.{Pattern}
use Rattle.patterns.proofs.Words.{matches-is}
use Rattle.patterns.specs.Matching.{byte_bit, present, matches, agrees, masks_missing, cut_off}
use Rattle.choosing_theorems.specs.Taken.{Strict}
use Rattle.choosing_theorems.proofs.Fits.{InBytes, InWord, Shown, Missing, missing_at, missing-of, fits-map, matches-fits, fits-matches, agrees-fits, fits-agrees}
use Rattle.choosing_theorems.proofs.None.{none-at, none_of}
use Rattle.choosing_theorems.proofs.Taken.{Answer, cut, none, one, torn, answer, choose-taken, choose-ambiguous, no-match-back}

module _ (s m : List ℕ) where
  -- a byte that is there stays
  pub present-more : (k : ℕ) → present s k ≡ true → present (s ++ m) k ≡ true
  present-more k e =
      let h : k / 8 < length s = ltb-true (k / 8) (length s) e in
      lt-ltb (k / 8) (length (s ++ m)) (omega (arith, length-append s m))

  pub byte_more : (k : ℕ) → present s k ≡ true → byte_bit (s ++ m) k ≡ byte_bit s k
  byte_more k e = ap (λ b. bit b (k % 8)) (get_or-append s m 0 (k / 8) (ltb-true (k / 8) (length s) e))

  module _ (p : Pattern) (c : ℕ) where
    matches-more : matches p s c ≡ true → matches p (s ++ m) c ≡ true
    matches-more e =
        fits-matches p (s ++ m) c
        (fits-map (InBytes s) (InBytes (s ++ m)) (InWord c) p (λ k v r. (present-more k r.0, byte_more k r.0 ∙ r.1)) (matches-fits p s c e))

    agrees-less : agrees p (s ++ m) c ≡ true → agrees p s c ≡ true
    agrees-less e =
        fits-agrees p s c
        (fits-map (Shown (s ++ m)) (Shown s) (InWord c) p (λ k v f q. sym (byte_more k q) ∙ f (present-more k q)) (agrees-fits p (s ++ m) c e))

    missing-less : masks_missing p (s ++ m) ≡ true → masks_missing p s ≡ true
    missing-less e =
        let r : Missing p (s ++ m) = missing_at p (s ++ m) e in
        missing-of p s
        (record { place = r.place; within = r.within; masked = r.masked; absent = omega (arith, r.absent, length-append s m) })

    -- a pattern that is not cut short stays so, and matches as before
    keeps-whole : cut_off p s c ≡ false → cut_off p (s ++ m) c ≡ false
    unfolding cut_off
    keeps-whole e = go (cut_off p (s ++ m) c) refl
      where
        go : (b : Bool) → cut_off p (s ++ m) c ≡ b → b ≡ false
        go true q =
            absurd (false≢true (sym e
            ∙ and_both (agrees p s c) (masks_missing p s) (agrees-less (and_left (agrees p (s ++ m) c) (masks_missing p (s ++ m)) q))
            (missing-less (and_right (agrees p (s ++ m) c) (masks_missing p (s ++ m)) q))))
        go false q = refl

    keeps-matching : cut_off p s c ≡ false → matches p (s ++ m) c ≡ matches p s c
    unfolding cut_off
    keeps-matching e = same (matches p (s ++ m) c) (matches p s c) back matches-more
      where
        back : matches p (s ++ m) c ≡ true → matches p s c ≡ true
        back q =
            let a : agrees p s c ≡ true = agrees-less (and_left (agrees p (s ++ m) c) (not (masks_missing p (s ++ m))) (sym (matches-is p (s ++ m) c) ∙ q)) in
            let w : masks_missing p s ≡ false = rw a at e in
            rw (matches-is p s c, a, w)

-- a table in which the same records match has the same strict one
strict_same : (at : ℕ → Pattern) (n : ℕ) (s u : List ℕ) (c t : ℕ) → ((i : ℕ) → i < n → matching at n u c i ≡ matching at n s c i)
    → Strict at n s c t → Strict at n u c t
strict_same at n s u c t e r =
    record {
      within = r.within;
      matches = e t r.within ∙ r.matches;
      above = λ j h d m. r.above j h d (sym (e j h) ∙ m);
    }

module _ (at : ℕ → Pattern) (n : ℕ) (s m : List ℕ) (c : ℕ) where
  module _ (p : any_below n (short at n s c) ≡ false) where
    whole : (i : ℕ) → i < n → short at n (s ++ m) c i ≡ false
    unfolding short
    whole i h = keeps-whole s m (at i) c (none-at (short at n s c) n p i h)

    alike : (i : ℕ) → i < n → matching at n (s ++ m) c i ≡ matching at n s c i
    unfolding short matching
    alike i h = keeps-matching s m (at i) c (none-at (short at n s c) n p i h)

  -- Demand 2: an answer, unless short, stays the same whatever bytes follow.
  pub stays : (choose at n s c ≡ Err Short → ⊥) → choose at n (s ++ m) c ≡ choose at n s c
  stays f = go (answer at n s c)
    where
      go : Answer at n s c (choose at n s c) → choose at n (s ++ m) c ≡ choose at n s c
      go (cut p q) = absurd (f q)
      go (none p a q) =
          no-match-back at n (s ++ m) c (λ i h. (alike p i h ∙ none-at (matching at n s c) n a i h, whole p i h)) ∙ sym q
      go (one p t r q) =
          choose-taken at n (s ++ m) c (none_of (short at n (s ++ m) c) n (whole p)) t (strict_same at n s (s ++ m) c t (alike p) r)
          ∙ sym q
      go (torn p a g q) =
          let (i, h, e) = any_found (matching at n s c) n a in
          choose-ambiguous at n (s ++ m) c (none_of (short at n (s ++ m) c) n (whole p)) (any_at (matching at n (s ++ m) c) n i h (alike p i h ∙ e))
          (λ t r. g t (strict_same at n (s ++ m) s c t (λ i h. sym (alike p i h)) r))
          ∙ sym q
