-- What a pass over a table has gathered: the masks of the live patterns, and the innermost of them where there is one.
use Prim.Native.Nat.{ℕ, zero, suc, ◌+◌, ◌-◌, ◌^◌, ◌<◌, ◌≤◌}
use mathlib.Core.Bool.{Bool, true, false, cond, ◌&&◌, ◌||◌, false≢true}
use mathlib.Core.Path.{◌≡◌, refl, sym, ap, ◌∙◌}
use native.Mathlib.Decide.{dec_lt}
use native.Mathlib.Numerals.{add-one}
use native.Mathlib.Omega.{arith}
use borrow.Author.Tests.{eq-eqb, eqb-true}
use lib.Bits.{bit_or, or_lt}
use lib.Dec.{eqb, ltb, lit<}
use Rattle.lists.specs.Below.{any_below}
use Rattle.lists.proofs.Below.{any_at, any_found}
use Rattle.lists.proofs.Bools.{and_left, and_right, and_both, or_no}
use Rattle.bits.specs.Bits.{bit, is_set}
use Rattle.bits.proofs.Digits.{bit-small, bit-or}
use Rattle.bits.proofs.Words.{same_bits, set-or}
use Rattle.format.specs.declared.Pattern.{Pattern}
use Rattle.patterns.specs.Relations.{inside, overlap}
use Rattle.choosing_spec.specs.ValidPattern.{ValidPattern}
use Rattle.tree_spec.specs.Nodes.{no_place}
use Rattle.tree_building_spec.specs.Rule.{masks}
use Rattle.tree_building_theorems.proofs.Numbered.{masks-byte, context-masks, start-masks, inside-at, inside_of}
use Rattle.tree_nodes.specs.Gathering.{with_live, gathered}
use Rattle.tree_nodes.specs.declared.Live.{Live}

-- the gathered masks as a pattern's
abbrev pub masks_of : Live → Pattern
masks_of l = record { mask = l.mask; value = 0; contextmask = l.context; contextvalue = 0 }

masks-or : (l : Live) (q : Pattern) (a k : ℕ) → masks (masks_of (with_live l q a)) k ≡ (masks (masks_of l) k || masks q k)
unfolding masks with_live
masks-or l q a k = go (ltb k 64)
  where
    go : (t : Bool)
        → cond t (is_set (bit_or l.mask q.mask) k) (is_set (bit_or l.context q.contextmask) (k - 64))
        ≡ (cond t (is_set l.mask k) (is_set l.context (k - 64)) || cond t (is_set q.mask k) (is_set q.contextmask (k - 64)))
    go true = set-or l.mask q.mask k
    go false = set-or l.context q.contextmask (k - 64)

module _ (first : ℕ) (at : ℕ → Pattern) (p : Pattern) where
  -- one record more, for the loop
  pub gathered-live : (j : ℕ) (l : Live) (q : Pattern) → l ≡ gathered first at p j → q ≡ at j → overlap p q ≡ true
      → with_live l q (first + j) ≡ gathered first at p (j + 1)
  unfolding gathered
  gathered-live j l q e f o = rw (f, e, add-one j, rw f at o)

  pub gathered-dead : (j : ℕ) (l : Live) (q : Pattern) → l ≡ gathered first at p j → q ≡ at j → overlap p q ≡ false
      → l ≡ gathered first at p (j + 1)
  unfolding gathered
  gathered-dead j l q e f o = rw (e, add-one j, rw f at o)

  abbrev masked : ℕ → ℕ → Bool
  masked k j = overlap p (at j) && masks (at j) k

  -- bit k is in the masks where a live pattern masks it
  pub gathered-masks : (m k : ℕ) → masks (masks_of (gathered first at p m)) k ≡ any_below m (masked k)
  unfolding gathered any_below
  gathered-masks zero k = start-masks k
  gathered-masks (suc m) k = go (overlap p (at m)) (gathered-masks m k)
    where
      go : (b : Bool) → masks (masks_of (gathered first at p m)) k ≡ any_below m (masked k)
          → masks (masks_of (cond b (with_live (gathered first at p m) (at m) (first + m)) (gathered first at p m))) k
          ≡ (any_below m (masked k) || (b && masks (at m) k))
      go true e = masks-or (gathered first at p m) (at m) (first + m) k ∙ rw e
      go false e = e ∙ sym (or_no (any_below m (masked k)))

  -- where none is live there is no leaf
  pub gathered_none : (m : ℕ) → ((j : ℕ) → j < m → overlap p (at j) ≡ false) → (gathered first at p m).leaf ≡ no_place
  unfolding gathered
  gathered_none zero f = refl
  gathered_none (suc m) f = rw (f m (omega arith)) (gathered_none m (λ j h. f j (omega arith)))

  module _ (n : ℕ) (sound : (j : ℕ) → j < n → ValidPattern (at j)) where
    pub gathered-small : (m : ℕ) → m ≤ n → ((gathered first at p m).mask < 2 ^ 64) × ((gathered first at p m).context < 2 ^ 32)
    unfolding gathered with_live
    gathered-small zero h = (lit< tt, lit< tt)
    gathered-small (suc m) h = go (overlap p (at m)) (gathered-small m (omega arith))
      where
        go : (b : Bool) → ((gathered first at p m).mask < 2 ^ 64) × ((gathered first at p m).context < 2 ^ 32)
            → ((cond b (with_live (gathered first at p m) (at m) (first + m)) (gathered first at p m)).mask < 2 ^ 64)
            × ((cond b (with_live (gathered first at p m) (at m) (first + m)) (gathered first at p m)).context < 2 ^ 32)
        go true (x, y) = (
          or_lt 64 (gathered first at p m).mask (at m).mask x (sound m h).mask,
          or_lt 32 (gathered first at p m).context (at m).contextmask y (sound m h).contextmask,
        )
        go false r = r

    -- a pattern that masks all that was gathered leaves the masks as its own
    module _ (m t : ℕ) (h : m ≤ n) (l : t < n)
        (all : (k : ℕ) → k < 96 → masks (masks_of (gathered first at p m)) k ≡ true → masks (at t) k ≡ true) where
      covered : (w x y : ℕ) → x < 2 ^ w → y < 2 ^ w → ((k : ℕ) → k < w → is_set x k ≡ true → is_set y k ≡ true) → y ≡ bit_or x y
      covered w x y a b f =
          same_bits w y (bit_or x y) b (or_lt w x y a b)
          (λ k i. omega (arith, bit-or x y k, bit-small x k, bit-small y k, go k i (bit x k) refl))
        where
          go : (k : ℕ) → k < w → (r : ℕ) → bit x k ≡ r → r ≤ bit y k
          go k i zero e = omega arith
          go k i (suc r) e =
              let o : bit x k ≡ 1 = omega (arith, bit-small x k) in
              let s : bit y k ≡ 1 = eqb-true (bit y k) 1 (f k i (eq-eqb (bit x k) 1 o)) in
              omega (arith, bit-small x k)

      covers : (eqb (at t).mask (bit_or (gathered first at p m).mask (at t).mask)
          && eqb (at t).contextmask (bit_or (gathered first at p m).context (at t).contextmask))
          ≡ true
      covers =
          and_both _ _
          (eq-eqb (at t).mask _
          (covered 64 (gathered first at p m).mask (at t).mask (gathered-small m h).0 (sound t l).mask
          (λ k i e. sym (masks-byte (at t) k i) ∙ all k (omega arith) (masks-byte (masks_of (gathered first at p m)) k i ∙ e))))
          (eq-eqb (at t).contextmask _
          (covered 32 (gathered first at p m).context (at t).contextmask (gathered-small m h).1 (sound t l).contextmask
          (λ k i e. sym (context-masks (at t) k) ∙ all (64 + k) (omega arith) (context-masks (masks_of (gathered first at p m)) k ∙ e))))

    -- and the other way round
    uncovered : (m t : ℕ)
        → (eqb (at t).mask (bit_or (gathered first at p m).mask (at t).mask)
        && eqb (at t).contextmask (bit_or (gathered first at p m).context (at t).contextmask))
        ≡ true
        → (k : ℕ) → masks (masks_of (gathered first at p m)) k ≡ true → masks (at t) k ≡ true
    unfolding masks
    uncovered m t e k = go (ltb k 64)
      where
        x : (at t).mask ≡ bit_or (gathered first at p m).mask (at t).mask
        x = eqb-true _ _ (and_left _ (eqb (at t).contextmask (bit_or (gathered first at p m).context (at t).contextmask)) e)

        y : (at t).contextmask ≡ bit_or (gathered first at p m).context (at t).contextmask
        y = eqb-true _ _ (and_right (eqb (at t).mask (bit_or (gathered first at p m).mask (at t).mask)) _ e)

        part : (a b k : ℕ) → b ≡ bit_or a b → is_set a k ≡ true → is_set b k ≡ true
        part a b k q s = ap (λ w. is_set w k) q ∙ (set-or a b k ∙ rw s)

        go : (b : Bool) → cond b (is_set (gathered first at p m).mask k) (is_set (gathered first at p m).context (k - 64)) ≡ true
            → cond b (is_set (at t).mask k) (is_set (at t).contextmask (k - 64)) ≡ true
        go true s = part (gathered first at p m).mask (at t).mask k x s
        go false s = part (gathered first at p m).context (at t).contextmask (k - 64) y s

    -- record t lies strictly inside every other live one of the first m
    abbrev Inner : ℕ → ℕ → Type 0
    Inner t m = (j : ℕ) → j < m → (j ≡ t → ⊥) → overlap p (at j) ≡ true → (inside (at t) (at j) ≡ true) × (inside (at j) (at t) ≡ false)

    -- then it masks what they do
    inner-masks : (m t : ℕ) → Inner t m → (k : ℕ) → k < 96 → masks (masks_of (gathered first at p m)) k ≡ true → (t < m → ⊥)
        → masks (at t) k ≡ true
    inner-masks m t f k i e d =
        let (j, h, w) = any_found (masked k) m (sym (gathered-masks m k) ∙ e) in
        (inside-at (at t) (at j) (f j h (λ q. d (rw q at h)) (and_left (overlap p (at j)) (masks (at j) k) w)).0 k i
        (and_right (overlap p (at j)) (masks (at j) k) w)).0

    -- .. and is the leaf
    pub gathered-inmost : (m t : ℕ) → m ≤ n → t < m → overlap p (at t) ≡ true → Inner t m → (gathered first at p m).leaf ≡ first + t
    unfolding gathered with_live
    gathered-inmost zero t h l o f = absurd (omega arith)
    gathered-inmost (suc m) t h l o f =
        go (dec_lt t m) (λ d. gathered-inmost m t (omega arith) d o (λ j i. f j (omega arith)))
      where
        whole : Bool
        whole =
            eqb (at m).mask (bit_or (gathered first at p m).mask (at m).mask)
            && eqb (at m).contextmask (bit_or (gathered first at p m).context (at m).contextmask)

        -- a later one would have to mask all that t does
        later : t < m → overlap p (at m) ≡ true → (b : Bool) → whole ≡ b → b ≡ false
        later d q false e = refl
        later d q true e =
            let x = f m (omega arith) (λ z. omega arith) q in
            let own : (k : ℕ) → masks (at t) k ≡ true → masks (masks_of (gathered first at p m)) k ≡ true = λ k s.
            gathered-masks m k ∙ any_at (masked k) m t d (and_both (overlap p (at t)) (masks (at t) k) o s) in
            let y : inside (at m) (at t) ≡ true =
            inside_of (at m) (at t)
            (λ k i s. let c = uncovered m m e k (own k s) in (c, sym (inside-at (at t) (at m) x.0 k i c).1)) in
            absurd (false≢true (sym x.1 ∙ y))

        go : Dec (t < m) → (t < m → (gathered first at p m).leaf ≡ first + t)
            → (cond (overlap p (at m)) (with_live (gathered first at p m) (at m) (first + m)) (gathered first at p m)).leaf ≡ first + t
        go (yes d) r = turn (overlap p (at m)) refl
          where
            turn : (b : Bool) → overlap p (at m) ≡ b
                → (cond b (with_live (gathered first at p m) (at m) (first + m)) (gathered first at p m)).leaf ≡ first + t
            turn true q = rw (later d q whole refl) (r d)
            turn false q = r d
        go (no d) r =
            let e : t ≡ m = omega arith in
            rw (rw e at o, covers m m (omega arith) (omega arith) (λ k i s. rw e at (inner-masks m t (λ j i. f j (omega arith)) k i s d)), e)
