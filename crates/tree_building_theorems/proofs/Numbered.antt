-- A pattern's 96 bits under one numbering, the byte bits before the context bits: what the relations of patterns and a test more on a
-- path say of each.
use Prim.Native.Nat.{ℕ, zero, suc, ◌+◌, ◌-◌, ◌^◌, ◌<◌, ◌≤◌}
use mathlib.Core.Bool.{Bool, true, false, cond, not, ◌&&◌, ◌||◌, false≢true}
use mathlib.Core.Path.{◌≡◌, refl, sym, ◌∙◌}
use native.Mathlib.Decide.{dec_lt, ℕ_discrete}
use native.Mathlib.Nat.{zero-div}
use native.Mathlib.Omega.{arith}
use borrow.Author.Tests.{eq-eqb, ne_eqb, eqb-true, lt-ltb, le-ltb}
use lib.Dec.{eqb, ltb}
use Rattle.lists.proofs.Below.{all_of, all-at}
use Rattle.lists.proofs.Bools.{and_left, and_right, and_both, or_yes, or_no}
use Rattle.bits.specs.Bits.{bit, is_set}
use Rattle.bits.proofs.Digits.{bit-small}
use Rattle.bits.proofs.Words.{same_bits}
use Rattle.format.specs.declared.Pattern.{Pattern}
use Rattle.patterns.specs.Relations.{inside, meet_bits, overlap}
use Rattle.choosing_spec.specs.ValidPattern.{ValidPattern}
use Rattle.choosing_theorems.proofs.Fits.{inside-fits, fits-inside}
use Rattle.tree_spec.specs.Form.{start, side}
use Rattle.bits.proofs.Single.{set_more, bit-more}
use Rattle.tree_theorems.proofs.Sides.{clear-bit, sound-byte, sound-context}
use Rattle.tree_building_spec.specs.Rule.{masks}
use Rattle.tree_building_theorems.specs.Numbered.{value_at, longer}

-- a byte bit, and a context bit
module _ (p : Pattern) where
  pub masks-byte : (k : ℕ) → k < 64 → masks p k ≡ is_set p.mask k
  unfolding masks
  masks-byte k h = rw (lt-ltb k 64 h)

  pub masks-context : (k : ℕ) → 64 ≤ k → masks p k ≡ is_set p.contextmask (k - 64)
  unfolding masks
  masks-context k h = rw (le-ltb k 64 h)

  pub value-byte : (k : ℕ) → k < 64 → value_at p k ≡ bit p.value k
  unfolding value_at
  value-byte k h = rw (lt-ltb k 64 h)

  pub value-context : (k : ℕ) → 64 ≤ k → value_at p k ≡ bit p.contextvalue (k - 64)
  unfolding value_at
  value-context k h = rw (le-ltb k 64 h)

  pub value-small : (k : ℕ) → value_at p k < 2
  unfolding value_at
  value-small k = go (ltb k 64)
    where
      go : (t : Bool) → cond t (bit p.value k) (bit p.contextvalue (k - 64)) < 2
      go true = bit-small p.value k
      go false = bit-small p.contextvalue (k - 64)

  -- a context bit by its own number
  pub context-masks : (k : ℕ) → masks p (64 + k) ≡ is_set p.contextmask k
  context-masks k = let e : 64 + k - 64 ≡ k = omega arith in masks-context (64 + k) (omega arith) ∙ rw e

  context-value : (k : ℕ) → value_at p (64 + k) ≡ bit p.contextvalue k
  context-value k = let e : 64 + k - 64 ≡ k = omega arith in value-context (64 + k) (omega arith) ∙ rw e

-- lying inside, bit by bit
module _ (a b : Pattern) where
  pub inside-at : inside a b ≡ true → (k : ℕ) → k < 96 → masks b k ≡ true → (masks a k ≡ true) × (value_at a k ≡ value_at b k)
  inside-at e k h m = go (dec_lt k 64)
    where
      go : Dec (k < 64) → (masks a k ≡ true) × (value_at a k ≡ value_at b k)
      go (yes l) =
          let r = (inside-fits a b e).bytes.at k l (sym (masks-byte b k l) ∙ m) in
          (masks-byte a k l ∙ r.0, value-byte a k l ∙ r.1 ∙ sym (value-byte b k l))
      go (no l) =
          let g : 64 ≤ k = omega arith in
          let r = (inside-fits a b e).context.at (k - 64) (omega arith) (sym (masks-context b k g) ∙ m) in
          (masks-context a k g ∙ r.0, value-context a k g ∙ r.1 ∙ sym (value-context b k g))

  pub inside_of : ((k : ℕ) → k < 96 → masks b k ≡ true → (masks a k ≡ true) × (value_at a k ≡ value_at b k)) → inside a b ≡ true
  inside_of f =
      fits-inside a b
      (record {
        bytes =
            record {
              at = λ k l m.
                  let r = f k (omega arith) (masks-byte b k l ∙ m) in
                  (sym (masks-byte a k l) ∙ r.0, sym (value-byte a k l) ∙ r.1 ∙ value-byte b k l);
            };
        context =
            record {
              at = λ k l m.
                  let r = f (64 + k) (omega arith) (context-masks b k ∙ m) in
                  (sym (context-masks a k) ∙ r.0, sym (context-value a k) ∙ r.1 ∙ context-value b k);
            };
      })

  -- overlapping, bit by bit
  abbrev one_value : ℕ → ℕ → ℕ → ℕ → ℕ → Bool
  one_value am av bm bv k = not (is_set am k && is_set bm k) || eqb (bit av k) (bit bv k)

  meet-at : (n am av bm bv : ℕ) → meet_bits n am av bm bv ≡ true → (k : ℕ) → k < n → is_set am k ≡ true → is_set bm k ≡ true
      → bit av k ≡ bit bv k
  unfolding meet_bits
  meet-at n am av bm bv e k l x y = eqb-true (bit av k) (bit bv k) (rw (x, y) at (all-at (one_value am av bm bv) n k e l))

  meet-of : (n am av bm bv : ℕ) → ((k : ℕ) → k < n → is_set am k ≡ true → is_set bm k ≡ true → bit av k ≡ bit bv k)
      → meet_bits n am av bm bv ≡ true
  unfolding meet_bits
  meet-of n am av bm bv f = all_of (one_value am av bm bv) n (λ k l. go k l (is_set am k) refl (is_set bm k) refl)
    where
      go : (k : ℕ) → k < n → (x : Bool) → is_set am k ≡ x → (y : Bool) → is_set bm k ≡ y → not (x && y) || eqb (bit av k) (bit bv k) ≡ true
      go k l true p true q = eq-eqb (bit av k) (bit bv k) (f k l p q)
      go k l true p false q = refl
      go k l false p y q = refl

  abbrev bytes-meet : Bool
  bytes-meet = meet_bits 64 a.mask a.value b.mask b.value

  abbrev contexts-meet : Bool
  contexts-meet = meet_bits 32 a.contextmask a.contextvalue b.contextmask b.contextvalue

  pub overlap-at : overlap a b ≡ true → (k : ℕ) → k < 96 → masks a k ≡ true → masks b k ≡ true → value_at a k ≡ value_at b k
  unfolding overlap
  overlap-at e k h x y = go (dec_lt k 64)
    where
      go : Dec (k < 64) → value_at a k ≡ value_at b k
      go (yes l) =
          value-byte a k l
          ∙ meet-at 64 a.mask a.value b.mask b.value (and_left bytes-meet contexts-meet e) k l (sym (masks-byte a k l) ∙ x)
          (sym (masks-byte b k l) ∙ y)
          ∙ sym (value-byte b k l)
      go (no l) =
          let g : 64 ≤ k = omega arith in
          value-context a k g
          ∙ meet-at 32 a.contextmask a.contextvalue b.contextmask b.contextvalue (and_right bytes-meet contexts-meet e) (k - 64) (omega arith)
          (sym (masks-context a k g) ∙ x) (sym (masks-context b k g) ∙ y)
          ∙ sym (value-context b k g)

  pub overlap-of : ((k : ℕ) → k < 96 → masks a k ≡ true → masks b k ≡ true → value_at a k ≡ value_at b k) → overlap a b ≡ true
  unfolding overlap
  overlap-of f =
      and_both bytes-meet contexts-meet
      (meet-of 64 a.mask a.value b.mask b.value
      (λ k l x y. sym (value-byte a k l) ∙ f k (omega arith) (masks-byte a k l ∙ x) (masks-byte b k l ∙ y) ∙ value-byte b k l))
      (meet-of 32 a.contextmask a.contextvalue b.contextmask b.contextvalue
      (λ k l x y. sym (context-value a k) ∙ f (64 + k) (omega arith) (context-masks a k ∙ x) (context-masks b k ∙ y) ∙ context-value b k))

  -- patterns with the same bits are one
  set-bit : (x y : ℕ) → x < 2 → y < 2 → eqb x 1 ≡ eqb y 1 → x ≡ y
  set-bit zero zero h l e = refl
  set-bit zero (suc zero) h l e = absurd (false≢true e)
  set-bit zero (suc (suc y)) h l e = absurd (omega arith)
  set-bit (suc zero) zero h l e = absurd (false≢true (sym e))
  set-bit (suc zero) (suc zero) h l e = refl
  set-bit (suc zero) (suc (suc y)) h l e = absurd (omega arith)
  set-bit (suc (suc x)) y h l e = absurd (omega arith)

  pub same-pattern : ValidPattern a → ValidPattern b → ((k : ℕ) → k < 96 → masks a k ≡ masks b k)
      → ((k : ℕ) → k < 96 → value_at a k ≡ value_at b k) → a ≡ b
  same-pattern x y f g =
      let mask : a.mask ≡ b.mask =
      same_bits 64 a.mask b.mask x.mask y.mask
      (λ k l. set-bit (bit a.mask k) (bit b.mask k) (bit-small a.mask k) (bit-small b.mask k)
      (sym (masks-byte a k l) ∙ f k (omega arith) ∙ masks-byte b k l)) in
      let value : a.value ≡ b.value =
      same_bits 64 a.value b.value x.value y.value
      (λ k l. sym (value-byte a k l) ∙ g k (omega arith) ∙ value-byte b k l) in
      let contextmask : a.contextmask ≡ b.contextmask =
      same_bits 32 a.contextmask b.contextmask x.contextmask y.contextmask
      (λ k l. set-bit (bit a.contextmask k) (bit b.contextmask k) (bit-small a.contextmask k) (bit-small b.contextmask k)
      (sym (context-masks a k) ∙ f (64 + k) (omega arith) ∙ context-masks b k)) in
      let contextvalue : a.contextvalue ≡ b.contextvalue =
      same_bits 32 a.contextvalue b.contextvalue x.contextvalue y.contextvalue
      (λ k l. sym (context-value a k) ∙ g (64 + k) (omega arith) ∙ context-value b k) in
      λ i. record { mask = mask i; value = value i; contextmask = contextmask i; contextvalue = contextvalue i }

-- a bit that is not masked has value 0
pub value-free : (p : Pattern) → ValidPattern p → (k : ℕ) → masks p k ≡ false → value_at p k ≡ 0
unfolding masks value_at
value-free p valid k = go (ltb k 64)
  where
    go : (t : Bool) → cond t (is_set p.mask k) (is_set p.contextmask (k - 64)) ≡ false
        → cond t (bit p.value k) (bit p.contextvalue (k - 64)) ≡ 0
    go true e = clear-bit p.value p.mask k valid.masked e
    go false e = clear-bit p.contextvalue p.contextmask (k - 64) valid.contextmasked e

-- nothing is on the empty path
pub start-masks : (k : ℕ) → masks start k ≡ false
unfolding masks
start-masks k = go (ltb k 64)
  where
    none : (j : ℕ) → is_set 0 j ≡ false
    none j = rw (zero-div (2 ^ j))

    go : (t : Bool) → cond t (is_set 0 k) (is_set 0 (k - 64)) ≡ false
    go true = none k
    go false = none (k - 64)

-- context bits by either number
number : (j k : ℕ) → 64 ≤ j → 64 ≤ k → eqb (j - 64) (k - 64) ≡ eqb j k
number j k h l = go (ℕ_discrete j k)
  where
    go : Dec (j ≡ k) → eqb (j - 64) (k - 64) ≡ eqb j k
    go (yes e) = rw (eq-eqb j k e, eq-eqb (j - 64) (k - 64) (omega arith))
    go (no d) = rw (ne_eqb j k d, ne_eqb (j - 64) (k - 64) (λ e. d (omega arith)))

module _ (p : Pattern) (k x : ℕ) (h : k < 96) (l : x < 2) (free : masks p k ≡ false) (valid : ValidPattern p) where
  longer-byte : k < 64 → longer p k x ≡ side p 1 k x
  longer-byte g = rw (lt-ltb k 64 g)

  longer-context : 64 ≤ k → longer p k x ≡ side p 2 (k - 64) x
  longer-context g = rw (le-ltb k 64 g)

  free-byte : k < 64 → is_set p.mask k ≡ false
  free-byte g = sym (masks-byte p k g) ∙ free

  free-context : 64 ≤ k → is_set p.contextmask (k - 64) ≡ false
  free-context g = sym (masks-context p k g) ∙ free

  pub longer-valid : ValidPattern (longer p k x)
  longer-valid = go (dec_lt k 64)
    where
      go : Dec (k < 64) → ValidPattern (longer p k x)
      go (yes g) = rw (longer-byte g) (sound-byte p k x l g (free-byte g) valid)
      go (no g) =
          let m : 64 ≤ k = omega arith in
          rw (longer-context m) (sound-context p (k - 64) x l (omega arith) (free-context m) valid)

  -- its bits are the path's, and bit k
  pub longer-masks : (j : ℕ) → j < 96 → masks (longer p k x) j ≡ (masks p j || eqb j k)
  unfolding side
  longer-masks j i = go (dec_lt k 64) (dec_lt j 64)
    where
      go : Dec (k < 64) → Dec (j < 64) → masks (longer p k x) j ≡ (masks p j || eqb j k)
      go (yes g) (yes m) =
          rw (longer-byte g, masks-byte p j m) (masks-byte (side p 1 k x) j m ∙ set_more p.mask k j)
      go (yes g) (no m) =
          let n : 64 ≤ j = omega arith in
          rw (longer-byte g, ne_eqb j k (λ e. omega arith), masks-context p j n)
          (masks-context (side p 1 k x) j n ∙ sym (or_no (is_set p.contextmask (j - 64))))
      go (no g) (yes m) =
          rw (longer-context (omega arith), ne_eqb j k (λ e. omega arith), masks-byte p j m)
          (masks-byte (side p 2 (k - 64) x) j m ∙ sym (or_no (is_set p.mask j)))
      go (no g) (no m) =
          let n : 64 ≤ j = omega arith in
          let o : 64 ≤ k = omega arith in
          rw (longer-context o, masks-context p j n, ← number j k n o)
          (masks-context (side p 2 (k - 64) x) j n ∙ set_more p.contextmask (k - 64) (j - 64))

  -- its values are the path's, and x
  pub longer-value : (j : ℕ) → j < 96 → value_at (longer p k x) j ≡ cond (eqb j k) x (value_at p j)
  unfolding side
  longer-value j i = go (dec_lt k 64) (dec_lt j 64)
    where
      go : Dec (k < 64) → Dec (j < 64) → value_at (longer p k x) j ≡ cond (eqb j k) x (value_at p j)
      go (yes g) (yes m) =
          rw (longer-byte g, value-byte p j m)
          (value-byte (side p 1 k x) j m ∙ bit-more p.value k x j l (clear-bit p.value p.mask k valid.masked (free-byte g)))
      go (yes g) (no m) =
          let n : 64 ≤ j = omega arith in
          rw (longer-byte g, ne_eqb j k (λ e. omega arith), value-context p j n) (value-context (side p 1 k x) j n)
      go (no g) (yes m) =
          rw (longer-context (omega arith), ne_eqb j k (λ e. omega arith), value-byte p j m) (value-byte (side p 2 (k - 64) x) j m)
      go (no g) (no m) =
          let n : 64 ≤ j = omega arith in
          let o : 64 ≤ k = omega arith in
          rw (longer-context o, value-context p j n, ← number j k n o)
          (value-context (side p 2 (k - 64) x) j n
          ∙ bit-more p.contextvalue (k - 64) x (j - 64) l (clear-bit p.contextvalue p.contextmask (k - 64) valid.contextmasked (free-context o)))

  -- .. so bit k is on it, with value x
  pub longer-own : (masks (longer p k x) k ≡ true) × (value_at (longer p k x) k ≡ x)
  longer-own = (
    longer-masks k h ∙ rw (eq-eqb k k refl) (or_yes (masks p k)),
    longer-value k h ∙ rw (eq-eqb k k refl),
  )

  -- .. and each other is as it was
  pub longer-other : (j : ℕ) → j < 96 → (j ≡ k → ⊥) → (masks (longer p k x) j ≡ masks p j) × (value_at (longer p k x) j ≡ value_at p j)
  longer-other j i d = (
    longer-masks j i ∙ rw (ne_eqb j k d) (or_no (masks p j)),
    longer-value j i ∙ rw (ne_eqb j k d),
  )
