-- One test more on a path: an input matches the longer path exactly where it matches the shorter one and has the tested bit.
use Prim.Native.Nat.{ℕ, ◌*◌, ◌/◌, ◌^◌, ◌<◌, ◌≤◌, min}
use mathlib.Core.Bool.{true, false, ◌&&◌, false≢true}
use mathlib.Core.List.{List}
use mathlib.Core.Path.{◌≡◌, refl, sym, ap, ◌∙◌}
use native.Mathlib.Decide.{ℕ_discrete}
use native.Mathlib.Nat.{one-mul, mul-le-mul_right}
use native.Mathlib.Omega.{arith}
use borrow.Author.Tests.{eq-eqb, ne_eqb, eqb-true, lt-ltb}
use lib.Bits.{bit_and, bit_or, and_lt, or_lt}
use lib.Dec.{eqb, lit<}
use lib.ListN.{length}
use lib.Pow.{pow-lt}
use Rattle.lists.proofs.Bools.{same, and_left, and_right, and_both, or_no, or_yes}
use Rattle.bits.specs.Bits.{bit, is_set}
use Rattle.bits.proofs.Digits.{bit-small, bit-or, bit-and, either}
use Rattle.bits.proofs.Single.{shifted-bit, set_more, bit-more}
use Rattle.bits.proofs.Words.{same_bits}
use Rattle.choosing_spec.specs.ValidPattern.{ValidPattern}
use Rattle.format.specs.declared.Pattern.{Pattern}
use Rattle.choosing_theorems.proofs.Fits.{Asks, Holds, InBytes, InWord, matches-fits, fits-matches}
use Rattle.patterns.specs.Matching.{byte_bit, present, matches}
use Rattle.tree_spec.specs.Form.{side, start}
use Rattle.tree_spec.specs.Reach.{Input}

module _ (n : ℕ) (R : Asks) (m v k x : ℕ) (h : x < 2) (free : is_set m k ≡ false) (clear : bit v k ≡ 0) where
  -- the mask and the value with bit k
  other : (j : ℕ) → (j ≡ k → ⊥) → (is_set (bit_or m (2 ^ k)) j ≡ is_set m j) × (bit (bit_or v (x * 2 ^ k)) j ≡ bit v j)
  other j d = (set_more m k j ∙ rw (ne_eqb j k d) (or_no (is_set m j)), bit-more v k x j h clear ∙ rw (ne_eqb j k d))

  here : (is_set (bit_or m (2 ^ k)) k ≡ true) × (bit (bit_or v (x * 2 ^ k)) k ≡ x)
  here = (set_more m k k ∙ rw (eq-eqb k k refl) (or_yes (is_set m k)), bit-more v k x k h clear ∙ rw (eq-eqb k k refl))

  apart : (j : ℕ) → is_set m j ≡ true → j ≡ k → ⊥
  apart j e q = false≢true (sym free ∙ rw q at e)

  pub less : k < n → Holds n R (bit_or m (2 ^ k)) (bit_or v (x * 2 ^ k)) → Holds n R m v × R k x
  less l r = (
    record { at = λ j i e. rw (other j (apart j e)).1 at (r.at j i ((other j (apart j e)).0 ∙ e)) },
    rw here.1 at (r.at k l here.0),
  )

  pub more : Holds n R m v → R k x → Holds n R (bit_or m (2 ^ k)) (bit_or v (x * 2 ^ k))
  more r q = record { at = λ j i e. go j i e (ℕ_discrete j k) }
    where
      go : (j : ℕ) → j < n → is_set (bit_or m (2 ^ k)) j ≡ true → Dec (j ≡ k) → R j (bit (bit_or v (x * 2 ^ k)) j)
      go j i e (yes d) = rw (d, here.1) q
      go j i e (no d) = rw (other j d).1 (r.at j i (sym (other j d).0 ∙ e))

-- a path's tests and values: what is taken out of a valid path
module _ (p : Pattern) (s : List ℕ) (c k x : ℕ) (h : x < 2) (i : Input s c) where
  there : k < 64 → present s k ≡ true
  there l = lt-ltb (k / 8) (length s) (omega (arith, i.long))

  -- a byte bit
  pub byte-side : k < 64 → is_set p.mask k ≡ false → bit p.value k ≡ 0
      → matches (side p 1 k x) s c ≡ (matches p s c && eqb (byte_bit s k) x)
  unfolding side
  byte-side l f z =
      same (matches (side p 1 k x) s c) (matches p s c && eqb (byte_bit s k) x)
      (λ e.
      let r = matches-fits (side p 1 k x) s c e in
      let q = less 64 (InBytes s) p.mask p.value k x h f z l r.bytes in
      and_both (matches p s c) (eqb (byte_bit s k) x) (fits-matches p s c (record { bytes = q.0; context = r.context })) (eq-eqb (byte_bit s k) x q.1.1))
      (λ e.
      let r = matches-fits p s c (and_left (matches p s c) (eqb (byte_bit s k) x) e) in
      let b = eqb-true (byte_bit s k) x (and_right (matches p s c) (eqb (byte_bit s k) x) e) in
      fits-matches (side p 1 k x) s c
      (record { bytes = more 64 (InBytes s) p.mask p.value k x h f z r.bytes (there l, b); context = r.context }))

  -- a context bit
  pub context-side : k < 32 → is_set p.contextmask k ≡ false → bit p.contextvalue k ≡ 0
      → matches (side p 2 k x) s c ≡ (matches p s c && eqb (bit c k) x)
  unfolding side
  context-side l f z =
      same (matches (side p 2 k x) s c) (matches p s c && eqb (bit c k) x)
      (λ e.
      let r = matches-fits (side p 2 k x) s c e in
      let q = less 32 (InWord c) p.contextmask p.contextvalue k x h f z l r.context in
      and_both (matches p s c) (eqb (bit c k) x) (fits-matches p s c (record { bytes = r.bytes; context = q.0 })) (eq-eqb (bit c k) x q.1))
      (λ e.
      let r = matches-fits p s c (and_left (matches p s c) (eqb (bit c k) x) e) in
      let b = eqb-true (bit c k) x (and_right (matches p s c) (eqb (bit c k) x) e) in
      fits-matches (side p 2 k x) s c
      (record { bytes = r.bytes; context = more 32 (InWord c) p.contextmask p.contextvalue k x h f z r.context b }))

-- a value inside its mask has no bit where the mask has none
pub clear-bit : (v m k : ℕ) → bit_and v m ≡ v → is_set m k ≡ false → bit v k ≡ 0
clear-bit v m k e f =
    let z : bit m k ≡ 0 = none (bit m k) (bit-small m k) f in
    let a : bit (bit_and v m) k ≡ min (bit v k) (bit m k) = bit-and v m k in
    let b : bit (bit_and v m) k ≡ bit v k = ap (λ y. bit y k) e in
    omega arith
  where
    none : (y : ℕ) → y < 2 → eqb y 1 ≡ false → y ≡ 0
    none y h q = either (λ y. eqb y 1 ≡ false → y ≡ 0) (λ _. refl) (λ q. absurd (false≢true (sym q))) y h q

-- the longer path's value lies inside its mask too
masked-side : (n m v k x : ℕ) → m < 2 ^ n → v < 2 ^ n → k < n → x < 2 → bit_and v m ≡ v → is_set m k ≡ false
    → (bit_or m (2 ^ k) < 2 ^ n) × (bit_or v (x * 2 ^ k) < 2 ^ n) × (bit_and (bit_or v (x * 2 ^ k)) (bit_or m (2 ^ k)) ≡ bit_or v (x * 2 ^ k))
masked-side n m v k x hm hv hk hx e f =
    let one : 2 ^ k < 2 ^ n = pow-lt hk in
    let le : x * 2 ^ k ≤ 1 * 2 ^ k = mul-le-mul_right (2 ^ k) (omega arith) in
    let small : x * 2 ^ k < 2 ^ n = omega arith in
    let a : bit_or m (2 ^ k) < 2 ^ n = or_lt n m (2 ^ k) hm one in
    let b : bit_or v (x * 2 ^ k) < 2 ^ n = or_lt n v (x * 2 ^ k) hv small in
    (a, b, same_bits n (bit_and (bit_or v (x * 2 ^ k)) (bit_or m (2 ^ k))) (bit_or v (x * 2 ^ k)) (and_lt n (bit_or v (x * 2 ^ k)) (bit_or m (2 ^ k)) b a) b (λ j l. go j (ℕ_discrete j k)))
  where
    clear : bit v k ≡ 0
    clear = clear-bit v m k e f

    go : (j : ℕ) → Dec (j ≡ k) → bit (bit_and (bit_or v (x * 2 ^ k)) (bit_or m (2 ^ k))) j ≡ bit (bit_or v (x * 2 ^ k)) j
    go j (yes d) =
        let o = eqb-true (bit (bit_or m (2 ^ k)) j) 1 (rw d (here 0 (λ _ _. Unit) m v k x hx f clear).0) in
        rw (bit-and (bit_or v (x * 2 ^ k)) (bit_or m (2 ^ k)) j, o) (omega (arith, bit-small (bit_or v (x * 2 ^ k)) j))
    go j (no d) =
        let b : bit (2 ^ k) j ≡ 0 = ap (λ y. bit y j) (sym (one-mul (2 ^ k))) ∙ shifted-bit 1 k j (lit< tt) d in
        let q : bit (bit_and v m) j ≡ min (bit v j) (bit m j) = bit-and v m j in
        let r : bit (bit_and v m) j ≡ bit v j = ap (λ y. bit y j) e in
        rw (bit-and (bit_or v (x * 2 ^ k)) (bit_or m (2 ^ k)) j, bit-or v (x * 2 ^ k) j, bit-or m (2 ^ k) j, b, shifted-bit x k j hx d) (omega arith)

pub sound-byte : (p : Pattern) (k x : ℕ) → x < 2 → k < 64 → is_set p.mask k ≡ false → ValidPattern p → ValidPattern (side p 1 k x)
unfolding side
sound-byte p k x h l f r =
    let q = masked-side 64 p.mask p.value k x r.mask r.value l h r.masked f in
    record {
      mask = q.0;
      value = q.1;
      contextmask = r.contextmask;
      contextvalue = r.contextvalue;
      masked = q.2;
      contextmasked = r.contextmasked;
    }

pub sound-context : (p : Pattern) (k x : ℕ) → x < 2 → k < 32 → is_set p.contextmask k ≡ false → ValidPattern p → ValidPattern (side p 2 k x)
unfolding side
sound-context p k x h l f r =
    let q = masked-side 32 p.contextmask p.contextvalue k x r.contextmask r.contextvalue l h r.contextmasked f in
    record {
      mask = r.mask;
      value = r.value;
      contextmask = q.0;
      contextvalue = q.1;
      masked = r.masked;
      contextmasked = q.2;
    }

pub sound-start : ValidPattern start
sound-start =
    record { mask = lit< tt; value = lit< tt; contextmask = lit< tt; contextvalue = lit< tt; masked = refl; contextmasked = refl }
