-- Two patterns that something fits both: they overlap, it fits their overlap, and that lies inside both.
use Prim.Native.Nat.{ℕ, ◌<◌, ◌^◌}
use mathlib.Core.Bool.{Bool, true, false, not, ◌&&◌, ◌||◌}
use mathlib.Core.Path.{◌≡◌, refl, sym, ap, subst, ◌∙◌}
use native.Mathlib.Omega.{arith}
use borrow.Author.Tests.{eq-eqb, eqb-true, eqb-false}
use lib.Bits.{bit_and, bit_or, or_comm}
use lib.Dec.{eqb}
use Rattle.lists.proofs.Below.{all_of}
use Rattle.lists.proofs.Bools.{same}
use Rattle.bits.specs.Bits.{bit, is_set}
use Rattle.bits.proofs.Digits.{bit-small, bit-and, bit-or}
use Rattle.bits.proofs.Words.{same_bits}
use Rattle.choosing_spec.specs.ValidPattern.{ValidPattern}
use Rattle.format.specs.declared.Pattern.{Pattern}
use Rattle.patterns.specs.Relations.{inside, meet_bits, overlap, overlap_of, equal}
use Rattle.choosing_theorems.proofs.Fits.{Asks, InMask, Holds, Fits, Within, inside-fits, fits-inside}

-- "no value bit outside its mask", bit by bit
abbrev Proper : ℕ → ℕ → Type 0
Proper m v = (k : ℕ) → is_set m k ≡ false → bit v k ≡ 0

proper : (m v : ℕ) → bit_and v m ≡ v → Proper m v
proper m v e k q =
    let d : bit m k ≡ 1 → ⊥ = eqb-false (bit m k) 1 q in
    omega (arith, ap (λ x. bit x k) e, bit-and v m k, bit-small m k)

-- bits that are set alike are equal
set-bit : (a b k : ℕ) → is_set a k ≡ is_set b k → bit a k ≡ bit b k
set-bit a b k e = go (is_set a k) refl
  where
    go : (x : Bool) → is_set a k ≡ x → bit a k ≡ bit b k
    go true p = eqb-true (bit a k) 1 p ∙ sym (eqb-true (bit b k) 1 (sym e ∙ p))
    go false p =
        let c : bit a k ≡ 1 → ⊥ = eqb-false (bit a k) 1 p in
        let d : bit b k ≡ 1 → ⊥ = eqb-false (bit b k) 1 (sym e ∙ p) in
        omega arith

-- a bit that has to have one value
abbrev pub Single : Asks → Type 0
Single R = (k x y : ℕ) → R k x → R k y → x ≡ y

-- two masks with their values, at any width
module _ (n am av bm bv : ℕ) where
  -- "overlap": what both mask has one value
  abbrev Meets : Type 0
  Meets = (k : ℕ) → k < n → is_set am k ≡ true → is_set bm k ≡ true → bit av k ≡ bit bv k

  meets : (R : Asks) → Single R → Holds n R am av → Holds n R bm bv → Meets
  meets R one r q k h x y = one k (bit av k) (bit bv k) (r.at k h x) (q.at k h y)

  meets-bits : Meets → meet_bits n am av bm bv ≡ true
  unfolding meet_bits
  meets-bits f =
      all_of (λ k. not (is_set am k && is_set bm k) || eqb (bit av k) (bit bv k)) n (λ k h. go k h (is_set am k) refl (is_set bm k) refl)
    where
      go : (k : ℕ) → k < n → (x : Bool) → is_set am k ≡ x → (y : Bool) → is_set bm k ≡ y → not (x && y) || eqb (bit av k) (bit bv k) ≡ true
      go k h true p true q = eq-eqb (bit av k) (bit bv k) (f k h p q)
      go k h true p false q = refl
      go k h false p y q = refl

  -- where A masks a bit, the union of the values has A's
  union-value : Meets → Proper bm bv → (k : ℕ) → k < n → is_set am k ≡ true → bit (bit_or av bv) k ≡ bit av k
  union-value f p k h e = go (is_set bm k) refl
    where
      go : (x : Bool) → is_set bm k ≡ x → bit (bit_or av bv) k ≡ bit av k
      go true q = omega (arith, bit-or av bv k, f k h e q)
      go false q = omega (arith, bit-or av bv k, p k q)

  -- so the union lies inside A ..
  union_left : Meets → Proper bm bv → Holds n (InMask (bit_or am bm) (bit_or av bv)) am av
  union_left f p =
      record {
        at = λ k h e. (
          eq-eqb (bit (bit_or am bm) k) 1 (omega (arith, bit-or am bm k, eqb-true (bit am k) 1 e, bit-small bm k)),
          union-value f p k h e,
        );
      }

  -- .. and what fits both fits it
  union-holds : (R : Asks) → Meets → Proper am av → Proper bm bv → Holds n R am av → Holds n R bm bv
      → Holds n R (bit_or am bm) (bit_or av bv)
  union-holds R f p q r u = record { at = λ k h e. go k h e (is_set am k) refl }
    where
      go : (k : ℕ) → k < n → is_set (bit_or am bm) k ≡ true → (x : Bool) → is_set am k ≡ x → R k (bit (bit_or av bv) k)
      go k h e true z = subst (R k) (sym (union-value f q k h z)) (r.at k h z)
      go k h e false z =
          let d : bit am k ≡ 1 → ⊥ = eqb-false (bit am k) 1 z in
          let b : bit bm k ≡ 1 = omega (arith, bit-or am bm k, eqb-true (bit (bit_or am bm) k) 1 e, bit-small am k) in
          let w : bit (bit_or av bv) k ≡ bit bv k = omega (arith, bit-or av bv k, p k z) in
          subst (R k) (sym w) (u.at k h (eq-eqb (bit bm k) 1 b))

  -- masks with values, each inside the other, are the same ..
  twin-sets : Holds n (InMask am av) bm bv → Holds n (InMask bm bv) am av → (k : ℕ) → k < n → is_set am k ≡ is_set bm k
  twin-sets r u k h = same (is_set am k) (is_set bm k) (λ e. (u.at k h e).0) (λ e. (r.at k h e).0)

  twin-masks : am < 2 ^ n → bm < 2 ^ n → Holds n (InMask am av) bm bv → Holds n (InMask bm bv) am av → am ≡ bm
  twin-masks x y r u = same_bits n am bm x y (λ k h. set-bit am bm k (twin-sets r u k h))

  -- .. and so are the values
  twin-values : av < 2 ^ n → bv < 2 ^ n → Proper am av → Proper bm bv → Holds n (InMask am av) bm bv → Holds n (InMask bm bv) am av
      → av ≡ bv
  twin-values x y p q r u = same_bits n av bv x y (λ k h. go k h (is_set am k) refl)
    where
      go : (k : ℕ) → k < n → (b : Bool) → is_set am k ≡ b → bit av k ≡ bit bv k
      go k h true z = sym (u.at k h z).1
      go k h false z = p k z ∙ sym (q k (sym (twin-sets r u k h) ∙ z))

-- two whole patterns
module _ (a b : Pattern) (x : ValidPattern a) (y : ValidPattern b) where
  bytes-a : Proper a.mask a.value
  bytes-a = proper a.mask a.value x.masked

  context-a : Proper a.contextmask a.contextvalue
  context-a = proper a.contextmask a.contextvalue x.contextmasked

  bytes-b : Proper b.mask b.value
  bytes-b = proper b.mask b.value y.masked

  context-b : Proper b.contextmask b.contextvalue
  context-b = proper b.contextmask b.contextvalue y.contextmasked

  -- each inside the other: equal
  pub twins : inside a b ≡ true → inside b a ≡ true → equal a b ≡ true
  twins e f =
      let r : Within a b = inside-fits a b e in
      let u : Within b a = inside-fits b a f in
      let mask : a.mask ≡ b.mask =
      twin-masks 64 a.mask a.value b.mask b.value x.mask y.mask r.bytes u.bytes in
      let value : a.value ≡ b.value =
      twin-values 64 a.mask a.value b.mask b.value x.value y.value bytes-a bytes-b r.bytes u.bytes in
      let contextmask : a.contextmask ≡ b.contextmask =
      twin-masks 32 a.contextmask a.contextvalue b.contextmask b.contextvalue x.contextmask y.contextmask r.context
      u.context in
      let contextvalue : a.contextvalue ≡ b.contextvalue =
      twin-values 32 a.contextmask a.contextvalue b.contextmask b.contextvalue x.contextvalue y.contextvalue context-a
      context-b r.context u.context in
      rw (
        eq-eqb a.mask b.mask mask,
        eq-eqb a.value b.value value,
        eq-eqb a.contextmask b.contextmask contextmask,
        eq-eqb a.contextvalue b.contextvalue contextvalue,
      )

  -- something that fits both
  module _ (B C : Asks) (one : Single B) (single : Single C) (r : Fits B C a) (u : Fits B C b) where
    bytes-meet : Meets 64 a.mask a.value b.mask b.value
    bytes-meet = meets 64 a.mask a.value b.mask b.value B one r.bytes u.bytes

    context-meet : Meets 32 a.contextmask a.contextvalue b.contextmask b.contextvalue
    context-meet = meets 32 a.contextmask a.contextvalue b.contextmask b.contextvalue C single r.context u.context

    pub both-overlap : overlap a b ≡ true
    unfolding overlap
    both-overlap =
        rw (
          meets-bits 64 a.mask a.value b.mask b.value bytes-meet,
          meets-bits 32 a.contextmask a.contextvalue b.contextmask b.contextvalue context-meet,
        )

    pub union-fits : Fits B C (overlap_of a b)
    union-fits =
        record {
          bytes = union-holds 64 a.mask a.value b.mask b.value B bytes-meet bytes-a bytes-b r.bytes u.bytes;
          context =
              union-holds 32 a.contextmask a.contextvalue b.contextmask b.contextvalue C context-meet context-a context-b
              r.context u.context;
        }

    pub union-inside : inside (overlap_of a b) a ≡ true
    union-inside =
        fits-inside (overlap_of a b) a
        (record {
          bytes = union_left 64 a.mask a.value b.mask b.value bytes-meet bytes-b;
          context = union_left 32 a.contextmask a.contextvalue b.contextmask b.contextvalue context-meet context-b;
        })

-- the overlap is the same from both sides
pub union-swap : (a b : Pattern) → overlap_of a b ≡ overlap_of b a
union-swap a b =
    rw (
      or_comm a.mask b.mask,
      or_comm a.value b.value,
      or_comm a.contextmask b.contextmask,
      or_comm a.contextvalue b.contextvalue,
    )
