-- Each test of whole words is the definition's test of every bit.
use Prim.Native.Nat.{ℕ, ◌+◌, ◌<◌, ◌^◌}
use mathlib.Core.Bool.{Bool, true, false, not, ◌&&◌, ◌||◌}
use mathlib.Core.List.{List}
use mathlib.Core.Path.{◌≡◌, refl, sym, ◌∙◌}
use lib.Bits.{bit_and, bit_or, bit_xor, and_lt}
use lib.Count.{ones}
use lib.Dec.{eqb}
use Rattle.lists.specs.Below.{all_below}
use Rattle.lists.proofs.Below.{all_same, all-not, all-and}
use Rattle.lists.proofs.Bools.{and_no, and_yes, and-swap}
use Rattle.bits.specs.Bits.{bit, is_set}
use Rattle.bits.proofs.Words.{agrees-law, inside-law, apart-law, ones-law, set-and}
use Rattle.format.specs.declared.Pattern.{Pattern}
use Rattle.patterns.specs.Matching.{byte_bit, present, context_agrees, matches, agrees, masks_missing}
use Rattle.patterns.specs.Relations.{inside, inside_bits, overlap, meet_bits, weight}
use Rattle.patterns.specs.Words.{Small, words_agree, words_whole}
use Rattle.patterns.specs.declared.Input.{Input}
use Rattle.patterns.proofs.Bytes.{Holds}

pub inside_is : (a b : Pattern) → Small a → Small b
    → (eqb (bit_and (bit_or (bit_xor a.mask b.mask) (bit_xor a.value b.value)) b.mask) 0
    && eqb (bit_and (bit_or (bit_xor a.contextmask b.contextmask) (bit_xor a.contextvalue b.contextvalue)) b.contextmask) 0)
    ≡ inside a b
unfolding inside inside_bits
inside_is a b p q =
    rw (
      inside-law 64 a.mask a.value b.mask b.value p.mask p.value q.mask q.value,
      inside-law 32 a.contextmask a.contextvalue b.contextmask b.contextvalue p.contextmask p.contextvalue q.contextmask q.contextvalue,
    )

meet-is : (n am av bm bv : ℕ) → am < 2 ^ n → bm < 2 ^ n
    → eqb (bit_and (bit_xor av bv) (bit_and am bm)) 0 ≡ meet_bits n am av bm bv
unfolding meet_bits
meet-is n am av bm bv p r =
    agrees-law n av bv (bit_and am bm) (and_lt n am bm p r)
    ∙ all_same n (λ k. not (is_set (bit_and am bm) k) || eqb (bit av k) (bit bv k)) (λ k. not (is_set am k && is_set bm k) || eqb (bit av k) (bit bv k))
    (λ k h. rw (set-and am bm k))

pub overlap-is : (a b : Pattern) → Small a → Small b
    → (eqb (bit_and (bit_xor a.value b.value) (bit_and a.mask b.mask)) 0
    && eqb (bit_and (bit_xor a.contextvalue b.contextvalue) (bit_and a.contextmask b.contextmask)) 0)
    ≡ overlap a b
unfolding overlap
overlap-is a b p q =
    rw (
      meet-is 64 a.mask a.value b.mask b.value p.mask q.mask,
      meet-is 32 a.contextmask a.contextvalue b.contextmask b.contextvalue p.contextmask q.contextmask,
    )

pub weight_is : (p : Pattern) → Small p → ones p.mask + ones p.contextmask ≡ weight p
unfolding weight
weight_is p h = rw (ones-law 64 p.mask h.mask, ones-law 32 p.contextmask h.contextmask)

module _ (p : Pattern) (s : List ℕ) (c : ℕ) (i : Input) (h : Small p) (e : Holds s c i) where
  -- the bits of the bytes that are here
  bytes-agree : eqb (bit_and (bit_xor i.word p.value) (bit_and p.mask i.here)) 0
      ≡ all_below 64 (λ k. not (is_set p.mask k && present s k) || eqb (byte_bit s k) (bit p.value k))
  bytes-agree =
      agrees-law 64 i.word p.value (bit_and p.mask i.here) (and_lt 64 p.mask i.here h.mask e.fits.here)
      ∙ all_same 64 (λ k. not (is_set (bit_and p.mask i.here) k) || eqb (bit i.word k) (bit p.value k))
      (λ k. not (is_set p.mask k && present s k) || eqb (byte_bit s k) (bit p.value k))
      (λ k l. rw (set-and p.mask i.here k, e.here k l) (go k l (present s k) refl))
    where
      go : (k : ℕ) → k < 64 → (t : Bool) → present s k ≡ t
          → (not (is_set p.mask k && t) || eqb (bit i.word k) (bit p.value k))
          ≡ (not (is_set p.mask k && t) || eqb (byte_bit s k) (bit p.value k))
      go k l true q = rw (e.bits k l q)
      go k l false q = rw (and_no (is_set p.mask k) false refl)

  pub agrees-is : words_agree p i ≡ agrees p s c
  unfolding agrees context_agrees
  agrees-is =
      rw (bytes-agree, agrees-law 32 i.context p.contextvalue p.contextmask h.contextmask, e.context)

  -- no masked bit is missing
  pub whole_is : words_whole p i ≡ not (masks_missing p s)
  unfolding masks_missing
  whole_is =
      apart-law 64 p.mask i.missing h.mask e.fits.missing
      ∙ (all_same 64 (λ k. not (is_set p.mask k && is_set i.missing k)) (λ k. not (is_set p.mask k && not (present s k)))
      (λ k l. rw (e.missing k l))
      ∙ all-not 64 (λ k. is_set p.mask k && not (present s k)))

-- a pattern matches where it agrees with all bytes present and masks none that is missing
pub matches-is : (p : Pattern) (s : List ℕ) (c : ℕ) → matches p s c ≡ (agrees p s c && not (masks_missing p s))
unfolding matches agrees masks_missing
matches-is p s c =
    rw (
      all_same 64 (λ k. not (is_set p.mask k) || (present s k && eqb (byte_bit s k) (bit p.value k)))
          (λ k. (not (is_set p.mask k && present s k) || eqb (byte_bit s k) (bit p.value k)) && not (is_set p.mask k && not (present s k)))
          (λ k h. go (is_set p.mask k) (present s k) (eqb (byte_bit s k) (bit p.value k))),
      all-and 64 (λ k. not (is_set p.mask k && present s k) || eqb (byte_bit s k) (bit p.value k))
          (λ k. not (is_set p.mask k && not (present s k))),
      all-not 64 (λ k. is_set p.mask k && not (present s k)),
    )
    (swap (all_below 64 (λ k. not (is_set p.mask k && present s k) || eqb (byte_bit s k) (bit p.value k))) _ (context_agrees p c))
  where
    go : (m t e : Bool) → (not m || (t && e)) ≡ ((not (m && t) || e) && not (m && not t))
    go false t e = refl
    go true true e = sym (and_yes e)
    go true false e = refl

    swap : (a b c : Bool) → (a && b && c) ≡ (a && c && b)
    swap false b c = refl
    swap true b c = and-swap b c
