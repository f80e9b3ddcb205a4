-- Filled words: they have the path's bits, and the other pattern's where the two overlap.
use Prim.Native.Nat.{ℕ, ◌<◌, ◌^◌, min, max}
use mathlib.Core.Bool.{Bool, true, false, not, ◌&&◌, ◌||◌}
use mathlib.Core.Path.{◌≡◌, refl, sym, ap, ◌∙◌}
use native.Mathlib.Omega.{arith}
use borrow.Author.Tests.{eqb-true, eqb-false}
use lib.Bits.{bit_and, bit_or, bit_xor, differ, and_lt, or_lt, xor_lt}
use lib.Dec.{eqb}
use Rattle.lists.proofs.Below.{all-at}
use Rattle.lists.proofs.Bools.{and_left, and_right}
use Rattle.bits.specs.Bits.{bit, is_set}
use Rattle.bits.proofs.Digits.{bit-small, either, bit-and, bit-or, bit-xor}
use Rattle.choosing_spec.specs.ValidPattern.{ValidPattern}
use Rattle.format.specs.declared.Pattern.{Pattern}
use Rattle.patterns.specs.Relations.{inside, meet_bits, overlap}
use Rattle.choosing_theorems.proofs.Fits.{InWord, InMask, Holds, Fits, fits-inside}
use Rattle.tree_rule.specs.Rule.{filled, turned, example_word, example_context}

filled-small : (n pm pv m v : ℕ) → pm < 2 ^ n → pv < 2 ^ n → m < 2 ^ n → v < 2 ^ n → filled pm pv m v < 2 ^ n
filled-small n pm pv m v a b c d =
    or_lt n (bit_and pv pm) (bit_xor (bit_or (bit_and v m) pm) pm) (and_lt n pv pm b a)
    (xor_lt n (bit_or (bit_and v m) pm) pm (or_lt n (bit_and v m) pm (and_lt n v m d c) a) a)

-- bit k of a filled word: x, y and z are the mask's, the value's and the other's
abbrev digit : ℕ → ℕ → ℕ → ℕ
digit x y z = max (min y x) (differ (max z x) x)

module _ (pm pv m v k : ℕ) where
  filled-bit : bit (filled pm pv m v) k ≡ digit (bit pm k) (bit pv k) (min (bit v k) (bit m k))
  filled-bit =
      bit-or (bit_and pv pm) (bit_xor (bit_or (bit_and v m) pm) pm) k
      ∙ rw (bit-and pv pm k, bit-xor (bit_or (bit_and v m) pm) pm k, bit-or (bit_and v m) pm k, bit-and v m k)

  -- where the path masks it, the path's ..
  filled-own : is_set pm k ≡ true → bit (filled pm pv m v) k ≡ bit pv k
  filled-own e = filled-bit ∙ rw (eqb-true (bit pm k) 1 e) (go (bit pv k) (min (bit v k) (bit m k)) (omega arith) (omega arith))
    where
      go : (y z : ℕ) → y < 2 → z < 2 → digit 1 y z ≡ y
      go y z a b =
          either (λ y. digit 1 y z ≡ y) (either (λ z. digit 1 0 z ≡ 0) refl refl z b) (either (λ z. digit 1 1 z ≡ 1) refl refl z b) y a

  -- .. and else the other's, if that masks it
  filled-free : is_set pm k ≡ false → is_set m k ≡ true → bit (filled pm pv m v) k ≡ bit v k
  filled-free e f =
      let z : bit pm k ≡ 0 = omega (arith, eqb-false (bit pm k) 1 e) in
      filled-bit ∙ rw (z, eqb-true (bit m k) 1 f) (go (bit pv k) (bit v k) (omega arith) (omega arith))
    where
      go : (y z : ℕ) → y < 2 → z < 2 → digit 0 y (min z 1) ≡ z
      go y z a b =
          either (λ y. digit 0 y (min z 1) ≡ z) (either (λ z. digit 0 0 (min z 1) ≡ z) refl refl z b)
          (either (λ z. digit 0 1 (min z 1) ≡ z) refl refl z b) y a

-- a masked bit turned round
turned_bit : (m v k : ℕ) → is_set m k ≡ true → bit (turned true m v) k ≡ bit v k → ⊥
turned_bit m v k e q =
    either (λ x. differ x 1 ≡ x → ⊥) (λ (z : differ 0 1 ≡ 0). omega arith) (λ (z : differ 1 1 ≡ 1). omega arith)
    (bit v k) (bit-small v k)
    (ap (differ (bit v k)) (sym (eqb-true (bit m k) 1 e)) ∙ (sym (bit-xor v m k) ∙ q))

-- at any width
module _ (n pm pv m v : ℕ) where
  own-holds : Holds n (InWord (filled pm pv m v)) pm pv
  own-holds = record { at = λ k h e. filled-own pm pv m v k e }

  meet-at : meet_bits n pm pv m v ≡ true → (k : ℕ) → k < n → is_set pm k ≡ true → is_set m k ≡ true → bit pv k ≡ bit v k
  unfolding meet_bits
  meet-at r k h e f =
      eqb-true (bit pv k) (bit v k) (rw (e, f) at (all-at (λ k. not (is_set pm k && is_set m k) || eqb (bit pv k) (bit v k)) n k r h))

  -- filled with the values of an overlapping pattern
  other-holds : meet_bits n pm pv m v ≡ true → Holds n (InWord (filled pm pv m v)) m v
  other-holds r = record { at = λ k h f. go k h f (is_set pm k) refl }
    where
      go : (k : ℕ) → k < n → is_set m k ≡ true → (b : Bool) → is_set pm k ≡ b → bit (filled pm pv m v) k ≡ bit v k
      go k h f true e = filled-own pm pv m v k e ∙ meet-at r k h e f
      go k h f false e = filled-free pm pv m v k e f

  -- filled with all bits against a pattern: it has that pattern's bits only where the path has
  turned-holds : Holds n (InWord (filled pm pv m (turned true m v))) m v → Holds n (InMask pm pv) m v
  turned-holds r = record { at = λ k h f. go k h f (is_set pm k) refl }
    where
      go : (k : ℕ) → k < n → is_set m k ≡ true → (b : Bool) → is_set pm k ≡ b → (b ≡ true) × (bit pv k ≡ bit v k)
      go k h f true e = (refl, sym (filled-own pm pv m (turned true m v) k e) ∙ r.at k h f)
      go k h f false e =
          absurd (turned_bit m v k f (sym (filled-free pm pv m (turned true m v) k e f) ∙ r.at k h f))

-- a path p and a pattern q: the example is on the path
pub path-fits : (own : Bool) (p q : Pattern) → Fits (InWord (example_word own p q)) (InWord (example_context own p q)) p
path-fits own p q =
    record {
      bytes = own-holds 64 p.mask p.value q.mask (turned own q.mask q.value);
      context = own-holds 32 p.contextmask p.contextvalue q.contextmask (turned own q.contextmask q.contextvalue);
    }

pub context-small : (own : Bool) (p q : Pattern) → ValidPattern p → ValidPattern q → example_context own p q < 2 ^ 32
context-small own p q a b =
    filled-small 32 p.contextmask p.contextvalue q.contextmask (turned own q.contextmask q.contextvalue)
    a.contextmask a.contextvalue b.contextmask (go own)
  where
    go : (own : Bool) → turned own q.contextmask q.contextvalue < 2 ^ 32
    go true = xor_lt 32 q.contextvalue q.contextmask b.contextvalue b.contextmask
    go false = b.contextvalue

-- it fits an overlapping pattern ..
pub overlap-fits : (p q : Pattern) → overlap p q ≡ true → Fits (InWord (example_word false p q)) (InWord (example_context false p q)) q
unfolding overlap
overlap-fits p q e =
    let low : Bool = meet_bits 64 p.mask p.value q.mask q.value in
    let high : Bool = meet_bits 32 p.contextmask p.contextvalue q.contextmask q.contextvalue in
    record {
      bytes = other-holds 64 p.mask p.value q.mask q.value (and_left low high e);
      context = other-holds 32 p.contextmask p.contextvalue q.contextmask q.contextvalue (and_right low high e);
    }

-- .. and, turned, only a pattern that the path lies inside
pub turned-inside : (p q : Pattern) → Fits (InWord (example_word true p q)) (InWord (example_context true p q)) q → inside p q ≡ true
turned-inside p q r =
    fits-inside p q
    (record {
      bytes = turned-holds 64 p.mask p.value q.mask q.value r.bytes;
      context = turned-holds 32 p.contextmask p.contextvalue q.contextmask q.contextvalue r.context;
    })
