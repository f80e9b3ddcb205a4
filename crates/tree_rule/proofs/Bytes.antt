-- Eight bytes as a number, and inputs of eight bytes or more.
use Prim.Native.Nat.{ℕ, zero, suc, ◌+◌, ◌-◌, ◌*◌, ◌/◌, ◌%◌, ◌<◌, ◌≤◌, ◌^◌}
use mathlib.Core.Bool.{Bool, true, false}
use mathlib.Core.List.{List, ◌∷◌}
use mathlib.Core.Path.{◌≡◌, refl, sym, ap, ◌∙◌}
use native.Mathlib.Decide.{dec_lt}
use native.Mathlib.Omega.{arith}
use borrow.Author.Tests.{lt-ltb}
use lib.ListN.{length, get_or}
use Rattle.lists.proofs.Bools.{and_no}
use Rattle.bits.specs.Bits.{bit}
use Rattle.bits.proofs.Digits.{low_bit, high_bit}
use Rattle.choosing_spec.specs.Choosing.{short}
use Rattle.format.specs.declared.Pattern.{Pattern}
use Rattle.patterns.specs.Matching.{byte_bit, matches, agrees, masks_missing, cut_off}
use Rattle.choosing_theorems.proofs.Fits.{Asks, InBytes, InWord, Holds, Fits, Missing, missing_at, matches-fits, fits-matches}
use Rattle.tree_spec.specs.Verdicts.{bytes_of}
use Rattle.tree_spec.specs.Reach.{Input}

pub bytes-length : (n w : ℕ) → length (bytes_of n w) ≡ n
unfolding bytes_of
bytes-length zero w = refl
bytes-length (suc n) w = ap suc (bytes-length n (w / 256))

pub bytes_small : (n w k : ℕ) → get_or (bytes_of n w) k 0 < 256
unfolding bytes_of
bytes_small zero w k = omega arith
bytes_small (suc n) w zero = omega arith
bytes_small (suc n) w (suc k) = bytes_small n (w / 256) k

-- their bits are the number's
pub bytes-bit : (n w k : ℕ) → k < 8 * n → byte_bit (bytes_of n w) k ≡ bit w k
unfolding bytes_of
bytes-bit zero w k h = absurd (omega arith)
bytes-bit (suc n) w k h = go (dec_lt k 8) (bytes-bit n (w / 256) (k - 8))
  where
    parts : w % 256 + 2 ^ 8 * (w / 256) ≡ w
    parts = omega arith

    go : Dec (k < 8) → (k - 8 < 8 * n → byte_bit (bytes_of n (w / 256)) (k - 8) ≡ bit (w / 256) (k - 8))
        → byte_bit (w % 256 ∷ bytes_of n (w / 256)) k ≡ bit w k
    go (yes l) f =
        let a : k / 8 ≡ 0 = omega arith in
        let b : k % 8 ≡ k = omega arith in
        rw (a, b) (sym (low_bit 8 (w % 256) (w / 256) k (omega arith) l) ∙ ap (λ x. bit x k) parts)
    go (no l) f =
        let a : k / 8 ≡ suc ((k - 8) / 8) = omega arith in
        let b : k % 8 ≡ (k - 8) % 8 = omega arith in
        rw (a, b) (f (omega arith) ∙ (sym (high_bit 8 (w % 256) (w / 256) k (omega arith) (omega arith)) ∙ ap (λ x. bit x k) parts))

-- what answers one question answers another
holds-map : (n m v : ℕ) (R T : Asks) → ((k x : ℕ) → k < n → R k x → T k x) → Holds n R m v → Holds n T m v
holds-map n m v R T f r = record { at = λ k h e. f k (bit v k) h (r.at k h e) }

-- a pattern matches the eight bytes of a number as it matches the number
module _ (p : Pattern) (w c : ℕ) where
  pub word-matches : Fits (InWord w) (InWord c) p → matches p (bytes_of 8 w) c ≡ true
  word-matches r =
      fits-matches p (bytes_of 8 w) c
      (record {
        bytes =
            holds-map 64 p.mask p.value (InWord w) (InBytes (bytes_of 8 w))
            (λ k x h e. (lt-ltb (k / 8) (length (bytes_of 8 w)) (omega (arith, bytes-length 8 w)), bytes-bit 8 w k h ∙ e)) r.bytes;
        context = r.context;
      })

  pub matches-word : matches p (bytes_of 8 w) c ≡ true → Fits (InWord w) (InWord c) p
  matches-word e =
      let r : Fits (InBytes (bytes_of 8 w)) (InWord c) p = matches-fits p (bytes_of 8 w) c e in
      record {
        bytes = holds-map 64 p.mask p.value (InBytes (bytes_of 8 w)) (InWord w) (λ k x h q. sym (bytes-bit 8 w k h) ∙ q.1) r.bytes;
        context = r.context;
      }

pub bytes-input : (w c : ℕ) → c < 2 ^ 32 → Input (bytes_of 8 w) c
bytes-input w c h = record { long = omega (arith, bytes-length 8 w); bytes = bytes_small 8 w; context = h }

-- with eight bytes nothing is cut short
pub never-short : (at : ℕ → Pattern) (n : ℕ) (s : List ℕ) (c : ℕ) → 8 ≤ length s → (j : ℕ) → short at n s c j ≡ false
unfolding short cut_off
never-short at n s c l j = and_no (agrees (at j) s c) (masks_missing (at j) s) (go (masks_missing (at j) s) refl)
  where
    go : (b : Bool) → masks_missing (at j) s ≡ b → b ≡ false
    go true e = let r : Missing (at j) s = missing_at (at j) s e in absurd (omega (arith, r.within, r.absent))
    go false e = refl
