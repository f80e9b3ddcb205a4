-- The first eight bytes as a number, and the masks of those that are here and missing.
use Prim.Native.Nat.{ℕ, ◌+◌, ◌-◌, ◌*◌, ◌/◌, ◌%◌, ◌<◌, ◌≤◌, ◌^◌, min}
use mathlib.Core.Bool.{Bool, true, false, not, ◌&&◌, beq}
use mathlib.Core.List.{List}
use mathlib.Core.Path.{◌≡◌, refl, sym, ap, ◌∙◌}
use native.Mathlib.Decide.{dec_lt}
use native.Mathlib.Nat.{one-mul}
use native.Mathlib.Omega.{arith}
use borrow.Author.Tests.{lt-ltb, ltb-true}
use lib.Dec.{ltb, lit<}
use lib.ListN.{length, get_or}
use lib.Pow.{shl_exact, pow_mono, pow_pos}
use Rattle.lists.specs.Below.{all_below}
use Rattle.lists.proofs.Below.{all-at}
use Rattle.lists.proofs.Bools.{and_left, and_right, same}
use Rattle.bits.specs.Bits.{bit, is_set}
use Rattle.bits.proofs.Digits.{low_bit, high_bit}
use Rattle.format.specs.Bytes.{byte_at, u16_at, u32_at, u64_at}
use Rattle.patterns.specs.Matching.{byte_bit, present}
use Rattle.patterns.specs.Words.{input_of}
use Rattle.patterns.specs.declared.Input.{Input}

module _ (s : List ℕ) (bytes : (i : ℕ) → get_or s i 0 < 256) where
  word-bit : (at k : ℕ) → k < 16 → bit (u16_at s at) k ≡ bit (byte_at s (at + k / 8)) (k % 8)
  word-bit at k h = go (dec_lt k 8)
    where
      go : Dec (k < 8) → bit (u16_at s at) k ≡ bit (byte_at s (at + k / 8)) (k % 8)
      go (yes l) =
          let a : at + k / 8 ≡ at = omega arith in
          let b : k % 8 ≡ k = omega arith in
          low_bit 8 (byte_at s at) (byte_at s (at + 1)) k (bytes at) l ∙ rw (a, b)
      go (no l) =
          let a : at + k / 8 ≡ at + 1 = omega arith in
          let b : k % 8 ≡ k - 8 = omega arith in
          high_bit 8 (byte_at s at) (byte_at s (at + 1)) k (bytes at) (omega arith) ∙ rw (a, b)

  word_small : (at : ℕ) → u16_at s at < 2 ^ 16
  word_small at = omega (arith, bytes at, bytes (at + 1))

  long-bit : (at k : ℕ) → k < 32 → bit (u32_at s at) k ≡ bit (byte_at s (at + k / 8)) (k % 8)
  long-bit at k h = go (dec_lt k 16)
    where
      go : Dec (k < 16) → bit (u32_at s at) k ≡ bit (byte_at s (at + k / 8)) (k % 8)
      go (yes l) = low_bit 16 (u16_at s at) (u16_at s (at + 2)) k (word_small at) l ∙ word-bit at k l
      go (no l) =
          let a : at + 2 + (k - 16) / 8 ≡ at + k / 8 = omega arith in
          let b : (k - 16) % 8 ≡ k % 8 = omega arith in
          high_bit 16 (u16_at s at) (u16_at s (at + 2)) k (word_small at) (omega arith)
          ∙ (word-bit (at + 2) (k - 16) (omega arith) ∙ rw (a, b))

  pub long-small : (at : ℕ) → u32_at s at < 2 ^ 32
  long-small at = omega (arith, word_small at, word_small (at + 2))

  pub quad-small : (at : ℕ) → u64_at s at < 2 ^ 64
  quad-small at = omega (arith, long-small at, long-small (at + 4))

  pub quad-bit : (k : ℕ) → k < 64 → bit (u64_at s 0) k ≡ byte_bit s k
  quad-bit k h = go (dec_lt k 32)
    where
      go : Dec (k < 32) → bit (u64_at s 0) k ≡ byte_bit s k
      go (yes l) =
          let a : 0 + k / 8 ≡ k / 8 = omega arith in
          low_bit 32 (u32_at s 0) (u32_at s 4) k (long-small 0) l ∙ (long-bit 0 k l ∙ rw a)
      go (no l) =
          let a : 4 + (k - 32) / 8 ≡ k / 8 = omega arith in
          let b : (k - 32) % 8 ≡ k % 8 = omega arith in
          high_bit 32 (u32_at s 0) (u32_at s 4) k (long-small 0) (omega arith)
          ∙ (long-bit 4 (k - 32) (omega arith) ∙ rw (a, b))

-- the masks of n bytes, tried for every n and bit
right : ℕ → ℕ → Bool
right n k =
    beq (is_set (2 ^ (8 * n) - 1) k) (ltb (k / 8) n)
    && beq (is_set (2 ^ 64 - 1 - (2 ^ (8 * n) - 1)) k) (not (ltb (k / 8) n))

tried : all_below 9 (λ n. all_below 64 (right n)) ≡ true
unfolding all_below right
tried = refl

beq-eq : (a b : Bool) → beq a b ≡ true → a ≡ b
beq-eq true true e = refl
beq-eq true false e = sym e
beq-eq false true e = e
beq-eq false false e = refl

module _ (n k : ℕ) (h : n < 9) (l : k < 64) where
  both : right n k ≡ true
  both = all-at (right n) 64 k (all-at (λ n. all_below 64 (right n)) 9 n tried h) l

  pub here-bit : is_set (2 ^ (8 * n) - 1) k ≡ ltb (k / 8) n
  unfolding right
  here-bit = beq-eq _ _ (and_left _ (beq (is_set (2 ^ 64 - 1 - (2 ^ (8 * n) - 1)) k) (not (ltb (k / 8) n))) both)

  pub missing-bit : is_set (2 ^ 64 - 1 - (2 ^ (8 * n) - 1)) k ≡ not (ltb (k / 8) n)
  unfolding right
  missing-bit = beq-eq _ _ (and_right (beq (is_set (2 ^ (8 * n) - 1) k) (ltb (k / 8) n)) _ both)

-- the machine's shift, where the bits fit
pub shifted : (n : ℕ) → n < 8 → (1 * 2 ^ (8 * n)) % 2 ^ 64 ≡ 2 ^ (8 * n)
shifted n h = shl_exact {a = 1} 1 (8 * n) 64 (lit< tt) (omega arith) ∙ one-mul (2 ^ (8 * n))

pub record SmallInput (i : Input) : Type 0 where
  pub word : i.word < 2 ^ 64
  pub here : i.here < 2 ^ 64
  pub missing : i.missing < 2 ^ 64

-- bit by bit, these words are the first eight bytes of s, as far as they are there, and the context c
pub record Holds (s : List ℕ) (c : ℕ) (i : Input) : Type 0 where
  pub bits : (k : ℕ) → k < 64 → present s k ≡ true → bit i.word k ≡ byte_bit s k
  pub here : (k : ℕ) → k < 64 → is_set i.here k ≡ present s k
  pub missing : (k : ℕ) → k < 64 → is_set i.missing k ≡ not (present s k)
  pub context : i.context ≡ c
  pub fits : SmallInput i

module _ (s : List ℕ) (c : ℕ) where
  -- the words of eight bytes or more ..
  pub whole-input : 8 ≤ length s → record { word = u64_at s 0; here = 2 ^ 64 - 1; missing = 0; context = c } ≡ input_of s c
  unfolding input_of
  whole-input h = let e : min 8 (length s) ≡ 8 = omega arith in rw e

  -- .. and of fewer
  pub few-input : length s < 8
      → record { word = u64_at s 0; here = 2 ^ (8 * length s) - 1; missing = 2 ^ 64 - 1 - (2 ^ (8 * length s) - 1); context = c } ≡ input_of s c
  unfolding input_of
  few-input h = let e : min 8 (length s) ≡ length s = omega arith in rw e

  pub input-holds : ((i : ℕ) → get_or s i 0 < 256) → Holds s c (input_of s c)
  unfolding input_of
  input-holds bytes =
      let n = min 8 (length s) in
      record {
        bits = λ k l _. quad-bit s bytes k l;
        here = λ k l. here-bit n k (omega arith) l ∙ there k l;
        missing = λ k l. missing-bit n k (omega arith) l ∙ ap not (there k l);
        context = refl;
        fits =
            (let m : 2 ^ (8 * n) ≤ 2 ^ 64 = pow_mono {i = 8 * n} {j = 64} (omega arith) in
            let p : 0 < 2 ^ (8 * n) = pow_pos (8 * n) in
            record { word = quad-small s bytes 0; here = omega arith; missing = omega arith });
      }
    where
      there : (k : ℕ) → k < 64 → ltb (k / 8) (min 8 (length s)) ≡ ltb (k / 8) (length s)
      there k l =
          let n = min 8 (length s) in
          same (ltb (k / 8) n) (ltb (k / 8) (length s)) (λ e. lt-ltb (k / 8) (length s) (omega (arith, ltb-true (k / 8) n e)))
          (λ e. lt-ltb (k / 8) n (omega (arith, ltb-true (k / 8) (length s) e)))
