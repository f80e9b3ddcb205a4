-- A field is read by whole bytes and its range cut out: that is its value, bit by bit.
use Prim.Native.Nat.{ℕ, zero, suc, ◌+◌, ◌-◌, ◌*◌, ◌/◌, ◌%◌, ◌^◌, ◌<◌}
use mathlib.Core.Bool.{Bool, true, false, cond}
use mathlib.Core.List.{List}
use mathlib.Core.Path.{◌≡◌, refl, sym, ap, ◌∙◌}
use native.Mathlib.Decide.{dec_lt}
use native.Mathlib.Nat.{one-mul}
use native.Mathlib.Omega.{arith}
use borrow.Author.Tests.{eq-eqb, ne_eqb}
use lib.Dec.{eqb, lit<}
use lib.ListN.{get_or}
use lib.Pow.{shl_exact}
use Rattle.bits.specs.Bits.{bit}
use Rattle.bits.proofs.Digits.{low_bit, high_bit}
use Rattle.format.specs.Rules.{bits_of}
use Rattle.format.specs.declared.Field.{Field}
use Rattle.fields.specs.Value.{token_byte, source_bit, value_of, Readable}
use Rattle.fields.specs.Token.{number_from, token_of, source_of}
use Rattle.fields.proofs.Values.{bits-same, bits-cut}

-- the machine's shift, where the bit fits
pub one_shifted : (n : ℕ) → n < 64 → 1 * 2 ^ n % 2 ^ 64 ≡ 2 ^ n
one_shifted n h = shl_exact {a = 1} 1 n 64 (lit< tt) (omega arith) ∙ one-mul (2 ^ n)

-- bit k of the number of n bytes is a bit of byte k / 8
number_bit : (b : ℕ → ℕ) → ((i : ℕ) → b i < 256) → (n k at : ℕ) → k < 8 * n → bit (number_from b at n) k ≡ bit (b (at + k / 8)) (k % 8)
unfolding number_from
number_bit b h zero k at l = absurd (omega arith)
number_bit b h (suc n) k at l = go (number_bit b h n (k - 8) (suc at)) (dec_lt k 8)
  where
    go : (k - 8 < 8 * n → bit (number_from b (suc at) n) (k - 8) ≡ bit (b (suc at + (k - 8) / 8)) ((k - 8) % 8)) → Dec (k < 8)
        → bit (b at + 256 * number_from b (suc at) n) k ≡ bit (b (at + k / 8)) (k % 8)
    go r (yes m) =
        let p : at + k / 8 ≡ at = omega arith in
        let q : k % 8 ≡ k = omega arith in
        low_bit 8 (b at) (number_from b (suc at) n) k (h at) m ∙ rw (p, q)
    go r (no m) =
        let p : suc at + (k - 8) / 8 ≡ at + k / 8 = omega arith in
        let q : (k - 8) % 8 ≡ k % 8 = omega arith in
        high_bit 8 (b at) (number_from b (suc at) n) k (h at) (omega arith) ∙ (r (omega arith) ∙ rw (p, q))

pub four_bytes : (b : ℕ → ℕ) → b 0 + 256 * (b 1 + 256 * (b 2 + 256 * b 3)) ≡ number_from b 0 4
unfolding number_from
four_bytes b = omega arith

-- the token's bytes where they stand, by order; where the width is a numeral the left side computes
pub little-token : (f : Field) (s : List ℕ) (n : ℕ) → f.width ≡ n → f.order ≡ 0
    → number_from (λ j. get_or s j 0) 0 n ≡ token_of f s
unfolding token_of token_byte
little-token f s n w e =
    ap (λ m. number_from (λ j. get_or s j 0) 0 m) (sym w)
    ∙ ap (λ t. number_from (λ j. cond t (get_or s j 0) (get_or s (f.width - 1 - j) 0)) 0 f.width) (sym (eq-eqb f.order 0 e))

pub big-token : (f : Field) (s : List ℕ) (n : ℕ) → f.width ≡ n → (f.order ≡ 0 → ⊥)
    → number_from (λ j. get_or s (n - 1 - j) 0) 0 n ≡ token_of f s
unfolding token_of token_byte
big-token f s n w e =
    ap (λ m. number_from (λ j. get_or s (m - 1 - j) 0) 0 m) (sym w)
    ∙ ap (λ t. number_from (λ j. cond t (get_or s j 0) (get_or s (f.width - 1 - j) 0)) 0 f.width) (sym (ne_eqb f.order 0 e))

from-code : (f : Field) (s : List ℕ) (c : ℕ) → f.source ≡ 0 → source_of f s c ≡ token_of f s
unfolding source_of
from-code f s c e = rw (eq-eqb f.source 0 e)

from-context : (f : Field) (s : List ℕ) (c : ℕ) → (f.source ≡ 0 → ⊥) → source_of f s c ≡ c
unfolding source_of
from-context f s c e = rw (ne_eqb f.source 0 e)

module _ (f : Field) (s : List ℕ) (bytes : (i : ℕ) → get_or s i 0 < 256) where
  pub token-byte : (j : ℕ) → token_byte f s j < 256
  unfolding token_byte
  token-byte j = go (eqb f.order 0)
    where
      go : (t : Bool) → cond t (get_or s j 0) (get_or s (f.width - 1 - j) 0) < 256
      go true = bytes j
      go false = bytes (f.width - 1 - j)

  source-bit : (c k : ℕ) → k < 8 * f.width → bit (source_of f s c) k ≡ source_bit f s c k
  unfolding source_of token_of source_bit
  source-bit c k h = go (eqb f.source 0)
    where
      go : (t : Bool) → bit (cond t (number_from (token_byte f s) 0 f.width) c) k ≡ cond t (bit (token_byte f s (k / 8)) (k % 8)) (bit c k)
      go true =
          let z : 0 + k / 8 ≡ k / 8 = omega arith in
          number_bit (token_byte f s) token-byte f.width k 0 h ∙ rw z
      go false = refl

  -- over every width, order and range
  pub cut-is-value : (c : ℕ) → Readable f → source_of f s c / 2 ^ f.low % 2 ^ bits_of f ≡ value_of f s c
  unfolding value_of
  cut-is-value c r =
      sym (bits-cut (bits_of f) f.low (source_of f s c))
      ∙ bits-same (bits_of f) _ _ (λ i h. source-bit c (f.low + i) (omega (arith, r.some, r.within)))

  -- of the instruction, and of the context
  pub token-value : (c : ℕ) → Readable f → f.source ≡ 0 → token_of f s / 2 ^ f.low % 2 ^ bits_of f ≡ value_of f s c
  token-value c r e = rw (from-code f s c e) at (cut-is-value c r)

  pub context-value : (c : ℕ) → Readable f → (f.source ≡ 0 → ⊥) → c / 2 ^ f.low % 2 ^ bits_of f ≡ value_of f s c
  context-value c r e = rw (from-context f s c e) at (cut-is-value c r)
