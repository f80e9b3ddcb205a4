-- A value is small, and only the bytes of its field's token matter.
use Prim.Native.Nat.{ℕ, zero, suc, ◌+◌, ◌-◌, ◌*◌, ◌/◌, ◌%◌, ◌^◌, ◌≤◌, ◌<◌}
use mathlib.Core.Bool.{Bool, true, false, cond, ◌&&◌, ◌||◌}
use mathlib.Core.List.{List, ◌++◌}
use mathlib.Core.Path.{◌≡◌, refl}
use native.Mathlib.Numerals.{one-add}
use native.Mathlib.Omega.{arith}
use borrow.Author.Tests.{eqb-true, leb-true, ltb-true}
use lib.Dec.{eqb, leb, ltb}
use lib.ListN.{length, get_or-append}
use lib.Pow.{pow-add, mod-pow-add, shr-shr}
use Rattle.lists.proofs.Bools.{and_left, and_right, and3, and4}
use Rattle.bits.specs.Bits.{bit}
use Rattle.bits.proofs.Digits.{bit-small, either}
use Rattle.format.specs.Rules.{bits_of, field_ok, source_ok, bits_ok, look_ok}
use Rattle.format.specs.declared.Field.{Field}
use Rattle.fields.specs.Value.{token_byte, source_bit, of_bits, value_of, Readable}
use Rattle.fields.specs.Look.{look_of}
use Rattle.fields.specs.declared.Look.TheVariants.{Name}

-- the same bits are the same number
pub bits-same : (n : ℕ) (a b : ℕ → ℕ) → ((i : ℕ) → i < n → a i ≡ b i) → of_bits n a ≡ of_bits n b
unfolding of_bits
bits-same zero a b e = refl
bits-same (suc n) a b e = rw (e n (omega arith), bits-same n a b (λ i h. e i (omega arith)))

bits_small : (n : ℕ) (b : ℕ → ℕ) → ((i : ℕ) → b i < 2) → of_bits n b < 2 ^ n
unfolding of_bits
bits_small zero b h = omega arith
bits_small (suc n) b h =
    rw (← one-add n, pow-add 2 1 n)
    (either (λ x. of_bits n b + x * 2 ^ n < 2 ^ 1 * 2 ^ n) (omega (arith, bits_small n b h)) (omega (arith, bits_small n b h)) (b n) (h n))

-- the bits from bit l on, cut out at once
pub bits-cut : (n l x : ℕ) → of_bits n (λ i. bit x (l + i)) ≡ x / 2 ^ l % 2 ^ n
unfolding of_bits
bits-cut zero l x = omega arith
bits-cut (suc n) l x =
    rw (← one-add n, mod-pow-add (x / 2 ^ l) 1 n, shr-shr x l n) (omega (arith, bits-cut n l x))

source-small : (f : Field) (s : List ℕ) (c k : ℕ) → source_bit f s c k < 2
unfolding source_bit
source-small f s c k = go (eqb f.source 0)
  where
    go : (t : Bool) → cond t (bit (token_byte f s (k / 8)) (k % 8)) (bit c k) < 2
    go true = bit-small (token_byte f s (k / 8)) (k % 8)
    go false = bit-small c k

pub value-small : (f : Field) (s : List ℕ) (c : ℕ) → value_of f s c < 2 ^ bits_of f
unfolding value_of
value-small f s c = bits_small (bits_of f) (λ i. source_bit f s c (f.low + i)) (λ i. source-small f s c (f.low + i))

pub bits-some : (f : Field) → Readable f → (1 ≤ bits_of f) × (bits_of f ≤ 32)
bits-some f r = omega arith

-- bytes behind the token change nothing
token-stays : (f : Field) (s m : List ℕ) (j : ℕ) → f.width ≤ length s → j < f.width → token_byte f (s ++ m) j ≡ token_byte f s j
unfolding token_byte
token-stays f s m j h l =
    rw (get_or-append s m 0 j (omega arith), get_or-append s m 0 (f.width - 1 - j) (omega arith))

pub value_stays : (f : Field) (s m : List ℕ) (c : ℕ) → (f.source ≡ 0 → f.width ≤ length s) → Readable f
    → value_of f (s ++ m) c ≡ value_of f s c
unfolding value_of source_bit
value_stays f s m c h r =
    bits-same (bits_of f) _ _ (λ i l. go (f.low + i) (omega (arith, r.some, r.within)) (eqb f.source 0) refl)
  where
    go : (k : ℕ) → k < 8 * f.width → (t : Bool) → eqb f.source 0 ≡ t
        → cond t (bit (token_byte f (s ++ m) (k / 8)) (k % 8)) (bit c k) ≡ cond t (bit (token_byte f s (k / 8)) (k % 8)) (bit c k)
    go k l true e = rw (token-stays f s m (k / 8) (h (eqb-true f.source 0 e)) (omega arith))
    go k l false e = refl

-- the three parts of the rule of a field
parts : (names : ℕ) (f : Field) → field_ok names f ≡ true → (source_ok f ≡ true) × (bits_ok f ≡ true) × (look_ok names f ≡ true)
unfolding field_ok
parts names f e = and3 (source_ok f) (bits_ok f) (look_ok names f) e

pub readable : (names : ℕ) (f : Field) → field_ok names f ≡ true → Readable f
readable names f e =
    let p = parts names f e in
    record {
      narrow = narrow (eqb f.source 0 && leb 1 f.width && leb f.width 4 && leb f.order 1) refl p.0;
      some = leb-true f.low f.high (and_left _ (ltb f.high (8 * f.width)) p.1);
      within = ltb-true f.high (8 * f.width) (and_right (leb f.low f.high) _ p.1);
    }
  where
    narrow : (t : Bool) → (eqb f.source 0 && leb 1 f.width && leb f.width 4 && leb f.order 1) ≡ t
        → (t || (eqb f.source 1 && eqb f.width 4 && eqb f.order 0)) ≡ true → f.width ≤ 4
    narrow true q _ = leb-true f.width 4 (and4 (eqb f.source 0) (leb 1 f.width) (leb f.width 4) (leb f.order 1) q).2
    narrow false q w =
        omega (arith, eqb-true f.width 4 (and3 (eqb f.source 1) (eqb f.width 4) (eqb f.order 0) w).1)

-- a look below 4 shows a number
no_name : (look : ℕ) → look < 4 → look_of look ≡ Name → ⊥
unfolding look_of
no_name zero h e = let z : ◌≡◌ {A = ℕ} 0 1 = cc in omega arith
no_name (suc zero) h e = let z : ◌≡◌ {A = ℕ} 0 1 = cc in omega arith
no_name (suc (suc zero)) h e = let z : ◌≡◌ {A = ℕ} 0 1 = cc in omega arith
no_name (suc (suc (suc zero))) h e = let z : ◌≡◌ {A = ℕ} 0 1 = cc in omega arith
no_name (suc (suc (suc (suc look)))) h e = omega arith

-- "2^bits names, all present, from its first name"
pub named-within : (names : ℕ) (f : Field) (s : List ℕ) (c : ℕ) → field_ok names f ≡ true → look_of f.look ≡ Name
    → f.first + value_of f s c < names
named-within names f s c e n = go (ltb f.look 4 && eqb f.first 0) refl (parts names f e).2
  where
    go : (t : Bool) → (ltb f.look 4 && eqb f.first 0) ≡ t
        → (t || (eqb f.look 4 && leb (bits_of f) 8 && leb (f.first + 2 ^ bits_of f) names)) ≡ true
        → f.first + value_of f s c < names
    go true q _ = absurd (no_name f.look (ltb-true f.look 4 (and_left (ltb f.look 4) (eqb f.first 0) q)) n)
    go false q w =
        omega (
          arith,
          value-small f s c,
          leb-true (f.first + 2 ^ bits_of f) names (and3 (eqb f.look 4) (leb (bits_of f) 8) (leb (f.first + 2 ^ bits_of f) names) w).2,
        )
