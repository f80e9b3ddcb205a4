-- The path behind a finished one, by the highest bit that was tested to be 0.
use Prim.Native.Nat.{ℕ, suc, ◌+◌, ◌-◌, ◌*◌, ◌/◌, ◌%◌, ◌^◌, ◌<◌, ◌≤◌, min}
use mathlib.Core.Bool.{Bool, true, false, cond}
use mathlib.Core.Path.{◌≡◌, refl, sym, ap, ◌∙◌}
use native.Mathlib.Decide.{dec_lt, ℕ_discrete}
use native.Mathlib.Nat.{le-div_iff_mul-le, zero-div, one-mul, div-eq_of_lt, mod-lt, mul_comm, lt_of_lt_of_le}
use native.Mathlib.Omega.{arith}
use borrow.Author.Tests.{eq-eqb, ne_eqb, eqb-true, eqb-false, lt-ltb, le-ltb}
use lib.Bits.{bit_and, bit_or, bit_xor, differ, and_lt, or_lt, xor_lt, and_le_l, and_mask}
use lib.Count.{count_leading_zeros, leading_top}
use lib.Dec.{eqb, ltb, lit<}
use native.Mathlib.Numerals.{one-add}
use lib.Pow.{pow_pos, pow_mono, pow-lt, shl_exact, shr_lt, split}
use Rattle.std.specs.Prelude.{Option, Some, None}
use Rattle.bits.specs.Bits.{bit, is_set}
use Rattle.bits.proofs.Digits.{bit-small, bit-and, bit-or, bit-xor, either, low_bit}
use Rattle.bits.proofs.Words.{same_bits}
use Rattle.format.specs.declared.Pattern.{Pattern}
use Rattle.choosing_spec.specs.ValidPattern.{ValidPattern}
use Rattle.bits.proofs.Single.{power-own, power-other}
use Rattle.tree_building_spec.specs.Rule.{masks}
use Rattle.tree_building_theorems.specs.Numbered.{value_at}
use Rattle.tree_building_theorems.proofs.Numbered.{masks-byte, masks-context, value-byte, value-context}
use Rattle.tree_counting.specs.Turning.{top_of, cut_at, turn_of, HighestSet, LastZero, TurnedAt, Turns}

-- a word that is not 0 has not only zeros
pub leading-small : (x : ℕ) → (x ≡ 0 → ⊥) → x < 2 ^ 64 → count_leading_zeros 64 x ≤ 63
leading-small x f h = let r = leading_top 64 x (omega (arith, f)) h in omega (arith, r.1)

-- as the machine shifts
pub top-shifted : (x : ℕ) → (1 * 2 ^ (63 - count_leading_zeros 64 x)) % 2 ^ 64 ≡ top_of x
top-shifted x = shl_exact {a = 1} 1 (63 - count_leading_zeros 64 x) 64 (omega arith) (omega arith) ∙ one-mul (top_of x)

pub top-positive : (x : ℕ) → 0 < top_of x
top-positive x = pow_pos (63 - count_leading_zeros 64 x)

-- the highest set bit, by the leading zeros
highest-set : (x : ℕ) → (x ≡ 0 → ⊥) → x < 2 ^ 64 → HighestSet x (top_of x)
highest-set x f h =
    let (z, e, l, u) = leading_top 64 x (omega (arith, f)) h in
    let p : 63 - count_leading_zeros 64 x ≡ z = omega arith in
    record {
      place = z;
      small = omega arith;
      is = rw p;
      here = top_bit z l u;
      none = λ k g. high_bit z u k g;
    }
  where
    top_bit : (z : ℕ) → 2 ^ z ≤ x → x < 2 ^ suc z → bit x z ≡ 1
    top_bit z l u =
        let q : x / 2 ^ z < 2 ^ 1 = shr_lt 1 z (rw (one-add z) u) in
        let m : 1 ≤ x / 2 ^ z = (le-div_iff_mul-le (pow_pos z)).1 (rw (one-mul (2 ^ z)) l) in
        omega arith

    high_bit : (z : ℕ) → x < 2 ^ suc z → (k : ℕ) → z < k → bit x k ≡ 0
    high_bit z u k g =
        let m : 2 ^ suc z ≤ 2 ^ k = pow_mono {i = suc z} {j = k} g in
        rw (div-eq_of_lt (lt_of_lt_of_le u m))

-- a word's bits below bit z, and bit z
cut-bit : (x z j : ℕ) → bit (cut_at x (2 ^ z)) j ≡ cond (eqb j z) 1 (cond (ltb j z) (bit x j) 0)
cut-bit x z j = rw (and_mask x z) (go (ℕ_discrete j z) (dec_lt j z))
  where
    lower : j < z → bit (x % 2 ^ z) j ≡ bit x j
    lower l =
        let parts : x % 2 ^ z + 2 ^ z * (x / 2 ^ z) ≡ x = omega (arith, split x z, mul_comm (2 ^ z) (x / 2 ^ z)) in
        sym (low_bit z (x % 2 ^ z) (x / 2 ^ z) j (mod-lt x (pow_pos z)) l) ∙ ap (λ y. bit y j) parts

    higher : z ≤ j → bit (x % 2 ^ z) j ≡ 0
    higher l =
        let m : 2 ^ z ≤ 2 ^ j = pow_mono {i = z} {j = j} l in
        rw (div-eq_of_lt (lt_of_lt_of_le (mod-lt x (pow_pos z)) m))

    go : Dec (j ≡ z) → Dec (j < z) → bit (bit_or (x % 2 ^ z) (2 ^ z)) j ≡ cond (eqb j z) 1 (cond (ltb j z) (bit x j) 0)
    go (yes e) l =
        rw (eq-eqb j z e, e) (let o : bit (bit_or (x % 2 ^ z) (2 ^ z)) z ≡ 1 = omega (arith, bit-or (x % 2 ^ z) (2 ^ z) z, power-own z, bit-small (x % 2 ^ z) z) in o)
    go (no d) (yes l) =
        rw (ne_eqb j z d, lt-ltb j z l)
        (let o : bit (bit_or (x % 2 ^ z) (2 ^ z)) j ≡ bit x j = omega (arith, bit-or (x % 2 ^ z) (2 ^ z) j, power-other z j d, lower l) in o)
    go (no d) (no l) =
        rw (ne_eqb j z d, le-ltb j z (omega arith))
        (let o : bit (bit_or (x % 2 ^ z) (2 ^ z)) j ≡ 0 = omega (arith, bit-or (x % 2 ^ z) (2 ^ z) j, power-other z j d, higher (omega arith)) in o)

set-cut : (x z j : ℕ) → is_set (cut_at x (2 ^ z)) j ≡ cond (eqb j z) true (cond (ltb j z) (is_set x j) false)
set-cut x z j = ap (λ y. eqb y 1) (cut-bit x z j) ∙ go (eqb j z) (ltb j z)
  where
    go : (a b : Bool) → eqb (cond a 1 (cond b (bit x j) 0)) 1 ≡ cond a true (cond b (is_set x j) false)
    go true b = refl
    go false true = refl
    go false false = refl

-- the words stay in range, and the values inside the masks
cut_small : (w x z : ℕ) → x < 2 ^ w → z < w → cut_at x (2 ^ z) < 2 ^ w
cut_small w x z h l = or_lt w (bit_and x (2 ^ z - 1)) (2 ^ z) (omega (arith, and_le_l x (2 ^ z - 1))) (pow-lt l)

cut-masked : (w m v z : ℕ) → m < 2 ^ w → v < 2 ^ w → z < w → bit_and v m ≡ v
    → bit_and (cut_at v (2 ^ z)) (cut_at m (2 ^ z)) ≡ cut_at v (2 ^ z)
cut-masked w m v z hm hv l e =
    same_bits w (bit_and (cut_at v (2 ^ z)) (cut_at m (2 ^ z))) (cut_at v (2 ^ z))
    (and_lt w (cut_at v (2 ^ z)) (cut_at m (2 ^ z)) (cut_small w v z hv l) (cut_small w m z hm l)) (cut_small w v z hv l)
    (λ k i. bit-and (cut_at v (2 ^ z)) (cut_at m (2 ^ z)) k ∙ (rw (cut-bit v z k, cut-bit m z k) (go k (eqb k z) (ltb k z))))
  where
    go : (k : ℕ) (a b : Bool) → min (cond a 1 (cond b (bit v k) 0)) (cond a 1 (cond b (bit m k) 0)) ≡ cond a 1 (cond b (bit v k) 0)
    go k true b = refl
    go k false true = sym (bit-and v m k) ∙ ap (λ y. bit y k) e
    go k false false = refl

-- the bits of a mask that were tested to be 0
zeros-bit : (m v k : ℕ) → bit_and v m ≡ v → (bit v k ≤ bit m k) × (bit (bit_xor m v) k ≡ bit m k - bit v k)
zeros-bit m v k e =
    let l : bit v k ≤ bit m k = omega (arith, bit-and v m k, ap (λ y. bit y k) e) in
    (l, bit-xor m v k ∙ apart (bit m k) (bit v k) (bit-small m k) (bit-small v k) l)
  where
    apart : (a b : ℕ) → a < 2 → b < 2 → b ≤ a → differ a b ≡ a - b
    apart a b h i =
        either (λ a. b ≤ a → differ a b ≡ a - b) (either (λ b. b ≤ 0 → differ 0 b ≡ 0 - b) (λ _. refl) (λ l. absurd (omega arith)) b i)
        (either (λ b. b ≤ 1 → differ 1 b ≡ 1 - b) (λ _. refl) (λ _. refl) b i) a h

-- a bit that was tested, and the value that it had
set : (m k : ℕ) → bit m k ≡ 1 → is_set m k ≡ true
set m k e = eq-eqb (bit m k) 1 e

module _ (p : Pattern) (valid : ValidPattern p) where
  abbrev bytes : ℕ
  bytes = bit_xor p.mask p.value

  abbrev context : ℕ
  context = bit_xor p.contextmask p.contextvalue

  pub context-small : context < 2 ^ 32
  context-small = xor_lt 32 p.contextmask p.contextvalue valid.contextmask valid.contextvalue

  -- where no bit is tested to be 0, all are 1
  ones-byte : (k : ℕ) → k < 64 → bit bytes k ≡ 0 → masks p k ≡ true → value_at p k ≡ 1
  ones-byte k h e m =
      let z = zeros-bit p.mask p.value k valid.masked in
      let o : bit p.mask k ≡ 1 = eqb-true (bit p.mask k) 1 (sym (masks-byte p k h) ∙ m) in
      value-byte p k h ∙ omega (arith, z.0, z.1)

  ones-context : (k : ℕ) → 64 ≤ k → bit context (k - 64) ≡ 0 → masks p k ≡ true → value_at p k ≡ 1
  ones-context k h e m =
      let z = zeros-bit p.contextmask p.contextvalue (k - 64) valid.contextmasked in
      let o : bit p.contextmask (k - 64) ≡ 1 = eqb-true (bit p.contextmask (k - 64)) 1 (sym (masks-context p k h) ∙ m) in
      value-context p k h ∙ omega (arith, z.0, z.1)

  no-bit : (x k : ℕ) → x ≡ 0 → bit x k ≡ 0
  no-bit x k e = rw (e, zero-div (2 ^ k))

  turn-whole : context ≡ 0 → bytes ≡ 0 → (k : ℕ) → k < 96 → masks p k ≡ true → value_at p k ≡ 1
  turn-whole y z k h m = go (dec_lt k 64)
    where
      go : Dec (k < 64) → value_at p k ≡ 1
      go (yes l) = ones-byte k l (no-bit bytes k z) m
      go (no l) = ones-context k (omega arith) (no-bit context (k - 64) y) m

  -- a byte bit is turned
  abbrev byte_turned : ℕ → Pattern
  byte_turned top = record { mask = cut_at p.mask top; value = cut_at p.value top; contextmask = 0; contextvalue = 0 }

  module _ (top : ℕ) (y : context ≡ 0) (h : HighestSet bytes top) where
    turn_byte : (z : ℕ) × LastZero p z × TurnedAt p z (byte_turned top)
    turn_byte =
        let z = zeros-bit p.mask p.value h.place valid.masked in
        let o : bit p.mask h.place ≡ 1 = omega (arith, z.0, z.1, h.here, bit-small p.mask h.place) in
        let n : bit p.value h.place ≡ 0 = omega (arith, z.0, z.1, h.here, bit-small p.mask h.place) in (
          h.place,
          record {
            small = omega (arith, h.small);
            tested = masks-byte p h.place h.small ∙ set p.mask h.place o;
            zero = value-byte p h.place h.small ∙ n;
            behind = λ k g l m. later k g (dec_lt k 64) m;
          },
          record {
            valid =
                rw h.is
                (record {
                  mask = cut_small 64 p.mask h.place valid.mask h.small;
                  value = cut_small 64 p.value h.place valid.value h.small;
                  contextmask = lit< tt;
                  contextvalue = lit< tt;
                  masked = cut-masked 64 p.mask p.value h.place valid.mask valid.value h.small valid.masked;
                  contextmasked = refl;
                });
            tests = λ k l. rw h.is (tests k (dec_lt k 64));
            values = λ k l. rw h.is (values k (dec_lt k 64));
          },
        )
      where
        later : (k : ℕ) → h.place < k → Dec (k < 64) → masks p k ≡ true → value_at p k ≡ 1
        later k g (yes l) m = ones-byte k l (h.none k g) m
        later k g (no l) m = ones-context k (omega arith) (no-bit context (k - 64) y) m

        q : Pattern
        q = record { mask = cut_at p.mask (2 ^ h.place); value = cut_at p.value (2 ^ h.place); contextmask = 0; contextvalue = 0 }

        tests : (k : ℕ) → Dec (k < 64) → masks q k ≡ cond (eqb k h.place) true (cond (ltb k h.place) (masks p k) false)
        tests k (yes l) = masks-byte q k l ∙ (rw (masks-byte p k l) (set-cut p.mask h.place k))
        tests k (no l) =
            masks-context q k (omega arith)
            ∙ rw (ne_eqb k h.place (λ e. omega (arith, h.small)), le-ltb k h.place (omega (arith, h.small)), zero-div (2 ^ (k - 64)))

        values : (k : ℕ) → Dec (k < 64) → value_at q k ≡ cond (eqb k h.place) 1 (cond (ltb k h.place) (value_at p k) 0)
        values k (yes l) = value-byte q k l ∙ (rw (value-byte p k l) (cut-bit p.value h.place k))
        values k (no l) =
            value-context q k (omega arith)
            ∙ rw (ne_eqb k h.place (λ e. omega (arith, h.small)), le-ltb k h.place (omega (arith, h.small)), zero-div (2 ^ (k - 64)))

  -- a context bit is turned
  abbrev context_turned : ℕ → Pattern
  context_turned top =
      record { mask = p.mask; value = p.value; contextmask = cut_at p.contextmask top; contextvalue = cut_at p.contextvalue top }

  module _ (top : ℕ) (h : HighestSet context top) where
    -- it is one of the 32
    top-context : h.place < 32
    top-context = go (dec_lt h.place 32)
      where
        go : Dec (h.place < 32) → h.place < 32
        go (yes l) = l
        go (no l) =
            let s = context-small in
            let m : 2 ^ 32 ≤ 2 ^ h.place = pow_mono {i = 32} {j = h.place} (omega arith) in
            let z : context / 2 ^ h.place ≡ 0 = div-eq_of_lt (lt_of_lt_of_le s m) in
            absurd (omega (arith, h.here))

    -- so the words that are cut fit a context
    cut_fits : (x : ℕ) → x < 2 ^ 32 → cut_at x top < 2 ^ 32
    cut_fits x l = rw h.is (cut_small 32 x h.place l top-context)

    turn-context : (z : ℕ) × LastZero p z × TurnedAt p z (context_turned top)
    turn-context =
        let z = zeros-bit p.contextmask p.contextvalue h.place valid.contextmasked in
        let o : bit p.contextmask h.place ≡ 1 = omega (arith, z.0, z.1, h.here, bit-small p.contextmask h.place) in
        let n : bit p.contextvalue h.place ≡ 0 = omega (arith, z.0, z.1, h.here, bit-small p.contextmask h.place) in
        let b : 64 + h.place - 64 ≡ h.place = omega arith in (
          64 + h.place,
          record {
            small = omega (arith, top-context);
            tested = masks-context p (64 + h.place) (omega arith) ∙ (rw b (set p.contextmask h.place o));
            zero = value-context p (64 + h.place) (omega arith) ∙ (rw b n);
            behind = λ k g l m. ones-context k (omega arith) (h.none (k - 64) (omega arith)) m;
          },
          record {
            valid =
                rw h.is
                (record {
                  mask = valid.mask;
                  value = valid.value;
                  contextmask = cut_small 32 p.contextmask h.place valid.contextmask top-context;
                  contextvalue = cut_small 32 p.contextvalue h.place valid.contextvalue top-context;
                  masked = valid.masked;
                  contextmasked =
                      cut-masked 32 p.contextmask p.contextvalue h.place valid.contextmask valid.contextvalue top-context valid.contextmasked;
                });
            tests = λ k l. rw h.is (tests k (dec_lt k 64));
            values = λ k l. rw h.is (values k (dec_lt k 64));
          },
        )
      where
        q : Pattern
        q =
            record {
              mask = p.mask;
              value = p.value;
              contextmask = cut_at p.contextmask (2 ^ h.place);
              contextvalue = cut_at p.contextvalue (2 ^ h.place);
            }

        same-eq : (k : ℕ) → 64 ≤ k → eqb (k - 64) h.place ≡ eqb k (64 + h.place)
        same-eq k l = go (ℕ_discrete k (64 + h.place))
          where
            go : Dec (k ≡ 64 + h.place) → eqb (k - 64) h.place ≡ eqb k (64 + h.place)
            go (yes e) = rw (eq-eqb k (64 + h.place) e, eq-eqb (k - 64) h.place (omega arith))
            go (no d) = rw (ne_eqb k (64 + h.place) d, ne_eqb (k - 64) h.place (λ e. d (omega arith)))

        same-lt : (k : ℕ) → 64 ≤ k → ltb (k - 64) h.place ≡ ltb k (64 + h.place)
        same-lt k l = go (dec_lt k (64 + h.place))
          where
            go : Dec (k < 64 + h.place) → ltb (k - 64) h.place ≡ ltb k (64 + h.place)
            go (yes e) = rw (lt-ltb k (64 + h.place) e, lt-ltb (k - 64) h.place (omega arith))
            go (no d) = rw (le-ltb k (64 + h.place) (omega arith), le-ltb (k - 64) h.place (omega arith))

        tests : (k : ℕ) → Dec (k < 64) → masks q k ≡ cond (eqb k (64 + h.place)) true (cond (ltb k (64 + h.place)) (masks p k) false)
        tests k (yes l) =
            masks-byte q k l
            ∙ (rw (ne_eqb k (64 + h.place) (λ e. omega arith), lt-ltb k (64 + h.place) (omega arith)) (sym (masks-byte p k l)))
        tests k (no l) =
            let g : 64 ≤ k = omega arith in
            masks-context q k g
            ∙ (rw (masks-context p k g, ← same-eq k g, ← same-lt k g) (set-cut p.contextmask h.place (k - 64)))

        values : (k : ℕ) → Dec (k < 64) → value_at q k ≡ cond (eqb k (64 + h.place)) 1 (cond (ltb k (64 + h.place)) (value_at p k) 0)
        values k (yes l) =
            value-byte q k l
            ∙ (rw (ne_eqb k (64 + h.place) (λ e. omega arith), lt-ltb k (64 + h.place) (omega arith)) (sym (value-byte p k l)))
        values k (no l) =
            let g : 64 ≤ k = omega arith in
            value-context q k g
            ∙ (rw (value-context p k g, ← same-eq k g, ← same-lt k g) (cut-bit p.contextvalue h.place (k - 64)))

  -- the highest bits that were tested to be 0
  highest-byte : (bytes ≡ 0 → ⊥) → HighestSet bytes (top_of bytes)
  highest-byte f = highest-set bytes f (xor_lt 64 p.mask p.value valid.mask valid.value)

  highest-context : (context ≡ 0 → ⊥) → HighestSet context (top_of context)
  highest-context f = highest-set context f (omega (arith, context-small))

  pub cut-context : (context ≡ 0 → ⊥) → (x : ℕ) → x < 2 ^ 32 → cut_at x (top_of context) < 2 ^ 32
  cut-context f x l = cut_fits (top_of context) (highest-context f) x l

  -- what comes behind path p
  turn-of : Turns p (turn_of p)
  unfolding turn_of
  turn-of = go (eqb context 0) refl (eqb bytes 0) refl
    where
      go : (a : Bool) → eqb context 0 ≡ a → (b : Bool) → eqb bytes 0 ≡ b
          → Turns p (cond a (cond b None (Some (byte_turned (top_of bytes)))) (Some (context_turned (top_of context))))
      go false e b f = turn-context (top_of context) (highest-context (eqb-false context 0 e))
      go true e false f = turn_byte (top_of bytes) (eqb-true context 0 e) (highest-byte (eqb-false bytes 0 f))
      go true e true f = turn-whole (eqb-true context 0 e) (eqb-true bytes 0 f)

  pub turns-of : (r : Option Pattern) → r ≡ turn_of p → Turns p r
  turns-of r e = rw e turn-of
