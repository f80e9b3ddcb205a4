-- The path behind a test: the machine's shifts lose nothing, and the path's numbers fit their words.
use Prim.Native.Nat.{ℕ, ◌*◌, ◌%◌, ◌^◌, ◌<◌, ◌≤◌}
use mathlib.Core.Bool.{Bool, true, false, cond}
use mathlib.Core.Path.{◌≡◌, refl, ◌∙◌}
use native.Mathlib.Nat.{one-mul, lt_of_lt_of_le}
use native.Mathlib.Omega.{arith}
use borrow.Author.Tests.{eq-eqb, ne_eqb, eqb-false}
use lib.Bits.{bit_or, or_lt}
use lib.Dec.{eqb}
use lib.Pow.{shl_exact, shl_lt, pow_mono}
use Rattle.format.specs.declared.Pattern.{Pattern}
use Rattle.patterns.specs.Words.{Small}
use Rattle.tree_spec.specs.Form.{side}

shifted : (w b x : ℕ) → b < w → x ≤ 1 → (x * 2 ^ b) % 2 ^ w ≡ x * 2 ^ b
shifted w b x h l = shl_exact {a = x} 1 b w (omega arith) (omega arith)

one_shifted : (w b : ℕ) → b < w → (1 * 2 ^ b) % 2 ^ w ≡ 2 ^ b
one_shifted w b h = shifted w b 1 h (omega arith) ∙ one-mul (2 ^ b)

fits : (w b x : ℕ) → b < w → x ≤ 1 → x * 2 ^ b < 2 ^ w
fits w b x h l = lt_of_lt_of_le (shl_lt {a = x} 1 b (omega arith)) (pow_mono (omega arith))

one-fits : (w b : ℕ) → b < w → 2 ^ b < 2 ^ w
one-fits w b h = rw (← one-mul (2 ^ b)) (fits w b 1 h (omega arith))

module _ (p : Pattern) (k b x : ℕ) where
  pub side-byte : k ≡ 1 → b < 64 → x ≤ 1
      → record {
        mask = bit_or p.mask ((1 * 2 ^ b) % 2 ^ 64);
        value = bit_or p.value ((x * 2 ^ b) % 2 ^ 64);
        contextmask = p.contextmask;
        contextvalue = p.contextvalue;
      }
      ≡ side p k b x
  unfolding side
  side-byte e h l = rw (eq-eqb k 1 e, one_shifted 64 b h, shifted 64 b x h l)

  pub side-context : (k ≡ 1 → ⊥) → b < 32 → x ≤ 1
      → record {
        mask = p.mask;
        value = p.value;
        contextmask = bit_or p.contextmask ((1 * 2 ^ b) % 2 ^ 32);
        contextvalue = bit_or p.contextvalue ((x * 2 ^ b) % 2 ^ 32);
      }
      ≡ side p k b x
  unfolding side
  side-context e h l = rw (ne_eqb k 1 e, one_shifted 32 b h, shifted 32 b x h l)

  pub side-small : Small p → b < 64 → ((k ≡ 1 → ⊥) → b < 32) → x ≤ 1 → Small (side p k b x)
  unfolding side
  side-small s h g l = go (eqb k 1) refl
    where
      go : (t : Bool) → eqb k 1 ≡ t
          → Small (cond t
          (record { mask = bit_or p.mask (2 ^ b); value = bit_or p.value (x * 2 ^ b); contextmask = p.contextmask; contextvalue = p.contextvalue })
          (record { mask = p.mask; value = p.value; contextmask = bit_or p.contextmask (2 ^ b); contextvalue = bit_or p.contextvalue (x * 2 ^ b) }))
      go true e =
          record {
            mask = or_lt 64 p.mask (2 ^ b) s.mask (one-fits 64 b h);
            value = or_lt 64 p.value (x * 2 ^ b) s.value (fits 64 b x h l);
            contextmask = s.contextmask;
            contextvalue = s.contextvalue;
          }
      go false e =
          let m : b < 32 = g (eqb-false k 1 e) in
          record {
            mask = s.mask;
            value = s.value;
            contextmask = or_lt 32 p.contextmask (2 ^ b) s.contextmask (one-fits 32 b m);
            contextvalue = or_lt 32 p.contextvalue (x * 2 ^ b) s.contextvalue (fits 32 b x m l);
          }
