-- A value's number fits an i64.
use Prim.Native.Nat.{ℕ, zero, suc, ◌+◌, ◌-◌, ◌*◌, ◌/◌, ◌%◌, ◌^◌, ◌≤◌, ◌<◌}
use mathlib.Core.Bool.{Bool, true, false, cond, ◌&&◌}
use mathlib.Core.Path.{◌≡◌, refl}
use native.Mathlib.Nat.{mod-eq_of_lt}
use native.Mathlib.Omega.{arith}
use borrow.Author.Tests.{le-ltb}
use lib.Dec.{eqb, ltb}
use lib.IntN.{pos, negsuc, sub_ℕ, ◌-ℤ◌}
use lib.Pow.{pow_mono, shr_lt}
use lib.Signed.{mag}
use mir.Facts.{to_z-of_z, to_z_pos}
use mir.Syntax.{w64}
use mir.Val.{SFits, to_z, of_z}
use Rattle.bits.specs.Bits.{is_set}
use Rattle.fields.specs.Look.{signed_of, number_of}
use Rattle.fields.proofs.Tokens.{one_shifted}

-- a difference of two small numbers
sub-fits : (v m : ℕ) → v < 2 ^ 63 → m ≤ 2 ^ 63 → SFits w64 (sub_ℕ v m)
sub-fits v m p q = record { sfits = go (ltb v m) }
  where
    go : (t : Bool) → mag (cond t (negsuc (m - suc v)) (pos (v - m))) < 2 ^ 63
    go true = omega arith
    go false = omega arith

small : (bits : ℕ) → bits ≤ 32 → 2 ^ bits ≤ 2 ^ 32
small bits h = pow_mono {i = bits} {j = 32} h

pub value-fits : (bits value : ℕ) → bits ≤ 32 → value < 2 ^ bits → value < 2 ^ 63
value-fits bits value b v = omega (arith, small bits b)

pub less-fits : (bits value : ℕ) → bits ≤ 32 → value < 2 ^ bits → SFits w64 (sub_ℕ value (2 ^ bits))
less-fits bits value b v = sub-fits value (2 ^ bits) (omega (arith, small bits b)) (omega (arith, small bits b))

pub number_fits : (signed : Bool) (bits value : ℕ) → bits ≤ 32 → value < 2 ^ bits → SFits w64 (number_of signed bits value)
unfolding number_of signed_of
number_fits signed bits value b v = go signed (is_set value (bits - 1))
  where
    plain : SFits w64 (pos value)
    plain = record { sfits = value-fits bits value b v }

    go : (s t : Bool) → SFits w64 (cond s (cond t (sub_ℕ value (2 ^ bits)) (pos value)) (pos value))
    go true true = less-fits bits value b v
    go true false = plain
    go false t = plain

pub number-back : (signed : Bool) (bits value : ℕ) → bits ≤ 32 → value < 2 ^ bits
    → to_z w64 (of_z w64 (number_of signed bits value)) ≡ number_of signed bits value
number-back signed bits value b v = to_z-of_z {w = w64} (number_fits signed bits value b v)

-- the top bit is what is left above the others
pub number_is : (signed : Bool) (bits value : ℕ) → 1 ≤ bits → value < 2 ^ bits
    → number_of signed bits value ≡ cond (signed && eqb (value / 2 ^ (bits - 1)) 1) (sub_ℕ value (2 ^ bits)) (pos value)
unfolding number_of signed_of
number_is false bits value b v = refl
number_is true bits value b v =
    let e : 1 + (bits - 1) ≡ bits = omega arith in
    rw (mod-eq_of_lt (shr_lt {n = value} 1 (bits - 1) (rw e v)))

-- the machine's difference, where nothing is lost
difference : (v m : ℕ) → pos v -ℤ pos m ≡ sub_ℕ v m
difference v zero = let e : v + 0 ≡ v - 0 = omega arith in rw (le-ltb v 0 (omega arith), ← e)
difference v (suc m) = refl

pub less-power : (bits value : ℕ) → bits ≤ 32 → value < 2 ^ bits
    → to_z w64 value -ℤ to_z w64 (1 * 2 ^ bits % 2 ^ 64) ≡ sub_ℕ value (2 ^ bits)
less-power bits value b v =
    let m = small bits b in
    rw (one_shifted bits (omega arith), to_z_pos w64 {n = value} (omega arith), to_z_pos w64 {n = 2 ^ bits} (omega arith))
    (difference value (2 ^ bits))
