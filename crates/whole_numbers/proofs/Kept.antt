-- What is kept of a whole number, and how the machine holds it.
use Prim.Native.Nat.{ℕ, ◌^◌, ◌<◌}
use mathlib.Core.Bool.{Bool, true, false, cond}
use mathlib.Core.Path.{◌≡◌, refl}
use native.Mathlib.Omega.{arith}
use borrow.Author.Tests.{ltb-true, lt-ltb}
use lib.IntN.{ℤ}
use lib.Signed.{mag}
use mir.Facts.{to_z-of_z}
use mir.Syntax.{w64}
use mir.Val.{SFits, to_z, of_z}
use Rattle.std.specs.Prelude.{Option, Some, None, SomeIff}
use Rattle.whole_numbers.specs.Range.{inside, kept}

pub inside-mag : (z : ℤ) → inside z ≡ true → mag z < 2 ^ 63
unfolding inside
inside-mag z e = ltb-true (mag z) (2 ^ 63) e

pub mag-inside : (z : ℤ) → mag z < 2 ^ 63 → inside z ≡ true
unfolding inside
mag-inside z h = lt-ltb (mag z) (2 ^ 63) h

pub inside-fits : (z : ℤ) → inside z ≡ true → SFits w64 z
inside-fits z e = record { sfits = inside-mag z e }

-- a number that fits is read back from its bits
pub back : (z : ℤ) → mag z < 2 ^ 63 → to_z w64 (of_z w64 z) ≡ z
back z h = to_z-of_z {w = w64} (record { sfits = h })

-- a number inside is kept ..
pub kept-is : (z : ℤ) → inside z ≡ true → Some z ≡ kept z
unfolding kept
kept-is z e = rw e

pub keeps : (z : ℤ) → inside z ≡ true → Some (to_z w64 (of_z w64 z)) ≡ kept z
keeps z e = rw (back z (inside-mag z e)) (kept-is z e)

-- .. and any other is not
pub refuses : (z : ℤ) → inside z ≡ false → None ≡ kept z
unfolding kept
refuses z e = rw e

-- what the library's checked operators answer
pub checked : (r : Option ℤ) (z : ℤ) → SomeIff r (SFits w64 z) z → r ≡ kept z
checked None z h = refuses z (go (inside z) refl)
  where
    go : (t : Bool) → inside z ≡ t → t ≡ false
    go true e = absurd (h (inside-fits z e))
    go false e = refl
checked (Some x) z h = rw h.1 (kept-is z (mag-inside z h.0.sfits))

-- what an answer says of the number
pub is-value : (z v : ℤ) → kept z ≡ Some v → (v ≡ z) × (inside z ≡ true)
unfolding kept
is-value z v e = go (inside z) e
  where
    go : (t : Bool) → cond t (Some z) None ≡ Some v → (v ≡ z) × (t ≡ true)
    go true p = (cc, refl)
    go false p = let x : ◌≡◌ {A = ℕ} 0 1 = cc in absurd (omega arith)

pub is-outside : (z : ℤ) → kept z ≡ None → inside z ≡ false
unfolding kept
is-outside z e = go (inside z) e
  where
    go : (t : Bool) → cond t (Some z) None ≡ None → t ≡ false
    go true p = let x : ◌≡◌ {A = ℕ} 0 1 = cc in absurd (omega arith)
    go false p = refl
