-- "Pattern A lies inside B where every bit masked in B is masked in A with the same value": an order on patterns.
use mathlib.Core.Bool.{true}
use mathlib.Core.Path.{◌≡◌, refl}
use Rattle.format.specs.declared.Pattern.{Pattern}
use Rattle.patterns.specs.Relations.{inside}
use Rattle.choosing_theorems.proofs.Fits.{InMask, inside-fits, fits-inside, fits-up}

pub inside-self : (a : Pattern) → inside a a ≡ true
inside-self a =
    fits-inside a a
    (record { bytes = record { at = λ k h e. (e, refl) }; context = record { at = λ k h e. (e, refl) } })

pub inside-trans : (a b c : Pattern) → inside a b ≡ true → inside b c ≡ true → inside a c ≡ true
inside-trans a b c p q =
    fits-inside a c
    (fits-up b c (InMask a.mask a.value) (InMask a.contextmask a.contextvalue) (inside-fits a b p) q)
