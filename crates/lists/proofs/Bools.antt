-- Laws of && and || that take a Boolean expression apart.
use mathlib.Core.Path.{◌≡◌, refl, sym}
use mathlib.Core.Bool.{Bool, true, false, ◌&&◌, ◌||◌, false≢true}

pub and_left : (a b : Bool) → a && b ≡ true → a ≡ true
and_left true b e = refl
and_left false b e = e

pub and_right : (a b : Bool) → a && b ≡ true → b ≡ true
and_right true b e = e
and_right false b e = absurd (false≢true e)

pub and_both : (a b : Bool) → a ≡ true → b ≡ true → a && b ≡ true
and_both true b p q = q
and_both false b p q = p

pub and_no : (a b : Bool) → b ≡ false → a && b ≡ false
and_no true b e = e
and_no false b e = refl

pub or_no : (a : Bool) → a || false ≡ a
or_no true = refl
or_no false = refl

-- two Booleans are equal where each follows from the other
pub same : (a b : Bool) → (a ≡ true → b ≡ true) → (b ≡ true → a ≡ true) → a ≡ b
same true b f g = sym (f refl)
same false true f g = g refl
same false false f g = refl

-- a row of tests that all held, one by one
pub and3 : (a b c : Bool) → a && b && c ≡ true → (a ≡ true) × (b ≡ true) × (c ≡ true)
and3 a b c e =
    let f : a && b ≡ true = and_left (a && b) c e in
    (and_left a b f, and_right a b f, and_right (a && b) c e)

pub and4 : (a b c d : Bool) → a && b && c && d ≡ true → (a ≡ true) × (b ≡ true) × (c ≡ true) × (d ≡ true)
and4 a b c d e =
    let f : (a ≡ true) × (b ≡ true) × (c ≡ true) = and3 a b c (and_left (a && b && c) d e) in
    (f.0, f.1, f.2, and_right (a && b && c) d e)

pub and_yes : (a : Bool) → a && true ≡ a
and_yes true = refl
and_yes false = refl

pub or_yes : (a : Bool) → a || true ≡ true
or_yes true = refl
or_yes false = refl

pub and-swap : (a b : Bool) → (a && b) ≡ (b && a)
and-swap true b = sym (and_yes b)
and-swap false true = refl
and-swap false false = refl
