-- From the text made in a buffer of its own to the lent part.
use Prim.Native.Nat.{ℕ, ◌≤◌}
use mathlib.Core.Bool.{true}
use mathlib.Core.List.{List}
use mathlib.Core.Path.{◌≡◌, refl, ap}
use native.Mathlib.Omega.{arith}
use borrow.Author.Tests.{le-leb, lt-leb}
use lib.Dec.{leb}
use lib.ListN.{length, take}
use Rattle.std.specs.Prelude.{Option, Some, None, Result, Ok, Err}
use Rattle.std.specs.Option.{ok_or}
use Rattle.format.specs.Numbers.{longest_text}
use Rattle.printing.specs.Writing.{Puts}
use Rattle.printing.proofs.Writing.{puts-wrote, puts-full}
use Rattle.text.specs.Append.{Appended, Appends}
use Rattle.text.specs.Lines.{line_of, lent_after}
use Rattle.text.specs.declared.NoText.{NoText}
use Rattle.text.specs.declared.NoText.TheVariants.{TooLong, NoRoom}

abbrev Lent : (w before after : List ℕ) → Result ℕ NoText → Type 0
Lent w before after r = (r ≡ line_of w (length before)) × (after ≡ lent_after w before)

module _ (w empty text before : List ℕ) (all : length empty ≡ longest_text) where
  pub long-line : Appends 0 w empty text None → Lent w before before (Err TooLong)
  long-line h =
      let f = lt-leb (length w) longest_text (omega (arith, h.is)) in
      (rw f, rw f)

  module _ (end : ℕ) (h : Appended 0 w empty text end) where
    pub end-few : end ≤ longest_text
    end-few = omega (arith, h.fits)

    made : take end text ≡ w
    made = h.holds

    fits : leb (length w) longest_text ≡ true
    fits = le-leb (length w) longest_text (omega (arith, h.fits, h.ends))

    module _ (after : List ℕ) (r : Option ℕ) (puts : Puts (take end text) before after r) where
      pub line-copied : Lent w before after (ok_or r NoRoom)
      line-copied = go r (rw made at puts)
        where
          go : (r : Option ℕ) → Puts w before after r → Lent w before after (ok_or r NoRoom)
          go None p =
              let g = puts-full p refl in
              let f = lt-leb (length w) (length before) g.0 in
              (rw (fits, f), rw (fits, f) g.1)
          go (Some n) p =
              let g = puts-wrote p refl in
              let f = le-leb (length w) (length before) g.fits in
              (rw (fits, f) (ap Ok g.count), rw (fits, f) g.is)
