-- The one line of a bad description, put into the lent text.
use Prim.Native.Nat.{ℕ, ◌+◌, ◌≤◌}
use mathlib.Core.Bool.{true, false}
use mathlib.Core.List.{List, [], ◌++◌, append-nil}
use mathlib.Core.Path.{◌≡◌, refl, sym, ap, ◌∙◌}
use native.Mathlib.Omega.{arith}
use borrow.Author.Tests.{le-leb, lt-leb, ne_eqb}
use lib.ListN.{length, take, length-take}
use lib.Seq.{take_at}
use Rattle.acceptance.specs.declared.Rejection.{Rejection}
use Rattle.printing.specs.Writing.{Puts, over}
use Rattle.std.proofs.Common.{Option, Some, None}
use Rattle.printing.proofs.Writing.{puts-wrote, puts-full}
use Rattle.listing_parts.specs.Parts.{fault_text, fault_line}
use Rattle.listing_parts.specs.declared.FaultLine.{FaultLine}
use Rattle.listing_text.specs.Listing.{fault_window}
use Rattle.listing_text.specs.Windows.{Lists}
use Rattle.listing_text.specs.declared.Part.{Part}

module _ (x : Rejection) (old : List ℕ) (from : ℕ) where
  pub fault-behind : (from ≡ 0 → ⊥) → Lists (fault_window x (length old) from) old (record { bytes = 0; lines = 0; next = from; full = false }) old
  unfolding fault_window over
  fault-behind z = rw (ne_eqb from 0 z) (record { answer = refl; text = refl })

  module _ (line : FaultLine) (is : line ≡ fault_line x) where
    text-there : take line.size line.bytes ≡ fault_text x
    unfolding fault_line over
    text-there = ap (λ (l : FaultLine). take l.size l.bytes) is ∙ take_at (fault_text x) _ (length (fault_text x)) refl

    pub prefix-long : line.size ≡ length (take line.size line.bytes)
    unfolding fault_line
    prefix-long = ap (λ (l : FaultLine). l.size) is ∙ ap length (sym text-there)

    pub size_fits : line.size ≤ length line.bytes
    size_fits = omega (arith, prefix-long, length-take line.size line.bytes)

    module _ (z : from ≡ 0) (new : List ℕ) (r : Option ℕ) (puts : Puts (take line.size line.bytes) old new r) where
      put-text : Puts (fault_text x) old new r
      put-text = rw text-there at puts

      pub fault-full : r ≡ None → Lists (fault_window x (length old) from) old (record { bytes = 0; lines = 0; next = 0; full = true }) new
      unfolding fault_window over
      fault-full e =
          let f = puts-full put-text e in
          rw (z, lt-leb (length (fault_text x)) (length old) f.0) (record { answer = refl; text = f.1 })

      same-part : (m n : ℕ) → m ≡ n → ◌≡◌ {A = Part} (record { bytes = m; lines = 1; next = 1; full = false }) (record { bytes = n; lines = 1 + 0; next = 1; full = false })
      same-part m n e = rw e

      pub fault-written : (k : ℕ) → r ≡ Some k → Lists (fault_window x (length old) from) old (record { bytes = k; lines = 1; next = 1; full = false }) new
      unfolding fault_window
      fault-written k e =
          let w = puts-wrote put-text e in
          let long : k ≡ length (fault_text x ++ []) = w.count ∙ ap length (sym (append-nil (fault_text x))) in
          rw (z, le-leb (length (fault_text x)) (length old) w.fits)
          (record { answer = same-part k (length (fault_text x ++ [])) long; text = w.is ∙ ap (λ (l : List ℕ). over l old) (sym (append-nil (fault_text x))) })
