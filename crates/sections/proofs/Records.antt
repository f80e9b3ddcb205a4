-- The record that stands at its place in a section.
use Prim.Native.Nat.{ℕ, ◌+◌, ◌*◌, ◌<◌}
use mathlib.Core.List.{List}
use mathlib.Core.Path.{◌≡◌, sym}
use lib.ListN.{get_or}
use Rattle.format.proofs.Lists.{record-here}
use Rattle.format.specs.Description.{records_of}
use Rattle.format.specs.declared.Section.{Section}

module _ {A : Type 0} (reader : List ℕ → ℕ → A) (size : ℕ) (b : List ℕ) (s : Section) where
  pub record_is : (i : ℕ) (none : A) → i < s.count → reader b (s.start + size * i) ≡ get_or (records_of reader size b s) i none
  record_is i none h = sym (record-here reader size b s i none h)
