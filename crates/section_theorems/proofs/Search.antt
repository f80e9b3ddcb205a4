-- The search for a section's first bad record, by a cursor that goes from record to record.
use Prim.Native.Nat.{ℕ, ◌+◌, ◌*◌, ◌≤◌, ◌<◌}
use mathlib.Core.Bool.{Bool, true, false}
use mathlib.Core.List.{List}
use mathlib.Core.Path.{◌≡◌, sym}
use native.Mathlib.Nat.{mul-add, mul-one}
use native.Mathlib.Omega.{arith}
use lib.ListN.{length, get_or}
use Rattle.lists.specs.Below.{all_below, first_below}
use Rattle.lists.proofs.Below.{all_none, all_more, first-stop, first_done}
use Rattle.format.specs.Description.{records_of}
use Rattle.format.specs.declared.Section.{Section}
use Rattle.format.proofs.Lists.{records-length, record-here}

-- a cursor moved by a record's size stands at the next record
pub record-step : (size : ℕ) (s : Section) (i at : ℕ) → at ≡ s.start + size * i → at + size ≡ s.start + size * (i + 1)
record-step size s i at e = omega (arith, mul-add size i 1, mul-one size)

-- the section's records, and what its rule says of record i
module _ {A : Type 0} (reader : List ℕ → ℕ → A) (size : ℕ) (rule : ℕ → A → Bool) (none : A) (b : List ℕ) (s : Section) where
  abbrev ok : ℕ → Bool
  ok i = rule i (get_or (records_of reader size b s) i none)

  -- the cursor stands at record i, and the records before it are good
  pub record Searched (at i : ℕ) : Type 0 where
    pub within : i ≤ s.count
    pub here : at ≡ s.start + size * i
    pub passed : all_below i ok ≡ true

module _ {A : Type 0} {reader : List ℕ → ℕ → A} {size : ℕ} {rule : ℕ → A → Bool} {none : A} {b : List ℕ} {s : Section} where
  pub search-start : Searched reader size rule none b s s.start 0
  search-start = record { within = omega arith; here = omega arith; passed = all_none _ }

  module _ {at i : ℕ} (f : Searched reader size rule none b s at i) (h : i < s.count) where
    -- the record at the cursor is the list's
    pub search-here : reader b at ≡ get_or (records_of reader size b s) i none
    search-here = rw f.here (sym (record-here reader size b s i none h))

    pub search-step : rule i (reader b at) ≡ true → Searched reader size rule none b s (at + size) (i + 1)
    search-step e =
        record {
          within = omega arith;
          here = record-step size s i at f.here;
          passed = all_more (ok reader size rule none b s) i f.passed (rw search-here at e);
        }

    pub search-stop :
        rule i (reader b at) ≡ false
        → i ≡ first_below (length (records_of reader size b s)) (λ j. rule j (get_or (records_of reader size b s) j none))
    search-stop e =
        rw (records-length reader size b s)
        (sym (first-stop (ok reader size rule none b s) s.count i f.passed h (rw search-here at e)))

  pub search-done : {at i : ℕ} → Searched reader size rule none b s at i → s.count ≤ i
      → s.count ≡ first_below (length (records_of reader size b s)) (λ j. rule j (get_or (records_of reader size b s) j none))
  search-done {i = i} f h =
      let e : i ≡ s.count = omega arith in
      rw (records-length reader size b s) (sym (first_done (ok reader size rule none b s) s.count (rw e at f.passed)))
