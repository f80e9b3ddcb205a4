-- Document 01's facts about clear tables, for a table of a well-formed description.
use Prim.Native.Nat.{ℕ, ◌+◌, ◌-◌, ◌<◌}
use mathlib.Core.Bool.{true, ◌&&◌}
use mathlib.Core.List.{List}
use mathlib.Core.Path.{◌≡◌}
use native.Mathlib.Omega.{arith}
use borrow.Author.Tests.{eqb-true}
use lib.Bits.{bit_and}
use lib.Dec.{eqb}
use lib.ListN.{length, get_or}
use Rattle.std.specs.Prelude.{None, Err}
use Rattle.lists.proofs.Below.{all-at}
use Rattle.lists.proofs.Bools.{and_left, and_right}
use Rattle.format.specs.Numbers.{operands_each, pieces_each}
use Rattle.format.specs.Check.{WellFormed}
use Rattle.format.specs.Description.{Description, description, no_constructor}
use Rattle.format.specs.Rules.{constructor_ok, shape_ok, table_ok, minimum_ok, value_ok, range_ok}
use Rattle.format.specs.Tables.{table_first, table_end}
use Rattle.format.specs.declared.Constructor.{Constructor}
use Rattle.format.specs.declared.Layout.{Layout}
use Rattle.format.proofs.Formation.{obeyed}
use Rattle.format.proofs.Tables.{shaped, first-within, end-within}
use Rattle.choosing_spec.specs.Clashing.{clash_of}
use Rattle.choosing_spec.specs.ValidPattern.{ValidPattern}
use Rattle.choosing_spec.specs.declared.NotChosen.TheVariants.{Short, Ambiguous}
use Rattle.choosing_spec.specs.Table.{pattern_from, choose_in}
use Rattle.choosing.proofs.Settling.{rows-small}
use Rattle.choosing_theorems.specs.Continuing.{Differ}
use Rattle.choosing_theorems.proofs.Clear.{never-ambiguous}
use Rattle.choosing_theorems.proofs.Short.{short-differ, differ-short}

-- "no value bit outside its mask", of a constructor that obeys its rules
valued : (d : Description) (i : ℕ) (c : Constructor) → shape_ok d i c ≡ true → value_ok c.pattern ≡ true
unfolding shape_ok
valued d i c e =
    let operands = range_ok operands_each (length d.operands) c.operands in
    and_right (table_ok d i && minimum_ok c) (value_ok c.pattern)
    (and_left (table_ok d i && minimum_ok c && value_ok c.pattern) operands
    (and_left (table_ok d i && minimum_ok c && value_ok c.pattern && operands) (range_ok pieces_each (length d.pieces) c.pieces) e))

module _ (b : List ℕ) (l : Layout) (bytes : (i : ℕ) → get_or b i 0 < 256) (f : WellFormed b l) where
  -- every pattern of a well-formed description is sound
  pub pattern-sound : (first j : ℕ) → first + j < length (description b l).constructors → ValidPattern (pattern_from (description b l) first j)
  unfolding pattern_from
  pattern-sound first j h =
      let d = description b l in
      let c = get_or d.constructors (first + j) no_constructor in
      let p = c.pattern in
      let small = rows-small b l bytes first j in
      let v = valued d (first + j) c (shaped d (first + j) (all-at (constructor_ok d) (length d.constructors) (first + j) (obeyed b l f).constructors h)) in
      let byte = eqb (bit_and p.value p.mask) p.value in
      let context = eqb (bit_and p.contextvalue p.contextmask) p.contextvalue in
      record {
        mask = small.mask;
        value = small.value;
        contextmask = small.contextmask;
        contextvalue = small.contextvalue;
        masked = eqb-true (bit_and p.value p.mask) p.value (and_left byte context v);
        contextmasked = eqb-true (bit_and p.contextvalue p.contextmask) p.contextvalue (and_right byte context v);
      }

  module _ (t : ℕ) (clear : clash_of (pattern_from (description b l) (table_first (description b l) t)) (table_end (description b l) t - table_first (description b l) t) ≡ None) where
    sound : (i : ℕ) → i < table_end (description b l) t - table_first (description b l) t → ValidPattern (pattern_from (description b l) (table_first (description b l) t) i)
    sound i h =
        let o = obeyed b l f in
        pattern-sound (table_first (description b l) t) i (omega (arith, first-within (description b l) o t, end-within (description b l) o t))

    -- "A clear table is never ambiguous."
    pub clear-table : (s : List ℕ) (c : ℕ) → choose_in (description b l) t s c ≡ Err Ambiguous → ⊥
    clear-table s c e = never-ambiguous _ _ s c sound clear e

    -- "In a clear table "short" is given exactly when two continuations to eight or more bytes would be answered differently."
    pub short-table : (s : List ℕ) (c : ℕ) → choose_in (description b l) t s c ≡ Err Short
        → Differ (pattern_from (description b l) (table_first (description b l) t)) (table_end (description b l) t - table_first (description b l) t) s c
    short-table s c e = short-differ _ _ s c sound clear e

    pub table-short : (s : List ℕ) (c : ℕ)
        → Differ (pattern_from (description b l) (table_first (description b l) t)) (table_end (description b l) t - table_first (description b l) t) s c
        → choose_in (description b l) t s c ≡ Err Short
    table-short s c w = differ-short _ _ s c w
