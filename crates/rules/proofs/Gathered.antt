-- Laws of Marks: one more record gathered.
use Prim.Native.Nat.{ℕ, ◌+◌, ◌<◌}
use mathlib.Core.Bool.{Bool, true, false, ◌&&◌, ◌||◌}
use mathlib.Core.List.{List}
use mathlib.Core.Path.{◌≡◌, refl, sym, ◌∙◌}
use native.Mathlib.Decide.{ℕ_discrete}
use native.Mathlib.Omega.{arith}
use borrow.Author.Tests.{eq-eqb, ne_eqb}
use lib.Dec.{eqb}
use lib.ListN.{length, get_or, set, replicate, get_or-replicate}
use lib.Seq.{get_or-set_same, get_or-set_other, ext_get_or}
use Rattle.lists.specs.Below.{any_below}
use Rattle.lists.proofs.Below.{any-more}
use Rattle.lists.proofs.Bools.{and_no, and_yes, or_no, or_yes}
use Rattle.lists.specs.Tab.{tab}
use Rattle.lists.proofs.Tab.{tab-length, tab-at}
use Rattle.format.specs.Numbers.{byte_values}
use Rattle.format.specs.Description.{Description}
use Rattle.format.specs.Rules.{has_table}
use Rattle.rules.specs.Marks.{Marks, table_marks}

-- nothing is named before the first record
pub marks-none : (size : ℕ) (hits : ℕ → ℕ → Bool) → Marks size (replicate size false) (λ k. any_below 0 (hits k))
unfolding any_below
marks-none size hits = record { marked = λ k h. get_or-replicate size k false false h }

-- record i names number `at` alone, or none
pub marks-next : (size i at : ℕ) (is : Bool) (list : List Bool) (hits : ℕ → ℕ → Bool) → at < length list → at < size
    → ((k : ℕ) → k < size → hits k i ≡ (is && eqb at k)) → Marks size list (λ k. any_below i (hits k))
    → Marks size (set list at (get_or list at false || is)) (λ k. any_below (i + 1) (hits k))
marks-next size i at is list hits h l e m = record { marked = λ k p. go k p (ℕ_discrete k at) }
  where
    value : Bool
    value = get_or list at false || is

    go : (k : ℕ) → k < size → Dec (k ≡ at) → get_or (set list at (get_or list at false || is)) k false ≡ any_below (i + 1) (hits k)
    go k p (yes q) =
        rw (any-more (hits k) i, e k p, eq-eqb at k (sym q), and_yes, q, ← m.marked at l) (get_or-set_same list at value false h)
    go k p (no q) =
        rw (any-more (hits k) i, e k p, ne_eqb at k (λ r. q (sym r)), and_no is false refl, or_no)
        (get_or-set_other list at k value false q ∙ m.marked k p)

-- record i names number `at`
pub marks-one : (size i at : ℕ) (list : List Bool) (hits : ℕ → ℕ → Bool) → at < length list → at < size
    → ((k : ℕ) → k < size → hits k i ≡ eqb at k) → Marks size list (λ k. any_below i (hits k))
    → Marks size (set list at true) (λ k. any_below (i + 1) (hits k))
marks-one size i at list hits h l e m = rw (or_yes (get_or list at false)) at (marks-next size i at true list hits h l e m)

-- all tables of a description
module _ (d : Description) where
  pub table-marks : Marks byte_values (table_marks d) (has_table d)
  unfolding table_marks
  table-marks = record { marked = λ k h. tab-at (has_table d) byte_values k false h }

  pub marks-all : (list : List Bool) → length list ≡ byte_values → Marks byte_values list (has_table d) → list ≡ table_marks d
  unfolding table_marks
  marks-all list l m =
      ext_get_or false list (tab (has_table d) byte_values) (l ∙ sym (tab-length (has_table d) byte_values))
      (λ k h. m.marked k (omega arith) ∙ sym (tab-at (has_table d) byte_values k false (omega arith)))
