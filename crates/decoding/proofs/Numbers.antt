-- The rows' numbers out of the scratch rows.
use Prim.Native.Nat.{ℕ, zero, suc, ◌+◌, ◌*◌, ◌/◌, ◌≤◌, ◌<◌}
use mathlib.Core.List.{List, [], ◌∷◌, ◌++◌}
use mathlib.Core.Path.{◌≡◌, refl, sym, ap, ◌∙◌}
use native.Mathlib.Decide.{ℕ_discrete}
use native.Mathlib.Omega.{arith}
use lib.IntN.{ℤ, pos}
use lib.ListN.{length, get_or, take, drop, set, length-set, take-append-drop}
use lib.Seq.{ext_get_or, get_or-take, get_or-set_same, get_or-set_other, drop-drop, drop-set-lt, length-take-le}
use Rattle.format.specs.Numbers.{row_numbers}
use Rattle.decoding_spec.specs.Tree.{Row, numbers_of}
use Rattle.walk_steps.specs.Scratch.{scratch_numbers, SizedRow, scratch_of}
use Rattle.instructions.proofs.InstructionRows.{plain, plain-length}
use Rattle.decoding.specs.Copying.{Copied}

pub numbers-length : (rs : List Row) → length (numbers_of rs) ≡ row_numbers * length rs
unfolding numbers_of
numbers-length [] = refl
numbers-length (r ∷ rs) = let e = numbers-length rs in omega arith

-- number k of the rows is number k + k / 4 of the scratch rows
number_at : (rs : List SizedRow) (k : ℕ) → k < row_numbers * length rs → get_or (numbers_of (plain rs)) k (pos 0) ≡ get_or (scratch_of rs) (k + k / 4) (pos 0)
unfolding numbers_of scratch_of
number_at [] k h = absurd (omega arith)
number_at (r ∷ rs) zero h = refl
number_at (r ∷ rs) (suc zero) h = refl
number_at (r ∷ rs) (suc (suc zero)) h = refl
number_at (r ∷ rs) (suc (suc (suc zero))) h = refl
number_at (r ∷ rs) (suc (suc (suc (suc k)))) h =
    let e : suc (suc (suc (suc k))) + suc (suc (suc (suc k))) / 4 ≡ suc (suc (suc (suc (suc (k + k / 4))))) = omega arith in
    rw e (number_at rs k (omega arith))

-- nothing is copied yet
pub copy-none : (scratch old : List ℤ) → Copied scratch 0 old old
copy-none scratch old = record { long = refl; copied = λ k h. absurd (omega arith); kept = refl }

-- one number more
pub copy_more : (scratch : List ℤ) (n : ℕ) (old new : List ℤ) → Copied scratch n old new → n < length new
    → Copied scratch (n + 1) old (set new n (get_or scratch (n + n / 4) (pos 0)))
copy_more scratch n old new h l =
    record {
      long = length-set new n _ ∙ h.long;
      copied = λ k g. go k (ℕ_discrete k n) g;
      kept = drop-set-lt (n + 1) new n _ (omega arith) ∙ sym (drop-drop 1 n new) ∙ ap (drop 1) h.kept ∙ drop-drop 1 n old;
    }
  where
    go : (k : ℕ) → Dec (k ≡ n) → k < n + 1 → get_or (set new n (get_or scratch (n + n / 4) (pos 0))) k (pos 0) ≡ get_or scratch (k + k / 4) (pos 0)
    go k (yes p) g = rw (p, get_or-set_same new n (get_or scratch (n + n / 4) (pos 0)) (pos 0) l)
    go k (no p) g = get_or-set_other new n k (get_or scratch (n + n / 4) (pos 0)) (pos 0) p ∙ h.copied k (omega (arith, p))

-- all of them: the rows' numbers, and what was behind them
pub copy-all : (scratch : List ℤ) (rs : List SizedRow) (used : ℕ) (old new : List ℤ) → used ≡ length rs
    → take (scratch_numbers * used) scratch ≡ scratch_of rs → row_numbers * used ≤ length old → Copied scratch (row_numbers * used) old new
    → new ≡ numbers_of (plain rs) ++ drop (row_numbers * used) old
copy-all scratch rs used old new u e r h =
    sym (take-append-drop (row_numbers * used) new) ∙ ap (λ (l : List ℤ). l ++ drop (row_numbers * used) new) front ∙ rw h.kept
  where
    long : length (take (row_numbers * used) new) ≡ row_numbers * used
    long = length-take-le (row_numbers * used) new (omega (arith, h.long))

    at : (i : ℕ) → i < length (take (row_numbers * used) new) → get_or (take (row_numbers * used) new) i (pos 0) ≡ get_or (numbers_of (plain rs)) i (pos 0)
    at i l =
        let g : i < row_numbers * used = omega (arith, long) in
        get_or-take (row_numbers * used) new i (pos 0) g ∙ h.copied i g
        ∙ sym (get_or-take (scratch_numbers * used) scratch (i + i / 4) (pos 0) (omega arith))
        ∙ ap (λ (l : List ℤ). get_or l (i + i / 4) (pos 0)) e
        ∙ sym (number_at rs i (omega arith))

    front : take (row_numbers * used) new ≡ numbers_of (plain rs)
    front = ext_get_or (pos 0) (take (row_numbers * used) new) (numbers_of (plain rs)) (omega (arith, long, numbers-length (plain rs), plain-length rs)) at
