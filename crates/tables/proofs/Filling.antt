-- The pass that gathers the first constructor of every table: what it knows after some constructors and some tables.
use Prim.Native.Nat.{ℕ, ◌+◌, ◌≤◌, ◌<◌}
use mathlib.Core.Bool.{true, false, ◌&&◌}
use mathlib.Core.List.{List}
use mathlib.Core.Path.{◌≡◌, sym, ◌∙◌}
use native.Mathlib.Decide.{dec_lt}
use native.Mathlib.Omega.{arith}
use borrow.Author.Tests.{lt-ltb, ltb-true}
use lib.Dec.{ltb}
use lib.ListN.{length, get_or, set, length-set}
use lib.Seq.{get_or-set_same, get_or-set_other, ext_get_or}
use Rattle.lists.proofs.Below.{first-here, all_of}
use Rattle.lists.proofs.Bools.{and_left, and_right}
use Rattle.format.specs.Numbers.{tables}
use Rattle.format.specs.Description.{Description}
use Rattle.format.specs.Rules.{table_at}
use Rattle.format.specs.Tables.{table_first}
use Rattle.tables.specs.Starts.{table_starts}
use Rattle.tables.proofs.FirstConstructors.{starts-length, start-at}

-- the first i of n constructors have tables below t, and the list has the first constructors of the tables below t
pub record Filled (d : Description) (n : ℕ) (a : List ℕ) (t i : ℕ) : Type 0 where
  pub long : length a ≡ tables + 1
  pub low : t ≤ tables + 1
  pub within : i ≤ n
  pub passed : (k : ℕ) → k < i → table_at d k < t
  pub filled : (u : ℕ) → u < t → get_or a u 0 ≡ table_first d u

module _ (d : Description) (n : ℕ) (a : List ℕ) where
  pub fill_none : length a ≡ tables + 1 → Filled d n a 0 0
  fill_none e =
      record {
        long = e;
        low = omega arith;
        within = omega arith;
        passed = λ k h. absurd (omega arith);
        filled = λ u h. absurd (omega arith);
      }

  module _ (t i : ℕ) (f : Filled d n a t i) where
    pub below-within : (ltb i n && ltb (table_at d i) t) ≡ true → i < n
    below-within e = ltb-true i n (and_left (ltb i n) (ltb (table_at d i) t) e)

    -- a constructor of a lower table is passed over
    pub fill-pass : (ltb i n && ltb (table_at d i) t) ≡ true → Filled d n a t (i + 1)
    fill-pass e =
        let h : i < n = below-within e in
        let b : table_at d i < t = ltb-true (table_at d i) t (and_right (ltb i n) (ltb (table_at d i) t) e) in
        record {
          long = f.long;
          low = f.low;
          within = omega arith;
          passed = λ k g. go k (dec_lt k i) g b;
          filled = f.filled;
        }
      where
        go : (k : ℕ) → Dec (k < i) → k < i + 1 → table_at d i < t → table_at d k < t
        go k (yes p) g b = f.passed k p
        go k (no p) g b = let s : k ≡ i = omega arith in rw s b

    module _ (e : (ltb i n && ltb (table_at d i) t) ≡ false) (c : n ≡ length d.constructors) (l : t < tables + 1) where
      -- the constructor that stopped the pass is the first of table t or of a higher one
      here : i ≡ table_first d t
      unfolding table_first
      here =
          sym (first-here (λ k. ltb (table_at d k) t) (length d.constructors) i
          (record {
            within = omega (arith, f.within);
            before = all_of _ _ (λ k h. lt-ltb (table_at d k) t (f.passed k h));
            fails = λ h. let g : ltb i n ≡ true = lt-ltb i n (omega arith) in rw g at e;
          }))

      pub fill-set : Filled d n (set a t i) (t + 1) i
      fill-set =
          record {
            long = length-set a t i ∙ f.long;
            low = omega arith;
            within = f.within;
            passed = λ k h. omega (arith, f.passed k h);
            filled = λ u g. go u (dec_lt u t) g;
          }
        where
          go : (u : ℕ) → Dec (u < t) → u < t + 1 → get_or (set a t i) u 0 ≡ table_first d u
          go u (yes p) g = get_or-set_other a t u i 0 (λ s. absurd (omega arith)) ∙ f.filled u p
          go u (no p) g = let s : u ≡ t = omega arith in rw s (get_or-set_same a t i 0 (omega (arith, f.long)) ∙ here)

  pub fill-all : (t i : ℕ) → Filled d n a t i → tables + 1 ≤ t → a ≡ table_starts d
  fill-all t i f h =
      ext_get_or 0 a (table_starts d) (f.long ∙ sym (starts-length d))
      (λ u g. f.filled u (omega (arith, f.long)) ∙ sym (start-at d u (omega (arith, f.long))))
