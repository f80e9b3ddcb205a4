-- The loops that look for an owner and gather its operands, turn by turn.
use Prim.Native.Nat.{ℕ, zero, suc, ◌+◌, ◌-◌, ◌≤◌, ◌<◌, ◌^◌}
use mathlib.Core.Bool.{Bool, true, false, cond}
use mathlib.Core.List.{List, [], ◌∷◌, ◌++◌, append_assoc, append-nil}
use mathlib.Core.Path.{◌≡◌, refl, sym, ap, ◌∙◌}
use native.Mathlib.Omega.{arith}
use borrow.Author.Tests.{lt-ltb, le-ltb, ne_eqb}
use lib.Dec.{ltb}
use lib.IntN.{ℤ, pos, nat_abs}
use lib.Signed.{mag}
use lib.ListN.{length, get_or, take, drop, set, replicate, length-set, take-append-drop}
use lib.Seq.{take-suc-set, take_all, drop-set-lt, drop-drop}
use Rattle.format.specs.Numbers.{operands_each}
use Rattle.format.specs.Description.{Description, no_field}
use Rattle.scratch_rows.specs.Places.{kind_at, number_at, last_at, size_at}
use Rattle.instructions.specs.Settling.{owner_below, count_at, counts_from, counts_at}
use Rattle.instructions.proofs.Owners.{no_more}

module _ (rows : List ℤ) (r : ℕ) where
  pub owner-found : (k : ℕ) → 0 < k → r < k - 1 + size_at rows (k - 1) → k - 1 ≡ owner_below rows r k
  unfolding owner_below
  owner-found zero h l = absurd (omega arith)
  owner-found (suc k) h l =
      let z : suc k - 1 ≡ k = omega arith in
      rw (z, lt-ltb r (k + size_at rows k) (rw z at l))

  pub owner-on : (k : ℕ) → 0 < k → k - 1 + size_at rows (k - 1) ≤ r → owner_below rows r (k - 1) ≡ owner_below rows r k
  unfolding owner_below
  owner-on zero h l = absurd (omega arith)
  owner-on (suc k) h l =
      let z : suc k - 1 ≡ k = omega arith in
      rw (z, le-ltb r (k + size_at rows k) (rw z at l))

  pub owner-none : (k : ℕ) → k ≤ 0 → 0 ≡ owner_below rows r k
  unfolding owner_below
  owner-none zero h = refl
  owner-none (suc k) h = absurd (omega arith)

  -- it is no row behind
  pub owner-low : (k : ℕ) → owner_below rows r k ≤ k
  unfolding owner_below
  owner-low zero = omega arith
  owner-low (suc k) = go (ltb r (k + size_at rows k)) (owner-low k)
    where
      go : (t : Bool) → owner_below rows r k ≤ k → cond t k (owner_below rows r k) ≤ suc k
      go true h = omega arith
      go false h = omega arith

module _ (d : Description) (rows : List ℤ) (r : ℕ) where
  pub count-number : kind_at rows r ≡ 1 → last_at rows r ≡ count_at d rows r
  unfolding count_at
  count-number k = rw k

  pub count-name : kind_at rows r ≡ 2 → pos (nat_abs (last_at rows r) - (get_or d.fields (number_at rows r) no_field).first) ≡ count_at d rows r
  unfolding count_at
  count-name k = rw k

  pub count_none : (kind_at rows r ≡ 1 → ⊥) → (kind_at rows r ≡ 2 → ⊥) → pos 0 ≡ count_at d rows r
  unfolding count_at
  count_none a b = rw (ne_eqb (kind_at rows r) 1 a, ne_eqb (kind_at rows r) 2 b)

-- a name's number, in signed 64 bits
pub small-name : (rows : List ℤ) (r : ℕ) → last_at rows r ≡ pos (nat_abs (last_at rows r)) → mag (last_at rows r) < 2 ^ 63 → nat_abs (last_at rows r) < 2 ^ 63
small-name rows r e h = rw e at h

-- o of the operands are gathered, with zeros behind them, and the next part stands at row p
pub record Gathered (d : Description) (rows : List ℤ) (used owner end : ℕ) (counts : List ℤ) (p o : ℕ) : Type 0 where
  pub few : o ≤ operands_each
  pub long : length counts ≡ operands_each
  pub within : p ≤ used
  pub zeros : drop o counts ≡ replicate (operands_each - o) (pos 0)
  pub all : take o counts ++ counts_from d rows p end (operands_each - o) ≡ counts_at d rows owner

module _ (d : Description) (rows : List ℤ) (used owner end : ℕ) where
  pub gather_none : (counts : List ℤ) → counts ≡ replicate operands_each (pos 0) → owner + 1 ≤ used → end ≡ owner + size_at rows owner
      → Gathered d rows used owner end counts (owner + 1) 0
  unfolding counts_at
  gather_none counts l w e =
      record { few = omega arith; long = ap length l; within = w; zeros = l; all = rw e }

  module _ (counts : List ℤ) (p o : ℕ) (g : Gathered d rows used owner end counts p o) where
    -- the parts have come to their end
    pub gather-end : end ≤ p → counts ≡ counts_at d rows owner
    gather-end l =
        sym (take-append-drop o counts)
        ∙ ap (λ (x : List ℤ). take o counts ++ x) (g.zeros ∙ sym (no_more rows d p end (operands_each - o) l)) ∙ g.all

    -- .. or there are as many as there may be
    pub gather-all : operands_each ≤ o → counts ≡ counts_at d rows owner
    unfolding counts_from
    gather-all h =
        let z : operands_each - o ≡ 0 = omega arith in
        sym (append-nil counts) ∙ ap (λ (l : List ℤ). l ++ []) (sym (take_all o counts (omega (arith, g.long)))) ∙ (rw z at g.all)

    module _ (h : o < operands_each) where
      left : operands_each - o ≡ suc (operands_each - (o + 1))
      left = omega arith

      put : (v : ℤ) (rest : List ℤ) → take (o + 1) (set counts o v) ++ rest ≡ take o counts ++ (v ∷ rest)
      put v rest =
          let z : o + 1 ≡ suc o = omega arith in
          rw (z, take-suc-set counts o v (omega (arith, g.long))) (append_assoc (take o counts) (v ∷ []) rest)

      pub gather-more : p < end → p + size_at rows p ≤ used → (v : ℤ) → v ≡ count_at d rows p
          → Gathered d rows used owner end (set counts o v) (p + size_at rows p) (o + 1)
      unfolding counts_from
      gather-more l w v e =
          record {
            few = omega arith;
            long = length-set counts o v ∙ g.long;
            within = w;
            zeros =
                drop-set-lt (o + 1) counts o v (omega arith) ∙ sym (drop-drop 1 o counts)
                ∙ ap (drop 1) (g.zeros ∙ ap (λ (n : ℕ). replicate n (pos 0)) left);
            all = put v _ ∙ rw e (rw (left, lt-ltb p end l) at g.all);
          }
