-- Bytes written one by one.
use Prim.Native.Nat.{ℕ, ◌+◌, ◌*◌, ◌/◌, ◌%◌, ◌<◌, ◌≤◌}
use mathlib.Core.List.{List}
use mathlib.Core.Logic.{◌⊎◌, inl, inr}
use mathlib.Core.Path.{◌≡◌, ◌∙◌}
use native.Mathlib.Omega.{arith}
use lib.ListN.{length, get_or, set, length-set}
use lib.Seq.{get_or-set_same, get_or-set_other}
use Rattle.tree_spec.specs.Nodes.{kind_at, bit_at, place_at}
use Rattle.tree_building.specs.Writing.{Kept, PutsWord, PutsNode, PutsPlace}

-- a part that was kept beside two changes
pub kept-both : (from to : ℕ) (a b c : List ℕ) → Kept from to a b → Kept from to b c → Kept from to a c
kept-both from to a b c r s = record { same = s.same ∙ r.same; outside = λ k h. s.outside k h ∙ r.outside k h }

-- a change in a part of it
pub kept-wider : (from to low high : ℕ) (a b : List ℕ) → low ≤ from → to ≤ high → Kept from to a b → Kept low high a b
kept-wider from to low high a b h l r = record { same = r.same; outside = λ k. go k }
  where
    go : (k : ℕ) → (k < low) ⊎ (high ≤ k) → get_or b k 0 ≡ get_or a k 0
    go k (inl g) = r.outside k (inl (omega arith))
    go k (inr g) = r.outside k (inr (omega arith))

set-kept : (l : List ℕ) (i x from to : ℕ) → from ≤ i → i < to → Kept from to l (set l i x)
set-kept l i x from to h g = record { same = length-set l i x; outside = λ k. go k }
  where
    go : (k : ℕ) → (k < from) ⊎ (to ≤ k) → get_or (set l i x) k 0 ≡ get_or l k 0
    go k (inl f) = get_or-set_other l i k x 0 (λ e. omega arith)
    go k (inr f) = get_or-set_other l i k x 0 (λ e. omega arith)

module _ (l : List ℕ) (from v : ℕ) (room : from + 2 ≤ length l) where
  abbrev lower : List ℕ
  lower = set l from (v % 256)

  pub put_word : PutsWord from v l (set lower (from + 1) (v / 256))
  put_word =
      record {
        low = get_or-set_other lower (from + 1) from (v / 256) 0 (λ e. omega arith) ∙ get_or-set_same l from (v % 256) 0 (omega arith);
        high = get_or-set_same lower (from + 1) (v / 256) 0 (omega (arith, length-set l from (v % 256)));
        kept =
            kept-both from (from + 2) l lower (set lower (from + 1) (v / 256))
            (set-kept l from (v % 256) from (from + 2) (omega arith) (omega arith))
            (set-kept lower (from + 1) (v / 256) from (from + 2) (omega arith) (omega arith));
      }

-- a place is two bytes of its node
pub put-place : (i v : ℕ) (l after : List ℕ) → PutsWord (4 * i + 4) v l after → PutsPlace i v l after
unfolding place_at
put-place i v l after r =
    record {
      placed = rw (r.low, r.high) (omega arith);
      kept = kept-wider (4 * i + 4) (4 * i + 4 + 2) (4 * i + 4) (4 * i + 6) l after (omega arith) (omega arith) r.kept;
    }

module _ (l : List ℕ) (i kind bit v : ℕ) (room : 4 * i + 6 ≤ length l) where
  abbrev first : List ℕ
  first = set l (4 * i + 2) kind

  abbrev both : List ℕ
  both = set first (4 * i + 3) bit

  pub put-node : (after : List ℕ) → PutsPlace i v both after → PutsNode i kind bit v l after
  unfolding kind_at bit_at
  put-node after r =
      record {
        node =
            record {
              kind =
                  r.kept.outside (4 * i + 2) (inl (omega arith))
                  ∙ (get_or-set_other first (4 * i + 3) (4 * i + 2) bit 0 (λ e. omega arith) ∙ get_or-set_same l (4 * i + 2) kind 0 (omega arith));
              bit =
                  r.kept.outside (4 * i + 3) (inl (omega arith))
                  ∙ get_or-set_same first (4 * i + 3) bit 0 (omega (arith, length-set l (4 * i + 2) kind));
              place = r.placed;
            };
        kept =
            kept-both (4 * i + 2) (4 * i + 6) l both after
            (kept-both (4 * i + 2) (4 * i + 6) l first both
            (set-kept l (4 * i + 2) kind (4 * i + 2) (4 * i + 6) (omega arith) (omega arith))
            (set-kept first (4 * i + 3) bit (4 * i + 2) (4 * i + 6) (omega arith) (omega arith)))
            (kept-wider (4 * i + 4) (4 * i + 6) (4 * i + 2) (4 * i + 6) both after (omega arith) (omega arith) r.kept);
      }
