-- The rule's node from the gathered masks.
use Prim.Native.Nat.{ℕ, ◌+◌, ◌-◌, ◌^◌, ◌<◌, ◌≤◌, max}
use mathlib.Core.Bool.{Bool, true, false, not, ◌&&◌}
use mathlib.Core.Path.{◌≡◌, refl, sym, ◌∙◌}
use native.Mathlib.Decide.{dec_lt}
use native.Mathlib.Nat.{zero-div}
use native.Mathlib.Omega.{arith}
use borrow.Author.Tests.{lt-ltb, le-ltb}
use lib.Bits.{bit_or, bit_xor, differ, or_lt, xor_lt}
use lib.Count.{count_trailing_zeros}
use lib.Dec.{eqb}
use Rattle.std.specs.Prelude.{None}
use Rattle.lists.specs.Below.{any_below}
use Rattle.lists.proofs.Below.{any_found}
use Rattle.bits.specs.Bits.{bit, is_set}
use Rattle.bits.proofs.Digits.{bit-small, bit-or, bit-xor, either}
use Rattle.format.specs.declared.Pattern.{Pattern}
use Rattle.patterns.specs.Relations.{inside}
use Rattle.choosing_spec.specs.Clashing.{clash_of}
use Rattle.choosing_spec.specs.ValidPattern.{ValidPattern}
use Rattle.choosing_theorems.proofs.None.{none-at}
use Rattle.tree_spec.specs.Nodes.{no_place}
use Rattle.tree_building_spec.specs.Rule.{masks, kind_of, bit_of, live, wanted, node_of}
use Rattle.tree_building_spec.specs.declared.Node.TheVariants.{Leaf, Test}
use Rattle.tree_building_theorems.proofs.Numbered.{masks-byte, masks-context}
use Rattle.tree_building_theorems.proofs.Deciding.{NoneWanted, some-inmost, inside-live, node-empty, node-names, node-tests}
use Rattle.tree_nodes.specs.Gathering.{gathered}
use Rattle.tree_nodes.specs.declared.Live.{Live}
use Rattle.tree_nodes.proofs.Gathered.{masks_of, gathered-masks, gathered-small, gathered_none, gathered-inmost}
use Rattle.tree_nodes.proofs.Zeros.{LowestSet, lowest_set}

-- the bits of a mask that another has not
abbrev pub without : ℕ → ℕ → ℕ
without a b = bit_xor (bit_or a b) b

set-without : (a b k : ℕ) → is_set (without a b) k ≡ (not (is_set b k) && is_set a k)
set-without a b k =
    rw (bit-xor (bit_or a b) b k, bit-or a b k)
    (either (λ x. eqb (differ (max x (bit b k)) (bit b k)) 1 ≡ (not (eqb (bit b k) 1) && eqb x 1))
    (either (λ y. eqb (differ (max 0 y) y) 1 ≡ (not (eqb y 1) && eqb 0 1)) refl refl (bit b k) (bit-small b k))
    (either (λ y. eqb (differ (max 1 y) y) 1 ≡ (not (eqb y 1) && eqb 1 1)) refl refl (bit b k) (bit-small b k)) (bit a k) (bit-small a k))

module _ (first : ℕ) (at : ℕ → Pattern) (n : ℕ) (p : Pattern) where
  abbrev bytes : ℕ
  bytes = without (gathered first at p n).mask p.mask

  abbrev context : ℕ
  context = without (gathered first at p n).context p.contextmask

  -- a bit is wanted where it is left of the masks
  wanted-masks : (k : ℕ) → wanted at n p k ≡ (not (masks p k) && masks (masks_of (gathered first at p n)) k)
  unfolding wanted live
  wanted-masks k = rw (gathered-masks first at p n k)

  wanted-byte : (k : ℕ) → k < 64 → wanted at n p k ≡ is_set bytes k
  wanted-byte k h =
      wanted-masks k
      ∙ (rw (masks-byte p k h, masks-byte (masks_of (gathered first at p n)) k h) (sym (set-without (gathered first at p n).mask p.mask k)))

  wanted-context : (k : ℕ) → 64 ≤ k → wanted at n p k ≡ is_set context (k - 64)
  wanted-context k h =
      wanted-masks k
      ∙ (rw (masks-context p k h, masks-context (masks_of (gathered first at p n)) k h) (sym (set-without (gathered first at p n).context p.contextmask (k - 64))))

  -- the leaf, where none is live and where one lies inside all others
  no-leaf : ((j : ℕ) → j < n → live at n p j ≡ false) → (gathered first at p n).leaf ≡ no_place
  unfolding live
  no-leaf f = gathered_none first at p n f

  inmost-leaf : ((j : ℕ) → j < n → ValidPattern (at j)) → (t : ℕ) → t < n → live at n p t ≡ true
      → ((j : ℕ) → j < n → (j ≡ t → ⊥) → live at n p j ≡ true → (inside (at t) (at j) ≡ true) × (inside (at j) (at t) ≡ false))
      → (gathered first at p n).leaf ≡ first + t
  unfolding live
  inmost-leaf sound t h l f = gathered-inmost first at p n sound n t (omega arith) h l f

  no-bit : (x k : ℕ) → x ≡ 0 → is_set x k ≡ false
  no-bit x k e = rw (e, zero-div (2 ^ k))

  module _ (sound : (j : ℕ) → j < n → ValidPattern (at j)) (valid : ValidPattern p) where
    -- the words' ranges
    bytes_small : bytes < 2 ^ 64
    bytes_small =
        let m = (gathered-small first at p n sound n (omega arith)).0 in
        xor_lt 64 _ p.mask (or_lt 64 (gathered first at p n).mask p.mask m valid.mask) valid.mask

    context-small : context < 2 ^ 32
    context-small =
        let m = (gathered-small first at p n sound n (omega arith)).1 in
        xor_lt 32 _ p.contextmask (or_lt 32 (gathered first at p n).context p.contextmask m valid.contextmask) valid.contextmask

    node-byte : 0 < bytes → Test 1 (count_trailing_zeros 64 bytes) ≡ node_of first at n p
    node-byte h =
        let r = lowest_set 64 bytes h bytes_small in
        let t = count_trailing_zeros 64 bytes in
        let e : node_of first at n p ≡ Test (kind_of t) (bit_of t) =
        node-tests at n sound p valid first t
        (record {
          small = omega (arith, r.small);
          here = wanted-byte t r.small ∙ r.here;
          none = λ j i. wanted-byte j (omega (arith, r.small)) ∙ r.none j i;
        }) in
        sym (e ∙ rw (lt-ltb t 64 r.small))

    node-context : bytes ≡ 0 → 0 < context → Test 2 (count_trailing_zeros 32 context) ≡ node_of first at n p
    node-context z h =
        let r = lowest_set 32 context h context-small in
        let t = count_trailing_zeros 32 context in
        let m : 64 + t - 64 ≡ t = omega arith in
        let e : node_of first at n p ≡ Test (kind_of (64 + t)) (bit_of (64 + t)) =
        node-tests at n sound p valid first (64 + t)
        (record {
          small = omega (arith, r.small);
          here = wanted-context (64 + t) (omega arith) ∙ (rw m r.here);
          none = λ j i. below r j i (dec_lt j 64);
        }) in
        sym (e ∙ rw (le-ltb (64 + t) 64 (omega arith), m))
      where
        below : LowestSet 32 context (count_trailing_zeros 32 context) → (j : ℕ) → j < 64 + count_trailing_zeros 32 context → Dec (j < 64) → wanted at n p j ≡ false
        below r j i (yes d) = wanted-byte j d ∙ no-bit bytes j z
        below r j i (no d) = wanted-context j (omega arith) ∙ r.none (j - 64) (omega arith)

    node-leaf : clash_of at n ≡ None → bytes ≡ 0 → context ≡ 0 → Leaf (gathered first at p n).leaf ≡ node_of first at n p
    node-leaf clear y z = go (any_below n (live at n p)) refl
      where
        none : NoneWanted at n p
        none k h = pick (dec_lt k 64)
          where
            pick : Dec (k < 64) → wanted at n p k ≡ false
            pick (yes d) = wanted-byte k d ∙ no-bit bytes k y
            pick (no d) = wanted-context k (omega arith) ∙ no-bit context (k - 64) z

        go : (b : Bool) → any_below n (live at n p) ≡ b → Leaf (gathered first at p n).leaf ≡ node_of first at n p
        go false e =
            let f = none-at (live at n p) n e in
            rw (no-leaf f, node-empty at n sound p valid first f)
        go true e =
            let (j, h, l) = any_found (live at n p) n e in
            let (t, r) = some-inmost at n sound p valid clear none j h l in
            rw (inmost-leaf sound t r.within (inside-live at n sound p valid t r.within r.holds) r.below, node-names at n sound p valid first t r)

    -- the same of what a pass has returned
    module _ (l : Live) (e : l ≡ gathered first at p n) where
      abbrev bytes_left : ℕ
      bytes_left = without l.mask p.mask

      abbrev context_left : ℕ
      context_left = without l.context p.contextmask

      pub byte-node : (bytes_left ≡ 0 → ⊥) → Test 1 (count_trailing_zeros 64 bytes_left) ≡ node_of first at n p
      byte-node h = rw e (node-byte (positive (rw e at h)))
        where
          positive : {x : ℕ} → (x ≡ 0 → ⊥) → 0 < x
          positive f = omega (arith, f)

      pub context-node : bytes_left ≡ 0 → (context_left ≡ 0 → ⊥) → Test 2 (count_trailing_zeros 32 context_left) ≡ node_of first at n p
      context-node y h = rw e (node-context (rw e at y) (positive (rw e at h)))
        where
          positive : {x : ℕ} → (x ≡ 0 → ⊥) → 0 < x
          positive f = omega (arith, f)

      pub leaf-node : clash_of at n ≡ None → bytes_left ≡ 0 → context_left ≡ 0 → Leaf l.leaf ≡ node_of first at n p
      leaf-node clear y z = rw e (node-leaf clear (rw e at y) (rw e at z))
