-- A pair by the patterns that were read, and the pair that the loops find.
use Prim.Native.Nat.{ℕ, ◌+◌, ◌-◌, ◌<◌, ◌≤◌}
use mathlib.Core.Bool.{Bool, true, false, cond, not, ◌&&◌, ◌||◌, false≢true}
use mathlib.Core.Path.{◌≡◌, refl, sym, ◌∙◌}
use native.Mathlib.Omega.{arith}
use borrow.Author.Tests.{lt-ltb, le-ltb, ltb-true, ltb-false, le-leb, lt-leb, eq-eqb, eqb-true}
use lib.Dec.{eqb, ltb, leb}
use Rattle.std.specs.Prelude.{Option, Some, None, Ok}
use Rattle.lists.specs.Below.{all_below, first_below}
use Rattle.lists.proofs.Bools.{and4, and_both, or_yes}
use Rattle.lists.proofs.Below.{all_of, all_more, first-stop, first_done}
use Rattle.bits.specs.Bits.{bit, is_set}
use Rattle.format.specs.Description.{Description}
use Rattle.format.specs.Rules.{has_table}
use Rattle.format.specs.Tables.{table_first, table_end}
use Rattle.format.specs.declared.Pattern.{Pattern}
use Rattle.patterns.specs.Relations.{inside, meet_bits, overlap, overlap_of, equal}
use Rattle.choosing_spec.specs.Clashing.{another, crossing, third, clashing, partner, first_clash, clash_of}
use Rattle.choosing_spec.specs.Table.{pattern_from}
use Rattle.choosing.proofs.Keeping.{neither}
use Rattle.clash_check.specs.Entry.{placed, clash_in}
use Rattle.clash_check.specs.Partner.{partner_if}

-- equal patterns overlap
meet-same : (n am bm v : ℕ) → meet_bits n am v bm v ≡ true
unfolding meet_bits
meet-same n am bm v =
    all_of (λ k. not (is_set am k && is_set bm k) || eqb (bit v k) (bit v k)) n
    (λ k h. rw (eq-eqb (bit v k) (bit v k) refl) (or_yes (not (is_set am k && is_set bm k))))

equal-overlap : (a b : Pattern) → equal a b ≡ true → overlap a b ≡ true
unfolding overlap
equal-overlap a b e =
    let r = and4 (eqb a.mask b.mask) (eqb a.value b.value) (eqb a.contextmask b.contextmask) (eqb a.contextvalue b.contextvalue) e in
    rw (eqb-true a.value b.value r.1, eqb-true a.contextvalue b.contextvalue r.3)
    (and_both (meet_bits 64 a.mask b.value b.mask b.value) (meet_bits 32 a.contextmask b.contextvalue b.contextmask b.contextvalue)
    (meet-same 64 a.mask b.mask b.value) (meet-same 32 a.contextmask b.contextmask b.contextvalue))

module _ (at : ℕ → Pattern) (n i j : ℕ) (a b : Pattern) (e : a ≡ at i) (f : b ≡ at j) where
  -- a pair that does not overlap does not clash
  pub clash-apart : overlap a b ≡ false → false ≡ clashing at n i j
  unfolding clashing crossing
  clash-apart o = go (equal a b) refl
    where
      go : (t : Bool) → equal a b ≡ t → false ≡ clashing at n i j
      go true h = absurd (false≢true (sym o ∙ equal-overlap a b h))
      go false h = rw (← e, ← f, h, o)

  pub clash-same : equal a b ≡ true → true ≡ clashing at n i j
  unfolding clashing
  clash-same h = rw (← e, ← f, h)

  pub clash-nested : equal a b ≡ false → (inside a b || inside b a) ≡ true → false ≡ clashing at n i j
  unfolding clashing crossing
  clash-nested h x = rw (← e, ← f, h) (go (overlap a b) (inside a b) (inside b a) (third at n i j) x)
    where
      go : (o p q t : Bool) → (p || q) ≡ true → false ≡ (o && not p && not q && not t)
      go false p q t y = refl
      go true true q t y = refl
      go true false true t y = refl
      go true false false t y = absurd (false≢true y)

  pub clash-crossing : overlap a b ≡ true → equal a b ≡ false → (inside a b || inside b a) ≡ false → (t : Bool)
      → t ≡ another at n i j (overlap_of a b) → not t ≡ clashing at n i j
  unfolding clashing crossing third
  clash-crossing o h x t g =
      let y = neither (inside a b) (inside b a) x in
      rw (← e, ← f, h, o, y.0, y.1, g)

module _ (at : ℕ → Pattern) (n : ℕ) where
  -- record j is no partner of i
  abbrev pub parted : ℕ → ℕ → Bool
  parted i j = not (ltb i j && clashing at n i j)

  -- the records up to i are none
  pub parted-first : (i : ℕ) → all_below (i + 1) (parted i) ≡ true
  parted-first i = all_of (parted i) (i + 1) (λ k h. rw (le-ltb i k (omega arith)))

  pub parted-more : (i j : ℕ) → i < j → clashing at n i j ≡ false → all_below j (parted i) ≡ true → all_below (j + 1) (parted i) ≡ true
  parted-more i j h e p = all_more (parted i) j p (rw (lt-ltb i j h, e))

  pub partner-stop : (i j : ℕ) → i < j → j < n → clashing at n i j ≡ true → all_below j (parted i) ≡ true → Some j ≡ partner_if at n i
  unfolding partner
  partner-stop i j h l e p =
      let f : first_below n (parted i) ≡ j = first-stop (parted i) n j p l (rw (lt-ltb i j h, e)) in
      rw (f, lt-ltb j n l)

  pub partner-done : (i : ℕ) → all_below n (parted i) ≡ true → None ≡ partner_if at n i
  unfolding partner
  partner-done i p =
      let f : first_below n (parted i) ≡ n = first_done (parted i) n p in
      rw (f, le-ltb n n (omega arith))

  -- what the search for a partner found
  there : (i j : ℕ) → (b : Bool) → ltb (partner at n i) n ≡ b → Some j ≡ cond b (Some (partner at n i)) None → (j ≡ partner at n i) × (j < n)
  there i j true h e =
      let f : j ≡ partner at n i = cc in
      (f, rw f (ltb-true (partner at n i) n h))
  there i j false h e = cc

  missing : (i : ℕ) → (b : Bool) → ltb (partner at n i) n ≡ b → None ≡ cond b (Some (partner at n i)) None → n ≤ partner at n i
  missing i true h e = cc
  missing i false h e = ltb-false (partner at n i) n h

  -- record i has no partner
  abbrev pub quiet : ℕ → Bool
  quiet i = leb n (partner at n i)

  pub quiet-more : (i : ℕ) (r : Option ℕ) → r ≡ partner_if at n i → ((j : ℕ) → r ≡ Some j → ⊥) → all_below i quiet ≡ true
      → all_below (i + 1) quiet ≡ true
  quiet-more i (Some j) e f p = absurd (f j refl)
  quiet-more i None e f p = all_more quiet i p (le-leb n (partner at n i) (missing i (ltb (partner at n i) n) refl e))

  pub pair_found : (i j : ℕ) → i < n → Some j ≡ partner_if at n i → all_below i quiet ≡ true → Some (i, j) ≡ clash_of at n
  unfolding clash_of first_clash
  pair_found i j h s p =
      let (e, l) = there i j (ltb (partner at n i) n) refl s in
      let f : first_below n quiet ≡ i = first-stop quiet n i p h (rw (← e) (lt-leb n j l)) in
      rw (f, lt-ltb i n h, e)

  pub none_found : all_below n quiet ≡ true → None ≡ clash_of at n
  unfolding clash_of first_clash
  none_found p =
      let f : first_below n quiet ≡ n = first_done quiet n p in
      rw (f, le-ltb n n (omega arith))

-- the answer of a table that is there, from the clash that was found in its range
pub answer : (d : Description) (t first count : ℕ) → first ≡ table_first d t → count ≡ table_end d t - table_first d t
    → has_table d t ≡ true → (r : Option (ℕ × ℕ)) → clash_of (pattern_from d first) count ≡ r → Ok (placed first r) ≡ clash_in d t
unfolding clash_in
answer d t first count f g h r e =
    let p : clash_of (pattern_from d (table_first d t)) (table_end d t - table_first d t) ≡ r = rw (← g, ← f) e in
    rw (h, p, f)
