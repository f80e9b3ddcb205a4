-- Short: two continuations would be answered differently.
use Prim.Native.Nat.{ℕ, ◌+◌, ◌-◌, ◌*◌, ◌/◌, ◌%◌, ◌^◌, ◌<◌, ◌≤◌}
use mathlib.Core.Bool.{Bool, true, false}
use mathlib.Core.List.{List, ◌++◌}
use mathlib.Core.Path.{◌≡◌, refl, sym, ap, ◌∙◌}
use native.Mathlib.Decide.{dec_lt}
use native.Mathlib.Nat.{zero-div}
use native.Mathlib.Omega.{arith}
use borrow.Author.Tests.{lt-ltb, eqb-true}
use lib.ListN.{length, get_or, length-append, get_or-eq_default}
use lib.Pow.{shr-shr}
use lib.Seq.{get_or-append-add}
use Rattle.std.specs.Prelude.{None, Ok, Err}
use Rattle.lists.specs.Below.{all_below}
use Rattle.lists.specs.Tab.{tab}
use Rattle.lists.proofs.Below.{all-at, any_found}
use Rattle.lists.proofs.Bools.{and_left, and_right, and_no}
use Rattle.lists.proofs.Tab.{tab-length, tab-at}
use Rattle.bits.specs.Bits.{bit, is_set}
use Rattle.bits.proofs.Digits.{bit-small, either, low_bit}
use Rattle.choosing_spec.specs.Choosing.{short, matching, choose}
use Rattle.choosing_spec.specs.Clashing.{clash_of}
use Rattle.choosing_spec.specs.ValidPattern.{ValidPattern}
use Rattle.choosing_spec.specs.declared.NotChosen.TheVariants.{Short}
use Rattle.format.specs.declared.Pattern.{Pattern}
use Rattle.patterns.specs.Matching.{byte_bit, present, matches, agrees, masks_missing, cut_off}
use Rattle.choosing_theorems.specs.Continuing.{Differ}
use Rattle.choosing_theorems.proofs.Clear.{Took, took}
use Rattle.choosing_theorems.proofs.Fits.{InWord, Fits, Shown, Missing, missing_at, inside-fits, matches-fits, fits-matches, agrees-fits}
use Rattle.choosing_theorems.proofs.None.{none_of}
use Rattle.choosing_theorems.proofs.Stays.{byte_more, stays}
use Rattle.choosing_theorems.proofs.Taken.{Answer, cut, none, one, torn, answer, choose-taken, taken-strict}

-- the bytes that bring s to eight: byte q of the eight is f q
module _ (s : List ℕ) (f : ℕ → ℕ) where
  abbrev rest : List ℕ
  rest = tab (λ j. f (length s + j)) (8 - length s)

  rest-length : length rest ≡ 8 - length s
  rest-length = tab-length (λ j. f (length s + j)) (8 - length s)

  rest-long : 8 ≤ length s + length rest
  rest-long = omega (arith, rest-length)

  rest-bytes : ((q : ℕ) → f q < 256) → (i : ℕ) → get_or rest i 0 < 256
  rest-bytes small i = go (dec_lt i (8 - length s))
    where
      go : Dec (i < 8 - length s) → get_or rest i 0 < 256
      go (yes h) = rw (tab-at (λ j. f (length s + j)) (8 - length s) i 0 h) (small (length s + i))
      go (no h) = rw (get_or-eq_default rest 0 {n = i} (omega (arith, rest-length))) (omega arith)

  rest-present : (k : ℕ) → k < 64 → present (s ++ rest) k ≡ true
  rest-present k h = lt-ltb (k / 8) (length (s ++ rest)) (omega (arith, length-append s rest, rest-length))

  rest_at : (q : ℕ) → q < 8 → length s ≤ q → get_or (s ++ rest) q 0 ≡ f q
  rest_at q h l =
      let e : length s + (q - length s) ≡ q = omega arith in
      ap (λ x. get_or (s ++ rest) x 0) (sym e)
      ∙ (get_or-append-add s rest (q - length s) 0
      ∙ (tab-at (λ j. f (length s + j)) (8 - length s) (q - length s) 0 (omega arith) ∙ ap f e))

  rest-bit : (k : ℕ) → k < 64 → length s ≤ k / 8 → byte_bit (s ++ rest) k ≡ bit (f (k / 8)) (k % 8)
  rest-bit k h l = ap (λ b. bit b (k % 8)) (rest_at (k / 8) (omega arith) l)

  -- nothing is missing then
  rest-whole : (p : Pattern) (c : ℕ) → cut_off p (s ++ rest) c ≡ false
  unfolding cut_off
  rest-whole p c = and_no (agrees p (s ++ rest) c) (masks_missing p (s ++ rest)) (go (masks_missing p (s ++ rest)) refl)
    where
      go : (b : Bool) → masks_missing p (s ++ rest) ≡ b → b ≡ false
      go true e =
          let r : Missing p (s ++ rest) = missing_at p (s ++ rest) e in
          absurd (omega (arith, r.within, r.absent, length-append s rest, rest-length))
      go false e = refl

-- byte q of a value
byte_of : ℕ → ℕ → ℕ
byte_of v q = v / 2 ^ (8 * q) % 2 ^ 8

byte_small : (v q : ℕ) → byte_of v q < 256
unfolding byte_of
byte_small v q = omega arith

byte-bit : (v k : ℕ) → bit (byte_of v (k / 8)) (k % 8) ≡ bit v k
unfolding byte_of
byte-bit v k =
    let w : ℕ = v / 2 ^ (8 * (k / 8)) in
    let e : w % 2 ^ 8 + 2 ^ 8 * (w / 2 ^ 8) ≡ w = omega arith in
    let d : 8 * (k / 8) + k % 8 ≡ k = omega arith in
    sym (low_bit 8 (w % 2 ^ 8) (w / 2 ^ 8) (k % 8) (omega arith) (omega arith))
    ∙ (ap (λ x. bit x (k % 8)) e ∙ (ap (λ x. x % 2) (shr-shr v (8 * (k / 8)) (k % 8)) ∙ ap (bit v) d))

-- a byte whose bits are all x
fill : (x : ℕ) → x < 2 → (r : ℕ) → r < 8 → bit (255 * x) r ≡ x
unfolding all_below
fill x h r l =
    either (λ x. bit (255 * x) r ≡ x) (rw (zero-div (2 ^ r))) (eqb-true (bit 255 r) 1 (all-at (is_set 255) 8 r refl l)) x h

-- a pattern that is cut short matches where its own value goes on
cut-matches : (p : Pattern) (s : List ℕ) (c : ℕ) → cut_off p s c ≡ true → matches p (s ++ rest s (byte_of p.value)) c ≡ true
unfolding cut_off
cut-matches p s c e =
    fits-matches p (s ++ own) c
    (record {
      bytes = record { at = λ k h q. (rest-present s (byte_of p.value) k h, go k h q (dec_lt (k / 8) (length s))) };
      context = r.context;
    })
  where
    own : List ℕ
    own = rest s (byte_of p.value)

    r : Fits (Shown s) (InWord c) p
    r = agrees-fits p s c (and_left (agrees p s c) (masks_missing p s) e)

    go : (k : ℕ) → k < 64 → is_set p.mask k ≡ true → Dec (k / 8 < length s) → byte_bit (s ++ own) k ≡ bit p.value k
    go k h q (yes l) =
        let here : present s k ≡ true = lt-ltb (k / 8) (length s) l in
        byte_more s own k here ∙ r.bytes.at k h q here
    go k h q (no l) = rest-bit s (byte_of p.value) k h (omega arith) ∙ byte-bit p.value k

module _ (at : ℕ → Pattern) (n : ℕ) (s : List ℕ) (c : ℕ) where
  -- record i is cut short at bit k. Where i's own value goes on, a record inside i is taken; where bit k is other, it is not.
  differs : ((i : ℕ) → i < n → ValidPattern (at i)) → clash_of at n ≡ None → (i : ℕ) → i < n → short at n s c i ≡ true → Differ at n s c
  unfolding short matching cut_off
  differs sound clear i h e =
      record {
        these = these;
        those = those;
        these-bytes = rest-bytes s (byte_of (at i).value) (byte_small (at i).value);
        those-bytes = rest-bytes s (λ _. 255 * x) (λ _. omega arith);
        these-long = rest-long s (byte_of (at i).value);
        those-long = rest-long s (λ _. 255 * x);
        differ = differ;
      }
    where
      r : Missing (at i) s
      r = missing_at (at i) s (and_right (agrees (at i) s c) (masks_missing (at i) s) e)

      x : ℕ
      x = 1 - bit (at i).value r.place

      these : List ℕ
      these = rest s (byte_of (at i).value)

      those : List ℕ
      those = rest s (λ _. 255 * x)

      t : Took at n (s ++ these) c sound clear i
      t = took at n (s ++ these) c sound clear i h (cut-matches (at i) s c e)

      first : choose at n (s ++ these) c ≡ Ok t.it
      first =
          choose-taken at n (s ++ these) c
          (none_of (short at n (s ++ these) c) n (λ j l. rest-whole s (byte_of (at i).value) (at j) c)) t.it t.strict

      differ : choose at n (s ++ these) c ≡ choose at n (s ++ those) c → ⊥
      differ q =
          let m = matches-fits (at t.it) (s ++ those) c (taken-strict at n (s ++ those) c t.it (sym q ∙ first)).matches in
          let u = (inside-fits (at t.it) (at i) t.low).bytes.at r.place r.within r.masked in
          let v = m.bytes.at r.place r.within u.0 in
          let w = rest-bit s (λ _. 255 * x) r.place r.within r.absent in
          omega (arith, u.1, v.1, w, fill x (omega arith) (r.place % 8) (omega arith), bit-small (at i).value r.place)

  -- "In a clear table "short" is given exactly when two continuations to eight or more bytes would be answered differently."
  pub short-differ : ((i : ℕ) → i < n → ValidPattern (at i)) → clash_of at n ≡ None → choose at n s c ≡ Err Short → Differ at n s c
  short-differ sound clear e = go (answer at n s c)
    where
      go : Answer at n s c (choose at n s c) → Differ at n s c
      go (cut p q) = let (i, h, w) = any_found (short at n s c) n p in differs sound clear i h w
      go (none p m q) = cc
      go (one p t r q) = cc
      go (torn p m f q) = cc

  -- the other way, in any table: an answer that is not short would stay the same for both
  pub differ-short : Differ at n s c → choose at n s c ≡ Err Short
  differ-short d = go (answer at n s c)
    where
      no_other : (choose at n s c ≡ Err Short → ⊥) → ⊥
      no_other f = d.differ (stays at n s d.these c f ∙ sym (stays at n s d.those c f))

      go : Answer at n s c (choose at n s c) → choose at n s c ≡ Err Short
      go (cut p q) = q
      go (none p m q) = absurd (no_other (λ (e : choose at n s c ≡ Err Short). cc))
      go (one p t r q) = absurd (no_other (λ (e : choose at n s c ≡ Err Short). cc))
      go (torn p m f q) = absurd (no_other (λ (e : choose at n s c ≡ Err Short). cc))
