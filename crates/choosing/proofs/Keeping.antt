-- What the scan knows, one record further.
use Prim.Native.Nat.{ℕ, zero, suc, ◌+◌, ◌-◌, ◌<◌, ◌≤◌, ◌^◌}
use mathlib.Core.Bool.{Bool, true, false, cond, not, ◌&&◌, ◌||◌, false≢true}
use mathlib.Core.Path.{◌≡◌, refl, sym, ◌∙◌}
use native.Mathlib.Decide.{dec_lt, ℕ_discrete}
use native.Mathlib.Nat.{mod-eq_of_lt}
use native.Mathlib.Omega.{arith}
use borrow.Author.Tests.{eq-eqb, ne_eqb, not-false}
use lib.Bits.{bit_and, bit_xor, and_mask}
use lib.Dec.{eqb}
use Rattle.std.specs.Prelude.{Option, Some, None}
use Rattle.lists.specs.Below.{all_below, any_below}
use Rattle.lists.proofs.Below.{any-more, any_at, all-at, all_of}
use Rattle.format.specs.declared.Pattern.{Pattern}
use Rattle.patterns.specs.Relations.{inside}
use Rattle.patterns.specs.Words.{words_agree, words_whole}
use Rattle.patterns.specs.declared.Input.{Input}
use Rattle.choosing_theorems.proofs.Inside.{inside-trans}
use Rattle.choosing.specs.Scan.{with_match, clears, word_short, word_match, Inmost, BestOf, ScanState, Skips}
use Rattle.choosing.specs.declared.Best.{Best}

pub neither : (a b : Bool) → (a || b) ≡ false → (a ≡ false) × (b ≡ false)
neither true b e = absurd (false≢true (sym e))
neither false b e = (refl, e)

-- what is not so is false
deny : (a : Bool) → (a ≡ true → ⊥) → a ≡ false
deny true f = absurd (f refl)
deny false f = refl

-- none so far, and not this one
pub none_more : (f : ℕ → Bool) (j : ℕ) → any_below j f ≡ false → f j ≡ false → any_below (j + 1) f ≡ false
none_more f j p q = rw (any-more f j, p, q)

module _ (at : ℕ → Pattern) (hit : ℕ → Bool) (n : ℕ) where
  -- a record that does not match changes nothing
  pub kept-skip : (j : ℕ) (b : Option Best) → hit j ≡ false → ScanState at hit n j b → ScanState at hit n (j + 1) b
  kept-skip j None e k = none_more hit j k e
  kept-skip j (Some b) e k =
      record {
        within = omega (arith, k.within);
        hits = k.hits;
        sure = λ d.
            let s = k.sure d in
            record {
              within = omega (arith, s.within);
              hits = s.hits;
              above = λ i h x y. s.above i (before i h y) x y;
            };
        held = λ t h m. k.held t (before t h m.hits) m;
      }
    where
      before : (i : ℕ) → i < j + 1 → hit i ≡ true → i < j
      before i h y = go (ℕ_discrete i j)
        where
          go : Dec (i ≡ j) → i < j
          go (yes q) = absurd (false≢true (sym (rw (sym q) at e) ∙ y))
          go (no q) = omega arith

  module _ (j : ℕ) (hits : hit j ≡ true) (l : j < n) where
    -- the record that is taken up, or kept, is the inner one of the two
    kept-first : any_below j hit ≡ false → BestOf at hit n (j + 1) (record { unsure = false; at = j })
    kept-first f =
        record {
          within = omega arith;
          hits = hits;
          sure = λ _. record { within = omega arith; hits = hits; above = λ i h x y. absurd (none i (omega (arith, x)) y) };
          held = λ t h m. go t h m (ℕ_discrete t j);
        }
      where
        none : (i : ℕ) → i < j → hit i ≡ true → ⊥
        none i h y = false≢true (sym f ∙ any_at hit j i h y)

        go : (t : ℕ) → t < j + 1 → Inmost at hit n t → Dec (t ≡ j) → j ≡ t
        go t h m (yes q) = sym q
        go t h m (no q) = absurd (none t (omega arith) m.hits)

    module _ (b : Best) (k : BestOf at hit n j b) where
      kept-inner : inside (at j) (at b.at) ≡ true → BestOf at hit n (j + 1) (record { unsure = b.unsure || inside (at b.at) (at j); at = j })
      kept-inner e =
          record {
            within = omega arith;
            hits = hits;
            sure = λ d.
                let r = neither b.unsure (inside (at b.at) (at j)) d in
                record {
                  within = omega arith;
                  hits = hits;
                  above = λ i h x y. above (k.sure r.0) r.1 i (omega (arith, x)) y (ℕ_discrete i b.at);
                };
            held = λ t h m. go t h m (ℕ_discrete t j);
          }
        where
          above : Inmost at hit j b.at → inside (at b.at) (at j) ≡ false → (i : ℕ) → i < j → hit i ≡ true → Dec (i ≡ b.at)
              → (inside (at j) (at i) ≡ true) × (inside (at i) (at j) ≡ false)
          above s o i h y (yes q) = rw q (e, o)
          above s o i h y (no q) =
              let r = s.above i h q y in (
                inside-trans (at j) (at b.at) (at i) e r.0,
                deny (inside (at i) (at j)) (λ z. false≢true (sym r.1 ∙ inside-trans (at i) (at j) (at b.at) z e)),
              )

          go : (t : ℕ) → t < j + 1 → Inmost at hit n t → Dec (t ≡ j) → j ≡ t
          go t h m (yes q) = sym q
          go t h m (no q) =
              let r = k.held t (omega arith) m in
              absurd (false≢true (sym (m.above j l (λ z. q (sym z)) hits).1 ∙ rw r at e))

      kept-outer : inside (at j) (at b.at) ≡ false
          → BestOf at hit n (j + 1) (record { unsure = b.unsure || not (inside (at b.at) (at j)); at = b.at })
      kept-outer e =
          record {
            within = omega (arith, k.within);
            hits = k.hits;
            sure = λ d.
                let r = neither b.unsure (not (inside (at b.at) (at j))) d in
                let s = k.sure r.0 in
                record {
                  within = omega (arith, s.within);
                  hits = s.hits;
                  above = λ i h x y. above s (not-false (inside (at b.at) (at j)) r.1) i h x y (ℕ_discrete i j);
                };
            held = λ t h m. go t h m (ℕ_discrete t j);
          }
        where
          above : Inmost at hit j b.at → inside (at b.at) (at j) ≡ true → (i : ℕ) → i < j + 1 → (i ≡ b.at → ⊥) → hit i ≡ true
              → Dec (i ≡ j) → (inside (at b.at) (at i) ≡ true) × (inside (at i) (at b.at) ≡ false)
          above s o i h x y (yes q) = rw q (o, e)
          above s o i h x y (no q) = s.above i (omega arith) x y

          go : (t : ℕ) → t < j + 1 → Inmost at hit n t → Dec (t ≡ j) → b.at ≡ t
          go t h m (yes q) =
              let r = m.above b.at (omega (arith, k.within)) (λ z. omega (arith, k.within)) k.hits in
              absurd (false≢true (sym e ∙ rw q at r.0))
          go t h m (no q) = k.held t (omega arith) m

    pub kept-with_match : (b : Option Best) → ScanState at hit n j b → BestOf at hit n (j + 1) (with_match at b j)
    unfolding with_match
    kept-with_match None k = kept-first k
    kept-with_match (Some b) k = go (inside (at j) (at b.at)) refl
      where
        go : (i : Bool) → inside (at j) (at b.at) ≡ i
            → BestOf at hit n (j + 1)
            (cond i (record { unsure = b.unsure || inside (at b.at) (at j); at = j })
            (record { unsure = b.unsure || not (inside (at b.at) (at j)); at = b.at }))
        go true i = kept-inner b k i
        go false i = kept-outer b k i

-- `with_match` where none matched so far ..
pub with_match-first : (at : ℕ → Pattern) (o : Option Best) (j : ℕ) → ((b : Best) → o ≡ Some b → ⊥) → ◌≡◌ {A = Best} (record { unsure = false; at = j }) (with_match at o j)
unfolding with_match
with_match-first at None j f = refl
with_match-first at (Some b) j f = absurd (f b refl)

-- .. and by the patterns that were read
module _ (at : ℕ → Pattern) (b : Best) (j : ℕ) (p q : Pattern) (o : Bool)
    (e : p ≡ at j) (g : q ≡ at b.at) (x : o ≡ inside q p) where
  pub with_match-inner : inside p q ≡ true → ◌≡◌ {A = Best} (record { unsure = b.unsure || o; at = j }) (with_match at (Some b) j)
  unfolding with_match
  with_match-inner i = rw (← e, ← g, i, x)

  pub with_match-outer : inside p q ≡ false → ◌≡◌ {A = Best} (record { unsure = b.unsure || not o; at = b.at }) (with_match at (Some b) j)
  unfolding with_match
  with_match-outer i = rw (← e, ← g, i, x)

-- record j by the pattern that was read
module _ (at : ℕ → Pattern) (i : Input) (j : ℕ) (p : Pattern) (e : p ≡ at j) where
  pub is-match : words_agree p i ≡ true → words_whole p i ≡ true → (word_short at i j ≡ false) × (word_match at i j ≡ true)
  is-match a w = rw (← e, a, w) (refl, refl)

  pub is-short : words_agree p i ≡ true → words_whole p i ≡ false → word_short at i j ≡ true
  is-short a w = rw (← e, a, w)

  pub is_none : words_agree p i ≡ false → (word_short at i j ≡ false) × (word_match at i j ≡ false)
  is_none a = rw (← e, a) (refl, refl)

  -- and against a record t, with its pattern
  pub clears-is : (t : ℕ) (q : Pattern) (a w x o : Bool) → q ≡ at t → a ≡ words_agree p i → w ≡ words_whole p i → x ≡ inside q p → o ≡ inside p q
      → (eqb j t || not (a && w) || (x && not o)) ≡ clears at (word_match at i) t j
  unfolding clears
  clears-is t q a w x o g ea ew ex eo = rw (ea, ew, ex, eo, e, g)

module _ (at : ℕ → Pattern) (hit : ℕ → Bool) (n t : ℕ) where
  -- a matching record that every other one clears is the one inside all others ..
  pub clears-inmost : t < n → hit t ≡ true → all_below n (clears at hit t) ≡ true → Inmost at hit n t
  unfolding clears
  clears-inmost h y e =
      record {
        within = h;
        hits = y;
        above = λ j l x z. go j x z (inside (at t) (at j)) (inside (at j) (at t)) (all-at (clears at hit t) n j e l);
      }
    where
      go : (j : ℕ) → (j ≡ t → ⊥) → hit j ≡ true → (a b : Bool) → (eqb j t || not (hit j) || (a && not b)) ≡ true
          → (a ≡ true) × (b ≡ false)
      go j x z true true q = absurd (false≢true (rw (ne_eqb j t x, z) at q))
      go j x z true false q = (refl, refl)
      go j x z false b q = absurd (false≢true (rw (ne_eqb j t x, z) at q))

  -- .. and conversely
  pub inmost-clears : Inmost at hit n t → all_below n (clears at hit t) ≡ true
  unfolding clears
  inmost-clears m = all_of (clears at hit t) n (λ j l. go j l (ℕ_discrete j t) (hit j) refl)
    where
      go : (j : ℕ) → j < n → Dec (j ≡ t) → (b : Bool) → hit j ≡ b → clears at hit t j ≡ true
      go j l (yes q) b e = rw (eq-eqb j t q)
      go j l (no q) true e = let r = m.above j l q e in rw (ne_eqb j t q, e, r.0, r.1)
      go j l (no q) false e = rw (ne_eqb j t q, e)

-- where all bytes are here, a record whose bytes differ does not agree
pub differing : (p : Pattern) (i : Input) → p.mask < 2 ^ 64 → i.here ≡ 2 ^ 64 - 1 → eqb (bit_and (bit_xor i.word p.value) p.mask) 0 ≡ false
    → words_agree p i ≡ false
differing p i m e h =
    let w : bit_and p.mask i.here ≡ p.mask = rw e (and_mask p.mask 64 ∙ mod-eq_of_lt m) in
    rw (w, h)

-- records that are passed over
module _ (at : ℕ → Pattern) (i : Input) (n from : ℕ) where
  pub skip-none : from ≤ n → Skips at i n from from
  skip-none h = record { since = omega arith; within = h; none = λ j l h. absurd (omega arith) }

  pub skip-next : (j k : ℕ) → k ≡ j + 1 → j < n → words_agree (at j) i ≡ false → Skips at i n from j → Skips at i n from k
  skip-next j k e h a p =
      record {
        since = omega (arith, p.since);
        within = omega arith;
        none = λ x l m. go x l (omega arith) (ℕ_discrete x j);
      }
    where
      go : (x : ℕ) → from ≤ x → x < j + 1 → Dec (x ≡ j) → words_agree (at x) i ≡ false
      go x l m (yes q) = rw q a
      go x l m (no q) = p.none x l (omega (arith, q))

  -- the first some, and those from there on
  pub skip-then : (j r : ℕ) → Skips at i n from j → Skips at i n j r → Skips at i n from r
  skip-then j r p q =
      record {
        since = omega (arith, p.since, q.since);
        within = q.within;
        none = λ x l h. go x l h (dec_lt x j);
      }
    where
      go : (x : ℕ) → from ≤ x → x < r → Dec (x < j) → words_agree (at x) i ≡ false
      go x l h (yes b) = p.none x l b
      go x l h (no b) = q.none x (omega (arith, b)) h

  -- change nothing
  module _ (r : ℕ) (b : Option Best) (k : Skips at i n from r) where
    skipped-by : (m : ℕ) → from + m ≤ r → any_below from (word_short at i) ≡ false → ScanState at (word_match at i) n from b
        → (any_below (from + m) (word_short at i) ≡ false) × ScanState at (word_match at i) n (from + m) b
    skipped-by zero h f s =
        let e : from + 0 ≡ from = omega arith in
        rw e (f, s)
    skipped-by (suc m) h f s =
        let before = skipped-by m (omega arith) f s in
        let none = is_none at i (from + m) (at (from + m)) refl (k.none (from + m) (omega arith) (omega arith)) in
        let e : from + suc m ≡ from + m + 1 = omega arith in
        rw e (none_more _ (from + m) before.0 none.0, kept-skip at (word_match at i) n (from + m) b none.1 before.1)

    pub skipped : any_below from (word_short at i) ≡ false → ScanState at (word_match at i) n from b
        → (any_below r (word_short at i) ≡ false) × ScanState at (word_match at i) n r b
    skipped f s =
        let e : from + (r - from) ≡ r = omega (arith, k.since) in
        rw e at (skipped-by (r - from) (omega (arith, k.since)) f s)
