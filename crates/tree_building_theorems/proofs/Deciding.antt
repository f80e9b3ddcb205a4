-- The rule decides every path of a table without a clash: where no live pattern masks a bit that is not on the path, one of them lies
-- inside all others; and where one does, none of them has all its bits on the path and lies inside the others.
use Prim.Native.Nat.{ℕ, ◌+◌, ◌<◌, ◌≤◌}
use mathlib.Core.Bool.{Bool, true, false, not, ◌&&◌, ◌||◌, false≢true}
use mathlib.Core.Path.{◌≡◌, refl, sym, ◌∙◌}
use native.Mathlib.Decide.{ℕ_discrete}
use native.Mathlib.Omega.{arith}
use borrow.Author.Tests.{eq-eqb, ne_eqb, lt-ltb, le-ltb, not-true, not-false}
use lib.Dec.{eqb}
use Rattle.std.specs.Prelude.{None}
use Rattle.lists.specs.Below.{all_below, any_below, first_below}
use Rattle.lists.proofs.Below.{First, all-at, all_of, any_at, any_found, first-is, first-here, first_done}
use Rattle.lists.proofs.Bools.{and_left, and_right, and_both, and3, or_yes}
use Rattle.format.specs.declared.Pattern.{Pattern}
use Rattle.patterns.specs.Relations.{inside}
use Rattle.choosing_spec.specs.Choosing.{matching}
use Rattle.choosing_spec.specs.Clashing.{clash_of}
use Rattle.choosing_spec.specs.ValidPattern.{ValidPattern}
use Rattle.choosing_theorems.proofs.Clear.{Took, took}
use Rattle.choosing_theorems.proofs.Fits.{InWord, Fits, fits-up}
use Rattle.choosing_theorems.proofs.None.{none-at, none_of}
use Rattle.choosing_theorems.proofs.Overlap.{both-overlap}
use Rattle.tree_spec.specs.Nodes.{no_place}
use Rattle.tree_spec.specs.Verdicts.{bytes_of}
use Rattle.tree_rule.proofs.Bytes.{word-matches, matches-word}
use Rattle.tree_building_spec.specs.Rule.{masks, kind_of, bit_of, live, on_path, settles, settled, wanted, lowest_wanted, node_of}
use Rattle.tree_building_spec.specs.declared.Node.TheVariants.{Leaf, Test}
use Rattle.tree_building_theorems.specs.Decides.{Innermost, Lowest, Decides, empty, names, tests}
use Rattle.tree_building_theorems.proofs.Numbered.{inside-at, inside_of, overlap-at}

module _ (at : ℕ → Pattern) (n : ℕ) (p : Pattern) where
  -- a bit that is wanted: it is not on the path, and a live pattern masks it
  pub record Wanted (k : ℕ) : Type 0 where
    pub free : masks p k ≡ false
    pub by : ℕ
    pub within : by < n
    pub lives : live at n p by ≡ true
    pub masked : masks (at by) k ≡ true

  pub wanted-is : (k : ℕ) → wanted at n p k ≡ true → Wanted k
  unfolding wanted
  wanted-is k e =
      let some : Bool = any_below n (λ j. live at n p j && masks (at j) k) in
      let (j, h, w) = any_found (λ j. live at n p j && masks (at j) k) n (and_right (not (masks p k)) some e) in
      record {
        free = not-true (masks p k) (and_left (not (masks p k)) some e);
        by = j;
        within = h;
        lives = and_left (live at n p j) (masks (at j) k) w;
        masked = and_right (live at n p j) (masks (at j) k) w;
      }

  pub is-wanted : (k : ℕ) → Wanted k → wanted at n p k ≡ true
  unfolding wanted
  is-wanted k w =
      rw w.free
      (any_at (λ j. live at n p j && masks (at j) k) n w.by w.within (and_both (live at n p w.by) (masks (at w.by) k) w.lives w.masked))

  on-at : (j : ℕ) → on_path at n p j ≡ true → (k : ℕ) → k < 96 → masks (at j) k ≡ true → masks p k ≡ true
  unfolding on_path
  on-at j e k h m = rw m at (all-at (λ k. not (masks (at j) k) || masks p k) 96 k e h)

  on_of : (j : ℕ) → ((k : ℕ) → k < 96 → masks (at j) k ≡ true → masks p k ≡ true) → on_path at n p j ≡ true
  unfolding on_path
  on_of j f = all_of (λ k. not (masks (at j) k) || masks p k) 96 (λ k h. go k h (masks (at j) k) refl)
    where
      go : (k : ℕ) → k < 96 → (b : Bool) → masks (at j) k ≡ b → not b || masks p k ≡ true
      go k h true q = f k h q
      go k h false q = refl

  -- a live pattern with all its bits on the path holds the path, and the other way round
  on-inside : (j : ℕ) → live at n p j ≡ true → on_path at n p j ≡ true → inside p (at j) ≡ true
  unfolding live
  on-inside j e o = inside_of p (at j) (λ k h m. let q = on-at j o k h m in (q, overlap-at p (at j) e k h q m))

  inside_on : (j : ℕ) → inside p (at j) ≡ true → on_path at n p j ≡ true
  inside_on j e = on_of j (λ k h m. (inside-at p (at j) e k h m).0)

  -- where no bit is wanted, every live pattern holds the path
  abbrev pub NoneWanted : Type 0
  NoneWanted = (k : ℕ) → k < 96 → wanted at n p k ≡ false

  pub live_inside : NoneWanted → (j : ℕ) → j < n → live at n p j ≡ true → inside p (at j) ≡ true
  live_inside f j h e = on-inside j e (on_of j (λ k l m. go k l m (masks p k) refl))
    where
      go : (k : ℕ) → k < 96 → masks (at j) k ≡ true → (b : Bool) → masks p k ≡ b → b ≡ true
      go k l m true q = refl
      go k l m false q =
          absurd (false≢true (sym (f k l) ∙ is-wanted k (record { free = q; by = j; within = h; lives = e; masked = m })))

  -- what settles is live, has its bits on the path, and lies inside the other live ones
  settles-inside : (j i : ℕ) → settles at n p j ≡ true → i < n → (i ≡ j → ⊥) → live at n p i ≡ true → inside (at j) (at i) ≡ true
  unfolding settles
  settles-inside j i e h d l =
      let others : ℕ → Bool = λ i. eqb i j || not (live at n p i) || inside (at j) (at i) in
      let q = (and3 (live at n p j) (on_path at n p j) (all_below n others) e).2 in
      rw (ne_eqb i j d, l) at (all-at others n i q h)

  settles-live : (j : ℕ) → settles at n p j ≡ true → live at n p j ≡ true
  unfolding settles
  settles-live j e = (and3 (live at n p j) (on_path at n p j) (all_below n (λ i. eqb i j || not (live at n p i) || inside (at j) (at i))) e).0

  settles_on : (j : ℕ) → settles at n p j ≡ true → on_path at n p j ≡ true
  unfolding settles
  settles_on j e = (and3 (live at n p j) (on_path at n p j) (all_below n (λ i. eqb i j || not (live at n p i) || inside (at j) (at i))) e).1

  -- the search for the lowest wanted bit
  lowest-first : First (λ k. not (wanted at n p k)) 96 (lowest_wanted at n p)
  unfolding lowest_wanted
  lowest-first = first-is (λ k. not (wanted at n p k)) 96

  lowest-is : any_below 96 (wanted at n p) ≡ true → Lowest at n p (lowest_wanted at n p)
  lowest-is f =
      let (k, h, w) = any_found (wanted at n p) 96 f in
      let r = lowest-first in
      let q : 96 ≤ lowest_wanted at n p → ⊥ = λ g.
      false≢true (rw w at (all-at (λ k. not (wanted at n p k)) (lowest_wanted at n p) k r.before (omega arith))) in
      let small : lowest_wanted at n p < 96 = omega (arith, q) in
      record {
        small = small;
        here = not-false (wanted at n p (lowest_wanted at n p)) (r.fails small);
        none = λ j h. not-true (wanted at n p j) (all-at (λ k. not (wanted at n p k)) (lowest_wanted at n p) j r.before h);
      }

  -- where a bit is wanted, nothing settles
  unsettled : (k : ℕ) → k < 96 → wanted at n p k ≡ true → (j : ℕ) → j < n → settles at n p j ≡ false
  unsettled k h e j l = go (settles at n p j) refl (ℕ_discrete w.by j)
    where
      w : Wanted k
      w = wanted-is k e

      go : (b : Bool) → settles at n p j ≡ b → Dec (w.by ≡ j) → b ≡ false
      go false q d = refl
      go true q (yes d) = absurd (false≢true (sym w.free ∙ on-at j (settles_on j q) k h (rw d at w.masked)))
      go true q (no d) =
          let i = settles-inside j w.by q w.within d w.lives in
          absurd (false≢true (sym w.free ∙ on-at j (settles_on j q) k h (inside-at (at j) (at w.by) i k h w.masked).0))

module _ (at : ℕ → Pattern) (n : ℕ) (sound : (j : ℕ) → j < n → ValidPattern (at j)) (p : Pattern) (valid : ValidPattern p) where
  -- the path's own bits, as an input
  path-fits : Fits (InWord p.value) (InWord p.contextvalue) p
  path-fits = record { bytes = record { at = λ k h e. refl }; context = record { at = λ k h e. refl } }

  abbrev Matches : ℕ → Type 0
  Matches j = matching at n (bytes_of 8 p.value) p.contextvalue j ≡ true

  holds-matches : (j : ℕ) → inside p (at j) ≡ true → Matches j
  unfolding matching
  holds-matches j e =
      word-matches (at j) p.value p.contextvalue (fits-up p (at j) (InWord p.value) (InWord p.contextvalue) path-fits e)

  matches-live : (j : ℕ) → j < n → Matches j → live at n p j ≡ true
  unfolding matching live
  matches-live j h e =
      both-overlap p (at j) valid (sound j h) (InWord p.value) (InWord p.contextvalue) (λ k x y a b. sym a ∙ b) (λ k x y a b. sym a ∙ b)
      path-fits (matches-word (at j) p.value p.contextvalue e)

  -- a pattern that holds the path is live
  pub inside-live : (j : ℕ) → j < n → inside p (at j) ≡ true → live at n p j ≡ true
  inside-live j h e = matches-live j h (holds-matches j e)

  -- the innermost one settles, and nothing else does
  inmost-settles : (t : ℕ) → Innermost at n p t → settles at n p t ≡ true
  unfolding settles
  inmost-settles t r =
      rw (inside-live t r.within r.holds, inside_on at n p t r.holds) (all_of others n (λ i h. go i h (ℕ_discrete i t) (live at n p i) refl))
    where
      others : ℕ → Bool
      others i = eqb i t || not (live at n p i) || inside (at t) (at i)

      go : (i : ℕ) → i < n → Dec (i ≡ t) → (b : Bool) → live at n p i ≡ b → others i ≡ true
      go i h (yes e) b q = rw (eq-eqb i t e)
      go i h (no d) true q = rw (r.below i h d q).0 (or_yes (eqb i t || not (live at n p i)))
      go i h (no d) false q = rw (ne_eqb i t d, q)

  settled-inmost : (t : ℕ) → Innermost at n p t → settled at n p ≡ t
  unfolding settled
  settled-inmost t r =
      first-here (λ j. not (settles at n p j)) n t
      (record {
        within = omega (arith, r.within);
        before = all_of (λ j. not (settles at n p j)) t (λ i h. rw (other i (omega (arith, r.within)) (λ e. omega arith)));
        fails = λ _. rw (inmost-settles t r);
      })
    where
      other : (i : ℕ) → i < n → (i ≡ t → ⊥) → settles at n p i ≡ false
      other i h d = go (settles at n p i) refl
        where
          live-t : live at n p t ≡ true
          live-t = inside-live t r.within r.holds

          go : (b : Bool) → settles at n p i ≡ b → b ≡ false
          go false q = refl
          go true q =
              let x = settles-inside at n p i t q r.within (λ e. d (sym e)) live-t in
              let l = inside-live i h (on-inside at n p i (settles-live at n p i q) (settles_on at n p i q)) in
              absurd (false≢true (sym (r.below i h d l).1 ∙ x))

  -- the three cases of the rule
  module _ (first : ℕ) where
    pub node-empty : ((j : ℕ) → j < n → live at n p j ≡ false) → node_of first at n p ≡ Leaf no_place
    unfolding node_of
    node-empty f = rw (none_of (live at n p) n f)

    pub node-names : (t : ℕ) → Innermost at n p t → node_of first at n p ≡ Leaf (first + t)
    unfolding node_of
    node-names t r =
        rw (any_at (live at n p) n t r.within (inside-live t r.within r.holds), settled-inmost t r, lt-ltb t n r.within)

    pub node-tests : (k : ℕ) → Lowest at n p k → node_of first at n p ≡ Test (kind_of k) (bit_of k)
    unfolding node_of lowest_wanted settled
    node-tests k r =
        let w = wanted-is at n p k r.here in
        let s : first_below n (λ j. not (settles at n p j)) ≡ n =
        first_done (λ j. not (settles at n p j)) n (all_of (λ j. not (settles at n p j)) n (λ j h. rw (unsettled at n p k r.small r.here j h))) in
        let l : first_below 96 (λ k. not (wanted at n p k)) ≡ k =
        first-here (λ k. not (wanted at n p k)) 96 k
        (record { within = omega (arith, r.small); before = all_of (λ k. not (wanted at n p k)) k (λ j h. rw (r.none j h)); fails = λ _. rw r.here }) in
        rw (any_at (live at n p) n w.by w.within w.lives, s, l, le-ltb n n (omega arith))

  module _ (clear : clash_of at n ≡ None) where
    -- where no bit is wanted, one of the live patterns lies inside all others
    pub some-inmost : NoneWanted at n p → (j : ℕ) → j < n → live at n p j ≡ true → (t : ℕ) × Innermost at n p t
    some-inmost f j h e =
        let r : Took at n (bytes_of 8 p.value) p.contextvalue sound clear j =
        took at n (bytes_of 8 p.value) p.contextvalue sound clear j h (matches j h e) in (
          r.it,
          record {
            within = r.strict.within;
            holds = live_inside at n p f r.it r.strict.within (matches-live r.it r.strict.within r.strict.matches);
            below = λ i l d w. r.strict.above i l d (matches i l w);
          },
        )
      where
        matches : (i : ℕ) → i < n → live at n p i ≡ true → Matches i
        matches i l w = holds-matches i (live_inside at n p f i l w)

    -- the rule's node says what it should
    pub decides : (first : ℕ) → Decides first at n p (node_of first at n p)
    decides first = go (any_below n (live at n p)) refl (any_below 96 (wanted at n p)) refl
      where
        go : (x : Bool) → any_below n (live at n p) ≡ x → (y : Bool) → any_below 96 (wanted at n p) ≡ y → Decides first at n p (node_of first at n p)
        go false e y f = let none = none-at (live at n p) n e in rw (node-empty first none) (empty none)
        go true e false f =
            let (j, h, l) = any_found (live at n p) n e in
            let (t, r) = some-inmost (none-at (wanted at n p) 96 f) j h l in
            rw (node-names first t r) (names t r)
        go true e true f =
            let w = lowest-is at n p f in
            rw (node-tests first (lowest_wanted at n p) w) (tests (lowest_wanted at n p) w)
