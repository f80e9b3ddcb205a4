-- From the rule on patterns to demand 3: what no record shows wrong is right for every input, and what one shows wrong has its
-- example.
use Prim.Native.Nat.{ℕ, zero, suc, ◌+◌, ◌^◌, ◌<◌, ◌≤◌}
use mathlib.Core.Bool.{true, false, false≢true}
use mathlib.Core.List.{List}
use mathlib.Core.Path.{◌≡◌, refl, sym, ◌∙◌}
use native.Mathlib.Decide.{dec_lt}
use native.Mathlib.Nat.{zero-div}
use native.Mathlib.Omega.{arith}
use borrow.Author.Tests.{eq-eqb, eqb-true}
use lib.Dec.{eqb, lit<}
use Rattle.std.specs.Prelude.{Ok}
use Rattle.bits.specs.Bits.{is_set}
use Rattle.format.specs.declared.Pattern.{Pattern}
use Rattle.patterns.specs.Matching.{matches}
use Rattle.choosing_spec.specs.ValidPattern.{ValidPattern}
use Rattle.choosing_theorems.proofs.Fits.{fits-matches}
use Rattle.tree_spec.specs.Nodes.{count_of, kind_at, bit_at, place_at}
use Rattle.tree_spec.specs.Form.{start, side, form_of}
use Rattle.tree_spec.specs.Reach.{reach_of, proves_wrong, Input}
use Rattle.tree_spec.specs.Verdicts.{Accepts, Rejects}
use Rattle.tree_form.proofs.Trees.{Tree, tip, fork, tree_of, leaf-says}
use Rattle.tree_rule.specs.Rule.{Says, shows_wrong, example_word, example_context}
use Rattle.tree_rule.proofs.Rule.{good_right, bad-wrong}
use Rattle.tree_theorems.specs.Path.{path_from, path_of}
use Rattle.tree_theorems.proofs.Sides.{sound-start}
use Rattle.tree_theorems.proofs.Reach.{span, side-sound, path-end, path-zero, path-one, Lands, lands, reach-path}

module _ (first n : ℕ) (b : List ℕ) where
  -- the path to a leaf is sound, and the leaf says a constructor of the table or none
  pub path-sound : {p : Pattern} {i e : ℕ} → Tree first n b p i e → ValidPattern p → (leaf : ℕ) → i ≤ leaf → leaf < e → kind_at b leaf ≡ 0
      → (f : ℕ) → leaf ≤ i + f → ValidPattern (path_from f b leaf p i)
  path-sound {p} {i} (tip l o k) r leaf a z q f h = let d : leaf ≡ i = omega arith in rw (d, path-end first n b f i p) r
  path-sound {p} {i} (fork l o k z y) r leaf a w q zero h = let d : leaf ≡ i = omega arith in absurd (k (rw d at q))
  path-sound {p} {i} {e} (fork l o k z y) r leaf a w q (suc f) h =
      go (dec_lt leaf (place_at b i)) (λ m. path-sound z (side-sound first n b p i 0 (lit< tt) o k r) leaf (omega (arith, past)) m q f (omega arith))
      (λ m. path-sound y (side-sound first n b p i 1 (lit< tt) o k r) leaf m w q f (omega (arith, span first n b z)))
    where
      past : i < leaf
      past = let d : leaf ≡ i → ⊥ = λ d. k (rw d at q) in omega (arith, d)

      go : Dec (leaf < place_at b i) → (leaf < place_at b i → ValidPattern (path_from f b leaf (side p (kind_at b i) (bit_at b i) 0) (suc i)))
          → (place_at b i ≤ leaf → ValidPattern (path_from f b leaf (side p (kind_at b i) (bit_at b i) 1) (place_at b i))) → ValidPattern (path_from (suc f) b leaf p i)
      go (yes m) u v = rw (path-zero first n b f leaf i p past m) (u m)
      go (no m) u v = rw (path-one first n b f leaf i p past (omega arith)) (v (omega arith))

  pub tree-says : {p : Pattern} {i e : ℕ} → Tree first n b p i e → (leaf : ℕ) → i ≤ leaf → leaf < e → kind_at b leaf ≡ 0
      → Says first n (place_at b leaf)
  tree-says {p} {i} (tip l o k) leaf a z q = let d : leaf ≡ i = omega arith in rw d (leaf-says first n b p i l o k)
  tree-says {p} {i} {e} (fork l o k z y) leaf a w q =
      go (dec_lt leaf (place_at b i)) (λ m. tree-says z leaf (omega (arith, past)) m q) (λ m. tree-says y leaf m w q)
    where
      past : i < leaf
      past = let d : leaf ≡ i → ⊥ = λ d. k (rw d at q) in omega (arith, d)

      go : Dec (leaf < place_at b i) → (leaf < place_at b i → Says first n (place_at b leaf)) → (place_at b i ≤ leaf → Says first n (place_at b leaf))
          → Says first n (place_at b leaf)
      go (yes m) u v = u m
      go (no m) u v = v (omega arith)

-- every input is on the empty path
start-matches : (s : List ℕ) (c : ℕ) → matches start s c ≡ true
start-matches s c =
    fits-matches start s c
    (record {
      bytes = record { at = λ k h e. absurd (unset k e) };
      context = record { at = λ k h e. absurd (unset k e) };
    })
  where
    unset : (k : ℕ) → is_set 0 k ≡ true → ⊥
    unset k e = false≢true (rw (zero-div (2 ^ k)) at e)

-- no record shows leaf i wrong
abbrev pub Clear : ℕ → (ℕ → Pattern) → ℕ → List ℕ → ℕ → Type 0
Clear first at n b i = (j : ℕ) → j < n → shows_wrong first at (path_of b i) (place_at b i) j ≡ false

module _ (first : ℕ) (at : ℕ → Pattern) (n : ℕ) (b : List ℕ) (sound : (j : ℕ) → j < n → ValidPattern (at j)) (low : first + n ≤ 512)
    (good : form_of first n b ≡ Ok tt) where
  abbrev tree : Tree first n b start 0 (count_of b)
  tree = tree_of first n b good

  -- the path to a leaf
  pub leaf-sound : (leaf : ℕ) → leaf < count_of b → kind_at b leaf ≡ 0 → ValidPattern (path_of b leaf)
  unfolding path_of
  leaf-sound leaf l k = path-sound first n b tree sound-start leaf (omega arith) l k leaf (omega arith)

  module _ (s : List ℕ) (c : ℕ) (input : Input s c) where
    -- where the input lands
    pub landed : Lands first n b s c input 0 (count_of b) (reach_of b s c)
    unfolding reach_of
    landed = lands first n b s c input tree (count_of b) (omega arith)

    -- it is on a leaf's path just where it reaches the leaf
    pub on-path : (leaf : ℕ) → leaf < count_of b → kind_at b leaf ≡ 0 → matches (path_of b leaf) s c ≡ eqb (reach_of b s c) leaf
    unfolding reach_of path_of
    on-path leaf l k =
        reach-path first n b s c input tree sound-start leaf (omega arith) l k leaf (count_of b) (omega arith) (omega arith)
        ∙ rw (start-matches s c)

    -- a leaf that no record shows wrong is right for what reaches it
    pub not-wrong : (leaf : ℕ) → leaf < count_of b → kind_at b leaf ≡ 0 → Clear first at n b leaf → reach_of b s c ≡ leaf
        → proves_wrong first at n b s c leaf ≡ false
    unfolding proves_wrong
    not-wrong leaf l k clear e =
        let on : matches (path_of b leaf) s c ≡ true = on-path leaf l k ∙ eq-eqb (reach_of b s c) leaf e in
        let says = tree-says first n b tree leaf (omega arith) l k in
        rw (good_right first at n sound low (path_of b leaf) (leaf-sound leaf l k) (place_at b leaf) says clear s c input on)

  -- demand 3: accepted exactly when for every input of eight or more bytes and every context the leaf reached says what demand 2 takes
  pub accepts : ((i : ℕ) → i < count_of b → kind_at b i ≡ 0 → Clear first at n b i) → Accepts first at n b
  accepts clear =
      record {
        leaf = λ s c input. (landed s c input).leaf;
        all = λ s c input.
            let r = landed s c input in
            not-wrong s c input (reach_of b s c) r.to r.leaf (clear (reach_of b s c) r.to r.leaf) refl;
      }

  -- demand 3: else the first wrong leaf is named with eight bytes and a context that prove it
  pub rejects : (i j : ℕ) → i < count_of b → kind_at b i ≡ 0 → j < n → shows_wrong first at (path_of b i) (place_at b i) j ≡ true
      → ((k : ℕ) → k < i → kind_at b k ≡ 0 → Clear first at n b k)
      → Rejects first at n b i (example_word (eqb (first + j) (place_at b i)) (path_of b i) (at j)) (example_context (eqb (first + j) (place_at b i)) (path_of b i) (at j))
  unfolding proves_wrong
  rejects i j l k h e clear =
      let x = bad-wrong first at n sound low (path_of b i) (leaf-sound i l k) (place_at b i) j h e in
      record {
        input = x.input;
        leaf = k;
        reached = eqb-true (reach_of b _ _) i (sym (on-path _ _ x.input i l k) ∙ x.reached);
        wrong = rw x.wrong;
        earlier = λ s c input m.
            let r = landed s c input in
            not-wrong s c input (reach_of b s c) r.to r.leaf (clear (reach_of b s c) m r.leaf) refl;
      }
