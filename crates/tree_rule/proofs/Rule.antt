-- The rule is exact: a leaf that no record shows wrong is right for every input on its path, and each record that shows it wrong
-- gives an input on its path for which it is wrong.
use Prim.Native.Nat.{ℕ, ◌+◌, ◌-◌, ◌<◌, ◌≤◌}
use mathlib.Core.Bool.{Bool, true, false, not, ◌&&◌, false≢true}
use mathlib.Core.List.{List}
use mathlib.Core.Logic.{inl, inr}
use mathlib.Core.Path.{◌≡◌, refl, sym, ◌∙◌}
use native.Mathlib.Omega.{arith}
use borrow.Author.Tests.{eq-eqb, ne_eqb, eqb-true, eqb-false, not-true, not-false}
use lib.Dec.{eqb}
use Rattle.lists.proofs.Bools.{and_left, and_right, and_yes}
use Rattle.choosing_spec.specs.Choosing.{short, matching, choose}
use Rattle.choosing_spec.specs.ValidPattern.{ValidPattern}
use Rattle.format.specs.declared.Pattern.{Pattern}
use Rattle.patterns.specs.Matching.{matches}
use Rattle.patterns.specs.Relations.{inside, overlap}
use Rattle.choosing_theorems.specs.Taken.{Strict}
use Rattle.choosing_theorems.proofs.Fits.{InBytes, InWord, matches-fits, fits-matches, fits-up}
use Rattle.choosing_theorems.proofs.None.{none-at, none_of}
use Rattle.choosing_theorems.proofs.Overlap.{both-overlap}
use Rattle.choosing_theorems.proofs.Taken.{Answer, cut, none, one, torn, answer, choose-taken, no-match-back}
use Rattle.tree_spec.specs.Verdicts.{bytes_of}
use Rattle.tree_spec.specs.Nodes.{no_place}
use Rattle.tree_spec.specs.Reach.{Input, right}
use Rattle.tree_rule.specs.Rule.{Says, refutes, shows_wrong, example_word, example_context}
use Rattle.tree_rule.proofs.Bytes.{word-matches, matches-word, bytes-input, never-short}
use Rattle.tree_rule.proofs.Filled.{path-fits, context-small, overlap-fits, turned-inside}

-- what it says of the table that a leaf is right
data Right (first : ℕ) (at : ℕ → Pattern) (n : ℕ) (s : List ℕ) (c v : ℕ) : Type 0 where
  empty : v ≡ no_place → ((j : ℕ) → j < n → matching at n s c j ≡ false) → Right first at n s c v
  names : (t : ℕ) → v ≡ first + t → Strict at n s c t → Right first at n s c v

right-says : (first : ℕ) (at : ℕ → Pattern) (n : ℕ) (s : List ℕ) (c v : ℕ)
    → right first v (choose at n s c) ≡ true → Right first at n s c v
right-says first at n s c v e = go (answer at n s c)
  where
    go : Answer at n s c (choose at n s c) → Right first at n s c v
    go (cut p q) = absurd (false≢true (rw q at e))
    go (none p m q) = empty (eqb-true v no_place (rw q at e)) (none-at (matching at n s c) n m)
    go (one p t r q) = names t (eqb-true v (first + t) (rw q at e)) r
    go (torn p m f q) = absurd (false≢true (rw q at e))

-- eight bytes and a context on path p that prove a leaf which says v wrong
pub record Example (first : ℕ) (at : ℕ → Pattern) (n : ℕ) (p : Pattern) (v w c : ℕ) : Type 0 where
  pub input : Input (bytes_of 8 w) c
  pub reached : matches p (bytes_of 8 w) c ≡ true
  pub wrong : right first v (choose at n (bytes_of 8 w) c) ≡ false

-- a table of n patterns, and a leaf which says v at the end of path p
module _ (first : ℕ) (at : ℕ → Pattern) (n : ℕ) (sound : (j : ℕ) → j < n → ValidPattern (at j)) (low : first + n ≤ 512)
    (p : Pattern) (path : ValidPattern p) (v : ℕ) where
  -- the rule's three cases
  pub own-case : (j : ℕ) → first + j ≡ v → shows_wrong first at p v j ≡ not (inside p (at j))
  unfolding shows_wrong refutes
  own-case j e = rw (eq-eqb (first + j) v e)

  pub none-case : (j : ℕ) → j < n → v ≡ no_place → shows_wrong first at p v j ≡ overlap p (at j)
  unfolding shows_wrong refutes
  none-case j h e = rw (ne_eqb (first + j) v (λ q. omega arith), eq-eqb v no_place e) (and_yes (overlap p (at j)))

  pub named-case : (j t : ℕ) → v ≡ first + t → t < n → (j ≡ t → ⊥)
      → shows_wrong first at p v j ≡ (overlap p (at j) && not (inside (at t) (at j) && not (inside (at j) (at t))))
  unfolding shows_wrong refutes
  named-case j t e h d =
      let z : v - first ≡ t = omega arith in
      rw (ne_eqb (first + j) v (λ q. d (omega arith)), ne_eqb v no_place (λ q. omega arith), z)

  -- no record shows it wrong
  module _ (clear : (j : ℕ) → j < n → shows_wrong first at p v j ≡ false) (s : List ℕ) (c : ℕ) (input : Input s c)
      (on : matches p s c ≡ true) where
    whole : (j : ℕ) → j < n → short at n s c j ≡ false
    whole j h = never-short at n s c input.long j

    -- a record that matches too overlaps the path
    overlaps : (j : ℕ) → j < n → matching at n s c j ≡ true → overlap p (at j) ≡ true
    unfolding matching
    overlaps j h e =
        both-overlap p (at j) path (sound j h) (InBytes s) (InWord c) (λ k x y a b. sym a.1 ∙ b.1) (λ k x y a b. sym a ∙ b)
        (matches-fits p s c on) (matches-fits (at j) s c e)

    none_right : v ≡ no_place → right first v (choose at n s c) ≡ true
    none_right e = rw (no-match-back at n s c (λ j h. (go j h (matching at n s c j) refl, whole j h))) (eq-eqb v no_place e)
      where
        go : (j : ℕ) → j < n → (b : Bool) → matching at n s c j ≡ b → b ≡ false
        go j h true q = sym (overlaps j h q) ∙ (sym (none-case j h e) ∙ clear j h)
        go j h false q = refl

    module _ (t : ℕ) (e : v ≡ first + t) (h : t < n) where
      -- the record that is named matches ..
      named-matches : matching at n s c t ≡ true
      unfolding matching
      named-matches =
          fits-matches (at t) s c
          (fits-up p (at t) (InBytes s) (InWord c) (matches-fits p s c on) (not-false (inside p (at t)) (sym (own-case t (sym e)) ∙ clear t h)))

      -- .. and lies strictly inside each other one that does
      named-below : (j : ℕ) → j < n → (j ≡ t → ⊥) → matching at n s c j ≡ true
          → (inside (at t) (at j) ≡ true) × (inside (at j) (at t) ≡ false)
      named-below j l d m =
          let a : Bool = inside (at t) (at j) in
          let b : Bool = inside (at j) (at t) in
          let q : not (a && not b) ≡ false = rw (overlaps j l m) at (sym (named-case j t e h d) ∙ clear j l) in
          let r : a && not b ≡ true = not-false (a && not b) q in
          (and_left a (not b) r, not-true b (and_right a (not b) r))

      named-right : right first v (choose at n s c) ≡ true
      named-right =
          rw (choose-taken at n s c (none_of (short at n s c) n whole) t (record { within = h; matches = named-matches; above = named-below }))
          (eq-eqb v (first + t) e)

  -- a leaf that no record shows wrong is right for every input on its path
  pub good_right : Says first n v → ((j : ℕ) → j < n → shows_wrong first at p v j ≡ false)
      → (s : List ℕ) (c : ℕ) → Input s c → matches p s c ≡ true → right first v (choose at n s c) ≡ true
  good_right (inl e) clear s c input on = none_right clear s c input on e
  good_right (inr (l, h)) clear s c input on = named-right clear s c input on (v - first) (omega arith) (omega arith)

  -- record j shows it wrong
  module _ (j : ℕ) (h : j < n) (e : shows_wrong first at p v j ≡ true) where
    -- the bytes of the example, and what it says that the leaf is right for it
    abbrev bytes : Bool → List ℕ
    bytes own = bytes_of 8 (example_word own p (at j))

    abbrev RightFor : Bool → Type 0
    RightFor own = Right first at n (bytes own) (example_context own p (at j)) v

    -- turned against the record that the leaf names: that does not match
    own-wrong : first + j ≡ v → RightFor true → ⊥
    unfolding matching
    own-wrong q (empty z f) = omega arith
    own-wrong q (names t z r) =
        let k : t ≡ j = omega arith in
        let m : matches (at j) (bytes true) (example_context true p (at j)) ≡ true = rw k at r.matches in
        let i : inside p (at j) ≡ true =
        turned-inside p (at j) (matches-word (at j) (example_word true p (at j)) (example_context true p (at j)) m) in
        false≢true (rw i at (sym (own-case j q) ∙ e))

    -- with another record's bits: that matches
    other-matches : overlap p (at j) ≡ true → matching at n (bytes false) (example_context false p (at j)) j ≡ true
    unfolding matching
    other-matches o = word-matches (at j) (example_word false p (at j)) (example_context false p (at j)) (overlap-fits p (at j) o)

    other-wrong : (first + j ≡ v → ⊥) → RightFor false → ⊥
    other-wrong d (empty z f) = false≢true (sym (f j h) ∙ other-matches (sym (none-case j h z) ∙ e))
    other-wrong d (names t z r) =
        let k : j ≡ t → ⊥ = λ q. d (omega arith) in
        let free : Bool = not (inside (at t) (at j) && not (inside (at j) (at t))) in
        let q : overlap p (at j) && free ≡ true = sym (named-case j t z r.within k) ∙ e in
        let a = r.above j h k (other-matches (and_left (overlap p (at j)) free q)) in
        false≢true (rw (a.0, a.1) at (and_right (overlap p (at j)) free q))

    example : (own : Bool) → (RightFor own → ⊥) → Example first at n p v (example_word own p (at j)) (example_context own p (at j))
    example own f =
        record {
          input = bytes-input (example_word own p (at j)) (example_context own p (at j)) (context-small own p (at j) path (sound j h));
          reached = word-matches p (example_word own p (at j)) (example_context own p (at j)) (path-fits own p (at j));
          wrong = go (right first v (choose at n (bytes own) (example_context own p (at j)))) refl;
        }
      where
        go : (b : Bool) → right first v (choose at n (bytes own) (example_context own p (at j))) ≡ b → b ≡ false
        go true q = absurd (f (right-says first at n (bytes own) (example_context own p (at j)) v q))
        go false q = refl

  -- a record that shows it wrong gives an input on its path for which it is wrong
  pub bad-wrong : (j : ℕ) → j < n → shows_wrong first at p v j ≡ true
      → Example first at n p v (example_word (eqb (first + j) v) p (at j)) (example_context (eqb (first + j) v) p (at j))
  bad-wrong j h e = go (eqb (first + j) v) refl
    where
      go : (own : Bool) → eqb (first + j) v ≡ own → Example first at n p v (example_word own p (at j)) (example_context own p (at j))
      go true q = example j h e true (own-wrong j h e (eqb-true (first + j) v q))
      go false q = example j h e false (other-wrong j h e (eqb-false (first + j) v q))
