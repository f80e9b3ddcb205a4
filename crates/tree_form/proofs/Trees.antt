-- A tree of good form as an inductive family: what walk_of computes, for proofs that go by subtrees.
use Prim.Native.Nat.{ℕ, zero, suc, ◌+◌, ◌*◌, ◌<◌, ◌≤◌, min}
use mathlib.Core.Bool.{Bool, true, false, cond}
use mathlib.Core.List.{List}
use mathlib.Core.Logic.{◌⊎◌}
use mathlib.Core.Path.{◌≡◌, refl, sym, ap}
use native.Mathlib.Omega.{arith}
use borrow.Author.Tests.{eqb-true, eqb-false, leb-true, ltb-true}
use lib.Dec.{eqb, leb, ltb}
use lib.ListN.{length}
use Rattle.std.specs.Prelude.{Result, Ok, Err}
use Rattle.lists.proofs.Bools.{and4}
use Rattle.bits.specs.Bits.{is_set}
use Rattle.format.specs.declared.Pattern.{Pattern}
use Rattle.patterns.specs.Words.{Small}
use Rattle.tree_spec.specs.Nodes.{most_nodes, no_place, count_of, kind_at, bit_at, place_at}
use Rattle.tree_spec.specs.Form.{start, side, node_ok, closed, forked, walk_of, ended, counted, form_of}
use Rattle.tree_spec.specs.declared.Subtree.{Subtree}
use Rattle.tree_spec.specs.declared.NoSubtree.{NoSubtree}
use Rattle.tree_spec.specs.declared.NoSubtree.TheVariants.{Fault, Out}
use Rattle.tree_form.proofs.Nodes.{leaf-place, test_bit, bit-fits}
use Rattle.tree_form.proofs.Sides.{side-small}

-- a subtree that ends before node e, and whose lowest node with its one side elsewhere is s
abbrev pub ends_at : ℕ → ℕ → Result Subtree NoSubtree
ends_at e s = Ok (record { next = e; side = s })

-- a count of nodes, and just their bytes
pub record Sized (b : List ℕ) : Type 0 where
  pub some : 1 ≤ count_of b
  pub few : count_of b ≤ most_nodes
  pub bytes : length b ≡ 2 + 4 * count_of b

pub sized : (b : List ℕ) → counted b ≡ true → Sized b
sized b h =
    let t = and4 (leb 2 (length b)) (leb 1 (count_of b)) (leb (count_of b) most_nodes) (eqb (length b) (2 + 4 * count_of b)) h in
    record { some = leb-true _ _ t.1; few = leb-true _ _ t.2; bytes = eqb-true _ _ t.3 }

-- a walk of a node, from the node's tests and the walk of its zero side
abbrev step : Bool → Bool → Bool → ℕ → ℕ → Result Subtree NoSubtree → (ℕ → Result Subtree NoSubtree) → Result Subtree NoSubtree
step here ok last i place low more =
    cond here (cond ok (cond last (ends_at (suc i) no_place) (forked i place low more)) (Err (Fault i))) (Err Out)

module _ (first n : ℕ) (b : List ℕ) where
  -- a subtree: the path to it, its first node, and the node behind it
  pub data Tree : Pattern → ℕ → ℕ → Type 0 where
    tip : {p : Pattern} {i : ℕ} → i < count_of b → node_ok first n p b i ≡ true → kind_at b i ≡ 0 → Tree p i (suc i)
    fork : {p : Pattern} {i e : ℕ} → i < count_of b → node_ok first n p b i ≡ true → (kind_at b i ≡ 0 → ⊥)
        → Tree (side p (kind_at b i) (bit_at b i) 0) (suc i) (place_at b i)
        → Tree (side p (kind_at b i) (bit_at b i) 1) (place_at b i) e
        → Tree p i e

  -- the same with one sides that may stand elsewhere, and the lowest node whose one side does
  data Span : Pattern → ℕ → ℕ → ℕ → Type 0 where
    leaf : {p : Pattern} {i e s : ℕ} → i < count_of b → node_ok first n p b i ≡ true → kind_at b i ≡ 0 → e ≡ suc i → Span p i e s
    test : {p : Pattern} {i e s : ℕ} (next low high : ℕ) → i < count_of b → node_ok first n p b i ≡ true → (kind_at b i ≡ 0 → ⊥)
        → Span (side p (kind_at b i) (bit_at b i) 0) (suc i) next low
        → Span (side p (kind_at b i) (bit_at b i) 1) next e high
        → s ≡ min (cond (eqb (place_at b i) next) no_place i) (min low high)
        → Span p i e s

  abbrev Spans : ℕ → Type 0
  Spans deep = (p : Pattern) (i e s : ℕ) → walk_of first n b deep p i ≡ ends_at e s → Span p i e s

  module _ (deep : ℕ) (shallow : Spans deep) (p : Pattern) (i e s : ℕ) where
    both : i < count_of b → node_ok first n p b i ≡ true → (kind_at b i ≡ 0 → ⊥)
        → (next low : ℕ) → walk_of first n b deep (side p (kind_at b i) (bit_at b i) 0) (suc i) ≡ ends_at next low
        → (w : Result Subtree NoSubtree) → walk_of first n b deep (side p (kind_at b i) (bit_at b i) 1) next ≡ w
        → closed (cond (eqb (place_at b i) next) no_place i) low w ≡ ends_at e s → Span p i e s
    both here ok f next low z (Ok w) o h =
        let r : ◌≡◌ {A = Subtree} (record { next = w.next; side = min (cond (eqb (place_at b i) next) no_place i) (min low w.side) }) (record { next = e; side = s }) = cc in
        let q : w.next ≡ e = ap (λ x. x.next) r in
        test next low w.side here ok f (shallow _ _ _ _ z) (rw q at (shallow _ _ _ _ o)) (sym (ap (λ x. x.side) r))
    both here ok f next low z (Err x) o h = cc

    one : (here ok last : Bool) (w : Result Subtree NoSubtree) → ltb i (count_of b) ≡ here → node_ok first n p b i ≡ ok → eqb (kind_at b i) 0 ≡ last
        → walk_of first n b deep (side p (kind_at b i) (bit_at b i) 0) (suc i) ≡ w
        → step here ok last i (place_at b i) w (λ next. walk_of first n b deep (side p (kind_at b i) (bit_at b i) 1) next) ≡ ends_at e s
        → Span p i e s
    one true true true w l g k z h =
        let r : ◌≡◌ {A = Subtree} (record { next = suc i; side = no_place }) (record { next = e; side = s }) = cc in
        leaf (ltb-true _ _ l) g (eqb-true _ _ k) (sym (ap (λ x. x.next) r))
    one true true false (Ok w) l g k z h =
        both (ltb-true _ _ l) g (eqb-false _ _ k) w.next w.side z (walk_of first n b deep (side p (kind_at b i) (bit_at b i) 1) w.next) refl h
    one true true false (Err x) l g k z h = cc
    one true false last w l g k z h = cc
    one false ok last w l g k z h = cc

  span_of : (deep : ℕ) → Spans deep
  unfolding walk_of
  span_of zero p i e s h = cc
  span_of (suc deep) p i e s h =
      one deep (span_of deep) p i e s (ltb i (count_of b)) (node_ok first n p b i) (eqb (kind_at b i) 0)
      (walk_of first n b deep (side p (kind_at b i) (bit_at b i) 0) (suc i)) refl refl refl refl h

  span-next : {p : Pattern} {i e s : ℕ} → Span p i e s → i < e
  span-next (leaf here ok k q) = omega arith
  span-next (test next low high here ok f z o q) =
      let l = span-next z in
      let m = span-next o in
      omega arith

  -- a walk goes on
  pub walk-next : (deep : ℕ) (p : Pattern) (i e s : ℕ) → walk_of first n b deep p i ≡ ends_at e s → i < e
  walk-next deep p i e s h = span-next (span_of deep p i e s h)

  behind : (i next : ℕ) → i < no_place → (t : Bool) → eqb (place_at b i) next ≡ t → no_place ≤ cond t no_place i → next ≡ place_at b i
  behind i next l true q h = sym (eqb-true _ _ q)
  behind i next l false q h = absurd (omega arith)

  tree-span : count_of b ≤ most_nodes → {p : Pattern} {i e s : ℕ} → Span p i e s → no_place ≤ s → Tree p i e
  tree-span few (leaf here ok k q) h = rw q (tip here ok k)
  tree-span few {p} {i} (test next low high here ok f z o q) h =
      let x : next ≡ place_at b i = behind i next (omega arith) (eqb (place_at b i) next) refl (omega arith) in
      fork here ok f (rw x at (tree-span few z (omega arith))) (rw x at (tree-span few o (omega arith)))

  good-walk : (w : Result Subtree NoSubtree) → ended (count_of b) w ≡ Ok tt → w ≡ ends_at (count_of b) no_place
  good-walk (Ok w) h = ends (eqb w.next (count_of b)) (eqb w.side no_place) refl refl h
    where
      ends : (t u : Bool) → eqb w.next (count_of b) ≡ t → eqb w.side no_place ≡ u → ◌≡◌ {A = Result Unit ℕ} (cond t (cond u (Ok tt) (Err w.side)) (Err no_place)) (Ok tt)
          → ends_at w.next w.side ≡ ends_at (count_of b) no_place
      ends true true p q e = rw (eqb-true w.next (count_of b) p, eqb-true w.side no_place q)
      ends true false p q e = cc
      ends false u p q e = cc
  good-walk (Err (Fault k)) h = cc
  good-walk (Err Out) h = cc

  pub good-counted : form_of first n b ≡ Ok tt → counted b ≡ true
  unfolding form_of
  good-counted h = go (counted b) refl h
    where
      go : (t : Bool) → counted b ≡ t → cond t (ended (count_of b) (walk_of first n b (count_of b) start 0)) (Err no_place) ≡ Ok tt → counted b ≡ true
      go true q e = q
      go false q e = cc

  pub tree_of : form_of first n b ≡ Ok tt → Tree start 0 (count_of b)
  unfolding form_of
  tree_of h =
      let c = good-counted h in
      let w = good-walk (walk_of first n b (count_of b) start 0) (rw c at h) in
      tree-span (sized b c).few (span_of (count_of b) start 0 (count_of b) no_place w) (omega arith)

  -- a subtree has a node, and ends inside the tree
  pub tree-next : {p : Pattern} {i e : ℕ} → Tree p i e → i < e
  tree-next (tip here ok k) = omega arith
  tree-next (fork here ok f z o) =
      let l = tree-next z in
      let m = tree-next o in
      omega arith

  pub tree-within : {p : Pattern} {i e : ℕ} → Tree p i e → e ≤ count_of b
  tree-within (tip here ok k) = here
  tree-within (fork here ok f z o) = tree-within o

  -- what a sound node says, by its kind
  pub leaf-says : (p : Pattern) (i : ℕ) → i < count_of b → node_ok first n p b i ≡ true → kind_at b i ≡ 0
      → (place_at b i ≡ no_place) ⊎ ((first ≤ place_at b i) × (place_at b i < first + n))
  leaf-says p i here ok k = leaf-place first n p b i ok k

  pub test-fresh : (p : Pattern) (i : ℕ) → node_ok first n p b i ≡ true → (kind_at b i ≡ 0 → ⊥)
      → ((kind_at b i ≡ 1) × (bit_at b i < 64) × (is_set p.mask (bit_at b i) ≡ false))
      ⊎ ((kind_at b i ≡ 2) × (bit_at b i < 32) × (is_set p.contextmask (bit_at b i) ≡ false))
  test-fresh p i ok f = test_bit first n p b i ok f

  -- a path's numbers fit their words
  pub fork-small : (p : Pattern) (i x : ℕ) → node_ok first n p b i ≡ true → (kind_at b i ≡ 0 → ⊥) → x ≤ 1 → Small p
      → Small (side p (kind_at b i) (bit_at b i) x)
  fork-small p i x ok f l s =
      let t = bit-fits first n p b i ok f in
      side-small p (kind_at b i) (bit_at b i) x s t.0 t.1 l
