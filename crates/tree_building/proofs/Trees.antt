-- A tree that is written node by node, each test's place when its zero side is done, stands at the end.
use Prim.Native.Nat.{ℕ, suc, ◌+◌, ◌*◌, ◌<◌, ◌≤◌}
use mathlib.Core.Bool.{false≢true}
use mathlib.Core.List.{List}
use mathlib.Core.Logic.{◌⊎◌, inl, inr}
use mathlib.Core.Path.{◌≡◌, refl, sym, ap, subst, ◌∙◌}
use native.Mathlib.Numerals.{add-one}
use native.Mathlib.Omega.{arith}
use Rattle.std.specs.Prelude.{Option, Some, None}
use Rattle.format.specs.declared.Pattern.{Pattern}
use Rattle.choosing_spec.specs.Clashing.{clash_of}
use Rattle.choosing_spec.specs.ValidPattern.{ValidPattern}
use Rattle.tree_spec.specs.Nodes.{kind_at, bit_at, place_at}
use Rattle.tree_spec.specs.Form.{start, side}
use Rattle.tree_building_spec.specs.Rule.{kind_of, bit_of, node_of}
use Rattle.tree_building_spec.specs.Tree.{Tree, tree_of, size_of}
use Rattle.tree_building_spec.specs.declared.Node.TheVariants.{Leaf, Test}
use Rattle.tree_building_theorems.specs.Numbered.{longer}
use Rattle.tree_building_theorems.specs.Growth.{tree_at}
use Rattle.tree_building_theorems.specs.Stands.{NodeIs, Stands, tip, fork}
use Rattle.tree_building_theorems.proofs.Numbered.{start-masks}
use Rattle.tree_building_theorems.proofs.Growth.{tree-start, leaf-grows}
use Rattle.tree_building.specs.Growing.{Growing, begin, zeroth, oneth, Opens, Progress}
use Rattle.tree_counting.specs.Seen.{Seen}
use Rattle.tree_counting.specs.Seen as seen
use Rattle.tree_counting.specs.Turning.{Turns}
use Rattle.tree_building.specs.Writing.{Kept, PutsNode, PutsPlace, PutsTree}
use Rattle.tree_counting.proofs.Counting.{test_at, seen_more}
use Rattle.tree_counting.proofs.Paths.{seen-valid, ascends-to, test-tree, test-size, zero-whole, zero-turned, one-turns}
use Rattle.tree_building.proofs.Putting.{kept-both, kept-wider}

-- the nodes from one on, before another, are the same
pub record SameNodes (b after : List ℕ) (from to : ℕ) : Type 0 where
  pub node : (j k c v : ℕ) → from ≤ j → j < to → NodeIs b j k c v → NodeIs after j k c v

-- a node outside of what was written
kept-node : (b after : List ℕ) (from to : ℕ) → Kept from to b after → (j k c v : ℕ) → (4 * j + 6 ≤ from) ⊎ (to ≤ 4 * j + 2)
    → NodeIs b j k c v → NodeIs after j k c v
unfolding kind_at bit_at place_at
kept-node b after from to r j k c v h x =
    record {
      kind = r.outside (4 * j + 2) (away 2 (omega arith) (omega arith)) ∙ x.kind;
      bit = r.outside (4 * j + 3) (away 3 (omega arith) (omega arith)) ∙ x.bit;
      place =
          rw (r.outside (4 * j + 4) (away 4 (omega arith) (omega arith)), r.outside (4 * j + 4 + 1) (next (away 5 (omega arith) (omega arith)))) x.place;
    }
  where
    away : (d : ℕ) → 2 ≤ d → d < 6 → (4 * j + d < from) ⊎ (to ≤ 4 * j + d)
    away d g l = go h
      where
        go : (4 * j + 6 ≤ from) ⊎ (to ≤ 4 * j + 2) → (4 * j + d < from) ⊎ (to ≤ 4 * j + d)
        go (inl w) = inl (omega arith)
        go (inr w) = inr (omega arith)

    next : (4 * j + 5 < from) ⊎ (to ≤ 4 * j + 5) → (4 * j + 4 + 1 < from) ⊎ (to ≤ 4 * j + 4 + 1)
    next (inl g) = inl (omega arith)
    next (inr g) = inr (omega arith)

stands-kept : {b after : List ℕ} {i : ℕ} {t : Tree} → Stands b i t → SameNodes b after i (i + size_of t) → Stands after i t
unfolding size_of
stands-kept {i = i} (tip x) r = tip (r.node i 0 0 _ (omega arith) (omega arith) x)
stands-kept {i = i} (fork {k = k} {c = c} {z = z} {o = o} x y w) r =
    fork (r.node i k c _ (omega arith) (omega arith) x)
    (stands-kept y (record { node = λ j k c v h l. r.node j k c v (omega arith) (omega arith) }))
    (stands-kept w (record { node = λ j k c v h l. r.node j k c v (omega arith) (omega arith) }))

-- a node that is written, and a place
node-before : (b after : List ℕ) (i k c v : ℕ) → PutsNode i k c v b after → SameNodes b after 0 i
node-before b after i k c v r = record { node = λ j k c v h l. kept-node b after (4 * i + 2) (4 * i + 6) r.kept j k c v (inl (omega arith)) }

place-before : (b after : List ℕ) (i v : ℕ) → PutsPlace i v b after → SameNodes b after 0 i
place-before b after i v r = record { node = λ j k c v h l. kept-node b after (4 * i + 4) (4 * i + 6) r.kept j k c v (inl (omega arith)) }

place-behind : (b after : List ℕ) (i v to : ℕ) → PutsPlace i v b after → SameNodes b after (suc i) to
place-behind b after i v to r = record { node = λ j k c v h l. kept-node b after (4 * i + 4) (4 * i + 6) r.kept j k c v (inr (omega arith)) }

place-own : (b after : List ℕ) (i k c v o : ℕ) → PutsPlace i v b after → NodeIs b i k c o → NodeIs after i k c v
unfolding kind_at bit_at
place-own b after i k c v o r x =
    record {
      kind = r.kept.outside (4 * i + 2) (inl (omega arith)) ∙ x.kind;
      bit = r.kept.outside (4 * i + 3) (inl (omega arith)) ∙ x.bit;
      place = r.placed;
    }

module _ (first : ℕ) (at : ℕ → Pattern) (n : ℕ) (sound : (j : ℕ) → j < n → ValidPattern (at j)) where
  pub seen_of : {b : List ℕ} {p : Pattern} {m o : ℕ} → Growing first at n b p m o → Seen first at n p m
  seen_of begin = seen.begin
  seen_of (zeroth k low x g) = seen.zeroth k low (seen_of g)
  seen_of (oneth k low x y g) = seen.oneth k low (seen_of g)

  -- the test that waits stands before the path's end
  pub waits-before : {b : List ℕ} {p : Pattern} {m o : ℕ} → Growing first at n b p m o → o ≤ m
  waits-before begin = omega arith
  waits-before (zeroth k low x g) = omega arith
  waits-before (oneth k low x y g) = omega (arith, waits-before g)

  growing-kept : {b after : List ℕ} {p : Pattern} {m o : ℕ} → Growing first at n b p m o → SameNodes b after 0 m → Growing first at n after p m o
  growing-kept begin r = begin
  growing-kept (zeroth {m = m} {o = o} k low x g) r =
      zeroth k low (r.node m (kind_of k) (bit_of k) o (omega arith) (omega arith) x)
      (growing-kept g (record { node = λ j k c v h l. r.node j k c v h (omega arith) }))
  growing-kept (oneth {q} {m} {o} k low x y g) r =
      oneth k low (r.node m (kind_of k) (bit_of k) _ (omega arith) (omega arith) x)
      (stands-kept y (record { node = λ j k c v h l. r.node j k c v (omega arith) l }))
      (growing-kept g (record { node = λ j k c v h l. r.node j k c v h (omega arith) }))

  -- behind a finished path the whole tree stands, or the test that waited goes on to its one side
  abbrev Reached : List ℕ → ℕ → ℕ → ℕ → Option Pattern → Type 0
  Reached b o i e None = Stands b 0 (tree_of first at n)
  Reached b o i e (Some q) = Opens first at n b o i e q

  abbrev at-end : Pattern → ℕ → ℕ
  at-end p i = i + size_of (tree_at first at n p)

  reach : {b : List ℕ} {p : Pattern} {i o : ℕ} → Growing first at n b p i o → Stands b i (tree_at first at n p) → (r : Option Pattern) → Turns p r
      → Reached b o i (at-end p i) r
  reach begin s None f = rw (tree-start first at n) at s
  reach begin s (Some q) (z, last, turned) = absurd (false≢true (sym (start-masks z) ∙ last.tested))
  reach (zeroth {q} k low x g) s None f =
      absurd (zero-whole at n q k low (seen-valid first at n sound (seen_of g)) (ascends-to first at n sound (seen_of g) k low) f)
  reach {b} (zeroth {q} {m} {o} k low x g) s (Some r) (z, last, turned) =
      let is = zero-turned at n q k low (seen-valid first at n sound (seen_of g)) (ascends-to first at n sound (seen_of g) k low) z r last turned in
      record {
        below = omega arith;
        next = λ after puts.
            rw (is, x.place)
            (oneth k low (place-own b after m (kind_of k) (bit_of k) _ o puts x)
            (stands-kept s (place-behind b after m _ _ puts))
            (growing-kept g (place-before b after m _ puts)));
      }
  reach {b} (oneth {q} {m} {o} k low x y g) s r f =
      let valid = seen-valid first at n sound (seen_of g) in
      let size = test-size first at n sound q k low valid in
      let e : suc m + size_of (tree_at first at n (longer q k 0)) + size_of (tree_at first at n (longer q k 1)) ≡ at-end q m = omega arith in
      let whole : Stands b m (tree_at first at n q) = rw (test-tree first at n sound q k low valid) (fork x y s) in
      rw e (farther r (reach g whole r (one-turns at n q k low valid (ascends-to first at n sound (seen_of g) k low) r f)))
    where
      farther : (r : Option Pattern) → Reached b o m (at-end q m) r → Reached b o (suc m + size_of (tree_at first at n (longer q k 0))) (at-end q m) r
      farther None s = s
      farther (Some t) s = record { below = omega (arith, s.below); next = s.next }

  -- the turns of the loop that writes
  module _ (clear : clash_of at n ≡ None) (count : ℕ) (before b : List ℕ) (p : Pattern) (o i : ℕ)
      (so_far : Progress first at n count before b p o i) (here : i < count) where
    -- a node of the tree keeps what is not the tree's
    node_kept : (after : List ℕ) (k c v : ℕ) → PutsNode i k c v b after → Kept 2 (2 + 4 * count) before after
    node_kept after k c v r =
        kept-both 2 (2 + 4 * count) before b after so_far.kept
        (kept-wider (4 * i + 2) (4 * i + 6) 2 (2 + 4 * count) b after (omega arith) (omega arith) r.kept)

    pub grow-test : (a c : ℕ) → node_of first at n p ≡ Test a c → (after : List ℕ) → PutsNode i a c o b after
        → (r : Pattern) → r ≡ side p a c 0 → Progress first at n count before after r i (i + 1)
    grow-test a c e after puts r is =
        let t = test_at first at n sound clear p (seen-valid first at n sound (seen_of so_far.growing)) a c e in
        let k : ℕ = t.at-bit in
        let z : r ≡ longer p k 0 = is ∙ (ap (λ y. side p y c 0) t.kind ∙ ap (λ y. side p (kind_of k) y 0) t.bit) in
        let x : NodeIs after i (kind_of k) (bit_of k) o =
        record { kind = puts.node.kind ∙ t.kind; bit = puts.node.bit ∙ t.bit; place = puts.node.place } in
        record {
          within = omega arith;
          growing = rw (z, add-one i) (zeroth k t.low x (growing-kept so_far.growing (node-before b after i a c o puts)));
          kept = node_kept after a c o puts;
        }

    -- a leaf, and what stands behind it
    module _ (v : ℕ) (e : node_of first at n p ≡ Leaf v) (mid : List ℕ) (puts : PutsNode i 0 0 v b mid) (r : Option Pattern) (turns : Turns p r) where
      one-node : at-end p i ≡ i + 1
      unfolding size_of
      one-node = rw (leaf-grows first at n p v e)

      reached : Reached mid o i (i + 1) r
      reached =
          rw one-node at
          (reach (growing-kept so_far.growing (node-before b mid i 0 0 v puts)) (rw (leaf-grows first at n p v e) (tip puts.node)) r turns)

      pub grow-whole : r ≡ None → count ≡ size_of (tree_of first at n) → PutsTree (tree_of first at n) before mid
      grow-whole is size =
          record { stands = subst (Reached mid o i (i + 1)) is reached; kept = rw size at (node_kept mid 0 0 v puts) }

      opened : (q : Pattern) → r ≡ Some q → Opens first at n mid o i (i + 1) q
      opened q is = subst (Reached mid o i (i + 1)) is reached

      pub waits-inside : (q : Pattern) → r ≡ Some q → o < i
      waits-inside q is = (opened q is).below

      pub grow-side : (q : Pattern) → r ≡ Some q → (after : List ℕ) → PutsPlace o (i + 1) mid after
          → Progress first at n count before after q (place_at mid o) (i + 1)
      grow-side q is after placed =
          let l = (opened q is).below in
          record {
            within = omega arith;
            growing = (opened q is).next after placed;
            kept =
                kept-both 2 (2 + 4 * count) before mid after (node_kept mid 0 0 v puts)
                (kept-wider (4 * o + 4) (4 * o + 6) 2 (2 + 4 * count) mid after (omega arith) (omega arith) placed.kept);
          }

  pub progress_start : (count : ℕ) (before : List ℕ) → Progress first at n count before before start 0 0
  progress_start count before =
      record { within = omega arith; growing = begin; kept = record { same = refl; outside = λ k h. refl } }

  pub progress-valid : (count : ℕ) (before b : List ℕ) (p : Pattern) (o i : ℕ) → Progress first at n count before b p o i → ValidPattern p
  progress-valid count before b p o i r = seen-valid first at n sound (seen_of r.growing)

  -- the place that a test waits with fits two bytes, and a whole tree has no node left
  pub waits-small : (count : ℕ) (before b : List ℕ) (p : Pattern) (o i : ℕ) → Progress first at n count before b p o i → count ≤ 4095 → o < 65536
  waits-small count before b p o i r h = omega (arith, waits-before r.growing, r.within)

  pub never-through : clash_of at n ≡ None → (count : ℕ) (before b : List ℕ) (p : Pattern) (o i : ℕ)
      → Progress first at n count before b p o i → count ≡ size_of (tree_of first at n) → count ≤ i → ⊥
  never-through clear count before b p o i r size h =
      let m = seen_more first at n sound clear p i (seen_of r.growing) in
      omega arith
