-- An input reaches a leaf exactly where it matches the leaf's path.
use Prim.Native.Nat.{ℕ, zero, suc, ◌+◌, ◌<◌, ◌≤◌}
use mathlib.Core.Bool.{Bool, true, false, cond, ◌&&◌}
use mathlib.Core.List.{List}
use mathlib.Core.Logic.{⊎_elim}
use mathlib.Core.Path.{◌≡◌, refl, sym}
use native.Mathlib.Decide.{dec_lt, ℕ_discrete}
use native.Mathlib.Omega.{arith}
use borrow.Author.Tests.{eq-eqb, ne_eqb, lt-ltb, le-ltb}
use lib.Dec.{eqb, lit<}
use Rattle.lists.proofs.Bools.{and_no, and_yes}
use Rattle.bits.specs.Bits.{bit}
use Rattle.bits.proofs.Digits.{bit-small}
use Rattle.format.specs.declared.Pattern.{Pattern}
use Rattle.patterns.specs.Matching.{byte_bit, matches}
use Rattle.choosing_spec.specs.ValidPattern.{ValidPattern}
use Rattle.tree_spec.specs.Nodes.{kind_at, bit_at, place_at}
use Rattle.tree_spec.specs.Form.{side, node_ok}
use Rattle.tree_spec.specs.Reach.{tested_bit, reach_from, Input}
use Rattle.tree_theorems.specs.Path.{path_from}
use Rattle.tree_theorems.proofs.Sides.{byte-side, context-side, clear-bit, sound-byte, sound-context}
use Rattle.tree_form.proofs.Trees.{Tree, tip, fork, test-fresh}

module _ (first n : ℕ) (b : List ℕ) where
  -- a tree has a node
  pub span : {p : Pattern} {i e : ℕ} → Tree first n b p i e → i < e
  span (tip l o k) = omega arith
  span (fork l o k z y) = omega (arith, span z, span y)

  -- the longer path is sound
  pub side-sound : (p : Pattern) (i x : ℕ) → x < 2 → node_ok first n p b i ≡ true → (kind_at b i ≡ 0 → ⊥) → ValidPattern p
      → ValidPattern (side p (kind_at b i) (bit_at b i) x)
  side-sound p i x h o k r =
      ⊎_elim (λ w. rw w.0 (sound-byte p (bit_at b i) x h w.1 w.2 r)) (λ w. rw w.0 (sound-context p (bit_at b i) x h w.1 w.2 r))
      (test-fresh first n b p i o k)

  -- the path's steps
  pub path-end : (f leaf : ℕ) (p : Pattern) → path_from f b leaf p leaf ≡ p
  unfolding path_from
  path-end zero leaf p = refl
  path-end (suc f) leaf p = rw (le-ltb leaf leaf (omega arith))

  pub path-zero : (f leaf i : ℕ) (p : Pattern) → i < leaf → leaf < place_at b i
      → path_from (suc f) b leaf p i ≡ path_from f b leaf (side p (kind_at b i) (bit_at b i) 0) (suc i)
  unfolding path_from
  path-zero f leaf i p h l = rw (lt-ltb i leaf h, lt-ltb leaf (place_at b i) l)

  pub path-one : (f leaf i : ℕ) (p : Pattern) → i < leaf → place_at b i ≤ leaf
      → path_from (suc f) b leaf p i ≡ path_from f b leaf (side p (kind_at b i) (bit_at b i) 1) (place_at b i)
  unfolding path_from
  path-one f leaf i p h l = rw (lt-ltb i leaf h, le-ltb leaf (place_at b i) l)

  module _ (s : List ℕ) (c : ℕ) (input : Input s c) where
    -- .. and is matched where the tested bit is on that side
    side-matches : (p : Pattern) (i x : ℕ) → x < 2 → node_ok first n p b i ≡ true → (kind_at b i ≡ 0 → ⊥) → ValidPattern p
        → matches (side p (kind_at b i) (bit_at b i) x) s c ≡ (matches p s c && eqb (tested_bit b s c i) x)
    side-matches p i x h o k r =
        ⊎_elim
        (λ w. rw w.0 (byte-side p s c (bit_at b i) x h input w.1 w.2 (clear-bit p.value p.mask (bit_at b i) r.masked w.2)))
        (λ w. rw w.0 (context-side p s c (bit_at b i) x h input w.1 w.2 (clear-bit p.contextvalue p.contextmask (bit_at b i) r.contextmasked w.2)))
        (test-fresh first n b p i o k)

    tested-small : (i : ℕ) → tested_bit b s c i < 2
    tested-small i = go (eqb (kind_at b i) 1)
      where
        go : (t : Bool) → cond t (byte_bit s (bit_at b i)) (bit c (bit_at b i)) < 2
        go true = bit-small _ _
        go false = bit-small c (bit_at b i)

    -- one step of the way
    at_leaf : (g i : ℕ) → kind_at b i ≡ 0 → reach_from (suc g) b s c i ≡ i
    unfolding reach_from
    at_leaf g i k = rw k

    at_one : (g i : ℕ) → (kind_at b i ≡ 0 → ⊥) → tested_bit b s c i ≡ 1 → reach_from (suc g) b s c i ≡ reach_from g b s c (place_at b i)
    unfolding reach_from
    at_one g i k t = rw (ne_eqb (kind_at b i) 0 k, eq-eqb (tested_bit b s c i) 1 t)

    at_zero : (g i : ℕ) → (kind_at b i ≡ 0 → ⊥) → tested_bit b s c i ≡ 0 → reach_from (suc g) b s c i ≡ reach_from g b s c (suc i)
    unfolding reach_from
    at_zero g i k t =
        let z : eqb (tested_bit b s c i) 1 ≡ false = ne_eqb (tested_bit b s c i) 1 (λ q. omega arith) in
        rw (ne_eqb (kind_at b i) 0 k, z)

    -- a way from a subtree's first node ends at a leaf of it
    pub record Lands (i e r : ℕ) : Type 0 where
      pub from : i ≤ r
      pub to : r < e
      pub leaf : kind_at b r ≡ 0

    pub lands : {p : Pattern} {i e : ℕ} → Tree first n b p i e → (g : ℕ) → e ≤ i + g → Lands i e (reach_from g b s c i)
    lands {i = i} (tip l o k) zero h = absurd (omega arith)
    lands {i = i} (tip l o k) (suc g) h = rw (at_leaf g i k) (record { from = omega arith; to = omega arith; leaf = k })
    lands {i = i} (fork l o k z y) zero h = absurd (omega (arith, span z, span y))
    lands {i = i} {e = e} (fork l o k z y) (suc g) h =
        go (ℕ_discrete (tested_bit b s c i) 1) (lands z g (omega (arith, span y))) (lands y g (omega (arith, span z)))
      where
        go : Dec (tested_bit b s c i ≡ 1) → Lands (suc i) (place_at b i) (reach_from g b s c (suc i))
            → Lands (place_at b i) e (reach_from g b s c (place_at b i)) → Lands i e (reach_from (suc g) b s c i)
        go (yes t) f w = rw (at_one g i k t) (record { from = omega (arith, w.from, span z); to = w.to; leaf = w.leaf })
        go (no t) f w =
            let q : tested_bit b s c i ≡ 0 = omega (arith, tested-small i, t) in
            rw (at_zero g i k q) (record { from = omega (arith, f.from); to = omega (arith, f.to, span y); leaf = f.leaf })

    -- an input matches a leaf's path just where it matches the path so far and reaches the leaf from here
    pub reach-path : {p : Pattern} {i e : ℕ} → Tree first n b p i e → ValidPattern p → (leaf : ℕ) → i ≤ leaf → leaf < e → kind_at b leaf ≡ 0
        → (f g : ℕ) → leaf ≤ i + f → e ≤ i + g
        → matches (path_from f b leaf p i) s c ≡ (matches p s c && eqb (reach_from g b s c i) leaf)
    reach-path {p} {i} (tip l o k) r leaf a z q f zero h j = absurd (omega arith)
    reach-path {p} {i} (tip l o k) r leaf a z q f (suc g) h j =
        let d : leaf ≡ i = omega arith in
        rw (d, path-end f i p, at_leaf g i k, eq-eqb i i refl) (sym (and_yes (matches p s c)))
    reach-path {p} {i} (fork l o k z y) r leaf a w q f zero h j = absurd (omega (arith, span z, span y))
    reach-path {p} {i} {e} (fork l o k z y) r leaf a w q zero (suc g) h j = let d : leaf ≡ i = omega arith in absurd (k (rw d at q))
    reach-path {p} {i} {e} (fork l o k z y) r leaf a w q (suc f) (suc g) h j =
        go (dec_lt leaf (place_at b i)) (ℕ_discrete (tested_bit b s c i) 1)
        (λ m. reach-path z (side-sound p i 0 (lit< tt) o k r) leaf (omega (arith, past)) m q f g (omega arith) (omega (arith, span y)))
        (λ m. reach-path y (side-sound p i 1 (lit< tt) o k r) leaf m w q f g (omega (arith, span z)) (omega (arith, span z)))
      where
        past : i < leaf
        past = let d : leaf ≡ i → ⊥ = λ d. k (rw d at q) in omega (arith, d)

        zero-lands : Lands (suc i) (place_at b i) (reach_from g b s c (suc i))
        zero-lands = lands z g (omega (arith, span y))

        one-lands : Lands (place_at b i) e (reach_from g b s c (place_at b i))
        one-lands = lands y g (omega (arith, span z))

        go : Dec (leaf < place_at b i) → Dec (tested_bit b s c i ≡ 1)
            → (leaf < place_at b i → matches (path_from f b leaf (side p (kind_at b i) (bit_at b i) 0) (suc i)) s c
            ≡ (matches (side p (kind_at b i) (bit_at b i) 0) s c && eqb (reach_from g b s c (suc i)) leaf))
            → (place_at b i ≤ leaf → matches (path_from f b leaf (side p (kind_at b i) (bit_at b i) 1) (place_at b i)) s c
            ≡ (matches (side p (kind_at b i) (bit_at b i) 1) s c && eqb (reach_from g b s c (place_at b i)) leaf))
            → matches (path_from (suc f) b leaf p i) s c ≡ (matches p s c && eqb (reach_from (suc g) b s c i) leaf)
        go (yes m) (yes t) u v =
            let x : eqb (reach_from g b s c (place_at b i)) leaf ≡ false = ne_eqb (reach_from g b s c (place_at b i)) leaf (λ d. omega (arith, one-lands.from)) in
            rw (path-zero f leaf i p past m, u m, side-matches p i 0 (lit< tt) o k r, t, at_one g i k t, x, and_no (matches p s c) false refl)
        go (yes m) (no t) u v =
            let d : tested_bit b s c i ≡ 0 = omega (arith, tested-small i, t) in
            rw (path-zero f leaf i p past m, u m, side-matches p i 0 (lit< tt) o k r, d, at_zero g i k d, and_yes (matches p s c))
        go (no m) (yes t) u v =
            rw (path-one f leaf i p past (omega arith), v (omega arith), side-matches p i 1 (lit< tt) o k r, t, at_one g i k t, and_yes (matches p s c))
        go (no m) (no t) u v =
            let d : tested_bit b s c i ≡ 0 = omega (arith, tested-small i, t) in
            let x : eqb (reach_from g b s c (suc i)) leaf ≡ false = ne_eqb (reach_from g b s c (suc i)) leaf (λ d. omega (arith, zero-lands.to)) in
            rw (path-one f leaf i p past (omega arith), v (omega arith), side-matches p i 1 (lit< tt) o k r, d, at_zero g i k d, x, and_no (matches p s c) false refl)
