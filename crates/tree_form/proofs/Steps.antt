-- The code's walk, exit by exit: at every depth that is enough it is the definition's.
use Prim.Native.Nat.{ℕ, zero, suc, ◌+◌, ◌<◌, ◌≤◌}
use mathlib.Core.Bool.{true, false, cond}
use mathlib.Core.List.{List}
use mathlib.Core.Path.{◌≡◌, refl, sym, ◌∙◌}
use native.Mathlib.Numerals.{add-one}
use native.Mathlib.Omega.{arith}
use borrow.Author.Tests.{lt-ltb, le-ltb, eq-eqb, ne_eqb}
use lib.Dec.{eqb}
use Rattle.std.specs.Prelude.{Result, Ok, Err}
use Rattle.format.specs.declared.Pattern.{Pattern}
use Rattle.tree_spec.specs.Nodes.{no_place, count_of, kind_at, bit_at, place_at}
use Rattle.tree_spec.specs.Form.{start, side, node_ok, closed, forked, walk_of, ended, counted, form_of}
use Rattle.tree_spec.specs.declared.Subtree.{Subtree}
use Rattle.tree_spec.specs.declared.NoSubtree.{NoSubtree}
use Rattle.tree_spec.specs.declared.NoSubtree.TheVariants.{Fault, Out}
use Rattle.tree_form.proofs.Trees.{ends_at, walk-next}

-- each level has used a node, so that the nodes left are depth enough
abbrev pub Walks : ℕ → ℕ → List ℕ → Pattern → ℕ → Result Subtree NoSubtree → Type 0
Walks first n b p i w = (deep : ℕ) → count_of b ≤ i + deep → w ≡ walk_of first n b deep p i

module _ (first n : ℕ) (b : List ℕ) (p : Pattern) (i : ℕ) where
  pub walk-out : count_of b ≤ i → Walks first n b p i (Err Out)
  unfolding walk_of
  walk-out l zero h = refl
  walk-out l (suc deep) h = rw (le-ltb i (count_of b) l)

  pub walk-fault : i < count_of b → node_ok first n p b i ≡ false → Walks first n b p i (Err (Fault i))
  unfolding walk_of
  walk-fault here f zero h = absurd (omega arith)
  walk-fault here f (suc deep) h = rw (lt-ltb i (count_of b) here, f)

  pub walk-leaf : i < count_of b → node_ok first n p b i ≡ true → kind_at b i ≡ 0 → Walks first n b p i (ends_at (i + 1) no_place)
  unfolding walk_of
  walk-leaf here g k zero h = absurd (omega arith)
  walk-leaf here g k (suc deep) h = rw (lt-ltb i (count_of b) here, g, eq-eqb (kind_at b i) 0 k, add-one i)

-- a test whose zero side is walked: q is the code's path to that side, and z its walk
pub record Half (first n : ℕ) (b : List ℕ) (p : Pattern) (i : ℕ) (q : Pattern) (z : Result Subtree NoSubtree) : Type 0 where
  pub here : i < count_of b
  pub good : node_ok first n p b i ≡ true
  pub test : kind_at b i ≡ 0 → ⊥
  pub path : q ≡ side p (kind_at b i) (bit_at b i) 0
  pub walked : Walks first n b q (i + 1) z

module _ {first n : ℕ} {b : List ℕ} {p : Pattern} {i : ℕ} {q : Pattern} {z : Result Subtree NoSubtree} (half : Half first n b p i q z) where
  forks : (deep : ℕ)
      → walk_of first n b (suc deep) p i
      ≡ forked i (place_at b i) (walk_of first n b deep (side p (kind_at b i) (bit_at b i) 0) (suc i))
      (λ next. walk_of first n b deep (side p (kind_at b i) (bit_at b i) 1) next)
  unfolding walk_of
  forks deep = rw (lt-ltb i (count_of b) half.here, half.good, ne_eqb (kind_at b i) 0 half.test)

  zero-side : (deep : ℕ) → count_of b ≤ i + suc deep → z ≡ walk_of first n b deep (side p (kind_at b i) (bit_at b i) 0) (suc i)
  zero-side deep h = rw (← half.path, ← add-one i) (half.walked deep (omega arith))

  pub zero-failed : (x : NoSubtree) → z ≡ Err x → Walks first n b p i (Err x)
  zero-failed x e zero h = absurd (omega arith)
  zero-failed x e (suc deep) h = rw (forks deep, ← zero-side deep h, e)

  -- the one side starts behind the node, so that fewer nodes are left
  pub zero-next : (w : Subtree) → z ≡ Ok w → i < w.next
  zero-next w e =
      let h = walk-next first n b (count_of b) q (i + 1) w.next w.side (sym (half.walked (count_of b) (omega arith)) ∙ e) in
      omega arith

  pub walk-both : (w : Subtree) → z ≡ Ok w → (r : Pattern) (o : Result Subtree NoSubtree) → r ≡ side p (kind_at b i) (bit_at b i) 1
      → Walks first n b r w.next o → Walks first n b p i (closed (cond (eqb (place_at b i) w.next) no_place i) w.side o)
  walk-both w e r o one there zero h = absurd (omega arith)
  walk-both w e r o one there (suc deep) h =
      rw (forks deep, ← zero-side deep h, e, ← one, ← there deep (omega (arith, zero-next w e)))

module _ (first n : ℕ) (b : List ℕ) where
  pub form-counted : (w : Result Subtree NoSubtree) → counted b ≡ true → Walks first n b start 0 w → ended (count_of b) w ≡ form_of first n b
  unfolding form_of
  form-counted w h walked = rw (h, walked (count_of b) (omega arith))

  pub form-miscounted : counted b ≡ false → Err no_place ≡ form_of first n b
  unfolding form_of
  form-miscounted h = rw h
