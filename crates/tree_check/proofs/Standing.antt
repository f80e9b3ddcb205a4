-- The way down to a leaf: the subtree that still holds it, and what is left of the path.
use Prim.Native.Nat.{ℕ, zero, suc, ◌+◌, ◌*◌, ◌<◌, ◌≤◌}
use mathlib.Core.List.{List}
use mathlib.Core.Logic.{⊎_elim}
use mathlib.Core.Path.{◌≡◌, refl, sym, ◌∙◌}
use native.Mathlib.Numerals.{add-one}
use native.Mathlib.Omega.{arith}
use lib.ListN.{length}
use Rattle.std.specs.Prelude.{Ok}
use Rattle.format.specs.declared.Pattern.{Pattern}
use Rattle.tree_spec.specs.Nodes.{count_of, kind_at, bit_at, place_at}
use Rattle.tree_spec.specs.Form.{start, side, form_of}
use Rattle.tree_form.proofs.Trees.{Tree, tip, fork, tree_of, good-counted, sized, test-fresh}
use Rattle.tree_theorems.specs.Path.{path_from, path_of}
use Rattle.tree_theorems.proofs.Reach.{span, path-end, path-zero, path-one}

pub record Standing (b : List ℕ) (leaf : ℕ) (p : Pattern) (t : ℕ) : Type 0 where
  pub first : ℕ
  pub n : ℕ
  pub end : ℕ
  pub deep : ℕ
  pub bytes : length b ≡ 2 + 4 * count_of b
  pub sub : Tree first n b p t end
  pub past : leaf < end
  pub within : t ≤ leaf
  pub last : kind_at b leaf ≡ 0
  pub enough : leaf ≤ t + deep
  pub rest : path_from deep b leaf p t ≡ path_of b leaf

-- what a test on the way is
pub record Test (b : List ℕ) (t : ℕ) : Type 0 where
  pub here : t < count_of b
  pub low : bit_at b t < 64
  pub narrow : (kind_at b t ≡ 1 → ⊥) → bit_at b t < 32
  pub ahead : t < place_at b t

module _ (b : List ℕ) (leaf : ℕ) where
  pub stand-first : (first n : ℕ) → form_of first n b ≡ Ok tt → leaf < count_of b → kind_at b leaf ≡ 0 → Standing b leaf start 0
  unfolding path_of
  stand-first first n g l k =
      record {
        first = first;
        n = n;
        end = count_of b;
        deep = leaf;
        bytes = (sized b (good-counted first n b g)).bytes;
        sub = tree_of first n b g;
        past = l;
        within = omega arith;
        last = k;
        enough = omega arith;
        rest = refl;
      }

  pub stand-done : (p : Pattern) (t : ℕ) → Standing b leaf p t → leaf ≤ t → p ≡ path_of b leaf
  stand-done p t s h =
      let d : t ≡ leaf = omega (arith, s.within) in
      sym (path-end s.first s.n b s.deep leaf p) ∙ rw d at s.rest

  module _ (p : Pattern) (t : ℕ) (s : Standing b leaf p t) (h : t < leaf) where
    abbrev f : ℕ
    f = s.first

    pub stand-test : Test b t
    stand-test = go s.sub s.past
      where
        go : {e : ℕ} → Tree s.first s.n b p t e → leaf < e → Test b t
        go (tip l o k) w = absurd (omega arith)
        go (fork l o k z y) w =
            let q = test-fresh s.first s.n b p t o k in
            record {
              here = l;
              low = ⊎_elim (λ r. r.1) (λ r. omega (arith, r.1)) q;
              narrow = λ x. ⊎_elim (λ r. absurd (x r.0)) (λ r. r.1) q;
              ahead = omega (arith, span s.first s.n b z);
            }

    pub stand-zero : leaf < place_at b t → Standing b leaf (side p (kind_at b t) (bit_at b t) 0) (t + 1)
    stand-zero m = go s.deep s.enough s.rest s.sub s.past
      where
        go : (d : ℕ) → leaf ≤ t + d → path_from d b leaf p t ≡ path_of b leaf → {e : ℕ} → Tree s.first s.n b p t e → leaf < e
            → Standing b leaf (side p (kind_at b t) (bit_at b t) 0) (t + 1)
        go zero x r u w = absurd (omega arith)
        go (suc d) x r (tip l o k) w = absurd (omega arith)
        go (suc d) x r (fork l o k z y) w =
            record {
              first = s.first;
              n = s.n;
              end = place_at b t;
              deep = d;
              bytes = s.bytes;
              sub = rw add-one z;
              past = m;
              within = omega arith;
              last = s.last;
              enough = omega arith;
              rest = rw add-one (sym (path-zero s.first s.n b d leaf t p h m) ∙ r);
            }

    pub stand-one : place_at b t ≤ leaf → Standing b leaf (side p (kind_at b t) (bit_at b t) 1) (place_at b t)
    stand-one m = go s.deep s.enough s.rest s.end s.sub s.past
      where
        go : (d : ℕ) → leaf ≤ t + d → path_from d b leaf p t ≡ path_of b leaf → (e : ℕ) → Tree s.first s.n b p t e → leaf < e
            → Standing b leaf (side p (kind_at b t) (bit_at b t) 1) (place_at b t)
        go zero x r e u w = absurd (omega arith)
        go (suc d) x r e (tip l o k) w = absurd (omega arith)
        go (suc d) x r e (fork l o k z y) w =
            record {
              first = s.first;
              n = s.n;
              end = e;
              deep = d;
              bytes = s.bytes;
              sub = y;
              past = w;
              within = m;
              last = s.last;
              enough = omega (arith, span s.first s.n b z);
              rest = sym (path-one s.first s.n b d leaf t p h m) ∙ r;
            }
