-- A pattern that lies inside another overlaps it, so a pattern that is apart from the path shows just a leaf that names it wrong.
use Prim.Native.Nat.{ℕ}
use mathlib.Core.Bool.{Bool, true, false, ◌&&◌, ◌||◌, not, false≢true}
use mathlib.Core.Path.{◌≡◌, refl, sym, ◌∙◌}
use lib.Dec.{eqb}
use Rattle.bits.specs.Bits.{bit, is_set}
use Rattle.lists.proofs.Below.{all-at, all_of}
use Rattle.lists.proofs.Bools.{and_left, and_right, and_both}
use Rattle.std.specs.Prelude.{Option, Some, None}
use Rattle.format.specs.declared.Pattern.{Pattern}
use Rattle.patterns.specs.Relations.{inside_bits, inside, meet_bits, overlap}
use Rattle.tree_rule.specs.Rule.{refutes, refuted}

meet-bits : (n am av bm bv : ℕ) → inside_bits n am av bm bv ≡ true → meet_bits n am av bm bv ≡ true
unfolding inside_bits meet_bits
meet-bits n am av bm bv e = all_of _ n (λ k h. pick (is_set am k) (is_set bm k) (eqb (bit av k) (bit bv k)) (all-at _ n k e h))
  where
    pick : (a b s : Bool) → (not b || (a && s)) ≡ true → (not (a && b) || s) ≡ true
    pick true true s q = q
    pick true false s q = refl
    pick false b s q = refl

inside-meets : (a b : Pattern) → inside a b ≡ true → overlap a b ≡ true
unfolding inside overlap
inside-meets a b e =
    let byte = inside_bits 64 a.mask a.value b.mask b.value in
    let context = inside_bits 32 a.contextmask a.contextvalue b.contextmask b.contextvalue in
    and_both _ _ (meet-bits 64 a.mask a.value b.mask b.value (and_left byte context e))
    (meet-bits 32 a.contextmask a.contextvalue b.contextmask b.contextvalue (and_right byte context e))

apart : (own none : Bool) (p named q : Pattern) → overlap p q ≡ false → own ≡ refutes own none p named q
unfolding refutes
apart true none p named q e = go (inside p q) refl
  where
    go : (t : Bool) → inside p q ≡ t → true ≡ not t
    go true i = absurd (false≢true (sym e ∙ inside-meets p q i))
    go false i = refl
apart false none p named q e = rw e

pub refuted-apart : (own : Bool) (p : Pattern) (named : Option Pattern) (q : Pattern) → overlap p q ≡ false → own ≡ refuted own p named q
refuted-apart own p (Some named) q e = apart own false p named q e
refuted-apart own p None q e = apart own true p q q e

-- a leaf that names q is wrong where the path does not lie inside q
pub refuted-own : (p : Pattern) (named : Option Pattern) (q : Pattern) → not (inside p q) ≡ refuted true p named q
unfolding refutes
refuted-own p (Some named) q = refl
refuted-own p None q = refl
