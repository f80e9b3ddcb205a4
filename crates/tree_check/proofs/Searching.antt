-- The search over the leaves, step by step.
use Prim.Native.Nat.{ℕ, ◌+◌, ◌-◌, ◌<◌}
use mathlib.Core.Bool.{Bool, true, false, cond}
use mathlib.Core.List.{List}
use mathlib.Core.Path.{◌≡◌, refl, sym, ◌∙◌}
use native.Mathlib.Decide.{dec_lt}
use native.Mathlib.Omega.{arith}
use lib.Dec.{eqb}
use Rattle.std.specs.Prelude.{Option, Some, None}
use Rattle.lists.specs.Below.{any_below}
use Rattle.lists.proofs.Below.{any-more}
use Rattle.format.specs.declared.Pattern.{Pattern}
use Rattle.tables.specs.declared.Table.{Table}
use Rattle.tree_spec.specs.Nodes.{no_place, kind_at}
use Rattle.tree_rule.specs.Rule.{refutes, refuted, shows_wrong}
use Rattle.tree_check.specs.Search.{ClearLeaf, ClearBefore, named_in}

-- what the code tests of record j is the rule
pub shows-is : (first : ℕ) (at : ℕ → Pattern) (p : Pattern) (v j : ℕ) (named : Option Pattern) (q : Pattern) → named ≡ named_in first at v → q ≡ at j
    → refuted (eqb (first + j) v) p named q ≡ shows_wrong first at p v j
unfolding shows_wrong refutes
shows-is first at p v j named q f e = rw (f, e) (go (eqb v no_place))
  where
    go : (none : Bool) → refuted (eqb (first + j) v) p (cond none None (Some (at (v - first)))) (at j) ≡ refutes (eqb (first + j) v) none p (at (v - first)) (at j)
    go true = refl
    go false = refl

module _ (at : ℕ → Pattern) (table : Table) (tree : List ℕ) where
  pub clear_none : ClearBefore at table tree 0
  clear_none k h e = absurd (omega arith)

  pub clear-more : (i : ℕ) → ClearBefore at table tree i → (kind_at tree i ≡ 0 → ClearLeaf at table tree i) → ClearBefore at table tree (i + 1)
  clear-more i f g k h e = go (dec_lt k i)
    where
      go : Dec (k < i) → ClearLeaf at table tree k
      go (yes m) = f k m e
      go (no m) = let s : k ≡ i = omega arith in rw s (g (rw s at e))

pub none_more : (ok : ℕ → Bool) (j : ℕ) → any_below j ok ≡ false → ok j ≡ false → any_below (j + 1) ok ≡ false
none_more ok j e f = any-more ok j ∙ rw (e, f)

-- the same with the path and the leaf's word as the code has them
pub shown-is : (first : ℕ) (at : ℕ → Pattern) (p p' : Pattern) (v v' j : ℕ) (named : Option Pattern) (q : Pattern) (r : Bool)
    → p' ≡ p → v' ≡ v → named ≡ named_in first at v' → q ≡ at j
    → r ≡ refuted (eqb (first + j) v') p' named q → shows_wrong first at p v j ≡ r
shown-is first at p p' v v' j named q r a b f e s = sym (s ∙ shows-is first at p' v' j named q f e ∙ rw (a, b))
