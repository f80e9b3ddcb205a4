use Rattle.rules.specs.Places.{place_fits}
use Rattle.format.specs.Rules.{operand_of, expression_fits, operand_fits}
use Rattle.format.specs.Description.{Description}
use Rattle.format.specs.declared.Constructor.{Constructor}
use Rattle.lists.proofs.Below.{all-and}
use Rattle.lists.specs.Below.{all_below}
use mathlib.Core.Path.{◌≡◌, sym, ◌∙◌}
use mathlib.Core.Bool.{◌&&◌}
use Prim.Native.Nat.{ℕ}
use Rattle.rules.proofs.operands_ok.Goals as goal

-- the rule of the operands asks both passes
both : (d : Description) (c : Constructor) (n : ℕ)
    → all_below n (operand_fits d c) ≡ (all_below n (place_fits d c) && all_below n (λ o. expression_fits d c (operand_of d c o)))
unfolding operand_fits
both d c n = all-and n (place_fits d c) (λ o. expression_fits d c (operand_of d c o))

pub returns-then-places_fit : goal.returns-then-places_fit
returns-then-places_fit c =
    rw (both _ _ _, sym c.places_fit.ensures ∙ c.if-places_fit.true) c.expressions_fit.ensures

pub returns-else-places_fit : goal.returns-else-places_fit
returns-else-places_fit c = rw (both _ _ _, sym c.places_fit.ensures ∙ c.if-places_fit.false) c.if-places_fit.false
