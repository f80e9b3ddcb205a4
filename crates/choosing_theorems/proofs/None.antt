-- Where no number below n passes.
use Prim.Native.Nat.{ℕ, ◌<◌}
use mathlib.Core.Bool.{Bool, true, false, false≢true}
use mathlib.Core.Path.{◌≡◌, refl, sym, ◌∙◌}
use Rattle.lists.specs.Below.{any_below}
use Rattle.lists.proofs.Below.{any_at, any_found}

module _ (ok : ℕ → Bool) (n : ℕ) where
  pub none-at : any_below n ok ≡ false → (i : ℕ) → i < n → ok i ≡ false
  none-at e i h = go (ok i) refl
    where
      go : (b : Bool) → ok i ≡ b → b ≡ false
      go true q = absurd (false≢true (sym e ∙ any_at ok n i h q))
      go false q = refl

  pub none_of : ((i : ℕ) → i < n → ok i ≡ false) → any_below n ok ≡ false
  none_of f = go (any_below n ok) refl
    where
      go : (b : Bool) → any_below n ok ≡ b → b ≡ false
      go true q = let r = any_found ok n q in absurd (false≢true (sym (f r.0 r.1) ∙ r.2))
      go false q = refl
