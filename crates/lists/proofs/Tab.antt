-- Laws of tab.
use Prim.Native.Nat.{ℕ, zero, suc, ◌+◌, ◌<◌}
use mathlib.Core.Path.{◌≡◌, refl, ap, ◌∙◌}
use native.Mathlib.Omega.{arith}
use lib.ListN.{length, get_or}
use Rattle.lists.specs.Tab.{tab_from, tab}

module _ {A : Type 0} (f : ℕ → A) where
  tab_from-length : (n i : ℕ) → length (tab_from f n i) ≡ n
  unfolding tab_from
  tab_from-length zero i = refl
  tab_from-length (suc n) i = ap suc (tab_from-length n (suc i))

  tab_from-at : (n i k : ℕ) (d : A) → k < n → get_or (tab_from f n i) k d ≡ f (i + k)
  unfolding tab_from
  tab_from-at zero i k d h = absurd (omega arith)
  tab_from-at (suc n) i zero d h = ap f (omega arith)
  tab_from-at (suc n) i (suc k) d h = tab_from-at n (suc i) k d (omega arith) ∙ ap f (omega arith)

  pub tab-length : (n : ℕ) → length (tab f n) ≡ n
  tab-length n = tab_from-length n 0

  -- the element at an index is the function's value there
  pub tab-at : (n k : ℕ) (d : A) → k < n → get_or (tab f n) k d ≡ f k
  tab-at n k d h = tab_from-at n 0 k d h ∙ ap f (omega arith)
