-- A list made from a function of the index.
use Rattle.std.specs.Prelude.{ℕ, zero, suc, List, [], ◌∷◌}

-- f i, f (i + 1), .. : n elements
unfoldable pub tab_from : {A : Type 0} → (ℕ → A) → ℕ → ℕ → List A
tab_from f zero i = []
tab_from f (suc n) i = f i ∷ tab_from f n (suc i)

-- f 0, .., f (n - 1)
abbrev pub tab : {A : Type 0} → (ℕ → A) → ℕ → List A
tab f n = tab_from f n 0
