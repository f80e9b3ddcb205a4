-- Questions over the numbers below n, answered by trying each.
use Rattle.std.specs.Prelude.{ℕ, zero, suc, Bool, true, false, cond, ◌&&◌, ◌||◌, ltb}

-- every number below n passes
unfoldable pub all_below : ℕ → (ℕ → Bool) → Bool
all_below zero ok = true
all_below (suc n) ok = all_below n ok && ok n

-- some number below n passes
unfoldable pub any_below : ℕ → (ℕ → Bool) → Bool
any_below zero ok = false
any_below (suc n) ok = any_below n ok || ok n

-- the first number below n that fails, or n where every one passes
unfoldable pub first_below : ℕ → (ℕ → Bool) → ℕ
first_below zero ok = zero
first_below (suc n) ok = let found = first_below n ok in cond (ltb found n) found (cond (ok n) (suc n) n)
