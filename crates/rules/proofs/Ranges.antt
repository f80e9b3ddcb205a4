-- What `all` over a range of numbers answers.
use Prim.Native.Nat.{ℕ, zero, suc, ◌+◌}
use mathlib.Core.Bool.{Bool, true, false, ◌&&◌}
use mathlib.Core.Path.{◌≡◌, refl, sym, ap, fun_ext, ◌∙◌}
use native.Mathlib.Omega.{arith}
use Rattle.std.specs.List.{list_all, range_with_len}
use Rattle.lists.specs.Below.{all_below}

-- the first number asked first
front : (f : ℕ → Bool) (n : ℕ) → (f 0 && all_below n (λ i. f (suc i))) ≡ all_below (suc n) f
unfolding all_below
front f zero = go (f 0)
  where
    go : (t : Bool) → (t && true) ≡ t
    go true = refl
    go false = refl
front f (suc n) = go (f 0) (all_below n (λ i. f (suc i))) (all_below (suc n) f) (f (suc n)) (front f n)
  where
    go : (s t u v : Bool) → (s && t) ≡ u → (s && (t && v)) ≡ (u && v)
    go true t u v e = ap (λ x. x && v) e
    go false t u v e = ap (λ x. x && v) e

from : (ok : ℕ → Bool) (a n : ℕ) → list_all ok (range_with_len a n) ≡ all_below n (λ i. ok (a + i))
unfolding all_below
from ok a zero = refl
from ok a (suc n) =
    let z : a + 0 ≡ a = omega arith in
    ap (λ t. ok a && t) (from ok (a + 1) n ∙ ap (all_below n) (fun_ext (λ i. ap ok (omega arith))))
    ∙ ap (λ x. ok x && all_below n (λ i. ok (a + suc i))) (sym z)
    ∙ front (λ i. ok (a + i)) n

pub all_in_range : (ok : ℕ → Bool) (n : ℕ) → list_all ok (range_with_len 0 n) ≡ all_below n ok
all_in_range ok n = from ok 0 n ∙ ap (all_below n) (fun_ext (λ i. ap ok (omega arith)))
