-- What an expression names.
use Prim.Native.Nat.{ℕ, zero, suc, ◌+◌, ◌*◌, ◌%◌, ◌^◌, ◌<◌, ◌≤◌, min}
use mathlib.Core.Bool.{Bool, true, false, not, ◌||◌, false≢true}
use mathlib.Core.List.{List}
use mathlib.Core.Path.{◌≡◌, refl, sym, ◌∙◌}
use native.Mathlib.Nat.{div-eq_of_lt}
use native.Mathlib.Decide.{dec_lt}
use native.Mathlib.Omega.{arith}
use borrow.Author.Tests.{eqb-true, le-leb}
use lib.Dec.{leb, eqb}
use lib.ListN.{get_or-eq_default}
use lib.Pow.{pow_mono}
use Rattle.bits.specs.Bits.{bit, is_set}
use Rattle.lists.specs.Below.{all_below}
use Rattle.lists.proofs.Below.{all-at, all_of, all-stop}
use Rattle.lists.proofs.Bools.{and_both}
use Rattle.lists.proofs.Tab.{tab-length}
use Rattle.format.specs.Numbers.{most_steps, step_bytes}
use Rattle.format.specs.Expression.{Expression, expression_at, step_at, step_of, no_step, names_operand, names_only}
use Rattle.format.specs.declared.Step.{Step}
use Rattle.expressions.specs.Value.{numbered}

-- a bit beyond a word's own is not set
pub beyond : (n word k : ℕ) → word < 2 ^ n → n ≤ k → is_set word k ≡ false
beyond n word k h l =
    let m : word < 2 ^ k = omega (arith, pow_mono {i = n} {j = k} l) in
    rw (div-eq_of_lt m)

abbrev pub named : (ℕ → Bool) → Step → Bool
named allowed s = not (names_operand s) || allowed s.value

-- a step past the last of the record names nothing
past_end : (b : List ℕ) (at i : ℕ) → most_steps ≤ i → step_of (expression_at b at) i ≡ no_step
unfolding expression_at
past_end b at i h =
    get_or-eq_default (expression_at b at).steps no_step (omega (arith, tab-length (λ i. step_at b (at + 1 + step_bytes * i)) most_steps))

-- a loop over the steps that can be there sees every name
pub names-end : (allowed : ℕ → Bool) (b : List ℕ) (at i : ℕ) → i ≡ min (expression_at b at).count most_steps
    → all_below i (λ k. named allowed (step_of (expression_at b at) k)) ≡ true → true ≡ names_only allowed (expression_at b at)
unfolding names_only
names-end allowed b at i q g =
    sym (all_of _ (expression_at b at).count (λ k h. go k h (dec_lt k most_steps)))
  where
    go : (k : ℕ) → k < (expression_at b at).count → Dec (k < most_steps) → named allowed (step_of (expression_at b at) k) ≡ true
    go k h (yes l) = all-at (λ k. named allowed (step_of (expression_at b at) k)) i k g (omega arith)
    go k h (no l) = rw (past_end b at k (omega arith))

pub names-stop : (allowed : ℕ → Bool) (e : Expression) (i : ℕ) → i < e.count → named allowed (step_of e i) ≡ false → false ≡ names_only allowed e
unfolding names_only
names-stop allowed e i h f = sym (all-stop (λ k. named allowed (step_of e k)) e.count i h f)

-- what an expression names, step by step
pub names_at : (allowed : ℕ → Bool) (e : Expression) (i : ℕ) → names_only allowed e ≡ true → i < e.count → named allowed (step_of e i) ≡ true
unfolding names_only
names_at allowed e i n h = all-at (λ k. named allowed (step_of e k)) e.count i n h

-- .. a set within a larger one
pub names-weaker : (f g : ℕ → Bool) (e : Expression) → ((n : ℕ) → f n ≡ true → g n ≡ true) → names_only f e ≡ true → names_only g e ≡ true
unfolding names_only
names-weaker f g e w n =
    all_of (λ k. named g (step_of e k)) e.count
    (λ k h. go (step_of e k) (eqb (step_of e k).kind 1) (all-at (λ k. named f (step_of e k)) e.count k n h))
  where
    go : (s : Step) (t : Bool) → not t || f s.value ≡ true → not t || g s.value ≡ true
    go s true p = w s.value p
    go s false p = refl

-- .. and a word with no bit 0 and none above n: numbers from 1 to n
pub word-numbered : (n word : ℕ) (e : Expression) → word % 2 ≡ 0 → word < 2 ^ suc n → names_only (is_set word) e ≡ true → names_only (numbered n) e ≡ true
word-numbered n word e z h p = names-weaker (is_set word) (numbered n) e (λ k s. go k s (dec_lt n k)) p
  where
    go : (k : ℕ) → is_set word k ≡ true → Dec (n < k) → numbered n k ≡ true
    go k s (yes l) = absurd (false≢true (sym (beyond (suc n) word k h l) ∙ s))
    go zero s (no l) = absurd (omega (arith, eqb-true (bit word 0) 1 s))
    go (suc k) s (no l) = and_both (leb 1 (suc k)) (leb (suc k) n) (le-leb 1 (suc k) (omega arith)) (le-leb (suc k) n (omega arith))
