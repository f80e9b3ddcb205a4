-- Laws of the value, for callers: what it depends on, and that it fits.
use Prim.Native.Nat.{ℕ, zero, suc, ◌+◌, ◌-◌, ◌%◌, ◌^◌, ◌<◌, ◌≤◌}
use mathlib.Core.Bool.{Bool, true, false, not, cond}
use mathlib.Core.List.{List, [], ◌∷◌, ◌++◌}
use mathlib.Core.Path.{◌≡◌, refl, sym, ap, ◌∙◌}
use native.Mathlib.Omega.{arith}
use lib.Dec.{eqb}
use lib.IntN.{ℤ, pos}
use lib.ListN.{length, get_or, replicate}
use Rattle.bits.specs.Bits.{is_set}
use Rattle.lists.specs.Below.{all_below}
use Rattle.lists.proofs.Below.{all-at, all_of, all_same}
use Rattle.lists.proofs.Bools.{or_yes}
use Rattle.format.specs.Numbers.{expression_bytes}
use Rattle.format.specs.Expression.{Expression, expression_at, step_of, writes_expression, names_only}
use Rattle.format.specs.declared.Step.{Step}
use Rattle.whole_numbers.specs.Range.{inside}
use Rattle.std.specs.Prelude.{Some, None}
use Rattle.expressions.specs.Value.{Given, given, constant_of, term_of, made_of, step_on, stack_after, top_after, value_of, Usable}
use Rattle.expressions.proofs.Names.{named, names_at, word-numbered}

-- two settings that agree on the addresses and on every operand that is allowed
pub record Alike (allowed : ℕ → Bool) (g h : Given) : Type 0 where
  pub operands : (n : ℕ) → allowed n ≡ true → get_or g.operands (n - 1) (pos 0) ≡ get_or h.operands (n - 1) (pos 0)
  pub here : g.here ≡ h.here
  pub after : g.after ≡ h.after

cond-alike : (t : Bool) (x y z : ℤ) → (t ≡ true → x ≡ y) → cond t x z ≡ cond t y z
cond-alike true x y z f = f refl
cond-alike false x y z f = refl

module _ (allowed : ℕ → Bool) (g h : Given) (a : Alike allowed g h) where
  term-alike : (s : Step) → named allowed s ≡ true → term_of g s ≡ term_of h s
  unfolding term_of
  term-alike s n =
      rw (a.here, a.after)
      (ap (cond (eqb s.kind 0) (constant_of s.value))
      (cond-alike (eqb s.kind 1) (get_or g.operands (s.value - 1) (pos 0)) (get_or h.operands (s.value - 1) (pos 0)) _
      (λ e. a.operands s.value (rw e at n))))

  made_alike : (s : Step) (x y : ℤ) → named allowed s ≡ true → made_of g s x y ≡ made_of h s x y
  unfolding made_of
  made_alike s x y n = rw (term-alike s n)

  stack-alike : (e : Expression) → names_only allowed e ≡ true → (i : ℕ) → i ≤ e.count → stack_after g e i ≡ stack_after h e i
  unfolding stack_after step_on
  stack-alike e n zero l = refl
  stack-alike e n (suc i) l =
      rw (stack-alike e n i (omega arith), made_alike (step_of e i) _ _ (names_at allowed e i n (omega arith)))

  -- the value depends on nothing but the addresses and the operands that are named
  pub value-alike : (e : Expression) → names_only allowed e ≡ true → value_of g e ≡ value_of h e
  unfolding value_of
  value-alike e n =
      rw (
        all_same e.count (λ i. inside (top_after g e (suc i))) (λ i. inside (top_after h e (suc i)))
            (λ i l. rw (stack-alike e n (suc i) l)),
        stack-alike e n e.count (omega arith),
      )

-- zeros behind the operands change nothing
pub zeros-behind : (l : List ℤ) (n k : ℕ) → get_or (l ++ replicate n (pos 0)) k (pos 0) ≡ get_or l k (pos 0)
zeros-behind [] zero k = refl
zeros-behind [] (suc n) zero = refl
zeros-behind [] (suc n) (suc k) = zeros-behind [] n k
zeros-behind (x ∷ l) n zero = refl
zeros-behind (x ∷ l) n (suc k) = zeros-behind l n k

every-name : (e : Expression) → names_only (λ n. true) e ≡ true
unfolding names_only
every-name e = all_of (λ i. named (λ n. true) (step_of e i)) e.count (λ i h. or_yes (not (eqb (step_of e i).kind 1)))

pub value-padded : (operands : List ℤ) (n here after : ℕ) (e : Expression)
    → value_of (given (operands ++ replicate n (pos 0)) here after) e ≡ value_of (given operands here after) e
value-padded operands n here after e =
    value-alike (λ n. true) _ _ (record { operands = λ k t. zeros-behind operands n (k - 1); here = refl; after = refl }) e (every-name e)

-- a value that is given fits
pub value-inside : (g : Given) (e : Expression) (v : ℤ) → 1 ≤ e.count → value_of g e ≡ Some v → inside v ≡ true
unfolding value_of
value-inside g e v h q = go (all_below e.count kept_in) refl q
  where
    kept_in : ℕ → Bool
    kept_in i = inside (top_after g e (suc i))

    go : (t : Bool) → all_below e.count kept_in ≡ t → cond t (Some (top_after g e e.count)) None ≡ Some v → inside v ≡ true
    go true p r =
        let last : suc (e.count - 1) ≡ e.count = omega arith in
        let z : top_after g e e.count ≡ v = cc in
        ap inside (sym z) ∙ (ap (λ k. inside (top_after g e k)) (sym last) ∙ all-at kept_in e.count (e.count - 1) p (omega arith))
    go false p r = let z : ◌≡◌ {A = ℕ} 0 1 = cc in absurd (omega arith)

-- what an evaluation asks, from a word whose bits are the operands that may be named: no bit 0, none above n
pub usable : (b : List ℕ) (at n word : ℕ) → at + expression_bytes ≤ length b → writes_expression (expression_at b at) ≡ true
    → word % 2 ≡ 0 → word < 2 ^ suc n → names_only (is_set word) (expression_at b at) ≡ true → Usable b at n
usable b at n word l w z h p = record { within = l; right = w; names = word-numbered n word (expression_at b at) z h p }
