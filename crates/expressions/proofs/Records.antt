-- The record of an expression: its steps, and what a loop over them knows.
use Prim.Native.Nat.{ℕ, suc, ◌+◌, ◌-◌, ◌*◌, ◌<◌, ◌≤◌}
use mathlib.Core.Bool.{Bool, true, false, ◌&&◌, ◌||◌}
use mathlib.Core.List.{List}
use mathlib.Core.Path.{◌≡◌, refl, sym, ◌∙◌}
use native.Mathlib.Numerals.{add-one}
use native.Mathlib.Omega.{arith}
use borrow.Author.Tests.{eqb-true, leb-true, le-leb, lt-leb, lt-ltb, le-ltb}
use lib.Dec.{leb, ltb, eqb}
use Rattle.lists.specs.Below.{all_below}
use Rattle.lists.proofs.Below.{all_none, all_more, all-stop, all_of}
use Rattle.lists.proofs.Bools.{and_left, and_right, and4}
use Rattle.lists.proofs.Tab.{tab-at}
use Rattle.format.specs.Bytes.{byte_at}
use Rattle.format.specs.Numbers.{most_steps, step_bytes}
use Rattle.format.specs.Expression.{Expression, expression_at, step_at, no_step, step_of, takes, depth_after, step_value_ok, step_ok, steps_ok, rest_empty, writes_expression}
use Rattle.format.specs.declared.Step.{Step}

-- a step of the record at a place
pub step-here : (b : List ℕ) (at i : ℕ) → i < most_steps → step_at b (at + 1 + step_bytes * i) ≡ step_of (expression_at b at) i
unfolding expression_at
step-here b at i h = sym (tab-at (λ i. step_at b (at + 1 + step_bytes * i)) most_steps i no_step h)

pub count-here : (b : List ℕ) (at : ℕ) → byte_at b at ≡ (expression_at b at).count
unfolding expression_at
count-here b at = refl

-- a step that passes finds what it takes
pub enough : (depth : ℕ) (s : Step) → step_ok depth s ≡ true → takes s.kind ≤ depth
unfolding step_ok
enough depth s e = leb-true (takes s.kind) depth (and_right (step_value_ok s) (leb (takes s.kind) depth) e)

module _ (e : Expression) where
  abbrev pub passes : ℕ → Bool
  passes i = step_ok (depth_after e i) (step_of e i)

  -- so many steps have passed, and so many values are on the stack
  pub record Stepping (i depth : ℕ) : Type 0 where
    pub is : depth ≡ depth_after e i
    pub low : depth ≤ i
    pub good : all_below i passes ≡ true

  pub stepping-start : Stepping 0 0
  unfolding depth_after
  stepping-start = record { is = refl; low = omega arith; good = all_none passes }

  pub stepping-more : (i depth taken : ℕ) (s : Step) → Stepping i depth → s ≡ step_of e i → step_ok depth s ≡ true → taken ≡ takes s.kind
      → Stepping (i + 1) (depth + 1 - taken)
  unfolding depth_after
  stepping-more i depth taken s p q ok t =
      let l : taken ≤ depth = omega (arith, enough depth s ok) in
      let m : depth + 1 - taken ≡ suc (depth - taken) = omega arith in
      record {
        is = m ∙ rw (add-one i, ← q, ← t, ← p.is);
        low = omega (arith, p.low);
        good = all_more passes i p.good (rw (← q, ← p.is) ok);
      }

  pub stepping-stop : (i depth : ℕ) (s : Step) → Stepping i depth → s ≡ step_of e i → i < e.count → step_ok depth s ≡ false → false ≡ steps_ok e
  unfolding steps_ok
  stepping-stop i depth s p q h f = rw (all-stop passes e.count i h (rw (← q, ← p.is) f))

  pub stepping-end : (i depth : ℕ) → Stepping i depth → i ≡ e.count → eqb depth 1 ≡ steps_ok e
  unfolding steps_ok
  stepping-end i depth p q = rw (rw q at p.is, rw q at p.good)

  -- a step that does not count is empty
  abbrev pub blank : ℕ → Bool
  blank i = ltb i e.count || (eqb (step_of e i).kind 0 && eqb (step_of e i).value 0)

  pub rest-start : all_below e.count blank ≡ true
  rest-start = all_of blank e.count (λ i h. rw (lt-ltb i e.count h))

  pub blank-is : (i : ℕ) (s : Step) → e.count ≤ i → s ≡ step_of e i → blank i ≡ (eqb s.kind 0 && eqb s.value 0)
  blank-is i s h q = rw (le-ltb i e.count h, q)

  pub rest-stop : (i : ℕ) → i < most_steps → blank i ≡ false → false ≡ rest_empty e
  unfolding rest_empty
  rest-stop i h f = sym (all-stop blank most_steps i h f)

  pub rest_end : (i : ℕ) → i ≡ most_steps → all_below i blank ≡ true → true ≡ rest_empty e
  unfolding rest_empty
  rest_end i q g = sym (rw q at g)

  -- the record's rules, in their order
  pub too_few : e.count < 1 → false ≡ writes_expression e
  unfolding writes_expression
  too_few h = rw (lt-leb 1 e.count h)

  pub too_many : 1 ≤ e.count → most_steps < e.count → false ≡ writes_expression e
  unfolding writes_expression
  too_many p h = rw (le-leb 1 e.count p, lt-leb e.count most_steps h)

  pub steps-wrong : 1 ≤ e.count → e.count ≤ most_steps → steps_ok e ≡ false → false ≡ writes_expression e
  unfolding writes_expression
  steps-wrong p q s = rw (le-leb 1 e.count p, le-leb e.count most_steps q, s)

  pub all-written : 1 ≤ e.count → e.count ≤ most_steps → steps_ok e ≡ true → rest_empty e ≡ writes_expression e
  unfolding writes_expression
  all-written p q s = rw (le-leb 1 e.count p, le-leb e.count most_steps q, s)

  -- what a record that writes an expression has
  pub record Written : Type 0 where
    pub some : 1 ≤ e.count
    pub few : e.count ≤ most_steps
    pub good : all_below e.count passes ≡ true
    pub one : depth_after e e.count ≡ 1

  pub written : writes_expression e ≡ true → Written
  unfolding writes_expression steps_ok
  written p =
      let f = and4 (leb 1 e.count) (leb e.count most_steps) (steps_ok e) (rest_empty e) p in
      record {
        some = leb-true 1 e.count f.0;
        few = leb-true e.count most_steps f.1;
        good = and_left (all_below e.count passes) (eqb (depth_after e e.count) 1) f.2;
        one = eqb-true (depth_after e e.count) 1 (and_right (all_below e.count passes) (eqb (depth_after e e.count) 1) f.2);
      }
