-- An evaluation on its way: what the cells of the machine's stack hold.
use Prim.Native.Nat.{ℕ, zero, suc, ◌+◌, ◌-◌, ◌<◌, ◌≤◌}
use mathlib.Core.Bool.{Bool, true, false}
use mathlib.Core.List.{List, [], ◌∷◌, ◌++◌}
use mathlib.Core.Path.{◌≡◌, refl, sym, ap, ◌∙◌}
use native.Mathlib.Numerals.{add-one}
use native.Mathlib.Omega.{arith}
use lib.IntN.{ℤ, pos}
use lib.ListN.{length, get_or, drop, set, replicate, length-drop, length-set}
use lib.Seq.{drop-cons, drop-drop, drop-append-le, drop-set-lt, get_or-drop, get_or-set_same}
use Rattle.lists.specs.Below.{all_below}
use Rattle.lists.proofs.Below.{all_none, all_more, all-stop, all-at}
use Rattle.lists.proofs.Bools.{and_left}
use Rattle.format.specs.Numbers.{most_steps}
use Rattle.format.specs.Expression.{Expression, step_of, takes, depth_after, step_value_ok, step_ok}
use Rattle.format.specs.declared.Step.{Step}
use Rattle.whole_numbers.specs.Range.{inside}
use Rattle.std.specs.Prelude.{Some, None}
use Rattle.expressions.specs.Value.{Given, made_of, step_on, stack_after, top_after, value_of}
use Rattle.expressions.proofs.Records.{Written, passes, enough}

-- the two zero cells below the stack are what the definition reads where it is too short
abbrev under : List ℤ
under = pos 0 ∷ pos 0 ∷ []

padded : (l : List ℤ) (k : ℕ) → get_or (l ++ under) k (pos 0) ≡ get_or l k (pos 0)
padded [] zero = refl
padded [] (suc zero) = refl
padded [] (suc (suc k)) = refl
padded (x ∷ l) zero = refl
padded (x ∷ l) (suc k) = padded l k

-- of any record: the stack is as deep as its check counts
pub stack-length : (g : Given) (e : Expression) (i : ℕ) → length (stack_after g e i) ≡ depth_after e i
unfolding stack_after step_on depth_after
stack-length g e zero = refl
stack-length g e (suc i) = ap suc (length-drop (takes (step_of e i).kind) (stack_after g e i) ∙ rw (stack-length g e i))

depth_low : (e : Expression) (i : ℕ) → depth_after e i ≤ i
unfolding depth_after
depth_low e zero = omega arith
depth_low e (suc i) = omega (arith, depth_low e i)

-- what a record that writes an expression says of each step that counts
pub record Good (e : Expression) (i : ℕ) : Type 0 where
  pub few : i < most_steps
  pub value : step_value_ok (step_of e i) ≡ true
  pub finds : takes (step_of e i).kind ≤ depth_after e i
  pub low : depth_after e i ≤ i

pub good-step : (e : Expression) (i : ℕ) → Written e → i < e.count → Good e i
unfolding step_ok
good-step e i w h =
    let p : passes e i ≡ true = all-at (passes e) e.count i w.good h in
    record {
      few = omega (arith, w.few);
      value = and_left (step_value_ok (step_of e i)) _ p;
      finds = enough (depth_after e i) (step_of e i) p;
      low = depth_low e i;
    }

module _ (g : Given) (e : Expression) where
  abbrev kept_in : ℕ → Bool
  kept_in k = inside (top_after g e (suc k))

  -- the cells from `top` on are the stack after so many steps, and every value on the way was inside
  pub record Running (i : ℕ) (cells : List ℤ) (top : ℕ) : Type 0 where
    pub holds : drop top cells ≡ stack_after g e i ++ under
    pub long : length cells ≡ 18
    pub deep : top + depth_after e i ≡ 16
    pub within : all_below i kept_in ≡ true

  pub running-start : Running 0 (replicate 18 (pos 0)) 16
  unfolding stack_after depth_after
  running-start = record { holds = refl; long = refl; deep = refl; within = all_none kept_in }

  pub running-cell : (i : ℕ) (cells : List ℤ) (top k : ℕ) → Running i cells top → get_or cells (top + k) (pos 0) ≡ get_or (stack_after g e i) k (pos 0)
  running-cell i cells top k r = sym (get_or-drop top cells k (pos 0)) ∙ rw r.holds (padded (stack_after g e i) k)

  -- what a step makes is the next stack's topmost value
  pub running-made : (i : ℕ) (cells : List ℤ) (top : ℕ) (s : Step) → Running i cells top → s ≡ step_of e i
      → made_of g s (get_or cells (top + 1) (pos 0)) (get_or cells top (pos 0)) ≡ top_after g e (suc i)
  unfolding stack_after step_on
  running-made i cells top s r q =
      let z : get_or cells top (pos 0) ≡ get_or (stack_after g e i) 0 (pos 0) = ap (λ k. get_or cells k (pos 0)) (omega arith) ∙ running-cell i cells top 0 r in
      rw (running-cell i cells top 1 r, z, q)

  pub running-step : (i : ℕ) (cells : List ℤ) (top taken : ℕ) (v : ℤ) → Running i cells top → Good e i → taken ≡ takes (step_of e i).kind
      → v ≡ top_after g e (suc i) → inside v ≡ true → Running (i + 1) (set cells (top + taken - 1) v) (top + taken - 1)
  unfolding stack_after step_on depth_after
  running-step i cells top taken v r p t m k =
      let at : ℕ = top + taken - 1 in
      let one : suc at ≡ top + taken = omega (arith, r.deep, p.low, p.few) in
      let small : at < length cells = omega (arith, r.long, r.deep, p.finds) in
      let room : taken ≤ length (stack_after g e i) = omega (arith, p.finds, stack-length g e i) in
      let rest : drop (suc at) cells ≡ drop taken (stack_after g e i) ++ under =
      ap (λ n. drop n cells) one
      ∙ (sym (drop-drop taken top cells) ∙ (ap (drop taken) r.holds ∙ drop-append-le taken (stack_after g e i) under room)) in
      record {
        holds =
            drop-cons (set cells at v) at (pos 0) (rw (length-set cells at v) small)
            ∙ rw (get_or-set_same cells at v (pos 0) small, drop-set-lt (suc at) cells at v (omega arith), rest, add-one i, m, t);
        long = length-set cells at v ∙ r.long;
        deep = rw (add-one i) (omega (arith, r.deep, p.finds));
        within = all_more kept_in i r.within (rw (← m) k);
      }

  pub running-stop : (i : ℕ) (cells : List ℤ) (top : ℕ) → Running i cells top → i < e.count → inside (top_after g e (suc i)) ≡ false → None ≡ value_of g e
  unfolding value_of
  running-stop i cells top r h f = rw (all-stop kept_in e.count i h f)

  pub running-end : (i : ℕ) (cells : List ℤ) (top : ℕ) → Running i cells top → i ≡ e.count → Some (get_or cells top (pos 0)) ≡ value_of g e
  unfolding value_of
  running-end i cells top r q =
      let z : get_or cells top (pos 0) ≡ top_after g e i = ap (λ k. get_or cells k (pos 0)) (omega arith) ∙ running-cell i cells top 0 r in
      rw (rw q at r.within) (ap Some (rw q at z))
