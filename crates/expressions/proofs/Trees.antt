-- "docs/ fixes their record, in which every such expression can be written": the record of a tree writes an expression, and has the tree's value.
use Prim.Native.Nat.{ℕ, zero, suc, ◌+◌, ◌-◌, ◌^◌, ◌<◌, ◌≤◌}
use mathlib.Core.Bool.{Bool, true, false, ◌&&◌}
use mathlib.Core.List.{List, [], ◌∷◌, ◌++◌}
use mathlib.Core.Path.{◌≡◌, refl, sym, ap, ◌∙◌}
use native.Mathlib.Nat.{add_assoc, zero-add, add-zero}
use native.Mathlib.Numerals.{add-one}
use native.Mathlib.Decide.{dec_lt}
use native.Mathlib.Omega.{arith}
use borrow.Author.Tests.{lt-ltb, le-ltb, le-leb, eq-eqb}
use lib.Dec.{leb, ltb, eqb}
use lib.IntN.{ℤ, pos, negsuc}
use lib.ListN.{length, get_or, drop, replicate, length-append, get_or-append}
use lib.Seq.{get_or-append-add}
use Rattle.lists.specs.Below.{all_below}
use Rattle.lists.proofs.Below.{all_none, all_of}
use Rattle.lists.proofs.Bools.{and_left, and_right, and_both, or_yes}
use Rattle.format.specs.Numbers.{most_steps}
use Rattle.format.specs.Expression.{Expression, no_step, step_of, takes, depth_after, step_value_ok, step_ok, steps_ok, rest_empty, writes_expression}
use Rattle.format.specs.declared.Step.{Step}
use Rattle.whole_numbers.specs.Range.{inside}
use Rattle.whole_numbers.proofs.Kept.{inside-mag}
use Rattle.expressions.specs.Value.{Given, given, constant_of, term_of, operator_of, made_of, step_on, stack_after, top_after, value_of}
use Rattle.expressions.specs.Tree.{Term, constant, operand, address, address_after, Operator, plus, minus, times, and, or, xor, Direction, left, right, Tree, leaf, shift, pair, term_in, applied, shifted, value_in, inside_in, whole_in, term_fits, fits, word_of, term_step, operator_step, shift_step, steps_of, written}
use Rattle.expressions.proofs.Records.{passes, blank, all-written}
use Rattle.expressions.proofs.Running.{stack-length}

-- a constant read back from its word
pub word_back : (z : ℤ) → inside z ≡ true → constant_of (word_of z) ≡ z
unfolding constant_of word_of
word_back (pos n) e = rw (lt-ltb n (2 ^ 63) (inside-mag (pos n) e))
word_back (negsuc n) e =
    let h : n < 2 ^ 63 = inside-mag (negsuc n) e in
    rw (le-ltb (2 ^ 64 - suc n) (2 ^ 63) (omega arith), lt-ltb (2 ^ 64 - suc n) (2 ^ 64) (omega arith)) (ap negsuc (omega arith))

-- what each step makes
term_made : (g : Given) (t : Term) (x y : ℤ) → term_fits t ≡ true → made_of g (term_step t) x y ≡ term_in g t
unfolding made_of term_of term_step term_in term_fits
term_made g (constant z) x y f = word_back z f
term_made g (operand n) x y f = refl
term_made g address x y f = refl
term_made g address_after x y f = refl

operator-made : (g : Given) (o : Operator) (x y : ℤ) → made_of g (operator_step o) x y ≡ applied o x y
unfolding made_of operator_of operator_step applied
operator-made g plus x y = refl
operator-made g minus x y = refl
operator-made g times x y = refl
operator-made g and x y = refl
operator-made g or x y = refl
operator-made g xor x y = refl

shift_made : (g : Given) (d : Direction) (k : ℕ) (x y : ℤ) → made_of g (shift_step d k) x y ≡ shifted d k y
unfolding made_of operator_of shift_step shifted
shift_made g left k x y = refl
shift_made g right k x y = refl

-- .. and takes; its value is one that its kind can have
term-takes : (t : Term) → takes (term_step t).kind ≡ 0
unfolding term_step
term-takes (constant z) = refl
term-takes (operand n) = refl
term-takes address = refl
term-takes address_after = refl

operator-takes : (o : Operator) → takes (operator_step o).kind ≡ 2
unfolding operator_step
operator-takes plus = refl
operator-takes minus = refl
operator-takes times = refl
operator-takes and = refl
operator-takes or = refl
operator-takes xor = refl

shift-takes : (d : Direction) (k : ℕ) → takes (shift_step d k).kind ≡ 1
unfolding shift_step
shift-takes left k = refl
shift-takes right k = refl

term-ok : (t : Term) → term_fits t ≡ true → step_value_ok (term_step t) ≡ true
unfolding term_step term_fits step_value_ok
term-ok (constant z) f = refl
term-ok (operand n) f = rw f
term-ok address f = refl
term-ok address_after f = refl

operator-ok : (o : Operator) → step_value_ok (operator_step o) ≡ true
unfolding operator_step step_value_ok
operator-ok plus = refl
operator-ok minus = refl
operator-ok times = refl
operator-ok and = refl
operator-ok or = refl
operator-ok xor = refl

shift-ok : (d : Direction) (k : ℕ) → ltb k 64 ≡ true → step_value_ok (shift_step d k) ≡ true
unfolding shift_step step_value_ok
shift-ok left k f = rw f
shift-ok right k f = rw f

and_assoc : (a b c : Bool) → (a && b && c) ≡ (a && (b && c))
and_assoc true b c = refl
and_assoc false b c = refl

and-assoc3 : (a b c d : Bool) → (a && b && c && d) ≡ (a && (b && c && d))
and-assoc3 true b c d = refl
and-assoc3 false b c d = refl

-- so many steps from step i on are these
Stands : Expression → ℕ → List Step → Type 0
Stands e i l = (k : ℕ) → k < length l → step_of e (i + k) ≡ get_or l k no_step

module _ (e : Expression) (i : ℕ) where
  stands-first : (xs ys : List Step) → Stands e i (xs ++ ys) → Stands e i xs
  unfolding Stands
  stands-first xs ys s k h = s k (rw (length-append xs ys) (omega arith)) ∙ get_or-append xs ys no_step k h

  stands-then : (xs ys : List Step) → Stands e i (xs ++ ys) → Stands e (i + length xs) ys
  unfolding Stands
  stands-then xs ys s k h =
      rw (add_assoc i (length xs) k) (s (length xs + k) (rw (length-append xs ys) (omega arith)) ∙ get_or-append-add xs ys k no_step)

  stands_one : (s : Step) → Stands e i (s ∷ []) → step_of e i ≡ s
  unfolding Stands
  stands_one s f = ap (step_of e) (sym (add-zero i)) ∙ f 0 (omega arith)

module _ (g : Given) (e : Expression) where
  abbrev kept_in : ℕ → Bool
  kept_in k = inside (top_after g e (suc k))

  -- the steps from i up to j leave a tree's value on the stack; every value of theirs was inside where every one in the tree is; and they pass
  record Ran (i j : ℕ) (t : Tree) : Type 0 where
    stack : stack_after g e j ≡ value_in g t ∷ stack_after g e i
    within : all_below j kept_in ≡ (all_below i kept_in && inside_in g t)
    good : all_below i (passes e) ≡ true → all_below j (passes e) ≡ true

  -- one value more on the stack is one more that its check counts
  ran-depth : (i j : ℕ) (t : Tree) → Ran i j t → depth_after e j ≡ suc (depth_after e i)
  ran-depth i j t r = sym (stack-length g e j) ∙ (ap length r.stack ∙ ap suc (stack-length g e i))

  pass : (j : ℕ) (s : Step) → step_of e j ≡ s → step_value_ok s ≡ true → takes s.kind ≤ depth_after e j → passes e j ≡ true
  unfolding step_ok
  pass j s q v h = rw q (and_both (step_value_ok s) (leb (takes s.kind) (depth_after e j)) v (le-leb (takes s.kind) (depth_after e j) h))

  -- one step on a stack
  step-stack : (j : ℕ) (s : Step) (v : ℤ) (below above : List ℤ) → step_of e j ≡ s → stack_after g e j ≡ above
      → made_of g s (get_or above 1 (pos 0)) (get_or above 0 (pos 0)) ≡ v → drop (takes s.kind) above ≡ below → stack_after g e (suc j) ≡ v ∷ below
  unfolding stack_after step_on
  step-stack j s v below above q a m d = rw (q, a, m, d)

  -- its value joins those on the way
  step-within : (j : ℕ) (v : ℤ) (below : List ℤ) → stack_after g e (suc j) ≡ v ∷ below → all_below (suc j) kept_in ≡ (all_below j kept_in && inside v)
  unfolding all_below
  step-within j v below s = rw s

  ran-leaf : (i : ℕ) (t : Term) → term_fits t ≡ true → step_of e i ≡ term_step t → Ran i (suc i) (leaf t)
  unfolding value_in inside_in all_below
  ran-leaf i t f q =
      let s = step-stack i (term_step t) (term_in g t) (stack_after g e i) (stack_after g e i) q refl (term_made g t _ _ f) (rw (term-takes t)) in
      record {
        stack = s;
        within = step-within i (term_in g t) (stack_after g e i) s;
        good = λ p. and_both (all_below i (passes e)) (passes e i) p (pass i (term_step t) q (term-ok t f) (rw (term-takes t) (omega arith)));
      }

  ran-shift : (i j : ℕ) (d : Direction) (k : ℕ) (t : Tree) → ltb k 64 ≡ true → Ran i j t → step_of e j ≡ shift_step d k → Ran i (suc j) (shift d k t)
  unfolding value_in inside_in all_below
  ran-shift i j d k t f r q =
      let v = shifted d k (value_in g t) in
      let s = step-stack j (shift_step d k) v (stack_after g e i) (value_in g t ∷ stack_after g e i) q r.stack (shift_made g d k _ _) (rw (shift-takes d k)) in
      record {
        stack = s;
        within = step-within j v (stack_after g e i) s ∙ rw r.within (and_assoc (all_below i kept_in) (inside_in g t) (inside v));
        good = λ p. and_both (all_below j (passes e)) (passes e j) (r.good p) (pass j (shift_step d k) q (shift-ok d k f) (rw (shift-takes d k, ran-depth i j t r) (omega arith)));
      }

  ran-pair : (i j k : ℕ) (o : Operator) (a b : Tree) → Ran i j a → Ran j k b → step_of e k ≡ operator_step o → Ran i (suc k) (pair o a b)
  unfolding value_in inside_in all_below
  ran-pair i j k o a b r w q =
      let v = applied o (value_in g a) (value_in g b) in
      let two : stack_after g e k ≡ value_in g b ∷ value_in g a ∷ stack_after g e i = w.stack ∙ rw r.stack in
      let s = step-stack k (operator_step o) v (stack_after g e i) (value_in g b ∷ value_in g a ∷ stack_after g e i) q two (operator-made g o _ _) (rw (operator-takes o)) in
      record {
        stack = s;
        within =
            step-within k v (stack_after g e i) s
            ∙ rw (w.within, r.within) (and-assoc3 (all_below i kept_in) (inside_in g a) (inside_in g b) (inside v));
        good = λ p. and_both (all_below k (passes e)) (passes e k) (w.good (r.good p)) (pass k (operator_step o) q (operator-ok o) (rw (operator-takes o, ran-depth j k b w, ran-depth i j a r) (omega arith)));
      }

  ran : (t : Tree) (i : ℕ) → fits t ≡ true → Stands e i (steps_of t) → Ran i (i + length (steps_of t)) t
  unfolding fits steps_of
  ran (leaf t) i f s = rw (add-one i) (ran-leaf i t f (stands_one e i (term_step t) s))
  ran (shift d k t) i f s =
      let xs = steps_of t in
      let ys = shift_step d k ∷ [] in
      let q : i + length (xs ++ ys) ≡ suc (i + length xs) = rw (length-append xs ys) (omega arith) in
      rw q
      (ran-shift i (i + length xs) d k t (and_left (ltb k 64) (fits t) f)
      (ran t i (and_right (ltb k 64) (fits t) f) (stands-first e i xs ys s))
      (stands_one e (i + length xs) (shift_step d k) (stands-then e i xs ys s)))
  ran (pair o a b) i f s =
      let xs = steps_of a in
      let ys = steps_of b in
      let zs = operator_step o ∷ [] in
      let q : i + length (xs ++ (ys ++ zs)) ≡ suc (i + length xs + length ys) = rw (length-append xs (ys ++ zs), length-append ys zs) (omega arith) in
      let u = stands-then e i xs (ys ++ zs) s in
      rw q
      (ran-pair i (i + length xs) (i + length xs + length ys) o a b
      (ran a i (and_left (fits a) (fits b) f) (stands-first e i xs (ys ++ zs) s))
      (ran b (i + length xs) (and_right (fits a) (fits b) f) (stands-first e (i + length xs) ys zs u))
      (stands_one e (i + length xs + length ys) (operator_step o) (stands-then e (i + length xs) ys zs u)))

-- the steps of a tree stand at the front of its record ..
written_stands : (t : Tree) → Stands (written t) 0 (steps_of t)
unfolding Stands written
written_stands t k h = rw (zero-add k) (get_or-append (steps_of t) (replicate (most_steps - length (steps_of t)) no_step) no_step k h)

-- .. and behind them there are empty ones
pub empty-behind : (n k : ℕ) → get_or (replicate n no_step) k no_step ≡ no_step
empty-behind zero k = refl
empty-behind (suc n) zero = refl
empty-behind (suc n) (suc k) = empty-behind n k

written-rest : (t : Tree) (k : ℕ) → length (steps_of t) ≤ k → step_of (written t) k ≡ no_step
unfolding written
written-rest t k h =
    let rest = replicate (most_steps - length (steps_of t)) no_step in
    let q : k ≡ length (steps_of t) + (k - length (steps_of t)) = omega arith in
    ap (λ n. get_or (steps_of t ++ rest) n no_step) q
    ∙ (get_or-append-add (steps_of t) rest (k - length (steps_of t)) no_step ∙ empty-behind (most_steps - length (steps_of t)) (k - length (steps_of t)))

some-steps : (t : Tree) → 1 ≤ length (steps_of t)
unfolding steps_of
some-steps (leaf t) = omega arith
some-steps (shift d k t) = rw (length-append (steps_of t) (shift_step d k ∷ [])) (omega arith)
some-steps (pair o a b) = rw (length-append (steps_of a) (steps_of b ++ (operator_step o ∷ []))) (omega (arith, some-steps a))

ran-written : (g : Given) (t : Tree) → fits t ≡ true → Ran g (written t) 0 (written t).count t
unfolding written
ran-written g t f = rw (zero-add (length (steps_of t))) at (ran g (written t) t 0 f (written_stands t))

-- the value is the tree's
pub written-value : (g : Given) (t : Tree) → fits t ≡ true → value_of g (written t) ≡ whole_in g t
unfolding value_of whole_in
written-value g t f =
    let r = ran-written g t f in
    rw (r.within, r.stack, all_none (kept_in g (written t)))

-- the record writes an expression
written-steps : (t : Tree) → fits t ≡ true → steps_ok (written t) ≡ true
unfolding steps_ok depth_after
written-steps t f =
    let e = written t in
    let r = ran-written (given [] 0 0) t f in
    and_both (all_below e.count (passes e)) (eqb (depth_after e e.count) 1) (r.good (all_none (passes e)))
    (eq-eqb (depth_after e e.count) 1 (ran-depth (given [] 0 0) e 0 e.count t r))

written-blank : (t : Tree) (k : ℕ) → Dec (k < length (steps_of t)) → blank (written t) k ≡ true
unfolding written
written-blank t k (yes l) = rw (lt-ltb k (length (steps_of t)) l)
written-blank t k (no l) = rw (written-rest t k (omega arith)) (or_yes (ltb k (length (steps_of t))))

written-empty : (t : Tree) → rest_empty (written t) ≡ true
unfolding rest_empty
written-empty t = all_of (blank (written t)) most_steps (λ k h. written-blank t k (dec_lt k (length (steps_of t))))

pub written-right : (t : Tree) → fits t ≡ true → length (steps_of t) ≤ most_steps → writes_expression (written t) ≡ true
unfolding written
written-right t f h = sym (all-written (written t) (some-steps t) h (written-steps t f)) ∙ written-empty t
