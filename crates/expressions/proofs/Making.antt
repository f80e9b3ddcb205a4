-- What a step makes.
use Prim.Native.Nat.{ℕ, suc, ◌-◌, ◌^◌, ◌<◌, ◌≤◌}
use mathlib.Core.Bool.{true, ◌&&◌}
use mathlib.Core.Path.{◌≡◌}
use native.Mathlib.Decide.{dec_lt}
use native.Mathlib.Omega.{arith}
use borrow.Author.Tests.{lt-ltb, le-ltb, ltb-true, ne_eqb}
use lib.Dec.{ltb, leb}
use lib.IntN.{ℤ, pos, ◌+ℤ◌, ◌-ℤ◌, ◌*ℤ◌}
use lib.ListN.{get_or}
use mir.Syntax.{w64}
use mir.Val.{SFits, to_z}
use Rattle.std.specs.Prelude.{Result, Ok, Err, Some, None, OkIff}
use Rattle.std.specs.Result.{result_ok}
use Rattle.lists.proofs.Bools.{and_left, and_right}
use Rattle.format.specs.Expression.{first_operator, first_shift, step_value_ok}
use Rattle.format.specs.declared.Step.{Step}
use Rattle.whole_numbers.specs.Range.{kept}
use Rattle.whole_numbers.specs.Operators.{and_z, or_z, xor_z, left_z, right_z}
use Rattle.whole_numbers.proofs.Kept.{checked}
use Rattle.expressions.specs.Value.{Given, constant_of, term_of, operator_of, made_of}

-- a constant's word, read by the machine
constant-above : (word : ℕ) → word < 2 ^ 63 → to_z w64 word ≡ constant_of word
unfolding constant_of
constant-above word h = rw (lt-ltb word (2 ^ 63) h)

constant-below : (word : ℕ) → 2 ^ 63 ≤ word → word < 2 ^ 64 → to_z w64 word ≡ constant_of word
unfolding constant_of
constant-below word h l = rw (le-ltb word (2 ^ 63) h, lt-ltb word (2 ^ 64) l)

pub constant-word : (word : ℕ) → word < 2 ^ 64 → to_z w64 word ≡ constant_of word
constant-word word h = go (dec_lt word (2 ^ 63))
  where
    go : Dec (word < 2 ^ 63) → to_z w64 word ≡ constant_of word
    go (yes p) = constant-above word p
    go (no p) = constant-below word (omega arith) h

-- a conversion that can fail gives what is kept
pub converted : {E : Type 0} (r : Result ℤ E) (z : ℤ) → OkIff r (SFits w64 z) z → result_ok r ≡ kept z
converted (Ok x) z h = checked (Some x) z h
converted (Err e) z h = checked None z h

module _ (g : Given) (s : Step) where
  pub is-constant : s.kind ≡ 0 → term_of g s ≡ constant_of s.value
  unfolding term_of
  is-constant e = rw e

  pub is-operand : s.kind ≡ 1 → term_of g s ≡ get_or g.operands (s.value - 1) (pos 0)
  unfolding term_of
  is-operand e = rw e

  pub is-here : s.kind ≡ 2 → term_of g s ≡ pos g.here
  unfolding term_of
  is-here e = rw e

  pub is-after : (s.kind ≡ 0 → ⊥) → (s.kind ≡ 1 → ⊥) → (s.kind ≡ 2 → ⊥) → term_of g s ≡ pos g.after
  unfolding term_of
  is-after p q r = rw (ne_eqb s.kind 0 p, ne_eqb s.kind 1 q, ne_eqb s.kind 2 r)

  pub made-term : (x y : ℤ) → s.kind < first_operator → term_of g s ≡ made_of g s x y
  unfolding made_of
  made-term x y h = rw (lt-ltb s.kind first_operator h)

  pub made-operator : (x y : ℤ) → first_operator ≤ s.kind → operator_of s x y ≡ made_of g s x y
  unfolding made_of
  made-operator x y h = rw (le-ltb s.kind first_operator h)

module _ (s : Step) (x y : ℤ) where
  pub is-plus : s.kind ≡ 4 → x +ℤ y ≡ operator_of s x y
  unfolding operator_of
  is-plus e = rw e

  pub is-minus : s.kind ≡ 5 → x -ℤ y ≡ operator_of s x y
  unfolding operator_of
  is-minus e = rw e

  pub is-times : s.kind ≡ 6 → x *ℤ y ≡ operator_of s x y
  unfolding operator_of
  is-times e = rw e

  pub is-and : s.kind ≡ 7 → and_z x y ≡ operator_of s x y
  unfolding operator_of
  is-and e = rw e

  pub is-or : s.kind ≡ 8 → or_z x y ≡ operator_of s x y
  unfolding operator_of
  is-or e = rw e

  pub is-xor : s.kind ≡ 9 → xor_z x y ≡ operator_of s x y
  unfolding operator_of
  is-xor e = rw e

  pub is-left : s.kind ≡ 10 → left_z y s.value ≡ operator_of s x y
  unfolding operator_of
  is-left e = rw e

  pub is_right : s.kind ≡ 11 → right_z y s.value ≡ operator_of s x y
  unfolding operator_of
  is_right e = rw e

-- a shift that passes is below 64, and there are two
pub shift_small : (s : Step) → step_value_ok s ≡ true → first_shift ≤ s.kind → (s.kind < 12) × (s.value < 64)
unfolding step_value_ok
shift_small s e h =
    let f : leb first_shift s.kind && ltb s.kind 12 && ltb s.value 64 ≡ true =
    rw (ne_eqb s.kind 0 (λ z. omega arith), ne_eqb s.kind 1 (λ z. omega arith), lt-ltb 1 s.kind (omega arith), le-ltb s.kind first_shift h) at e in
    let k = leb first_shift s.kind && ltb s.kind 12 in (
      ltb-true s.kind 12 (and_right (leb first_shift s.kind) (ltb s.kind 12) (and_left k (ltb s.value 64) f)),
      ltb-true s.value 64 (and_right k (ltb s.value 64) f),
    )

-- the last kind, where it is none of the others
past : (n k : ℕ) → n ≤ k → (k ≡ n → ⊥) → suc n ≤ k
past n k h f = omega arith

pub last-kind : (k : ℕ) → 4 ≤ k → (k ≡ 4 → ⊥) → (k ≡ 5 → ⊥) → (k ≡ 6 → ⊥) → (k ≡ 7 → ⊥) → (k ≡ 8 → ⊥) → (k ≡ 9 → ⊥) → (k ≡ 10 → ⊥) → 11 ≤ k
last-kind k h a b c d e f g =
    past 10 k (past 9 k (past 8 k (past 7 k (past 6 k (past 5 k (past 4 k h a) b) c) d) e) f) g
