-- The bytes of a record are read back as it.
use Prim.Native.Nat.{ℕ, zero, suc, ◌+◌, ◌-◌, ◌*◌, ◌/◌, ◌%◌, ◌^◌, ◌<◌, ◌≤◌}
use mathlib.Core.Bool.{true}
use mathlib.Core.List.{List, [], ◌∷◌, ◌++◌, append_assoc}
use mathlib.Core.Path.{◌≡◌, refl, sym, ap, ◌∙◌}
use native.Mathlib.Nat.{add_assoc}
use native.Mathlib.Omega.{arith}
use borrow.Author.Tests.{ltb-true}
use lib.Dec.{ltb}
use lib.IntN.{pos, negsuc}
use lib.ListN.{length, get_or, replicate, length-append, length-replicate}
use lib.Seq.{get_or-append-add, get_or-append_seam, ext_get_or}
use Rattle.lists.specs.Tab.{tab}
use Rattle.lists.proofs.Bools.{and_left, and_right}
use Rattle.lists.proofs.Tab.{tab-at, tab-length}
use Rattle.format.specs.Numbers.{most_steps, step_bytes, expression_bytes}
use Rattle.format.specs.Expression.{Expression, expression_at, step_at, no_step, writes_expression}
use Rattle.format.specs.declared.Step.{Step}
use Rattle.whole_numbers.proofs.Kept.{inside-mag}
use Rattle.expressions.specs.Value.{Given, value_of}
use Rattle.expressions.specs.Tree.{Term, constant, operand, address, address_after, Operator, plus, minus, times, and, or, xor, Direction, left, right, Tree, leaf, shift, pair, whole_in, term_fits, fits, word_of, term_step, operator_step, shift_step, steps_of, written, word_bytes, bytes_of_step, bytes_of_steps, bytes_of}
use Rattle.expressions.proofs.Trees.{empty-behind, written-value, written-right}

step-long : (s : Step) → length (bytes_of_step s) ≡ step_bytes
unfolding bytes_of_step word_bytes
step-long s = refl

steps-long : (l : List Step) → length (bytes_of_steps l) ≡ step_bytes * length l
unfolding bytes_of_steps
steps-long [] = refl
steps-long (s ∷ l) = length-append (bytes_of_step s) (bytes_of_steps l) ∙ omega (arith, step-long s, steps-long l)

-- what is read behind the first bytes is read in the rest
behind : (xs r : List ℕ) (at : ℕ) → step_at (xs ++ r) (length xs + at) ≡ step_at r at
behind xs r at = simp (add_assoc, get_or-append-add)

-- eight bytes make the number again
first_step : (s : Step) (r : List ℕ) → s.value < 2 ^ 64 → step_at (bytes_of_step s ++ r) 0 ≡ s
unfolding bytes_of_step word_bytes
first_step s r h = ap (λ v. record { kind = s.kind; value = v }) (eight s.value h)
  where
    eight : (v : ℕ) → v < 2 ^ 64 → v % 256 + 256 * (v / 256 % 256) + 65536 * (v / 256 / 256 % 256 + 256 * (v / 256 / 256 / 256 % 256))
        + 4294967296 * (v / 256 / 256 / 256 / 256 % 256 + 256 * (v / 256 / 256 / 256 / 256 / 256 % 256) + 65536 * (v / 256 / 256 / 256 / 256 / 256 / 256 % 256 + 256 * (v / 256 / 256 / 256 / 256 / 256 / 256 / 256 % 256))) ≡ v
    eight v h = omega arith

-- a step that nine bytes hold
pub record Small (s : Step) : Type 0 where
  pub kind : s.kind < 256
  pub value : s.value < 2 ^ 64

-- .. and so for every step of a list
unfoldable pub AllSmall : List Step → Type 0
AllSmall l = (i : ℕ) → Small (get_or l i no_step)

read-steps : (l : List Step) (r : List ℕ) (i : ℕ) → AllSmall l → i < length l → step_at (bytes_of_steps l ++ r) (step_bytes * i) ≡ get_or l i no_step
unfolding AllSmall bytes_of_steps
read-steps [] r i m h = absurd (omega arith)
read-steps (s ∷ l) r zero m h = rw (append_assoc (bytes_of_step s) (bytes_of_steps l) r) (first_step s (bytes_of_steps l ++ r) (m 0).value)
read-steps (s ∷ l) r (suc i) m h =
    let q : step_bytes * suc i ≡ length (bytes_of_step s) + step_bytes * i = omega (arith, step-long s) in
    rw (append_assoc (bytes_of_step s) (bytes_of_steps l) r, q)
    (behind (bytes_of_step s) (bytes_of_steps l ++ r) (step_bytes * i) ∙ read-steps l r i (λ k. m (suc k)) (omega arith))

-- wherever the record's bytes stand
pub bytes_read : (before r : List ℕ) (e : Expression) → length e.steps ≡ most_steps → AllSmall e.steps
    → expression_at (before ++ (bytes_of e ++ r)) (length before) ≡ e
unfolding expression_at bytes_of
bytes_read before r e n m =
    rw (get_or-append_seam before e.count (bytes_of_steps e.steps ++ r) 0, ext_get_or no_step (tab read most_steps) e.steps (tab-length read most_steps ∙ sym n) same_step)
  where
    rest : List ℕ
    rest = e.count ∷ (bytes_of_steps e.steps ++ r)

    read : ℕ → Step
    read i = step_at (before ++ rest) (length before + 1 + step_bytes * i)

    same_step : (i : ℕ) → i < length (tab read most_steps) → get_or (tab read most_steps) i no_step ≡ get_or e.steps i no_step
    same_step i h =
        let l : i < most_steps = omega (arith, tab-length read most_steps) in
        tab-at read most_steps i no_step l
        ∙ (ap (step_at (before ++ rest)) (add_assoc (length before) 1 (step_bytes * i))
        ∙ (behind before rest (1 + step_bytes * i)
        ∙ (behind (e.count ∷ []) (bytes_of_steps e.steps ++ r) (step_bytes * i) ∙ read-steps e.steps r i m (omega arith))))

-- they are bytes
word_small : (n x i : ℕ) → get_or (word_bytes n x) i 0 < 256
unfolding word_bytes
word_small zero x i = omega arith
word_small (suc n) x zero = omega arith
word_small (suc n) x (suc i) = word_small n (x / 256) i

step_small : (s : Step) (i : ℕ) → Small s → get_or (bytes_of_step s) i 0 < 256
unfolding bytes_of_step
step_small s zero m = m.kind
step_small s (suc i) m = word_small 8 s.value i

append-small : (xs ys : List ℕ) → ((i : ℕ) → get_or xs i 0 < 256) → ((i : ℕ) → get_or ys i 0 < 256) → (i : ℕ) → get_or (xs ++ ys) i 0 < 256
append-small [] ys f g i = g i
append-small (x ∷ xs) ys f g zero = f 0
append-small (x ∷ xs) ys f g (suc i) = append-small xs ys (λ k. f (suc k)) g i

steps-small : (l : List Step) → AllSmall l → (i : ℕ) → get_or (bytes_of_steps l) i 0 < 256
unfolding AllSmall bytes_of_steps
steps-small [] m i = omega arith
steps-small (s ∷ l) m i =
    append-small (bytes_of_step s) (bytes_of_steps l) (λ k. step_small s k (m 0)) (steps-small l (λ k. m (suc k))) i

pub bytes_small : (e : Expression) → e.count < 256 → AllSmall e.steps → (i : ℕ) → get_or (bytes_of e) i 0 < 256
unfolding bytes_of
bytes_small e h m zero = h
bytes_small e h m (suc i) = steps-small e.steps m i

pub bytes-long : (e : Expression) → length e.steps ≡ most_steps → length (bytes_of e) ≡ expression_bytes
unfolding bytes_of
bytes-long e n = omega (arith, steps-long e.steps)

-- a tree's steps are held
one-small : (s : Step) → Small s → AllSmall (s ∷ [])
unfolding AllSmall
one-small s m zero = m
one-small s m (suc i) = record { kind = omega arith; value = omega arith }

join-small : (xs ys : List Step) → AllSmall xs → AllSmall ys → AllSmall (xs ++ ys)
unfolding AllSmall
join-small [] ys f g i = g i
join-small (x ∷ xs) ys f g zero = f 0
join-small (x ∷ xs) ys f g (suc i) = join-small xs ys (λ k. f (suc k)) g i

term-small : (t : Term) → term_fits t ≡ true → Small (term_step t)
unfolding term_step term_fits word_of
term-small (constant (pos n)) f = record { kind = omega arith; value = omega (arith, inside-mag (pos n) f) }
term-small (constant (negsuc n)) f = record { kind = omega arith; value = omega arith }
term-small (operand n) f = record { kind = omega arith; value = omega (arith, ltb-true n 256 f) }
term-small address f = record { kind = omega arith; value = omega arith }
term-small address_after f = record { kind = omega arith; value = omega arith }

operator-small : (o : Operator) → Small (operator_step o)
unfolding operator_step
operator-small plus = record { kind = omega arith; value = omega arith }
operator-small minus = record { kind = omega arith; value = omega arith }
operator-small times = record { kind = omega arith; value = omega arith }
operator-small and = record { kind = omega arith; value = omega arith }
operator-small or = record { kind = omega arith; value = omega arith }
operator-small xor = record { kind = omega arith; value = omega arith }

shift_small : (d : Direction) (k : ℕ) → k < 64 → Small (shift_step d k)
unfolding shift_step
shift_small left k h = record { kind = omega arith; value = omega arith }
shift_small right k h = record { kind = omega arith; value = omega arith }

tree-small : (t : Tree) → fits t ≡ true → AllSmall (steps_of t)
unfolding fits steps_of
tree-small (leaf t) f = one-small (term_step t) (term-small t f)
tree-small (shift d k t) f =
    join-small (steps_of t) (shift_step d k ∷ []) (tree-small t (and_right (ltb k 64) (fits t) f))
    (one-small (shift_step d k) (shift_small d k (ltb-true k 64 (and_left (ltb k 64) (fits t) f))))
tree-small (pair o a b) f =
    join-small (steps_of a) (steps_of b ++ (operator_step o ∷ [])) (tree-small a (and_left (fits a) (fits b) f))
    (join-small (steps_of b) (operator_step o ∷ []) (tree-small b (and_right (fits a) (fits b) f)) (one-small (operator_step o) (operator-small o)))

written_small : (t : Tree) → fits t ≡ true → AllSmall (written t).steps
unfolding written AllSmall
written_small t f =
    join-small (steps_of t) (replicate (most_steps - length (steps_of t)) no_step) (tree-small t f)
    (λ i. rw (empty-behind (most_steps - length (steps_of t)) i) (record { kind = omega arith; value = omega arith }))

written-long : (t : Tree) → length (steps_of t) ≤ most_steps → length (written t).steps ≡ most_steps
unfolding written
written-long t h =
    length-append (steps_of t) (replicate (most_steps - length (steps_of t)) no_step)
    ∙ omega (arith, length-replicate (most_steps - length (steps_of t)) no_step)

written-few : (t : Tree) → length (steps_of t) ≤ most_steps → (written t).count < 256
unfolding written
written-few t h = omega arith

-- these bytes, wherever they stand, write the tree
pub record Writes (t : Tree) (b : List ℕ) : Type 0 where
  pub long : length b ≡ expression_bytes
  pub bytes : (i : ℕ) → get_or b i 0 < 256
  pub right : (before r : List ℕ) → writes_expression (expression_at (before ++ (b ++ r)) (length before)) ≡ true
  pub value : (g : Given) (before r : List ℕ) → value_of g (expression_at (before ++ (b ++ r)) (length before)) ≡ whole_in g t

-- "docs/ fixes their record, in which every such expression can be written, with any signed 64-bit constant"
pub every-expression : (t : Tree) → fits t ≡ true → length (steps_of t) ≤ most_steps → Writes t (bytes_of (written t))
every-expression t f h =
    let n = written-long t h in
    let m = written_small t f in
    record {
      long = bytes-long (written t) n;
      bytes = bytes_small (written t) (written-few t h) m;
      right = λ before r. rw (bytes_read before r (written t) n m) (written-right t f h);
      value = λ g before r. rw (bytes_read before r (written t) n m) (written-value g t f);
    }
