-- An instruction with its rows, taken apart: the tree, and what stands in the scratch.
use Prim.Native.Nat.{ℕ, ◌+◌, ◌*◌, ◌≤◌}
use mathlib.Core.Bool.{Bool}
use mathlib.Core.List.{List, [], ◌∷◌, ◌++◌}
use mathlib.Core.Path.{◌≡◌, refl, sym, ap, ◌∙◌}
use native.Mathlib.Omega.{arith}
use lib.IntN.{pos}
use lib.ListN.{length, take, replicate}
use lib.Seq.{take_at}
use Rattle.format.specs.Numbers.{most_rows}
use Rattle.format.specs.Description.{Description, description}
use Rattle.format.specs.declared.Layout.{Layout}
use Rattle.decoding_spec.specs.Tree.{Row, Node, Nodes, built, numbered, named, computed, none, more, rows_of, rows_of_all}
use Rattle.decoding_spec.specs.Walk.{Result, done, refused}
use Rattle.decoding_spec.specs.Instruction.{instruction_of}
use Rattle.decoding_spec.specs.declared.State.{State}
use Rattle.decoding_spec.specs.declared.Refusal.{Refusal}
use Rattle.decoding_theorems.proofs.InBounds.{in_bounds, used-rows}
use Rattle.setting.specs.Fixed.{fixed_of}
use Rattle.setting.proofs.Laws.{setting-of}
use Rattle.setting.specs.declared.Prepared.{Prepared}
use Rattle.walk_steps.specs.Scratch.{scratch_numbers, scratch_length, SizedRow, sized_of, sized_of_all, scratch_of, put_at, written}
use Rattle.walking.specs.Walks.{Instruction, instruction_as}
use Rattle.instructions.specs.Instructions.{result_at}
use Rattle.std.specs.Prelude.{Err}
use Rattle.walk_steps.specs.declared.Walk.{Walk}
use Rattle.walk_steps.specs.Steps.{arrived}
use Rattle.walk_steps.proofs.Writing.{scratch-length}

-- the rows without their sizes
abbrev pub plain : List SizedRow → List Row
plain [] = []
plain (r ∷ rs) = r.row ∷ plain rs

plain-append : (a b : List SizedRow) → plain (a ++ b) ≡ plain a ++ plain b
plain-append [] b = refl
plain-append (r ∷ a) b = ap (λ (l : List Row). r.row ∷ l) (plain-append a b)

mutual
  unfolding sized_of sized_of_all rows_of rows_of_all

  pub plain_rows : (n : Node) → plain (sized_of n) ≡ rows_of n
  plain_rows (built k s l f) = ap (λ (rs : List Row). record { kind = 0; number = k; start = s; last = pos l } ∷ rs) (plain-all f)
  plain_rows (numbered i s v) = refl
  plain_rows (named i s n) = refl
  plain_rows (computed i s v) = refl

  plain-all : (f : Nodes) → plain (sized_of_all f) ≡ rows_of_all f
  plain-all none = refl
  plain-all (more n f) = plain-append (sized_of n) (sized_of_all f) ∙ rw (plain_rows n, plain-all f)

pub plain-length : (rs : List SizedRow) → length (plain rs) ≡ length rs
plain-length [] = refl
plain-length (r ∷ rs) = let e = plain-length rs in omega arith

pub sized-length : (n : Node) → length (sized_of n) ≡ length (rows_of n)
sized-length n = sym (plain-length (sized_of n)) ∙ ap length (plain_rows n)

-- a tree's rows stand at the scratch's start
pub rows-first : (n : Node) → length (rows_of n) ≤ most_rows
    → take (scratch_numbers * length (rows_of n)) (written 0 (sized_of n) (replicate scratch_length (pos 0))) ≡ scratch_of (sized_of n)
unfolding written put_at
rows-first n few = take_at (scratch_of (sized_of n)) _ (scratch_numbers * length (rows_of n)) (scratch-length (sized_of n) ∙ ap (λ (k : ℕ). scratch_numbers * k) (sized-length n))

module _ (d : Description) (c a : ℕ) (s : List ℕ) (i : Instruction) (is : i ≡ instruction_as (instruction_of d c a s)) where
  pub was-refused : (r : Refusal) → i.walked ≡ Err r → instruction_of d c a s ≡ refused r
  was-refused r e = go (instruction_of d c a s) (ap (λ (x : Instruction). x.walked) is)
    where
      go : (q : Result Node) → i.walked ≡ (instruction_as q).walked → q ≡ refused r
      go (done n l st) h = cc
      go (refused x) h = let z : x ≡ r = cc in ap refused z

  -- what a done instruction is: its tree, and its rows in the scratch
  pub record Whole (l : ℕ) (st : State) : Type 0 where
    pub tree : Node
    pub result : instruction_of d c a s ≡ done tree l st
    pub rows : i.rows ≡ written 0 (sized_of tree) (replicate scratch_length (pos 0))
    pub count : st.used ≡ length (rows_of tree)
    pub few : length (rows_of tree) ≤ most_rows

  pub was-done : (l : ℕ) (st : State) → i.walked ≡ arrived st l → Whole l st
  was-done l st e = go (instruction_of d c a s) refl
    where
      go : (q : Result Node) → instruction_of d c a s ≡ q → Whole l st
      go (done n m x) h =
          let w : i.walked ≡ arrived x m = ap (λ (y : Instruction). y.walked) (is ∙ ap instruction_as h) in
          let same : ◌≡◌ {A = Walk} (record { state = x; length = m }) (record { state = st; length = l }) = cc in
          let p : x ≡ st = ap (λ (v : Walk). v.state) same in
          let q : m ≡ l = ap (λ (v : Walk). v.length) same in
          let r : instruction_of d c a s ≡ done n l st = h ∙ rw (p, q) in
          record {
            tree = n;
            result = r;
            rows = ap (λ (y : Instruction). y.rows) (is ∙ ap instruction_as h);
            count = used-rows d c a s n l st r;
            few = (in_bounds d c a s n l st r).few;
          }
      go (refused x) h =
          let w : i.walked ≡ Err x = ap (λ (y : Instruction). y.walked) (is ∙ ap instruction_as h) in
          cc

-- the instruction at the code's start, by the numbers of a description
pub first-here : (b : List ℕ) (l : Layout) (a : Prepared) (s : List ℕ) (gather : Bool) (c address : ℕ) → a ≡ fixed_of (description b l) l gather
    → result_at b a s 0 c address ≡ instruction_of (description b l) c address s
unfolding result_at
first-here b l a s gather c address e = let z : address + 0 ≡ address = omega arith in rw (e, setting-of b l gather, z)
