-- The walk over a constructor's operands, turn by turn, and the ways through an operand, a constructor and a table.
use Prim.Native.Nat.{ℕ, zero, suc, ◌+◌, ◌-◌, ◌≤◌, ◌<◌, min, max}
use mathlib.Core.List.{List, [], ◌++◌}
use mathlib.Core.Path.{◌≡◌, refl, sym, ap, subst, ◌∙◌}
use native.Mathlib.Decide.{ℕ_discrete, dec_lt}
use native.Mathlib.Omega.{arith}
use borrow.Author.Tests.{lt-ltb, le-ltb, le-leb, lt-leb, eq-eqb, ne_eqb}
use Rattle.std.specs.Prelude.{Ok, Err}
use lib.IntN.{ℤ}
use lib.ListN.{length, get_or, take, drop, set, replicate, length-append, length-drop, length-set, get_or-replicate, get_or-eq_default, drop_of_length-le}
use lib.Seq.{get_or-set_same, get_or-set_other}
use Rattle.format.specs.Numbers.{longest, most_rows, operands_each}
use Rattle.format.specs.Description.{no_field, no_constructor, no_operand}
use Rattle.format.specs.Tables.{root_of}
use Rattle.format.specs.declared.Constructor.{Constructor}
use Rattle.format.specs.declared.Operand.{Operand}
use Rattle.std.specs.Prelude as std
use Rattle.choosing_spec.specs.declared.NotChosen.{NotChosen}
use Rattle.choosing_spec.specs.declared.NotChosen.TheVariants as choice
use Rattle.decoding_spec.specs.State.{Setting, starting, counted}
use Rattle.decoding_spec.specs.Tree.{Node, Nodes, none, more}
use Rattle.decoding_spec.specs.Walk.{Result, done, refused, and_then, choice_in, start_of, field_from, computed_from, operand_from, operands_from, constructor_from, taking, table_from, walk_from, Walker, reject_empty, walked_from}
use Rattle.decoding_spec.specs.declared.State.{State}
use Rattle.decoding_spec.specs.declared.Refusal.{Refusal}
use Rattle.decoding_spec.specs.declared.Refusal.TheVariants.{Short, NoMatch, Ambiguous, TooFar, TooManyRows, RootLengthZero}
use Rattle.walk_steps.specs.Scratch.{sized_of, sized_of_all, written}
use Rattle.walk_steps.specs.Steps.{Walked, arrived, StepsTo, closed_as, closed_rows}
use Rattle.walking.specs.Walks.{WalksTo, Walks, Finished, chosen_as, root_chosen}
use Rattle.walking.proofs.Answers.{code-from, refuses, finishes, was-refused, was-done, within, WasDone, steps-walk, closes}
use Rattle.walk_steps.proofs.Writing.{written_behind, written_none}

-- a node before its right neighbours
abbrev joined : Node → Result Nodes → Result Nodes
joined n r = and_then r (λ f far st. done (more n f) far st)

-- a node's rows, then those of its right neighbours
neighbours : (n : Node) (l at start used : ℕ) (st : State) (old mid new : List ℤ) (w : Walked) → Finished sized_of n l st start used old mid
    → (result : Result Nodes) → WalksTo sized_of_all result w at st.used mid new → WalksTo sized_of_all (joined n result) w at used old new
unfolding sized_of_all
neighbours n l at start used st old mid new w h (done f far st') g =
    let count : st'.used ≡ used + length (sized_of n ++ sized_of_all f) = omega (arith, length-append (sized_of n) (sized_of_all f), h.count, g.put.count) in
    record {
      answer = g.answer;
      put =
          record {
            count = count;
            few = g.put.few;
            near = g.put.near;
            held =
                g.put.held ∙ ap (written st.used (sized_of_all f)) h.held
                ∙ written_behind used st.used (sized_of n) (sized_of_all f) old h.count (omega (arith, g.put.count, g.put.few));
          };
    }
neighbours n l at start used st old mid new w h (refused r) g = record { answer = g.answer; put = tt }

module _ (g : Setting) (first : ℕ) (s : List ℕ) (at count : ℕ) where
  abbrev left : ℕ → ℕ → List ℕ → ℕ → State → Result Nodes
  left depth o ends far st = operands_from g (walk_from g depth) first s at (count - o) o ends far st

  abbrev all : ℕ → State → Result Nodes
  all depth st = operands_from g (walk_from g depth) first s at count 0 (replicate (operands_each + 1) 0) 0 st

  -- what is left to do comes to what the whole comes to; and bounds
  pub record LoopState (st₀ : State) (rows₀ rows : List ℤ) (ends : List ℕ) (far : ℕ) (st : State) (o : ℕ) : Type 0 where
    pub rest : (depth : ℕ) → most_rows < st₀.used + depth → (w : Walked) (new : List ℤ)
        → WalksTo sized_of_all (left depth o ends far st) w at st.used rows new → WalksTo sized_of_all (all depth st₀) w at st₀.used rows₀ new
    pub most : count ≤ operands_each
    pub since : st₀.used ≤ st.used
    pub few : st.used ≤ most_rows
    pub near : at + far ≤ longest
    pub wide : length ends ≡ operands_each + 1
    pub nears : (k : ℕ) → at + get_or ends k 0 ≤ longest
    pub kept : length rows ≡ length rows₀

  pub first-turn : (st : State) (rows : List ℤ) → count ≤ operands_each → st.used ≤ most_rows → at ≤ longest
      → LoopState st rows rows (replicate (operands_each + 1) 0) 0 st 0
  first-turn st rows m u a =
      record {
        rest = λ depth k w new h. let z : count - 0 ≡ count = omega arith in rw z at h;
        most = m;
        since = omega arith;
        few = u;
        near = omega arith;
        wide = refl;
        nears = λ k. go k (dec_lt k (operands_each + 1));
        kept = refl;
      }
    where
      go : (k : ℕ) → Dec (k < operands_each + 1) → at + get_or (replicate (operands_each + 1) 0) k 0 ≤ longest
      go k (yes p) = rw (get_or-replicate {A = ℕ} (operands_each + 1) k 0 0 p) (omega arith)
      go k (no p) = rw (get_or-eq_default (replicate {A = ℕ} (operands_each + 1) 0) 0 {n = k} (omega arith)) (omega arith)

  -- one operand, then those behind it
  step : (depth o : ℕ) (ends : List ℕ) (far : ℕ) (st : State) (x : Operand) (start : ℕ) → o < count
      → x ≡ get_or g.description.operands (first + o) no_operand → start ≡ start_of ends x
      → left depth o ends far st
      ≡ and_then (operand_from g (walk_from g depth) x s at start st) (λ n l st. joined n (left depth (o + 1) (set ends (o + 1) (start + l)) (max far (start + l)) st))
  unfolding operands_from
  step depth o ends far st x start h e b =
      let z : count - o ≡ suc (count - (o + 1)) = omega arith in
      rw (z, ← e, ← b)

  module _ (st₀ : State) (rows₀ rows rows' : List ℤ) (ends : List ℕ) (far : ℕ) (st : State) (o : ℕ) (turn : LoopState st₀ rows₀ rows ends far st o)
      (x : Operand) (start : ℕ) (walked : Walked) (h : o < count) (e : x ≡ get_or g.description.operands (first + o) no_operand)
      (b : start ≡ start_of ends x)
      (walks : Walks sized_of (λ depth. operand_from g (walk_from g depth) x s at start st) walked (at + start) st.used st.used rows rows') where
    pub refused-turn : (r : Refusal) → walked ≡ Err r → Walks sized_of_all (λ depth. all depth st₀) (Err r) at st₀.used st₀.used rows₀ rows'
    refused-turn r q =
        record {
          to = λ depth k.
              let z = was-refused sized_of (at + start) st.used rows rows' _ walked r (walks.to depth (omega (arith, turn.since))) q in
              turn.rest depth k (Err r) rows' (refuses _ _ _ _ _ _ _ (step depth o ends far st x start h e b ∙ rw z));
        }

    pub next-turn : (st' : State) (l : ℕ) → walked ≡ arrived st' l → length rows' ≡ length rows → LoopState st₀ rows₀ rows' (set ends (o + 1) (start + l)) (max far (start + l)) st' (o + 1)
    next-turn st' l q kept =
        let bounds : (st.used ≤ st'.used) × (st'.used ≤ most_rows) × (at + start + l ≤ longest) =
        rw q at (within sized_of (at + start) st.used rows rows' _ walked st.used walks) in
        record {
          rest = λ depth k w new t. turn.rest depth k w new (one depth (omega (arith, turn.since)) w new t);
          most = turn.most;
          since = omega (arith, turn.since, bounds.0);
          few = bounds.1;
          near = omega (arith, turn.near, bounds.2);
          wide = length-set ends (o + 1) (start + l) ∙ turn.wide;
          nears = λ k. go k (ℕ_discrete k (o + 1)) bounds.2;
          kept = kept ∙ turn.kept;
        }
      where
        one : (depth : ℕ) → most_rows < st.used + depth → (w : Walked) (new : List ℤ)
            → WalksTo sized_of_all (left depth (o + 1) (set ends (o + 1) (start + l)) (max far (start + l)) st') w at st'.used rows' new
            → WalksTo sized_of_all (left depth o ends far st) w at st.used rows new
        one depth k w new t =
            let z = was-done sized_of (at + start) st.used rows rows' (operand_from g (walk_from g depth) x s at start st) walked l st' (walks.to depth k) q in
            let behind : Result Nodes = left depth (o + 1) (set ends (o + 1) (start + l)) (max far (start + l)) st' in
            let is : left depth o ends far st ≡ joined z.found behind =
            step depth o ends far st x start h e b
            ∙ ap (λ (r : Result Node). and_then r (λ n l st. joined n (left depth (o + 1) (set ends (o + 1) (start + l)) (max far (start + l)) st))) z.is in
            subst (λ (r : Result Nodes). WalksTo sized_of_all r w at st.used rows new) (sym is)
            (neighbours z.found l at (at + start) st.used st' rows rows' new w z.finished behind t)

        go : (k : ℕ) → Dec (k ≡ o + 1) → at + start + l ≤ longest → at + get_or (set ends (o + 1) (start + l)) k 0 ≤ longest
        go k (yes p) m = rw (p, get_or-set_same ends (o + 1) (start + l) 0 (omega (arith, turn.most, turn.wide))) (omega arith)
        go k (no p) m = rw (get_or-set_other ends (o + 1) k (start + l) 0 p) (turn.nears k)

  pub last_turn : (st₀ : State) (rows₀ rows : List ℤ) (ends : List ℕ) (far : ℕ) (st : State) (o : ℕ) → LoopState st₀ rows₀ rows ends far st o → count ≤ o
      → Walks sized_of_all (λ depth. all depth st₀) (arrived st far) at st₀.used st₀.used rows₀ rows
  unfolding operands_from sized_of_all
  last_turn st₀ rows₀ rows ends far st o turn h =
      record {
        to = λ depth k.
            let z : count - o ≡ 0 = omega arith in
            turn.rest depth k (arrived st far) rows
            (finishes sized_of_all _ at st.used rows rows none far st (rw z)
            (record { count = omega arith; few = turn.few; near = turn.near; held = written_none st.used rows turn.few }));
      }

-- the part of the code from a start on; past the end that is no bytes
part-from : (s : List ℕ) (start from : ℕ) → from ≡ min start (length s) → take (length s - from) (drop from s) ≡ drop start s
part-from s start from e = code-from s from ∙ go (dec_lt start (length s))
  where
    go : Dec (start < length s) → drop from s ≡ drop start s
    go (yes p) = let z : from ≡ start = omega arith in rw z
    go (no p) =
        let a : drop from s ≡ [] = drop_of_length-le s {i = from} (omega arith) in
        let b : drop start s ≡ [] = drop_of_length-le s {i = start} (omega arith) in
        a ∙ sym b

pub part_length : (s : List ℕ) (start from at total : ℕ) → from ≡ min start (length s) → length s ≡ total - at
    → length (take (length s - from) (drop from s)) ≡ total - (at + start)
part_length s start from at total e l = rw (part-from s start from e) (length-drop start s ∙ omega arith)

module _ (g : Setting) (x : Operand) (s : List ℕ) (at start from : ℕ) (st : State) (r : Walked) (old new : List ℤ)
    (e : from ≡ min start (length s)) where
  pub operand-field : x.kind ≡ 0
      → StepsTo sized_of (field_from g (get_or g.description.fields x.index no_field) x.index (take (length s - from) (drop from s)) (at + start) st)
      r (at + start) st.used old new
      → Walks sized_of (λ depth. operand_from g (walk_from g depth) x s at start st) r (at + start) st.used st.used old new
  unfolding operand_from
  operand-field z h = record { to = λ depth k. rw (eq-eqb x.kind 0 z) (steps-walk _ _ _ _ _ _ _ (rw (part-from s start from e) at h)) }

  pub operand-computed : (x.kind ≡ 0 → ⊥) → x.kind ≡ 2
      → StepsTo sized_of (computed_from g x.index (at + start) st) r (at + start) st.used old new
      → Walks sized_of (λ depth. operand_from g (walk_from g depth) x s at start st) r (at + start) st.used st.used old new
  unfolding operand_from
  operand-computed z y h = record { to = λ depth k. rw (ne_eqb x.kind 0 z, eq-eqb x.kind 2 y) (steps-walk _ _ _ _ _ _ _ h) }

  pub operand-table : (x.kind ≡ 0 → ⊥) → (x.kind ≡ 2 → ⊥)
      → Walks sized_of (λ depth. walk_from g depth x.index (take (length s - from) (drop from s)) (at + start) st) r (at + start) st.used st.used old new
      → Walks sized_of (λ depth. operand_from g (walk_from g depth) x s at start st) r (at + start) st.used st.used old new
  unfolding operand_from
  operand-table z y h = record { to = λ depth k. rw (ne_eqb x.kind 0 z, ne_eqb x.kind 2 y) (rw (part-from s start from e) at (h.to depth k)) }

-- a constructor and its operands
pub constructor-closes : (g : Setting) (n : ℕ) (k k' : Constructor) (s : List ℕ) (at : ℕ) (st st' : State) (minimum total : ℕ) (walked r : Walked)
    (old mid new : List ℤ) → k ≡ k' → minimum ≡ k.minimum → st' ≡ counted st → g.total ≡ total
    → Walks sized_of_all (λ depth. operands_from g (walk_from g depth) k.operands.first s at k.operands.count 0 (replicate (operands_each + 1) 0) 0 st')
    walked at st'.used st'.used old mid
    → r ≡ closed_as total n minimum at walked → new ≡ closed_rows n at st.used r mid
    → Walks sized_of (λ depth. constructor_from g (walk_from g depth) n k' s at st) r at (st.used + 1) st.used old new
unfolding constructor_from
constructor-closes g n k k' s at st st' minimum total walked r old mid new e m q t h a b =
    record { to = λ depth room. rw (← e, ← m, b, a) (closes total n minimum at st.used walked mid g t _ old (subst (λ (u : State). WalksTo sized_of_all (operands_from g (walk_from g depth) k.operands.first s at k.operands.count 0 (replicate (operands_each + 1) 0) 0 u) walked at u.used old mid) q (h.to depth (rw q (omega arith))))) }

-- what a choice comes to
pub was-taken : (at t n : ℕ) (q : std.Result ℕ NotChosen) → chosen_as at t q ≡ Ok n → q ≡ Ok n
was-taken at t n (Err choice.Short) e = cc e
was-taken at t n (Err choice.NoMatch) e = cc e
was-taken at t n (Ok k) e = let z : k ≡ n = cc e in rw z
was-taken at t n (Err choice.Ambiguous) e = cc e

unchosen : (g : Setting) (t : ℕ) (s : List ℕ) (at : ℕ) (st : State) (r : Refusal) (w : Walker) (q : std.Result ℕ NotChosen) → chosen_as at t q ≡ Err r
    → taking g w t s at st q ≡ refused r
unchosen g t s at st r w (Err choice.Short) e = let z : Short at ≡ r = cc e in rw z
unchosen g t s at st r w (Err choice.NoMatch) e = let z : NoMatch at t ≡ r = cc e in rw z
unchosen g t s at st r w (Ok k) e = cc e
unchosen g t s at st r w (Err choice.Ambiguous) e = let z : Ambiguous at t ≡ r = cc e in rw z

-- a table: "7, 6, 2, 3, 4"
module _ (g : Setting) (t : ℕ) (s : List ℕ) (at : ℕ) (st : State) (old new : List ℤ) where
  abbrev Comes : Walked → Type 0
  Comes r = Walks sized_of (λ depth. walk_from g depth t s at st) r at st.used st.used old new

  pub table-full : most_rows ≤ st.used → Comes (Err TooManyRows)
  unfolding walk_from table_from
  table-full h = record { to = go }
    where
      go : (depth : ℕ) → most_rows < st.used + depth → WalksTo sized_of (walk_from g depth t s at st) (Err TooManyRows) at st.used old new
      go zero k = refuses _ _ _ _ _ _ _ refl
      go (suc depth) k = refuses _ _ _ _ _ _ _ (rw (le-leb most_rows st.used h))

  module _ (room : st.used < most_rows) where
    pub table-far : longest < at → Comes (Err (TooFar at))
    unfolding walk_from table_from
    table-far h = record { to = go }
      where
        go : (depth : ℕ) → most_rows < st.used + depth → WalksTo sized_of (walk_from g depth t s at st) (Err (TooFar at)) at st.used old new
        go zero k = absurd (omega arith)
        go (suc depth) k = refuses _ _ _ _ _ _ _ (rw (lt-leb most_rows st.used room, lt-ltb longest at h))

    module _ (near : at ≤ longest) where
      pub table-refused : (r : Refusal) (q : std.Result ℕ NotChosen) → q ≡ choice_in g.description t s st.context → chosen_as at t q ≡ Err r
          → Comes (Err r)
      unfolding walk_from table_from
      table-refused r q e f = record { to = go }
        where
          go : (depth : ℕ) → most_rows < st.used + depth → WalksTo sized_of (walk_from g depth t s at st) (Err r) at st.used old new
          go zero k = absurd (omega arith)
          go (suc depth) k =
              refuses _ _ _ _ _ _ _ (rw (lt-leb most_rows st.used room, le-ltb longest at near, ← e) (unchosen g t s at st r (walk_from g depth) q f))

      pub table_taken : (n : ℕ) (r : Walked) (q : std.Result ℕ NotChosen) → q ≡ choice_in g.description t s st.context → chosen_as at t q ≡ Ok n
          → Walks sized_of (λ depth. constructor_from g (walk_from g depth) n (get_or g.description.constructors n no_constructor) s at st) r at (st.used + 1) st.used old new
          → Comes r
      unfolding walk_from table_from
      table_taken n r q e f h = record { to = go }
        where
          go : (depth : ℕ) → most_rows < st.used + depth → WalksTo sized_of (walk_from g depth t s at st) r at st.used old new
          go zero k = absurd (omega arith)
          go (suc depth) k =
              rw (lt-leb most_rows st.used room, le-ltb longest at near, ← e, was-taken at t n q f) (h.to depth (omega arith))

-- "At the root's end: 8"
module _ (g : Setting) (c : ℕ) (s : List ℕ) (w : Walked) (old new : List ℤ)
    (walks : Walks sized_of (λ depth. walk_from g depth (root_of g.description) s 0 (starting c)) w 0 0 0 old new) where
  root : WalksTo sized_of (walk_from g (suc most_rows) (root_of g.description) s 0 (starting c)) w 0 0 old new
  root = walks.to (suc most_rows) (omega arith)

  pub root-refused : (r : Refusal) → w ≡ Err r → WalksTo sized_of (walked_from g c s) (Err r) 0 0 old new
  unfolding walked_from
  root-refused r q = refuses _ _ _ _ _ _ _ (ap reject_empty (was-refused sized_of 0 0 old new _ w r root q))

  module _ (l : ℕ) (st : State) (q : w ≡ arrived st l) where
    was : WasDone sized_of (walk_from g (suc most_rows) (root_of g.description) s 0 (starting c)) 0 0 old new l st
    was = was-done sized_of 0 0 old new _ w l st root q

    pub root-empty : l ≡ 0 → WalksTo sized_of (walked_from g c s) (Err RootLengthZero) 0 0 old new
    unfolding walked_from
    root-empty z = refuses _ _ _ _ _ _ _ (ap reject_empty was.is ∙ rw (eq-eqb l 0 z))

    pub root-done : (l ≡ 0 → ⊥) → WalksTo sized_of (walked_from g c s) (arrived st l) 0 0 old new
    unfolding walked_from
    root-done z = finishes sized_of _ 0 0 old new was.found l st (ap reject_empty was.is ∙ rw (ne_eqb l 0 z)) was.finished

-- the root's choice
module _ (g : Setting) (c : ℕ) (s : List ℕ) where
  -- refused, before a row was written
  pub root-unchosen : (old : List ℤ) (r : Refusal) → root_chosen g.description c s ≡ Err r
      → WalksTo sized_of (walked_from g c s) (Err r) 0 0 old old
  root-unchosen old r e =
      root-refused g c s _ old old (table-refused g _ s 0 (starting c) old old (omega arith) (omega arith) r _ refl e) r refl

  -- taken
  pub root-taken : (n : ℕ) (r : Walked) (old new : List ℤ) → root_chosen g.description c s ≡ Ok n
      → Walks sized_of (λ depth. constructor_from g (walk_from g depth) n (get_or g.description.constructors n no_constructor) s 0 (starting c)) r 0 1 0 old new
      → Walks sized_of (λ depth. walk_from g depth (root_of g.description) s 0 (starting c)) r 0 0 0 old new
  root-taken n r old new e h = table_taken g _ s 0 (starting c) old new (omega arith) (omega arith) n r _ refl e h
