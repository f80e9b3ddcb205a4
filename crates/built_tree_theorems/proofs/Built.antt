-- What is written passes the tree check, a refusal writes nothing, and each refusal is given exactly when its rule says so.
use Prim.Native.Nat.{ℕ, ◌+◌, ◌-◌, ◌*◌, ◌<◌, ◌≤◌}
use mathlib.Core.Bool.{Bool, true, false, cond, ◌&&◌}
use mathlib.Core.List.{List, ◌++◌}
use mathlib.Core.Logic.{inl, inr}
use mathlib.Core.Path.{◌≡◌, refl, sym, ap, subst, ◌∙◌}
use native.Mathlib.Decide.{dec_lt}
use native.Mathlib.Omega.{arith}
use borrow.Author.Tests.{leb-true, le-leb, lt-leb}
use lib.Dec.{leb}
use lib.ListN.{length, get_or, take, drop}
use lib.Seq.{take_at, drop_at}
use Rattle.std.specs.Prelude.{Option, Some, None, Result, Ok, Err}
use Rattle.format.specs.Check.{check_of, WellFormed}
use Rattle.format.specs.Description.{Description, description}
use Rattle.format.specs.Rules.{has_table}
use Rattle.format.specs.declared.Fault.{Fault}
use Rattle.format.specs.declared.Layout.{Layout}
use Rattle.format.proofs.Formation.{obeyed}
use Rattle.format.proofs.Lists.{constructors-length}
use Rattle.format.proofs.Tables.{first-within, end-within}
use Rattle.format.specs.Tables.{table_first, table_end}
use Rattle.format.specs.declared.Pattern.{Pattern}
use Rattle.choosing_spec.specs.Table.{pattern_from}
use Rattle.acceptance.specs.Acceptance.{accepted_by, acceptance_of, accepting}
use Rattle.acceptance.specs.declared.Rejection.{Rejection}
use Rattle.acceptance.proofs.Facts.{accepted-formed}
use Rattle.choosing_spec.specs.Clashing.{clash_of}
use Rattle.choosing_spec.specs.ValidPattern.{ValidPattern}
use Rattle.clash_check.specs.Entry.{placed, judged_by, clash_answer, clash_in}
use Rattle.clash_check.specs.declared.ClashError.TheVariants as clash_error
use Rattle.clash_check.proofs.Facts.{pattern-sound}
use Rattle.printing.specs.Writing.{over}
use Rattle.tree_spec.specs.Nodes.{most_nodes}
use Rattle.tree_spec.specs.Verdicts.{VerdictFor}
use Rattle.tree_spec.specs.declared.WrongLeaf.{WrongLeaf}
use Rattle.tree_check.specs.Entry.{Answer, Answers}
use Rattle.tree_check.proofs.Facts.{never_both}
use Rattle.tree_building_spec.specs.Tree.{Tree, tree_of, size_of, tree_bytes}
use Rattle.tree_building_theorems.proofs.Laid.{laid-length}
use Rattle.tree_building_theorems.proofs.Accepted.{built-form, built-accepts}
use Rattle.tree_building.specs.Building.{Outcome, fits, told, lent, unless_clash, outcome_for, outcome_in, build_of, build_after}
use Rattle.tree_building.specs.declared.BuildError.{BuildError}
use Rattle.tree_building.specs.declared.BuildError.TheVariants.{Rejected, NoTable, Clashes, TooLarge}
use Rattle.built_tree_theorems.specs.Facts.{first_of, patterns_for, records_for, tree_for, ClearTable, Large, WroteTree}

-- the outcome of a table without a clash
module _ (b : List ℕ) (t : ℕ) (l : Layout) (r : ClearTable b t l) where
  grows : outcome_in (description b l) t ≡ Ok (tree_for b l t)
  unfolding outcome_in outcome_for
  grows = rw (r.has, r.clear)

  answer-is : (room : ℕ) → build_of b t room ≡ told room (Ok (tree_for b l t))
  unfolding build_of
  answer-is room = rw (r.accepted, grows)

  bytes-are : (old : List ℕ) → build_after b t old ≡ lent old (Ok (tree_for b l t))
  unfolding build_after
  bytes-are old = rw (r.accepted, grows)

  -- "16 .. exactly then"
  pub large-refused : (room : ℕ) → Large (tree_for b l t) room → build_of b t room ≡ Err TooLarge
  unfolding fits
  large-refused room (inl h) = answer-is room ∙ rw (lt-leb (size_of (tree_for b l t)) most_nodes h)
  large-refused room (inr h) = answer-is room ∙ rw (lt-leb (2 + 4 * size_of (tree_for b l t)) room h) (none (leb (size_of (tree_for b l t)) most_nodes))
    where
      none : (a : Bool) → cond (a && false) (Ok (2 + 4 * size_of (tree_for b l t))) (Err TooLarge) ≡ Err TooLarge
      none true = refl
      none false = refl

  -- and what fits is written
  pub small-written : (room : ℕ) → size_of (tree_for b l t) ≤ most_nodes → 2 + 4 * size_of (tree_for b l t) ≤ room
      → build_of b t room ≡ Ok (2 + 4 * size_of (tree_for b l t))
  unfolding fits
  small-written room h g =
      answer-is room ∙ rw (le-leb (size_of (tree_for b l t)) most_nodes h, le-leb (2 + 4 * size_of (tree_for b l t)) room g)

-- an answer that is no refusal of 1, 12 or 15 comes from a table without a clash
module _ (b : List ℕ) (t room : ℕ) (a : Result ℕ BuildError) where
  pub record Answered : Type 0 where
    pub layout : Layout
    pub table : ClearTable b t layout
    pub is : told room (Ok (tree_for b layout t)) ≡ a

  -- which answers these are
  abbrev Later : Result ℕ BuildError → Type 0
  Later (Ok k) = Unit
  Later (Err TooLarge) = Unit
  Later (Err (Rejected x)) = ⊥
  Later (Err (NoTable t)) = ⊥
  Later (Err (Clashes i j)) = ⊥

  pub answered : build_of b t room ≡ a → Later a → Answered
  unfolding build_of outcome_in outcome_for
  answered e later = go (acceptance_of b) refl e
    where
      by-clash : (l : Layout) → acceptance_of b ≡ Ok l → has_table (description b l) t ≡ true
          → (c : Option (ℕ × ℕ)) → clash_of (patterns_for b l t) (records_for b l t) ≡ c
          → told room (unless_clash (first_of b l t) (patterns_for b l t) (records_for b l t) c) ≡ a → Answered
      by-clash l g h None c q = record { layout = l; table = record { accepted = g; has = h; clear = c }; is = q }
      by-clash l g h (Some (i, j)) c q = absurd (subst Later (sym q) later)

      by-table : (l : Layout) → acceptance_of b ≡ Ok l → (h : Bool) → has_table (description b l) t ≡ h
          → told room (cond h (outcome_for (description b l) (first_of b l t) (records_for b l t)) (Err (NoTable t))) ≡ a → Answered
      by-table l g true h q = by-clash l g h (clash_of (patterns_for b l t) (records_for b l t)) refl q
      by-table l g false h q = absurd (subst Later (sym q) later)

      go : (x : Result Layout Rejection) → acceptance_of b ≡ x → accepting (λ y. Err (Rejected y)) (λ d. told room (outcome_in d t)) b x ≡ a → Answered
      go (Ok l) g q = by-table l g (has_table (description b l) t) refl q
      go (Err x) g q = absurd (subst Later (sym q) later)

-- "exactly then", the other way: 16 is given only to a table without a clash whose tree is too large
pub refused-large : (b : List ℕ) (t room : ℕ) → build_of b t room ≡ Err TooLarge → (l : Layout) × ClearTable b t l × Large (tree_for b l t) room
unfolding fits
refused-large b t room e = let r = answered b t room (Err TooLarge) e tt in (r.layout, r.table, go (tree_for b r.layout t) r.is)
  where
    go : (tree : Tree) → told room (Ok tree) ≡ Err TooLarge → Large tree room
    go tree q = pick (dec_lt most_nodes (size_of tree)) (dec_lt room (2 + 4 * size_of tree))
      where
        pick : Dec (most_nodes < size_of tree) → Dec (room < 2 + 4 * size_of tree) → Large tree room
        pick (yes h) g = inl h
        pick (no h) (yes g) = inr g
        pick (no h) (no g) =
            let z : ◌≡◌ {A = Result ℕ BuildError} (Ok (2 + 4 * size_of tree)) (Err TooLarge) =
            rw (le-leb (size_of tree) most_nodes (omega arith), le-leb (2 + 4 * size_of tree) room (omega arith)) at q in
            cc

-- a refusal changes no lent byte
pub refused-same : (b : List ℕ) (t : ℕ) (old : List ℕ) → ((k : ℕ) → build_of b t (length old) ≡ Ok k → ⊥) → build_after b t old ≡ old
unfolding build_of build_after
refused-same b t old f = go (acceptance_of b) refl
  where
    by-outcome : (o : Outcome) → ((k : ℕ) → told (length old) o ≡ Ok k → ⊥) → lent old o ≡ old
    by-outcome (Err a) g = refl
    by-outcome (Ok tree) g = by-room (fits tree (length old)) refl
      where
        by-room : (x : Bool) → fits tree (length old) ≡ x → cond x (over (tree_bytes tree) old) old ≡ old
        by-room true e = absurd (g (2 + 4 * size_of tree) (rw e))
        by-room false e = refl

    go : (x : Result Layout Rejection) → acceptance_of b ≡ x → accepting (λ y. old) (λ d. lent old (outcome_in d t)) b x ≡ old
    go (Err y) e = refl
    go (Ok l) e = by-outcome (outcome_in (description b l) t) (λ k q. f k (rw e q))

-- "A table that clashes is refused with 15 and the pair": just where the clash check names the pair
module _ (b : List ℕ) (t room i j : ℕ) where
  -- one outcome of a table, told by both
  module _ (first n : ℕ) (at : ℕ → Pattern) where
    told-pair : (c : Option (ℕ × ℕ)) → placed first c ≡ Some (i, j) → told room (unless_clash first at n c) ≡ Err (Clashes i j)
    told-pair None e = cc
    told-pair (Some (x, y)) e =
        let z : ◌≡◌ {A = ℕ × ℕ} (first + x, first + y) (i, j) = cc in
        rw (ap (λ r. r.0) z, ap (λ r. r.1) z)

    pair-told : (c : Option (ℕ × ℕ)) → told room (unless_clash first at n c) ≡ Err (Clashes i j) → placed first c ≡ Some (i, j)
    pair-told None e = absurd (by-room (fits (tree_of first at n) room) e)
      where
        by-room : (x : Bool) → cond x (Ok (2 + 4 * size_of (tree_of first at n))) (Err TooLarge) ≡ Err (Clashes i j) → ⊥
        by-room true q = cc
        by-room false q = cc
    pair-told (Some (x, y)) e =
        let u : first + x ≡ i = cc in
        let v : first + y ≡ j = cc in
        rw (u, v)

  pub clash-refused : clash_answer b t ≡ Ok (Some (i, j)) → build_of b t room ≡ Err (Clashes i j)
  unfolding clash_answer clash_in build_of acceptance_of outcome_in outcome_for
  clash-refused e = go (check_of b) e
    where
      by-table : (d : Description) (h : Bool)
          → cond h (Ok (placed (table_first d t) (clash_of (pattern_from d (table_first d t)) (table_end d t - table_first d t)))) (Err (clash_error.NoTable t)) ≡ Ok (Some (i, j))
          → told room (cond h (outcome_for d (table_first d t) (table_end d t - table_first d t)) (Err (NoTable t))) ≡ Err (Clashes i j)
      by-table d true q =
          let z : placed (table_first d t) (clash_of (pattern_from d (table_first d t)) (table_end d t - table_first d t)) ≡ Some (i, j) = cc in
          told-pair (table_first d t) (table_end d t - table_first d t) (pattern_from d (table_first d t)) (clash_of (pattern_from d (table_first d t)) (table_end d t - table_first d t)) z
      by-table d false q = cc

      go : (x : Result Layout Fault) → judged_by b t x ≡ Ok (Some (i, j))
          → accepting (λ y. Err (Rejected y)) (λ d. told room (outcome_in d t)) b (accepted_by x) ≡ Err (Clashes i j)
      go (Ok l) q = by-table (description b l) (has_table (description b l) t) q
      go (Err f) q = cc

  pub refused-clash : build_of b t room ≡ Err (Clashes i j) → clash_answer b t ≡ Ok (Some (i, j))
  unfolding clash_answer clash_in build_of acceptance_of outcome_in outcome_for
  refused-clash e = go (check_of b) e
    where
      by-table : (d : Description) (h : Bool)
          → told room (cond h (outcome_for d (table_first d t) (table_end d t - table_first d t)) (Err (NoTable t))) ≡ Err (Clashes i j)
          → cond h (Ok (placed (table_first d t) (clash_of (pattern_from d (table_first d t)) (table_end d t - table_first d t)))) (Err (clash_error.NoTable t)) ≡ Ok (Some (i, j))
      by-table d true q =
          ap Ok
          (pair-told (table_first d t) (table_end d t - table_first d t) (pattern_from d (table_first d t)) (clash_of (pattern_from d (table_first d t)) (table_end d t - table_first d t)) q)
      by-table d false q = cc

      go : (x : Result Layout Fault) → accepting (λ y. Err (Rejected y)) (λ d. told room (outcome_in d t)) b (accepted_by x) ≡ Err (Clashes i j)
          → judged_by b t x ≡ Ok (Some (i, j))
      go (Ok l) q = by-table (description b l) (has_table (description b l) t) q
      go (Err f) q = cc

module _ (b : List ℕ) (bytes : (i : ℕ) → get_or b i 0 < 256) (t : ℕ) where
  module _ (l : Layout) (r : ClearTable b t l) where
    formed : WellFormed b l
    formed = accepted-formed b l r.accepted

    first-end : first_of b l t ≤ table_end (description b l) t
    first-end = first-within (description b l) (obeyed b l formed) t

    end-length : table_end (description b l) t ≤ length (description b l).constructors
    end-length = end-within (description b l) (obeyed b l formed) t

    low : first_of b l t + records_for b l t ≤ 512
    low = omega (arith, first-end, end-length, constructors-length b l, formed.room.few)

    sound : (j : ℕ) → j < records_for b l t → ValidPattern (patterns_for b l t j)
    sound j h = pattern-sound b l bytes formed (first_of b l t) j (omega (arith, first-end, end-length))

  -- what is written is the rule's tree, well formed
  pub wrote-tree : (old : List ℕ) (k : ℕ) → build_of b t (length old) ≡ Ok k → WroteTree b t old (build_after b t old) k
  unfolding fits over
  wrote-tree old k e =
      let r = answered b t (length old) (Ok k) e tt in
      let tree = tree_for b r.layout t in
      go r.layout r.table (leb (size_of tree) most_nodes) refl (leb (2 + 4 * size_of tree) (length old)) refl r.is
    where
      go : (l : Layout) → ClearTable b t l → (x : Bool) → leb (size_of (tree_for b l t)) most_nodes ≡ x
          → (y : Bool) → leb (2 + 4 * size_of (tree_for b l t)) (length old) ≡ y
          → cond (x && y) (Ok (2 + 4 * size_of (tree_for b l t))) (Err TooLarge) ≡ Ok k → WroteTree b t old (build_after b t old) k
      go l table true f true g q =
          let size : k ≡ 2 + 4 * size_of (tree_for b l t) = cc in
          let few = leb-true (size_of (tree_for b l t)) most_nodes f in
          let long : length (tree_bytes (tree_for b l t)) ≡ k = laid-length (tree_for b l t) ∙ sym size in
          let new : build_after b t old ≡ tree_bytes (tree_for b l t) ++ drop (length (tree_bytes (tree_for b l t))) old = bytes-are b t l table old ∙ rw (f, g) in
          let tree : take k (build_after b t old) ≡ tree_bytes (tree_for b l t) = ap (take k) new ∙ take_at (tree_bytes (tree_for b l t)) _ k long in
          record {
            layout = l;
            table = table;
            few = few;
            size = size;
            tree = tree;
            behind = ap (drop k) new ∙ (drop_at (tree_bytes (tree_for b l t)) _ k long ∙ ap (λ m. drop m old) long);
            formed = rw tree (built-form (first_of b l t) (patterns_for b l t) (records_for b l t) (sound l table) table.clear (low l table) few);
          }
      go l table true f false g q = cc
      go l table false f y g q = cc

  -- "Whatever is written must pass the tree check.": whatever answer the tree check's contract allows is "accepted"
  pub passes : (old : List ℕ) (k : ℕ) → build_of b t (length old) ≡ Ok k → (r : Answer) → Answers b t (take k (build_after b t old)) r → r ≡ Ok None
  passes old k e r a =
      let w = wrote-tree old k e in
      let l : Layout = w.layout in
      let v = rw (w.table.accepted, w.table.has, w.formed) at a in
      v.1 ∙ go l w.table w.few w.tree v.0 v.2
    where
      go : (l : Layout) (table : ClearTable b t l) → size_of (tree_for b l t) ≤ most_nodes → take k (build_after b t old) ≡ tree_bytes (tree_for b l t)
          → (v : Option WrongLeaf) → VerdictFor (first_of b l t) (patterns_for b l t) (records_for b l t) (take k (build_after b t old)) v → ◌≡◌ {A = Answer} (Ok v) (Ok None)
      go l table few is None x = refl
      go l table few is (Some w) x =
          absurd
          (never_both (first_of b l t) (patterns_for b l t) (records_for b l t) (tree_bytes (tree_for b l t)) w.node w.word w.context
          (built-accepts (first_of b l t) (patterns_for b l t) (records_for b l t) (sound l table) table.clear (low l table) few) (rw is at x))
