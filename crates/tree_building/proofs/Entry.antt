-- From the count and the written nodes to the answer and the lent bytes.
use Prim.Native.Nat.{ℕ, zero, suc, ◌+◌, ◌-◌, ◌*◌, ◌<◌, ◌≤◌}
use mathlib.Core.Bool.{Bool, true, false, cond, ◌&&◌}
use mathlib.Core.List.{List, ◌++◌}
use mathlib.Core.Logic.{inl, inr}
use mathlib.Core.Path.{◌≡◌, refl, sym, ap, ◌∙◌}
use native.Mathlib.Decide.{dec_lt}
use native.Mathlib.Omega.{arith}
use borrow.Author.Tests.{leb-true, leb-false, le-leb, lt-leb}
use lib.Dec.{leb}
use lib.ListN.{length, get_or, drop, get_or-append}
use lib.Seq.{ext_get_or, get_or-append-add, get_or-drop}
use Rattle.std.specs.Prelude.{Option, Some, None, Ok, Err}
use Rattle.format.specs.Check.{WellFormed}
use Rattle.format.specs.Description.{Description, description}
use Rattle.format.specs.declared.Layout.{Layout}
use Rattle.format.proofs.Lists.{constructors-length}
use Rattle.tables.specs.declared.Table.{Table}
use Rattle.choosing.proofs.Settling.{patterns-are}
use Rattle.choosing_spec.specs.Clashing.{clash_of}
use Rattle.choosing_spec.specs.Table.{pattern_from}
use Rattle.clash_check.proofs.Facts.{pattern-sound}
use Rattle.printing.specs.Writing.{over}
use Rattle.printing.proofs.Writing.{over-length}
use Rattle.tree_spec.specs.Nodes.{most_nodes}
use Rattle.tree_spec.specs.Verdicts.{bytes_of}
use Rattle.tree_building_spec.specs.Tree.{Tree, tree_of, size_of, tree_bytes}
use Rattle.tree_building_theorems.proofs.Laid.{size-some, stands-bytes, laid-length}
use Rattle.tree_nodes.specs.Ready.{Ready}
use Rattle.tree_building.specs.Building.{fits, outcome_for, Builds}
use Rattle.tree_counting.specs.Counting.{counted_of}
use Rattle.tree_building.specs.Room.{most_in}
use Rattle.tree_building.specs.Writing.{PutsWord, PutsTree}
use Rattle.tree_building.specs.declared.BuildError.TheVariants.{Clashes, TooLarge}

-- a tree that was counted within the bound fits, and has so many nodes
pub record Fitting (t : Tree) (room k : ℕ) : Type 0 where
  pub size : k ≡ size_of t
  pub few : size_of t ≤ most_nodes
  pub room_for : 2 + 4 * size_of t ≤ room

pub counted-fits : (t : Tree) (room most k : ℕ) (r : Option ℕ) → most ≡ most_in room → r ≡ counted_of most (size_of t) → r ≡ Some k → Fitting t room k
counted-fits t room most k r m e f = go (leb (size_of t) (most_in room)) refl (rw m at (sym e ∙ f))
  where
    go : (b : Bool) → leb (size_of t) (most_in room) ≡ b → cond b (Some (size_of t)) None ≡ Some k → Fitting t room k
    go true q g =
        let size : k ≡ size_of t = cc in
        let h = leb-true (size_of t) (most_in room) q in
        record { size = size; few = omega arith; room_for = omega (arith, size-some t) }
    go false q g = cc

fitting : (t : Tree) (room : ℕ) → size_of t ≤ most_nodes → 2 + 4 * size_of t ≤ room → fits t room ≡ true
unfolding fits
fitting t room h l = rw (le-leb (size_of t) most_nodes h, le-leb (2 + 4 * size_of t) room l)

counted-large : (t : Tree) (room most : ℕ) (r : Option ℕ) → most ≡ most_in room → r ≡ counted_of most (size_of t) → ((k : ℕ) → r ≡ Some k → ⊥) → fits t room ≡ false
unfolding fits
counted-large t room most r m e f = go (leb (size_of t) (most_in room)) refl (λ k q. f k (e ∙ rw m q))
  where
    go : (b : Bool) → leb (size_of t) (most_in room) ≡ b → ((k : ℕ) → cond b (Some (size_of t)) None ≡ Some k → ⊥)
        → (leb (size_of t) most_nodes && leb (2 + 4 * size_of t) room) ≡ false
    go true q g = absurd (g (size_of t) refl)
    go false q g = pick (dec_lt most_nodes (size_of t))
      where
        more : most_in room < size_of t
        more = leb-false (size_of t) (most_in room) q

        pick : Dec (most_nodes < size_of t) → (leb (size_of t) most_nodes && leb (2 + 4 * size_of t) room) ≡ false
        pick (yes h) = rw (lt-leb (size_of t) most_nodes h)
        pick (no h) =
            let a : size_of t ≤ most_nodes = omega arith in
            let b : room < 2 + 4 * size_of t = omega (arith, more) in
            rw (le-leb (size_of t) most_nodes a, lt-leb (2 + 4 * size_of t) room b)

-- the count, then the nodes: the tree's bytes over the old ones
module _ (t : Tree) (old mid new : List ℕ) (few : size_of t ≤ most_nodes) (room : 2 + 4 * size_of t ≤ length old)
    (head : PutsWord 0 (size_of t) old mid) (body : PutsTree t mid new) (small : (k : ℕ) → get_or new k 0 < 256) where
  -- byte k of the tree's
  front : (k : ℕ) → k < 2 → get_or new k 0 ≡ get_or (tree_bytes t) k 0
  unfolding tree_bytes bytes_of
  front zero h = body.kept.outside 0 (inl (omega arith)) ∙ head.low
  front (suc zero) h = body.kept.outside 1 (inl (omega arith)) ∙ (head.high ∙ omega arith)
  front (suc (suc k)) h = absurd (omega arith)

  nodes : (k : ℕ) → k < 4 * size_of t → get_or new (2 + k) 0 ≡ get_or (tree_bytes t) (2 + k) 0
  unfolding tree_bytes bytes_of
  nodes k h =
      let e : 4 * 0 + 2 + k ≡ suc (suc k) = omega arith in
      let f : 2 + k ≡ suc (suc k) = omega arith in
      rw f (rw e at (stands-bytes new small body.stands k h))

  within : (k : ℕ) → k < 2 + 4 * size_of t → get_or new k 0 ≡ get_or (tree_bytes t) k 0
  within k h = go (dec_lt k 2)
    where
      go : Dec (k < 2) → get_or new k 0 ≡ get_or (tree_bytes t) k 0
      go (yes l) = front k l
      go (no l) =
          let e : 2 + (k - 2) ≡ k = omega arith in
          rw e at (nodes (k - 2) (omega arith))

  same : length new ≡ length old
  same = body.kept.same ∙ head.kept.same

  written_over : new ≡ over (tree_bytes t) old
  unfolding over
  written_over =
      ext_get_or 0 new (over (tree_bytes t) old) (same ∙ sym (over-length (tree_bytes t) old (rw (laid-length t) room)))
      (λ k h. go k h (dec_lt k (length (tree_bytes t))))
    where
      go : (k : ℕ) → k < length new → Dec (k < length (tree_bytes t)) → get_or new k 0 ≡ get_or (tree_bytes t ++ drop (length (tree_bytes t)) old) k 0
      go k h (yes l) =
          within k (omega (arith, laid-length t)) ∙ sym (get_or-append (tree_bytes t) (drop (length (tree_bytes t)) old) 0 k l)
      go k h (no l) =
          let n = length (tree_bytes t) in
          let e : n + (k - n) ≡ k = omega arith in
          let kept : get_or new k 0 ≡ get_or old k 0 =
          body.kept.outside k (inr (omega (arith, laid-length t))) ∙ head.kept.outside k (inr (omega (arith, laid-length t))) in
          kept
          ∙ sym (ap (λ j. get_or (tree_bytes t ++ drop n old) j 0) (sym e)
          ∙ (get_or-append-add (tree_bytes t) (drop n old) (k - n) 0 ∙ (get_or-drop n old (k - n) 0 ∙ ap (λ j. get_or old j 0) e)))

-- what is built of a table without a clash
pub builds-tree : (t : Tree) (old mid new : List ℕ) (k : ℕ) → Fitting t (length old) k → PutsWord 0 k old mid → PutsTree t mid new
    → ((k : ℕ) → get_or new k 0 < 256) → Builds (Ok t) old (Ok (2 + 4 * k)) new
builds-tree t old mid new k f head body small =
    let e = fitting t (length old) f.few f.room_for in
    rw f.size
    (record { answer = rw e; bytes = rw e (written_over t old mid new f.few f.room_for (rw f.size at head) body small) })

pub builds-large : (t : Tree) (old : List ℕ) (most : ℕ) (r : Option ℕ) → most ≡ most_in (length old) → r ≡ counted_of most (size_of t)
    → ((k : ℕ) → r ≡ Some k → ⊥) → Builds (Ok t) old (Err TooLarge) old
builds-large t old most r m e g = let f = counted-large t (length old) most r m e g in record { answer = rw f; bytes = rw f }

-- a table of a well-formed description that has no clash
pub ready : (b : List ℕ) (l : Layout) → ((i : ℕ) → get_or b i 0 < 256) → WellFormed b l → (table : Table)
    → table.first + table.count ≤ l.constructors.count
    → clash_of (pattern_from (description b l) table.first) table.count ≡ None → Ready b l.constructors table
ready b l bytes f table within clear =
    record {
      room = f.room.constructors;
      within = within;
      low = omega (arith, f.room.few);
      sound = λ j h. rw (patterns-are b l table.first) (pattern-sound b l bytes f table.first j (rw constructors-length (omega arith)));
      clear = rw (patterns-are b l table.first) clear;
    }

-- .. and its outcome
module _ (d : Description) (first n : ℕ) where
  pub clear-outcome : clash_of (pattern_from d first) n ≡ None → outcome_for d first n ≡ Ok (tree_of first (pattern_from d first) n)
  unfolding outcome_for
  clear-outcome e = rw e

  pub pair-outcome : (i j : ℕ) → clash_of (pattern_from d first) n ≡ Some (i, j) → outcome_for d first n ≡ Err (Clashes (first + i) (first + j))
  unfolding outcome_for
  pair-outcome i j e = rw e
