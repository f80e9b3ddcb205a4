-- Demand 3's "exactly": what the tree check may answer is one answer, but for the example against a wrong leaf.
use Prim.Native.Nat.{ℕ, ◌-◌, ◌<◌}
use mathlib.Core.Bool.{Bool, true, false, false≢true}
use mathlib.Core.List.{List}
use mathlib.Core.Path.{◌≡◌, refl, sym, ◌∙◌}
use native.Mathlib.Decide.{dec_lt}
use native.Mathlib.Omega.{arith}
use Rattle.std.specs.Prelude.{Option, Some, None, Result, Ok, Err}
use Rattle.format.specs.Description.{Description, description}
use Rattle.format.specs.Rules.{has_table}
use Rattle.format.specs.Tables.{table_first, table_end}
use Rattle.format.specs.declared.Pattern.{Pattern}
use Rattle.acceptance.specs.Acceptance.{acceptance_of}
use Rattle.acceptance.specs.declared.Rejection.{Rejection}
use Rattle.format.specs.declared.Layout.{Layout}
use Rattle.choosing_spec.specs.Table.{pattern_from}
use Rattle.tree_spec.specs.Form.{form_of}
use Rattle.tree_spec.specs.Verdicts.{bytes_of, Accepts, Rejects, VerdictFor}
use Rattle.tree_spec.specs.declared.WrongLeaf.{WrongLeaf}
use Rattle.tree_check.specs.Entry.{Answer, ByForm, ByTable, ByAcceptance, Answers}
use Rattle.tree_check.specs.Facts.{Alike}

module _ (first : ℕ) (at : ℕ → Pattern) (n : ℕ) (b : List ℕ) where
  -- no tree is both accepted and rejected
  pub never_both : (i w c : ℕ) → Accepts first at n b → Rejects first at n b i w c → ⊥
  never_both i w c a r = false≢true (sym (rw r.reached at (a.all (bytes_of 8 w) c r.input)) ∙ r.wrong)

  -- no rejection names a node before another's
  not-before : (i w c j x y : ℕ) → Rejects first at n b i w c → Rejects first at n b j x y → i < j → ⊥
  not-before i w c j x y r q h =
      false≢true (sym (rw r.reached at (q.earlier (bytes_of 8 w) c r.input (rw r.reached h))) ∙ r.wrong)

  -- two rejections name the same node
  pub same-node : (i w c j x y : ℕ) → Rejects first at n b i w c → Rejects first at n b j x y → i ≡ j
  same-node i w c j x y r q = go (dec_lt i j) (dec_lt j i)
    where
      go : Dec (i < j) → Dec (j < i) → i ≡ j
      go (yes h) z = absurd (not-before i w c j x y r q h)
      go (no h) (yes z) = absurd (not-before j x y i w c q r z)
      go (no h) (no z) = omega arith

  alike : (u v : Option WrongLeaf) → VerdictFor first at n b u → VerdictFor first at n b v → Alike (Ok u) (Ok v)
  alike None None r q = refl
  alike None (Some v) r q = absurd (never_both v.node v.word v.context r q)
  alike (Some u) None r q = absurd (never_both u.node u.word u.context q r)
  alike (Some u) (Some v) r q = (v.word, v.context, rw (same-node u.node u.word u.context v.node v.word v.context r q))

-- two answers that are allowed
pub answers-alike : (b : List ℕ) (t : ℕ) (tree : List ℕ) (r q : Answer) → Answers b t tree r → Answers b t tree q → Alike r q
answers-alike b t tree r q = by-acceptance (acceptance_of b)
  where
    by_form : (d : Description) (first n : ℕ) (f : Result Unit ℕ) → ByForm d first n tree f r → ByForm d first n tree f q → Alike r q
    by_form d first n (Err k) x y = rw x y
    by_form d first n (Ok u) x y = rw (x.1, y.1) (alike first (pattern_from d first) n tree x.0 y.0 x.2 y.2)

    by-table : (d : Description) (h : Bool) → ByTable d t tree h r → ByTable d t tree h q → Alike r q
    by-table d false x y = rw x y
    by-table d true x y =
        by_form d (table_first d t) (table_end d t - table_first d t) (form_of (table_first d t) (table_end d t - table_first d t) tree) x y

    by-acceptance : (k : Result Layout Rejection) → ByAcceptance b t tree k r → ByAcceptance b t tree k q → Alike r q
    by-acceptance (Err k) x y = rw x y
    by-acceptance (Ok l) x y = by-table (description b l) (has_table (description b l) t) x y
