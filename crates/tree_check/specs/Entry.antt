-- The check of a tree, for any bytes: "Order: 1, 12, 11", then demand 3's answer.
use Rattle.std.specs.Prelude.{ℕ, ◌-◌, Bool, true, false, List, [], ◌∷◌, ◌≡◌, Option, Some, None, Result, Ok, Err}
use Rattle.format.specs.Description.{Description, description}
use Rattle.format.specs.Rules.{has_table}
use Rattle.format.specs.Tables.{table_first, table_end}
use Rattle.acceptance.specs.Acceptance.{acceptance_of, rejection_number, rejection_values}
use Rattle.acceptance.specs.declared.Rejection.{Rejection}
use Rattle.format.specs.declared.Layout.{Layout}
use Rattle.choosing_spec.specs.Table.{pattern_from}
use Rattle.tree_spec.specs.Form.{form_of}
use Rattle.tree_spec.specs.Verdicts.{VerdictFor}
use Rattle.tree_spec.specs.declared.WrongLeaf.{WrongLeaf}
use Rattle.tree_check.specs.declared.TreeError.{TreeError}
use Rattle.tree_check.specs.declared.TreeError.TheVariants.{Rejected, NoTable, BadTree}

-- the first wrong leaf, if there is one
abbrev pub Answer : Type 0
Answer = Result (Option WrongLeaf) TreeError

-- a tree for constructors `first` on, n of them: 11 with the node by its form, or accepted or a wrong leaf as demand 3 says
abbrev pub ByForm : Description → ℕ → ℕ → List ℕ → Result Unit ℕ → Answer → Type 0
ByForm d first n tree (Err k) r = r ≡ Err (BadTree k)
ByForm d first n tree (Ok u) r = (v : Option WrongLeaf) × (r ≡ Ok v) × VerdictFor first (pattern_from d first) n tree v

abbrev pub ForRecords : Description → ℕ → ℕ → List ℕ → Answer → Type 0
ForRecords d first n tree r = ByForm d first n tree (form_of first n tree) r

-- 12 where the description has no such table
abbrev pub ByTable : Description → ℕ → List ℕ → Bool → Answer → Type 0
ByTable d t tree false r = r ≡ Err (NoTable t)
ByTable d t tree true r = ForRecords d (table_first d t) (table_end d t - table_first d t) tree r

abbrev pub ForTable : Description → ℕ → List ℕ → Answer → Type 0
ForTable d t tree r = ByTable d t tree (has_table d t) r

-- a rejection where the bytes are not accepted as a description
abbrev pub ByAcceptance : List ℕ → ℕ → List ℕ → Result Layout Rejection → Answer → Type 0
ByAcceptance b t tree (Err x) r = r ≡ Err (Rejected x)
ByAcceptance b t tree (Ok l) r = ForTable (description b l) t tree r

-- bytes b as the description, table t, any bytes as the tree
abbrev pub Answers : List ℕ → ℕ → List ℕ → Answer → Type 0
Answers b t tree r = ByAcceptance b t tree (acceptance_of b) r

-- the answer's number in document 01's table: a wrong leaf is an answer, not a refusal ..
abbrev pub number_of : Answer → ℕ
number_of (Ok v) = 0
number_of (Err (Rejected x)) = rejection_number x
number_of (Err (NoTable t)) = 12
number_of (Err (BadTree k)) = 11

-- .. and its values, unused ones 0: 0 for accepted, or 1, the node, the eight bytes as a little-endian number, the context
abbrev pub values_of : Answer → List ℕ
values_of (Ok None) = 0 ∷ 0 ∷ 0 ∷ 0 ∷ []
values_of (Ok (Some w)) = 1 ∷ w.node ∷ w.word ∷ w.context ∷ []
values_of (Err (Rejected x)) = rejection_values x
values_of (Err (NoTable t)) = t ∷ 0 ∷ 0 ∷ 0 ∷ []
values_of (Err (BadTree k)) = k ∷ 0 ∷ 0 ∷ 0 ∷ []

-- the number and the values of an answer that is allowed: the example against a wrong leaf is left open
abbrev pub Reported : List ℕ → ℕ → List ℕ → ℕ → List ℕ → Type 0
Reported b t tree number values = (a : Answer) × Answers b t tree a × (number ≡ number_of a) × (values ≡ values_of a)
