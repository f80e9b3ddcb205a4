-- What is fixed, of its description; a table's range by it, and the choice in it.
use Prim.Native.Nat.{ℕ, ◌+◌, ◌-◌, ◌≤◌, ◌<◌}
use mathlib.Core.Bool.{Bool, true, false}
use mathlib.Core.List.{List}
use mathlib.Core.Path.{◌≡◌, refl, sym, ap, ◌∙◌}
use native.Mathlib.Omega.{arith}
use lib.ListN.{length, get_or}
use Rattle.format.specs.Numbers.{tables, most_constructors, expression_bytes}
use Rattle.format.specs.Expression.{expression_at, no_expression}
use Rattle.format.specs.Check.{WellFormed}
use Rattle.format.specs.Description.{Description, description}
use Rattle.format.specs.Tables.{root_of, table_first, table_end}
use Rattle.format.specs.declared.Layout.{Layout}
use Rattle.format.proofs.Formation.{RulesHold, obeyed}
use Rattle.format.proofs.Lists.{constructors-length, expressions-length, expression-here}
use Rattle.format.proofs.Tables.{end_is, first-within, end-within}
use Rattle.tables.specs.Starts.{table_starts}
use Rattle.tables.proofs.FirstConstructors.{start-at}
use Rattle.tables.specs.declared.Table.{Table}
use Rattle.tables.proofs.Range.{in-section, root-end}
use Rattle.choosing_spec.specs.Choosing.{choose}
use Rattle.std.specs.Prelude.{Result, Ok}
use Rattle.choosing_spec.specs.declared.NotChosen.{NotChosen}
use Rattle.choosing_spec.specs.Table.{pattern_from}
use Rattle.choosing_theorems.proofs.Taken.{taken-facts}
use Rattle.decoding_spec.specs.State.{with_total}
use Rattle.decoding_spec.specs.Walk.{numbered_from, choice_in}
use Rattle.decoding_theorems.proofs.Records.{root-low}
use Rattle.setting.specs.Fixed.{fixed_of, with_length, expression_start, setting_in, Fixed}
use Rattle.setting.specs.declared.Prepared.{Prepared}
use Rattle.setting.specs.Ranges.{RangeOf, chosen_among}

-- each record obeys its rules
pub obeyed-in : (b : List ℕ) (a : Prepared) → Fixed b a → RulesHold (setting_in b a).description
unfolding setting_in
obeyed-in b a f = obeyed b a.layout f.formed

pub some_in : (b : List ℕ) (a : Prepared) → Fixed b a → 1 ≤ length (setting_in b a).description.constructors
unfolding setting_in
some_in b a f = rw (constructors-length b a.layout) f.formed.room.some

pub few-in : (b : List ℕ) (a : Prepared) → Fixed b a → length (setting_in b a).description.constructors ≤ most_constructors
unfolding setting_in
few-in b a f = rw (constructors-length b a.layout) f.formed.room.few

-- what `fill` makes is of its description
pub fixed-of : (b : List ℕ) (l : Layout) (gather : Bool) → WellFormed b l → Fixed b (fixed_of (description b l) l gather)
fixed-of b l true f = record { formed = f; gathered = λ starts e. let z : table_starts (description b l) ≡ starts = cc in sym z }
fixed-of b l false f = record { formed = f; gathered = λ starts e. cc }

pub setting-of : (b : List ℕ) (l : Layout) (gather : Bool) → (setting_in b (fixed_of (description b l) l gather)).description ≡ description b l
unfolding setting_in
setting-of b l gather = refl

-- told an input's length
module _ (b : List ℕ) (a : Prepared) (n : ℕ) where
  pub fixed-for : Fixed b a → Fixed b (with_length n a)
  fixed-for f = record { formed = f.formed; gathered = f.gathered }

  pub setting-for : setting_in b (with_length n a) ≡ with_total n (setting_in b a)
  unfolding setting_in
  setting-for = refl

module _ (d : Description) (o : RulesHold d) (t : ℕ) (low : t < tables) (starts : List ℕ) (are : starts ≡ table_starts d) where
  at : (k : ℕ) → k ≤ tables → get_or starts k 0 ≡ table_first d k
  at k h = rw are (start-at d k h)

  here : get_or starts t 0 ≡ table_first d t
  here = at t (omega arith)

  next : get_or starts (t + 1) 0 ≡ table_end d t
  next = at (t + 1) (omega arith) ∙ sym (end_is d t)

  pub in_order : get_or starts t 0 ≤ get_or starts (t + 1) 0
  in_order = rw (here, next) (first-within d o t)

  pub gathered-range : RangeOf d t (record { first = get_or starts t 0; count = get_or starts (t + 1) 0 - get_or starts t 0 })
  gathered-range = record { first = here; count = rw (here, next) }

module _ (d : Description) (o : RulesHold d) (t : ℕ) (r : Table) (range : RangeOf d t r) where
  pub range_inside : r.first + r.count ≤ length d.constructors
  range_inside = in-section d o t r.first r.count range.first range.count

  pub chosen : (s : List ℕ) (c : ℕ) → chosen_among d r s c ≡ choice_in d t s c
  unfolding choice_in
  chosen s c = rw (range.count, range.first)

-- by what was chosen
module _ (d : Description) (r : Table) (s : List ℕ) (c : ℕ) (q : Result ℕ NotChosen) (e : choose (pattern_from d r.first) r.count s c ≡ q) where
  pub among : numbered_from r.first q ≡ chosen_among d r s c
  among = ap (numbered_from r.first) (sym e)

pub taken-inside : (d : Description) (r : Table) (s : List ℕ) (c j : ℕ) → choose (pattern_from d r.first) r.count s c ≡ Ok j
    → r.first + r.count ≤ length d.constructors → r.first + j < length d.constructors
taken-inside d r s c j e h = omega (arith, (taken-facts (pattern_from d r.first) r.count s c j e).within)

-- the root's range, where the tables' first constructors were gathered
module _ (d : Description) (o : RulesHold d) (some : 1 ≤ length d.constructors) (starts : List ℕ) (are : starts ≡ table_starts d)
    (n : ℕ) (e : n ≡ length d.constructors) where
  first : get_or starts (root_of d) 0 ≡ table_first d (root_of d)
  first = (gathered-range d o (root_of d) (root-low d o some) starts are).first

  pub root-first-within : get_or starts (root_of d) 0 ≤ n
  root-first-within = omega (arith, first, first-within d o (root_of d), end-within d o (root_of d))

  pub gathered-root : RangeOf d (root_of d) (record { first = get_or starts (root_of d) 0; count = n - get_or starts (root_of d) 0 })
  gathered-root = record { first = first; count = rw (first, root-end d o some, e) }

-- the input's length
pub total-in : (b : List ℕ) (a : Prepared) → (setting_in b a).total ≡ a.total
unfolding setting_in
total-in b a = refl

-- the expression that stands there
pub expression-in : (b : List ℕ) (a : Prepared) (i : ℕ) → i < length (setting_in b a).description.expressions
    → get_or (setting_in b a).description.expressions i no_expression ≡ expression_at b (expression_start a i)
unfolding setting_in
expression-in b a i h = expression-here b a.layout i (rw expressions-length at h)

-- it lies inside the bytes
pub expression-inside : (b : List ℕ) (a : Prepared) (i : ℕ) → Fixed b a → i < length (setting_in b a).description.expressions
    → expression_start a i + expression_bytes ≤ length b
unfolding setting_in
expression-inside b a i f h = let e : i < a.layout.expressions.count = rw expressions-length at h in omega (arith, f.formed.room.expressions)
