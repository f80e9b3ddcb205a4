-- The values put in row by row are those that the tree has.
use Prim.Native.Nat.{ℕ, suc, ◌+◌, ◌-◌, ◌*◌, ◌≤◌, ◌<◌}
use mathlib.Core.Bool.{Bool, true, false, cond}
use mathlib.Core.List.{List, [], ◌∷◌, ◌++◌, append_assoc}
use mathlib.Core.Path.{◌≡◌, refl, sym, ap, ◌∙◌}
use native.Mathlib.Decide.{dec_lt}
use native.Mathlib.Omega.{arith}
use borrow.Author.Tests.{eqb-true, ne_eqb}
use lib.Dec.{eqb}
use lib.IntN.{ℤ, pos}
use lib.ListN.{length, get_or, drop, set, replicate, length-append}
use lib.Seq.{drop_at, set-append_seam}
use Rattle.format.specs.Numbers.{operands_each}
use Rattle.format.specs.Description.{Description}
use Rattle.format.specs.Expression.{no_expression}
use Rattle.format.proofs.Formation.{RulesHold}
use Rattle.std.specs.Prelude.{Option, Some, None}
use Rattle.decoding_spec.specs.Tree.{Node, Nodes, built, numbered, named, computed, none, more}
use Rattle.decoding_spec.specs.Instruction.{Valued, valued, outside, where_inside, computed_as, counts_of, expression_value, with_values, with_values_all}
use Rattle.decoding_theorems.specs.Facts.{Built, Shaped, ShapedAll, count_of}
use Rattle.decoding_theorems.proofs.Records.{usable}
use Rattle.walk_steps.specs.Scratch.{scratch_numbers, scratch_length, SizedRow, sized, sized_of, sized_of_all, scratch_of, written, put_at}
use Rattle.walk_steps.proofs.Writing.{scratch-length}
use Rattle.scratch_rows.specs.Places.{kind_at, size_at}
use Rattle.scratch_rows.proofs.Standing.{rows-some, scratch-split, Stands, stands-first, kind-is, number_is, start_is, part-size, neighbours, inner, stands-all}
use Rattle.instructions.specs.Settling.{with_value, owner_below, counts_at, computed_at, settled_at, settled_from}
use Rattle.expressions.proofs.Values.{value-padded}
use Rattle.instructions.proofs.Alike.{Alike, alike_same, alike_set, computed-alike}
use Rattle.instructions.proofs.Owners.{owner-is, part-ends, counts-are}

-- ---- rows with their values, where each row's value is given by its place

abbrev value_row : SizedRow → Option ℤ → Valued SizedRow
value_row x (Some v) = valued (sized x.row.kind x.row.number x.row.start v x.size)
value_row x None = outside x.row.start

module _ (value : ℕ → Option ℤ) where
  unfoldable row_with_value : ℕ → SizedRow → Valued SizedRow
  row_with_value r x = cond (eqb x.row.kind 3) (value_row x (value r)) (valued x)

  unfoldable rows_with_values : ℕ → List SizedRow → Valued (List SizedRow)
  rows_with_values r [] = valued []
  rows_with_values r (x ∷ xs) = where_inside (row_with_value r x) λ x. where_inside (rows_with_values (r + 1) xs) λ xs. valued (x ∷ xs)

-- what is made of a value is made later
later : {A B C : Type 0} (r : Valued A) (f : A → Valued B) (g : B → Valued C) → where_inside (where_inside r f) g ≡ where_inside r (λ a. where_inside (f a) g)
later (valued a) f g = refl
later (outside p) f g = refl

inside-same : {A B : Type 0} (r : Valued A) (f g : A → Valued B) → ((a : A) → f a ≡ g a) → where_inside r f ≡ where_inside r g
inside-same (valued a) f g h = h a
inside-same (outside p) f g h = refl

-- ---- the tree's rows

module _ (d : Description) (here after : ℕ) (value : ℕ → Option ℤ) where
  -- the value at each computed operand's row is its expression's, for a constructor whose operands count as these
  abbrev mutual
    ValuesAt : ℕ → List ℤ → Node → Type 0
    ValuesAt r operands (built k s l f) = ValuesAtAll (r + 1) (counts_of d f) f
    ValuesAt r operands (numbered i s v) = Unit {0}
    ValuesAt r operands (named i s n) = Unit {0}
    ValuesAt r operands (computed i s v) = value r ≡ expression_value d here after operands i

    ValuesAtAll : ℕ → List ℤ → Nodes → Type 0
    ValuesAtAll r operands none = Unit {0}
    ValuesAtAll r operands (more n f) = ValuesAt r operands n × ValuesAtAll (r + length (sized_of n)) operands f

  -- a row that is no computed operand's
  plain_row : (r : ℕ) (x : SizedRow) → (x.row.kind ≡ 3 → ⊥) → row_with_value value r x ≡ valued x
  unfolding row_with_value
  plain_row r x z = rw (ne_eqb x.row.kind 3 z)

  append-values : (r : ℕ) (a b : List SizedRow)
      → rows_with_values value r (a ++ b)
      ≡ where_inside (rows_with_values value r a) λ x. where_inside (rows_with_values value (r + length a) b) λ y. valued (x ++ y)
  unfolding rows_with_values
  append-values r [] b = let z : r + 0 ≡ r = omega arith in rw z (go (rows_with_values value r b))
    where
      go : (v : Valued (List SizedRow)) → v ≡ where_inside v (λ y. valued y)
      go (valued y) = refl
      go (outside p) = refl
  append-values r (x ∷ a) b =
      let z : r + length (x ∷ a) ≡ r + 1 + length a = omega arith in
      rw (z, append-values (r + 1) a b) (go (row_with_value value r x) (rows_with_values value (r + 1) a) (rows_with_values value (r + 1 + length a) b))
    where
      go : (p : Valued SizedRow) (q u : Valued (List SizedRow))
          → where_inside p (λ x. where_inside (where_inside q (λ x. where_inside u (λ y. valued (x ++ y)))) (λ xs. valued (x ∷ xs)))
          ≡ where_inside (where_inside p (λ x. where_inside q (λ xs. valued (x ∷ xs)))) (λ x. where_inside u (λ y. valued (x ++ y)))
      go (valued x) (valued xs) (valued y) = refl
      go (valued x) (valued xs) (outside p) = refl
      go (valued x) (outside p) u = refl
      go (outside p) q u = refl

  -- there are as many as before
  values_length : (r : ℕ) (xs ys : List SizedRow) → rows_with_values value r xs ≡ valued ys → length ys ≡ length xs
  unfolding rows_with_values
  values_length r [] ys e = let z : [] ≡ ys = cc in rw (← z)
  values_length r (x ∷ xs) ys e = go (row_with_value value r x) (rows_with_values value (r + 1) xs) (λ zs h. values_length (r + 1) xs zs h) refl e
    where
      go : (p : Valued SizedRow) (q : Valued (List SizedRow))
          → ((zs : List SizedRow) → rows_with_values value (r + 1) xs ≡ valued zs → length zs ≡ length xs) → rows_with_values value (r + 1) xs ≡ q
          → where_inside p (λ x. where_inside q (λ xs. valued (x ∷ xs))) ≡ valued ys → length ys ≡ length (x ∷ xs)
      go (valued y) (valued zs) same h w = let z : y ∷ zs ≡ ys = cc in rw (← z) (ap suc (same zs h))
      go (valued y) (outside p) same h w = cc
      go (outside p) q same h w = cc

  mutual
    unfolding sized_of sized_of_all with_values with_values_all rows_with_values row_with_value

    -- the rows with their values are those of the tree with its values
    node-values : (n : Node) (r : ℕ) (operands : List ℤ) → ValuesAt r operands n
        → rows_with_values value r (sized_of n) ≡ where_inside (with_values d here after operands n) (λ m. valued (sized_of m))
    node-values (built k s l f) r operands h =
        let own = nodes-values f (r + 1) (counts_of d f) h in
        rw own (go (with_values_all d here after (counts_of d f) f) own)
      where
        go : (w : Valued Nodes) → rows_with_values value (r + 1) (sized_of_all f) ≡ where_inside w (λ g. valued (sized_of_all g))
            → where_inside (where_inside w (λ g. valued (sized_of_all g))) (λ xs. valued (sized 0 k s (pos l) (suc (length (sized_of_all f))) ∷ xs))
            ≡ where_inside (where_inside w (λ g. valued (built k s l g))) (λ m. valued (sized_of m))
        go (valued g) e = rw (values_length (r + 1) (sized_of_all f) (sized_of_all g) e)
        go (outside p) e = refl
    node-values (numbered i s v) r operands h = refl
    node-values (named i s n) r operands h = refl
    node-values (computed i s v) r operands h = rw h (go (expression_value d here after operands i))
      where
        go : (w : Option ℤ) → where_inside (value_row (sized 3 i s v 1) w) (λ x. valued (x ∷ [])) ≡ where_inside (computed_as i s w) (λ m. valued (sized_of m))
        go (Some u) = refl
        go None = refl

    nodes-values : (f : Nodes) (r : ℕ) (operands : List ℤ) → ValuesAtAll r operands f
        → rows_with_values value r (sized_of_all f) ≡ where_inside (with_values_all d here after operands f) (λ g. valued (sized_of_all g))
    nodes-values none r operands h = refl
    nodes-values (more n f) r operands h =
        append-values r (sized_of n) (sized_of_all f)
        ∙ rw (node-values n r operands h.0, nodes-values f (r + length (sized_of n)) operands h.1)
        (go (with_values d here after operands n) (with_values_all d here after operands f))
      where
        go : (p : Valued Node) (q : Valued Nodes)
            → where_inside (where_inside p (λ m. valued (sized_of m))) (λ x. where_inside (where_inside q (λ g. valued (sized_of_all g))) (λ y. valued (x ++ y)))
            ≡ where_inside (where_inside p (λ m. where_inside q (λ g. valued (more m g)))) (λ g. valued (sized_of_all g))
        go (valued m) (valued g) = refl
        go (valued m) (outside p) = refl
        go (outside p) q = refl

-- ---- the cells

-- a row with another last number
abbrev valued_row : SizedRow → ℤ → SizedRow
valued_row x v = sized x.row.kind x.row.number x.row.start v x.size

-- put into the first row behind those that are passed
put-value : (passed xs : List SizedRow) (x : SizedRow) (rest : List ℤ) (r : ℕ) (v : ℤ) → r ≡ length passed
    → set (scratch_of (passed ++ (x ∷ xs)) ++ rest) (scratch_numbers * r + 3) v ≡ scratch_of (passed ++ (valued_row x v ∷ xs)) ++ rest
unfolding scratch_of
put-value passed xs x rest r v e =
    let three : List ℤ = pos x.row.kind ∷ pos x.row.number ∷ pos x.row.start ∷ [] in
    let front = scratch_of passed ++ three in
    let back = pos x.size ∷ (scratch_of xs ++ rest) in
    let whole : (u : ℤ) → scratch_of (passed ++ (valued_row x u ∷ xs)) ++ rest ≡ front ++ (u ∷ back) =
    λ u. scratch-split passed (valued_row x u ∷ xs) rest ∙ sym (append_assoc (scratch_of passed) three (u ∷ back)) in
    let place : scratch_numbers * r + 3 ≡ length front = omega (arith, length-append (scratch_of passed) three, scratch-length passed) in
    rw (place, whole x.row.last) (set-append_seam front x.row.last back v ∙ sym (whole v))

module _ (passed : List SizedRow) (rest : List ℤ) where
  abbrev cells : List SizedRow → Valued (List ℤ)
  cells ys = valued (scratch_of (passed ++ ys) ++ rest)

  -- a row more is passed
  seam : (y : SizedRow) (r : Valued (List SizedRow))
      → where_inside r (λ ys. valued (scratch_of ((passed ++ (y ∷ [])) ++ ys) ++ rest)) ≡ where_inside (where_inside r (λ ys. valued (y ∷ ys))) cells
  seam y (valued ys) = ap (λ (l : List SizedRow). valued (scratch_of l ++ rest)) (append_assoc passed (y ∷ []) ys)
  seam y (outside p) = refl

module _ (d : Description) (here after : ℕ) (first : List ℤ) where
  abbrev value : ℕ → Option ℤ
  value r = computed_at d here after first r

  -- row by row
  cells-values : (xs passed : List SizedRow) (rest now : List ℤ) (r : ℕ) → Alike first now → r ≡ length passed → now ≡ scratch_of (passed ++ xs) ++ rest
      → settled_from d here after now r (length xs) ≡ where_inside (rows_with_values value r xs) (cells passed rest)
  unfolding settled_from settled_at rows_with_values row_with_value Stands
  cells-values [] passed rest now r alike e is = ap valued is
  cells-values (x ∷ xs) passed rest now r alike e is =
      go (eqb x.row.kind 3) refl
      (λ y now' h q. cells-values xs (passed ++ (y ∷ [])) rest now' (r + 1) h (omega (arith, length-append passed (y ∷ []))) q)
    where
      stands : Stands now r (x ∷ xs) rest
      stands = ap (drop (scratch_numbers * r)) (is ∙ scratch-split passed (x ∷ xs) rest) ∙ drop_at (scratch_of passed) (scratch_of (x ∷ xs) ++ rest) (scratch_numbers * r) (scratch-length passed ∙ omega arith)

      kind : kind_at now r ≡ x.row.kind
      kind = kind-is now r x xs rest stands

      After : Type 0
      After =
          (y : SizedRow) (now' : List ℤ) → Alike first now' → now' ≡ scratch_of ((passed ++ (y ∷ [])) ++ xs) ++ rest
          → settled_from d here after now' (r + 1) (length xs) ≡ where_inside (rows_with_values value (r + 1) xs) (λ ys. valued (scratch_of ((passed ++ (y ∷ [])) ++ ys) ++ rest))

      by_value : eqb x.row.kind 3 ≡ true → (w : Option ℤ) → After
          → where_inside (with_value now r w) (λ rows. settled_from d here after rows (r + 1) (length xs))
          ≡ where_inside (where_inside (value_row x w) (λ x. where_inside (rows_with_values value (r + 1) xs) (λ ys. valued (x ∷ ys)))) (cells passed rest)
      by_value t (Some v) next =
          next (valued_row x v) (set now (scratch_numbers * r + 3) v) (alike_set first now r v alike (kind ∙ eqb-true x.row.kind 3 t))
          (ap (λ (l : List ℤ). set l (scratch_numbers * r + 3) v) is ∙ put-value passed xs x rest r v e
          ∙ ap (λ (l : List SizedRow). scratch_of l ++ rest) (sym (append_assoc passed (valued_row x v ∷ []) xs)))
          ∙ seam passed rest (valued_row x v) (rows_with_values value (r + 1) xs)
      by_value t None next = ap outside (start_is now r x xs rest stands)

      go : (t : Bool) → eqb x.row.kind 3 ≡ t → After
          → where_inside (settled_at d here after now r) (λ rows. settled_from d here after rows (r + 1) (length xs))
          ≡ where_inside (where_inside (row_with_value value r x) (λ x. where_inside (rows_with_values value (r + 1) xs) (λ ys. valued (x ∷ ys)))) (cells passed rest)
      go true t next = rw (kind, t, computed-alike first now alike d here after r) (by_value t (value r) next)
      go false t next =
          rw (kind, t)
          (next x now alike (is ∙ ap (λ (l : List SizedRow). scratch_of l ++ rest) (sym (append_assoc passed (x ∷ []) xs)))
          ∙ seam passed rest x (rows_with_values value (r + 1) xs))

-- ---- the values by the places are those of the tree

module _ (d : Description) (o : RulesHold d) (here after : ℕ) (rows : List ℤ) where
  abbrev worth : List ℤ → ℕ → Option ℤ
  worth operands i = expression_value d here after operands i

  -- whether a part has a value of its own
  abbrev Own : Node → Type 0
  Own (built k s l f) = ⊥
  Own (numbered i s v) = ⊥
  Own (named i s n) = ⊥
  Own (computed i s v) = Unit {0}

  -- no operand up to the next one reaches past it
  closed-behind : (k p : ℕ) (n : Node) (rest : List ℤ) → Stands rows p (sized_of n) rest → ((j : ℕ) → k < j → j < p → j + size_at rows j ≤ p)
      → (j : ℕ) → k < j → j < p + length (sized_of n) → j + size_at rows j ≤ p + length (sized_of n)
  closed-behind k p n rest h closed j a b = go (dec_lt j p)
    where
      go : Dec (j < p) → j + size_at rows j ≤ p + length (sized_of n)
      go (yes q) = omega (arith, closed j a q)
      go (no q) = part-ends rows n p rest h j (omega arith) b

  mutual
    unfolding sized_of sized_of_all count_of computed_at counts_at

    -- a part at row r, where the operands gathered for that row are as good as these
    node-holds : (n : Node) (r : ℕ) (operands rest : List ℤ) → Stands rows r (sized_of n) rest → Shaped d n
        → (Own n → (i : ℕ) → worth (counts_at d rows (owner_below rows r r)) i ≡ worth operands i) → ValuesAt d here after (value d here after rows) r operands n
    node-holds (built k s l f) r operands rest h shaped own =
        let end : r + size_at rows r ≡ r + 1 + length (sized_of_all f) = omega (arith, part-size rows (built k s l f) r rest h) in
        let few : count_of f ≤ operands_each = rw shaped.1 (usable d o k shaped.0).few in
        let gathered = counts-are rows d f (r + 1) (r + size_at rows r) operands_each rest (inner rows k s l f r rest h) end few in
        nodes-hold f r (r + 1) (counts_of d f) rest (inner rows k s l f r rest h) shaped.2
        (λ i. ap (λ (l : List ℤ). worth l i) gathered ∙ value-padded (counts_of d f) (operands_each - count_of f) here after (get_or d.expressions i no_expression))
        (omega arith) (λ j a b. absurd (omega arith)) (omega arith)
    node-holds (numbered i s v) r operands rest h shaped own = tt
    node-holds (named i s n) r operands rest h shaped own = tt
    node-holds (computed i s v) r operands rest h shaped own = ap (worth (counts_at d rows (owner_below rows r r))) (number_is rows r _ [] rest h) ∙ own tt i

    -- operands of the constructor at row k from row p on, where none before them reaches past p
    nodes-hold : (f : Nodes) (k p : ℕ) (operands rest : List ℤ) → Stands rows p (sized_of_all f) rest → ShapedAll d f
        → ((i : ℕ) → worth (counts_at d rows k) i ≡ worth operands i) → k < p → ((j : ℕ) → k < j → j < p → j + size_at rows j ≤ p)
        → p + length (sized_of_all f) ≡ k + size_at rows k → ValuesAtAll d here after (value d here after rows) p operands f
    nodes-hold none k p operands rest h shaped own low closed end = tt
    nodes-hold (more n f) k p operands rest h shaped own low closed end =
        let few = length-append (sized_of n) (sized_of_all f) in
        let here = stands-first rows p (sized_of n) (sized_of_all f) rest h in
        let size = part-size rows n p _ here in
        let owner = owner-is rows p k p low (omega (arith, few, rows-some n)) closed in (
          node-holds n p operands _ here shaped.0 (λ z i. ap (λ (k : ℕ). worth (counts_at d rows k) i) owner ∙ own i),
          nodes-hold f k (p + length (sized_of n)) operands rest (rw size at (neighbours rows n f p rest h)) shaped.1 own (omega arith)
              (λ j a b. closed-behind k p n _ here closed j a b) (omega (arith, few)),
        )

-- ---- the whole tree

module _ (d : Description) (o : RulesHold d) (here after : ℕ) where
  abbrev empty : List ℤ
  empty = replicate scratch_length (pos 0)

  tree-holds : (n : Node) (rows rest : List ℤ) → Built n → Stands rows 0 (sized_of n) rest → Shaped d n
      → ValuesAt d here after (value d here after rows) 0 [] n
  tree-holds (built k s l f) rows rest b h shaped = node-holds d o here after rows (built k s l f) 0 [] rest h shaped (λ z. absurd z)
  tree-holds (numbered i s v) rows rest b h shaped = absurd b
  tree-holds (named i s n) rows rest b h shaped = absurd b
  tree-holds (computed i s v) rows rest b h shaped = absurd b

  -- the rows that the walk has left, settled, are those of the tree with its values
  pub settled-tree : (n : Node) → Built n → Shaped d n
      → settled_from d here after (written 0 (sized_of n) empty) 0 (length (sized_of n))
      ≡ where_inside (with_values d here after [] n) (λ m. valued (written 0 (sized_of m) empty))
  unfolding written put_at
  settled-tree n b shaped =
      cells-values d here after rows (sized_of n) [] rest rows 0 (alike_same rows) refl (there n refl)
      ∙ rw (node-values d here after (value d here after rows) n 0 [] (tree-holds n rows rest b (stands-all n empty refl) shaped))
      (go (with_values d here after [] n) refl)
    where
      rows : List ℤ
      rows = written 0 (sized_of n) empty

      rest : List ℤ
      rest = drop (0 + length (scratch_of (sized_of n))) empty

      there : (m : Node) → length (sized_of m) ≡ length (sized_of n) → written 0 (sized_of m) empty ≡ scratch_of (sized_of m) ++ rest
      there m e =
          ap (λ (k : ℕ). scratch_of (sized_of m) ++ drop (0 + k) empty) (scratch-length (sized_of m) ∙ ap (λ (k : ℕ). scratch_numbers * k) e ∙ sym (scratch-length (sized_of n)))

      go : (w : Valued Node) → with_values d here after [] n ≡ w
          → where_inside (where_inside w (λ m. valued (sized_of m))) (cells [] rest) ≡ where_inside w (λ m. valued (written 0 (sized_of m) empty))
      go (valued m) e =
          let values = node-values d here after (value d here after rows) n 0 [] (tree-holds n rows rest b (stands-all n empty refl) shaped) in
          let same = values_length d here after (value d here after rows) 0 (sized_of n) (sized_of m) (values ∙ rw e) in
          ap valued (sym (there m same))
      go (outside p) e = refl
