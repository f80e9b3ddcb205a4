-- Rows that a tree has left: they are sound, and their text is the tree's.
use Prim.Native.Nat.{ℕ, zero, suc, ◌+◌, ◌-◌, ◌≤◌, ◌<◌}
use mathlib.Core.List.{List, [], ◌++◌}
use mathlib.Core.Path.{◌≡◌, refl, ap, ◌∙◌}
use native.Mathlib.Decide.{ℕ_discrete, dec_lt}
use native.Mathlib.Omega.{arith}
use borrow.Author.Tests.{eq-eqb, ne_eqb}
use lib.IntN.{ℤ, nat_abs}
use lib.ListN.{length, get_or, length-append}
use Rattle.format.specs.Numbers.{most_rows}
use Rattle.format.specs.Description.{Description, no_constructor}
use Rattle.format.specs.declared.Piece.{Piece}
use Rattle.format.proofs.Formation.{RulesHold}
use Rattle.decoding_spec.specs.Tree.{Node, Nodes, built, numbered, named, computed, none, more}
use Rattle.decoding_theorems.specs.Facts.{Shaped, ShapedAll, count_of}
use Rattle.walk_steps.specs.Scratch.{scratch_length, sized_of, sized_of_all, scratch_of, written}
use Rattle.walk_steps.proofs.Writing.{written-length}
use Rattle.scratch_rows.specs.Places.{kind_at, number_at, last_at, size_at, skip}
use Rattle.scratch_rows.proofs.Standing.{Stands, rows-some, stands-first, kind-is, number_is, last-is, part-size, neighbours, inner, stands-all}
use Rattle.text.specs.Text.{piece_text, pieces_text, constructor_text, text_of, texts_of}
use Rattle.text.specs.Places.{text_at, SoundRows, Showable}
use Rattle.text.proofs.Pieces.{showable}

by_cases : {P Q : Type 0} → Dec P → (P → Q) → ((P → ⊥) → Q) → Q
by_cases (yes p) f g = f p
by_cases (no p) f g = g p

-- a constructor's pieces ask for no other texts than its operands'
module _ (d : Description) (o : RulesHold d) (k : ℕ) (h : k < length d.constructors) (f g : ℕ → List ℕ)
    (same : (n : ℕ) → 1 ≤ n → n ≤ (get_or d.constructors k no_constructor).operands.count → f n ≡ g n) where
  piece-same : (p : Piece) → Showable d (get_or d.constructors k no_constructor) p → piece_text d f p ≡ piece_text d g p
  unfolding piece_text
  piece-same p s =
      by_cases (ℕ_discrete p.kind 0) (λ z. rw (eq-eqb p.kind 0 z))
      (λ z. rw (ne_eqb p.kind 0 z) (same p.n (s.some z) (s.few z)))

  pieces-same : (count : ℕ) → count ≤ (get_or d.constructors k no_constructor).pieces.count
      → pieces_text d f (get_or d.constructors k no_constructor).pieces.first count
      ≡ pieces_text d g (get_or d.constructors k no_constructor).pieces.first count
  unfolding pieces_text
  pieces-same zero l = refl
  pieces-same (suc count) l = rw (pieces-same count (omega arith), piece-same _ (showable d o k h count (omega arith)))

  constructor-same : constructor_text d k f ≡ constructor_text d k g
  unfolding constructor_text
  constructor-same = pieces-same (get_or d.constructors k no_constructor).pieces.count (omega arith)

module _ (rows : List ℤ) where
  -- each of the neighbours has its row among theirs
  skip-within : (f : Nodes) (r : ℕ) (rest : List ℤ) → Stands rows r (sized_of_all f) rest → (j : ℕ) → j < count_of f
      → (r ≤ skip rows r j) × (skip rows r j < r + length (sized_of_all f))
  unfolding skip count_of sized_of_all
  skip-within none r rest h j l = absurd (omega arith)
  skip-within (more n f) r rest h zero l =
      let few = length-append (sized_of n) (sized_of_all f) in
      (omega arith, omega (arith, few, rows-some n))
  skip-within (more n f) r rest h (suc j) l =
      let few = length-append (sized_of n) (sized_of_all f) in
      let size = part-size rows n r (scratch_of (sized_of_all f) ++ rest) (stands-first rows r (sized_of n) (sized_of_all f) rest h) in
      let next = skip-within f (r + size_at rows r) rest (neighbours rows n f r rest h) j (omega arith) in
      (omega (arith, next.0), omega (arith, next.1))

  module _ (d : Description) where
    -- what `SoundRows` says of one row, where the rows end at `end`
    record SoundRow (end r : ℕ) : Type 0 where
      constructors : kind_at rows r ≡ 0 → number_at rows r < length d.constructors
      operands : kind_at rows r ≡ 0 → (j : ℕ) → j < (get_or d.constructors (number_at rows r) no_constructor).operands.count
          → (r < skip rows (r + 1) j) × (skip rows (r + 1) j < end)
      fields : kind_at rows r ≡ 1 → number_at rows r < length d.fields
      names : (kind_at rows r ≡ 0 → ⊥) → (kind_at rows r ≡ 1 → ⊥) → (kind_at rows r ≡ 3 → ⊥) → nat_abs (last_at rows r) < length d.names

    -- a part's first row
    first-sound : (n : Node) (r : ℕ) (rest : List ℤ) → Shaped d n → Stands rows r (sized_of n) rest → SoundRow (r + length (sized_of n)) r
    unfolding sized_of
    first-sound (built k s l f) r rest shaped h =
        let kind = kind-is rows r _ (sized_of_all f) rest h in
        let number = number_is rows r _ (sized_of_all f) rest h in
        record {
          constructors = λ z. omega (arith, shaped.0);
          operands = λ z j b.
              let within = skip-within f (r + 1) rest (inner rows k s l f r rest h) j (rw shaped.1 (rw number at b)) in
              (omega (arith, within.0), omega (arith, within.1));
          fields = λ z. absurd (omega arith);
          names = λ z y x. absurd (z kind);
        }
    first-sound (numbered i s v) r rest shaped h =
        let kind = kind-is rows r _ [] rest h in
        let number = number_is rows r _ [] rest h in
        record {
          constructors = λ z. absurd (omega arith);
          operands = λ z j b. absurd (omega arith);
          fields = λ z. omega arith;
          names = λ z y x. absurd (y kind);
        }
    first-sound (named i s n) r rest shaped h =
        let kind = kind-is rows r _ [] rest h in
        let last = ap nat_abs (last-is rows r _ [] rest h) in
        record {
          constructors = λ z. absurd (omega arith);
          operands = λ z j b. absurd (omega arith);
          fields = λ z. absurd (omega arith);
          names = λ z y x. omega (arith, shaped.1);
        }
    first-sound (computed i s v) r rest shaped h =
        let kind = kind-is rows r _ [] rest h in
        record {
          constructors = λ z. absurd (omega arith);
          operands = λ z j b. absurd (omega arith);
          fields = λ z. absurd (omega arith);
          names = λ z y x. absurd (x kind);
        }

    longer : (a b r : ℕ) → a ≤ b → SoundRow a r → SoundRow b r
    longer a b r h s =
        record {
          constructors = s.constructors;
          operands = λ z j l. ((s.operands z j l).0, omega (arith, (s.operands z j l).1));
          fields = s.fields;
          names = s.names;
        }

    module _ (end : ℕ) where
      -- a part's first row, or one of the others
      either : (n : Node) (r : ℕ) (rest : List ℤ) → Shaped d n → Stands rows r (sized_of n) rest → r + length (sized_of n) ≤ end
          → (q : ℕ) → r ≤ q → (r < q → SoundRow end q) → SoundRow end q
      either n r rest shaped h e q l f =
          by_cases (dec_lt r q) f
          (λ p. let z : q ≡ r = omega arith in rw z (longer (r + length (sized_of n)) end r e (first-sound n r rest shaped h)))

      mutual
        unfolding sized_of sized_of_all

        part_sound : (n : Node) (r : ℕ) (rest : List ℤ) → Shaped d n → Stands rows r (sized_of n) rest → r + length (sized_of n) ≤ end
            → (q : ℕ) → r ≤ q → q < r + length (sized_of n) → SoundRow end q
        part_sound (built k s l f) r rest shaped h e q a b =
            either (built k s l f) r rest shaped h e q a
            (λ c. parts-sound f (r + 1) rest shaped.2 (inner rows k s l f r rest h) (omega arith) q (omega arith) (omega arith))
        part_sound (numbered i s v) r rest shaped h e q a b = either (numbered i s v) r rest shaped h e q a (λ c. absurd (omega arith))
        part_sound (named i s n) r rest shaped h e q a b = either (named i s n) r rest shaped h e q a (λ c. absurd (omega arith))
        part_sound (computed i s v) r rest shaped h e q a b = either (computed i s v) r rest shaped h e q a (λ c. absurd (omega arith))

        parts-sound : (f : Nodes) (r : ℕ) (rest : List ℤ) → ShapedAll d f → Stands rows r (sized_of_all f) rest → r + length (sized_of_all f) ≤ end
            → (q : ℕ) → r ≤ q → q < r + length (sized_of_all f) → SoundRow end q
        parts-sound none r rest shaped h e q a b = absurd (omega arith)
        parts-sound (more n f) r rest shaped h e q a b =
            let few = length-append (sized_of n) (sized_of_all f) in
            let own = stands-first rows r (sized_of n) (sized_of_all f) rest h in
            let size = part-size rows n r (scratch_of (sized_of_all f) ++ rest) own in
            by_cases (dec_lt q (r + length (sized_of n)))
            (λ p. part_sound n r (scratch_of (sized_of_all f) ++ rest) shaped.0 own (omega arith) q a p)
            (λ p. parts-sound f (r + size_at rows r) rest shaped.1 (neighbours rows n f r rest h) (omega arith) q (omega arith) (omega arith))

    -- the text by the places is the tree's, where the depth leaves none of its rows out
    module _ (o : RulesHold d) where
      mutual
        unfolding sized_of sized_of_all count_of skip text_at text_of texts_of

        part-text : (n : Node) (r depth : ℕ) (rest : List ℤ) → Shaped d n → Stands rows r (sized_of n) rest → length (sized_of n) ≤ depth
            → text_at d rows depth r ≡ text_of d n
        part-text (built k s l f) r zero rest shaped h b = absurd (omega arith)
        part-text (built k s l f) r (suc depth) rest shaped h b =
            let kind = kind-is rows r _ (sized_of_all f) rest h in
            let number = number_is rows r _ (sized_of_all f) rest h in
            rw (eq-eqb (kind_at rows r) 0 kind, number)
            (constructor-same d o k shaped.0 (λ n. text_at d rows depth (skip rows (r + 1) (n - 1))) (λ n. get_or (texts_of d f) (n - 1) [])
            (λ n some few. parts-text f (r + 1) depth rest shaped.2 (inner rows k s l f r rest h) (omega arith) (n - 1) (omega (arith, shaped.1))))
        part-text (numbered i s v) r zero rest shaped h b = absurd (omega arith)
        part-text (numbered i s v) r (suc depth) rest shaped h b =
            let kind = kind-is rows r _ [] rest h in
            let number = number_is rows r _ [] rest h in
            let last = last-is rows r _ [] rest h in
            rw (kind, number, last)
        part-text (named i s n) r zero rest shaped h b = absurd (omega arith)
        part-text (named i s n) r (suc depth) rest shaped h b =
            let kind = kind-is rows r _ [] rest h in
            let last = last-is rows r _ [] rest h in
            rw (kind, last)
        part-text (computed i s v) r zero rest shaped h b = absurd (omega arith)
        part-text (computed i s v) r (suc depth) rest shaped h b =
            let kind = kind-is rows r _ [] rest h in
            let last = last-is rows r _ [] rest h in
            rw (kind, last)

        parts-text : (f : Nodes) (r depth : ℕ) (rest : List ℤ) → ShapedAll d f → Stands rows r (sized_of_all f) rest → length (sized_of_all f) ≤ depth
            → (j : ℕ) → j < count_of f → text_at d rows depth (skip rows r j) ≡ get_or (texts_of d f) j []
        parts-text none r depth rest shaped h l j c = absurd (omega arith)
        parts-text (more n f) r depth rest shaped h l zero c =
            part-text n r depth (scratch_of (sized_of_all f) ++ rest) shaped.0 (stands-first rows r (sized_of n) (sized_of_all f) rest h)
            (omega (arith, length-append (sized_of n) (sized_of_all f)))
        parts-text (more n f) r depth rest shaped h l (suc j) c =
            parts-text f (r + size_at rows r) depth rest shaped.1 (neighbours rows n f r rest h)
            (omega (arith, length-append (sized_of n) (sized_of_all f))) j (omega arith)

-- the scratch rows that a tree has left, from the first on
module _ (n : Node) (old : List ℤ) (long : length old ≡ scratch_length) where
  module _ (d : Description) (shaped : Shaped d n) (few : length (sized_of n) ≤ most_rows) where
    pub sound-tree : SoundRows d (written 0 (sized_of n) old) (length (sized_of n))
    sound-tree =
        record {
          long = written-length 0 (sized_of n) old (omega arith) ∙ long;
          few = few;
          constructors = λ r l. (row r l).constructors;
          operands = λ r l. (row r l).operands;
          fields = λ r l. (row r l).fields;
          names = λ r l. (row r l).names;
        }
      where
        row : (r : ℕ) → r < length (sized_of n) → SoundRow (written 0 (sized_of n) old) d (length (sized_of n)) r
        row r l = part_sound (written 0 (sized_of n) old) d (length (sized_of n)) n 0 _ shaped (stands-all n old long) (omega arith) r (omega arith) (omega arith)

    pub text-tree : RulesHold d → text_at d (written 0 (sized_of n) old) (suc most_rows) 0 ≡ text_of d n
    text-tree o = part-text (written 0 (sized_of n) old) d o n 0 (suc most_rows) _ shaped (stands-all n old long) (omega arith)
