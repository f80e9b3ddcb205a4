-- What the words settle is what choosing answers.
use Prim.Native.Nat.{ℕ, ◌+◌, ◌*◌, ◌<◌}
use mathlib.Core.Bool.{Bool, true, false, not}
use mathlib.Core.List.{List}
use mathlib.Core.Path.{◌≡◌, refl, sym, ap, fun_ext, ◌∙◌}
use native.Mathlib.Decide.{dec_lt}
use native.Mathlib.Omega.{arith}
use lib.Dec.{lit<}
use lib.ListN.{get_or, get_or-eq_default}
use Rattle.std.specs.Prelude.{Result, Ok, Err}
use Rattle.lists.specs.Below.{any_below}
use Rattle.lists.proofs.Below.{any_found}
use Rattle.format.specs.Description.{description, records_of, constructors_of, no_constructor}
use Rattle.format.specs.declared.Layout.{Layout}
use Rattle.format.specs.declared.Pattern.{Pattern}
use Rattle.format.specs.Numbers.{constructor_bytes}
use Rattle.format.specs.Record.{pattern_at, constructor_at}
use Rattle.format.specs.declared.Section.{Section}
use Rattle.format.proofs.Lists.{record-here, records-length}
use Rattle.patterns.specs.Matching.{cut_off}
use Rattle.patterns.specs.Words.{Small, input_of}
use Rattle.patterns.specs.declared.Input.{Input}
use Rattle.patterns.proofs.Bytes.{Holds, long-small, quad-small, input-holds}
use Rattle.patterns.proofs.Words.{agrees-is, whole_is, matches-is}
use Rattle.choosing_spec.specs.Choosing.{choose, short, matching}
use Rattle.choosing_spec.specs.declared.NotChosen.{NotChosen}
use Rattle.choosing_spec.specs.declared.NotChosen.TheVariants.{Short, NoMatch, Ambiguous}
use Rattle.choosing_theorems.specs.Taken.{Strict}
use Rattle.choosing_theorems.proofs.None.{none-at}
use Rattle.choosing_theorems.proofs.Taken.{choose-short, choose-taken, choose-ambiguous, no-match-back}
use Rattle.choosing_spec.specs.Table.{pattern_from}
use Rattle.choosing.specs.Patterns.{pattern_in}
use Rattle.choosing.specs.Scan.{word_short, word_match, Inmost, ChoiceHolds}

-- a pattern is read at its record's place
pub pattern-here : (b : List ℕ) (s : Section) (first j : ℕ) → first + j < s.count → pattern_at b (s.start + constructor_bytes * (first + j)) ≡ pattern_in b s first j
unfolding pattern_in
pattern-here b s first j h = ap (λ r. r.pattern) (sym (record-here constructor_at constructor_bytes b s (first + j) no_constructor h))

-- patterns that are read from bytes fit their words
module _ (b : List ℕ) (bytes : (i : ℕ) → get_or b i 0 < 256) where
  pub patterns-small : (s : Section) (first j : ℕ) → Small (pattern_in b s first j)
  unfolding pattern_in
  patterns-small s first j = go (dec_lt (first + j) s.count)
    where
      at : ℕ
      at = s.start + constructor_bytes * (first + j)

      go : Dec (first + j < s.count) → Small (get_or (records_of constructor_at constructor_bytes b s) (first + j) no_constructor).pattern
      go (yes h) =
          rw (record-here constructor_at constructor_bytes b s (first + j) no_constructor h)
          (record {
            mask = quad-small b bytes (at + 2);
            value = quad-small b bytes (at + 10);
            contextmask = long-small b bytes (at + 18);
            contextvalue = long-small b bytes (at + 22);
          })
      go (no h) =
          let e : get_or (records_of constructor_at constructor_bytes b s) (first + j) no_constructor ≡ no_constructor = get_or-eq_default (records_of constructor_at constructor_bytes b s) no_constructor (rw (records-length constructor_at constructor_bytes b s) (omega arith)) in
          rw e (record { mask = lit< tt; value = lit< tt; contextmask = lit< tt; contextvalue = lit< tt })

-- a description's patterns are those of its constructors' section
pub patterns-are : (b : List ℕ) (l : Layout) (first : ℕ) → pattern_in b l.constructors first ≡ pattern_from (description b l) first
unfolding pattern_in pattern_from constructors_of
patterns-are b l first = refl

-- so choosing by the section is choosing in the description
pub described : (b : List ℕ) (l : Layout) (first n : ℕ) (s : List ℕ) (c : ℕ) (q : Result ℕ NotChosen) → choose (pattern_in b l.constructors first) n s c ≡ q
    → choose (pattern_from (description b l) first) n s c ≡ q
described b l first n s c q e = rw (← patterns-are b l first) e

pub rows-small : (b : List ℕ) (l : Layout) (bytes : (i : ℕ) → get_or b i 0 < 256) (first j : ℕ) → Small (pattern_from (description b l) first j)
rows-small b l bytes first j = rw (← patterns-are b l first) (patterns-small b bytes l.constructors first j)

twice : (a : Bool) → not (not a) ≡ a
twice true = refl
twice false = refl

module _ (at : ℕ → Pattern) (n : ℕ) (s : List ℕ) (c : ℕ) (i : Input) (small : (j : ℕ) → Small (at j)) (bytes : (k : ℕ) → get_or s k 0 < 256)
    (is : i ≡ input_of s c) where
  held : Holds s c i
  held = rw is (input-holds s c bytes)

  short-is : (j : ℕ) → word_short at i j ≡ short at n s c j
  unfolding short cut_off
  short-is j = rw (agrees-is (at j) s c i (small j) held, whole_is (at j) s c i (small j) held, twice)

  match_is : (j : ℕ) → word_match at i j ≡ matching at n s c j
  unfolding matching
  match_is j =
      rw (agrees-is (at j) s c i (small j) held, whole_is (at j) s c i (small j) held) (sym (matches-is (at j) s c))

  strict : (t : ℕ) → Inmost at (word_match at i) n t → Strict at n s c t
  strict t m =
      record {
        within = m.within;
        matches = sym (match_is t) ∙ m.hits;
        above = λ j h x y. m.above j h x (match_is j ∙ y);
      }

  inmost : (t : ℕ) → Strict at n s c t → Inmost at (word_match at i) n t
  inmost t m =
      record {
        within = m.within;
        hits = match_is t ∙ m.matches;
        above = λ j h x y. m.above j h x (sym (match_is j) ∙ y);
      }

  pub cut_short : any_below n (word_short at i) ≡ true → Err Short ≡ choose at n s c
  cut_short e =
      let r = any_found (word_short at i) n e in
      sym (choose-short at n s c r.0 r.1 (sym (short-is r.0) ∙ r.2))

  pub settled : any_below n (word_short at i) ≡ false → (r : Result ℕ NotChosen) → ChoiceHolds at (word_match at i) n r → r ≡ choose at n s c
  settled e (Err Short) m = absurd m
  settled e (Err NoMatch) m =
      sym (no-match-back at n s c (λ j h. (sym (match_is j) ∙ none-at (word_match at i) n m j h, sym (short-is j) ∙ none-at (word_short at i) n e j h)))
  settled e (Ok t) m = sym (choose-taken at n s c (ap (any_below n) (fun_ext (λ j. sym (short-is j))) ∙ e) t (strict t m))
  settled e (Err Ambiguous) m =
      sym
      (choose-ambiguous at n s c (ap (any_below n) (fun_ext (λ j. sym (short-is j))) ∙ e) (ap (any_below n) (fun_ext (λ j. sym (match_is j))) ∙ m.0)
      (λ t x. m.1 t (inmost t x)))
