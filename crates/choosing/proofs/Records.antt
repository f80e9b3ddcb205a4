-- A choice in a table, by records of section 3.
use Prim.Native.Nat.{ℕ, ◌+◌, ◌-◌, ◌<◌}
use mathlib.Core.Bool.{true, false, false≢true}
use mathlib.Core.List.{List}
use mathlib.Core.Path.{◌≡◌, sym, ap, ◌∙◌}
use native.Mathlib.Decide.{ℕ_discrete}
use native.Mathlib.Omega.{arith}
use Rattle.std.specs.Prelude.{Ok, Err}
use Rattle.lists.proofs.Below.{any_found}
use Rattle.format.specs.Description.{Description}
use Rattle.format.specs.Tables.{table_first, table_end}
use Rattle.format.specs.declared.Pattern.{Pattern}
use Rattle.format.proofs.Formation.{RulesHold}
use Rattle.format.proofs.Tables.{in_table, of-table, end-within}
use Rattle.patterns.specs.Matching.{matches}
use Rattle.patterns.specs.Relations.{inside}
use Rattle.choosing_spec.specs.Choosing.{matching, innermost}
use Rattle.choosing_spec.specs.declared.NotChosen.TheVariants.{Short, NoMatch}
use Rattle.choosing_theorems.specs.Taken.{Strict}
use Rattle.choosing_theorems.proofs.Taken.{Below, inner, inner-matches, inner_below, lone-strict, Answer, cut, none, one, torn, answer, choose-taken, taken-strict, no-match}
use Rattle.choosing_spec.specs.Table.{pattern_from, choose_in}
use Rattle.choosing_spec.specs.Records.{pattern_of, MatchesIn, InmostIn, TakenIn, NoneIn}

module _ (d : Description) (o : RulesHold d) (t : ℕ) (s : List ℕ) (c : ℕ) where
  abbrev first : ℕ
  first = table_first d t

  abbrev count : ℕ
  count = table_end d t - table_first d t

  abbrev at : ℕ → Pattern
  at = pattern_from d first

  -- a matching constructor of the table, by its place in it ..
  record Placed (i : ℕ) : Type 0 where
    j : ℕ
    is : first + j ≡ i
    within : j < count
    hits : matching at count s c j ≡ true

  place : (i : ℕ) → MatchesIn d t s c i → Placed i
  unfolding matching pattern_from
  place i m =
      let r = of-table d o t i m.there m.table in
      let e : first + (i - first) ≡ i = omega (arith, r.0) in
      let h : matches (pattern_of d (first + (i - first))) s c ≡ true = rw e m.fits in
      record { j = i - first; is = e; within = omega (arith, r.0, r.1); hits = h }

  -- .. and back
  back : (j : ℕ) → j < count → matching at count s c j ≡ true → MatchesIn d t s c (first + j)
  unfolding matching pattern_from
  back j h e =
      record {
        there = omega (arith, end-within d o t);
        table = in_table d o t (first + j) (omega arith) (omega arith);
        fits = e;
      }

  -- of two matching records, the strict one lies inside the other and not the other inside it
  over : (j : ℕ) → Strict at count s c j → (i : ℕ) → MatchesIn d t s c i → (i ≡ first + j → ⊥)
      → (inside (pattern_of d (first + j)) (pattern_of d i) ≡ true) × (inside (pattern_of d i) (pattern_of d (first + j)) ≡ false)
  unfolding pattern_from
  over j r i m n =
      let p : Placed i = place i m in
      rw (← p.is) (r.above p.j p.within (λ e. n (sym p.is ∙ ap (λ x. first + x) e)) p.hits)

  -- "Taken is the matching constructor inside all other matching ones"
  pub taken_in : (j : ℕ) → choose_in d t s c ≡ Ok j → TakenIn d t s c (first + j)
  taken_in j e =
      record {
        is = record { matching = matched; inmost = λ i m n. (over j strict i m n).0 };
        only = λ i m. go i m (ℕ_discrete i (first + j));
      }
    where
      strict : Strict at count s c j
      strict = taken-strict at count s c j e

      matched : MatchesIn d t s c (first + j)
      matched = back j strict.within strict.matches

      go : (i : ℕ) → InmostIn d t s c i → Dec (i ≡ first + j) → i ≡ first + j
      go i m (yes q) = q
      go i m (no q) =
          absurd (false≢true (sym (over j strict i m.matching q).1 ∙ m.inmost (first + j) matched (λ x. q (sym x))))

  -- "No match, if none matches."
  pub none_in : choose_in d t s c ≡ Err NoMatch → NoneIn d t s c
  none_in e i m =
      let p : Placed i = place i m in
      false≢true (sym (no-match at count s c e p.j p.within).0 ∙ p.hits)

  -- unless the table is short, the one that lies inside all others is taken ..
  pub in_taken : (j : ℕ) → TakenIn d t s c (first + j) → (choose_in d t s c ≡ Err Short → ⊥) → choose_in d t s c ≡ Ok j
  unfolding pattern_from
  in_taken j r f = go (answer at count s c)
    where
      place_of : Placed (first + j)
      place_of = place (first + j) r.is.matching

      same-j : place_of.j ≡ j
      same-j = omega (arith, place_of.is)

      below : Below at count s c j
      below i h n m = r.is.inmost (first + i) (back i h m) (λ e. n (omega arith))

      inmost : (i : ℕ) → i < count → innermost at count s c i ≡ true → InmostIn d t s c (first + i)
      inmost i h e =
          record {
            matching = back i h (inner-matches at count s c i e);
            inmost = λ x m n.
                let p : Placed x = place x m in
                rw (← p.is) (inner_below at count s c i e p.j p.within (λ q. n (sym p.is ∙ ap (λ y. first + y) q)) p.hits);
          }

      strict : Strict at count s c j
      strict =
          lone-strict at count s c j (rw same-j at place_of.within) (inner at count s c j (rw same-j at place_of.hits) below)
          (λ i h e. let q : first + i ≡ first + j = r.only (first + i) (inmost i h e) in omega arith)

      go : Answer at count s c (choose_in d t s c) → choose_in d t s c ≡ Ok j
      go (cut p q) = absurd (f q)
      go (none p m q) = choose-taken at count s c p j strict
      go (one p u w q) = choose-taken at count s c p j strict
      go (torn p m w q) = choose-taken at count s c p j strict

  -- .. and where none matches that is said
  pub in-none : NoneIn d t s c → (choose_in d t s c ≡ Err Short → ⊥) → choose_in d t s c ≡ Err NoMatch
  in-none r f = go (answer at count s c)
    where
      go : Answer at count s c (choose_in d t s c) → choose_in d t s c ≡ Err NoMatch
      go (cut p q) = absurd (f q)
      go (none p m q) = q
      go (one p u w q) = absurd (r (first + u) (back u w.within w.matches))
      go (torn p m w q) =
          let x = any_found (matching at count s c) count m in
          absurd (r (first + x.0) (back x.0 x.1 x.2))
