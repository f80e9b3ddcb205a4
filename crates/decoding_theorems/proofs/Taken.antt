-- What choosing takes in a table is one of the table's constructors.
use Prim.Native.Nat.{ℕ, ◌+◌, ◌-◌, ◌≤◌, ◌<◌}
use mathlib.Core.List.{List}
use mathlib.Core.Path.{◌≡◌, refl, ap, ◌∙◌}
use native.Mathlib.Omega.{arith}
use lib.ListN.{length}
use Rattle.format.specs.Description.{Description}
use Rattle.format.specs.Rules.{table_at}
use Rattle.format.specs.Tables.{table_first, table_end}
use Rattle.format.proofs.Formation.{RulesHold}
use Rattle.format.proofs.Tables.{in_table, end-within}
use Rattle.std.specs.Prelude.{Result, Ok, Err}
use Rattle.choosing_spec.specs.declared.NotChosen.{NotChosen}
use Rattle.choosing_spec.specs.declared.NotChosen.TheVariants.{NoMatch}
use Rattle.choosing_spec.specs.Table.{pattern_from, choose_in}
use Rattle.choosing_theorems.proofs.Taken.{taken-facts}
use Rattle.decoding_spec.specs.Walk.{numbered_from, choice_in}

-- record n of section 3 is record `within` of its table
record Numbered (first : ℕ) (q : Result ℕ NotChosen) (n : ℕ) : Type 0 where
  within : ℕ
  is : q ≡ Ok within
  number : n ≡ first + within

numbered-taken : (first n : ℕ) (q : Result ℕ NotChosen) → numbered_from first q ≡ Ok n → Numbered first q n
numbered-taken first n (Ok j) e = let z : first + j ≡ n = cc in record { within = j; is = refl; number = omega arith }
numbered-taken first n (Err why) e = cc

numbered-none : (first : ℕ) (q : Result ℕ NotChosen) → numbered_from first q ≡ Err NoMatch → q ≡ Err NoMatch
numbered-none first (Ok j) e = cc
numbered-none first (Err why) e = e

module _ (d : Description) (c t : ℕ) (s : List ℕ) where
  -- constructor k is taken in table t, for the bytes s
  pub record Takes (k : ℕ) : Type 0 where
    pub within : k < length d.constructors
    pub table : table_at d k ≡ t
    pub from : table_first d t ≤ k
    pub taken : choose_in d t s c ≡ Ok (k - table_first d t)

  pub takes : RulesHold d → (k : ℕ) → choice_in d t s c ≡ Ok k → Takes k
  unfolding choice_in
  takes o k e =
      let r = numbered-taken (table_first d t) k (choose_in d t s c) e in
      let h = (taken-facts (pattern_from d (table_first d t)) (table_end d t - table_first d t) s c r.within r.is).within in
      let below : k < table_end d t = omega (arith, r.number) in
      record {
        within = omega (arith, end-within d o t);
        table = in_table d o t k (omega (arith, r.number)) below;
        from = omega (arith, r.number);
        taken = r.is ∙ ap Ok (omega (arith, r.number));
      }

  pub none-taken : choice_in d t s c ≡ Err NoMatch → choose_in d t s c ≡ Err NoMatch
  unfolding choice_in
  none-taken e = numbered-none (table_first d t) (choose_in d t s c) e
