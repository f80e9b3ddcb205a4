-- A computed operand's expression is evaluated by its record, and the rows are settled one by one.
use Prim.Native.Nat.{ℕ, zero, suc, ◌+◌, ◌-◌, ◌*◌, ◌≤◌, ◌<◌, ◌^◌}
use mathlib.Core.Bool.{Bool, true, false, cond}
use mathlib.Core.List.{List, ◌∷◌}
use mathlib.Core.Path.{◌≡◌, refl, sym, ap, ◌∙◌}
use native.Mathlib.Omega.{arith}
use borrow.Author.Tests.{eqb-true, eq-eqb, ne_eqb}
use lib.Dec.{ltb, eqb}
use lib.IntN.{ℤ, pos}
use lib.Signed.{mag}
use lib.ListN.{length, get_or, set}
use Rattle.format.specs.Numbers.{operands_each}
use Rattle.format.specs.Description.{Description}
use Rattle.format.specs.Expression.{expression_at, no_expression}
use Rattle.std.specs.Prelude.{Option, Some, None, Result, Ok, Err}
use Rattle.whole_numbers.proofs.Kept.{inside-mag}
use Rattle.expressions.specs.Value.{given, value_of, Usable}
use Rattle.expressions.proofs.Records.{written}
use Rattle.expressions.proofs.Values.{value-inside}
use Rattle.decoding_spec.specs.Instruction.{Valued, valued, outside, where_inside}
use Rattle.decoding_theorems.proofs.Records.{expression-ok}
use Rattle.setting.specs.Fixed.{setting_in, expression_start}
use Rattle.setting.proofs.Laws.{obeyed-in, expression-in, expression-inside}
use Rattle.setting.specs.declared.Prepared.{Prepared}
use Rattle.walk_steps.specs.Scratch.{scratch_numbers}
use Rattle.scratch_rows.specs.Places.{kind_at, number_at, start_at, size_at}
use Rattle.instructions.specs.Settling.{with_value, owner_below, count_at, counts_from, counts_at, computed_at, settled_at, settled_from}
use Rattle.instructions.specs.Instructions.{ReadableRows, RowOf, Settles}
use Rattle.decoding_spec.specs.declared.Refusal.{Refusal}
use Rattle.decoding_spec.specs.declared.Refusal.TheVariants.{ValueOutside}
use Rattle.instructions.proofs.Alike.{Alike, alike_same, alike_set}

counts-length : (d : Description) (rows : List ℤ) (row end left : ℕ) → length (counts_from d rows row end left) ≡ left
unfolding counts_from
counts-length d rows row end zero = refl
counts-length d rows row end (suc left) = go (ltb row end) (counts-length d rows (row + size_at rows row) end left) (counts-length d rows row end left)
  where
    go : (t : Bool) → length (counts_from d rows (row + size_at rows row) end left) ≡ left → length (counts_from d rows row end left) ≡ left
        → length (cond t (count_at d rows row ∷ counts_from d rows (row + size_at rows row) end left) (pos 0 ∷ counts_from d rows row end left)) ≡ suc left
    go true a b = ap suc a
    go false a b = ap suc b

module _ (b : List ℕ) (a : Prepared) (rows : List ℤ) (used row : ℕ) (of : RowOf b a rows used row) (three : kind_at rows row ≡ 3) where
  pub index-inside : number_at rows row < length (setting_in b a).description.expressions
  index-inside = (of.readable.row row of.within).expression three

  -- a value that is given is a signed 64-bit number
  pub computed-small : (here after : ℕ) (v : ℤ) → computed_at (setting_in b a).description here after rows row ≡ Some v → mag v < 2 ^ 63
  unfolding computed_at
  computed-small here after v e =
      let x = get_or (setting_in b a).description.expressions (number_at rows row) no_expression in
      inside-mag v (value-inside _ x v (written x (expression-ok (setting_in b a).description (obeyed-in b a of.fixed) (number_at rows row) index-inside)).some e)

  module _ (place : ℕ) (is : place ≡ expression_start a (number_at rows row)) where
    same : get_or (setting_in b a).description.expressions (number_at rows row) no_expression ≡ expression_at b place
    same = rw is (expression-in b a (number_at rows row) index-inside)

    module _ (owner : ℕ) (counts : List ℤ) (c : counts ≡ counts_at (setting_in b a).description rows owner) where
      pub usable_at : Usable b place (length counts)
      unfolding counts_at
      usable_at =
          let eight : length counts ≡ operands_each = rw c (counts-length (setting_in b a).description rows (owner + 1) (owner + size_at rows owner) operands_each) in
          record {
            within = rw is (expression-inside b a (number_at rows row) of.fixed index-inside);
            right = rw (← same) (expression-ok (setting_in b a).description (obeyed-in b a of.fixed) (number_at rows row) index-inside);
            names = rw (eight, ← same) ((of.readable.row row of.within).names three);
          }

      pub computed-is : (here after : ℕ) → owner ≡ owner_below rows row row
          → value_of (given counts here after) (expression_at b place) ≡ computed_at (setting_in b a).description here after rows row
      unfolding computed_at
      computed-is here after e = rw (← same, c, e)

-- rows that are read alike stay readable
readable-alike : (d : Description) (a b : List ℤ) (used : ℕ) → length b ≡ length a → Alike a b → ReadableRows d a used → ReadableRows d b used
readable-alike d a b used long h r =
    record {
      long = long ∙ r.long;
      few = r.few;
      row = λ q l.
          let o = r.row q l in
          record {
            ends = rw (h.size q) o.ends;
            near = rw (h.start q) o.near;
            field = λ k. rw (h.number q) (o.field (sym (h.kind q) ∙ k));
            name = λ k.
                let k' = sym (h.kind q) ∙ k in
                rw (h.last q (λ z. omega (arith, k'))) (o.name k');
            expression = λ k. rw (h.number q) (o.expression (sym (h.kind q) ∙ k));
            names = λ k. rw (h.number q) (o.names (sym (h.kind q) ∙ k));
          };
    }

module _ (d : Description) (here after : ℕ) (rows : List ℤ) (row : ℕ) where
  abbrev Comes : Result (Unit {0}) Refusal → List ℤ → Type 0
  Comes r new = Settles (settled_at d here after rows row) r new

  pub settle-plain : (kind_at rows row ≡ 3 → ⊥) → Comes (Ok tt) rows
  unfolding settled_at
  settle-plain k = rw (ne_eqb (kind_at rows row) 3 k) (refl, refl)

  module _ (three : kind_at rows row ≡ 3) (w : Option ℤ) (is : w ≡ computed_at d here after rows row) where
    pub settle-outside : w ≡ None → (new : List ℤ) (place : ℕ) → place ≡ start_at rows row → Comes (Err (ValueOutside place)) new
    unfolding settled_at
    settle-outside e new place p = rw (eq-eqb (kind_at rows row) 3 three, ← is, e) (ap (λ (k : ℕ). Err (ValueOutside k)) p)

    pub settle_value : (v : ℤ) → w ≡ Some v → Comes (Ok tt) (set rows (scratch_numbers * row + 3) v)
    unfolding settled_at
    settle_value v e = rw (eq-eqb (kind_at rows row) 3 three, ← is, e) (refl, refl)

-- the rows before this one are settled
pub record SettledTo (d : Description) (here after used : ℕ) (old now : List ℤ) (row : ℕ) : Type 0 where
  pub few : row ≤ used
  pub whole : settled_from d here after now row (used - row) ≡ settled_from d here after old 0 used
  pub readable : ReadableRows d now used
  pub kept : length now ≡ length old

pub settled-none : (d : Description) (here after used : ℕ) (old : List ℤ) → ReadableRows d old used → SettledTo d here after used old old 0
settled-none d here after used old r = let z : used - 0 ≡ used = omega arith in record { few = omega arith; whole = rw z; readable = r; kept = refl }

module _ (d : Description) (here after used : ℕ) (old now : List ℤ) (row : ℕ) (s : SettledTo d here after used old now row) where
  pub settled-all : used ≤ row → Settles (settled_from d here after old 0 used) (Ok tt) now
  unfolding settled_from
  settled-all h = let z : used - row ≡ 0 = omega arith in rw (← s.whole, z) (refl, refl)

  module _ (h : row < used) (r : Result (Unit {0}) Refusal) (new : List ℤ) (settles : Settles (settled_at d here after now row) r new) where
    left : used - row ≡ suc (used - (row + 1))
    left = omega arith

    step : settled_from d here after old 0 used ≡ where_inside (settled_at d here after now row) (λ rows. settled_from d here after rows (row + 1) (used - (row + 1)))
    unfolding settled_from
    step = sym s.whole ∙ ap (settled_from d here after now row) left

    pub settled-stop : (x : Refusal) → r ≡ Err x → (end : List ℤ) → Settles (settled_from d here after old 0 used) (Err x) end
    settled-stop x e end = rw step (go (settled_at d here after now row) settles)
      where
        go : (v : Valued (List ℤ)) → Settles v r new → Settles (where_inside v (λ rows. settled_from d here after rows (row + 1) (used - (row + 1)))) (Err x) end
        go (valued rows) q = cc q.0
        go (outside p) q = sym e ∙ q

    pub settled-next : r ≡ Ok tt → length new ≡ length now → SettledTo d here after used old new (row + 1)
    unfolding settled_at
    settled-next e long = go (settled_at d here after now row) refl settles
      where
        alike : (w : Option ℤ) (t : Bool) → eqb (kind_at now row) 3 ≡ t → cond t (with_value now row w) (valued now) ≡ valued new → Alike now new
        alike (Some v) true p q =
            let z : set now (scratch_numbers * row + 3) v ≡ new = cc in
            rw (← z) (alike_set now now row v (alike_same now) (eqb-true (kind_at now row) 3 p))
        alike None true p q = cc
        alike w false p q = let z : now ≡ new = cc in rw (← z) (alike_same now)

        go : (v : Valued (List ℤ)) → settled_at d here after now row ≡ v → Settles v r new → SettledTo d here after used old new (row + 1)
        go (valued rows) p q =
            let same : settled_at d here after now row ≡ valued new = p ∙ ap valued (sym q.1) in
            record {
              few = omega arith;
              whole = sym (step ∙ ap (λ (v : Valued (List ℤ)). where_inside v (λ rows. settled_from d here after rows (row + 1) (used - (row + 1)))) same);
              readable = readable-alike d now new used long (alike (computed_at d here after now row) (eqb (kind_at now row) 3) refl same) s.readable;
              kept = long ∙ s.kept;
            }
        go (outside x) p q = cc
