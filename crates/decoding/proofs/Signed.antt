-- "four signed 64-bit numbers each": every number of a done instruction's rows is one, the values of computed operands too.
use Prim.Native.Nat.{ℕ, zero, suc, ◌+◌, ◌*◌, ◌<◌, ◌^◌}
use mathlib.Core.Bool.{Bool, true, false, cond}
use mathlib.Core.List.{List, [], ◌∷◌, ◌++◌}
use mathlib.Core.Path.{◌≡◌, refl}
use native.Mathlib.Omega.{arith}
use lib.Dec.{leb}
use lib.IntN.{ℤ, pos}
use lib.ListN.{length, get_or, drop, get_or-append}
use Rattle.std.proofs.Common.{Result, Ok, Err}
use Rattle.format.specs.Numbers.{row_numbers}
use Rattle.format.specs.Description.{Description, description, no_field}
use Rattle.format.specs.Expression.{no_expression}
use Rattle.format.specs.Rules.{bits_of}
use Rattle.format.specs.declared.Constructor.{Constructor}
use Rattle.format.specs.declared.Layout.{Layout}
use Rattle.format.specs.declared.Operand.{Operand}
use Rattle.format.proofs.Formation.{RulesHold, obeyed}
use Rattle.fields.specs.Value.{value_of}
use Rattle.fields.specs.Look.{number_of}
use Rattle.fields.proofs.Signs.{number_fits}
use Rattle.fields.proofs.Values.{readable, bits-some, value-small}
use Rattle.whole_numbers.specs.Range.{inside}
use Rattle.whole_numbers.proofs.Kept.{mag-inside}
use Rattle.expressions.proofs.Records.{written}
use Rattle.expressions.proofs.Values.{value-inside}
use Rattle.acceptance.specs.Acceptance.{acceptance_of, accepting}
use Rattle.acceptance.specs.declared.Rejection.{Rejection}
use Rattle.acceptance.proofs.Facts.{accepted-formed}
use Rattle.decoding_spec.specs.Tree.{Row, Node, Nodes, rows_of, rows_of_all, numbers_of}
use Rattle.decoding_spec.specs.Walk.{Result as WalkResult, done, refused}
use Rattle.decoding_spec.specs.Instruction.{counts_of, instruction_of}
use Rattle.decoding_spec.specs.declared.State.{State}
use Rattle.decoding_theorems.specs.Facts.{Each, Shaped, ShapedAll}
use Rattle.decoding_theorems.specs.Relation.{TableWalk, OperandWalk, OperandsWalk, taken, number, name, compute, table, last, next, HasValues, HasValuesAll}
use Rattle.decoding_theorems.proofs.Instructions.{relation}
use Rattle.decoding_theorems.proofs.Records.{field-ok, expression-ok}
use Rattle.decoding_theorems.proofs.Rows.{each_append}
use Rattle.decoding_theorems.proofs.Shapes.{shaped}
use Rattle.decoding.specs.Decoding.{answer_of, buffer_after, decode_of, rows_after}
use Rattle.decoding.specs.declared.DecodeError.TheVariants.{Rejected, NoRoom}
use Rattle.decoding.proofs.Counts.{Few, few-of}
use Rattle.decoding.proofs.Numbers.{numbers-length}

record Signed (r : Row) : Type 0 where
  kind : r.kind < 2 ^ 63
  number : r.number < 2 ^ 63
  start : r.start < 2 ^ 63
  last : inside r.last ≡ true

natural : (n : ℕ) → n < 2 ^ 63 → inside (pos n) ≡ true
natural n h = mag-inside (pos n) h

module _ (d : Description) (o : RulesHold d) (few : Few d) (input : List ℕ) (here after : ℕ) where
  -- field i's value, of at most 32 bits
  field-value : (i : ℕ) (signed : Bool) (at c : ℕ) → i < length d.fields
      → let f = get_or d.fields i no_field in inside (number_of signed (bits_of f) (value_of f (drop at input) c)) ≡ true
  field-value i signed at c h =
      let f = get_or d.fields i no_field in
      let bits = bits-some f (readable (length d.names) f (field-ok d o i h)) in
      mag-inside _ (number_fits signed (bits_of f) (value_of f (drop at input) c) bits.1 (value-small f (drop at input) c)).sfits

  mutual
    unfolding rows_of rows_of_all

    table-signed : {t at l : ℕ} {st st' : State} {n : Node} → TableWalk d input t at st n l st' → (operands : List ℤ)
        → Shaped d n → HasValues d here after operands n → Each Signed (rows_of n)
    table-signed (taken {at = at} {k = k} {l = l} {f = f} c w) operands h v = (
      record {
        kind = omega arith;
        number = omega (arith, h.0, few.constructors);
        start = omega (arith, c.fits.near);
        last = natural l (omega (arith, c.fits.near));
      },
      operands-signed w (counts_of d f) h.2 v,
    )

    operand-signed : {x : Operand} {at l : ℕ} {st st' : State} {n : Node} → OperandWalk d input x at st n l st' → (operands : List ℤ)
        → Shaped d n → HasValues d here after operands n → Each Signed (rows_of n)
    operand-signed (number {at = at} {i = i} {st = st} r q) operands h v = (
      record {
        kind = omega arith;
        number = omega (arith, few.fields);
        start = omega (arith, r.fits.near);
        last = rw q.value (field-value i q.signed at st.context h);
      },
      tt,
    )
    operand-signed (name {v = v} r q) operands h w = (
      record {
        kind = omega arith;
        number = omega (arith, h.0, few.fields);
        start = omega (arith, r.fits.near);
        last = natural v (omega (arith, h.1, few.names));
      },
      tt,
    )
    operand-signed (compute {i = i} {v = v} r) operands h w =
        let e = get_or d.expressions i no_expression in (
          record {
            kind = omega arith;
            number = omega (arith, h.0, few.expressions);
            start = omega (arith, r.fits.near);
            last = value-inside _ e v (written e (expression-ok d o i h.0)).some w;
          },
          tt,
        )
    operand-signed (table z y w) operands h v = table-signed w operands h v

    operands-signed : {k : Constructor} {at left i far far' : ℕ} {ends : List ℕ} {st st' : State} {f : Nodes}
        → OperandsWalk d input k at left i ends far st f far' st' → (operands : List ℤ) → ShapedAll d f → HasValuesAll d here after operands f
        → Each Signed (rows_of_all f)
    operands-signed last operands h v = tt
    operands-signed (next {n = n} {f = f} x r) operands h v =
        each_append Signed (rows_of n) (rows_of_all f) (operand-signed x operands h.0 v.0) (operands-signed r operands h.1 v.1)

-- number k of the rows
number-inside : (rs : List Row) → Each Signed rs → (k : ℕ) → k < row_numbers * length rs → inside (get_or (numbers_of rs) k (pos 0)) ≡ true
unfolding numbers_of
number-inside [] g k h = absurd (omega arith)
number-inside (r ∷ rs) g zero h = natural r.kind g.0.kind
number-inside (r ∷ rs) g (suc zero) h = natural r.number g.0.number
number-inside (r ∷ rs) g (suc (suc zero)) h = natural r.start g.0.start
number-inside (r ∷ rs) g (suc (suc (suc zero))) h = g.0.last
number-inside (r ∷ rs) g (suc (suc (suc (suc k)))) h = number-inside rs g.1 k (omega arith)

-- of an accepted description's instruction
instruction-signed : (b : List ℕ) (l : Layout) → acceptance_of b ≡ Ok l → (c a : ℕ) (s : List ℕ) (n : Node) (size : ℕ) (st : State)
    → instruction_of (description b l) c a s ≡ done n size st → Each Signed (rows_of n)
instruction-signed b l e c a s n size st q =
    let d = description b l in
    let f = accepted-formed b l e in
    let o = obeyed b l f in
    let i = relation d c a s n size st q in
    table-signed d o (few-of b l f) s a (a + size) i.root [] (shaped d o c a s n size st q) i.values

-- "four signed 64-bit numbers each": all that is written of a done instruction, for any bytes as the description and as the code
pub rows-signed : (b : List ℕ) (c a : ℕ) (s : List ℕ) (old : List ℤ) (used : ℕ) → decode_of b c a s (length old) ≡ Ok used
    → (k : ℕ) → k < row_numbers * used → inside (get_or (rows_after b c a s old) k (pos 0)) ≡ true
unfolding decode_of rows_after
rows-signed b c a s old used e k h = go (acceptance_of b) refl e
  where
    written : (n : Node) (t : Bool) → Each Signed (rows_of n) → cond t (Ok (length (rows_of n))) (Err NoRoom) ≡ Ok used
        → inside (get_or (cond t (numbers_of (rows_of n) ++ drop (row_numbers * length (rows_of n)) old) old) k (pos 0)) ≡ true
    written n true g q =
        let count : length (rows_of n) ≡ used = cc in
        rw (get_or-append (numbers_of (rows_of n)) (drop (row_numbers * length (rows_of n)) old) (pos 0) k (omega (arith, numbers-length (rows_of n))))
        (number-inside (rows_of n) g k (omega arith))
    written n false g q = cc

    by : (l : Layout) → acceptance_of b ≡ Ok l → (r : WalkResult Node) → instruction_of (description b l) c a s ≡ r
        → answer_of (length old) r ≡ Ok used → inside (get_or (buffer_after old r) k (pos 0)) ≡ true
    by l p (done n size st) q w =
        written n (leb (row_numbers * length (rows_of n)) (length old)) (instruction-signed b l p c a s n size st q) w
    by l p (refused r) q w = cc

    go : (x : Result Layout Rejection) → acceptance_of b ≡ x → accepting (λ x. Err (Rejected x)) (λ d. answer_of (length old) (instruction_of d c a s)) b x ≡ Ok used
        → inside (get_or (accepting (λ x. old) (λ d. buffer_after old (instruction_of d c a s)) b x) k (pos 0)) ≡ true
    go (Ok l) p q = by l p (instruction_of (description b l) c a s) refl q
    go (Err x) p q = cc
