-- The word of field operands, bit by bit.
use Prim.Native.Nat.{ℕ, ◌+◌, ◌-◌, ◌*◌, ◌^◌, ◌≤◌, ◌<◌}
use mathlib.Core.Bool.{Bool, true, false, cond}
use Rattle.lists.proofs.Bools.{or_yes, and_no}
use mathlib.Core.Path.{◌≡◌, refl, sym, ap, fun_ext, ◌∙◌}
use native.Mathlib.Decide.{dec_lt}
use native.Mathlib.Omega.{arith}
use borrow.Author.Tests.{le-leb, lt-leb}
use lib.Dec.{leb, eqb}
use lib.Pow.{pow-add, pow_mono}
use lib.ListN.{length, get_or, get_or-eq_default}
use Rattle.bits.specs.Bits.{is_set}
use Rattle.bits.proofs.Digits.{low_bit, high_bit}
use Rattle.expressions.proofs.Names.{beyond}
use Rattle.format.specs.Numbers.{operands_each}
use Rattle.format.specs.Description.{Description}
use Rattle.format.specs.Expression.{no_expression, writes_expression, names_only}
use Rattle.format.specs.Rules.{operand_of, field_operand, expression_fits}
use Rattle.format.specs.declared.Constructor.{Constructor}
use Rattle.format.specs.declared.Operand.{Operand}
use Rattle.rules.specs.FieldOperands.{with_bit, FieldBits}

-- a word below 2 ^ m with bit m, if it is to be set
module _ (m word : ℕ) (h : word < 2 ^ m) where
  joined : (set : Bool) → with_bit word (2 ^ m) set ≡ word + 2 ^ m * cond set 1 0
  joined true = omega arith
  joined false = omega arith

  with-below : (set : Bool) (n : ℕ) → n < m → is_set (with_bit word (2 ^ m) set) n ≡ is_set word n
  with-below set n l = ap (λ x. is_set x n) (joined set) ∙ ap (λ x. eqb x 1) (low_bit m word (cond set 1 0) n h l)

  with-here : (set : Bool) → is_set (with_bit word (2 ^ m) set) m ≡ set
  with-here set =
      let z : m - m ≡ 0 = omega arith in
      ap (λ x. is_set x m) (joined set)
      ∙ (ap (λ x. eqb x 1) (high_bit m word (cond set 1 0) m h (omega arith)) ∙ (ap (is_set (cond set 1 0)) z ∙ first set))
    where
      first : (set : Bool) → is_set (cond set 1 0) 0 ≡ set
      first true = refl
      first false = refl

  with-small : (set : Bool) → with_bit word (2 ^ m) set < 2 * 2 ^ m
  with-small true = omega arith
  with-small false = omega arith

module _ (d : Description) (c : Constructor) where
  -- the operands before operand o are marked, and the next bit is that of operand o + 1
  pub record Marking (word next o : ℕ) : Type 0 where
    pub few : o ≤ c.operands.count
    pub power : next ≡ 2 ^ (o + 1)
    pub small : word < 2 ^ (o + 1)
    pub marked : (n : ℕ) → n < o + 1 → is_set word n ≡ field_operand d c n

  pub mark-none : Marking 0 2 0
  unfolding field_operand
  mark-none = record { few = omega arith; power = refl; small = omega arith; marked = λ n h. let z : n ≡ 0 = omega arith in rw z }

  named_here : (o : ℕ) (x : Operand) → o < c.operands.count → x ≡ operand_of d c o → field_operand d c (o + 1) ≡ eqb x.kind 0
  unfolding field_operand
  named_here o x h e =
      let z : o + 1 - 1 ≡ o = omega arith in
      rw (le-leb 1 (o + 1) (omega arith), le-leb (o + 1) c.operands.count (omega arith), z, e)

  named_past : (n : ℕ) → c.operands.count < n → field_operand d c n ≡ false
  unfolding field_operand
  named_past n h = rw (lt-leb n c.operands.count h, and_no (leb 1 n) false refl)

  twice : (o : ℕ) → 2 * 2 ^ (o + 1) ≡ 2 ^ (o + 1 + 1)
  twice o = omega (arith, pow-add 2 (o + 1) 1)

  pub mark-more : (word next o : ℕ) (x : Operand) → Marking word next o → o < c.operands.count → x ≡ operand_of d c o
      → Marking (with_bit word next (eqb x.kind 0)) (2 * next) (o + 1)
  mark-more word next o x m h e =
      rw m.power
      record {
        few = omega arith;
        power = twice o;
        small = omega (arith, with-small (o + 1) word m.small set, twice o);
        marked = λ n l. go n l (dec_lt n (o + 1));
      }
    where
      set : Bool
      set = eqb x.kind 0

      go : (n : ℕ) → n < o + 1 + 1 → Dec (n < o + 1) → is_set (with_bit word (2 ^ (o + 1)) set) n ≡ field_operand d c n
      go n l (yes p) = with-below (o + 1) word m.small set n p ∙ m.marked n p
      go n l (no p) =
          let z : n ≡ o + 1 = omega (arith, p) in
          rw z (with-here (o + 1) word m.small set ∙ sym (named_here o x h e))

  -- of at most eight operands every bit is one of a byte's, or the next
  pub mark-near : (word next o : ℕ) → Marking word next o → o < c.operands.count → c.operands.count ≤ operands_each → (word < next) × (next ≤ 256)
  mark-near word next o m h f = rw m.power (m.small, pow_mono {i = o + 1} {j = 8} (omega arith))

  pub mark-all : (word next o : ℕ) → Marking word next o → c.operands.count ≤ o → FieldBits d c word
  mark-all word next o m h = record { bits = λ n. go n (dec_lt n (o + 1)) }
    where
      go : (n : ℕ) → Dec (n < o + 1) → is_set word n ≡ field_operand d c n
      go n (yes p) = m.marked n p
      go n (no p) = beyond (o + 1) word n m.small (omega (arith, p)) ∙ sym (named_past n (omega (arith, p)))

  -- an operand that names no expression, none that is there, or one that writes nothing
  pub fits-other : (x : Operand) → eqb x.kind 2 ≡ false → expression_fits d c x ≡ true
  unfolding expression_fits
  fits-other x h = rw h

  pub fits-unwritten : (x : Operand) → writes_expression (get_or d.expressions x.index no_expression) ≡ false → expression_fits d c x ≡ true
  unfolding expression_fits
  fits-unwritten x h = rw (h, or_yes)

  pub fits-missing : (x : Operand) → length d.expressions ≤ x.index → expression_fits d c x ≡ true
  unfolding writes_expression
  fits-missing x h = fits-unwritten x (ap writes_expression (get_or-eq_default d.expressions no_expression h))

  -- what the other names is judged by the word
  pub fits-named : (x : Operand) (word : ℕ) → eqb x.kind 2 ≡ true → writes_expression (get_or d.expressions x.index no_expression) ≡ true → FieldBits d c word
      → names_only (is_set word) (get_or d.expressions x.index no_expression) ≡ expression_fits d c x
  unfolding expression_fits
  fits-named x word k w f =
      ap (λ (g : ℕ → Bool). names_only g (get_or d.expressions x.index no_expression)) (fun_ext f.bits) ∙ rw (k, w)
