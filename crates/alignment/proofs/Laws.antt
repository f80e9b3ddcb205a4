-- A mask gives the remainder by an alignment; the next multiple; a gap's length.
use Prim.Native.Nat.{ℕ, ◌+◌, ◌-◌, ◌*◌, ◌/◌, ◌%◌, ◌≤◌, ◌<◌}
use mathlib.Core.Bool.{Bool, true, false, ◌||◌}
use mathlib.Core.Logic.{◌⊎◌, inl, inr}
use mathlib.Core.Path.{◌≡◌, refl, sym, ap, ◌∙◌}
use native.Mathlib.Decide.{dec_lt}
use native.Mathlib.Nat.{mod-lt, mod-one, add-mod_right, mul-mod_left, mul-le-mul_right, div-add-mod'}
use native.Mathlib.Omega.{arith}
use borrow.Author.Tests.{eqb-true, eq-eqb, ne_eqb}
use lib.Bits.{bit_and, and_mask}
use lib.Dec.{eqb}
use Rattle.alignment.specs.Alignment.{is_alignment, is_multiple, to_multiple, gap_length}
use Rattle.alignment.specs.Next.{NextMultiple}

-- what holds of 1, 2, 4 and 8 holds of an alignment
pub alignments : (P : ℕ → Type 0) → P 1 → P 2 → P 4 → P 8 → (n : ℕ) → is_alignment n ≡ true → P n
alignments P p₁ p₂ p₄ p₈ n h = one (eqb n 1) refl (eqb n 2) refl (eqb n 4) refl (eqb n 8) refl h
  where
    eight : (b : Bool) → eqb n 8 ≡ b → b ≡ true → P n
    eight true e h = rw (eqb-true n 8 e) p₈
    eight false e h = let z : ◌≡◌ {A = ℕ} 0 1 = cc in absurd (omega arith)

    one : (a : Bool) → eqb n 1 ≡ a → (b : Bool) → eqb n 2 ≡ b → (c : Bool) → eqb n 4 ≡ c → (d : Bool) → eqb n 8 ≡ d → (a || b || c || d) ≡ true → P n
    one true e b f c g d h q = rw (eqb-true n 1 e) p₁
    one false e true f c g d h q = rw (eqb-true n 2 f) p₂
    one false e false f true g d h q = rw (eqb-true n 4 g) p₄
    one false e false f false g d h q = eight d h q

-- the law that joins the code's mask to a multiple
pub mask-remainder : (n x : ℕ) → is_alignment n ≡ true → bit_and x (n - 1) ≡ x % n
mask-remainder n x h = alignments (λ n. bit_and x (n - 1) ≡ x % n) (and_mask x 0) (and_mask x 1) (and_mask x 2) (and_mask x 3) n h

pub alignment-some : (n : ℕ) → is_alignment n ≡ true → 1 ≤ n
alignment-some n h = alignments (λ n. 1 ≤ n) (omega arith) (omega arith) (omega arith) (omega arith) n h

pub alignment-few : (n : ℕ) → is_alignment n ≡ true → n ≤ 8
alignment-few n h = alignments (λ n. n ≤ 8) (omega arith) (omega arith) (omega arith) (omega arith) n h

-- "to the next multiple"
pub next_multiple : (n x : ℕ) → 0 < n → NextMultiple n x (x + to_multiple n x)
next_multiple n x h =
    record {
      after = omega (arith, mod-lt x h);
      multiple = eq-eqb _ _ (ap (λ (y : ℕ). y % n) there ∙ add-mod_right (x / n * n) n ∙ mul-mod_left (x / n) n);
      first = λ z l e. rw there (go z l (eqb-true (z % n) 0 e) (dec_lt (x / n) (z / n)));
    }
  where
    there : x + to_multiple n x ≡ x / n * n + n
    there = omega (arith, mod-lt x h, div-add-mod' x n)

    go : (z : ℕ) → x < z → z % n ≡ 0 → Dec (x / n < z / n) → x / n * n + n ≤ z
    go z l e (yes p) = omega (arith, mul-le-mul_right n p, div-add-mod' z n)
    go z l e (no p) = let q : z / n ≤ x / n = omega (arith, p) in absurd (omega (arith, mul-le-mul_right n q, div-add-mod' z n, div-add-mod' x n))

-- a gap has a byte, and ends where the bytes end or before
pub gap-some : (n x left : ℕ) → 0 < n → 0 < left → 1 ≤ gap_length n x left
unfolding gap_length
gap-some n x left h l = omega (arith, mod-lt x h)

pub gap-inside : (n x left : ℕ) → gap_length n x left ≤ left
unfolding gap_length
gap-inside n x left = omega arith

pub gap-reach : (n x left : ℕ) → gap_length n x left ≤ n
unfolding gap_length
gap-reach n x left = omega arith

-- where the next multiple is no farther than the bytes' end, it is where the gap ends ..
pub gap-whole : (n x left : ℕ) → to_multiple n x ≤ left → gap_length n x left ≡ to_multiple n x
unfolding gap_length
gap-whole n x left h = omega arith

-- .. and else the bytes' end is
pub gap-cut : (n x left : ℕ) → left ≤ to_multiple n x → gap_length n x left ≡ left
unfolding gap_length
gap-cut n x left h = omega arith

-- with more bytes left a gap is as long, unless the bytes' end had cut it: then that end is no multiple
pub gap-longer : (n x left more : ℕ) → 0 < n → 0 < left
    → (gap_length n x (left + more) ≡ gap_length n x left) ⊎ ((gap_length n x left ≡ left) × (is_multiple n (x + left) ≡ false))
gap-longer n x left more h l = go (dec_lt left (to_multiple n x))
  where
    go : Dec (left < to_multiple n x)
        → (gap_length n x (left + more) ≡ gap_length n x left) ⊎ ((gap_length n x left ≡ left) × (is_multiple n (x + left) ≡ false))
    go (yes p) =
        inr (
          gap-cut n x left (omega arith),
          ne_eqb ((x + left) % n) 0 (λ e. omega (arith, p, (next_multiple n x h).first (x + left) (omega arith) (eq-eqb _ _ e))),
        )
    go (no p) = inl (gap-whole n x (left + more) (omega (arith, p)) ∙ sym (gap-whole n x left (omega (arith, p))))

-- with alignment 1 every number is a multiple, and a gap has one byte
pub one-multiple : (x : ℕ) → is_multiple 1 x ≡ true
one-multiple x = eq-eqb _ _ (mod-one x)

pub one-gap : (x left : ℕ) → 0 < left → gap_length 1 x left ≡ 1
unfolding gap_length
one-gap x left h = omega (arith, mod-one x)
