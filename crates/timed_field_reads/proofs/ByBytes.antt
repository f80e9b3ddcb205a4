-- The token made from its highest byte down.
use Prim.Native.Nat.{ℕ, zero, suc, ◌+◌, ◌-◌, ◌*◌, ◌^◌, ◌≤◌, ◌<◌}
use mathlib.Core.List.{List}
use mathlib.Core.Path.{◌≡◌}
use native.Mathlib.Omega.{arith}
use borrow.Author.Tests.{eq-eqb, ne_eqb}
use lib.ListN.{get_or}
use lib.Pow.{pow-add, pow_mono}
use Rattle.format.specs.declared.Field.{Field}
use Rattle.fields.specs.Value.{token_byte}
use Rattle.fields.specs.Token.{number_from}

number_small : (b : ℕ → ℕ) → ((i : ℕ) → b i < 256) → (n at : ℕ) → number_from b at n < 2 ^ (8 * n)
unfolding number_from
number_small b h zero at = omega arith
number_small b h (suc n) at =
    let e : 8 * suc n ≡ 8 + 8 * n = omega arith in
    rw (e, pow-add 2 8 (8 * n)) (omega (arith, h at, number_small b h n (suc at)))

-- four bytes at most
pub number-narrow : (b : ℕ → ℕ) → ((i : ℕ) → b i < 256) → (n at : ℕ) → n ≤ 4 → number_from b at n < 2 ^ 32
number-narrow b h n at l =
    let m : 2 ^ (8 * n) ≤ 2 ^ 32 = pow_mono {i = 8 * n} {j = 32} (omega arith) in
    omega (arith, number_small b h n at)

-- one byte more below
pub number_more : (b : ℕ → ℕ) (j width : ℕ) → 1 ≤ j → j ≤ width
    → b (j - 1) + 256 * number_from b j (width - j) ≡ number_from b (j - 1) (width - (j - 1))
unfolding number_from
number_more b zero width h l = absurd (omega arith)
number_more b (suc i) width h l =
    let e : suc i - 1 ≡ i = omega arith in
    let d : width - i ≡ suc (width - suc i) = omega arith in
    rw (e, d)

pub little_byte : (f : Field) (s : List ℕ) (j : ℕ) → f.order ≡ 0 → get_or s j 0 ≡ token_byte f s j
unfolding token_byte
little_byte f s j e = rw (eq-eqb f.order 0 e)

pub big-byte : (f : Field) (s : List ℕ) (j : ℕ) → (f.order ≡ 0 → ⊥) → get_or s (f.width - 1 - j) 0 ≡ token_byte f s j
unfolding token_byte
big-byte f s j e = rw (ne_eqb f.order 0 e)
