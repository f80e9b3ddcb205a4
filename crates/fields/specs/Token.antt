-- What a field reads, as one number: the code's way, by whole bytes.
use Rattle.std.specs.Prelude.{ℕ, zero, suc, ◌+◌, ◌*◌, ◌≤◌, cond, List, eqb, length}
use Rattle.format.specs.declared.Field.{Field}
use Rattle.fields.specs.Value.{token_byte}

-- the number of the n bytes from byte k on, the lowest first
unfoldable pub number_from : (ℕ → ℕ) → ℕ → ℕ → ℕ
number_from b k zero = 0
number_from b k (suc n) = b k + 256 * number_from b (suc k) n

unfoldable pub token_of : Field → List ℕ → ℕ
token_of f s = number_from (token_byte f s) 0 f.width

-- the token, or the context
unfoldable pub source_of : Field → List ℕ → ℕ → ℕ
source_of f s c = cond (eqb f.source 0) (token_of f s) c

-- what reading the token's bytes asks
pub record Joinable (f : Field) (s : List ℕ) : Type 0 where
  pub one : 1 ≤ f.width
  pub four : f.width ≤ 4
  pub present : f.width ≤ length s
