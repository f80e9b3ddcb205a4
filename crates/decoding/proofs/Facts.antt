-- Demand 2: "An answer, unless "short", stays the same whatever bytes follow", for the rows; ""Stays the same" is read for one address."
use Prim.Native.Nat.{ℕ}
use mathlib.Core.List.{List, ◌++◌}
use mathlib.Core.Path.{◌≡◌}
use lib.IntN.{ℤ}
use Rattle.std.proofs.Common.{Err}
use Rattle.decoding_spec.specs.declared.Refusal.TheVariants.{Short}
use Rattle.decoding_theorems.proofs.Entries.{answers_stay}
use Rattle.decoding.specs.Decoding.{answer_of, buffer_after, decode_of, rows_after}
use Rattle.decoding.specs.declared.DecodeError.TheVariants.{Rejected, Refused}

module _ (b : List ℕ) (c a : ℕ) (s m : List ℕ) (old : List ℤ) (room : ℕ)
    (whole : (p : ℕ) → decode_of b c a s room ≡ Err (Refused (Short p)) → ⊥) where
  pub decode-stays : decode_of b c a (s ++ m) room ≡ decode_of b c a s room
  unfolding decode_of
  decode-stays = answers_stay (λ x. Err (Rejected x)) (λ d. answer_of room) b c a s m (λ l e p q. whole p (rw (e, q)))

  pub rows_stay : rows_after b c a (s ++ m) old ≡ rows_after b c a s old
  unfolding decode_of rows_after
  rows_stay = answers_stay (λ x. old) (λ d. buffer_after old) b c a s m (λ l e p q. whole p (rw (e, q)))
