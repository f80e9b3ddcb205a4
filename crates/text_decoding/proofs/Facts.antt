-- "An answer, unless "short", stays the same whatever bytes follow", for the text.
use Prim.Native.Nat.{ℕ}
use mathlib.Core.List.{List, ◌++◌}
use mathlib.Core.Path.{◌≡◌}
use Rattle.std.proofs.Common.{Err}
use Rattle.decoding_spec.specs.declared.Refusal.TheVariants.{Short}
use Rattle.decoding_theorems.proofs.Entries.{answers_stay}
use Rattle.text_decoding.specs.TextDecoding.{answer_of, buffer_after, decode_text_of, text_after}
use Rattle.text_decoding.specs.declared.TextError.TheVariants.{Rejected, Refused}

module _ (b : List ℕ) (c address : ℕ) (s m old : List ℕ) (room : ℕ) (whole : (p : ℕ) → decode_text_of b c address s room ≡ Err (Refused (Short p)) → ⊥) where
  pub text-stays : decode_text_of b c address (s ++ m) room ≡ decode_text_of b c address s room
  unfolding decode_text_of
  text-stays = answers_stay (λ x. Err (Rejected x)) (λ d. answer_of d room) b c address s m (λ l e p q. whole p (rw (e, q)))

  pub lent-stays : text_after b c address (s ++ m) old ≡ text_after b c address s old
  unfolding decode_text_of text_after
  lent-stays = answers_stay (λ x. old) (λ d. buffer_after d old) b c address s m (λ l e p q. whole p (rw (e, q)))
