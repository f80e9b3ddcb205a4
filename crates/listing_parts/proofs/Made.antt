-- The line of a bad description in a buffer of its own.
use Prim.Native.Nat.{ℕ}
use mathlib.Core.List.{List}
use mathlib.Core.Path.{◌≡◌}
use lib.ListN.{replicate}
use Rattle.acceptance.specs.Acceptance.{first_value, second_value}
use Rattle.acceptance.specs.declared.Rejection.{Rejection}
use Rattle.listing_parts.specs.Parts.{line_bytes, malformed_text, fault_line}
use Rattle.listing_parts.specs.Put.{Put}
use Rattle.listing_parts.specs.declared.FaultLine.{FaultLine}

same-fault : (b b' : List ℕ) (s s' : ℕ) → b ≡ b' → s ≡ s' → ◌≡◌ {A = FaultLine} (record { bytes = b; size = s }) (record { bytes = b'; size = s' })
same-fault b b' s s' p q = rw (p, q)

pub fault-made : (x : Rejection) (first second : ℕ) (bytes : List ℕ) (n : ℕ) → first ≡ first_value x → second ≡ second_value x
    → Put (malformed_text first second) (replicate line_bytes 0) bytes n → record { bytes = bytes; size = n } ≡ fault_line x
unfolding fault_line
fault-made x first second bytes n e f p =
    let q : Put (malformed_text (first_value x) (second_value x)) (replicate line_bytes 0) bytes n = rw (e, f) at p in
    same-fault _ _ _ _ q.holds q.size
