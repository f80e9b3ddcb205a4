-- A line put over a buffer.
use Prim.Native.Nat.{ℕ, ◌+◌}
use mathlib.Core.List.{List}
use mathlib.Core.Path.{◌≡◌}
use Rattle.format.specs.Description.{Description}
use Rattle.printing.specs.Writing.{over}
use Rattle.listing_parts.specs.Parts.{line_text}
use Rattle.listing_parts.specs.Put.{Put}
use Rattle.listing_lines.specs.Line.{shown_at, next_at, line_at, line_shown}
use Rattle.listing_lines.specs.declared.Shown.{Shown}

same-shown : (s s' n n' : ℕ) → s ≡ s' → n ≡ n' → ◌≡◌ {A = Shown} (record { size = s; next = n }) (record { size = s'; next = n' })
same-shown s s' n n' p q = rw (p, q)

pub line_made : (d : Description) (c address u : ℕ) (s : List ℕ) (at : ℕ) (shown old new : List ℕ) (n next : ℕ) → shown ≡ shown_at d c address u s at
    → Put (line_text (address + at) shown) old new n → next ≡ next_at d c address u s at
    → (record { size = n; next = next } ≡ line_shown d c address u s at) × (new ≡ over (line_at d c address u s at) old)
unfolding line_shown line_at
line_made d c address u s at shown old new n next e p f =
    let q : Put (line_text (address + at) (shown_at d c address u s at)) old new n = rw e at p in
    (same-shown _ _ _ _ q.size f, q.holds)
