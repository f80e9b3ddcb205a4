-- A line moves on and is not too long; the lines from each place are the line there, then those from the next place on.
use Prim.Native.Nat.{ℕ, zero, suc, ◌+◌, ◌-◌, ◌≤◌, ◌<◌}
use mathlib.Core.Bool.{Bool, true, false, cond}
use mathlib.Core.List.{List, [], ◌++◌}
use mathlib.Core.Path.{◌≡◌, refl, ap, ◌∙◌}
use native.Mathlib.Omega.{arith}
use borrow.Author.Tests.{le-leb, lt-leb, leb-true, leb-false}
use lib.Dec.{leb}
use lib.ListN.{length, drop, length-append, length-drop, length-take}
use Rattle.alignment.specs.Alignment.{is_multiple}
use Rattle.alignment.proofs.Laws.{gap-some, gap-inside, gap-reach}
use Rattle.format.specs.Numbers.{longest_text}
use Rattle.format.specs.Description.{Description}
use Rattle.decoding_spec.specs.Refusals.{is_short}
use Rattle.decoding_spec.specs.Tree.{Node}
use Rattle.decoding_spec.specs.Walk.{Result, done, refused}
use Rattle.decoding_spec.specs.Instruction.{instruction_of}
use Rattle.decoding_theorems.proofs.InBounds.{in_bounds}
use Rattle.listing_parts.proofs.Appending.{address-long}
use Rattle.listing_parts.proofs.Gaps.{gap-text-most}
use Rattle.listing_parts.specs.Parts.{gap_text, short_word, long_word, line_text, line_bytes}
use Rattle.listing_lines.specs.Line.{gap_at, gap_bytes, fitting, shown_by, shown_at, next_by, next_at, line_at}
use Rattle.text.specs.Text.{text_of}
use Rattle.listing_text.specs.Listing.{lines_from, lines_of}

-- "A done instruction moves on by its length", a gap by its own, "short" to the end
pub record Moves (at end next : ℕ) : Type 0 where
  pub on : at < next
  pub inside : next ≤ end

pub moves-on : (d : Description) (c address u : ℕ) (s : List ℕ) (at : ℕ) → 0 < u → at < length s → Moves at (length s) (next_at d c address u s at)
unfolding next_at
moves-on d c address u s at some h = go (is_multiple u (address + at))
  where
    gap : Moves at (length s) (at + gap_at address u s at)
    gap =
        let on = gap-some u (address + at) (length s - at) some (omega arith) in
        record { on = omega arith; inside = omega (arith, gap-inside u (address + at) (length s - at)) }

    refusal : (b : Bool) → Moves at (length s) (cond b (length s) (at + gap_at address u s at))
    refusal true = record { on = h; inside = omega arith }
    refusal false = gap

    result : (r : Result Node) → instruction_of d c (address + at) (drop at s) ≡ r → Moves at (length s) (next_by at (gap_at address u s at) (length s) r)
    result (done n l st) e =
        let f = in_bounds d c (address + at) (drop at s) n l st e in
        record { on = omega (arith, f.some); inside = omega (arith, f.here, length-drop at s) }
    result (refused r) e = refusal (is_short r)

    go : (m : Bool) → Moves at (length s) (cond m (next_by at (gap_at address u s at) (length s) (instruction_of d c (address + at) (drop at s))) (at + gap_at address u s at))
    go true = result (instruction_of d c (address + at) (drop at s)) refl
    go false = gap

fitting-length : (w : List ℕ) → length (fitting w) ≤ longest_text
fitting-length w = go (leb (length w) longest_text) refl
  where
    go : (b : Bool) → leb (length w) longest_text ≡ b → length (cond b w long_word) ≤ longest_text
    go true e = leb-true (length w) longest_text e
    go false e = omega arith

-- eight bytes of a gap are the most
gap-shown : (u address : ℕ) (s : List ℕ) (at : ℕ) → u ≤ 8 → length (gap_text (gap_bytes address u s at)) ≤ longest_text
gap-shown u address s at few =
    omega (arith, gap-text-most (gap_bytes address u s at), length-take (gap_at address u s at) (drop at s), gap-reach u (address + at) (length s - at))

shown-length : (d : Description) (c address u : ℕ) (s : List ℕ) (at : ℕ) → u ≤ 8 → length (shown_at d c address u s at) ≤ longest_text
unfolding shown_at
shown-length d c address u s at few = go (is_multiple u (address + at))
  where
    refusal : (b : Bool) → length (cond b short_word (gap_text (gap_bytes address u s at))) ≤ longest_text
    refusal true = omega arith
    refusal false = gap-shown u address s at few

    result : (r : Result Node) → length (shown_by d (gap_bytes address u s at) r) ≤ longest_text
    result (done n l st) = fitting-length (text_of d n)
    result (refused r) = refusal (is_short r)

    go : (m : Bool) → length (cond m (shown_by d (gap_bytes address u s at) (instruction_of d c (address + at) (drop at s))) (gap_text (gap_bytes address u s at))) ≤ longest_text
    go true = result (instruction_of d c (address + at) (drop at s))
    go false = gap-shown u address s at few

pub line-length : (d : Description) (c address u : ℕ) (s : List ℕ) (at : ℕ) → u ≤ 8 → length (line_at d c address u s at) ≤ line_bytes
unfolding line_at line_text
line-length d c address u s at few = simp length-append (omega (arith, shown-length d c address u s at few, address-long (address + at)))

module _ (d : Description) (c address u : ℕ) (some : 0 < u) (s : List ℕ) where
  -- more lines than there are bytes left are never wanted
  lines_same : (m n at : ℕ) → length s - at ≤ m → length s - at ≤ n → lines_from d c address u s m at ≡ lines_from d c address u s n at
  unfolding lines_from
  lines_same zero zero at a b = refl
  lines_same (suc m) zero at a b = rw (le-leb (length s) at (omega arith))
  lines_same zero (suc n) at a b = rw (le-leb (length s) at (omega arith))
  lines_same (suc m) (suc n) at a b = go (leb (length s) at) refl (λ next f g. lines_same m n next f g)
    where
      go : (t : Bool) → leb (length s) at ≡ t
          → ((next : ℕ) → length s - next ≤ m → length s - next ≤ n → lines_from d c address u s m next ≡ lines_from d c address u s n next)
          → cond t [] (line_at d c address u s at ++ lines_from d c address u s m (next_at d c address u s at)) ≡ cond t [] (line_at d c address u s at ++ lines_from d c address u s n (next_at d c address u s at))
      go true e r = refl
      go false e r =
          let f = moves-on d c address u s at some (leb-false (length s) at e) in
          ap (λ (l : List ℕ). line_at d c address u s at ++ l) (r (next_at d c address u s at) (omega (arith, f.on)) (omega (arith, f.on)))

  -- at the end there is no line more ..
  pub no_line : (at : ℕ) → length s ≤ at → lines_of d c address u s at ≡ []
  unfolding lines_of lines_from
  no_line at h = lines_same (length s) 0 at (omega arith) (omega arith)

  -- .. and before it the line at the place, then the lines from the next place on
  pub line-here : (at : ℕ) → at < length s → lines_of d c address u s at ≡ line_at d c address u s at ++ lines_of d c address u s (next_at d c address u s at)
  unfolding lines_of lines_from
  line-here at h =
      lines_same (length s) (suc (length s)) at (omega arith) (omega arith) ∙ rw (lt-leb (length s) at h)
