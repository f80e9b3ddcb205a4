-- A listing taken in parts, wherever it is cut.
use Rattle.std.specs.Prelude.{ℕ, ◌≤◌, ◌<◌, true, false, List, [], ◌∷◌, ◌++◌, ◌≡◌, length}
use Rattle.acceptance.specs.Acceptance.{acceptance_of, accepting}
use Rattle.listing_parts.specs.Parts.{line_bytes}
use Rattle.listing_text.specs.Listing.{Window, description_part, code_part}

-- a window from a place on, where `left` is what is left to list from each place on, and nothing is from `end` on: its text comes
-- first, then what is left from its next place on; that is nothing unless the room ended it, and else there is a line more; and room
-- for a line moves on
pub record SplitsAt (left : ℕ → List ℕ) (end room at : ℕ) (w : Window) : Type 0 where
  pub rest : left at ≡ w.text ++ left w.next
  pub last : w.full ≡ false → left w.next ≡ []
  pub more : w.full ≡ true → w.next < end
  pub since : at ≤ w.next
  pub on : at < end → line_bytes ≤ room → at < w.next

-- the texts of one window behind the other, each with its own room, and the place behind them
unfoldable pub joined : (ℕ → ℕ → Window) → List ℕ → ℕ → List ℕ
joined window [] at = []
joined window (room ∷ rooms) at = (window room at).text ++ joined window rooms (window room at).next

unfoldable pub place_after : (ℕ → ℕ → Window) → List ℕ → ℕ → ℕ
place_after window [] at = at
place_after window (room ∷ rooms) at = place_after window rooms (window room at).next

-- the place where the program's listing ends: behind the code, or behind the line of a bad description
unfoldable pub end_of : List ℕ → ℕ
end_of input =
    accepting (λ x. 1) (λ d. length (code_part input)) (description_part input) (acceptance_of (description_part input))
