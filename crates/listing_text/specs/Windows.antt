-- What the functions of a listing say of their answer and of the text lent to them.
use Rattle.std.specs.Prelude.{List, ◌≡◌, ℕ, length}
use Rattle.format.specs.Description.{description}
use Rattle.format.specs.declared.Layout.{Layout}
use Rattle.printing.specs.Writing.{over}
use Rattle.listing_text.specs.Listing.{Window, part_of, window_of}
use Rattle.listing_text.specs.declared.Part.{Part}

-- the answer and the lent bytes afterwards are those of the window
pub record Lists (w : Window) (old : List ℕ) (r : Part) (new : List ℕ) : Type 0 where
  pub answer : r ≡ part_of w
  pub text : new ≡ over w.text old

-- those of the lines from a place on, in bytes b that read as a description
abbrev pub ListsIn : List ℕ → Layout → (c address n : ℕ) → List ℕ → (from : ℕ) → List ℕ → Part → List ℕ → Type 0
ListsIn b l c address n s from old r new = Lists (window_of (description b l) c address n s (length old) from) old r new
