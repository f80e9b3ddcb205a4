-- What the functions of a line say of the buffers lent to them.
use Rattle.std.specs.Prelude.{ℕ, ◌+◌, ◌≤◌, ◌<◌, true, cond, List, ◌≡◌, ℤ, length}
use Rattle.alignment.specs.Alignment.{is_alignment, is_multiple}
use Rattle.listing_parts.specs.Put.{Put}
use Rattle.text.specs.Prints.{described, whole_text}
use Rattle.setting.specs.Fixed.{Fixed}
use Rattle.setting.specs.declared.Prepared.{Prepared}
use Rattle.walking.specs.Walks.{told_length}
use Rattle.instructions.specs.Instructions.{result_at}
use Rattle.listing_lines.specs.Line.{fitting, shown_by, next_by, shown_at, next_at}
use Rattle.listing_lines.specs.declared.Shown.{Shown}

-- a place of the code
pub record PlaceOf (b : List ℕ) (a : Prepared) (n : ℕ) (s : List ℕ) (at : ℕ) : Type 0 where
  pub fixed : Fixed b a
  pub aligned : is_alignment n ≡ true
  pub inside : at < length s

-- a place of the code where a gap would have these bytes
pub record GapAt (b : List ℕ) (a : Prepared) (s : List ℕ) (at : ℕ) (bytes : List ℕ) : Type 0 where
  pub fixed : Fixed b a
  pub some : 1 ≤ length bytes
  pub few : length bytes ≤ 8
  pub here : at + length bytes ≤ length s

-- the walk is told the length from there on, where it is asked
unfoldable pub told_at : (address n : ℕ) → (a : Prepared) (s : List ℕ) → ℕ → Prepared
told_at address n a s at = cond (is_multiple n (address + at)) (told_length a s at) a

-- the instruction at a place, or what stands for it, is shown
pub record ShowsInstruction (b : List ℕ) (a : Prepared) (s : List ℕ) (c address at : ℕ) (bytes old : List ℕ) (r : Shown) (new : List ℕ) (a' : Prepared) : Type 0 where
  pub text : Put (shown_by (described b a) bytes (result_at b a s at c address)) old new r.size
  pub next : r.next ≡ next_by at (length bytes) (length s) (result_at b a s at c address)
  pub told : a' ≡ told_length a s at

-- what stands at a place is shown
pub record Shows (b : List ℕ) (a : Prepared) (s : List ℕ) (c address n at : ℕ) (old : List ℕ) (r : Shown) (new : List ℕ) (a' : Prepared) : Type 0 where
  pub text : Put (shown_at (described b a) c address n s at) old new r.size
  pub next : r.next ≡ next_at (described b a) c address n s at
  pub told : a' ≡ told_at address n a s at

-- the text of the rows, or ".long"
abbrev pub ShowsText : (b : List ℕ) (a : Prepared) → List ℤ → (old new : List ℕ) → ℕ → Type 0
ShowsText b a rows old new n = Put (fitting (whole_text b a rows)) old new n
