-- A whole text put into a lent part: all of it or nothing, and none over 256 bytes.
use Rattle.std.specs.Prelude.{ℕ, cond, List, leb, length, Result, Ok, Err}
use Rattle.format.specs.Numbers.{longest_text}
use Rattle.printing.specs.Writing.{over}
use Rattle.text.specs.declared.NoText.{NoText}
use Rattle.text.specs.declared.NoText.TheVariants.{TooLong, NoRoom}

-- "10 (text only), 9": with room for so many bytes
abbrev pub line_of : List ℕ → ℕ → Result ℕ NoText
line_of w room = cond (leb (length w) longest_text) (cond (leb (length w) room) (Ok (length w)) (Err NoRoom)) (Err TooLong)

-- the lent bytes afterwards
abbrev pub lent_after : List ℕ → List ℕ → List ℕ
lent_after w old = cond (leb (length w) longest_text) (cond (leb (length w) (length old)) (over w old) old) old
