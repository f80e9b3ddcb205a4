-- A text that fits a line, or that is too long for it.
use Prim.Native.Nat.{ℕ, ◌≤◌}
use mathlib.Core.Bool.{Bool, true, false, cond}
use mathlib.Core.List.{List}
use mathlib.Core.Path.{◌≡◌, refl, ◌∙◌}
use native.Mathlib.Omega.{arith}
use borrow.Author.Tests.{le-leb, leb-true}
use lib.Dec.{leb}
use lib.ListN.{length}
use Rattle.std.proofs.Common.{Result, Ok, Err}
use Rattle.format.specs.Numbers.{longest_text}
use Rattle.printing.specs.Writing.{over}
use Rattle.text.specs.Lines.{line_of, lent_after}
use Rattle.text.specs.declared.NoText.{NoText}
use Rattle.text.specs.declared.NoText.TheVariants.{TooLong, NoRoom}
use Rattle.listing_parts.specs.Parts.{long_word}
use Rattle.listing_lines.specs.Line.{fitting}
use Rattle.listing_parts.specs.Put.{Put, Appended}
use Rattle.listing_parts.proofs.Appending.{put_first}

-- a whole text that was printed, or that is too long
pub fitting-written : (w before after : List ℕ) (r : Result ℕ NoText) (n : ℕ) → length before ≡ longest_text → r ≡ line_of w (length before) → after ≡ lent_after w before → r ≡ Ok n → Put (fitting w) before after n
fitting-written w before after r n l answer holds e = go (leb (length w) longest_text) refl answer holds
  where
    go : (b : Bool) → leb (length w) longest_text ≡ b
        → r ≡ cond b (cond (leb (length w) (length before)) (Ok (length w)) (Err NoRoom)) (Err TooLong)
        → after ≡ cond b (cond (leb (length w) (length before)) (over w before) before) before
        → Put (cond b w long_word) before after n
    go true p q f =
        let few : length w ≤ length before = omega (arith, leb-true (length w) longest_text p) in
        let g = le-leb (length w) (length before) few in
        let z : r ≡ Ok (length w) = q ∙ rw g in
        let m : n ≡ length w = cc in
        record { size = m; fits = few; holds = f ∙ rw g }
    go false p q f = cc

pub fitting-long : (w before mid after : List ℕ) (r : Result ℕ NoText) (x : NoText) (n : ℕ) → length before ≡ longest_text → r ≡ line_of w (length before) → mid ≡ lent_after w before → r ≡ Err x
    → Appended 0 long_word mid after n → Put (fitting w) before after n
fitting-long w before mid after r x n l answer holds e f = go (leb (length w) longest_text) refl answer holds
  where
    go : (b : Bool) → leb (length w) longest_text ≡ b
        → r ≡ cond b (cond (leb (length w) (length before)) (Ok (length w)) (Err NoRoom)) (Err TooLong)
        → mid ≡ cond b (cond (leb (length w) (length before)) (over w before) before) before
        → Put (cond b w long_word) before after n
    go true p q g =
        let few : length w ≤ length before = omega (arith, leb-true (length w) longest_text p) in
        let z : r ≡ Ok (length w) = q ∙ rw (le-leb (length w) (length before) few) in
        cc
    go false p q g = put_first long_word before after n (omega arith) (rw g at f)
