-- What the program knows of a part of the listing.
use Prim.Native.Nat.{ℕ, ◌+◌, ◌-◌, ◌≤◌, ◌<◌}
use mathlib.Core.Bool.{Bool, true, false, cond}
use mathlib.Core.List.{List}
use mathlib.Core.Path.{◌≡◌, refl, ap, ◌∙◌}
use native.Mathlib.Omega.{arith}
use lib.ListN.{length, drop, length-append}
use Rattle.printing.specs.Writing.{over}
use Rattle.listing_parts.specs.Parts.{line_bytes}
use Rattle.listing_text.specs.Listing.{input_window, part_of}
use Rattle.listing_text.specs.Runs.{end_of}
use Rattle.listing_text.specs.declared.Part.{Part}
use Rattle.listing_text.proofs.Joined.{goes_on}

-- how far a part is from the end; one that is not full is the last
abbrev pub left : List ℕ → Part → ℕ
left input p = cond p.full (1 + (end_of input - p.next)) 0

module _ (input : List ℕ) (at : ℕ) (old : List ℕ) (part : Part) (is : part ≡ part_of (input_window input (length old) at)) where
  -- its bytes stand in the text
  pub bytes-there : (new : List ℕ) → new ≡ over (input_window input (length old) at).text old → part.bytes ≤ length new
  unfolding over
  bytes-there new e =
      let w = (input_window input (length old) at).text in
      omega (arith, ap (λ (p : Part). p.bytes) is, ap length e ∙ length-append w (drop (length w) old))

  -- the next one is nearer to the end
  pub nearer : line_bytes ≤ length old → part.full ≡ true → end_of input - part.next < end_of input - at
  nearer h e =
      let g = goes_on input (length old) at h (rw is at e) in
      omega (arith, ap (λ (p : Part). p.next) is, g.0, g.1)

  pub falls : (before : Part) → before.full ≡ true → before.next ≡ at → line_bytes ≤ length old → left input part < left input before
  falls before e f h = rw (e, f) (go part.full refl)
    where
      go : (t : Bool) → part.full ≡ t → cond t (1 + (end_of input - part.next)) 0 < 1 + (end_of input - at)
      go true q = let n = nearer h q in omega arith
      go false q = omega arith
