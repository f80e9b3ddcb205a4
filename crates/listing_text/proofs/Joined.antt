-- The windows of a listing, wherever they are cut, are the whole of it.
use Prim.Native.Nat.{ℕ, zero, suc, ◌+◌, ◌-◌, ◌≤◌, ◌<◌}
use mathlib.Core.Bool.{Bool, true, false, cond}
use mathlib.Core.List.{List, [], ◌∷◌, ◌++◌, append_assoc, append-nil}
use mathlib.Core.Path.{◌≡◌, refl, sym, ap, ◌∙◌}
use native.Mathlib.Omega.{arith}
use borrow.Author.Tests.{leb-true, leb-false, eqb-true, eqb-false, ne_eqb}
use lib.Dec.{leb, eqb}
use lib.ListN.{length, length-append}
use Rattle.std.proofs.Common.{Result, Ok, Err}
use Rattle.alignment.specs.Alignment.{is_alignment}
use Rattle.alignment.proofs.Laws.{alignment-some, alignment-few}
use Rattle.printing.proofs.Numerals.{digits-length}
use Rattle.format.specs.Description.{Description, description}
use Rattle.acceptance.specs.Acceptance.{acceptance_of, accepting, first_value, second_value}
use Rattle.format.specs.declared.Layout.{Layout}
use Rattle.acceptance.specs.declared.Rejection.{Rejection}
use Rattle.listing_parts.specs.Parts.{malformed_text, fault_text, line_bytes}
use Rattle.listing_lines.specs.Line.{line_at, next_at}
use Rattle.listing_text.specs.Listing.{Window, no_lines, before, lines_of, window_from, window_of, fault_from, fault_window, listing_from, code_part, description_part, input_window}
use Rattle.listing_text.specs.Runs.{SplitsAt, joined, place_after, end_of}
use Rattle.listing_text.proofs.Moving.{moves-on, line-length, no_line, line-here}

module _ (d : Description) (c address u : ℕ) (ok : is_alignment u ≡ true) (s : List ℕ) where
  some : 0 < u
  some = alignment-some u ok

  abbrev Good : (room at : ℕ) → Window → Type 0
  Good room at w = SplitsAt (lines_of d c address u s) (length s) room at w

  window-cut : (most room at : ℕ) → length s ≤ at + most → Good room at (window_from d c address u s most room at)
  unfolding window_from
  window-cut zero room at h =
      record {
        rest = refl;
        last = λ e. no_line d c address u some s at (omega arith);
        more = λ z. let y : ◌≡◌ {A = ℕ} 0 1 = cc in absurd (omega arith);
        since = omega arith;
        on = λ b r. absurd (omega arith);
      }
  window-cut (suc most) room at h = go (leb (length s) at) refl (λ room at h. window-cut most room at h)
    where
      line : List ℕ
      line = line_at d c address u s at

      next : ℕ
      next = next_at d c address u s at

      fit : at < length s → ((room at : ℕ) → length s ≤ at + most → Good room at (window_from d c address u s most room at)) → (t : Bool) → leb (length line) room ≡ t
          → Good room at (cond t (before line (window_from d c address u s most (room - length line) next)) (no_lines at true))
      fit b again true e =
          let f = moves-on d c address u s at some b in
          let w = again (room - length line) next (omega (arith, f.on)) in
          record {
            rest = line-here d c address u some s at b ∙ ap (λ (l : List ℕ). line ++ l) w.rest ∙ sym (append_assoc line _ _);
            last = w.last;
            more = w.more;
            since = omega (arith, w.since, f.on);
            on = λ g r. omega (arith, w.since, f.on);
          }
      fit b again false e =
          record {
            rest = refl;
            last = λ z. let y : ◌≡◌ {A = ℕ} 0 1 = cc in absurd (omega arith);
            more = λ z. b;
            since = omega arith;
            on = λ g r. absurd (omega (arith, leb-false (length line) room e, line-length d c address u s at (alignment-few u ok)));
          }

      go : (t : Bool) → leb (length s) at ≡ t → ((room at : ℕ) → length s ≤ at + most → Good room at (window_from d c address u s most room at))
          → Good room at
          (cond t (no_lines at false) (cond (leb (length line) room) (before line (window_from d c address u s most (room - length line) next)) (no_lines at true)))
      go true e again =
          let b = leb-true (length s) at e in
          record { rest = refl; last = λ z. no_line d c address u some s at b; more = λ z. let y : ◌≡◌ {A = ℕ} 0 1 = cc in absurd (omega arith); since = omega arith; on = λ g r. absurd (omega arith) }
      go false e again = fit (leb-false (length s) at e) again (leb (length line) room) refl

  pub window-of : (room at : ℕ) → SplitsAt (lines_of d c address u s) (length s) room at (window_of d c address u s room at)
  unfolding window_of
  window-of room at = window-cut (length s) room at (omega arith)

fault-length : (x : Rejection) → length (fault_text x) ≤ line_bytes
unfolding malformed_text
fault-length x = simp length-append (omega (arith, digits-length 10 (first_value x), digits-length 10 (second_value x)))

fault-window : (x : Rejection) (room at : ℕ) → SplitsAt (fault_from x) 1 room at (fault_window x room at)
unfolding fault_window fault_from
fault-window x room at = go (eqb at 0) refl
  where
    here : at ≡ 0 → (t : Bool) → leb (length (fault_text x)) room ≡ t
        → SplitsAt (fault_from x) 1 room at (cond t (before (fault_text x) (no_lines 1 false)) (no_lines 0 true))
    here z true e =
        record {
          rest = rw z (sym (append-nil (fault_text x)) ∙ ap (λ (l : List ℕ). l ++ []) (sym (append-nil (fault_text x))));
          last = λ q. refl;
          more = λ z. let y : ◌≡◌ {A = ℕ} 0 1 = cc in absurd (omega arith);
          since = omega arith;
          on = λ g r. omega arith;
        }
    here z false e =
        record {
          rest = rw z;
          last = λ q. let y : ◌≡◌ {A = ℕ} 0 1 = cc in absurd (omega arith);
          more = λ q. omega arith;
          since = omega arith;
          on = λ g r. absurd (omega (arith, leb-false (length (fault_text x)) room e, fault-length x));
        }

    go : (t : Bool) → eqb at 0 ≡ t
        → SplitsAt (fault_from x) 1 room at (cond t (cond (leb (length (fault_text x)) room) (before (fault_text x) (no_lines 1 false)) (no_lines 0 true)) (no_lines at false))
    go true e = here (eqb-true at 0 e) (leb (length (fault_text x)) room) refl
    go false e =
        let z = eqb-false at 0 e in
        record { rest = refl; last = λ q. rw (ne_eqb at 0 z); more = λ q. let y : ◌≡◌ {A = ℕ} 0 1 = cc in absurd (omega arith); since = omega arith; on = λ g r. absurd (omega (arith, z)) }

-- a window of what the program prints
pub input-window : (input : List ℕ) (room at : ℕ) → SplitsAt (listing_from input) (end_of input) room at (input_window input room at)
unfolding listing_from input_window end_of
input-window input room at = go (acceptance_of (description_part input))
  where
    b : List ℕ
    b = description_part input

    s : List ℕ
    s = code_part input

    go : (a : Result Layout Rejection)
        → SplitsAt (λ at. accepting (λ x. fault_from x at) (λ d. lines_of d 0 0 1 s at) b a) (accepting (λ x. 1) (λ d. length s) b a) room at
        (accepting (λ x. fault_window x room at) (λ d. window_of d 0 0 1 s room at) b a)
    go (Ok l) = window-of (description b l) 0 0 1 refl s room at
    go (Err x) = fault-window x room at

-- parts joined are the whole, wherever they are cut
pub parts-joined : (input : List ℕ) (rooms : List ℕ) (at : ℕ)
    → listing_from input at ≡ joined (input_window input) rooms at ++ listing_from input (place_after (input_window input) rooms at)
unfolding joined place_after
parts-joined input [] at = refl
parts-joined input (room ∷ rooms) at =
    let w = input_window input room at in
    (input-window input room at).rest ∙ ap (λ (l : List ℕ). w.text ++ l) (parts-joined input rooms w.next)
    ∙ sym (append_assoc w.text (joined (input_window input) rooms w.next) (listing_from input (place_after (input_window input) rooms w.next)))

-- with room for a line each part moves on, so the parts come to an end
pub goes_on : (input : List ℕ) (room at : ℕ) → line_bytes ≤ room → (input_window input room at).full ≡ true
    → (at < (input_window input room at).next) × ((input_window input room at).next < end_of input)
goes_on input room at h e =
    let w = input-window input room at in
    let inside = w.more e in
    (w.on (omega (arith, w.since)) h, inside)
