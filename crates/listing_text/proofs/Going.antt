-- The lines written so far, and those that are left, are the window.
use Prim.Native.Nat.{ℕ, zero, suc, ◌+◌, ◌-◌, ◌≤◌, ◌<◌}
use mathlib.Core.Bool.{Bool, true, false, cond}
use mathlib.Core.List.{List, [], ◌++◌, append_assoc, append-nil}
use mathlib.Core.Path.{◌≡◌, refl, sym, ap, ◌∙◌}
use native.Mathlib.Omega.{arith}
use borrow.Author.Tests.{le-leb, lt-leb}
use lib.Dec.{leb}
use lib.ListN.{length, length-append}
use Rattle.format.specs.Description.{Description}
use Rattle.printing.specs.Writing.{over}
use Rattle.listing_lines.specs.Line.{line_at, next_at}
use Rattle.listing_text.specs.Listing.{Window, no_lines, before, window_from, window_of, part_of}
use Rattle.listing_text.specs.Windows.{Lists}
use Rattle.listing_text.proofs.Moving.{moves-on}

-- so many lines, with this text, before a window
abbrev after : List ℕ → ℕ → Window → Window
after text lines w = record { text = text ++ w.text; lines = lines + w.lines; next = w.next; full = w.full }

module _ (d : Description) (c address u : ℕ) (s old : List ℕ) (from : ℕ) where
  pub record Going (out : List ℕ) (at bytes lines : ℕ) : Type 0 where
    pub most : ℕ
    pub enough : length s ≤ at + most
    pub text : List ℕ
    pub count : bytes ≡ length text
    pub fits : length text ≤ length old
    pub few : lines ≤ bytes
    pub holds : out ≡ over text old
    pub rest : window_of d c address u s (length old) from ≡ after text lines (window_from d c address u s most (length old - bytes) at)

  same-window : (text text' : List ℕ) (lines lines' : ℕ) (w : Window) → text ≡ text' → lines ≡ lines'
      → ◌≡◌ {A = Window} (record { text = text; lines = lines; next = w.next; full = w.full }) (record { text = text'; lines = lines'; next = w.next; full = w.full })
  same-window text text' lines lines' w e f = rw (e, f)

  pub going-first : Going old from 0 0
  unfolding window_of over
  going-first =
      record {
        most = length s;
        enough = omega arith;
        text = [];
        count = refl;
        fits = omega arith;
        few = omega arith;
        holds = refl;
        rest =
            let z : length old - 0 ≡ length old = omega arith in
            let w = window_from d c address u s (length s) (length old) from in
            let n : w.lines ≡ 0 + w.lines = omega arith in
            rw z (same-window w.text w.text w.lines (0 + w.lines) w refl n);
      }

  module _ (out : List ℕ) (at bytes lines : ℕ) (g : Going out at bytes lines) where
    abbrev pub room : ℕ
    room = length old - bytes

    pub bytes_fit : bytes ≤ length old
    bytes_fit = omega (arith, g.count, g.fits)

    ends : (full : Bool) → window_from d c address u s g.most room at ≡ no_lines at full
        → Lists (window_of d c address u s (length old) from) old (record { bytes = bytes; lines = lines; next = at; full = full }) out
    ends full e =
        let is : window_of d c address u s (length old) from ≡ record { text = g.text ++ []; lines = lines + 0; next = at; full = full } =
        g.rest ∙ ap (after g.text lines) e in
        let long : bytes ≡ length (g.text ++ []) = g.count ∙ ap length (sym (append-nil g.text)) in
        let number : lines ≡ lines + 0 = omega arith in
        record {
          answer = sym (ap part_of is ∙ rw (← long, ← number));
          text = g.holds ∙ ap (λ (l : List ℕ). over l old) (sym (append-nil g.text)) ∙ ap (λ (w : Window). over w.text old) (sym is);
        }

    -- the window from here on, where there is a line more
    module _ (b : at < length s) where
      abbrev pub line : List ℕ
      line = line_at d c address u s at

      level : suc (g.most - 1) ≡ g.most
      level = omega (arith, g.enough)

      opened : window_from d c address u s g.most room at
          ≡ cond (leb (length line) room) (before line (window_from d c address u s (g.most - 1) (room - length line) (next_at d c address u s at))) (no_lines at true)
      unfolding window_from
      opened = ap (λ (m : ℕ). window_from d c address u s m room at) (sym level) ∙ rw (lt-leb (length s) at b)

      pub going_on : 0 < u → (out' : List ℕ) (count next : ℕ) → count ≡ length line → length line ≤ room → next ≡ next_at d c address u s at → 1 ≤ count
          → out' ≡ over (g.text ++ line) old → Going out' next (bytes + count) (lines + 1)
      going_on pos out' count next e f n some h =
          let m = moves-on d c address u s at pos b in
          let w = window_from d c address u s (g.most - 1) (room - length line) (next_at d c address u s at) in
          let left : room - length line ≡ length old - (bytes + count) = omega arith in
          let number : lines + (1 + w.lines) ≡ lines + 1 + w.lines = omega arith in
          record {
            most = g.most - 1;
            enough = omega (arith, g.enough, m.on);
            text = g.text ++ line;
            count = omega (arith, g.count, length-append g.text line);
            fits = omega (arith, g.count, length-append g.text line);
            few = omega (arith, g.few);
            holds = h;
            rest =
                g.rest ∙ ap (after g.text lines) (opened ∙ rw (le-leb (length line) room f))
                ∙ same-window (g.text ++ (line ++ w.text)) ((g.text ++ line) ++ w.text) (lines + (1 + w.lines)) (lines + 1 + w.lines) w
                (sym (append_assoc g.text line w.text)) number
                ∙ ap (λ (k : ℕ). after (g.text ++ line) (lines + 1) (window_from d c address u s (g.most - 1) k (next_at d c address u s at))) left
                ∙ ap (λ (k : ℕ). after (g.text ++ line) (lines + 1) (window_from d c address u s (g.most - 1) (length old - (bytes + count)) k)) (sym n);
          }

      pub going-full : room < length line
          → Lists (window_of d c address u s (length old) from) old (record { bytes = bytes; lines = lines; next = at; full = true }) out
      going-full f = ends true (opened ∙ rw (lt-leb (length line) room f))

    pub going_end : length s ≤ at → Lists (window_of d c address u s (length old) from) old (record { bytes = bytes; lines = lines; next = at; full = false }) out
    unfolding window_from
    going_end h = ends false (go g.most)
      where
        go : (m : ℕ) → window_from d c address u s m room at ≡ no_lines at false
        go zero = refl
        go (suc m) = rw (le-leb (length s) at h)
