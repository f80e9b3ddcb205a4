-- The loop over the lines, turn by turn.
use Prim.Native.Nat.{ℕ, ◌+◌, ◌-◌, ◌≤◌, ◌<◌}
use mathlib.Core.Bool.{true, false}
use mathlib.Core.List.{List, ◌++◌}
use mathlib.Core.Path.{◌≡◌, refl, sym, ap, subst, ◌∙◌}
use native.Mathlib.Omega.{arith}
use lib.ListN.{length, length-take, take, drop, length-append, length-drop, take-append-drop}
use lib.Seq.{take_at, length-take-le}
use Rattle.alignment.specs.Alignment.{is_alignment}
use Rattle.alignment.proofs.Laws.{alignment-some, alignment-few}
use Rattle.format.specs.Description.{Description}
use Rattle.printing.specs.Writing.{Puts, over}
use Rattle.std.proofs.Common.{Option, Some, None}
use Rattle.printing.proofs.Writing.{puts-wrote, puts-full, part-over}
use Rattle.setting.specs.Fixed.{Fixed}
use Rattle.setting.specs.declared.Prepared.{Prepared}
use Rattle.text.specs.Prints.{described}
use Rattle.listing_parts.specs.Parts.{line_text, line_bytes}
use Rattle.listing_lines.specs.Line.{line_at, next_at, line_shown}
use Rattle.listing_lines.specs.Put.{PlaceOf, told_at}
use Rattle.listing_lines.specs.declared.Shown.{Shown}
use Rattle.listing_lines.proofs.Showing.{same-description, fixed-there}
use Rattle.listing_text.specs.Listing.{window_of}
use Rattle.listing_text.specs.Windows.{Lists}
use Rattle.listing_text.proofs.Moving.{moves-on, line-length}
use Rattle.listing_text.proofs.Going.{Going, going-first, bytes_fit, going_on, going-full, going_end}

line-some : (d : Description) (c address u : ℕ) (s : List ℕ) (at : ℕ) → 1 ≤ length (line_at d c address u s at)
unfolding line_at line_text
line-some d c address u s at = simp length-append (omega arith)

over-length : (w l : List ℕ) → length w ≤ length l → length (over w l) ≡ length l
unfolding over
over-length w l h = omega (arith, length-append w (drop (length w) l), length-drop (length w) l)

module _ (b : List ℕ) (a₀ : Prepared) (c address u : ℕ) (s old : List ℕ) (from : ℕ) where
  abbrev d₀ : Description
  d₀ = described b a₀

  pub record LoopState (a : Prepared) (out : List ℕ) (at bytes lines : ℕ) : Type 0 where
    pub fixed : Fixed b a
    pub aligned : is_alignment u ≡ true
    pub same : described b a ≡ described b a₀
    pub going : Going (described b a₀) c address u s old from out at bytes lines
    pub kept : length out ≡ length old

  pub first-turn : Fixed b a₀ → is_alignment u ≡ true → LoopState a₀ old from 0 0
  first-turn f h = record { fixed = f; aligned = h; same = refl; going = going-first d₀ c address u s old from; kept = refl }

  module _ (a : Prepared) (out : List ℕ) (at bytes lines : ℕ) (t : LoopState a out at bytes lines) where
    pub room-left : bytes ≤ length out
    room-left = omega (arith, bytes_fit d₀ c address u s old from out at bytes lines t.going, t.kept)

    pub last_turn : length s ≤ at → Lists (window_of d₀ c address u s (length old) from) old (record { bytes = bytes; lines = lines; next = at; full = false }) out
    last_turn h = going_end d₀ c address u s old from out at bytes lines t.going h

    module _ (h : at < length s) where
      pub place-there : PlaceOf b a u s at
      place-there = record { fixed = t.fixed; aligned = t.aligned; inside = h }

      -- the line there, over a buffer that was `buffer` before
      module _ (shown : Shown) (is : shown ≡ line_shown (described b a) c address u s at) (buffer line : List ℕ) (wide : length buffer ≡ line_bytes)
          (holds : line ≡ over (line_at (described b a) c address u s at) buffer) where
        same_line : line_at (described b a) c address u s at ≡ line_at d₀ c address u s at
        same_line = ap (λ (d : Description). line_at d c address u s at) t.same

        line-there : line ≡ over (line_at d₀ c address u s at) buffer
        line-there = holds ∙ ap (λ (l : List ℕ). over l buffer) same_line

        shown-there : shown ≡ line_shown d₀ c address u s at
        shown-there = is ∙ ap (λ (d : Description). line_shown d c address u s at) t.same

        size-there : shown.size ≡ length (line_at d₀ c address u s at)
        unfolding line_shown
        size-there = ap (λ (x : Shown). x.size) shown-there

        next-there : shown.next ≡ next_at d₀ c address u s at
        unfolding line_shown
        next-there = ap (λ (x : Shown). x.next) shown-there

        text-there : take shown.size line ≡ line_at d₀ c address u s at
        unfolding over
        text-there = rw line-there (take_at (line_at d₀ c address u s at) _ shown.size (sym size-there))

        pub prefix-long : shown.size ≡ length (take shown.size line)
        prefix-long = size-there ∙ ap length (sym text-there)

        pub size_fits : shown.size ≤ length line
        size_fits = omega (arith, prefix-long, length-take shown.size line)

        pub line-wide : length line ≡ line_bytes
        line-wide =
            ap length line-there
            ∙ over-length (line_at d₀ c address u s at) buffer (omega (arith, line-length d₀ c address u s at (alignment-few u t.aligned)))
            ∙ wide

        module _ (part mid : List ℕ) (r : Option ℕ) (behind : part ≡ take (length out - bytes) (drop bytes out))
            (puts : Puts (take shown.size line) part mid r) where
          put-line : Puts (line_at d₀ c address u s at) part mid r
          put-line = rw text-there at puts

          part-long : length part ≡ length old - bytes
          part-long = rw behind (length-take-le (length out - bytes) (drop bytes out) (omega (arith, length-drop bytes out)) ∙ omega (arith, t.kept))

          pub full-turn : r ≡ None
              → Lists (window_of d₀ c address u s (length old) from) old (record { bytes = bytes; lines = lines; next = at; full = true })
              (take bytes out ++ (mid ++ drop (length out - bytes) (drop bytes out)))
          full-turn e =
              let f = puts-full put-line e in
              let same : take bytes out ++ (mid ++ drop (length out - bytes) (drop bytes out)) ≡ out =
              ap (λ (m : List ℕ). take bytes out ++ (m ++ drop (length out - bytes) (drop bytes out))) (f.1 ∙ behind)
              ∙ ap (λ (m : List ℕ). take bytes out ++ m) (take-append-drop (length out - bytes) (drop bytes out)) ∙ take-append-drop bytes out in
              subst (λ (o : List ℕ). Lists (window_of d₀ c address u s (length old) from) old (record { bytes = bytes; lines = lines; next = at; full = true }) o) (sym same)
              (going-full d₀ c address u s old from out at bytes lines t.going h (omega (arith, f.0, part-long)))

          module _ (k : ℕ) (e : r ≡ Some k) where
            count-there : k ≡ length (line_at d₀ c address u s at)
            count-there = (puts-wrote put-line e).count

            pub count_fits : bytes + k ≤ length old
            count_fits = omega (arith, (puts-wrote put-line e).fits, count-there, part-long, bytes_fit d₀ c address u s old from out at bytes lines t.going)

            pub next-turn : (a' : Prepared) → a' ≡ told_at address u a s at → (out' : List ℕ)
                → out' ≡ take bytes out ++ (mid ++ drop (length out - bytes) (drop bytes out))
                → LoopState a' out' shown.next (bytes + k) (lines + 1)
            next-turn a' told out' q =
                let w = puts-wrote put-line e in
                let g = t.going in
                let line' = line_at d₀ c address u s at in
                let is : out' ≡ over (g.text ++ line') old =
                q ∙ part-over g.text line' old g.count g.holds (w.is ∙ ap (over line') behind) in
                record {
                  fixed = fixed-there b a u s c address at place-there a' told;
                  aligned = t.aligned;
                  same = same-description b a u s c address at place-there a' told ∙ t.same;
                  going =
                      going_on d₀ c address u s old from out at bytes lines g h (alignment-some u t.aligned) out' k shown.next count-there
                      (omega (arith, w.fits, part-long)) next-there (omega (arith, count-there, line-some d₀ c address u s at))
                      is;
                  kept =
                      ap length is
                      ∙ over-length (g.text ++ line') old (omega (arith, length-append g.text line', g.count, w.fits, part-long, bytes_fit d₀ c address u s old from out at bytes lines g));
                }

            pub lines_fit : lines + 1 ≤ length old
            lines_fit = omega (arith, t.going.few, count_fits, count-there, line-some d₀ c address u s at)

            pub moves : at < shown.next
            moves = rw next-there (moves-on d₀ c address u s at (alignment-some u t.aligned) h).on
