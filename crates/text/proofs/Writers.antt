-- What a writer that was lent the part behind the bytes already written did to the whole text, and a text of several parts.
use Prim.Native.Nat.{ℕ, ◌+◌, ◌-◌, ◌≤◌, ◌<◌}
use mathlib.Core.List.{List, [], ◌++◌, append_assoc, append-nil}
use mathlib.Core.Path.{◌≡◌, refl, sym, ap, ◌∙◌}
use native.Mathlib.Omega.{arith}
use lib.ListN.{length, take, drop, length-append, length-drop}
use lib.Seq.{take_at, length-take-le}
use Rattle.std.specs.Prelude.{Option, Some, None}
use Rattle.printing.specs.Writing.{Puts, over}
use Rattle.printing.proofs.Writing.{Done, puts-wrote, puts-full, part-over, over-take}
use Rattle.text.specs.Append.{Appended, Appends}

module _ (at : ℕ) (w before mid : List ℕ) (r : Option ℕ) (room : at ≤ length before) (part : List ℕ)
    (lent : part ≡ take (length before - at) (drop at before)) (puts : Puts w part mid r) where
  part_length : length part ≡ length before - at
  part_length = rw lent (length-take-le (length before - at) (drop at before) (omega (arith, length-drop at before)) ∙ refl)

  pub appends-full : (after : List ℕ) → r ≡ None → Appends at w before after None
  appends-full after e = record { is = omega (arith, (puts-full puts e).0, part_length) }

  module _ (n : ℕ) (e : r ≡ Some n) where
    wrote : Done w part mid n
    wrote = puts-wrote puts e

    pub end-within : at + n ≤ length before
    end-within = omega (arith, wrote.fits, wrote.count, part_length)

    pub appends-wrote : Appends at w before (take at before ++ (mid ++ drop (length before - at) (drop at before))) (Some (at + n))
    unfolding over
    appends-wrote =
        let front = take at before ++ w in
        let long : length front ≡ at + n = length-append (take at before) w ∙ omega (arith, length-take-le at before room, wrote.count) in
        let whole : take at before ++ (mid ++ drop (length before - at) (drop at before)) ≡ over front before =
        part-over (take at before) w before (sym (length-take-le at before room)) (over-take at before room) (wrote.is ∙ ap (over w) lent) in
        record {
          is =
              record {
                fits = end-within;
                ends = omega (arith, wrote.count);
                holds = rw whole (take_at front (drop (length front) before) (at + n) long);
              };
        }

-- nothing is written yet
pub appended-none : (at : ℕ) (l : List ℕ) → at ≤ length l → Appended at [] l l at
appended-none at l h = record { fits = h; ends = omega arith; holds = sym (append-nil (take at l)) }

-- one part more
pub appended-more : (at : ℕ) (v w before mid after : List ℕ) (middle end : ℕ) → length mid ≡ length before → Appended at v before mid middle
    → Appended middle w mid after end → Appended at (v ++ w) before after end
appended-more at v w before mid after middle end l f g =
    record {
      fits = omega (arith, g.fits);
      ends = omega (arith, f.ends, g.ends, length-append v w);
      holds = g.holds ∙ ap (λ (x : List ℕ). x ++ w) f.holds ∙ append_assoc (take at before) v w;
    }

-- a text that has no room for a part has none for more
pub full-more : (at : ℕ) (v w before mid after : List ℕ) (middle : ℕ) → length mid ≡ length before → Appended at v before mid middle
    → Appends middle w mid after None → length before < at + length (v ++ w)
full-more at v w before mid after middle l f g = omega (arith, f.ends, g.is, length-append v w)
