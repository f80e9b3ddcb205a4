-- Bytes put one behind the other over a part.
use Prim.Native.Nat.{ℕ, ◌+◌, ◌-◌, ◌^◌, ◌≤◌, ◌<◌}
use mathlib.Core.Bool.{Bool, true, false, cond}
use mathlib.Core.List.{List, [], ◌∷◌, ◌++◌}
use mathlib.Core.Path.{◌≡◌, refl, sym, ap, ◌∙◌}
use native.Mathlib.Omega.{arith}
use borrow.Author.Tests.{le-leb, lt-ltb, le-ltb}
use lib.Dec.{leb, ltb}
use lib.ListN.{length, take, drop, length-append, length-drop}
use lib.Seq.{take_at, drop-append-add, drop-drop, length-take-le}
use Rattle.std.specs.Prelude.{Option, Some}
use Rattle.printing.specs.Writing.{Puts, over}
use Rattle.printing.specs.Numerals.{digits_up_to, digits_of}
use Rattle.printing.proofs.Numerals.{up-to-length, digits-length, hex-digits}
use Rattle.printing.proofs.Writing.{part-over, over-take}
use Rattle.listing_parts.specs.Parts.{hex_digits, address_text}
use Rattle.listing_parts.specs.Put.{Put, Appended}

-- bytes put behind others
pub over-over : (x y l : List ℕ) (a : ℕ) → a ≡ length x → over (take a (over x l) ++ y) (over x l) ≡ over (x ++ y) l
unfolding over
over-over x y l a e =
    let front : take a (x ++ drop (length x) l) ≡ x = take_at x (drop (length x) l) a (sym e) in
    let long : length (x ++ y) ≡ length x + length y = length-append x y in
    let tail : drop (length x + length y) (x ++ drop (length x) l) ≡ drop (length x + length y) l =
    drop-append-add x (drop (length x) l) (length y) ∙ drop-drop (length y) (length x) l in
    rw (front, long, tail)

-- a writer that was lent the part behind a place, with room enough
pub part-put : (at : ℕ) (w before mid part : List ℕ) (r : Option ℕ) → at + length w ≤ length before
    → part ≡ take (length before - at) (drop at before) → Puts w part mid r
    → take at before ++ (mid ++ drop (length before - at) (drop at before)) ≡ over (take at before ++ w) before
part-put at w before mid part r h e p =
    let long : length part ≡ length before - at = rw e (length-take-le (length before - at) (drop at before) (omega (arith, length-drop at before))) in
    let fits : leb (length w) (length part) ≡ _ = le-leb (length w) (length part) (omega arith) in
    part-over (take at before) w before (sym (length-take-le at before (omega arith))) (over-take at before (omega arith))
    (rw fits at p.holds ∙ ap (over w) e)

-- bytes put over a part, and more behind them
pub put_first : (w l m : List ℕ) (n : ℕ) → length w ≤ length l → Appended 0 w l m n → Put w l m n
put_first w l m n h e = record { size = omega (arith, e.size); fits = h; holds = e.holds }

pub put-more : (v w l m m' : List ℕ) (n n' : ℕ) → Put v l m n → length v + length w ≤ length l → Appended n w m m' n'
    → Put (v ++ w) l m' n'
put-more v w l m m' n n' p h e =
    record {
      size = omega (arith, length-append v w, p.size, e.size);
      fits = omega (arith, length-append v w);
      holds = e.holds ∙ ap (λ (x : List ℕ). over (take n x ++ w) x) p.holds ∙ over-over v w l n p.size;
    }

eight-long : (n : ℕ) → length (hex_digits 8 n) ≡ 8
unfolding hex_digits
eight-long n = refl

pub short-long : (n : ℕ) → length (hex_digits 8 n ++ (58 ∷ 32 ∷ [])) ≡ 10
unfolding hex_digits
short-long n = refl

pub address-long : (n : ℕ) → length (address_text n) ≤ 16
unfolding address_text
address-long n = go (ltb n (16 ^ 8))
  where
    go : (b : Bool) → length (cond b (hex_digits 8 n) (digits_up_to 16 16 n)) ≤ 16
    go true = omega (arith, eight-long n)
    go false = up-to-length 16 16 n

-- the digits that the code puts are the address's
pub address-few : (n : ℕ) → n < 16 ^ 8 → address_text n ≡ hex_digits 8 n
unfolding address_text
address-few n h = rw (lt-ltb n (16 ^ 8) h)

pub address-many : (n : ℕ) → 16 ^ 8 ≤ n → n < 2 ^ 64 → address_text n ≡ digits_of 16 n
unfolding address_text
address-many n h l = rw (le-ltb n (16 ^ 8) h) (sym (hex-digits n l))

-- what was put can be taken again
pub put-taken : (w before after : List ℕ) (n : ℕ) → Put w before after n → take n after ≡ w
unfolding over
put-taken w before after n p = rw p.holds (take_at w (drop (length w) before) n (sym p.size))

-- a number put behind a place, with room enough
module _ (at base n : ℕ) (before mid part : List ℕ) (r : Option ℕ) (h : at + 20 ≤ length before) (e : part ≡ take (length before - at) (drop at before))
    (p : Puts (digits_of base n) part mid r) where
  pub number_put : take at before ++ (mid ++ drop (length before - at) (drop at before)) ≡ over (take at before ++ digits_of base n) before
  number_put = part-put at (digits_of base n) before mid part r (omega (arith, digits-length base n)) e p

  pub number_is : r ≡ Some (length (digits_of base n))
  number_is =
      let long : length part ≡ length before - at = rw e (length-take-le (length before - at) (drop at before) (omega (arith, length-drop at before))) in
      p.answer ∙ rw (le-leb (length (digits_of base n)) (length part) (omega (arith, digits-length base n)))
