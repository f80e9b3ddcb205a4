-- The two parts of the program's input.
use Prim.Native.Nat.{ℕ, ◌+◌, ◌-◌, ◌≤◌, ◌<◌, min}
use mathlib.Core.List.{List, []}
use mathlib.Core.Path.{◌≡◌, sym, ap, ◌∙◌}
use native.Mathlib.Decide.{dec_lt}
use native.Mathlib.Omega.{arith}
use lib.ListN.{length, take, drop, length-drop, drop_of_length-le}
use lib.Seq.{take_all, take-nil}
use Rattle.format.specs.Bytes.{u16_at}
use Rattle.listing_text.specs.Listing.{most_code, description_part, code_part, split_of}
use Rattle.listing_text.specs.declared.Split.{Split}

same-split : (s s' e e' l l' : ℕ) → s ≡ s' → e ≡ e' → l ≡ l'
    → ◌≡◌ {A = Split} (record { start = s; end = e; last = l }) (record { start = s'; end = e'; last = l' })
same-split s s' e e' l l' p q r = rw (p, q, r)

pub split-none : (input : List ℕ) → length input < 2 → record { start = length input; end = length input; last = length input } ≡ split_of input
unfolding split_of
split-none input h = same-split _ _ _ _ _ _ (omega arith) (omega arith) (omega arith)

pub split_at : (input : List ℕ) (word end last : ℕ) → 2 ≤ length input → word ≡ u16_at input 0 → end ≡ min (2 + word) (length input)
    → last ≡ min (2 + word + most_code) (length input) → record { start = 2; end = end; last = last } ≡ split_of input
unfolding split_of
split_at input word end last h w f g = same-split _ _ _ _ _ _ (omega arith) (f ∙ ap (λ (k : ℕ). min (2 + k) (length input)) w) (g ∙ ap (λ (k : ℕ). min (2 + k + most_code) (length input)) w)

-- no more than there are
take-few : (n k : ℕ) (l : List ℕ) → k ≡ min n (length l) → take k l ≡ take n l
take-few n k l e = go (dec_lt n (length l))
  where
    go : Dec (n < length l) → take k l ≡ take n l
    go (yes p) = let z : k ≡ n = omega arith in rw z
    go (no p) = take_all k l (omega arith) ∙ sym (take_all n l (omega arith))

no_bytes : (n at : ℕ) (l : List ℕ) → length l ≤ at → take n (drop at l) ≡ []
no_bytes n at l h = ap (take n) (drop_of_length-le l {i = at} h) ∙ take-nil n

-- what stands at the places
module _ (input : List ℕ) (r : Split) (is : r ≡ split_of input) where
  places : (r.start ≡ min 2 (length input)) × (r.end ≡ min (2 + u16_at input 0) (length input)) × (r.last ≡ min (2 + u16_at input 0 + most_code) (length input))
  unfolding split_of
  places = (ap (λ (x : Split). x.start) is, ap (λ (x : Split). x.end) is, ap (λ (x : Split). x.last) is)

  pub in_order : (r.start ≤ r.end) × (r.end ≤ r.last) × (r.last ≤ length input)
  in_order = let p = places in (omega (arith, p.0, p.1), omega (arith, p.1, p.2), omega (arith, p.2))

  pub description-there : take (r.end - r.start) (drop r.start input) ≡ description_part input
  unfolding description_part
  description-there = go (dec_lt (length input) 2)
    where
      go : Dec (length input < 2) → take (r.end - r.start) (drop r.start input) ≡ take (u16_at input 0) (drop 2 input)
      go (yes h) =
          let p = places in
          no_bytes (r.end - r.start) r.start input (omega (arith, p.0)) ∙ sym (no_bytes (u16_at input 0) 2 input (omega arith))
      go (no h) =
          let p = places in
          let z : r.start ≡ 2 = omega (arith, p.0) in
          ap (λ (k : ℕ). take (r.end - r.start) (drop k input)) z
          ∙ take-few (u16_at input 0) (r.end - r.start) (drop 2 input) (omega (arith, p.0, p.1, length-drop 2 input))

  pub code-there : take (r.last - r.end) (drop r.end input) ≡ code_part input
  unfolding code_part
  code-there = go (dec_lt (length input) (2 + u16_at input 0))
    where
      go : Dec (length input < 2 + u16_at input 0) → take (r.last - r.end) (drop r.end input) ≡ take most_code (drop (2 + u16_at input 0) input)
      go (yes h) =
          let p = places in
          no_bytes (r.last - r.end) r.end input (omega (arith, p.1)) ∙ sym (no_bytes most_code (2 + u16_at input 0) input (omega arith))
      go (no h) =
          let p = places in
          let z : r.end ≡ 2 + u16_at input 0 = omega (arith, p.1) in
          ap (λ (k : ℕ). take (r.last - r.end) (drop k input)) z
          ∙ take-few most_code (r.last - r.end) (drop (2 + u16_at input 0) input) (omega (arith, p.1, p.2, length-drop (2 + u16_at input 0) input))
