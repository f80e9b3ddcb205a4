-- One question behind matching, agreeing and lying inside: does each bit that a pattern masks have its value there?
use Prim.Native.Nat.{ℕ, ◌/◌, ◌<◌, ◌≤◌}
use mathlib.Core.Bool.{Bool, true, false, not, ◌&&◌, ◌||◌, false≢true}
use mathlib.Core.List.{List}
use mathlib.Core.Path.{◌≡◌, refl, sym, subst, ◌∙◌}
use borrow.Author.Tests.{eq-eqb, eqb-true, le-ltb, ltb-false, not-true}
use lib.Dec.{eqb}
use lib.ListN.{length}
use Rattle.lists.specs.Below.{all_below}
use Rattle.lists.proofs.Below.{all_of, all-at, all_same, any_at, any_found}
use Rattle.lists.proofs.Bools.{and_left, and_right, and_both}
use Rattle.bits.specs.Bits.{bit, is_set}
use Rattle.format.specs.declared.Pattern.{Pattern}
use Rattle.patterns.specs.Matching.{byte_bit, present, context_agrees, matches, agrees, masks_missing}
use Rattle.patterns.specs.Relations.{inside, inside_bits}

-- what may be asked of bit k and the value that it should have
abbrev pub Asks : Type 1
Asks = ℕ → ℕ → Type 0

-- the bit is in the bytes, with that value
abbrev pub InBytes : List ℕ → Asks
InBytes s k v = (present s k ≡ true) × (byte_bit s k ≡ v)

-- it has that value in the context
abbrev pub InWord : ℕ → Asks
InWord c k v = bit c k ≡ v

-- a mask has it, with that value
abbrev pub InMask : ℕ → ℕ → Asks
InMask m x k v = (is_set m k ≡ true) × (bit x k ≡ v)

-- it has that value in the bytes, if its byte is there
abbrev pub Shown : List ℕ → Asks
Shown s k v = present s k ≡ true → byte_bit s k ≡ v

-- asked of each masked bit of the first n
pub record Holds (n : ℕ) (R : Asks) (m v : ℕ) : Type 0 where
  pub at : (k : ℕ) → k < n → is_set m k ≡ true → R k (bit v k)

-- .. and of a whole pattern
pub record Fits (B C : Asks) (p : Pattern) : Type 0 where
  pub bytes : Holds 64 B p.mask p.value
  pub context : Holds 32 C p.contextmask p.contextvalue

-- a test of each masked bit, where test and question say the same
module _ (n m v : ℕ) (test : ℕ → Bool) (R : Asks) where
  holds : ((k : ℕ) → test k ≡ true → R k (bit v k)) → all_below n (λ k. not (is_set m k) || test k) ≡ true → Holds n R m v
  holds f e = record { at = λ k h q. f k (rw q at (all-at (λ k. not (is_set m k) || test k) n k e h)) }

  held : ((k : ℕ) → R k (bit v k) → test k ≡ true) → Holds n R m v → all_below n (λ k. not (is_set m k) || test k) ≡ true
  held f r = all_of (λ k. not (is_set m k) || test k) n (λ k h. go k h (is_set m k) refl)
    where
      go : (k : ℕ) → k < n → (b : Bool) → is_set m k ≡ b → not b || test k ≡ true
      go k h true q = f k (r.at k h q)
      go k h false q = refl

-- what answers one question answers another
pub fits-map : (B D C : Asks) (p : Pattern) → ((k v : ℕ) → B k v → D k v) → Fits B C p → Fits D C p
fits-map B D C p f r =
    record { bytes = record { at = λ k h e. f k (bit p.value k) (r.bytes.at k h e) }; context = r.context }

-- a test with a condition of its own
loose : (n m : ℕ) (q e : ℕ → Bool)
    → all_below n (λ k. not (is_set m k && q k) || e k) ≡ all_below n (λ k. not (is_set m k) || (not (q k) || e k))
loose n m q e =
    all_same n (λ k. not (is_set m k && q k) || e k) (λ k. not (is_set m k) || (not (q k) || e k))
    (λ k h. go (is_set m k) (q k) (e k))
  where
    go : (a b c : Bool) → (not (a && b) || c) ≡ (not a || (not b || c))
    go true b c = refl
    go false b c = refl

given : (q : Bool) (x y : ℕ) → not q || eqb x y ≡ true → q ≡ true → x ≡ y
given true x y e h = eqb-true x y e
given false x y e h = absurd (false≢true h)

asked : (q : Bool) (x y : ℕ) → (q ≡ true → x ≡ y) → not q || eqb x y ≡ true
asked true x y f = eq-eqb x y (f refl)
asked false x y f = refl

-- a test with a first part and a comparison
pair : (a : Bool) (x y : ℕ) → a && eqb x y ≡ true → (a ≡ true) × (x ≡ y)
pair a x y e = (and_left a (eqb x y) e, eqb-true x y (and_right a (eqb x y) e))

paired : (a : Bool) (x y : ℕ) → (a ≡ true) × (x ≡ y) → a && eqb x y ≡ true
paired a x y r = and_both a (eqb x y) r.0 (eq-eqb x y r.1)

-- matching bytes and a context
module _ (p : Pattern) (s : List ℕ) (c : ℕ) where
  context-fits : context_agrees p c ≡ true → Holds 32 (InWord c) p.contextmask p.contextvalue
  unfolding context_agrees
  context-fits e =
      holds 32 p.contextmask p.contextvalue (λ k. eqb (bit c k) (bit p.contextvalue k)) (InWord c)
      (λ k. eqb-true (bit c k) (bit p.contextvalue k)) e

  fits-context : Holds 32 (InWord c) p.contextmask p.contextvalue → context_agrees p c ≡ true
  unfolding context_agrees
  fits-context r =
      held 32 p.contextmask p.contextvalue (λ k. eqb (bit c k) (bit p.contextvalue k)) (InWord c)
      (λ k. eq-eqb (bit c k) (bit p.contextvalue k)) r

  abbrev bit_matches : ℕ → Bool
  bit_matches k = present s k && eqb (byte_bit s k) (bit p.value k)

  pub matches-fits : matches p s c ≡ true → Fits (InBytes s) (InWord c) p
  unfolding matches
  matches-fits e =
      let bytes : Bool = all_below 64 (λ k. not (is_set p.mask k) || bit_matches k) in
      record {
        bytes =
            holds 64 p.mask p.value bit_matches (InBytes s) (λ k. pair (present s k) (byte_bit s k) (bit p.value k))
            (and_left bytes (context_agrees p c) e);
        context = context-fits (and_right bytes (context_agrees p c) e);
      }

  pub fits-matches : Fits (InBytes s) (InWord c) p → matches p s c ≡ true
  unfolding matches
  fits-matches r =
      and_both (all_below 64 (λ k. not (is_set p.mask k) || bit_matches k)) (context_agrees p c)
      (held 64 p.mask p.value bit_matches (InBytes s) (λ k. paired (present s k) (byte_bit s k) (bit p.value k)) r.bytes)
      (fits-context r.context)

  -- agreeing with the bytes that are there
  abbrev bit_agrees : ℕ → Bool
  bit_agrees k = eqb (byte_bit s k) (bit p.value k)

  bytes-are : all_below 64 (λ k. not (is_set p.mask k && present s k) || bit_agrees k)
      ≡ all_below 64 (λ k. not (is_set p.mask k) || (not (present s k) || bit_agrees k))
  bytes-are = loose 64 p.mask (present s) bit_agrees

  pub agrees-fits : agrees p s c ≡ true → Fits (Shown s) (InWord c) p
  unfolding agrees
  agrees-fits e =
      let bytes : Bool = all_below 64 (λ k. not (is_set p.mask k && present s k) || bit_agrees k) in
      record {
        bytes =
            holds 64 p.mask p.value (λ k. not (present s k) || bit_agrees k) (Shown s)
            (λ k. given (present s k) (byte_bit s k) (bit p.value k)) (sym bytes-are ∙ and_left bytes (context_agrees p c) e);
        context = context-fits (and_right bytes (context_agrees p c) e);
      }

  pub fits-agrees : Fits (Shown s) (InWord c) p → agrees p s c ≡ true
  unfolding agrees
  fits-agrees r =
      and_both (all_below 64 (λ k. not (is_set p.mask k && present s k) || bit_agrees k)) (context_agrees p c)
      (bytes-are
      ∙ held 64 p.mask p.value (λ k. not (present s k) || bit_agrees k) (Shown s)
      (λ k. asked (present s k) (byte_bit s k) (bit p.value k)) r.bytes)
      (fits-context r.context)

-- "masks a bit of a missing byte"
pub record Missing (p : Pattern) (s : List ℕ) : Type 0 where
  pub place : ℕ
  pub within : place < 64
  pub masked : is_set p.mask place ≡ true
  pub absent : length s ≤ place / 8

module _ (p : Pattern) (s : List ℕ) where
  abbrev bit_missing : ℕ → Bool
  bit_missing k = is_set p.mask k && not (present s k)

  pub missing_at : masks_missing p s ≡ true → Missing p s
  unfolding masks_missing
  missing_at e =
      let (k, h, q) = any_found bit_missing 64 e in
      record {
        place = k;
        within = h;
        masked = and_left (is_set p.mask k) (not (present s k)) q;
        absent = ltb-false (k / 8) (length s) (not-true (present s k) (and_right (is_set p.mask k) (not (present s k)) q));
      }

  pub missing-of : Missing p s → masks_missing p s ≡ true
  unfolding masks_missing
  missing-of r =
      any_at bit_missing 64 r.place r.within
      (and_both (is_set p.mask r.place) (not (present s r.place)) r.masked (rw (le-ltb (r.place / 8) (length s) r.absent)))

-- lying inside, at any width
module _ (n am av bm bv : ℕ) where
  abbrev bit_inside : ℕ → Bool
  bit_inside k = is_set am k && eqb (bit av k) (bit bv k)

  bits-holds : inside_bits n am av bm bv ≡ true → Holds n (InMask am av) bm bv
  unfolding inside_bits
  bits-holds e = holds n bm bv bit_inside (InMask am av) (λ k. pair (is_set am k) (bit av k) (bit bv k)) e

  holds-bits : Holds n (InMask am av) bm bv → inside_bits n am av bm bv ≡ true
  unfolding inside_bits
  holds-bits r = held n bm bv bit_inside (InMask am av) (λ k. paired (is_set am k) (bit av k) (bit bv k)) r

  -- what has all of A has all of B
  up : (R : Asks) → Holds n R am av → Holds n (InMask am av) bm bv → Holds n R bm bv
  up R r q =
      record { at = λ k h e. let x = q.at k h e in subst (λ v. R k v) x.1 (r.at k h x.0) }

-- A lies inside B
abbrev pub Within : Pattern → Pattern → Type 0
Within a b = Fits (InMask a.mask a.value) (InMask a.contextmask a.contextvalue) b

module _ (a b : Pattern) where
  abbrev low : Bool
  low = inside_bits 64 a.mask a.value b.mask b.value

  abbrev high : Bool
  high = inside_bits 32 a.contextmask a.contextvalue b.contextmask b.contextvalue

  pub inside-fits : inside a b ≡ true → Within a b
  unfolding inside
  inside-fits e =
      record {
        bytes = bits-holds 64 a.mask a.value b.mask b.value (and_left low high e);
        context = bits-holds 32 a.contextmask a.contextvalue b.contextmask b.contextvalue (and_right low high e);
      }

  pub fits-inside : Within a b → inside a b ≡ true
  unfolding inside
  fits-inside r =
      and_both low high (holds-bits 64 a.mask a.value b.mask b.value r.bytes)
      (holds-bits 32 a.contextmask a.contextvalue b.contextmask b.contextvalue r.context)

  -- what fits A fits every pattern that A lies inside
  pub fits-up : (B C : Asks) → Fits B C a → inside a b ≡ true → Fits B C b
  fits-up B C r e =
      let q : Within a b = inside-fits e in
      record {
        bytes = up 64 a.mask a.value b.mask b.value B r.bytes q.bytes;
        context = up 32 a.contextmask a.contextvalue b.contextmask b.contextvalue C r.context q.context;
      }
