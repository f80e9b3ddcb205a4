-- One pass over a table: the record that lies inside the others so far.
use Rattle.std.specs.Prelude.{ℕ, ◌<◌, ◌≤◌, Bool, true, false, cond, ◌&&◌, ◌||◌, not, ◌≡◌, eqb, Option, Some, None, Result, Ok, Err}
use Rattle.lists.specs.Below.{all_below, any_below}
use Rattle.format.specs.declared.Pattern.{Pattern}
use Rattle.patterns.specs.Relations.{inside}
use Rattle.patterns.specs.Words.{words_agree, words_whole}
use Rattle.patterns.specs.declared.Input.{Input}
use Rattle.choosing_spec.specs.declared.NotChosen.{NotChosen}
use Rattle.choosing_spec.specs.declared.NotChosen.TheVariants.{Short, NoMatch, Ambiguous}
use Rattle.choosing.specs.declared.Best.{Best}

-- record j, by the input's words: it masks a missing bit and agrees with all others; it matches
abbrev pub word_short : (ℕ → Pattern) → Input → ℕ → Bool
word_short at i j = words_agree (at j) i && not (words_whole (at j) i)

abbrev pub word_match : (ℕ → Pattern) → Input → ℕ → Bool
word_match at i j = words_agree (at j) i && words_whole (at j) i

-- one more matching record: the inner one of the two is kept; where neither or each lies inside the other, that is in doubt
unfoldable pub with_match : (ℕ → Pattern) → Option Best → ℕ → Best
with_match at None j = record { unsure = false; at = j }
with_match at (Some b) j =
    cond (inside (at j) (at b.at))
    (record { unsure = b.unsure || inside (at b.at) (at j); at = j })
    (record { unsure = b.unsure || not (inside (at b.at) (at j)); at = b.at })

-- record t matches, lies inside every other matching one, and none of those lies inside it
pub record Inmost (at : ℕ → Pattern) (hit : ℕ → Bool) (n t : ℕ) : Type 0 where
  pub within : t < n
  pub hits : hit t ≡ true
  pub above : (j : ℕ) → j < n → (j ≡ t → ⊥) → hit j ≡ true → (inside (at t) (at j) ≡ true) × (inside (at j) (at t) ≡ false)

-- b is the best that matches of the first j of n records
pub record BestOf (at : ℕ → Pattern) (hit : ℕ → Bool) (n j : ℕ) (b : Best) : Type 0 where
  pub within : b.at < j
  pub hits : hit b.at ≡ true
  pub sure : b.unsure ≡ false → Inmost at hit j b.at
  pub held : (t : ℕ) → t < j → Inmost at hit n t → b.at ≡ t

-- what is known after the first j of n records
abbrev pub ScanState : (ℕ → Pattern) → (ℕ → Bool) → ℕ → ℕ → Option Best → Type 0
ScanState at hit n j None = any_below j hit ≡ false
ScanState at hit n j (Some b) = BestOf at hit n j b

-- records from one on that are passed over: none of them agrees
pub record Skips (at : ℕ → Pattern) (i : Input) (n from r : ℕ) : Type 0 where
  pub since : from ≤ r
  pub within : r ≤ n
  pub none : (j : ℕ) → from ≤ j → j < r → words_agree (at j) i ≡ false

-- what is known of the records that match after a whole pass
abbrev pub Passed : (ℕ → Pattern) → Input → ℕ → Option Best → Type 0
Passed at i n b = ScanState at (word_match at i) n n b

-- what a whole pass tells
abbrev pub ScanResult : (ℕ → Pattern) → Input → ℕ → Result (Option Best) NotChosen → Type 0
ScanResult at i n (Err e) = (e ≡ Short) × (any_below n (word_short at i) ≡ true)
ScanResult at i n (Ok b) = (any_below n (word_short at i) ≡ false) × Passed at i n b

-- record j does not stand in the way of record t: it is t, or does not match, or t lies inside it and not it inside t
unfoldable pub clears : (ℕ → Pattern) → (ℕ → Bool) → ℕ → ℕ → Bool
clears at hit t j = eqb j t || not (hit j) || (inside (at t) (at j) && not (inside (at j) (at t)))

abbrev pub clears_all : (ℕ → Pattern) → Input → ℕ → ℕ → Bool
clears_all at i n t = all_below n (clears at (word_match at i) t)

-- what the records that match settle, where none is short
abbrev pub ChoiceHolds : (ℕ → Pattern) → (ℕ → Bool) → ℕ → Result ℕ NotChosen → Type 0
ChoiceHolds at hit n (Err Short) = ⊥
ChoiceHolds at hit n (Err NoMatch) = any_below n hit ≡ false
ChoiceHolds at hit n (Ok t) = Inmost at hit n t
ChoiceHolds at hit n (Err Ambiguous) = (any_below n hit ≡ true) × ((t : ℕ) → Inmost at hit n t → ⊥)

abbrev pub ChoiceOf : (ℕ → Pattern) → Input → ℕ → Result ℕ NotChosen → Type 0
ChoiceOf at i n r = ChoiceHolds at (word_match at i) n r
