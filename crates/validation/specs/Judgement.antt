-- What the check of one section answers.
use Rattle.std.specs.Prelude.{ℕ, ◌+◌, ◌*◌, Bool, List, cond, ltb, length, get_or, Result, Ok, Err, ⊤}
use Rattle.lists.specs.Below.{first_below}
use Rattle.format.specs.declared.Fault.{Fault}
use Rattle.format.specs.declared.Section.{Section}

-- record i of section k is at fault if it is one of the section's n
abbrev pub judgement : ℕ → ℕ → ℕ → Result ⊤ Fault
judgement k i n = cond (ltb i n) (Err (record { section = k; number = i })) (Ok tt)

-- record i of a section, read at its place
abbrev pub record_in : {A : Type 0} → (List ℕ → ℕ → A) → ℕ → List ℕ → Section → ℕ → A
record_in reader size b s i = reader b (s.start + size * i)

-- the first of the records that breaks a rule, which knows their numbers, or how many there are
abbrev pub first_broken : {A : Type 0} → (ℕ → A → Bool) → A → List A → ℕ
first_broken rule none records = first_below (length records) (λ i. rule i (get_or records i none))
