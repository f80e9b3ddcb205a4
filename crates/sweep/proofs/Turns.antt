-- The sweep's loop, row by row.
use Prim.Native.Nat.{ℕ, zero, suc, ◌+◌, ◌-◌, ◌*◌, ◌/◌, ◌≤◌, ◌<◌}
use mathlib.Core.Bool.{true}
use mathlib.Core.List.{List, [], ◌∷◌, ◌++◌, append_assoc, append-nil}
use mathlib.Core.Path.{◌≡◌, refl, sym, ap, ◌∙◌}
use native.Mathlib.Omega.{arith}
use borrow.Author.Tests.{le-leb, lt-leb}
use lib.IntN.{ℤ, pos}
use lib.ListN.{length, take, drop, set, length-append, length-drop}
use lib.Seq.{sets-eq, take_at, drop-append-add, drop-drop}
use Rattle.std.proofs.Common.{None}
use Rattle.format.specs.Numbers.{sweep_numbers}
use Rattle.format.specs.Check.{WellFormed}
use Rattle.format.specs.Description.{Description, description}
use Rattle.format.specs.declared.Layout.{Layout}
use Rattle.format.proofs.Formation.{RulesHold}
use Rattle.decoding_spec.specs.State.{Setting}
use Rattle.decoding_spec.specs.Instruction.{instruction_of}
use Rattle.setting.specs.Fixed.{Fixed, fixed_of, setting_in}
use Rattle.setting.proofs.Laws.{obeyed-in, few-in, fixed-of, setting-of, fixed-for, setting-for}
use Rattle.setting.specs.declared.Prepared.{Prepared}
use Rattle.walking.specs.Walks.{told_length}
use Rattle.instructions.specs.Instructions.{result_at}
use Rattle.sweep.specs.Sweep.{SweepRow, Sweep, joined, end_at, row_at, row_of, no_root, aligned_step, step_at, sweep_by, sweep_from, sweep_in, numbers_of}
use Rattle.sweep.specs.Buffer.{Outcome, OutcomeIn, StillFixed, buffer_with_row}
use Rattle.sweep.specs.declared.End.{End}
use Rattle.sweep.specs.declared.End.TheVariants as end
use Rattle.sweep.specs.declared.Swept.{Swept}
use Rattle.sweep.proofs.Places.{Fits, step_fits}

pub put_four : (l : List ℤ) (i k a b c d : ℕ) → k ≡ sweep_numbers * i → sweep_numbers * (i + 1) ≤ length l
    → set (set (set (set l k (pos a)) (k + 1) (pos b)) (k + 2) (pos c)) (k + 3) (pos d) ≡ buffer_with_row i (row_at a b c d) l
unfolding buffer_with_row numbers_of
put_four l i k a b c d e h =
    let p : k + 1 ≡ suc k = omega arith in
    let q : k + 2 ≡ suc (suc k) = omega arith in
    let r : k + 3 ≡ suc (suc (suc k)) = omega arith in
    let z : sweep_numbers * (i + 1) ≡ k + 4 = omega arith in
    let w : List ℤ = pos a ∷ pos b ∷ pos c ∷ pos d ∷ [] in
    rw (p, q, r, z, ← e) (sets-eq w l k (omega arith) ∙ append_assoc (take k l) w (drop (k + 4) l))

pub numbers-length : (rs : List SweepRow) → length (numbers_of rs) ≡ sweep_numbers * length rs
unfolding numbers_of
numbers-length [] = refl
numbers-length (r ∷ rs) = let e = numbers-length rs in omega arith

pub numbers-append : (a b : List SweepRow) → numbers_of (a ++ b) ≡ numbers_of a ++ numbers_of b
unfolding numbers_of
numbers-append [] b = refl
numbers-append (r ∷ a) b = ap (λ (l : List ℤ). pos r.start ∷ pos r.length ∷ pos r.answer ∷ pos r.constructor ∷ l) (numbers-append a b)

-- a row put behind those that are written
row-behind : (a old : List ℤ) (r : SweepRow) (n : ℕ) → length a ≡ sweep_numbers * n
    → buffer_with_row n r (a ++ drop (sweep_numbers * n) old) ≡ (a ++ numbers_of (r ∷ [])) ++ drop (sweep_numbers * (n + 1)) old
unfolding buffer_with_row
row-behind a old r n e =
    let z : sweep_numbers * (n + 1) ≡ length a + 4 = omega arith in
    let y : sweep_numbers * n + 4 ≡ sweep_numbers * (n + 1) = omega arith in
    let tail : drop (sweep_numbers * (n + 1)) (a ++ drop (sweep_numbers * n) old) ≡ drop (sweep_numbers * (n + 1)) old =
    ap (λ (m : ℕ). drop m (a ++ drop (sweep_numbers * n) old)) z ∙ drop-append-add a (drop (sweep_numbers * n) old) 4
    ∙ drop-drop 4 (sweep_numbers * n) old ∙ ap (λ (m : ℕ). drop m old) y in
    rw (take_at a (drop (sweep_numbers * n) old) (sweep_numbers * n) e, tail) (sym (append_assoc a (numbers_of (r ∷ [])) (drop (sweep_numbers * (n + 1)) old)))

module _ (d : Description) (c a u : ℕ) (s : List ℕ) where
  -- what comes at a place
  pub used-up : (room at : ℕ) → length s ≤ at → sweep_from d c a u s room at ≡ end_at end.Used at
  unfolding sweep_by
  used-up zero at h = rw (le-leb (length s) at h)
  used-up (suc room) at h = rw (le-leb (length s) at h)

  pub no_room : (room at : ℕ) → at < length s → room ≡ 0 → sweep_from d c a u s room at ≡ end_at end.Full at
  unfolding sweep_by
  no_room room at h e = rw (e, lt-leb (length s) at h)

  pub stops : (room at : ℕ) → at < length s → 0 < room → step_at d c a u s at ≡ None → sweep_from d c a u s room at ≡ end_at end.Short at
  unfolding sweep_by
  stops zero at h r e = absurd (omega arith)
  stops (suc room) at h r e = rw (lt-leb (length s) at h, e)

  pub goes_on : (room at l x k : ℕ) → at < length s → 0 < room → step_at d c a u s at ≡ row_of l x k
      → sweep_from d c a u s room at ≡ joined (row_at at l x k ∷ []) (sweep_from d c a u s (room - 1) (at + l))
  unfolding sweep_by
  goes_on zero at l x k h r e = absurd (omega arith)
  goes_on (suc room) at l x k h r e = let z : suc room - 1 ≡ room = omega arith in rw (z, lt-leb (length s) at h, e)

  -- after n rows, at place `at`
  pub record Progress (room : ℕ) (old new : List ℤ) (at n : ℕ) : Type 0 where
    pub written : List SweepRow
    pub count : length written ≡ n
    pub whole : sweep_from d c a u s room 0 ≡ joined written (sweep_from d c a u s (room - n) at)
    pub rows : new ≡ numbers_of written ++ drop (sweep_numbers * n) old
    pub inside : at ≤ length s
    pub few : n ≤ room
    pub lent : sweep_numbers * room ≤ length old

  pub no_row : (room : ℕ) (old : List ℤ) → sweep_numbers * room ≤ length old → Progress room old old 0 0
  unfolding numbers_of
  no_row room old h =
      let z : room - 0 ≡ room = omega arith in
      record { written = []; count = refl; whole = rw z; rows = refl; inside = omega arith; few = omega arith; lent = h }

  module _ (room : ℕ) (old new : List ℤ) (at n : ℕ) (turn : Progress room old new at n) where
    pub long : length new ≡ length old
    long =
        ap length turn.rows ∙ length-append (numbers_of turn.written) (drop (sweep_numbers * n) old)
        ∙ omega (arith, numbers-length turn.written, turn.count, length-drop (sweep_numbers * n) old, turn.few, turn.lent)

    -- the end: nothing comes behind the rows that are written
    pub swept : (why : End) → sweep_from d c a u s (room - n) at ≡ end_at why at → Outcome (sweep_from d c a u s room 0) (record { why = why; rows = n; next = at }) old new
    swept why e =
        let whole : sweep_from d c a u s room 0 ≡ record { rows = turn.written ++ []; why = why; next = at } = turn.whole ∙ ap (joined turn.written) e in
        let all : turn.written ++ [] ≡ turn.written = append-nil turn.written in
        rw whole
        (record {
          answer = rw all (ap (λ (m : ℕ). record { why = why; rows = m; next = at }) (sym turn.count));
          rows = rw (all, turn.count) turn.rows;
        })

    -- one row more
    pub next_row : (l x k : ℕ) (new' : List ℤ) → at < length s → n < room → step_at d c a u s at ≡ row_of l x k → at + l ≤ length s
        → new' ≡ buffer_with_row n (row_at at l x k) new → Progress room old new' (at + l) (n + 1)
    next_row l x k new' h f e g p =
        let r : SweepRow = row_at at l x k in
        let rest : Sweep = sweep_from d c a u s (room - (n + 1)) (at + l) in
        let z : room - n - 1 ≡ room - (n + 1) = omega arith in
        record {
          written = turn.written ++ (r ∷ []);
          count = length-append turn.written (r ∷ []) ∙ omega (arith, turn.count);
          whole =
              turn.whole
              ∙ ap (joined turn.written) (goes_on (room - n) at l x k h (omega arith) e ∙ rw z)
              ∙ ap (λ (rs : List SweepRow). record { rows = rs; why = rest.why; next = rest.next }) (sym (append_assoc turn.written (r ∷ []) rest.rows));
          rows =
              p ∙ ap (buffer_with_row n r) turn.rows
              ∙ row-behind (numbers_of turn.written) old r n (numbers-length turn.written ∙ ap (λ (m : ℕ). sweep_numbers * m) turn.count)
              ∙ ap (λ (ns : List ℤ). ns ++ drop (sweep_numbers * (n + 1)) old) (sym (numbers-append turn.written (r ∷ [])));
          inside = g;
          few = omega arith;
          lent = turn.lent;
        }

-- nothing has changed, or the walk was told how many bytes are left
pub still-here : (b : List ℕ) (a : Prepared) → Fixed b a → StillFixed b a a
still-here b a f = record { fixed = f; same = refl }

pub still-told : (b : List ℕ) (a : Prepared) (s : List ℕ) (at : ℕ) (a' : Prepared) → Fixed b a → a' ≡ told_length a s at → StillFixed b a a'
still-told b a s at a' f told =
    rw told
    (record {
      fixed = fixed-for b a (length s - at) f;
      same = ap (λ (g : Setting). g.description) (setting-for b a (length s - at));
    })

-- the loop after n rows, at place `at`, with alignment u: b are the description's bytes, a₀ what is fixed at the start and a those now
pub record LoopState (b : List ℕ) (a₀ : Prepared) (c address u : ℕ) (s : List ℕ) (room : ℕ) (old new : List ℤ) (a : Prepared) (at n : ℕ) : Type 0 where
  pub still : StillFixed b a₀ a
  pub progress : Progress (setting_in b a₀).description c address u s room old new at n

pub first-turn : (b : List ℕ) (a : Prepared) (c address u : ℕ) (s : List ℕ) (room : ℕ) (old : List ℤ) → Fixed b a → sweep_numbers * room ≤ length old
    → LoopState b a c address u s room old old a 0 0
first-turn b a c address u s room old f h =
    record { still = still-here b a f; progress = no_row (setting_in b a).description c address u s room old h }

module _ (b : List ℕ) (a₀ : Prepared) (c address u : ℕ) (s : List ℕ) (room : ℕ) (old new : List ℤ) (a : Prepared) (at n : ℕ) (turn : LoopState b a₀ c address u s room old new a at n) where
  -- the step at the place
  pub step-here : aligned_step u (address + at) (length s - at) (result_at b a s at c address) ≡ step_at (setting_in b a₀).description c address u s at
  unfolding result_at step_at
  step-here = ap (λ (d : Description). aligned_step u (address + at) (length s - at) (instruction_of d c (address + at) (drop at s))) turn.still.same

  module _ (some : 0 < u) (l k x : ℕ) (e : aligned_step u (address + at) (length s - at) (result_at b a s at c address) ≡ row_of l k x) (h : at < length s) where
    -- its row fits
    pub row_fits : Fits s at l x
    row_fits =
        let few : length (setting_in b a₀).description.constructors ≤ no_root = rw (← turn.still.same) (omega (arith, few-in b a turn.still.fixed)) in
        let o : RulesHold (setting_in b a₀).description = rw turn.still.same at (obeyed-in b a turn.still.fixed) in
        step_fits (setting_in b a₀).description o c address u some s at few h l k x (sym step-here ∙ e)

    -- and with it the loop goes on
    pub next-turn : (new' : List ℤ) (a' : Prepared) → n < room → StillFixed b a a' → new' ≡ buffer_with_row n (row_at at l k x) new
        → LoopState b a₀ c address u s room old new' a' (at + l) (n + 1)
    next-turn new' a' f still p =
        record {
          still = record { fixed = still.fixed; same = still.same ∙ turn.still.same };
          progress = next_row _ c address u s room old new at n turn.progress l k x new' h f (sym step-here ∙ e) row_fits.here p;
        }

-- what is fixed is what the description's places give
module _ (b : List ℕ) (l : Layout) (a₀ : Prepared) (is : a₀ ≡ fixed_of (description b l) l true) where
  pub fixed-here : WellFormed b l → Fixed b a₀
  fixed-here f = rw is (fixed-of b l true f)

  pub outcome-in : (c address u : ℕ) (s : List ℕ) (old new : List ℤ) (r : Swept) → Outcome (sweep_from (setting_in b a₀).description c address u s (length old / sweep_numbers) 0) r old new
      → OutcomeIn b l c address u s old r new
  unfolding sweep_in
  outcome-in c address u s old new r w = rw (is, setting-of b l true) at w
