-- Between the code's answers and the definition's results: what a walk's answer says, and a constructor after its operands.
use Prim.Native.Nat.{ℕ, suc, ◌+◌, ◌-◌, ◌≤◌, ◌<◌, max}
use mathlib.Core.Bool.{Bool, true, false, cond}
use mathlib.Core.List.{List, [], ◌∷◌}
use mathlib.Core.Path.{◌≡◌, refl, ap, ◌∙◌}
use native.Mathlib.Omega.{arith}
use borrow.Author.Tests.{ltb-true, ltb-false, lt-ltb, le-ltb}
use lib.Dec.{ltb}
use Rattle.std.specs.Prelude.{Ok, Err}
use lib.IntN.{ℤ, pos}
use lib.ListN.{length, take, drop, length-drop}
use lib.Seq.{take_all}
use Rattle.format.specs.Numbers.{longest, most_rows}
use Rattle.decoding_spec.specs.State.{Setting, closed_by}
use Rattle.decoding_spec.specs.Tree.{Nodes, built}
use Rattle.decoding_spec.specs.Walk.{Result, done, refused, closed, closing}
use Rattle.decoding_spec.specs.declared.State.{State}
use Rattle.decoding_spec.specs.declared.Refusal.{Refusal}
use Rattle.decoding_spec.specs.declared.Refusal.TheVariants.{Short, TooFar}
use Rattle.walk_steps.specs.Scratch.{SizedRow, sized, sized_of, sized_of_all, written}
use Rattle.walk_steps.specs.Steps.{Walked, arrived, StepsTo, Within, closed_as, closed_rows}
use Rattle.walk_steps.specs.declared.Walk.{Walk}
use Rattle.walk_steps.proofs.Writing.{written-before}
use Rattle.walking.specs.Walks.{WalksTo, Walks, Finished}

-- the part of the code from a place on
pub code-from : (s : List ℕ) (at : ℕ) → take (length s - at) (drop at s) ≡ drop at s
code-from s at = take_all (length s - at) (drop at s) (omega (arith, length-drop at s))

module _ {A : Type 0} (rows : A → List SizedRow) (result : Result A) (at used : ℕ) (old new : List ℤ) where
  pub refuses : (r : Refusal) → result ≡ refused r → WalksTo rows result (Err r) at used old new
  refuses r e = rw e (record { answer = refl; put = tt })

  pub finishes : (a : A) (l : ℕ) (st : State) → result ≡ done a l st → Finished rows a l st at used old new
      → WalksTo rows result (arrived st l) at used old new
  finishes a l st e f = rw e (record { answer = refl; put = f })

  -- what a done walk has found
  pub record WasDone (l : ℕ) (st : State) : Type 0 where
    pub found : A
    pub is : result ≡ done found l st
    pub finished : Finished rows found l st at used old new

module _ {A : Type 0} (rows : A → List SizedRow) (at used : ℕ) (old new : List ℤ) where
  pub was-refused : (result : Result A) (w : Walked) (r : Refusal) → WalksTo rows result w at used old new → w ≡ Err r → result ≡ refused r
  was-refused (done a l st) w r h e = cc h.answer
  was-refused (refused s) w r h e = let z : s ≡ r = cc h.answer in rw z

  pub was-done : (result : Result A) (w : Walked) (l : ℕ) (st : State) → WalksTo rows result w at used old new → w ≡ arrived st l
      → WasDone rows result at used old new l st
  was-done (done a m x) w l st h e =
      let same : ◌≡◌ {A = Walk} (record { state = x; length = m }) (record { state = st; length = l }) = cc h.answer in
      let p : x ≡ st = ap (λ (v : Walk). v.state) same in
      let q : m ≡ l = ap (λ (v : Walk). v.length) same in
      record { found = a; is = rw (p, q); finished = rw (p, q) at h.put }
  was-done (refused s) w l st h e = cc h.answer

  pub to-within : (result : Result A) (w : Walked) → WalksTo rows result w at used old new → Within at used w
  to-within (done a l st) w h = rw h.answer (omega (arith, h.put.count), h.put.few, h.put.near)
  to-within (refused r) w h = rw h.answer tt

  -- the bounds of a walk that is done at every depth that is enough
  pub within : (result : ℕ → Result A) (w : Walked) (room : ℕ) → Walks rows result w at room used old new → Within at used w
  within result w room h = to-within (result (suc most_rows)) w (h.to (suc most_rows) (omega arith))

  -- a step is a walk
  pub steps-walk : (result : Result A) (w : Walked) → StepsTo rows result w at used old new → WalksTo rows result w at used old new
  steps-walk (done a l st) w h =
      record { answer = h.answer; put = record { count = h.bounded.0; few = h.bounded.1; near = h.bounded.2; held = h.held } }
  steps-walk (refused r) w h = record { answer = h.answer; put = tt }

-- whatever the operands came to, the constructor comes to what the definition makes of it
abbrev Closes : (total n minimum at used : ℕ) → Walked → List ℤ → Walked → List ℤ → Type 0
Closes total n minimum at used walked mid r new =
    (g : Setting) → g.total ≡ total → (result : Result Nodes) (old : List ℤ) → WalksTo sized_of_all result walked at (used + 1) old mid
    → WalksTo sized_of (closing g n minimum at result) r at used old new

-- after a constructor's operands: "6, 2"
module _ (total n minimum at used : ℕ) (walked : Walked) (mid new : List ℤ) where
  closes-refused : (r : Refusal) → walked ≡ Err r → Closes total n minimum at used walked mid (Err r) new
  closes-refused r e g t result old h = refuses _ _ _ _ _ _ _ (rw (was-refused sized_of_all at (used + 1) old mid result walked r h e))

  module _ (st : State) (far size : ℕ) (e : walked ≡ arrived st far) (is : size ≡ max minimum far) where
    closes-far : longest < at + size → Closes total n minimum at used walked mid (Err (TooFar at)) new
    unfolding closed
    closes-far k g t result old h =
        let w = was-done sized_of_all at (used + 1) old mid result walked far st h e in
        refuses _ _ _ _ _ _ _ (rw (w.is, ← is, lt-ltb longest (at + size) k))

    module _ (near : at + size ≤ longest) where
      closes-short : total < at + size → Closes total n minimum at used walked mid (Err (Short at)) new
      unfolding closed
      closes-short k g t result old h =
          let w = was-done sized_of_all at (used + 1) old mid result walked far st h e in
          refuses _ _ _ _ _ _ _ (rw (w.is, ← is, le-ltb longest (at + size) near, t, lt-ltb total (at + size) k))

      closes-done : at + size ≤ total → new ≡ written used (sized 0 n at (pos size) (st.used - used) ∷ []) mid
          → Closes total n minimum at used walked mid (arrived (closed_by n st) size) new
      unfolding closed sized_of
      closes-done k p g t result old h =
          let w = was-done sized_of_all at (used + 1) old mid result walked far st h e in
          let f = w.found in
          let done = w.finished in
          let count : st.used - used ≡ suc (length (sized_of_all f)) = omega (arith, done.count) in
          let row : SizedRow = sized 0 n at (pos size) (suc (length (sized_of_all f))) in
          finishes sized_of (closing g n minimum at result) at used old new (built n at size f) size (closed_by n st)
          (ap (closing g n minimum at) w.is ∙ rw (← is, le-ltb longest (at + size) near, t, le-ltb total (at + size) k))
          (record {
            count = omega (arith, done.count);
            few = done.few;
            near = near;
            held =
                p ∙ ap (λ (k : ℕ). written used (sized 0 n at (pos size) k ∷ []) mid) count ∙ ap (written used (row ∷ [])) done.held
                ∙ written-before used (used + 1) (row ∷ []) (sized_of_all f) old (omega arith) (omega (arith, done.count, done.few));
          })

pub closes : (total n minimum at used : ℕ) (walked : Walked) (mid : List ℤ)
    → Closes total n minimum at used walked mid (closed_as total n minimum at walked) (closed_rows n at used (closed_as total n minimum at walked) mid)
closes total n minimum at used (Err r) mid = closes-refused total n minimum at used _ mid mid r refl
closes total n minimum at used (Ok w) mid = go (ltb longest (at + l)) refl (ltb total (at + l)) refl
  where
    l : ℕ
    l = max minimum w.length

    answer : Bool → Bool → Walked
    answer a b = cond a (Err (TooFar at)) (cond b (Err (Short at)) (arrived (closed_by n w.state) l))

    go : (a : Bool) → ltb longest (at + l) ≡ a → (b : Bool) → ltb total (at + l) ≡ b
        → Closes total n minimum at used (Ok w) mid (answer a b) (closed_rows n at used (answer a b) mid)
    go true e b f = closes-far total n minimum at used _ mid mid w.state w.length l refl refl (ltb-true longest (at + l) e)
    go false e true f = closes-short total n minimum at used _ mid mid w.state w.length l refl refl (ltb-false longest (at + l) e) (ltb-true total (at + l) f)
    go false e false f = closes-done total n minimum at used _ mid _ w.state w.length l refl refl (ltb-false longest (at + l) e) (ltb-false total (at + l) f) refl
