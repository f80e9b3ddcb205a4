-- The instruction at a place of the code: the walk is told the length from there on.
use Prim.Native.Nat.{ℕ, ◌-◌}
use mathlib.Core.List.{List}
use mathlib.Core.Path.{◌≡◌, refl, sym, ap, ◌∙◌}
use Rattle.std.specs.Prelude.{Ok, Err, is_err}
use mathlib.Core.Bool.{true, false, false≢true}
use lib.IntN.{ℤ, pos}
use lib.ListN.{length, take, drop, replicate, length-drop}
use Rattle.decoding_spec.specs.State.{with_total}
use Rattle.decoding_spec.specs.Walk.{walked_from, walked_of}
use Rattle.decoding_spec.specs.declared.State.{State}
use Rattle.decoding_spec.specs.declared.Refusal.{Refusal}
use Rattle.setting.specs.Fixed.{Fixed, setting_in}
use Rattle.setting.proofs.Laws.{fixed-for, setting-for}
use Rattle.setting.specs.declared.Prepared.{Prepared}
use Rattle.walk_steps.specs.Scratch.{scratch_length, sized_of, written}
use Rattle.walk_steps.specs.Steps.{Walked, arrived, answer_of}
use Rattle.walking.specs.Walks.{WalksTo, RootWalks, instruction_as, walked_at, told_length}
use Rattle.walking.proofs.Answers.{code-from, was-refused, was-done}

module _ (b : List ℕ) (a : Prepared) (s : List ℕ) (at c : ℕ) where
  told : setting_in b (told_length a s at) ≡ with_total (length s - at) (setting_in b a)
  told = setting-for b a (length s - at)

  part : take (length s - at) (drop at s) ≡ drop at s
  part = code-from s at

  -- what the root's walk asks, of the part from the place on
  pub root-ready : Fixed b a → Fixed b (told_length a s at) × (length (take (length s - at) (drop at s)) ≡ (setting_in b (told_length a s at)).total)
  root-ready f = (fixed-for b a (length s - at) f, rw (part, told) (length-drop at s))

  here : walked_from (setting_in b (told_length a s at)) c (take (length s - at) (drop at s)) ≡ walked_at b a s at c
  unfolding walked_at walked_of
  here = rw (told, part) (ap (λ (n : ℕ). walked_from (with_total n (setting_in b a)) c (drop at s)) (sym (length-drop at s)))

  module _ (w : Walked) (old new : List ℤ) (walks : RootWalks b (told_length a s at) c (take (length s - at) (drop at s)) old w new) where
    walks-here : WalksTo sized_of (walked_at b a s at c) w 0 0 old new
    walks-here = rw here at walks

    pub step-here : w ≡ answer_of (walked_at b a s at c)
    step-here = walks-here.answer

    pub walk_refused : (r : Refusal) → w ≡ Err r
        → record { rows = replicate scratch_length (pos 0); walked = Err r } ≡ instruction_as (walked_at b a s at c)
    walk_refused r e = rw (was-refused sized_of 0 0 old new (walked_at b a s at c) w r walks-here e)

    pub walk-done : (l : ℕ) (st : State) → w ≡ arrived st l → old ≡ replicate scratch_length (pos 0)
        → record { rows = new; walked = arrived st l } ≡ instruction_as (walked_at b a s at c)
    walk-done l st e z =
        let d = was-done sized_of 0 0 old new (walked_at b a s at c) w l st walks-here e in
        rw d.is (ap (λ (rows : List ℤ). record { rows = rows; walked = arrived st l }) (d.finished.held ∙ ap (written 0 (sized_of d.found)) z))

  -- a refusal leaves zeros, and a done walk its rows
  pub zeros-left : (w : Walked) (old new : List ℤ) → RootWalks b (told_length a s at) c (take (length s - at) (drop at s)) old w new → is_err w ≡ true
      → record { rows = replicate scratch_length (pos 0); walked = w } ≡ instruction_as (walked_at b a s at c)
  zeros-left (Ok v) old new walks e = absurd (false≢true e)
  zeros-left (Err r) old new walks e = walk_refused (Err r) old new walks r refl

  pub rows-left : (w : Walked) (old new : List ℤ) → RootWalks b (told_length a s at) c (take (length s - at) (drop at s)) old w new → is_err w ≡ false
      → old ≡ replicate scratch_length (pos 0) → record { rows = new; walked = w } ≡ instruction_as (walked_at b a s at c)
  rows-left (Ok v) old new walks e z = walk-done (Ok v) old new walks v.length v.state refl z
  rows-left (Err r) old new walks e z = absurd (false≢true (sym e))
