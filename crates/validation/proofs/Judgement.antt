-- What a section's judgement says: its records are good, or the first bad one.
use Prim.Native.Nat.{ℕ}
use mathlib.Core.Bool.{Bool, true, false, cond}
use mathlib.Core.Path.{◌≡◌, refl, sym, ap, ◌∙◌}
use lib.Dec.{ltb}
use Rattle.std.specs.Prelude.{Result, Ok, Err, IsErrAnd, ⊤}
use Rattle.std.proofs.lemmas.Result.{err_from_is_err_and}
use Rattle.format.specs.declared.Fault.{Fault}
use Rattle.format.specs.declared.Layout.{Layout}
use Rattle.validation.specs.Judgement.{judgement}

module _ (k i n : ℕ) where
  abbrev fault : Fault
  fault = record { section = k; number = i }

  abbrev told : Bool → Result ⊤ Fault
  told t = cond t (Err fault) (Ok tt)

  pub over : Ok tt ≡ judgement k i n → ltb i n ≡ false
  over e = go (ltb i n) (sym e)
    where
      go : (t : Bool) → told t ≡ Ok tt → t ≡ false
      go true p = cc
      go false p = refl

  module _ (x : Fault) (e : Err x ≡ judgement k i n) where
    pub here : ltb i n ≡ true
    here = go (ltb i n) (sym e)
      where
        go : (t : Bool) → told t ≡ Err x → t ≡ true
        go true p = refl
        go false p = cc

    -- .. which a `?` hands on
    pub handed : (r : Result Layout Fault) → IsErrAnd r (λ y. y ≡ x) → r ≡ Err (record { section = k; number = i })
    handed r f =
        let g : (y : Fault) × (r ≡ Err y) × (y ≡ x) = err_from_is_err_and r f in
        g.1 ∙ ap Err (g.2 ∙ go (ltb i n) (sym e))
      where
        go : (t : Bool) → told t ≡ Err x → x ≡ fault
        go true p = cc
        go false p = cc
