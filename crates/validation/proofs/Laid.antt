-- The layout that was read, or the section at fault put into a fault.
use Prim.Native.Nat.{ℕ}
use mathlib.Core.List.{List}
use mathlib.Core.Path.{◌≡◌}
use Rattle.std.specs.Prelude.{Result, Ok, Err, IsErrAnd}
use Rattle.std.specs.Result.{MatchResult}
use Rattle.std.proofs.lemmas.Result.{err_from_is_err_and}
use Rattle.format.specs.Check.{judged}
use Rattle.format.specs.Numbers.{section_itself}
use Rattle.format.specs.declared.Fault.{Fault}
use Rattle.format.specs.declared.Layout.{Layout}

module _ (R : ℕ → Fault → Type 0) (read : Result Layout ℕ) (told : Result Layout Fault) (m : MatchResult read (λ x. told ≡ Ok x) (λ k. IsErrAnd told (R k))) where
  pub laid : (l : Layout) → told ≡ Ok l → read ≡ Ok l
  laid l e = go read m
    where
      go : (a : Result Layout ℕ) → MatchResult a (λ x. told ≡ Ok x) (λ k. IsErrAnd told (R k)) → a ≡ Ok l
      go (Ok x) n = cc
      go (Err k) n = let g : (y : Fault) × (told ≡ Err y) × R k y = err_from_is_err_and told n in let z = g.1 in cc

  pub unlaid_fault : (b : List ℕ) (f : Fault) → told ≡ Err f → ((k : ℕ) (r : Fault) → R k r → r ≡ record { section = k; number = section_itself }) → judged b read ≡ Err f
  unlaid_fault b f e same = go read m
    where
      go : (a : Result Layout ℕ) → MatchResult a (λ x. told ≡ Ok x) (λ k. IsErrAnd told (R k)) → judged b a ≡ Err f
      go (Ok x) n = cc
      go (Err k) n =
          let g : (y : Fault) × (told ≡ Err y) × R k y = err_from_is_err_and told n in
          let z = g.1 in
          let s = same k g.0 g.2 in
          cc
