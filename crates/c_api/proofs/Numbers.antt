-- What a C call returns and lends, by the answer of the call that it makes.
use Prim.Native.Nat.{ℕ}
use mathlib.Core.Path.{◌≡◌, sym, ap, ◌∙◌}
use mathlib.Core.List.{List}
use lib.IntN.{ℤ, pos}
use borrow.Author.Tests.{ne_eqb}
use Rattle.std.specs.Prelude.{Ok, Err}
use Rattle.state.specs.Rejections.{number, gives, code_in, IsCode}
use Rattle.state.specs.declared.Rejection.{Rejection}
use Rattle.state.proofs.Answers.{code-of, given-accepted, given-rejected}
use Rattle.in_place.specs.InPlace.{in_place_step_code, in_place_residual, in_place_forecast_code, in_place_forecast}

-- a rejection's number
pub refusal-number : (n : ℕ) (v : ℤ) {r : Rejection} → IsCode n → Err r ≡ gives n v → number r ≡ n
refusal-number n v l q = ap code_in q ∙ code-of n v l

-- the lent number: that of an accepted call, and of a rejected one as found
pub residual-stored : (d : List ℕ) (y : ℤ) {e : ℤ} (old : ℤ) → Ok e ≡ gives (in_place_step_code d y) (in_place_residual d y (pos 0)) → (0 ≡ in_place_step_code d y) × (e ≡ in_place_residual d y old)
unfolding in_place_step_code in_place_residual
residual-stored d y {e} old q =
    let g = given-accepted _ _ e (sym q) in
    (sym g.0, sym g.1 ∙ same g.0)
  where
    same : in_place_step_code d y ≡ 0 → in_place_residual d y (pos 0) ≡ in_place_residual d y old
    same z = rw z

pub residual-kept : (d : List ℕ) (y : ℤ) {r : Rejection} (old : ℤ) → Err r ≡ gives (in_place_step_code d y) (in_place_residual d y (pos 0)) → old ≡ in_place_residual d y old
unfolding in_place_step_code in_place_residual
residual-kept d y {r} old q = rw (ne_eqb _ 0 (given-rejected _ _ r (sym q)).1)

pub forecast-stored : (d : List ℕ) (h : ℕ) {v : ℤ} (old : ℤ) → Ok v ≡ gives (in_place_forecast_code d h) (in_place_forecast d h (pos 0)) → (0 ≡ in_place_forecast_code d h) × (v ≡ in_place_forecast d h old)
unfolding in_place_forecast
forecast-stored d h {v} old q =
    let g = given-accepted _ _ v (sym q) in
    (sym g.0, sym g.1 ∙ same g.0)
  where
    same : in_place_forecast_code d h ≡ 0 → in_place_forecast d h (pos 0) ≡ in_place_forecast d h old
    same z = rw z

pub forecast-kept : (d : List ℕ) (h : ℕ) {r : Rejection} (old : ℤ) → Err r ≡ gives (in_place_forecast_code d h) (in_place_forecast d h (pos 0)) → old ≡ in_place_forecast d h old
unfolding in_place_forecast
forecast-kept d h {r} old q = rw (ne_eqb _ 0 (given-rejected _ _ r (sym q)).1)
