-- The bedside display's calls beside the phone's: what rejects a horizon within both limits, and one above the display's.
use Prim.Native.Nat.{ℕ, ◌≤◌, ◌<◌}
use mathlib.Core.Path.{◌≡◌, refl}
use native.Mathlib.Omega.{arith}
use borrow.Author.Tests.{le-leb, lt-leb, ne_eqb}
use Rattle.integers.specs.Below.{all_below}
use Rattle.state.specs.Rejections.{◌then◌, bad_horizon}
use Rattle.state.specs.Fixed.{R, share}
use Rattle.state.specs.Scores.{sum_of, sum_ok}
use Rattle.state.specs.States.{check, parameters_code}
use Rattle.state.specs.declared.State.{State}
use Rattle.state.proofs.Tests.{then-zero}
use Rattle.forecasts.specs.Forecasts.{trend_at, trend_line, season_at, forecast_of, max_horizon, display_horizon, forecast_code_to, forecast_to, forecasts_code_to, forecasts_to, forecast_cells_to}
use Rattle.forecasts.specs.Promises.{SameAsPhone, AboveLimit, AtTheLimit, DisplayLaws}

module _ (s : State) (h : ℕ) where
  -- a horizon within two limits is rejected alike by both
  within_both : (a b : ℕ) → h ≤ a → h ≤ b → forecast_code_to a s h ≡ forecast_code_to b s h
  unfolding forecast_code_to
  within_both a b p q = rw (le-leb h a p, le-leb h b q)

  same-as-phone : h ≤ 48 → SameAsPhone s h
  unfolding forecast_to forecasts_code_to forecasts_to forecast_cells_to
  same-as-phone k =
      let e = within_both display_horizon max_horizon (omega arith) (omega arith) in
      record { one = rw e; all = λ room. rw e; cells = λ cells. rw e }

  -- above a limit: the state's rejection, or 11
  beyond : (a : ℕ) → a < h → forecast_code_to a s h ≡ (check s then bad_horizon)
  unfolding forecast_code_to
  beyond a p = rw (le-leb 1 h (omega arith), lt-leb h a p)

  rejected : (check s then bad_horizon) ≡ 0 → ⊥
  rejected z = let e = then-zero (check s) bad_horizon z in omega arith

  above-limit : 48 < h → AboveLimit s h
  unfolding forecast_to forecasts_code_to forecasts_to forecast_cells_to
  above-limit k =
      let e = beyond display_horizon (omega arith) in
      let n = ne_eqb (check s then bad_horizon) 0 rejected in
      record { one = rw (e, n); all = λ room. rw (e, n, n); cells = λ cells. rw (e, n, n) }

at-the-limit : AtTheLimit
unfolding sum_of sum_ok R share check parameters_code all_below trend_at trend_line season_at forecast_of forecast_code_to forecast_to
at-the-limit = record { last = refl; next = refl; phone = refl }

pub display-laws : DisplayLaws
display-laws = record { within = same-as-phone; above = above-limit; limit = at-the-limit }
