-- What a caller is answered is what demand 3 says of a list of two calls, which keeps no state.
use Prim.Native.Nat.{ℕ}
use mathlib.Core.Path.{◌≡◌}
use mathlib.Core.List.{List, [], ◌∷◌}
use lib.IntN.{ℤ}
use Rattle.state.specs.Rejections.{answer_code, answer_value}
use Rattle.state.specs.declared.State.{State}
use Rattle.ets.specs.Steps.{step}
use Rattle.forecasts.specs.Forecasts.{max_horizon, forecast}
use Rattle.layout.specs.Bytes.{AreBytes}
use Rattle.snapshot.specs.Snapshots.{decoded}
use Rattle.in_place.specs.InPlace.{rewrite_code, in_place_step_bytes, in_place_forecast_code, in_place_forecast}
use Rattle.traces.specs.Calls.{followed, Reading, Forecast, InPlaceReading, InPlaceForecast, result}
use Rattle.traces.specs.Operations.{on_state, operate}
use Rattle.traces.proofs.Lists.{slice-laws}
use Rattle.drift.specs.Exact.{beside_after, expected_by}
use Rattle.drift.specs.Limits.{AllWithin}
use Rattle.drift.proofs.Drift.{demand3}
use Rattle.callers.specs.Chains.{ForecastWithin}

pub directly : (s : State) (y : ℤ) (h : ℕ) → ForecastWithin s (Reading y) h (answer_code (forecast (step s y).state h)) (answer_value (forecast (step s y).state h))
unfolding AllWithin operate beside_after expected_by result
directly s y h o flat = (demand3 s o (on_state (Reading y) ∷ on_state (Forecast max_horizon h) ∷ [])).1.0 flat

pub in_place : (d : List ℕ) → AreBytes d → rewrite_code d ≡ 0 → (y : ℤ) (h : ℕ) (old : ℤ) → ForecastWithin (decoded d) (InPlaceReading (followed []) y) h (in_place_forecast_code (in_place_step_bytes d y) h) (in_place_forecast (in_place_step_bytes d y) h old)
unfolding AllWithin operate beside_after expected_by result
in_place d b z y h old o flat =
    let next = (slice-laws.reading d (decoded d) (slice-laws.opening d b z) y).holds in
    let f = slice-laws.forecast (in_place_step_bytes d y) _ next h in
    rw (f.code, f.number old) ((demand3 (decoded d) o (on_state (InPlaceReading (followed []) y) ∷ on_state (InPlaceForecast (followed []) h old) ∷ [])).1.0 flat)
