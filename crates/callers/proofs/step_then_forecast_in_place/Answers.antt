use mathlib.Core.Path.{◌≡◌}
use mathlib.Core.List.{List, []}
use Prim.Native.Nat.{ℕ}
use lib.IntN.{ℤ}
use Rattle.layout.specs.Bytes.{AreBytes}
use Rattle.snapshot.specs.Snapshots.{decoded}
use Rattle.in_place.specs.InPlace.{rewrite_code, in_place_step_bytes, in_place_forecast_code, in_place_forecast}
use Rattle.traces.specs.Calls.{followed, InPlaceReading}
use Rattle.callers.specs.Chains.{ForecastWithin}
use Rattle.callers.proofs.Chains.{in_place}
use mir.Syntax.{w32}
use mir.Val.{to_z, of_z}
use borrow.Author.Rules.{rules}
use Rattle.callers.proofs.step_then_forecast_in_place.Goals as goal

-- d' is the slice after the step, and r and v are what the forecast then gave
module _ (d d' : List ℕ) (y : ℤ) (h r : ℕ) (old v : ℤ) (e : d' ≡ in_place_step_bytes d y) (f : r ≡ in_place_forecast_code d' h) (g : v ≡ in_place_forecast d' h old) where
  code : r ≡ in_place_forecast_code (in_place_step_bytes d y) h
  code = rw (f, e)

  value : v ≡ in_place_forecast (in_place_step_bytes d y) h old
  value = rw (g, e)

  limit : AreBytes d → rewrite_code d ≡ 0 → ForecastWithin (decoded d) (InPlaceReading (followed []) y) h r v
  limit b z = rw (code, value) (in_place d b z y h old)

pub returns : goal.returns
returns c =
    let a = c.args in
    let y-is : to_z w32 (of_z w32 a.y) ≡ a.y = search rules in
    let e = rw y-is at c.forecaster_step.ensures.bytes in
    let f = c.forecaster_forecast.ensures.code in
    let g = c.forecaster_forecast.ensures.number in
    let d = a.snapshot.now in
    let b : AreBytes d = search rules in
    let d' = c.forecaster_step.new.snapshot in
    let r = c.forecaster_forecast.result in
    let v = c.forecaster_forecast.new.value in
    record {
      code = code d d' a.y a.h r a.value.now v e f g;
      bytes = e;
      number = rw y-is at c.forecaster_step.ensures.number;
      forecast = value d d' a.y a.h r a.value.now v e f g;
      limit = limit d d' a.y a.h r a.value.now v e f g b;
    }
