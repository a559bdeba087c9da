use mathlib.Core.Path.{◌≡◌, refl}
use native.Mathlib.Numerals.{add-one}
use native.Mathlib.Omega.{arith}
use mir.Syntax.{w64}
use mir.Val.{to_z, of_z}
use mir.Facts.{to_z-of_z}
use Rattle.integers.specs.Bounds.{Within}
use Rattle.forecasts.specs.Forecasts.{trend_at, trend_line}
use Rattle.forecasts.proofs.ForecastLaws.{Turn, turn, trend-bound, line-bound}
use Rattle.forecasting.proofs.sums.trend_line.Goals as goal
use Rattle.forecasting.proofs.sums.trend_line.Goals.{Start, After-share-d}

level_in : (c : goal.Start) → Within 1099511627776 (to_z w64 (of_z w64 c.args.level))
level_in c = rw (to_z-of_z c.ranges.level) c.requires.1

trend-in : (c : goal.Start) → Within 1099511627776 (to_z w64 (of_z w64 c.args.trend))
trend-in c = rw (to_z-of_z c.ranges.trend) c.requires.2

turn_at : (c : goal.After-share-d) → Turn c.args.even (to_z w64 (of_z w64 c.args.level)) c.args.phi (to_z w64 (of_z w64 c.args.trend)) c.loop-j.j (to_z w64 c.loop-j.line-bits) c.share-d.result
turn_at c =
    let s = (goal.at.overflow_add-line c).Start in
    turn c.args.even _ c.args.phi _ c.requires.0 (level_in s) (trend-in s) c.loop-j.j (omega (arith, c.requires.3)) (to_z w64 c.loop-j.d-bits) (to_z w64 c.loop-j.line-bits) c.share-d.result c.loop-j.invariant.0 c.loop-j.invariant.1 c.share-d.type_inv c.share-d.ensures

pub loop-j-init : goal.loop-j-init
unfolding trend_at trend_line
loop-j-init c = (refl, refl)

pub share-d-requires : goal.share-d-requires
share-d-requires c =
    let s = (goal.at.share-d-requires c).Start in
    (c.requires.0, rw c.loop-j.invariant.0 (trend-bound _ _ _ _ c.requires.0 (level_in s) (trend-in s) c.loop-j.j))

pub overflow_add-line : goal.overflow_add-line
overflow_add-line c = (turn_at (goal.at.overflow_add-line c).After-share-d).fits

pub loop-j-preserved : goal.loop-j-preserved
loop-j-preserved c =
    let t = turn_at (goal.at.loop-j-preserved c).After-share-d in
    (rw add-one t.trend, rw add-one t.line-is)

pub returns : goal.returns
returns c =
    let n : c.loop-j.j ≡ c.args.h = omega arith in
    let e : to_z w64 c.loop-j.line-bits ≡ trend_line c.args.even c.args.level c.args.phi c.args.trend c.args.h = rw (c.loop-j.invariant.1, n, to_z-of_z c.ranges.level, to_z-of_z c.ranges.trend) refl in
    record { value = e; bound = rw e (line-bound _ _ _ _ c.requires.0 c.requires.1 c.requires.2 c.args.h c.requires.3) }
