-- By its calls: the arrays hold the forecasts and the squares of c, so that what is computed of them is the definition's.
use Prim.Native.Nat.{ℕ, ◌-◌, ◌≤◌}
use mathlib.Core.Path.{◌≡◌, ap, ap₂, ◌∙◌}
use mathlib.Core.Bool.{Bool, true, false, cond, ◌&&◌}
use mathlib.Core.List.{List, ◌++◌}
use native.Mathlib.Omega.{arith}
use lib.IntN.{ℤ, pos, negsuc, nat_abs}
use lib.ListN.{length, take, drop, get_or, replicate}
use lib.Ieee.{Float, nan, binary64, add, sub, mul}
use lib.Ieee.Scale.{finite}
use mir.Syntax.{w64}
use mir.Val.{to_z, of_z}
use mir.ValLaws.{to_z-of_z}
use Rattle.state.proofs.Passing.{valid}
use Rattle.std.proofs.Common.{Ok}
use Rattle.state.specs.Rejections.{rejection_of}
use Rattle.state.specs.Valid.{Valid}
use Rattle.state.specs.declared.State.{State}
use Rattle.forecasts.specs.Forecasts.{forecast_list}
use Rattle.forecasts.proofs.ForecastLaws.{Ready}
use Rattle.weights.specs.Coefficients.{coefficient_list}
use Rattle.relative_errors.specs.Relative.{nought, one, squared, squared_mean, squared_coefficient, theta_in, thetas, thetas_finite, variance_of, all_finite}
use Rattle.relative_errors.specs.Facts.{means_in, squares_in, SmallMeans, computed_code, computed_variance, computed_cells}
use Rattle.relative_errors.proofs.Bounds.{forecasts-taken, coefficients-taken, forecasts-filled, coefficients-filled, means-small, means-are, coefficients-small, squares-are}
use Rattle.relative_errors.proofs.Recursion.{thetas-length, thetas-same, finite-same, own_first, own-last}
use Rattle.relative_variance.proofs.computed.Goals as goal
use Rattle.relative_variance.proofs.computed.Goals.{In_ok-coefficients, After-fill-sound}

-- neither call is refused
pub returns-in_err-forecasts : goal.returns-in_err-forecasts
returns-in_err-forecasts c =
    let r : Ready 512 c.args.r.state.now c.args.r.horizon = record { valid = c.args.r.passes; least = c.args.r.above; most = c.args.r.below } in
    absurd (forecasts-taken c.args.r.state.now c.args.r.horizon 512 r c.args.r.below c.in_err-forecasts.ensures.answer)

pub returns-in_err-coefficients : goal.returns-in_err-coefficients
returns-in_err-coefficients c =
    let r : Ready 512 c.args.r.state.now c.args.r.horizon = record { valid = c.args.r.passes; least = c.args.r.above; most = c.args.r.below } in
    absurd (coefficients-taken c.args.r.state.now c.args.r.horizon 512 r c.args.r.below c.in_err-coefficients.ensures.answer)

-- ---- the forecasts and the coefficients
module _ (c : In_ok-coefficients) where
  ready : Ready 512 c.args.r.state.now c.args.r.horizon
  ready = record { valid = c.args.r.passes; least = c.args.r.above; most = c.args.r.below }

  facts : Valid c.args.r.state.now
  facts = valid c.args.r.state.now c.args.r.passes

  means_is : c.forecasts.new.values ≡ forecast_list c.args.r.state.now c.args.r.horizon ++ drop c.args.r.horizon (replicate 512 (pos 0))
  means_is = forecasts-filled c.args.r.state.now c.args.r.horizon (replicate 512 (pos 0)) ready c.args.r.below c.forecasts.ensures.buffer

  cs-is : c.coefficients.new.cells ≡ coefficient_list c.args.r.state.now c.args.r.horizon ++ drop c.args.r.horizon (replicate 512 0)
  cs-is = coefficients-filled c.args.r.state.now c.args.r.horizon (replicate 512 0) ready c.args.r.below c.coefficients.ensures.buffer

pub squares-requires : goal.squares-requires
squares-requires c =
    let q = (goal.at.squares-requires c).In_ok-coefficients in
    (c.args.r.below, c.args.r.below, coefficients-small c.args.r.state.now (facts q) c.args.r.horizon c.args.r.below _ _ (cs-is q))

-- each forecast, as the machine reads it
small-back : (x : ℤ) → nat_abs x ≤ 9007199254740992 → to_z w64 (of_z w64 x) ≡ x
small-back (pos n) l = to_z-of_z w64 (pos n) (record { sfits = omega arith })
small-back (negsuc n) l = to_z-of_z w64 (negsuc n) (record { sfits = omega arith })

small_each : (c : In_ok-coefficients) → SmallMeans c.forecasts.new.values c.args.r.horizon
small_each c = means-small c.args.r.state.now (facts c) c.args.r.horizon c.args.r.below _ _ (means_is c)

last-small : (c : In_ok-coefficients) → nat_abs (get_or c.forecasts.new.values (c.args.r.horizon - 1) (pos 0)) ≤ 9007199254740992
last-small c = small_each c (c.args.r.horizon - 1) (omega (arith, c.args.r.above))

last_back : (c : In_ok-coefficients) → to_z w64 (of_z w64 (get_or c.forecasts.new.values (c.args.r.horizon - 1) (pos 0))) ≡ get_or c.forecasts.new.values (c.args.r.horizon - 1) (pos 0)
last_back c = small-back _ (last-small c)

pub fill-sound-requires : goal.fill-sound-requires
fill-sound-requires c =
    (c.args.r.above, c.args.r.below, c.args.r.below, small_each (goal.at.fill-sound-requires c).In_ok-coefficients)

pub spread-v-requires : goal.spread-v-requires
spread-v-requires c =
    let q = (goal.at.spread-v-requires c).In_ok-coefficients in
    rw (last_back q) (last-small q)

-- ---- the θ
module _ (c : After-fill-sound) where
  abbrev s : State
  s = c.args.r.state.now

  abbrev h : ℕ
  h = c.args.r.horizon

  abbrev own : List Float
  own = c.fill-sound.new.own

  taken : Ready 512 s h
  taken = record { valid = c.args.r.passes; least = c.args.r.above; most = c.args.r.below }

  same-means : (k : ℕ) → 1 ≤ k → k ≤ h → means_in c.forecasts.new.values k ≡ squared_mean s k
  same-means =
      means-are s (valid s c.args.r.passes) h c.args.r.below _ _
      (forecasts-filled s h (replicate 512 (pos 0)) taken c.args.r.below c.forecasts.ensures.buffer)

  same-squares : (j : ℕ) → 1 ≤ j → j ≤ h → squares_in c.squares.new.squared j ≡ squared_coefficient s j
  same-squares =
      squares-are s (valid s c.args.r.passes) h c.args.r.below _ _
      (coefficients-filled s h (replicate 512 0) taken c.args.r.below c.coefficients.ensures.buffer) _ _ c.squares.ensures

  abbrev θs : List Float
  θs = thetas (squared_mean s) (squared_coefficient s) c.args.sigma2 h

  owns : own ≡ θs ++ drop h (replicate 512 nought)
  owns =
      c.fill-sound.ensures.own
      ∙ ap (λ (l : List Float). l ++ drop h (replicate 512 nought))
      (thetas-same (squares_in c.squares.new.squared) (squared_coefficient s) h same-squares (means_in c.forecasts.new.values) (squared_mean s) c.args.sigma2 same-means h (omega arith))

  sound-is : c.fill-sound.result ≡ thetas_finite (squared_mean s) (squared_coefficient s) c.args.sigma2 h
  sound-is = c.fill-sound.ensures.answer ∙ finite-same (squares_in c.squares.new.squared) (squared_coefficient s) h same-squares (means_in c.forecasts.new.values) (squared_mean s) c.args.sigma2 same-means h (omega arith)

  long : length θs ≡ h
  long = thetas-length (squared_mean s) (squared_coefficient s) c.args.sigma2 h

  first-are : take h own ≡ θs
  first-are = own_first θs own _ h long owns

  last-is : get_or own (h - 1) nan ≡ theta_in θs h
  last-is = own-last θs own _ h long owns c.args.r.above

  -- ---- the answer
  value : (v : Float) → v ≡ sub binary64 (mul binary64 (add binary64 one c.args.sigma2) (get_or own (h - 1) nan)) (squared (get_or c.forecasts.new.values (h - 1) (pos 0))) → v ≡ variance_of (squared_mean s) (squared_coefficient s) c.args.sigma2 h
  unfolding variance_of
  value v e = e ∙ ap₂ (λ (x y : Float). sub binary64 (mul binary64 (add binary64 one c.args.sigma2) x) y) last-is (same-means h c.args.r.above (omega arith))

  code : (v : Float) (b : Bool) → v ≡ variance_of (squared_mean s) (squared_coefficient s) c.args.sigma2 h → (c.fill-sound.result && finite v) ≡ b → computed_code s h c.args.sigma2 ≡ cond b 0 19
  unfolding computed_code all_finite
  code v b e q = rw (← sound-is, ← e, q)

pub returns-then-sound-is_finite : goal.returns-then-sound-is_finite
unfolding computed_variance computed_cells
returns-then-sound-is_finite c =
    let at = goal.at.returns-then-sound-is_finite c in
    let f = at.After-fill-sound in
    let v = value f _ (rw (last_back at.In_ok-coefficients) at c.spread-v.ensures) in
    let e = code f _ true v (rw c.is_finite.ensures at c.if-sound-is_finite.true) in
    record { answer = rw e (ap Ok v); cells = rw e (rw (first-are f) at c.copy.ensures) }

pub returns-else-sound-is_finite : goal.returns-else-sound-is_finite
unfolding computed_variance computed_cells rejection_of
returns-else-sound-is_finite c =
    let at = goal.at.returns-else-sound-is_finite c in
    let f = at.After-fill-sound in
    let v = value f _ (rw (last_back at.In_ok-coefficients) at c.spread-v.ensures) in
    let e = code f _ false v (rw c.is_finite.ensures at c.if-sound-is_finite.false) in
    record { answer = rw e; cells = rw e }
