-- Document 02, W-207: the limit of the one-step forecast of a damped model without season, multiplied out, and the claim.
use Rattle.std.specs.Prelude.{ℕ, ◌+◌, ◌*◌, ◌^◌, ◌≤◌, ◌<◌, true, false, List, ◌≡◌, ℤ, pos, nat_abs, ◌+ℤ◌, ◌-ℤ◌, ◌*ℤ◌, ◌<ℤ◌}
use Rattle.state.specs.declared.State.{State}
use Rattle.traces.specs.Operations.{Standing, standing_of, Operation}
use Rattle.drift.specs.Exact.{Parameters, Exact, Expected, level_is, forecast_is, Beside, beside_of}
use Rattle.drift.specs.Limits.{AtMost, AllWithin, Opening}

-- K = (1 − φ) × α + φ × β × (1 − 2φ), times 65536 ^ 3: where φ is above 1/2 the second term is below 0, and K can be
abbrev pub scaled_k : Parameters → ℤ
scaled_k c =
    (pos 65536 -ℤ pos c.phi) *ℤ pos (c.alpha * 65536)
    +ℤ pos (c.phi * c.beta) *ℤ (pos 65536 -ℤ pos (2 * c.phi))

-- α + φβ is at most 1, times 65536 ^ 2
abbrev pub GainsWithinOne : Parameters → Type 0
GainsWithinOne c = c.alpha * 65536 + c.phi * c.beta ≤ 65536 ^ 2

-- 1/K, for K above 0
abbrev pub OneStepBound : Parameters → ℕ → ℤ → ℤ → Type 0
OneStepBound c power z Z = AtMost (65536 ^ 3) (nat_abs (scaled_k c)) power z Z

-- a forecast for horizon 1 with no missing reading accepted before it: 1/K. Of other horizons and of levels it says nothing. (No list takes effect without a season of 24
-- places: document 02, W-208)
unfoldable pub WithinOneStep : Parameters → ℤ → Expected → Type 0
WithinOneStep c z (level_is L n) = Unit {0}
WithinOneStep c z (forecast_is F h power missed changed) = h ≡ 1 → missed ≡ 0 → OneStepBound c power z F

-- a damped model without season, with α + φβ at most 1 and K above 0
pub record Contracting (c : Parameters) : Type 0 where
  pub trended : c.trended ≡ true
  pub damped : c.phi < 65536
  pub seasonless : c.seasonal ≡ false
  pub gains : GainsWithinOne c
  pub margin : pos 0 <ℤ scaled_k c

-- the claim about a list of operations: while such a model stands, each forecast is within the limit
abbrev pub OneStepClaim : Standing → Beside → List Operation → Type 0
OneStepClaim = AllWithin Contracting WithinOneStep (λ (c : Parameters) (s : State) (x : Exact). Unit {0})

-- as demand 3, from every state that the checks let pass
abbrev pub OneStepForecasts : Type 0
OneStepForecasts = (s : State) → Opening s → (os : List Operation) → OneStepClaim (standing_of s) (beside_of s) os
