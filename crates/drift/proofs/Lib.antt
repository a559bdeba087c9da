-- Demand 3 is `demand3` of Drift; the component form `component-form` of Components and `step-errors` of StepErrors; the forecast's exactness `forecast-errors` of
-- ForecastErrors. Each is the contract of a function in src/.
-- How demand 3 goes: the error of the level and, with the sign turned, those of the season values are averaged by a reading, and half a unit comes on top.

-- in naturals, of any such system: one step, the invariant over the cycles of the season, what it says of a forecast
pub mod Averages
pub mod Cycles
pub mod Spread
-- a state against the exact recursion: R's error, one number, one reading, the invariant that every call keeps, the limits
pub mod Rounding
pub mod Errors
pub mod Readings
pub mod Invariant
pub mod ForecastErrors
pub mod Distances
-- a step by a calendar; the calls, and a list of operations
pub mod Turns
pub mod Runs
pub mod Drift
-- the component form and one step; the pins
pub mod Components
pub mod StepErrors
pub mod Computed
pub mod ComputedClocks
pub mod ComputedCheckpoints
