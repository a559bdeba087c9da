-- The promise is `one-step-forecasts` of Damped. How it goes: the errors of l + φb and of b stay within two bounds that a reading keeps (Contraction, in whole numbers alone);
-- Invariant has them of a state beside the exact recursion, Damped of every call of a list.
pub mod Contraction
pub mod Invariant
pub mod Damped
-- the pins
pub mod Computed
