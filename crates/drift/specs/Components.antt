-- Document 01, "One step": the exact step of every model is the component form, multiplied out, and the step is within one unit (the paper's grain) of it.
use Rattle.std.specs.Prelude.{ℕ, suc, ◌^◌, ◌<◌, true, ◌≡◌, ℤ, pos, ◌+ℤ◌, ◌-ℤ◌, ◌*ℤ◌, length, get_or}
use Rattle.state.specs.States.{check}
use Rattle.state.specs.declared.State.{State}
use Rattle.ets.specs.Steps.{after_reading, after_missing}
use Rattle.drift.specs.Exact.{Parameters, parameters_of, Exact, exponent, exact_of, exact_damped, exact_reading, exact_missing}
use Rattle.drift.specs.Limits.{AtMost}

module _ (c : Parameters) (x : Exact) (y : ℤ) where
  -- y, l and s over the power of d
  abbrev pub reading : ℤ
  reading = pos (65536 ^ suc (exponent c x)) *ℤ (pos 65536 *ℤ y)

  abbrev pub old_level : ℤ
  old_level = pos 65536 *ℤ x.L

  abbrev pub old_season : ℤ
  old_season = pos 65536 *ℤ x.S x.p

  -- new l, new b and new s at place p
  abbrev pub new : Exact
  new = exact_reading c x y

  -- β × (new l − l) + (α − β) × d: the component form's new b, times α
  abbrev pub alpha_trend : ℤ
  alpha_trend =
      pos c.beta *ℤ (new.L -ℤ pos 65536 *ℤ old_level)
      +ℤ (pos c.alpha -ℤ pos c.beta) *ℤ (pos 65536 *ℤ exact_damped c x)

  -- new l = α(y − s) + (1 − α)(l + d); new b = (β/α)(new l − l) + (1 − β/α)d for α above 0, and no other b is; new s = γ(y − l − d) + (1 − γ)s
  pub record ComponentForm : Type 0 where
    pub level : new.L ≡ pos c.alpha *ℤ (reading -ℤ old_season) +ℤ (pos 65536 -ℤ pos c.alpha) *ℤ (old_level +ℤ exact_damped c x)
    pub trend : pos c.alpha *ℤ new.T ≡ alpha_trend
    pub only_trend : 0 < c.alpha → (b : ℤ) → pos c.alpha *ℤ b ≡ alpha_trend → b ≡ new.T
    pub season : c.seasonal ≡ true → new.S x.p ≡ pos c.gamma *ℤ (reading -ℤ old_level -ℤ exact_damped c x) +ℤ (pos 65536 -ℤ pos c.gamma) *ℤ old_season

abbrev pub ComponentForms : Type 0
ComponentForms = (c : Parameters) (x : Exact) (y : ℤ) → ComponentForm c x y

-- one unit, with an exact number of one step
abbrev pub OneUnit : ℤ → ℤ → Type 0
OneUnit z Z = AtMost 1 1 2 z Z

-- one step from a state, and the exact one from the same state, in l, b and each season value
pub record StepError (s : State) (y : ℤ) : Type 0 where
  pub level : OneUnit (after_reading s y).level (exact_reading (parameters_of s) (exact_of s) y).L
  pub trend : OneUnit (after_reading s y).trend (exact_reading (parameters_of s) (exact_of s) y).T
  pub seasons : (k : ℕ) → k < s.period → OneUnit (get_or (after_reading s y).seasonal k (pos 0)) ((exact_reading (parameters_of s) (exact_of s) y).S k)

-- of each state that the checks let pass
abbrev pub StepErrors : Type 0
StepErrors = (s : State) → length s.seasonal ≡ 48 → check s ≡ 0 → (y : ℤ) → StepError s y

-- the exact recursion, exact_of at a state, after one missing reading
abbrev pub skipped : State → Exact
skipped s = exact_missing (parameters_of s) (exact_of s)

-- half a unit
abbrev pub HalfUnit : ℕ → ℤ → ℤ → Type 0
HalfUnit power z Z = AtMost 1 2 power z Z

-- one missing reading from a state, and the exact one from the same state, in l and b; the season values are the exact ones
pub record MissingError (s : State) : Type 0 where
  pub level : HalfUnit (exponent (parameters_of s) (skipped s)) (after_missing s).level (skipped s).L
  pub trend : HalfUnit (exponent (parameters_of s) (skipped s)) (after_missing s).trend (skipped s).T
  pub seasons : (k : ℕ) → k < s.period → pos (65536 ^ exponent (parameters_of s) (skipped s)) *ℤ get_or (after_missing s).seasonal k (pos 0) ≡ (skipped s).S k

abbrev pub MissingErrors : Type 0
MissingErrors = (s : State) → check s ≡ 0 → MissingError s
