-- Document 02, W-205: what the kind of the errors changes, and what it does not.
use Rattle.std.specs.Prelude.{ℕ, ◌+◌, ◌≡◌, true, false, List, ℤ, Float}
use Rattle.models.specs.Models.{to_additive, has_relative_errors}
use Rattle.state.specs.Rejections.{out_of_place, rejects}
use Rattle.state.specs.States.{with_model, check}
use Rattle.state.specs.Switching.{switch_to_even}
use Rattle.state.specs.declared.State.{State}
use Rattle.ets.specs.Steps.{step, missing}
use Rattle.ets.specs.Batches.{batch, batch_levels}
use Rattle.forecasts.specs.Forecasts.{forecast_to, forecasts_to, forecast_cells_to}
use Rattle.weights.specs.Weights.{weight, variance}
use Rattle.weights.specs.Groups.{weight_groups, weight_group_cells}
use Rattle.relative_errors.specs.Relative.{relative_variance, relative_cells}

-- bit 3 of the model byte is set, and all else is kept
abbrev pub with_relative_errors : State → State
with_relative_errors s = with_model (to_additive s.model + 8) s

-- the checks, the steps, one by one and in a batch, the switch of the rounding rule and the point forecasts, rejected ones included, are those of the state as it was
pub record SameNumbers (s : State) : Type 0 where
  pub checks : check (with_relative_errors s) ≡ check s
  pub reading : (y : ℤ) → step (with_relative_errors s) y ≡ record { state = with_relative_errors (step s y).state; residual = (step s y).residual }
  pub gap : missing (with_relative_errors s) ≡ record { state = with_relative_errors (missing s).state; outcome = (missing s).outcome }
  pub readings : (ys : List ℤ) (room : ℕ)
      → batch (with_relative_errors s) ys room
      ≡ record { state = with_relative_errors (batch s ys room).state; taken = (batch s ys room).taken; outcome = (batch s ys room).outcome }
  pub levels : (ys cells : List ℤ) → batch_levels (with_relative_errors s) ys cells ≡ batch_levels s ys cells
  pub rule : switch_to_even (with_relative_errors s) ≡ record { state = with_relative_errors (switch_to_even s).state; outcome = (switch_to_even s).outcome }
  pub one : (limit h : ℕ) → forecast_to limit (with_relative_errors s) h ≡ forecast_to limit s h
  pub all : (limit h room : ℕ) → forecasts_to limit (with_relative_errors s) h room ≡ forecasts_to limit s h room
  pub cells : (limit h : ℕ) (cells : List ℤ) → forecast_cells_to limit (with_relative_errors s) h cells ≡ forecast_cells_to limit s h cells

-- Class 1 is refusal 3 for multiplicative errors, whatever the operands, and leaves the cells
pub record ClassOne (s : State) (h : ℕ) : Type 0 where
  pub weights : weight s h ≡ rejects out_of_place
  pub variances : (sigma2 : ℕ) → variance s h sigma2 ≡ rejects out_of_place
  pub groups : (room : ℕ) → weight_groups s h room ≡ rejects out_of_place
  pub cells : (cells : List ℕ) → weight_group_cells s h cells ≡ cells

-- and Class 2 for additive ones
pub record ClassTwo (s : State) (h bits : ℕ) : Type 0 where
  pub variances : (room : ℕ) → relative_variance s h bits room ≡ rejects out_of_place
  pub cells : (cells : List Float) → relative_cells s h bits cells ≡ cells

pub record KindLaws : Type 0 where
  pub same : (s : State) → SameNumbers s
  pub relative : (s : State) → check s ≡ 0 → has_relative_errors s.model ≡ true → (h : ℕ) → ClassOne s h
  pub additive : (s : State) → check s ≡ 0 → has_relative_errors s.model ≡ false → (h bits : ℕ) → ClassTwo s h bits
