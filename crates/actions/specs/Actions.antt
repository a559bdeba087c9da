-- Document 01, "Commands": what each command makes of a state. Each is told what to hand on of an accepted command, by its answer and the state that then stands, and of a rejected
-- one, by its code: a call hands on an action, a stream what stands after the command.
use Rattle.std.specs.Prelude.{ℕ, cond, List, eqb, ℤ, length, Float, Result, Ok, Err}
use Rattle.std.specs.Float.{binary64}
use Rattle.std.specs.Float.Ieee.{to_bits}
use Rattle.state.specs.Rejections.{by_outcome, by_answer, rejection_of}
use Rattle.state.specs.Switching.{switch_to_even}
use Rattle.state.specs.declared.State.{State}
use Rattle.ets.specs.Steps.{step, missing}
use Rattle.forecasts.specs.Forecasts.{max_horizon, forecast}
use Rattle.weights.specs.Weights.{variance}
use Rattle.weights.specs.declared.Variance.{Variance}
use Rattle.relative_errors.specs.Relative.{relative_variance}
use Rattle.snapshot.specs.Snapshots.{open_code, open_offset, read}
use Rattle.saving.specs.Encoding.{encoded}
use Rattle.saving.specs.Saving.{save}
use Rattle.checkpoints.specs.Checkpoints.{store, restore}
use Rattle.replies.specs.declared.Reply.{Reply}
use Rattle.replies.specs.declared.Reply.TheVariants as ReplyOf
use Rattle.actions.specs.declared.Action.{Action}
use Rattle.actions.specs.declared.Opening.{Opening}
use Rattle.state.specs.declared.Rejection.{Rejection}

-- an accepted command: its answer, and the state that then stands
abbrev pub accepted : Reply → State → Action
accepted r t = record { answer = Ok r; state = t }

-- a rejected one leaves the state as it was
abbrev pub rejected : State → Rejection → Action
rejected s r = record { answer = Err r; state = s }

-- what is made of a variance, by its cases
abbrev pub by_variance : {A : Type 0} → Result Variance Rejection → (ℕ → ℕ → A) → (Rejection → A) → A
by_variance (Ok v) a r = a v.high v.low
by_variance (Err e) a r = r e

abbrev pub by_relative : {A : Type 0} → Result Float Rejection → (Float → A) → (Rejection → A) → A
by_relative (Ok v) a r = a v
by_relative (Err e) a r = r e

-- 10 or 18: a new group replaces the state only when all of it is accepted
abbrev pub open_snapshot : {A : Type 0} → List ℕ → (Reply → State → A) → (Rejection → A) → A
open_snapshot group accept reject =
    let state = (read group).state in
    cond (eqb (open_code group) 0) (accept (ReplyOf.Opened state.model state.period) state) (reject (rejection_of (open_code group)))

-- the call: with the bytes of an accepted group, or those before the rejected command of one
abbrev pub opening : State → List ℕ → Opening
opening s group = record { action = open_snapshot group accepted (rejected s); size = open_offset group }

-- 20
abbrev pub take_reading : {A : Type 0} → State → ℤ → (Reply → State → A) → (Rejection → A) → A
take_reading s y accept reject =
    let t = step s y in
    by_answer t.residual (λ (e : ℤ). accept (ReplyOf.Residual e) t.state) reject

-- 21
abbrev pub take_missing : {A : Type 0} → State → (Reply → State → A) → (Rejection → A) → A
take_missing s accept reject =
    let t = missing s in
    by_outcome t.outcome (accept ReplyOf.Missing t.state) reject

-- 14 (document 02, W-211): the answer has no line
abbrev pub switch_state : {A : Type 0} → State → (Reply → State → A) → (Rejection → A) → A
switch_state s accept reject =
    let t = switch_to_even s in
    by_outcome t.outcome (accept ReplyOf.Silent t.state) reject

-- 30
abbrev pub give_forecast : {A : Type 0} → State → ℕ → (Reply → State → A) → (Rejection → A) → A
give_forecast s h accept reject = by_answer (forecast s h) (λ (v : ℤ). accept (ReplyOf.Forecast h v) s) reject

-- 31
abbrev pub give_variance : {A : Type 0} → State → ℕ → ℕ → (Reply → State → A) → (Rejection → A) → A
give_variance s h sigma2 accept reject = by_variance (variance s h sigma2) (λ (high low : ℕ). accept (ReplyOf.Variance h high low) s) reject

-- 32 (document 02, W-205): the answer's 64 bits; there is room for every θ
abbrev pub give_relative_variance : {A : Type 0} → State → ℕ → ℕ → (Reply → State → A) → (Rejection → A) → A
give_relative_variance s h sigma2 accept reject =
    by_relative (relative_variance s h sigma2 max_horizon) (λ (v : Float). accept (ReplyOf.RelativeVariance h (to_bits binary64 v)) s) reject

-- 40: saving writes the group of the state into a buffer of so much room
abbrev pub save_state : {A : Type 0} → State → ℕ → (Reply → State → A) → (Rejection → A) → A
save_state s room accept reject = by_outcome (save s room) (accept (ReplyOf.Saved (length (encoded s))) s) reject

-- 50 (document 02, W-209): the state is kept under a name, in checkpoints of so much room, and stands as it stood
abbrev pub store_state : {A : Type 0} → State → ℕ → ℕ → (Reply → State → A) → (Rejection → A) → A
store_state s slot room accept reject = by_outcome (store s slot room) (accept ReplyOf.Silent s) reject

-- 51: what a name holds in the checkpoints stands again
abbrev pub restore_state : {A : Type 0} → ℕ → List ℕ → (Reply → State → A) → (Rejection → A) → A
restore_state slot checkpoints accept reject =
    let t = restore slot checkpoints in
    by_outcome t.outcome (accept ReplyOf.Silent t.state) reject
