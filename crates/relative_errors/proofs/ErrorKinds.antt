-- The kind of the errors: nothing but the calls of a class reads bit 3.
use Prim.Native.Nat.{ℕ, zero, suc, ◌+◌, ◌*◌, ◌-◌, ◌/◌, ◌%◌, ◌<◌}
use mathlib.Core.Path.{◌≡◌, refl, sym, ap, ap₂, ◌∙◌}
use mathlib.Core.Bool.{Bool, true, false, cond}
use mathlib.Core.List.{List, [], ◌∷◌}
use native.Mathlib.Omega.{arith}
use lib.Dec.{eqb, leb}
use lib.IntN.{ℤ}
use lib.ListN.{length}
use Rattle.models.specs.Models.{trend_of, season_of, rounding_of, to_up, to_even, to_additive, has_relative_errors, errors_are}
use Rattle.state.specs.Fixed.{is_sentinel}
use Rattle.state.specs.Rejections.{unless, ◌then◌, accepting, outcome, answer, short_buffer, Answer}
use Rattle.state.specs.Switching.{switched, switch_to_even}
use Rattle.state.specs.States.{parameters_code, check}
use Rattle.state.specs.declared.State.{State}
use Rattle.ets.specs.Steps.{damped_trend, season_by, terms_of, seasonal_by, new_seasonal, residual, residual_of, after_reading, after_missing, step_code_by, step_code, missing_code, step, missing}
use Rattle.ets.specs.Batches.{Run, take_code_by, take_code, after_take_by, after_take, halted, preceded, run_by, run, batch_code, batch_run, batch, batch_levels}
use Rattle.ets.specs.declared.Terms.{Terms}
use Rattle.forecasts.specs.Forecasts.{season_at, forecast_of, forecast_code_to, forecast_to, forecast_list, forecasts_code_to, forecasts_to, forecast_cells_to}
use Rattle.weights.specs.Weights.{errors_code, weight, variance}
use Rattle.weights.specs.Groups.{weight_groups_code, weight_groups, weight_group_cells}
use Rattle.relative_errors.specs.Relative.{input_code, relative_code, relative_variance, relative_cells}
use Rattle.relative_errors.specs.ErrorKinds.{with_relative_errors, SameNumbers, ClassOne, ClassTwo, KindLaws}

-- ---- the parts of the byte: bits 4 and up, bit 3, and bits 0 to 2
quarter : (a x : ℕ) → x < 16 → (16 * a + x) / 64 ≡ a / 4
quarter a x h = omega arith

up_of : (a x : ℕ) → x < 16 → to_up (16 * a + x) ≡ 16 * (a - a / 4 % 2 * 4) + x
up_of a x h = rw (quarter a x h) (omega arith)

additive-of : (a b c : ℕ) → b < 2 → c < 8 → to_additive (16 * a + (8 * b + c)) ≡ 16 * a + c
additive-of a b c h k = omega arith

form_of : (a b c : ℕ) → b < 2 → c < 8 → to_additive (to_up (16 * a + (8 * b + c))) ≡ 16 * (a - a / 4 % 2 * 4) + c
form_of a b c h k = rw (up_of a (8 * b + c) (omega arith)) (additive-of (a - a / 4 % 2 * 4) b c h k)

sums : (a x : ℕ) → 16 * a + x + 64 ≡ 16 * (a + 4) + x
sums a x = omega arith

sums-set : (a c : ℕ) → 16 * a + (8 * 1 + c) + 64 ≡ 16 * (a + 4) + c + 8
sums-set a c = omega arith

module _ (m : ℕ) where
  parts : m ≡ 16 * (m / 16) + (8 * (m / 8 % 2) + m % 8)
  parts = omega arith

  set : to_additive m + 8 ≡ 16 * (m / 16) + (8 * 1 + m % 8)
  set = omega (arith, parts)

  trend-kept : trend_of (to_additive m + 8) ≡ trend_of m
  trend-kept = omega arith

  season-kept : season_of (to_additive m + 8) ≡ season_of m
  season-kept = omega arith

  rounding-kept : rounding_of (to_additive m + 8) ≡ rounding_of m
  rounding-kept =
      ap (λ (x : ℕ). x / 64 % 2) set
      ∙ ap (λ (x : ℕ). x % 2) (quarter (m / 16) (8 * 1 + m % 8) (omega arith) ∙ sym (quarter (m / 16) (8 * (m / 8 % 2) + m % 8) (omega arith)))
      ∙ ap (λ (x : ℕ). x / 64 % 2) (sym parts)

  form-kept : to_additive (to_up (to_additive m + 8)) ≡ to_additive (to_up m)
  form-kept =
      ap (λ (x : ℕ). to_additive (to_up x)) set
      ∙ form_of (m / 16) 1 (m % 8) (omega arith) (omega arith)
      ∙ sym (form_of (m / 16) (m / 8 % 2) (m % 8) (omega arith) (omega arith))
      ∙ ap (λ (x : ℕ). to_additive (to_up x)) (sym parts)

  -- the byte with bit 6 set
  even-of : (b : ℕ) → b < 2 → to_even (16 * (m / 16) + (8 * b + m % 8)) ≡ 16 * (m / 16 - m / 16 / 4 % 2 * 4) + (8 * b + m % 8) + 64
  even-of b h = ap (λ (x : ℕ). x + 64) (up_of (m / 16) (8 * b + m % 8) (omega arith))

  even-kept : to_even (to_additive m + 8) ≡ to_additive (to_even m) + 8
  even-kept =
      let a = m / 16 - m / 16 / 4 % 2 * 4 in
      let b = m / 8 % 2 in
      let c = m % 8 in
      let plain : to_even m ≡ 16 * (a + 4) + (8 * b + c) = ap to_even parts ∙ even-of b (omega arith) ∙ sums a (8 * b + c) in
      ap to_even set ∙ even-of 1 (omega arith) ∙ sums-set a c
      ∙ sym (ap (λ (x : ℕ). to_additive x + 8) plain ∙ ap (λ (x : ℕ). x + 8) (additive-of (a + 4) b c (omega arith) (omega arith)))

checks : (s : State) → check (with_relative_errors s) ≡ check s
unfolding check parameters_code
checks s = rw (form-kept s.model, trend-kept s.model, season-kept s.model)

module _ (s : State) where
  abbrev r : State
  r = with_relative_errors s

  terms : terms_of r ≡ terms_of s
  unfolding damped_trend season_by
  terms = rw (trend-kept s.model, season-kept s.model, rounding-kept s.model)

  damped : damped_trend r ≡ damped_trend s
  damped = ap (λ (t : Terms). t.damped) terms

  cells_kept : (e : ℤ) → new_seasonal r e ≡ new_seasonal s e
  unfolding seasonal_by
  cells_kept e = rw (season-kept s.model, terms)

  step-code : (y : ℤ) → step_code r y ≡ step_code s y
  unfolding step_code_by
  step-code y = rw (checks s, terms)

  missing-code : missing_code r ≡ missing_code s
  unfolding missing_code
  missing-code = rw (checks s, terms)

  after-reading : (y : ℤ) → after_reading r y ≡ with_relative_errors (after_reading s y)
  after-reading y = rw (terms, cells_kept (residual_of s y), rounding-kept s.model)

  after-missing : after_missing r ≡ with_relative_errors (after_missing s)
  after-missing = rw (terms, damped)

  -- the state that stands, accepted or not
  stands : (b : Bool) (x y : State) → x ≡ with_relative_errors y → cond b x r ≡ with_relative_errors (cond b y s)
  stands true x y e = e
  stands false x y e = refl

  reading : (y : ℤ) → step r y ≡ record { state = with_relative_errors (step s y).state; residual = (step s y).residual }
  unfolding step
  reading y =
      ap₂ (λ (t : State) (a : Answer). record { state = t; residual = a })
      (ap (λ (n : ℕ). cond (eqb n 0) (after_reading r y) r) (step-code y) ∙ stands (eqb (step_code s y) 0) (after_reading r y) (after_reading s y) (after-reading y))
      (ap₂ (λ (n : ℕ) (t : Terms). answer n (residual t y)) (step-code y) terms)

  gap : missing r ≡ record { state = with_relative_errors (missing s).state; outcome = (missing s).outcome }
  unfolding missing
  gap =
      rw missing-code
      (ap (λ (t : State). record { state = t; outcome = outcome (missing_code s) }) (stands (eqb (missing_code s) 0) (after_missing r) (after_missing s) after-missing))

  switch_kept : switched r ≡ with_relative_errors (switched s)
  switch_kept = rw (even-kept s.model)

  rule : switch_to_even r ≡ record { state = with_relative_errors (switch_to_even s).state; outcome = (switch_to_even s).outcome }
  unfolding switch_to_even
  rule =
      rw (checks s)
      (ap (λ (t : State). record { state = t; outcome = outcome (check s) }) (stands (eqb (check s) 0) (switched r) (switched s) switch_kept))

  take-code : (y : ℤ) → take_code r y ≡ take_code s y
  unfolding take_code_by
  take-code y = rw (missing-code, step-code y)

  after-take : (y : ℤ) → after_take r y ≡ with_relative_errors (after_take s y)
  unfolding after_take_by
  after-take y = go (is_sentinel y)
    where
      go : (b : Bool) → cond b (after_missing r) (after_reading r y) ≡ with_relative_errors (cond b (after_missing s) (after_reading s y))
      go true = after-missing
      go false = after-reading y

  forecast-kept : (h : ℕ) → forecast_of r h ≡ forecast_of s h
  unfolding forecast_of season_at
  forecast-kept h = rw (season-kept s.model, rounding-kept s.model)

  code-kept : (limit h : ℕ) → forecast_code_to limit r h ≡ forecast_code_to limit s h
  unfolding forecast_code_to
  code-kept limit h = rw (checks s)

  list-kept : (h : ℕ) → forecast_list r h ≡ forecast_list s h
  unfolding forecast_list
  list-kept zero = refl
  list-kept (suc h) = rw (list-kept h, forecast-kept (suc h))

  all-code-kept : (limit h room : ℕ) → forecasts_code_to limit r h room ≡ forecasts_code_to limit s h room
  unfolding forecasts_code_to
  all-code-kept limit h room = rw (code-kept limit h)

-- ---- a batch: its state is the one with bit 3, its levels and its end are the same
abbrev relative_run : Run → Run
relative_run x = record { state = with_relative_errors x.state; levels = x.levels; code = x.code }

ends : (s : State) (n : ℕ) (x : Run) → accepting n (relative_run x) (halted (with_relative_errors s)) ≡ relative_run (accepting n x (halted s))
ends s n x = go (eqb n 0)
  where
    go : (b : Bool) → cond b (relative_run x) (halted (with_relative_errors s) n) ≡ relative_run (cond b x (halted s n))
    go true = refl
    go false = refl

run-kept : (s : State) (ys : List ℤ) → run (with_relative_errors s) ys ≡ relative_run (run s ys)
unfolding run_by
run-kept s [] = refl
run-kept s (y ∷ ys) =
    let r = with_relative_errors s in
    let t = after_take s y in
    ap₂ (λ (n : ℕ) (x : State). accepting n (preceded x.level (run x ys)) (halted r)) (take-code s y) (after-take s y)
    ∙ ap (λ (x : Run). accepting (take_code s y) (preceded t.level x) (halted r)) (run-kept t ys)
    ∙ ends s (take_code s y) (preceded t.level (run t ys))

batch_run-relative : (s : State) (ys : List ℤ) (room : ℕ) → batch_run (with_relative_errors s) ys room ≡ relative_run (batch_run s ys room)
unfolding batch_run
batch_run-relative s ys room =
    ap₂ (λ (n : ℕ) (x : Run). accepting (n then unless (leb (length ys) room) short_buffer) x (halted (with_relative_errors s))) (checks s) (run-kept s ys)
    ∙ ends s (batch_code s (length ys) room) (run s ys)

module _ (s : State) where
  same_numbers : SameNumbers s
  unfolding forecast_to forecasts_to forecast_cells_to batch batch_levels
  same_numbers =
      record {
        checks = checks s;
        reading = reading s;
        gap = gap s;
        readings = λ ys room. rw (batch_run-relative s ys room);
        levels = λ ys cells. rw (batch_run-relative s ys (length cells));
        rule = rule s;
        one = λ limit h. rw (code-kept s limit h, forecast-kept s h);
        all = λ limit h room. rw (all-code-kept s limit h room);
        cells = λ limit h cells. rw (all-code-kept s limit h (length cells), list-kept s h);
      }

  -- ---- each class is for one kind
  module _ (ok : check s ≡ 0) where
    other : (relative : Bool) (h : ℕ) → errors_are relative s.model ≡ false → errors_code relative s h ≡ 3
    unfolding errors_code
    other relative h e = rw (ok, e)

    class-one : has_relative_errors s.model ≡ true → (h : ℕ) → ClassOne s h
    unfolding weight variance weight_groups weight_group_cells weight_groups_code
    class-one e h =
        let c = other false h (rw e) in
        record { weights = rw c; variances = λ sigma2. rw c; groups = λ room. rw c; cells = λ cells. rw c }

    class-two : has_relative_errors s.model ≡ false → (h bits : ℕ) → ClassTwo s h bits
    unfolding relative_variance relative_cells relative_code input_code
    class-two e h bits =
        let c = other true h e in
        record { variances = λ room. rw c; cells = λ cells. rw c }

pub kind-laws : KindLaws
kind-laws =
    record { same = same_numbers; relative = λ s ok e h. class-one s ok e h; additive = λ s ok e h bits. class-two s ok e h bits }
