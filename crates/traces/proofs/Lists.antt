-- What every call keeps, and the slices of calls in place.
use Prim.Native.Nat.{ℕ}
use mathlib.Core.Path.{◌≡◌, refl, sym, ◌∙◌, ap}
use mathlib.Core.Bool.{Bool, true, false, cond}
use mathlib.Core.List.{List, [], ◌∷◌, ◌++◌, append-nil}
use lib.Dec.{eqb}
use lib.IntN.{ℤ}
use lib.ListN.{length}
use Rattle.calendars.specs.Calendars.{Calendar, no_changes}
use Rattle.state.specs.Rejections.{answer_value}
use Rattle.state.specs.Fixed.{is_sentinel}
use Rattle.state.specs.States.{check}
use Rattle.state.specs.Switching.{switched, switch_to_even}
use Rattle.state.specs.declared.State.{State}
use Rattle.state.proofs.Switches.{checks-kept}
use Rattle.state.proofs.Tests.{then-zero}
use Rattle.ets.specs.Steps.{step_code_by, step_code, missing_code, after_reading_by, after_reading, after_missing_by, after_missing, step, missing as missing-call}
use Rattle.ets.specs.Batches.{run_by, preceded, halted, take_code_by, after_take_by}
use Rattle.forecasts.specs.Forecasts.{max_horizon, forecast_code, forecast_of, forecast}
use Rattle.forecasts.proofs.ForecastLaws.{list_length}
use Rattle.forecasts.proofs.CalendarLaws.{list-length-by}
use Rattle.ets.proofs.CalendarLaws.{reading-typed-by, reading-kept-by, missing-kept-by}
use Rattle.layout.specs.Bytes.{AreBytes}
use Rattle.layout.specs.Layout.{scored_in}
use Rattle.snapshot.specs.Snapshots.{decoded}
use Rattle.slices.specs.Slices.{in_place_code}
use Rattle.saving.specs.Encoding.{encoded}
use Rattle.in_place.specs.InPlace.{room_code, rewrite_code, rejection, bytes_after, in_place_step_code, in_place_step_bytes, in_place_missing_code, in_place_missing_bytes, in_place_switch_code, in_place_switch_bytes, in_place_forecast_code, in_place_forecast}
use Rattle.in_place.proofs.InPlaceLaws.{in-place-encoded, room-encoded, in-place-is-direct}
use Rattle.traces.specs.Calls.{followed, Reading, Missing, Switch, Forecast, InPlaceReading, InPlaceMissing, InPlaceSwitch, InPlaceForecast, horizon, Result, result}
use Rattle.traces.specs.Laws.{filled, Passing, CallLaws, InPlaceLaws, Holds, ReadingLaw, MissingLaw, SwitchLaw, ForecastLaw, SliceLaws}
use Rattle.traces.proofs.Slices.{too_short}
use Rattle.traces.proofs.Works.{by_code, Fitting, unlisted, take-period, fitting, Works, reads, misses, switches, takes, forecasts-one, forecasts-all, walks-one, walks-all}
use Rattle.traces.proofs.Results.{works, reading-code, missed-code, forecast-rejection, forecast-answer}

-- ---- a state that passes stays one
module _ (k : Calendar) (s : State) (w : Passing s) (f : Fitting s.period k) where
  after-reading : (y : ℤ) → step_code_by k s y ≡ 0 → Passing (after_reading_by k s y)
  after-reading y z =
      record { typed = reading-typed-by k s y w.typed; passes = reading-kept-by k s (fitting s.period f) w.passes y w.typed.cells z }

  after-missing : missing_code s ≡ 0 → Passing (after_missing_by k s)
  after-missing z =
      record { typed = record { cells = w.typed.cells; low = w.typed.low }; passes = missing-kept-by k s (fitting s.period f) w.passes z }

  after-take : (y : ℤ) → take_code_by k s y ≡ 0 → Passing (after_take_by k s y)
  unfolding take_code_by after_take_by
  after-take y = go (is_sentinel y)
    where
      go : (b : Bool) → cond b (missing_code s) (step_code_by k s y) ≡ 0 → Passing (cond b (after_missing_by k s) (after_reading_by k s y))
      go true = after-missing
      go false = after-reading y

after-switch : (s : State) → Passing s → Passing (switched s)
after-switch s w = record { typed = record { cells = w.typed.cells; low = w.typed.low }; passes = checks-kept s ∙ w.passes }

-- no reading moves m
after_run : (k : Calendar) (ys : List ℤ) (s : State) → Passing s → Fitting s.period k → Passing (run_by k s ys).state
unfolding run_by
after_run k [] s w f = w
after_run k (y ∷ ys) s w f =
    by_code (λ b. Passing (cond b (preceded (after_take_by k s y).level (run_by k (after_take_by k s y) ys)) (halted s (take_code_by k s y))).state) (take_code_by k s y)
    (λ z. after_run k ys (after_take_by k s y) (after-take k s w f y z) (rw (take-period k s y) f))
    w

stays : (s : State) → Passing s → {q : List ℕ} {r : Result} → Works s q r → Passing r.state
stays s w (reads k y n f) =
    by_code (λ b. Passing (cond b (after_reading_by k s y) s)) n (λ z. after-reading k s w (f z).0 y (f z).1) w
stays s w (misses k n f) = by_code (λ b. Passing (cond b (after_missing_by k s) s)) n (λ z. after-missing k s w (f z).0 (f z).1) w
stays s w (switches n) =
    by_code (λ b. Passing (cond b (switched s) s)) n (λ z. after-switch s w) w
stays s w (takes k ys n f) = by_code (λ b. Passing (cond b (run_by k s ys) (halted s n)).state) n (λ z. after_run k ys s w (f z)) w
stays s w (forecasts-one h n v f) = w
stays s w (forecasts-all h n zs f) = w
stays s w (walks-one k h n v f) = w
stays s w (walks-all k h n zs f) = w

counted : (s : State) {q : List ℕ} {r : Result} → Works s q r → length r.numbers ≡ filled r.event
counted s (reads k y n f) = by_code (λ b. length {A = ℤ} (cond b [] []) ≡ 0) n (λ z. refl) refl
counted s (misses k n f) = by_code (λ b. length {A = ℤ} (cond b [] []) ≡ 0) n (λ z. refl) refl
counted s (switches n) = refl
counted s (takes k ys n f) = refl
counted s (forecasts-one h n v f) = by_code (λ b. length (cond b (v ∷ []) []) ≡ cond b 1 0) n (λ z. refl) refl
counted s (forecasts-all h n zs f) = by_code (λ b. length (cond b zs []) ≡ cond b h 0) n (λ z. ap length (f z) ∙ list_length s h) refl
counted s (walks-one k h n v f) = by_code (λ b. length (cond b (v ∷ []) []) ≡ cond b 1 0) n (λ z. refl) refl
counted s (walks-all k h n zs f) = by_code (λ b. length (cond b zs []) ≡ cond b h 0) n (λ z. ap length (f z).1 ∙ list-length-by k s h) refl

pub call-laws : CallLaws
call-laws s w k =
    let u = works s w.typed w.passes k in
    record { stays = stays s w u; counted = counted s u }

-- ---- in place
module _ (s : State) (w : Passing s) where
  same-reading : (y : ℤ) → result s (InPlaceReading (followed []) y) ≡ result s (Reading y)
  unfolding result
  same-reading y =
      rw (append-nil (encoded s), (in-place-is-direct.step s w.typed w.passes y).holds, (in-place-is-direct.step s w.typed w.passes y).code, reading-code s y)

  same-missing : result s (InPlaceMissing (followed [])) ≡ result s Missing
  unfolding result
  same-missing =
      rw (append-nil (encoded s), (in-place-is-direct.missing s w.typed w.passes).holds, (in-place-is-direct.missing s w.typed w.passes).code, missed-code s)

  same_switch : result s (InPlaceSwitch (followed [])) ≡ result s Switch
  unfolding result
  same_switch = rw (append-nil (encoded s), (in-place-is-direct.switch s w.typed w.passes).holds)

  same-forecast : (h : ℕ) (old : ℤ) → result s (InPlaceForecast (followed []) h old) ≡ result s (Forecast max_horizon h)
  unfolding result
  same-forecast h old =
      rw (append-nil (encoded s), (in-place-is-direct.forecast s w.typed w.passes h).code, (in-place-is-direct.forecast s w.typed w.passes h).number old, forecast-rejection max_horizon s h)
      (ap (λ (zs : List ℤ). record { state = s; event = horizon h (eqb (forecast_code s h) 0); numbers = zs }) (by_code (λ b. cond b (cond b (forecast_of s h) old ∷ []) [] ≡ cond b (answer_value (forecast s h) ∷ []) []) (forecast_code s h) (λ z. ap (λ (v : ℤ). v ∷ []) (sym (forecast-answer max_horizon s h z))) refl))

pub in-place-laws : InPlaceLaws
in-place-laws s w = record { reading = same-reading s w; missing = same-missing s w; switch = same_switch s w; forecast = same-forecast s w }

-- ---- slices
opening : (d : List ℕ) → AreBytes d → rewrite_code d ≡ 0 → Holds d (decoded d)
opening d b z =
    let h = in-place-is-direct.slice d b (then-zero (in_place_code d) (room_code d) z).0 in
    record { rewritable = z; state = refl; passing = record { typed = h.typed; passes = h.passes } }

saved : (d : List ℕ) (s : State) → AreBytes d → Holds d s → scored_in d ≡ true → d ≡ encoded s ++ []
saved d s b w e =
    let h = in-place-is-direct.slice d b (then-zero (in_place_code d) (room_code d) w.rewritable).0 in
    sym (h.new e) ∙ ap encoded w.state ∙ sym (append-nil (encoded s))

encoded-holds : (s : State) → Passing s → Holds (encoded s) s
encoded-holds s w =
    let r = in-place-encoded s w.typed w.passes in
    record { rewritable = rw r.0 (room-encoded s); state = r.1; passing = w }

module _ (d : List ℕ) (s : State) (w : Holds d s) where
  -- the slice by the rejection of the call on the state
  code_is : (code : State → ℕ) → rejection code d ≡ code s
  code_is code = rw (w.rewritable, w.state)

  keeps : (code : State → ℕ) (next : State → State) → (code s ≡ 0 → Passing (next s)) → Holds (bytes_after code next d) (cond (eqb (code s) 0) (next s) s)
  keeps code next f =
      rw (code_is code, w.state)
      (by_code (λ b. Holds (cond b (encoded (next s)) d) (cond b (next s) s)) (code s) (λ z. encoded-holds (next s) (f z)) w)

  reading : (y : ℤ) → ReadingLaw d s y
  unfolding result in_place_step_code in_place_step_bytes step
  reading y =
      let p = w.passing in
      let r = in-place-is-direct.step s p.typed p.passes y in
      record {
        code = rw (append-nil (encoded s)) (code_is (λ t. step_code t y) ∙ sym r.code);
        holds = rw (append-nil (encoded s), r.holds) (keeps (λ t. step_code t y) (λ t. after_reading t y) (after-reading no_changes s p unlisted y));
      }

  missing : MissingLaw d s
  unfolding result in_place_missing_code in_place_missing_bytes missing-call
  missing =
      let p = w.passing in
      let r = in-place-is-direct.missing s p.typed p.passes in
      record {
        code = rw (append-nil (encoded s)) (code_is missing_code ∙ sym r.code);
        holds = rw (append-nil (encoded s), r.holds) (keeps missing_code (λ t. after_missing t) (after-missing no_changes s p unlisted));
      }

  switch : SwitchLaw d s
  unfolding result in_place_switch_code in_place_switch_bytes switch_to_even
  switch =
      let p = w.passing in
      let r = in-place-is-direct.switch s p.typed p.passes in
      record {
        code = rw (append-nil (encoded s)) (code_is check ∙ sym r.code);
        holds = rw (append-nil (encoded s), r.holds) (keeps check (λ t. switched t) (λ z. after-switch s p));
      }

  forecast-in : (h : ℕ) → ForecastLaw d s h
  unfolding in_place_forecast_code in_place_forecast
  forecast-in h =
      let p = w.passing in
      let z = (then-zero (in_place_code d) (room_code d) w.rewritable).0 in
      let r = in-place-encoded s p.typed p.passes in
      record {
        code = rw (append-nil (encoded s), z, w.state, r.0, r.1);
        number = λ old. rw (append-nil (encoded s), z, w.state, r.0, r.1);
      }

pub slice-laws : SliceLaws
slice-laws =
    record { opening = opening; saved = saved; reading = reading; missing = missing; switch = switch; forecast = forecast-in; short = too_short }
