-- Document 02, W-208: the largest forecast of the next 24 steps whose place is inside a quiet window.
use Rattle.std.specs.Prelude.{ℕ, zero, suc, Bool, true, false, cond, ◌&&◌, ◌||◌, List, [], ◌∷◌, ◌++◌, ltb, leb, ℤ, pos}
use Rattle.std.specs.Int.Signed.{lt_z}
use Rattle.calendars.specs.Calendars.{Calendar}
use Rattle.state.specs.Rejections.{unless, ◌then◌, answer, bad_calendar, Answer}
use Rattle.state.specs.States.{check}
use Rattle.state.specs.declared.State.{State}
use Rattle.ets.specs.Calendars.{calendar_code}
use Rattle.forecasts.specs.Calendars.{place_by, forecast_by}

-- a window's start and end are places
abbrev pub window_ok : ℕ → ℕ → Bool
window_ok start end = leb start 23 && leb end 23

-- start included and end not; where the end isn't above the start it runs on from 23 to 0, so that equal ends mean the whole day
abbrev pub in_window : ℕ → ℕ → ℕ → Bool
in_window start end p = cond (ltb start end) (leb start p && ltb p end) (leb start p || ltb p end)

-- the forecasts of the next h steps whose place, the one that the step uses, is inside
unfoldable pub inside_to : Calendar → State → ℕ → ℕ → ℕ → List ℤ
inside_to k s start end zero = []
inside_to k s start end (suc h) =
    inside_to k s start end h ++ cond (in_window start end (place_by k s (suc h))) (forecast_by k s (suc h) ∷ []) []

abbrev pub inside : Calendar → State → ℕ → ℕ → List ℤ
inside k s start end = inside_to k s start end 24

abbrev pub is_some : List ℤ → Bool
is_some [] = false
is_some (z ∷ zs) = true

-- the larger of two numbers, and the largest of a list (0 where it has none)
abbrev pub larger : ℤ → ℤ → ℤ
larger x y = cond (lt_z x y) y x

unfoldable pub largest_from : ℤ → List ℤ → ℤ
largest_from x [] = x
largest_from x (y ∷ ys) = largest_from (larger x y) ys

abbrev pub largest : List ℤ → ℤ
largest [] = pos 0
largest (z ∷ zs) = largest_from z zs

-- the state's checks, then 20: for the lists or m, for the window's ends, or where no step is inside
unfoldable pub window_code : Calendar → State → ℕ → ℕ → ℕ
window_code k s start end =
    check s
    then calendar_code s.period k
    then unless (window_ok start end) bad_calendar
    then unless (is_some (inside k s start end)) bad_calendar

unfoldable pub window_maximum : Calendar → State → ℕ → ℕ → Answer
window_maximum k s start end = answer (window_code k s start end) (largest (inside k s start end))
