-- A call by a calendar that is not rejected is the call from the place that it uses, after which p stands where the turn says; one that is rejected has the state's rejection, or 20.
use Prim.Native.Nat.{ℕ}
use mathlib.Core.Path.{◌≡◌, refl, sym}
use mathlib.Core.Bool.{Bool, true, false, cond, ◌&&◌}
use native.Mathlib.Omega.{arith}
use lib.Dec.{eqb}
use lib.IntN.{ℤ}
use borrow.Author.Tests.{eqb-true, ne_eqb}
use Rattle.calendars.specs.Calendars.{Calendar, is_in}
use Rattle.calendars.specs.Walks.{walked, IsTurn}
use Rattle.calendars.specs.declared.Cursors.{Cursors}
use Rattle.calendars.specs.declared.Walked.{Walked}
use Rattle.calendars.proofs.ListLaws.{rises, behind-start}
use Rattle.calendars.proofs.WalkLaws.{walked-is}
use Rattle.integers.proofs.Tests.{both, cond-elim}
use Rattle.state.specs.Rejections.{◌then◌, bad_calendar, rejects, Outcome}
use Rattle.state.specs.States.{index_ok, check}
use Rattle.state.specs.declared.State.{State}
use Rattle.state.proofs.Tests.{then-zero}
use Rattle.calendars.specs.Turns.{Turn, next_index}
use Rattle.ets.specs.Steps.{turn, damped_trend, season_by, seasonal_by, advanced, residual_by, after_reading_by, after_missing_by, step_code_by, step_code, missing_code, residual_of, after_reading, after_missing, step, missing}
use Rattle.ets.specs.Calendars.{calendar_code, step_code_on, missing_code_on, step_on, missing_on}
use Rattle.ets.specs.declared.Stepped.{Stepped}
use Rattle.ets.specs.declared.Missed.{Missed}
use Rattle.ets.proofs.CalendarLaws.{followed, placed, turned, placed-check, skips, repeats}
use Rattle.std.specs.Prelude.{Ok, is_ok}

-- the turn of a call's first step, by the walk from the start of both lists
pub first-turn : (k : Calendar) (m p n : ℕ) (at : Cursors) (w : Walked) → calendar_code m k ≡ 0 → at ≡ record { skipped = 0; repeated = 0 } → w ≡ walked k at m p n → IsTurn k m p n w
first-turn k m p n at w z e f =
    let r = rises k.skipped k.repeated (followed m k z).lists in
    rw (f, e)
    (walked-is k (record { skipped = 0; repeated = 0 }) m p n r.0 r.1 (behind-start k.skipped n, behind-start k.repeated n))

-- of a day, whatever else the state is
turned-check : (k : Calendar) (s : State) → s.period ≡ 24 → check (turned k s) ≡ check s
turned-check k s day =
    cond-elim same (skips k s.index s.count) (record { used = 3; next = 4 }) _ (λ e. at-two 3 (due (is_in s.count k.skipped) e) refl)
    (λ _. cond-elim same (repeats k s.index s.count) (record { used = 2; next = 2 }) (record { used = s.index; next = next_index s.period s.index }) (λ e. at-two 2 (due (is_in s.count k.repeated) e) refl) (λ _. refl))
  where
    same : Turn → Type 0
    same t = check (placed s t.used) ≡ check s

    due : (b : Bool) → (b && eqb s.index 2) ≡ true → s.index ≡ 2
    due b e = eqb-true s.index 2 (both b (eqb s.index 2) e).1

    at-two : (p : ℕ) → s.index ≡ 2 → index_ok 24 p ≡ true → check (placed s p) ≡ check s
    at-two p e h = placed-check s p (rw (day, e)) (rw day h)

module _ (k : Calendar) (s : State) where
  abbrev t : State
  t = turned k s

  -- ---- with lists that can be followed
  module _ (z : calendar_code s.period k ≡ 0) where
    same : check t ≡ check s
    same = turned-check k s (followed s.period k z).day

    step-code : (y : ℤ) → step_code_on k s y ≡ step_code t y
    unfolding step_code_on step_code_by damped_trend season_by
    step-code y = rw (z, same)

    missing-code : missing_code_on k s ≡ missing_code t
    unfolding missing_code_on missing_code advanced damped_trend
    missing-code = rw (z, same)

    pub step-followed : (y : ℤ) → step_on k s y ≡ record { state = placed (step t y).state (cond (is_ok (step t y).residual) (turn k s).next s.index); residual = (step t y).residual }
    unfolding step_on step damped_trend season_by seasonal_by
    step-followed y = rw (step-code y) (go (step_code t y) (eqb (step_code t y) 0))
      where
        go : (n : ℕ) (b : Bool) → ◌≡◌ {A = Stepped} (record { state = cond b (after_reading_by k s y) s; residual = cond b (Ok (residual_by k s y)) (rejects n) })
            (record { state = placed (cond b (after_reading t y) t) (cond (is_ok (cond b (Ok (residual_of t y)) (rejects n))) (turn k s).next s.index); residual = cond b (Ok (residual_of t y)) (rejects n) })
        go n true = refl
        go n false = refl

    pub missing-followed : missing_on k s ≡ record { state = placed (missing t).state (cond (is_ok (missing t).outcome) (turn k s).next s.index); outcome = (missing t).outcome }
    unfolding missing_on missing advanced damped_trend
    missing-followed = rw missing-code (go (missing_code t) (eqb (missing_code t) 0))
      where
        done : ℕ → Bool → Outcome
        done n b = cond b (Ok tt) (rejects n)

        go : (n : ℕ) (b : Bool) → ◌≡◌ {A = Missed} (record { state = cond b (after_missing_by k s) s; outcome = done n b })
            (record { state = placed (cond b (after_missing t) t) (cond (is_ok (done n b)) (turn k s).next s.index); outcome = done n b })
        go n true = refl
        go n false = refl

    -- as the code builds them
    pub step-built : (y : ℤ) (u q : ℕ) (r : Stepped) (b : Bool) → u ≡ (turn k s).used → q ≡ (turn k s).next → r ≡ step (placed s u) y → b ≡ is_ok r.residual → record { state = placed r.state (cond b q s.index); residual = r.residual } ≡ step_on k s y
    step-built y u q r b eu eq er eb = rw (eb, er, eq, eu) (sym (step-followed y))

    pub missing-built : (u q : ℕ) (r : Missed) (b : Bool) → u ≡ (turn k s).used → q ≡ (turn k s).next → r ≡ missing (placed s u) → b ≡ is_ok r.outcome → record { state = placed r.state (cond b q s.index); outcome = r.outcome } ≡ missing_on k s
    missing-built u q r b eu eq er eb = rw (eb, er, eq, eu) (sym missing-followed)

  -- ---- with others
  is-rejected : (check s then bad_calendar) ≡ 0 → ⊥
  is-rejected e = let z = (then-zero (check s) bad_calendar e).1 in omega arith

  module _ (z : calendar_code s.period k ≡ bad_calendar) where
    pub step-unfollowed : (y : ℤ) → step_on k s y ≡ record { state = s; residual = rejects (check s then bad_calendar) }
    unfolding step_on step_code_on
    step-unfollowed y = let e = ne_eqb (check s then bad_calendar) 0 is-rejected in rw (z, e)

    pub missing-unfollowed : missing_on k s ≡ record { state = s; outcome = rejects (check s then bad_calendar) }
    unfolding missing_on missing_code_on
    missing-unfollowed = let e = ne_eqb (check s then bad_calendar) 0 is-rejected in rw (z, e)
