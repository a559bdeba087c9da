use mathlib.Core.Path.{◌≡◌, sym}
use mathlib.Core.Bool.{Bool, true, false, cond}
use Rattle.calendars.specs.Calendars.{calendar_of}
use Rattle.ets.specs.Calendars.{missing_on}
use Rattle.ets.proofs.CalendarLaws.{lists-code, placed}
use Rattle.clock.proofs.StepLaws.{first-turn, missing-built, missing-unfollowed}
use Rattle.clock_changes.proofs.missing_on.Goals as goal
use Rattle.clock_changes.proofs.missing_on.Goals.{After-is_ok}
use Rattle.std.specs.Prelude.{is_ok}

pub returns-then-not-calendar_ok : goal.returns-then-not-calendar_ok
returns-then-not-calendar_ok c =
    let k = calendar_of c.args.skipped.now c.args.repeated.now in
    let l = lists-code c.args.s.period k c.calendar_ok.result false c.calendar_ok.ensures c.if-not-calendar_ok.true in
    rw c.calendar_rejection.ensures (sym (missing-unfollowed k c.args.s l))

-- the lists give the turn, and b whether it was taken
built : (c : After-is_ok) (b : Bool) → b ≡ is_ok c.missing-done.result.outcome → record { state = placed c.missing-done.result.state (cond b c.walk-t.result.next c.args.s.index); outcome = c.missing-done.result.outcome } ≡ missing_on (calendar_of c.args.skipped.now c.args.repeated.now) c.args.s
built c b =
    let k = calendar_of c.args.skipped.now c.args.repeated.now in
    let l = lists-code c.args.s.period k c.calendar_ok.result true c.calendar_ok.ensures c.if-not-calendar_ok.false in
    let t = first-turn k c.args.s.period c.args.s.index c.args.s.count c.start.result c.walk-t.result l c.start.ensures c.walk-t.ensures in
    missing-built k c.args.s l c.walk-t.result.used c.walk-t.result.next c.missing-done.result b t.used t.next c.missing-done.ensures

pub returns-then-is_ok : goal.returns-then-is_ok
returns-then-is_ok c = built (goal.at.returns-then-is_ok c).After-is_ok true c.if-is_ok.ensures.value

pub returns-else-is_ok : goal.returns-else-is_ok
returns-else-is_ok c = built (goal.at.returns-else-is_ok c).After-is_ok false c.if-is_ok.ensures.value
