-- `ets::turns::walk` meets its contract.
use mathlib.Core.Path.{sym, ◌∙◌}
use borrow.Author.Rules.{rules}
use Rattle.calendars.specs.Calendars.{Calendar, calendar_of}
use Rattle.calendars.proofs.WalkLaws.{walked-plain, walked_skip, walked-again, walked_on}
use Rattle.turns.proofs.walk.Statement.{statement}
use Rattle.turns.proofs.walk.Tie as tie

returns : tie.Need-returns-then-index-ne2
returns c =
    let s = c.before.before.before.before.args in
    rw c.next_index.ensures (walked-plain (calendar_of s.skipped.now s.repeated.now) s.at s.period s.index s.count c.before.if-index-ne2.true)

-- both lists looked through
module _ (c : tie.After-seek-2) where
  abbrev k : Calendar
  k = let s = c.before.before.before.before.before.args in calendar_of s.skipped.now s.repeated.now

returns-2 : tie.Need-returns-then-stands_at
returns-2 c =
    let q = c.before.before in
    let s = q.before.before.before.before.before.args in
    walked_skip (k q) s.at s.period s.index s.count q.before.seek.result q.seek-2.result q.before.before.if-index-ne2.false q.before.seek.ensures q.seek-2.ensures
    (sym c.before.stands_at.ensures ∙ c.if-stands_at.true)

returns-3 : tie.Need-returns-then-stands_at-2
returns-3 c =
    let q = c.before.before.before.before in
    let s = q.before.before.before.before.before.args in
    walked-again (k q) s.at s.period s.index s.count q.before.seek.result q.seek-2.result q.before.before.if-index-ne2.false q.before.seek.ensures q.seek-2.ensures
    (sym c.before.before.before.stands_at.ensures ∙ c.before.before.if-stands_at.false)
    (sym c.before.stands_at-2.ensures ∙ c.if-stands_at-2.true)

returns-4 : tie.Need-returns
returns-4 c =
    let q = c.before.before.before.before.before in
    let s = q.before.before.before.before.before.args in
    rw c.next_index-2.ensures
    (walked_on (k q) s.at s.period s.index s.count q.before.seek.result q.seek-2.result q.before.before.if-index-ne2.false q.before.seek.ensures q.seek-2.ensures
    (sym c.before.before.before.before.stands_at.ensures ∙ c.before.before.before.if-stands_at.false)
    (sym c.before.before.stands_at-2.ensures ∙ c.before.if-stands_at-2.false))

pub walk_spec : {M : Type 1} → statement M
walk_spec =
    tie.close
    (tie.spec
    (λ c κs. search rules)
    returns
    (λ c κs. search rules)
    (λ c κs. search rules)
    (λ c κs. search rules)
    returns-2
    (λ c κs. search rules)
    returns-3
    (λ c κs. search rules)
    returns-4)
