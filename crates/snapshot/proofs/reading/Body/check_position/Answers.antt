-- `snapshot::reading::Body::check_position` meets its contract: the command is there, and its checks are taken one after the other.
use Prim.Native.Nat.{ℕ, ◌+◌, ◌≤◌}
use mathlib.Core.Path.{◌≡◌, refl, sym, ap, ◌∙◌}
use mathlib.Core.List.{List}
use native.Mathlib.Omega.{arith}
use lib.ListN.{length}
use Rattle.state.specs.Scores.{score_ok}
use Rattle.state.proofs.Answers.{check-ends, check-passes}
use Rattle.layout.specs.CommandTable.{is_command, command_size, position_length}
use Rattle.layout.specs.Layout.{score_in, count_in}
use Rattle.snapshot.specs.Snapshots.{due_code, position_code}
use Rattle.snapshot.proofs.Accepting.{due}
use Rattle.snapshot.proofs.reading.Body.check_position.Goals.{After-word_at-count}
use Rattle.snapshot.proofs.reading.Body.check_position.Goals as goal

-- the command is there, whole
room : (s : List ℕ) (at : ℕ) → due_code s at 0x13 ≡ 0 → at + position_length ≤ length s
unfolding command_size
room s at z = (due s at 0x13 z).room

-- the count is read
count : (c : After-word_at-count) → c.word_at-count.result ≡ count_in c.args.self.bytes.now c.args.m
count c = rw (← c.args.self.told, ← c.season_at-at.ensures) c.word_at-count.ensures

pub due-requires : goal.due-requires
unfolding is_command command_size
due-requires c = refl

pub returns-in_err-due : goal.returns-in_err-due
unfolding position_code
returns-in_err-due c =
    rw (← c.args.self.told, ← c.season_at-at.ensures) (check-ends _ _ tt c.in_err-due.ensures c.from_residual.ensures.1)

pub word_at-count-requires : goal.word_at-count-requires
word_at-count-requires c = omega (arith, room c.args.self.bytes.now _ (check-passes _ c.in_ok-due.ensures))

pub bounds-self-at : goal.bounds-self-at
bounds-self-at c = omega (arith, room c.args.self.bytes.now _ (check-passes _ c.in_ok-due.ensures))

pub returns-in_err-unless : goal.returns-in_err-unless
unfolding position_code
returns-in_err-unless c =
    rw (← c.args.self.told, ← c.season_at-at.ensures, check-passes _ c.in_ok-due.ensures)
    (check-ends _ _ tt (rw (c.index_ok.ensures, c.count_ok.ensures, c.word_at-count.ensures) at c.in_err-unless.ensures) c.from_residual-in_err-unless.ensures.1)

pub returns : goal.returns
unfolding position_code
returns c =
    let a = c.args in
    let n = count (goal.at.returns c).After-word_at-count in
    let e : score_ok (count_in a.self.bytes.now a.m) (score_in a.self.bytes.now) ≡ c.score_ok.result = ap (λ (k : ℕ). score_ok k (score_in a.self.bytes.now)) (sym n) ∙ sym c.score_ok.ensures in
    let q = check-passes _ (rw (c.index_ok.ensures, c.count_ok.ensures, c.word_at-count.ensures) at c.in_ok-unless.ensures) in
    rw (e, ← c.args.self.told, ← c.season_at-at.ensures, check-passes _ c.in_ok-due.ensures, q) c.unless-2.ensures
