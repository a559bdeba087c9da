-- `snapshot::reading::Body::check_season` meets its contract: the command is there, and its checks are taken one after the other.
use Prim.Native.Nat.{ℕ, ◌+◌, ◌≤◌}
use mathlib.Core.Path.{◌≡◌, ◌∙◌}
use mathlib.Core.List.{List}
use native.Mathlib.Omega.{arith}
use lib.ListN.{length}
use mir.Syntax.{w64}
use Rattle.integers.proofs.Difference.{back}
use Rattle.state.proofs.Answers.{check-ends, check-passes}
use Rattle.layout.specs.CommandTable.{command_size, season_length}
use Rattle.snapshot.specs.Snapshots.{due_code, season_code}
use Rattle.snapshot.proofs.Accepting.{due}
use Rattle.snapshot.proofs.reading.Body.check_season.Goals as goal

-- the command is there, whole
room : (s : List ℕ) (at : ℕ) → due_code s at 0x12 ≡ 0 → at + season_length ≤ length s
unfolding command_size
room s at z = (due s at 0x12 z).room

pub season_due-requires : goal.season_due-requires
season_due-requires c w = rw c.season_at-at.ensures (c.requires w)

pub returns-in_err-season_due : goal.returns-in_err-season_due
unfolding season_code
returns-in_err-season_due c =
    rw (← c.args.self.told, ← c.season_at-at.ensures) (check-ends _ _ tt c.in_err-season_due.ensures c.from_residual.ensures.1)

pub bounds-self-at : goal.bounds-self-at
bounds-self-at c = omega (arith, room c.args.self.bytes.now _ (check-passes _ c.in_ok-season_due.ensures))

pub returns-in_err-unless : goal.returns-in_err-unless
unfolding season_code
returns-in_err-unless c =
    rw (← c.args.self.told, ← c.season_at-at.ensures, check-passes _ c.in_ok-season_due.ensures)
    (check-ends _ _ tt c.in_err-unless.ensures c.from_residual-in_err-unless.ensures.1)

pub value_at-requires : goal.value_at-requires
value_at-requires c = omega (arith, room c.args.self.bytes.now _ (check-passes _ c.in_ok-season_due.ensures))

pub returns : goal.returns
unfolding season_code
returns c =
    rw (← c.args.self.told, ← c.season_at-at.ensures, check-passes _ c.in_ok-season_due.ensures, check-passes _ c.in_ok-unless.ensures, ← (back w64 _ c.value_at.type_inv ∙ c.value_at.ensures), ← c.in_range.ensures)
    c.unless-2.ensures
