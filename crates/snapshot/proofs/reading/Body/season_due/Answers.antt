-- `snapshot::reading::Body::season_due` meets its contract: a command 12 that is there, whole, is not rejected.
use Prim.Native.Nat.{ℕ, ◌+◌, ◌≤◌}
use mathlib.Core.Path.{◌≡◌, refl}
use mathlib.Core.List.{List}
use native.Mathlib.Omega.{arith}
use lib.ListN.{length, get_or}
use Rattle.layout.specs.CommandTable.{is_command, command_size, season_length}
use Rattle.snapshot.specs.Snapshots.{due_code}
use Rattle.snapshot.proofs.Accepting.{is-due}
use Rattle.snapshot.proofs.reading.Body.season_due.Goals as goal

there : (s : List ℕ) (at : ℕ) → get_or s at 0 ≡ 0x12 → at + season_length ≤ length s → due_code s at 0x12 ≡ 0
unfolding is_command command_size
there s at b r = is-due refl (omega arith) (record { byte = b; room = r })

pub returns-then-self-at : goal.returns-then-self-at
returns-then-self-at c = rw (there _ _ c.if-self-at.true (c.requires c.if-complete.true))

pub due-requires : goal.due-requires
unfolding is_command command_size
due-requires c = refl
