-- What is left of the stream has the whole stream's last answer, and each command that is not the last moves on.
use Rattle.std.proofs.Common.{◌≡◌, ◌-◌, length}
use Rattle.checkpoints.specs.Checkpoints.{checkpoints_size, no_checkpoints}
use Rattle.commands.specs.Commands.{start}
use Rattle.streams.specs.Stream.{answers_from, last_reply}
use Rattle.console.proofs.play_commands.Given as goal

abbrev pub invariant-loop-x : goal.invariant-loop-x
invariant-loop-x l = (last_reply (answers_from l.s l.x l.checkpoints) ≡ last_reply (answers_from l.s start no_checkpoints)) × (length l.checkpoints ≡ checkpoints_size)

abbrev pub decreases-loop-x : goal.decreases-loop-x
decreases-loop-x l = length l.s - l.x.at
