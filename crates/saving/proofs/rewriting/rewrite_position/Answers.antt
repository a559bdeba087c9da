-- `saving::rewriting::rewrite_position` meets its contract: where there is room the command is written.
use mathlib.Core.Path.{sym, ◌∙◌}
use mathlib.Core.Bool.{true}
use native.Mathlib.Omega.{arith}
use Rattle.layout.specs.CommandTable.{position_length}
use Rattle.layout.specs.Layout.{position_at}
use Rattle.saving.specs.Encoding.{position_bytes}
use Rattle.saving.proofs.Lengths.{length-position, written-room, written_none}
use Rattle.saving.proofs.rewriting.rewrite_position.Goals as goal

pub returns-then-size_of-d : goal.returns-then-size_of-d
returns-then-size_of-d c =
    let a = c.args in
    c.write_position.ensures
    ∙ sym (written-room a.d.now (position_at true a.m) (position_bytes a.index a.count) position_length (length-position a.index a.count) (omega arith))

pub returns-else-size_of-d : goal.returns-else-size_of-d
returns-else-size_of-d c =
    let a = c.args in
    sym (written_none a.d.now (position_at true a.m) (position_bytes a.index a.count) position_length (length-position a.index a.count) (omega arith))
