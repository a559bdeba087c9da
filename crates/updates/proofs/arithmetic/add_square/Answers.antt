use mathlib.Core.Path.{sym}
use native.Mathlib.Omega.{arith}
use Rattle.ets.proofs.ScoreLaws.{high_le, stays-low, carries}
use borrow.Author.Rules.{rules}
use Rattle.updates.proofs.arithmetic.add_square.Goals as goal

pub returns-then-score-room : goal.returns-then-score-room
returns-then-score-room c =
    let s = c in
    sym (stays-low s.args.score s.args.square (search rules) s.requires.1 c.if-score-room.true)

pub overflow_add-result-2 : goal.overflow_add-result-2
overflow_add-result-2 c = let s = c in omega (arith, high_le s.args.score s.requires.0)

pub returns : goal.returns
returns c =
    let s = c in
    sym (carries s.args.score s.args.square (search rules) s.requires.1 c.if-score-room.false)
