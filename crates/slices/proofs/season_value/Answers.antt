-- `slices::season_value` meets its contract.
use Prim.Native.Nat.{◌+◌}
use mathlib.Core.Path.{◌≡◌, ◌∙◌}
use native.Mathlib.Omega.{arith}
use lib.Dec.{leb}
use lib.ListN.{length}
use mir.Syntax.{w64}
use Rattle.integers.proofs.Difference.{back}
use Rattle.state.specs.Rejections.{unless, truncated}
use Rattle.state.proofs.Answers.{check-rejects, check-passes}
use Rattle.layout.specs.CommandTable.{season_length}
use Rattle.layout.specs.Layout.{season_at, scored_in, season_in}
use Rattle.layout.proofs.Sizes.{at-fits}
use Rattle.slices.specs.Slices.{season_value}
use Rattle.slices.proofs.season_value.Goals as goal

pub overflow_add-end : goal.overflow_add-end
overflow_add-end c =
    at-fits c.is_scored-scored.result c.args.k 10 c.season_at-end.ensures c.ranges.k.fits (omega arith)

pub returns-in_err-unless : goal.returns-in_err-unless
unfolding season_value
returns-in_err-unless c =
    check-rejects _ (season_in c.args.snapshot.now c.args.k) (rw (c.season_at-end.ensures, c.is_scored-scored.ensures) at c.in_err-unless.ensures) c.from_residual.ensures.1

pub returns : goal.returns
unfolding season_value
returns c =
    let e = back w64 _ c.season_in.type_inv ∙ c.season_in.ensures in
    let d = c.args.snapshot.now in
    let p : unless (leb (season_at (scored_in d) c.args.k + season_length) (length d)) truncated ≡ 0 = check-passes _ (rw (c.season_at-end.ensures, c.is_scored-scored.ensures) at c.in_ok-unless.ensures) in
    rw (e, p, ← c.is_scored-scored.ensures)
