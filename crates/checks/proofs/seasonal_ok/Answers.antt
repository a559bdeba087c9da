-- The loop's invariant: the cells passed are what `all_below` says of them.
use mathlib.Core.Path.{◌≡◌}
use native.Mathlib.Omega.{arith}
use lib.ListN.{get_or}
use lib.IntN.{pos}
use mir.Syntax.{w64}
use mir.Facts.{to_z-of_z}
use borrow.Author.Rules.{rules}
use Rattle.integers.specs.Below.{all_below}
use Rattle.integers.proofs.Tests.{all_below-step}
use Rattle.checks.proofs.seasonal_ok.Goals as goal

pub loop-k-init : goal.loop-k-init
unfolding all_below
loop-k-init c = search rules

pub loop-k-preserved : goal.loop-k-preserved
loop-k-preserved c =
    let h = c in (
      search rules,
      rw (all_below-step, h.loop-k.invariant.1, c.cell_ok-good.ensures, to_z-of_z {w = w64} {z = get_or h.args.cells.now h.loop-k.k (pos 0)} (record { sfits = c.cell_ok-arg-1.given })),
    )

pub returns : goal.returns
returns c =
    let e : c.loop-k.k ≡ 48 = omega arith in
    rw e at c.loop-k.invariant.1
