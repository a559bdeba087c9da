use Rattle.std.proofs.Common.{◌≡◌, ◌∙◌, ap, List, pos, get_or, add-one, to_z, w64, arith, rules}
use mir.ValLaws.{to_z_pos}
use lib.ListN.{set, length-set}
use lib.Ieee.{Float}
use Rattle.relative_errors.specs.Relative.{squared}
use Rattle.relative_errors.specs.Facts.{square_list}
use Rattle.relative_errors.proofs.Recursion.{squares-more}
use Rattle.relative_variance.proofs.doubles.squares.Goals as goal

pub loop-i-init : goal.loop-i-init
unfolding square_list
loop-i-init c = search rules

pub loop-i-preserved : goal.loop-i-preserved
loop-i-preserved c =
    let n = get_or c.args.c.now c.loop-i.i 0 in
    let kept : to_z w64 n ≡ pos n = to_z_pos w64 n (omega (arith, c.requires.2 c.loop-i.i (omega arith))) in (
      simp length-set c.loop-i.invariant.0,
      rw (c.square.ensures, kept, add-one)
          (ap (λ (l : List Float). set l c.loop-i.i (squared (pos n))) c.loop-i.invariant.1 ∙ squares-more c.args.c.now c.args.squared.now c.loop-i.i (omega (arith, c.requires.1))),
    )
