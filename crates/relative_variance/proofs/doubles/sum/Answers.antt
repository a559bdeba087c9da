use Rattle.std.proofs.Common.{◌≡◌, suc, ◌-◌, ap, get_or, add-one, arith, rules}
use lib.Ieee.{Float, nan, binary64, add, mul}
use Rattle.relative_errors.specs.Relative.{sum_to}
use Rattle.relative_variance.proofs.doubles.sum.Goals as goal

pub loop-j-init : goal.loop-j-init
unfolding sum_to
loop-j-init c = search rules

pub loop-j-preserved : goal.loop-j-preserved
unfolding sum_to
loop-j-preserved c =
    let i = c.args.i in
    let j = c.loop-j.j in
    let p : suc j - 1 ≡ j = omega arith in
    let q : suc i - suc j - 1 ≡ i - 1 - j = omega arith in
    let x = mul binary64 (get_or c.args.c2.now j nan) (get_or c.args.own.now (i - 1 - j) nan) in
    rw (add-one, p, q) (ap (λ (s : Float). add binary64 s x) c.loop-j.invariant)
