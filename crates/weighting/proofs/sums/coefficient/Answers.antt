use native.Mathlib.Omega.{arith}
use Rattle.state.proofs.Passing.{bounded, valid}
use Rattle.weights.proofs.Terms.{coefficient-is}
use Rattle.weighting.proofs.sums.coefficient.Goals as goal

pub trend_term-requires : goal.trend_term-requires
trend_term-requires c =
    ((bounded c.args.r.state.now c.args.r.passes).beta, c.requires.most, omega (arith, c.requires.small, c.requires.most))

pub overflow_add-result : goal.overflow_add-result
overflow_add-result c = omega (arith, (bounded c.args.r.state.now c.args.r.passes).alpha, c.trend_term.ensures.1)

pub overflow_add-result-2 : goal.overflow_add-result-2
overflow_add-result-2 c =
    let b = bounded c.args.r.state.now c.args.r.passes in
    omega (arith, b.alpha, b.gamma, c.trend_term.ensures.1, c.season_term.ensures.1)

pub returns : goal.returns
returns c =
    let s = c.args.r.state.now in
    let b = bounded s c.args.r.passes in
    record {
      value = coefficient-is s (valid s c.args.r.passes) c.requires c.trend_term.ensures.0 c.season_term.ensures.0;
      bound = omega (arith, b.alpha, b.gamma, c.trend_term.ensures.1, c.season_term.ensures.1);
    }
