use Prim.Native.Nat.{◌*◌, ◌≤◌}
use mathlib.Core.Path.{refl}
use native.Mathlib.Omega.{arith}
use borrow.Author.Tests.{ne_eqb}
use Rattle.weights.proofs.Terms.{product_le}
use borrow.Author.Rules.{rules}
use Rattle.weighting.proofs.sums.trend_term.Statement.{statement}
use Rattle.weighting.proofs.sums.trend_term.Tie as tie

straight : (c : tie.Start) → c.args.b * c.args.j ≤ 33554432
straight c = product_le 65536 512 c.requires.0 c.requires.1

returns : tie.Need-returns-then-trend-eq0
returns c = rw c.if-trend-eq0.true (omega arith)

mul-result : tie.Need-overflow_mul-result
mul-result c = omega (arith, straight c.before.before)

returns-2 : tie.Need-returns-then-trend-eq1
returns-2 c = rw (ne_eqb _ 0 c.before.if-trend-eq0.false, c.if-trend-eq1.true) (refl, straight c.before.before)

returns-3 : tie.Need-returns
returns-3 c = rw (ne_eqb _ 0 c.before.before.if-trend-eq0.false, ne_eqb _ 1 c.before.if-trend-eq1.false) (c.share.ensures.0, omega (arith, c.share.ensures.1))

pub trend_term_spec : {M : Type 1} → statement M
trend_term_spec =
    tie.close
    (tie.spec
    returns
    mul-result
    returns-2
    (λ c κs. search rules)
    returns-3)
