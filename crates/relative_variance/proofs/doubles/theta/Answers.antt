use Prim.Native.Nat.{suc, ◌-◌}
use mathlib.Core.Path.{◌≡◌, sym, ap, ap₂, ◌∙◌}
use native.Mathlib.Omega.{arith}
use lib.IntN.{pos}
use lib.ListN.{get_or}
use lib.Ieee.{Float, binary64, add, mul}
use mir.Syntax.{w64}
use mir.ValLaws.{to_z-of_z}
use Rattle.relative_errors.specs.Relative.{squared}
use Rattle.relative_errors.specs.Facts.{means_in, squares_in}
use Rattle.relative_errors.proofs.Recursion.{later}
use Rattle.relative_variance.proofs.doubles.theta.Goals as goal

pub returns : goal.returns
returns c =
    let s = c in
    let m = get_or s.args.mu.now s.args.i (pos 0) in
    let i : suc s.args.i - 1 ≡ s.args.i = omega arith in
    let square : c.square.result ≡ squared m = c.square.ensures ∙ ap squared (to_z-of_z w64 m (record { sfits = c.square-arg-1.given })) in
    ap₂ (λ (a b : Float). add binary64 a (mul binary64 s.args.sigma2 b)) square c.sum-s.ensures
    ∙ sym (later (means_in s.args.mu.now) (squares_in s.args.c2.now) s.args.sigma2 s.args.own.now s.args.i s.requires.0 ∙ rw i)
