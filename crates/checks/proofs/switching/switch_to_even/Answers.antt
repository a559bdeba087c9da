use mathlib.Core.Path.{sym, refl, ap, ◌∙◌}
use Rattle.std.specs.Prelude.{is_ok}
use Rattle.state.specs.States.{check}
use Rattle.state.proofs.Answers.{ok-given, not-ok-given, given, rejected}
use Rattle.state.proofs.Switches.{switch-accepted, switch-rejected}
use Rattle.checks.proofs.switching.switch_to_even.Goals as goal

pub returns-then-is_ok : goal.returns-then-is_ok
returns-then-is_ok c =
    let z = ok-given (check c.args.s) tt (sym (c.is_ok.ensures.value ∙ ap is_ok c.check-outcome.ensures) ∙ c.if-is_ok.true) in
    rw (c.to_even.ensures, c.check-outcome.ensures ∙ given tt z, switch-accepted c.args.s z)

pub returns-else-is_ok : goal.returns-else-is_ok
returns-else-is_ok c =
    let h = not-ok-given (check c.args.s) tt (sym (c.is_ok.ensures.value ∙ ap is_ok c.check-outcome.ensures) ∙ c.if-is_ok.false) in
    rw (c.check-outcome.ensures ∙ rejected tt h, switch-rejected c.args.s (check c.args.s) refl h)
