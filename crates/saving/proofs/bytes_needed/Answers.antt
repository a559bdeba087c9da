-- `saving::bytes_needed` meets its contract.
use Rattle.state.proofs.Answers.{check-rejects, check-passes}
use Rattle.layout.specs.Layout.{size_of}
use Rattle.saving.specs.Saving.{bytes_needed}
use Rattle.saving.proofs.bytes_needed.Goals as goal

pub returns-in_err-check : goal.returns-in_err-check
unfolding bytes_needed
returns-in_err-check c = check-rejects _ (size_of c.args.s.period) c.in_err-check.ensures c.from_residual.ensures.1

pub returns : goal.returns
unfolding bytes_needed
returns c = rw (c.size_of.ensures, check-passes _ c.in_ok-check.ensures)
