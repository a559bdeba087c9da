use Rattle.std.proofs.Common.{rules, tests}
use Rattle.saving.specs.Encoding.{model_bytes}
use Rattle.saving.proofs.writing.write_model.Goals as goal

pub returns : goal.returns
unfolding model_bytes
returns c = search (tests, rules)
