use Rattle.std.proofs.Common.{rules, tests}
use Rattle.saving.specs.Encoding.{season_bytes}
use Rattle.saving.proofs.writing.write_season.Goals as goal

pub returns : goal.returns
unfolding season_bytes
returns c = search (tests, rules)
