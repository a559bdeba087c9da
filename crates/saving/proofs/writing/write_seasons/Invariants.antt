-- After k turns the commands of k places are written.
use Rattle.std.proofs.Common.{◌≡◌, true}
use Rattle.std.proofs.lemmas.List.Edits.{sets}
use Rattle.layout.specs.Layout.{season_at}
use Rattle.saving.specs.Encoding.{seasons_bytes}
use Rattle.saving.proofs.writing.write_seasons.Given as goal

abbrev pub invariant-loop-k : goal.invariant-loop-k
invariant-loop-k l = l.d ≡ sets l.initial.d (season_at true 0) (seasons_bytes l.cells l.k)
