-- `streams::write_next` meets its contract.
use Rattle.streams.proofs.StreamLaws.{written_is, bytes-are}
use Rattle.streams.specs.declared.Written.{Written}
use Rattle.commands.specs.declared.Performed.{Performed}
use lib.ListN.{length}
use mathlib.Core.Path.{ap, ◌∙◌}
use Rattle.streams.proofs.write_next.Goals as goal
use Rattle.std.specs.Prelude.{ℕ, Result}
use Rattle.state.specs.declared.Rejection.{Rejection}

abbrev written : Performed → Result ℕ Rejection → Written
written p l = record { performed = p; line = l }

pub returns : goal.returns
returns c =
    let a = c.args in
    let p = c.perform-performed in
    let w = c.write_line-written.ensures in
    let s = a.stream.now in
    let cs = a.checkpoints.now in
    let d = a.line.now in
    let saved = p.new.buffer in
    record {
      answer = ap (written p.result) w.answer ∙ written_is s a.session cs (length d) d p.result saved p.ensures.answer p.ensures.bytes;
      kept = p.ensures.kept;
      bytes = w.bytes ∙ bytes-are s a.session cs (length d) d p.result saved p.ensures.answer p.ensures.bytes;
    }
