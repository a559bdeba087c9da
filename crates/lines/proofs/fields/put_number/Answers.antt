use Rattle.std.proofs.Common.{arith, ap, length, take}
use Rattle.replies.specs.declared.Number.{Number}
use Rattle.lines.specs.Lines.{number_bytes}
use Rattle.lines.proofs.DigitLaws.{length-hexadecimal}
use Rattle.lines.proofs.fields.put_number.Goals as goal

pub put_hexadecimal-requires : goal.put_hexadecimal-requires
put_hexadecimal-requires c =
    let f = c.front.ensures.0 in
    omega (arith, ap (λ (x : Number). length (number_bytes c.args.saved.now x)) c.in-Hexadecimal.is, ap length f, length-hexadecimal (take c.in-Hexadecimal.n c.args.saved.now))
