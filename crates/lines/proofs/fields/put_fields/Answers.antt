-- The letter, each number where the one before it ends, and the end of the line.
use Rattle.std.proofs.Common.{arith}
use Rattle.lines.proofs.LineLaws.{length_fields}
use Rattle.lines.proofs.DigitLaws.{put_then}
use Rattle.lines.specs.Lines.{fields_bytes}
use Rattle.lines.proofs.fields.put_fields.Goals as goal

pub put_byte-at-requires : goal.put_byte-at-requires
put_byte-at-requires c = omega (arith, length_fields c.args.saved.now c.args.f)

pub put_field-at-requires : goal.put_field-at-requires
put_field-at-requires c = omega (arith, length_fields c.args.saved.now c.args.f)

pub put_field-at-requires-2 : goal.put_field-at-requires-2
put_field-at-requires-2 c = omega (arith, length_fields c.args.saved.now c.args.f)

pub put_field-at-requires-3 : goal.put_field-at-requires-3
put_field-at-requires-3 c = omega (arith, length_fields c.args.saved.now c.args.f)

pub put_byte-requires : goal.put_byte-requires
put_byte-requires c = omega (arith, length_fields c.args.saved.now c.args.f)

pub returns : goal.returns
unfolding fields_bytes
returns c =
    (put_then c.put_byte-at.ensures (put_then c.put_field-at.ensures (put_then c.put_field-at-2.ensures (put_then c.put_field-at-3.ensures c.put_byte.ensures)))).stored
