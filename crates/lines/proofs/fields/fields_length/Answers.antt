-- `lines::fields::fields_length` meets its contract.
use native.Mathlib.Omega.{arith}
use Rattle.lines.proofs.LineLaws.{length_fields}
use Rattle.lines.proofs.fields.fields_length.Goals as goal

pub returns : goal.returns
returns c = omega (arith, length_fields c.args.saved.now c.args.f)
