-- `lines::digits::put_decimal` meets its contract.
use native.Mathlib.Omega.{arith}
use Rattle.lines.specs.Lines.{decimal}
use Rattle.lines.proofs.DigitLaws.{length-decimal}
use Rattle.lines.proofs.digits.put_decimal.Goals as goal

pub put_digits-requires : goal.put_digits-requires
put_digits-requires c = omega (arith, length-decimal c.args.n)

pub returns : goal.returns
unfolding decimal
returns c =
    record {
      past = omega (arith, length-decimal c.args.n);
      stored = rw (← c.digit_count-k.ensures.0) c.put_digits.ensures;
    }
