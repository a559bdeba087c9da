-- The digits that are left, in front of those written, give what all of them give at entry.
use Rattle.std.proofs.Common.{◌≡◌}
use Rattle.std.proofs.lemmas.List.Edits.{sets}
use Rattle.lines.specs.Lines.{digits}
use Rattle.lines.proofs.digits.put_digits.Given as goal

abbrev pub invariant-loop-i : goal.invariant-loop-i
invariant-loop-i l = sets l.d l.at (digits l.i l.rest) ≡ sets l.initial.d l.at (digits l.k l.n)
