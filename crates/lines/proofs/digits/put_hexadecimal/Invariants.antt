-- The bytes that are left, behind those written, give what all of them give at entry.
use Rattle.std.proofs.Common.{◌≡◌, ◌+◌, ◌*◌, drop}
use Rattle.std.proofs.lemmas.List.Edits.{sets}
use Rattle.lines.specs.Lines.{hexadecimal}
use Rattle.lines.proofs.digits.put_hexadecimal.Given as goal

abbrev pub invariant-loop-i : goal.invariant-loop-i
invariant-loop-i l = sets l.d (l.at + 2 * l.i) (hexadecimal (drop l.i l.s)) ≡ sets l.initial.d l.at (hexadecimal l.s)
