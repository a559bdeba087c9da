-- `lines::fields::number_length` meets its contract.
use borrow.Author.Rules.{rules}
use Rattle.lines.proofs.DigitLaws.{length-decimal, length-hexadecimal, signed-negative, signed-nonnegative}
use Rattle.lines.specs.Lines.{digit_count}
use mir.ValLaws.{to_z-of_z}
use mir.Syntax.{w64}
use lib.ListN.{length}
use lib.IntN.{nat_abs}
use native.Mathlib.Omega.{arith}
use mathlib.Core.Path.{◌≡◌, ap, ◌∙◌}
use Rattle.lines.proofs.fields.number_length.Goals as goal

pub returns-in-Unsigned : goal.returns-in-Unsigned
returns-in-Unsigned c =
    (rw (c.in-Unsigned.is, length-decimal c.in-Unsigned.n) (omega arith), omega arith)

pub returns-then-z-lt0 : goal.returns-then-z-lt0
returns-then-z-lt0 c =
    let e = to_z-of_z w64 c.in-Signed.z (search rules) in
    let k : c.digit_count-k.result ≡ digit_count 19 (nat_abs c.in-Signed.z) =
    c.digit_count-k.ensures.0 ∙ ap (digit_count 19) (c.magnitude.ensures ∙ ap nat_abs e) in
    (rw (c.in-Signed.is, signed-negative c.in-Signed.z (rw e at c.if-z-lt0.true), length-decimal) (omega arith), omega arith)

pub returns-else-z-lt0 : goal.returns-else-z-lt0
returns-else-z-lt0 c =
    let e = to_z-of_z w64 c.in-Signed.z (search rules) in
    let k : c.digit_count-k.result ≡ digit_count 19 (nat_abs c.in-Signed.z) =
    c.digit_count-k.ensures.0 ∙ ap (digit_count 19) (c.magnitude.ensures ∙ ap nat_abs e) in
    (rw (c.in-Signed.is, signed-nonnegative c.in-Signed.z (rw e at c.if-z-lt0.false), length-decimal) (omega arith), omega arith)

pub returns-in-Hexadecimal : goal.returns-in-Hexadecimal
returns-in-Hexadecimal c =
    let f = c.front-shown.ensures in
    (rw (c.in-Hexadecimal.is, length-hexadecimal) (omega (arith, ap length f.0)), omega arith)
