-- `decoding::decode` meets its contract.
use Rattle.state.proofs.Answers.{given-accepted, given-rejected}
use Rattle.decoding.proofs.DecodingLaws.{decode-end, decode-whole, decode-rejected, whole-command}
use mathlib.Core.Path.{sym}
use borrow.Author.Rules.{rules}
use native.Mathlib.Omega.{arith}
use Rattle.decoding.proofs.decode.Goals as goal

pub returns-then-s-at : goal.returns-then-s-at
returns-then-s-at c = sym (decode-end _ _ _ _ c.if-s-at.true)

pub overflow_add-result : goal.overflow_add-result
overflow_add-result c =
    let g = given-accepted _ _ _ (sym c.in-Ok.ensures) in
    let w = whole-command _ _ _ _ g.0 in
    search (rules, w.most, g.1, arith)

pub returns-in-Ok : goal.returns-in-Ok
returns-in-Ok c =
    let g = given-accepted _ _ _ (sym c.in-Ok.ensures) in
    rw (← g.1, c.command_at.ensures) (sym (decode-whole _ _ _ _ c.if-s-at.false g.0))

pub returns-in-Err : goal.returns-in-Err
returns-in-Err c =
    let g = given-rejected _ _ _ (sym c.in-Err.ensures) in
    rw (← g.0) (sym (decode-rejected _ _ _ _ c.if-s-at.false g.1))
