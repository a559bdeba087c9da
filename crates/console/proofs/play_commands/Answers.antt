-- The command that was answered, and whether it was the last.
use Rattle.std.proofs.Common.{◌≡◌, refl, sym, ap, ◌∙◌, arith}
use Rattle.checkpoints.specs.Checkpoints.{no_checkpoints}
use Rattle.commands.specs.declared.Session.{Session}
use Rattle.commands.specs.declared.Performed.{Performed}
use Rattle.replies.specs.Replies.{is_last}
use Rattle.streams.proofs.SessionLaws.{kept-length}
use Rattle.streams.proofs.StreamLaws.{next-goes, last-here, last-later, written_next}
use Rattle.streams.specs.Stream.{next, answers_from, last_reply}
use Rattle.streams.specs.declared.Written.{Written}
use Rattle.console.proofs.play_commands.Goals as goal
use Rattle.console.proofs.play_commands.Goals.{After-is_last}

-- what was performed is the next command's
performs : (c : After-is_last) → c.write_next-found.result.performed ≡ next c.args.s.now c.loop-x.x c.loop-x.checkpoints
performs c = ap (λ (a : Written). a.performed) c.write_next-found.ensures.answer ∙ written_next _ _ _ _

told : (c : After-is_last) → c.is_last.result ≡ is_last (next c.args.s.now c.loop-x.x c.loop-x.checkpoints).reply
told c = c.is_last.ensures ∙ ap (λ (p : Performed). is_last p.reply) (performs c)

pub loop-x-init : goal.loop-x-init
loop-x-init c = (ap (λ (x : Session). last_reply (answers_from c.args.s.now x no_checkpoints)) c.start-x.ensures, refl)

pub returns-then-is_last : goal.returns-then-is_last
returns-then-is_last c =
    let k = (goal.at.returns-then-is_last c).After-is_last in
    ap (λ (p : Performed). p.reply) (performs k) ∙ sym (last-here _ _ _ (sym (told k) ∙ c.if-is_last.true)) ∙ c.loop-x.invariant.0

pub loop-x-smaller : goal.loop-x-smaller
loop-x-smaller c =
    let k = (goal.at.loop-x-smaller c).After-is_last in
    let m = (next-goes _ _ _).moves (sym (told k) ∙ c.if-is_last.false) in
    rw (performs k) (omega arith)

pub loop-x-preserved : goal.loop-x-preserved
loop-x-preserved c =
    let k = (goal.at.loop-x-preserved c).After-is_last in
    let w = c.write_next-found.ensures in (
      rw (performs k, w.kept) (sym (last-later _ _ _ (sym (told k) ∙ c.if-is_last.false)) ∙ c.loop-x.invariant.0),
      rw w.kept (kept-length _ _ c.loop-x.checkpoints ∙ c.loop-x.invariant.1),
    )
