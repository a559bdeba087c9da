-- `commands::perform` meets its contract.
use borrow.Author.Rules.{rules}
use Rattle.decoding.specs.declared.Decoded.{Decoded}
use Rattle.decoding.specs.declared.Command.TheVariants as CommandOf
use Rattle.decoding.proofs.DecodingLaws.{inside}
use Rattle.commands.proofs.CommandLaws.{performed, Done, done, performs-it}
use mir.Val.{SFits}
use mir.ValLaws.{to_z-of_z}
use mir.Syntax.{w32}
use lib.ListN.{length}
use mathlib.Core.Path.{◌≡◌, sym, ap, ◌∙◌}
use Rattle.commands.proofs.perform.Goals as goal
use Rattle.commands.proofs.perform.Goals.{in-Reading, in-Missing, in-Forecast, in-Variance, in-Save, in-Rejected, in-SwitchToEven, in-RelativeVariance, in-Store, in-Restore}

pub returns-in-End : goal.returns-in-End
returns-in-End c =
    let r = performed _ _ _ _ c.decode-found.ensures c.in-End.is c.args.checkpoints.now c.args.buffer.now c.finish.ensures in
    record { answer = r.0; kept = r.1.0; bytes = r.1.1 }

pub open-requires : goal.open-requires
open-requires c = inside _ _ _ _ (ap (λ (d : Decoded). d.command) (sym c.decode-found.ensures) ∙ c.in-Open.is)

pub returns-in-Open : goal.returns-in-Open
returns-in-Open c =
    let r = performed _ _ _ _ c.decode-found.ensures c.in-Open.is c.args.checkpoints.now c.args.buffer.now c.open.ensures in
    record { answer = r.0; kept = r.1.0; bytes = r.1.1 }

pub returns : goal.returns
returns c =
    let a = c.args in
    let m = c.match-command in
    let n : (length m.checkpoints ≡ length a.checkpoints.now) × (length m.buffer ≡ length a.buffer.now) = (m.auto.checkpoints, m.auto.buffer) in
    let k = done a.stream.now a.session a.checkpoints.now a.buffer.now c.decode-found.result {a = m.action} {kept = m.checkpoints} {saved = m.buffer} in
    let acted : Done a.stream.now a.session a.checkpoints.now a.buffer.now c.decode-found.result m.action m.checkpoints m.buffer =
    elim m.branch [
      | in-Reading w ↦
          let f : SFits w32 w.in-Reading.y = search rules in
          k (CommandOf.Reading _) w.in-Reading.is (w.action-is ∙ rw (to_z-of_z w32 w.in-Reading.y f) at w.take_reading-action.ensures) w.checkpoints-is w.buffer-is n
      | in-Missing w ↦ k CommandOf.Missing w.in-Missing.is (w.action-is ∙ w.take_missing-action.ensures) w.checkpoints-is w.buffer-is n
      | in-Forecast w ↦ k (CommandOf.Forecast _) w.in-Forecast.is (w.action-is ∙ w.give_forecast-action.ensures) w.checkpoints-is w.buffer-is n
      | in-Variance w ↦ k (CommandOf.Variance _ _) w.in-Variance.is (w.action-is ∙ w.give_variance-action.ensures) w.checkpoints-is w.buffer-is n
      | in-Save w ↦ k CommandOf.Save w.in-Save.is (w.action-is ∙ w.save_state-action.ensures.answer) w.checkpoints-is (w.buffer-is ∙ w.save_state-action.ensures.bytes) n
      | in-Rejected w ↦ k (CommandOf.Rejected _) w.in-Rejected.is (w.action-is ∙ w.reject-action.ensures) w.checkpoints-is w.buffer-is n
      | in-SwitchToEven w ↦ k CommandOf.SwitchToEven w.in-SwitchToEven.is (w.action-is ∙ w.switch_state-action.ensures) w.checkpoints-is w.buffer-is n
      | in-RelativeVariance w ↦ k (CommandOf.RelativeVariance _ _) w.in-RelativeVariance.is (w.action-is ∙ w.give_relative_variance-action.ensures) w.checkpoints-is w.buffer-is n
      | in-Store w ↦ k (CommandOf.Store _) w.in-Store.is (w.action-is ∙ w.store_state-action.ensures.answer) (w.checkpoints-is ∙ w.store_state-action.ensures.kept) w.buffer-is n
      | in-Restore w ↦ k (CommandOf.Restore _) w.in-Restore.is (w.action-is ∙ w.restore_state-action.ensures) w.checkpoints-is w.buffer-is n
    ] in
    let r = performs-it _ _ _ _ _ c.decode-found.ensures acted c.settle.ensures in
    record { answer = r.0; kept = r.1.0; bytes = r.1.1 }
