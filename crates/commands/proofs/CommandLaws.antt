-- Laws of one command: what it answers by what it makes of a state, and what a save needs.
use Prim.Native.Nat.{ℕ, ◌+◌, ◌≤◌}
use mathlib.Core.Path.{◌≡◌, refl, sym, ap, ◌∙◌}
use mathlib.Core.Bool.{Bool, true, false, cond}
use mathlib.Core.List.{List}
use native.Mathlib.Omega.{arith}
use borrow.Author.Tests.{leb-true, ne_eqb}
use lib.Dec.{eqb, leb}
use lib.IntN.{ℤ}
use lib.Ieee.{Float, binary64, to_bits}
use lib.ListN.{length, drop, length-drop}
use Rattle.state.specs.Rejections.{unless, rejection_of, short_buffer, by_outcome, by_answer, Outcome, Answer}
use Rattle.state.specs.States.{check}
use Rattle.state.specs.Switching.{switch_to_even}
use Rattle.state.specs.declared.State.{State}
use Rattle.state.proofs.Tests.{then-zero, unless-zero}
use Rattle.state.proofs.Passing.{bounded}
use Rattle.ets.specs.Steps.{step, missing}
use Rattle.forecasts.specs.Forecasts.{max_horizon, forecast}
use Rattle.weights.specs.Weights.{variance}
use Rattle.weights.specs.declared.Variance.{Variance}
use Rattle.relative_errors.specs.Relative.{relative_variance}
use Rattle.layout.specs.Layout.{size_of}
use Rattle.snapshot.specs.Snapshots.{open_code, read}
use Rattle.snapshot.proofs.OffsetLaws.{offsets}
use Rattle.saving.specs.Encoding.{encoded}
use Rattle.saving.specs.Saving.{save_code, save}
use Rattle.checkpoints.specs.Checkpoints.{store, restore}
use Rattle.saving.proofs.Lengths.{length-encoded}
use Rattle.replies.specs.declared.Reply.{Reply}
use Rattle.replies.specs.declared.Reply.TheVariants as ReplyOf
use Rattle.actions.specs.declared.Action.{Action}
use Rattle.actions.specs.declared.Opening.{Opening}
use Rattle.actions.specs.Actions.{by_variance, by_relative, opening}
use Rattle.actions.specs.Actions as ActionOf
use Rattle.decoding.specs.declared.Command.{Command}
use Rattle.decoding.specs.declared.Command.TheVariants as CommandOf
use Rattle.decoding.specs.declared.Decoded.{Decoded}
use Rattle.commands.specs.Commands.{accepted, rejected, settled, rest_offset, open_snapshot, take_reading, take_missing, switch_state, give_forecast, give_variance, give_relative_variance, save_state, store_state, restore_state, act, buffered, checkpointed, next_command, perform, perform_bytes, perform_checkpoints}
use Rattle.commands.specs.declared.Session.{Session}
use Rattle.commands.specs.declared.Performed.{Performed}
use Rattle.std.specs.Prelude.{Result, Ok, Err}
use Rattle.state.specs.declared.Rejection.{Rejection}

pub snapshot-most : (s : State) → check s ≡ 0 → length (encoded s) ≤ size_of 48
snapshot-most s e = omega (arith, length-encoded s, (bounded s e).period)

-- what is saved passes its checks and has its room
pub save-facts : (s : State) (room : ℕ) → save_code s room ≡ 0 → (check s ≡ 0) × (length (encoded s) ≤ room)
unfolding save_code
save-facts s room z =
    let fits = leb (size_of s.period) room in
    let q = then-zero (check s) (unless fits short_buffer) z in
    (q.0, rw (length-encoded s) (leb-true (size_of s.period) room (unless-zero fits 11 q.1)))

pub opened-rejected : (s : List ℕ) (x : Session) → (open_code (drop x.at s) ≡ 0 → ⊥)
    → open_snapshot s x ≡ rejected (rejection_of (open_code (drop x.at s))) (rest_offset s x.at) x
unfolding open_snapshot
opened-rejected s x h = rw (ne_eqb (open_code (drop x.at s)) 0 h)

-- ---- an action is settled to what its command answers
module _ (x : Session) (next offset : ℕ) (t : State) where
  by-outcome : (o : Outcome) (r : Reply) → settled x.at x.active next offset (by_outcome o (ActionOf.accepted r t) (ActionOf.rejected x.state)) ≡ by_outcome o (accepted r next t) (λ (r : Rejection). rejected r offset x)
  by-outcome (Ok u) r = refl
  by-outcome (Err c) r = refl

  by_answer-is : (o : Answer) (r : ℤ → Reply) → settled x.at x.active next offset (by_answer o (λ v. ActionOf.accepted (r v) t) (ActionOf.rejected x.state)) ≡ by_answer o (λ v. accepted (r v) next t) (λ (r : Rejection). rejected r offset x)
  by_answer-is (Ok v) r = refl
  by_answer-is (Err c) r = refl

  by-variance : (o : Result Variance Rejection) (r : ℕ → ℕ → Reply) → settled x.at x.active next offset (by_variance o (λ a b. ActionOf.accepted (r a b) t) (ActionOf.rejected x.state)) ≡ by_variance o (λ a b. accepted (r a b) next t) (λ (r : Rejection). rejected r offset x)
  by-variance (Ok v) r = refl
  by-variance (Err c) r = refl

  by-relative : (o : Result Float Rejection) (r : Float → Reply) → settled x.at x.active next offset (by_relative o (λ v. ActionOf.accepted (r v) t) (ActionOf.rejected x.state)) ≡ by_relative o (λ v. accepted (r v) next t) (λ (r : Rejection). rejected r offset x)
  by-relative (Ok v) r = refl
  by-relative (Err c) r = refl

  by-test : (b : Bool) (r : Reply) (c : Rejection) → settled x.at x.active next offset (cond b (ActionOf.accepted r t) (ActionOf.rejected x.state c)) ≡ cond b (accepted r next t) (rejected c offset x)
  by-test true r c = refl
  by-test false r c = refl

-- a group at the session's offset: the rest of the stream begins within its bytes
pub opened : (s : List ℕ) (x : Session) (o : Opening) → x.at ≤ length s → o ≡ opening x.state (drop x.at s)
    → (x.at + o.size ≤ length s) × (settled x.at x.active (x.at + o.size) (x.at + o.size) o.action ≡ open_snapshot s x)
unfolding open_snapshot
opened s x o h e =
    let u = drop x.at s in
    let n = ap (λ (p : Opening). p.size) e in
    (omega (arith, (offsets u).within, length-drop x.at s), rw e (by-test x (rest_offset s x.at) (rest_offset s x.at) (read u).state (eqb (open_code u) 0) _ _))

-- what a command makes of a session's state, where it neither opens a group nor ends the stream
module _ (x : Session) (cs : List ℕ) (room : ℕ) (a : Action) where
  abbrev pub Made : Command → Type 0
  Made CommandOf.End = ⊥
  Made CommandOf.Open = ⊥
  Made (CommandOf.Reading y) = a ≡ ActionOf.take_reading x.state y ActionOf.accepted (ActionOf.rejected x.state)
  Made CommandOf.Missing = a ≡ ActionOf.take_missing x.state ActionOf.accepted (ActionOf.rejected x.state)
  Made (CommandOf.Forecast h) = a ≡ ActionOf.give_forecast x.state h ActionOf.accepted (ActionOf.rejected x.state)
  Made (CommandOf.Variance h sigma2) = a ≡ ActionOf.give_variance x.state h sigma2 ActionOf.accepted (ActionOf.rejected x.state)
  Made CommandOf.Save = a ≡ ActionOf.save_state x.state room ActionOf.accepted (ActionOf.rejected x.state)
  Made (CommandOf.Rejected r) = a ≡ ActionOf.rejected x.state r
  Made CommandOf.SwitchToEven = a ≡ ActionOf.switch_state x.state ActionOf.accepted (ActionOf.rejected x.state)
  Made (CommandOf.RelativeVariance h sigma2) = a ≡ ActionOf.give_relative_variance x.state h sigma2 ActionOf.accepted (ActionOf.rejected x.state)
  Made (CommandOf.Store slot) = a ≡ ActionOf.store_state x.state slot (length cs) ActionOf.accepted (ActionOf.rejected x.state)
  Made (CommandOf.Restore slot) = a ≡ ActionOf.restore_state slot cs ActionOf.accepted (ActionOf.rejected x.state)

  settles : (s : List ℕ) (next : ℕ) (k : Command) → Made k → settled x.at x.active next x.at a ≡ act s x cs room next k
  unfolding take_reading take_missing switch_state give_forecast give_variance give_relative_variance save_state store_state restore_state
  settles s next CommandOf.End e = absurd e
  settles s next CommandOf.Open e = absurd e
  settles s next (CommandOf.Reading y) e = rw e (by_answer-is x next x.at (step x.state y).state (step x.state y).residual (λ v. ReplyOf.Residual v))
  settles s next CommandOf.Missing e = rw e (by-outcome x next x.at (missing x.state).state (missing x.state).outcome ReplyOf.Missing)
  settles s next (CommandOf.Forecast h) e = rw e (by_answer-is x next x.at x.state (forecast x.state h) (λ v. ReplyOf.Forecast h v))
  settles s next (CommandOf.Variance h sigma2) e = rw e (by-variance x next x.at x.state (variance x.state h sigma2) (λ m n. ReplyOf.Variance h m n))
  settles s next CommandOf.Save e = rw e (by-outcome x next x.at x.state (save x.state room) (ReplyOf.Saved (length (encoded x.state))))
  settles s next (CommandOf.Rejected r) e = rw e
  settles s next CommandOf.SwitchToEven e = rw e (by-outcome x next x.at (switch_to_even x.state).state (switch_to_even x.state).outcome ReplyOf.Silent)
  settles s next (CommandOf.RelativeVariance h sigma2) e = rw e (by-relative x next x.at x.state (relative_variance x.state h sigma2 max_horizon) (λ v. ReplyOf.RelativeVariance h (to_bits binary64 v)))
  settles s next (CommandOf.Store slot) e = rw e (by-outcome x next x.at x.state (store x.state slot (length cs)) ReplyOf.Silent)
  settles s next (CommandOf.Restore slot) e = rw e (by-outcome x next x.at (restore slot cs).state (restore slot cs).outcome ReplyOf.Silent)

-- ---- the command that was decoded is performed
module _ (s : List ℕ) (x : Session) (d : Decoded) (k : Command) (q : d ≡ next_command s x) (e : d.command ≡ k) where
  pub performs : (cs : List ℕ) (room : ℕ) → perform s x cs room ≡ act s x cs room d.next k
  unfolding perform
  performs cs room = rw (← q, e)

  leaves : (buffer : List ℕ) → perform_bytes s x buffer ≡ buffered x buffer k
  unfolding perform_bytes
  leaves buffer = rw (← q, e)

  pub keeps : (cs : List ℕ) → perform_checkpoints s x cs ≡ checkpointed x cs k
  unfolding perform_checkpoints
  keeps cs = rw (← q, e)

  pub performed : (cs buffer : List ℕ) {p : Performed} → p ≡ act s x cs (length buffer) d.next k
      → (p ≡ perform s x cs (length buffer)) × ((checkpointed x cs k ≡ perform_checkpoints s x cs) × (buffered x buffer k ≡ perform_bytes s x buffer))
  performed cs buffer r = (r ∙ sym (performs cs (length buffer)), (sym (keeps cs), sym (leaves buffer)))

-- ---- an action was made of the state by the command that was decoded, and what the lent slices then hold
pub record Done (s : List ℕ) (x : Session) (cs buffer : List ℕ) (d : Decoded) (a : Action) (kept saved : List ℕ) : Type 0 where
  pub answer : settled x.at x.active d.next x.at a ≡ act s x cs (length buffer) d.next d.command
  pub checkpoints : kept ≡ checkpointed x cs d.command
  pub bytes : saved ≡ buffered x buffer d.command
  pub as_many : (length kept ≡ length cs) × (length saved ≡ length buffer)

module _ (s : List ℕ) (x : Session) (cs buffer : List ℕ) (d : Decoded) {a : Action} {kept saved : List ℕ} where
  pub done : (k : Command) → d.command ≡ k → Made x cs (length buffer) a k → kept ≡ checkpointed x cs k → saved ≡ buffered x buffer k
      → (length kept ≡ length cs) × (length saved ≡ length buffer) → Done s x cs buffer d a kept saved
  done k e m f g h = record { answer = rw e (settles x cs (length buffer) a s d.next k m); checkpoints = rw e f; bytes = rw e g; as_many = h }

  pub performs-it : {p : Performed} → d ≡ next_command s x → Done s x cs buffer d a kept saved → p ≡ settled x.at x.active d.next x.at a
      → (p ≡ perform s x cs (length buffer)) × ((kept ≡ perform_checkpoints s x cs) × (saved ≡ perform_bytes s x buffer))
  performs-it q k e =
      let r = performed s x d d.command q refl cs buffer (e ∙ k.answer) in
      (r.0, (k.checkpoints ∙ r.1.0, k.bytes ∙ r.1.1))
