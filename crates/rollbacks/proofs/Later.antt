-- A command is answered by the bytes from its offset on: where they are the same n bytes later, so is every answer, its offset aside.
use Prim.Native.Nat.{ℕ, zero, suc, ◌+◌, ◌-◌, ◌≤◌}
use mathlib.Core.Path.{◌≡◌, refl, sym, ap, ◌∙◌}
use mathlib.Core.Bool.{Bool, true, false, cond}
use mathlib.Core.List.{List, [], ◌∷◌}
use native.Mathlib.Decide.{dec_le}
use native.Mathlib.Nat.{add-zero, zero-add}
use native.Mathlib.Omega.{arith}
use borrow.Author.Tests.{le-leb, lt-leb}
use lib.Dec.{eqb, leb}
use lib.IntN.{ℤ}
use lib.ListN.{length, length-drop, drop, get_or}
use lib.Ieee.{Float, binary64, to_bits}
use lib.Seq.{get_or-drop, drop-drop}
use Rattle.state.specs.Rejections.{by_outcome, by_answer, rejection_of, Outcome, Answer}
use Rattle.state.specs.Switching.{switch_to_even}
use Rattle.state.specs.declared.State.{State}
use Rattle.ets.specs.Steps.{step, missing}
use Rattle.forecasts.specs.Forecasts.{max_horizon, forecast}
use Rattle.weights.specs.Weights.{variance}
use Rattle.relative_errors.specs.Relative.{relative_variance}
use Rattle.weights.specs.declared.Variance.{Variance}
use Rattle.layout.specs.CommandTable.{command_size}
use Rattle.snapshot.specs.Snapshots.{open_code, open_offset, read}
use Rattle.saving.specs.Encoding.{encoded}
use Rattle.saving.specs.Saving.{save}
use Rattle.checkpoints.specs.Checkpoints.{store, restore}
use Rattle.decoding.specs.Decoding.{command_code, operands, decode}
use Rattle.decoding.specs.declared.Command.{Command}
use Rattle.decoding.specs.declared.Command.TheVariants as CommandOf
use Rattle.decoding.specs.declared.Decoded.{Decoded}
use Rattle.replies.specs.declared.Reply.{Reply}
use Rattle.replies.specs.declared.Reply.TheVariants as ReplyOf
use Rattle.lines.specs.Lines.{line_of}
use Rattle.replies.specs.Replies.{is_last}
use Rattle.actions.specs.Actions.{by_variance, by_relative}
use Rattle.commands.specs.Commands.{accepted, rejected, finish, open_snapshot, take_reading, take_missing, switch_state, give_forecast, give_variance, give_relative_variance, save_state, store_state, restore_state, act, checkpointed, next_command, perform, perform_checkpoints}
use Rattle.streams.specs.Stream.{snapshot_room, next, answers_in, answers_from, line_after}
use Rattle.commands.specs.declared.Session.{Session}
use Rattle.commands.specs.declared.Performed.{Performed}
use Rattle.streams.proofs.StreamLaws.{next-goes}
use Rattle.rollbacks.specs.Rollbacks.{later_reply, later_session, later, all_later}
use Rattle.std.specs.Prelude.{Result, Ok, Err}
use Rattle.state.specs.declared.Rejection.{Rejection}

-- ---- the command at an offset, by the bytes from there on
abbrev moved : ℕ → Decoded → Decoded
moved n d = record { command = d.command; next = n + d.next }

module _ (s : List ℕ) (at : ℕ) where
  byte_at : get_or (drop at s) 0 0 ≡ get_or s at 0
  byte_at = get_or-drop at s 0 0 ∙ ap (λ (k : ℕ). get_or s k 0) (add-zero at)

  left_at : length (drop at s) - 0 ≡ length s - at
  left_at = omega (arith, length-drop at s)

  ended_at : leb (length (drop at s)) 0 ≡ leb (length s) at
  ended_at = go (dec_le (length s) at)
    where
      go : Dec (length s ≤ at) → leb (length (drop at s)) 0 ≡ leb (length s) at
      go (yes h) = rw (le-leb (length s) at h, le-leb (length (drop at s)) 0 (omega (arith, length-drop at s)))
      go (no h) = rw (lt-leb (length s) at (omega arith), lt-leb (length (drop at s)) 0 (omega (arith, length-drop at s)))

  operands-at : operands (drop at s) 0 ≡ operands s at
  unfolding operands
  operands-at = rw (byte_at, get_or-drop at s 1 0, drop-drop 1 at s, drop-drop 3 at s)

  code_at : (active : Bool) (model : ℕ) → command_code (drop at s) 0 active model ≡ command_code s at active model
  unfolding command_code
  code_at active model = rw (byte_at, left_at)

  module _ (active : Bool) (model : ℕ) where
    abbrev found : ℕ → Bool → Bool → Decoded
    found k a b =
        cond a (record { command = CommandOf.End; next = k }) (cond b (record { command = operands s at; next = k + command_size (get_or s at 0) }) (record { command = CommandOf.Rejected (rejection_of (command_code s at active model)); next = k }))

    found_at : (a b : Bool) → found at a b ≡ moved at (found 0 a b)
    found_at true b = ap (λ (k : ℕ). record { command = CommandOf.End; next = k }) (sym (add-zero at))
    found_at false true = ap (λ (k : ℕ). record { command = operands s at; next = at + k }) (sym (zero-add (command_size (get_or s at 0))))
    found_at false false = ap (λ (k : ℕ). record { command = CommandOf.Rejected (rejection_of (command_code s at active model)); next = k }) (sym (add-zero at))

    pub decode-at : decode s at active model ≡ moved at (decode (drop at s) 0 active model)
    unfolding decode
    decode-at =
        rw (ended_at, code_at active model, operands-at, byte_at) (found_at (leb (length s) at) (eqb (command_code s at active model) 0))

-- ---- what a command answers, n bytes later
module _ (n : ℕ) where
  module _ (to : ℕ) (t : State) (x : Session) where
    outcome-later : (o : Outcome) (r : Reply) → later_reply n r ≡ r → by_outcome o (accepted r (n + to) t) (λ c. rejected c (n + x.at) (later_session n x)) ≡ later n (by_outcome o (accepted r to t) (λ c. rejected c x.at x))
    outcome-later (Ok u) r e = rw e
    outcome-later (Err c) r e = refl

    answer-later : (o : Answer) (r : ℤ → Reply) → ((v : ℤ) → later_reply n (r v) ≡ r v) → by_answer o (λ v. accepted (r v) (n + to) t) (λ c. rejected c (n + x.at) (later_session n x)) ≡ later n (by_answer o (λ v. accepted (r v) to t) (λ c. rejected c x.at x))
    answer-later (Ok v) r e = rw (e v)
    answer-later (Err c) r e = refl

    variance-later : (o : Result Variance Rejection) (r : ℕ → ℕ → Reply) → ((h l : ℕ) → later_reply n (r h l) ≡ r h l) → by_variance o (λ h l. accepted (r h l) (n + to) t) (λ c. rejected c (n + x.at) (later_session n x)) ≡ later n (by_variance o (λ h l. accepted (r h l) to t) (λ c. rejected c x.at x))
    variance-later (Ok v) r e = rw (e v.high v.low)
    variance-later (Err c) r e = refl

    relative-later : (o : Result Float Rejection) (r : Float → Reply) → ((v : Float) → later_reply n (r v) ≡ r v) → by_relative o (λ v. accepted (r v) (n + to) t) (λ c. rejected c (n + x.at) (later_session n x)) ≡ later n (by_relative o (λ v. accepted (r v) to t) (λ c. rejected c x.at x))
    relative-later (Ok v) r e = rw (e v)
    relative-later (Err c) r e = refl

  last-later : (r : Reply) → is_last (later_reply n r) ≡ is_last r
  last-later (ReplyOf.Opened model m) = refl
  last-later (ReplyOf.Residual e) = refl
  last-later ReplyOf.Missing = refl
  last-later (ReplyOf.Forecast h v) = refl
  last-later (ReplyOf.Variance h high low) = refl
  last-later (ReplyOf.Saved k) = refl
  last-later (ReplyOf.Rejected r offset) = refl
  last-later (ReplyOf.Ended count) = refl
  last-later ReplyOf.Silent = refl
  last-later (ReplyOf.RelativeVariance h bits) = refl

  -- two streams whose bytes are the same from the session's offset on
  module _ (s t : List ℕ) (x : Session) (cs : List ℕ) (room : ℕ) (tails : drop (n + x.at) s ≡ drop x.at t) where
    abbrev X : Session
    X = later_session n x

    open-later : open_snapshot s X ≡ later n (open_snapshot t x)
    unfolding open_snapshot
    open-later = rw tails (go (eqb (open_code (drop x.at t)) 0))
      where
        u : List ℕ
        u = drop x.at t

        e : n + x.at + open_offset u ≡ n + (x.at + open_offset u)
        e = omega arith

        go : (b : Bool) → cond b (accepted (ReplyOf.Opened (read u).state.model (read u).state.period) (n + x.at + open_offset u) (read u).state) (rejected (rejection_of (open_code u)) (n + x.at + open_offset u) X)
            ≡ later n (cond b (accepted (ReplyOf.Opened (read u).state.model (read u).state.period) (x.at + open_offset u) (read u).state) (rejected (rejection_of (open_code u)) (x.at + open_offset u) x))
        go true = rw e
        go false = rw e

    act-later : (to : ℕ) (c : Command) → act s X cs room (n + to) c ≡ later n (act t x cs room to c)
    unfolding finish take_reading take_missing switch_state give_forecast give_variance give_relative_variance save_state store_state restore_state
    act-later to CommandOf.End = refl
    act-later to CommandOf.Open = open-later
    act-later to (CommandOf.Reading y) = answer-later to (step x.state y).state x (step x.state y).residual (λ e. ReplyOf.Residual e) (λ e. refl)
    act-later to CommandOf.Missing = outcome-later to (missing x.state).state x (missing x.state).outcome ReplyOf.Missing refl
    act-later to (CommandOf.Forecast h) = answer-later to x.state x (forecast x.state h) (λ v. ReplyOf.Forecast h v) (λ v. refl)
    act-later to (CommandOf.Variance h sigma2) = variance-later to x.state x (variance x.state h sigma2) (λ a b. ReplyOf.Variance h a b) (λ a b. refl)
    act-later to CommandOf.Save = outcome-later to x.state x (save x.state room) (ReplyOf.Saved (length (encoded x.state))) refl
    act-later to (CommandOf.Rejected r) = refl
    act-later to CommandOf.SwitchToEven = outcome-later to (switch_to_even x.state).state x (switch_to_even x.state).outcome ReplyOf.Silent refl
    act-later to (CommandOf.RelativeVariance h sigma2) = relative-later to x.state x (relative_variance x.state h sigma2 max_horizon) (λ v. ReplyOf.RelativeVariance h (to_bits binary64 v)) (λ v. refl)
    act-later to (CommandOf.Store slot) = outcome-later to x.state x (store x.state slot (length cs)) ReplyOf.Silent refl
    act-later to (CommandOf.Restore slot) = outcome-later to (restore slot cs).state x (restore slot cs).outcome ReplyOf.Silent refl

    abbrev D : Decoded
    D = decode (drop x.at t) 0 x.active x.state.model

    next_here : next_command t x ≡ moved x.at D
    next_here = decode-at t x.at x.active x.state.model

    next-there : next_command s X ≡ moved (n + x.at) D
    next-there =
        decode-at s (n + x.at) x.active x.state.model
        ∙ ap (λ (u : List ℕ). moved (n + x.at) (decode u 0 x.active x.state.model)) tails

    pub perform-later : perform s X cs room ≡ later n (perform t x cs room)
    unfolding perform
    perform-later =
        let e : n + x.at + D.next ≡ n + (x.at + D.next) = omega arith in
        rw (next_here, next-there, e) (act-later (x.at + D.next) D.command)

    same-checkpointed : (c : Command) → checkpointed X cs c ≡ checkpointed x cs c
    same-checkpointed CommandOf.End = refl
    same-checkpointed CommandOf.Open = refl
    same-checkpointed (CommandOf.Reading y) = refl
    same-checkpointed CommandOf.Missing = refl
    same-checkpointed (CommandOf.Forecast h) = refl
    same-checkpointed (CommandOf.Variance h sigma2) = refl
    same-checkpointed CommandOf.Save = refl
    same-checkpointed (CommandOf.Rejected r) = refl
    same-checkpointed CommandOf.SwitchToEven = refl
    same-checkpointed (CommandOf.RelativeVariance h sigma2) = refl
    same-checkpointed (CommandOf.Store slot) = refl
    same-checkpointed (CommandOf.Restore slot) = refl

    pub checkpoints-later : perform_checkpoints s X cs ≡ perform_checkpoints t x cs
    unfolding perform_checkpoints
    checkpoints-later = rw (next_here, next-there) (same-checkpointed D.command)

  -- ---- and so all answers
  unless-later : (b : Bool) (l k : List Performed) → (b ≡ false → l ≡ all_later n k) → cond b [] l ≡ all_later n (cond b [] k)
  unfolding all_later
  unless-later true l k f = refl
  unless-later false l k f = f refl

  tails-on : (s t : List ℕ) (a b : ℕ) → drop (n + a) s ≡ drop a t → a ≤ b → drop (n + b) s ≡ drop b t
  tails-on s t a b e h =
      let p : n + a + (b - a) ≡ n + b = omega arith in
      let q : a + (b - a) ≡ b = omega arith in
      ap (λ (k : ℕ). drop k s) (sym p) ∙ sym (drop-drop (b - a) (n + a) s) ∙ ap (drop (b - a)) e ∙ drop-drop (b - a) a t ∙ ap (λ (k : ℕ). drop k t) q

  some-later : (fuel : ℕ) (s t : List ℕ) (x : Session) (cs : List ℕ) → drop (n + x.at) s ≡ drop x.at t → answers_in fuel s (later_session n x) cs ≡ all_later n (answers_in fuel t x cs)
  unfolding answers_in all_later
  some-later zero s t x cs e = refl
  some-later (suc fuel) s t x cs e =
      let p = next t x cs in
      rw (perform-later s t x cs snapshot_room e, checkpoints-later s t x cs snapshot_room e, last-later p.reply)
      (ap (λ (l : List Performed). later n p ∷ l)
      (unless-later (is_last p.reply) _ _ (λ f. some-later fuel s t p.session (perform_checkpoints t x cs) (tails-on s t x.at p.session.at e (omega (arith, ((next-goes t x cs).moves f).0))))))

  pub answers-later : (s t : List ℕ) (x : Session) (cs : List ℕ) → drop (n + x.at) s ≡ drop x.at t → answers_from s (later_session n x) cs ≡ all_later n (answers_from t x cs)
  unfolding answers_from
  answers-later s t x cs e =
      let l : length s - (n + x.at) ≡ length t - x.at = sym (length-drop (n + x.at) s) ∙ ap length e ∙ length-drop x.at t in
      rw l (some-later (suc (length t - x.at)) s t x cs e)

  -- ---- the line of an answer does not tell where the session stands
  pub same_line : (p : Performed) → ((r : Rejection) (offset : ℕ) → p.reply ≡ ReplyOf.Rejected r offset → ⊥) → line_after (later n p) ≡ line_after p
  unfolding line_after
  same_line p h = go p.reply h
    where
      go : (r : Reply) → ((q : Rejection) (offset : ℕ) → r ≡ ReplyOf.Rejected q offset → ⊥) → line_of (later_reply n r) (encoded p.session.state) ≡ line_of r (encoded p.session.state)
      go (ReplyOf.Opened model m) h = refl
      go (ReplyOf.Residual e) h = refl
      go ReplyOf.Missing h = refl
      go (ReplyOf.Forecast j v) h = refl
      go (ReplyOf.Variance j high low) h = refl
      go (ReplyOf.Saved k) h = refl
      go (ReplyOf.Rejected q offset) h = absurd (h q offset refl)
      go (ReplyOf.Ended count) h = refl
      go ReplyOf.Silent h = refl
      go (ReplyOf.RelativeVariance j bits) h = refl
