-- A command that is not the last answer: what it was, where it ends, and that another stream with the same bytes up to there answers it alike.
use Prim.Native.Nat.{ℕ, ◌+◌, ◌≤◌, ◌<◌}
use mathlib.Core.Path.{◌≡◌, refl, sym, ap, ◌∙◌}
use mathlib.Core.Bool.{Bool, true, false, true≢false}
use mathlib.Core.List.{List, ◌++◌}
use native.Mathlib.Omega.{arith}
use borrow.Author.Tests.{eqb-true}
use lib.Dec.{eqb, leb}
use lib.IntN.{ℤ}
use lib.Ieee.{Float, binary64, to_bits}
use lib.ListN.{length, take, drop, get_or, take-append-drop}
use lib.Seq.{get_or-drop}
use native.Mathlib.Nat.{add-zero}
use Rattle.state.specs.Rejections.{by_outcome, by_answer, Outcome, Answer}
use Rattle.state.specs.declared.State.{State}
use Rattle.state.specs.Switching.{switch_to_even}
use Rattle.ets.specs.Steps.{step, missing}
use Rattle.forecasts.specs.Forecasts.{max_horizon, forecast}
use Rattle.weights.specs.Weights.{variance}
use Rattle.relative_errors.specs.Relative.{relative_variance}
use Rattle.weights.specs.declared.Variance.{Variance}
use Rattle.layout.specs.Bytes.{AreBytes}
use Rattle.layout.specs.CommandTable.{command_size}
use Rattle.layout.specs.Layout.{outside_in}
use Rattle.snapshot.specs.Snapshots.{open_code, open_offset, read}
use Rattle.snapshot.proofs.Accepting.{accepted as is-accepted, accepted-size, opener-size}
use Rattle.saving.specs.Encoding.{encoded}
use Rattle.saving.specs.Saving.{save}
use Rattle.checkpoints.specs.Checkpoints.{store, restore}
use Rattle.saving.proofs.ByteLaws.{bytes_drop}
use Rattle.decoding.specs.Decoding.{command_code, operands, decode}
use Rattle.decoding.specs.declared.Command.{Command}
use Rattle.decoding.specs.declared.Command.TheVariants as CommandOf
use Rattle.decoding.proofs.DecodingLaws.{whole-command}
use Rattle.replies.specs.declared.Reply.{Reply}
use Rattle.replies.specs.declared.Reply.TheVariants as ReplyOf
use Rattle.replies.specs.Replies.{is_last}
use Rattle.actions.specs.Actions.{by_variance, by_relative}
use Rattle.commands.specs.Commands.{accepted, rejected, finish, open_snapshot, take_reading, take_missing, switch_state, give_forecast, give_variance, give_relative_variance, save_state, store_state, restore_state, act, next_command, perform}
use Rattle.commands.specs.declared.Session.{Session}
use Rattle.commands.specs.declared.Performed.{Performed}
use Rattle.rollbacks.proofs.OwnBytes.{again, part_same, decode-same}
use Rattle.std.specs.Prelude.{Result, Ok, Err}
use Rattle.state.specs.declared.Rejection.{Rejection}

-- ---- an accepted command's session stands right after it
abbrev Ends : ℕ → Performed → Type 0
Ends to p = is_last p.reply ≡ false → p.session.at ≡ to

module _ (x : Session) (to : ℕ) (t : State) where
  outcome-ends : (o : Outcome) (r : Reply) → Ends to (by_outcome o (accepted r to t) (λ c. rejected c x.at x))
  outcome-ends (Ok u) r e = refl
  outcome-ends (Err c) r e = absurd (true≢false e)

  answer-ends : (o : Answer) (r : ℤ → Reply) → Ends to (by_answer o (λ v. accepted (r v) to t) (λ c. rejected c x.at x))
  answer-ends (Ok v) r e = refl
  answer-ends (Err c) r e = absurd (true≢false e)

  variance-ends : (o : Result Variance Rejection) (r : ℕ → ℕ → Reply) → Ends to (by_variance o (λ h l. accepted (r h l) to t) (λ c. rejected c x.at x))
  variance-ends (Ok v) r e = refl
  variance-ends (Err c) r e = absurd (true≢false e)

  relative-ends : (o : Result Float Rejection) (r : Float → Reply) → Ends to (by_relative o (λ v. accepted (r v) to t) (λ c. rejected c x.at x))
  relative-ends (Ok v) r e = refl
  relative-ends (Err c) r e = absurd (true≢false e)

-- ---- of a group it is the whole group
module _ (s : List ℕ) (x : Session) (open-accepted : is_last (open_snapshot s x).reply ≡ false) where
  abbrev u : List ℕ
  u = drop x.at s

  pub record Whole : Type 0 where
    pub code : open_code u ≡ 0
    pub ends : (open_snapshot s x).session.at ≡ x.at + open_offset u

  whole : Whole
  unfolding open_snapshot
  whole = go (eqb (open_code u) 0) refl open-accepted
    where
      go : (b : Bool) → eqb (open_code u) 0 ≡ b → is_last (open_snapshot s x).reply ≡ false → Whole
      go true q e = let z = eqb-true (open_code u) 0 q in record { code = z; ends = rw z }
      go false q e = absurd (true≢false (rw q at e))

  -- the command that begins it is a part of it
  longer : command_size (get_or s x.at 0) ≤ open_offset u
  longer =
      let z = whole.code in
      let a = is-accepted u z in
      let q : get_or s x.at 0 ≡ get_or u 0 0 = ap (λ (k : ℕ). get_or s k 0) (sym (add-zero x.at)) ∙ sym (get_or-drop x.at s 0 0) in
      let n : command_size (get_or s x.at 0) ≡ 19 = ap command_size (q ∙ a.model.due.byte) ∙ opener-size (outside_in u) in
      let w = a.position.due.room in
      omega (arith, (accepted-size u z).0)

module _ (s t : List ℕ) (m : ℕ) (same : take m s ≡ take m t) (in-s : m ≤ length s) (in-t : m ≤ length t) (bytes : AreBytes s) (x : Session) (cs : List ℕ) (room : ℕ) where
  abbrev at : ℕ
  at = x.at

  open-same : is_last (open_snapshot s x).reply ≡ false → (open_snapshot s x).session.at ≤ m → open_snapshot t x ≡ open_snapshot s x
  unfolding open_snapshot read
  open-same e h =
      let w = whole s x e in
      let n = open_offset (drop at s) in
      let k : at + n ≤ m = rw w.ends at h in
      let front : take n (drop at t) ≡ take n (drop at s) = part_same s t m same in-s in-t at n k in
      let v : take n (drop at s) ++ drop n (drop at t) ≡ drop at t = ap (λ (l : List ℕ). l ++ drop n (drop at t)) (sym front) ∙ take-append-drop n (drop at t) in
      let g = rw v at (again (drop at s) (bytes_drop at s bytes) w.code (drop n (drop at t))) in
      rw (g.code, g.offset, g.state, w.code)

  -- ---- every command, with the offset after it
  module _ (to : ℕ) (h : at + command_size (get_or s at 0) ≤ to) where
    pub record Told (c : Command) : Type 0 where
      pub span : at + command_size (get_or s at 0) ≤ (act s x cs room to c).session.at
      pub alike : (act s x cs room to c).session.at ≤ m → act t x cs room to c ≡ act s x cs room to c

    plain : (c : Command) → Ends to (act s x cs room to c) → act t x cs room to c ≡ act s x cs room to c → is_last (act s x cs room to c).reply ≡ false → Told c
    plain c f q e = record { span = rw (f e) h; alike = λ _. q }

    told : (c : Command) → is_last (act s x cs room to c).reply ≡ false → Told c
    unfolding finish take_reading take_missing switch_state give_forecast give_variance give_relative_variance save_state store_state restore_state
    told CommandOf.End e = absurd (true≢false e)
    told CommandOf.Open e =
        record { span = rw (whole s x e).ends (omega (arith, longer s x e)); alike = open-same e }
    told (CommandOf.Reading y) e = plain (CommandOf.Reading y) (answer-ends x to (step x.state y).state (step x.state y).residual (λ v. ReplyOf.Residual v)) refl e
    told CommandOf.Missing e = plain CommandOf.Missing (outcome-ends x to (missing x.state).state (missing x.state).outcome ReplyOf.Missing) refl e
    told (CommandOf.Forecast j) e = plain (CommandOf.Forecast j) (answer-ends x to x.state (forecast x.state j) (λ v. ReplyOf.Forecast j v)) refl e
    told (CommandOf.Variance j sigma2) e = plain (CommandOf.Variance j sigma2) (variance-ends x to x.state (variance x.state j sigma2) (λ v w. ReplyOf.Variance j v w)) refl e
    told CommandOf.Save e = plain CommandOf.Save (outcome-ends x to x.state (save x.state room) (ReplyOf.Saved (length (encoded x.state)))) refl e
    told (CommandOf.Rejected r) e = absurd (true≢false e)
    told CommandOf.SwitchToEven e = plain CommandOf.SwitchToEven (outcome-ends x to (switch_to_even x.state).state (switch_to_even x.state).outcome ReplyOf.Silent) refl e
    told (CommandOf.RelativeVariance j sigma2) e = plain (CommandOf.RelativeVariance j sigma2) (relative-ends x to x.state (relative_variance x.state j sigma2 max_horizon) (λ v. ReplyOf.RelativeVariance j (to_bits binary64 v))) refl e
    told (CommandOf.Store slot) e = plain (CommandOf.Store slot) (outcome-ends x to x.state (store x.state slot (length cs)) ReplyOf.Silent) refl e
    told (CommandOf.Restore slot) e = plain (CommandOf.Restore slot) (outcome-ends x to (restore slot cs).state (restore slot cs).outcome ReplyOf.Silent) refl e

  -- the command was read whole
  module _ (e : is_last (perform s x cs room).reply ≡ false) where
    read_whole : next_command s x ≡ record { command = operands s at; next = at + command_size (get_or s at 0) }
    unfolding perform decode finish
    read_whole = go (leb (length s) at) (eqb (command_code s at x.active x.state.model) 0) refl refl e
      where
        go : (a b : Bool) → leb (length s) at ≡ a → eqb (command_code s at x.active x.state.model) 0 ≡ b → is_last (perform s x cs room).reply ≡ false → next_command s x ≡ record { command = operands s at; next = at + command_size (get_or s at 0) }
        go true b p q f = absurd (true≢false (rw p at f))
        go false true p q f = rw (p, q)
        go false false p q f = absurd (true≢false (rw (p, q) at f))

    some : 0 < command_size (get_or s at 0)
    unfolding perform decode finish
    some = go (leb (length s) at) (eqb (command_code s at x.active x.state.model) 0) refl refl e
      where
        go : (a b : Bool) → leb (length s) at ≡ a → eqb (command_code s at x.active x.state.model) 0 ≡ b → is_last (perform s x cs room).reply ≡ false → 0 < command_size (get_or s at 0)
        go true b p q f = absurd (true≢false (rw p at f))
        go false true p q f = (whole-command s at x.active x.state.model (eqb-true _ 0 q)).least
        go false false p q f = absurd (true≢false (rw (p, q) at f))

    performs : perform s x cs room ≡ act s x cs room (at + command_size (get_or s at 0)) (operands s at)
    unfolding perform
    performs = rw read_whole

    spans : Told (at + command_size (get_or s at 0)) (omega arith) (operands s at)
    spans = told (at + command_size (get_or s at 0)) (omega arith) (operands s at) (rw performs at e)

    module _ (inside : (perform s x cs room).session.at ≤ m) where
      within : (act s x cs room (at + command_size (get_or s at 0)) (operands s at)).session.at ≤ m
      within = rw performs at inside

      pub next-same : next_command t x ≡ next_command s x
      next-same = let k = spans.span in let w = within in let l = some in decode-same s t m same in-s in-t at (omega arith) (omega arith) x.active x.state.model

      pub perform-same : perform t x cs room ≡ perform s x cs room
      unfolding perform
      perform-same = rw (next-same, read_whole) (spans.alike within)
