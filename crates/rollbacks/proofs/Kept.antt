-- What 50 leaves, what the commands after it leave of that, and what 51 brings back.
use Prim.Native.Nat.{ℕ, zero, suc}
use mathlib.Core.Path.{◌≡◌, refl, sym, ap, ◌∙◌}
use mathlib.Core.Bool.{Bool, true, false, true≢false, false≢true}
use mathlib.Core.List.{List}
use native.Mathlib.Omega.{arith}
use borrow.Author.Tests.{eqb-true}
use lib.Dec.{eqb, leb, eqb-suc-zero}
use lib.ListN.{length, get_or}
use Rattle.integers.proofs.Tests.{cond-elim}
use Rattle.state.specs.Rejections.{outcome_code, rejection_of, no_checkpoint}
use Rattle.state.proofs.Answers.{positive}
use Rattle.state.specs.declared.State.{State}
use Rattle.layout.specs.Bytes.{AreBytes}
use Rattle.layout.specs.CommandTable.{opens}
use Rattle.snapshot.specs.declared.Opened.{Opened}
use Rattle.checkpoints.specs.Checkpoints.{no_checkpoints, store_code, store, restore_code, restore}
use Rattle.checkpoints.proofs.CheckpointLaws.{stores_back, nothing-at-first, restored-code}
use Rattle.decoding.specs.Decoding.{command_code, operands, decode}
use Rattle.decoding.specs.declared.Command.{Command}
use Rattle.decoding.specs.declared.Command.TheVariants as CommandOf
use Rattle.decoding.specs.declared.Decoded.{Decoded}
use Rattle.decoding.proofs.DecodingLaws.{whole-command}
use Rattle.replies.specs.declared.Reply.TheVariants as ReplyOf
use Rattle.replies.specs.Replies.{is_last}
use Rattle.commands.specs.Commands.{accepted, store_state, restore_state, checkpointed, next_command, perform_checkpoints}
use Rattle.streams.specs.Stream.{snapshot_room}
use Rattle.streams.specs.Promises.{Sound, Holding}
use Rattle.commands.specs.declared.Session.{Session}
use Rattle.commands.specs.declared.Performed.{Performed}
use Rattle.commands.proofs.CommandLaws.{performs, keeps}
use Rattle.streams.proofs.StreamLaws.{start-sound, later-sound, active-is}
use Rattle.streams.proofs.SessionLaws.{kept}
use Rattle.rollbacks.specs.Rollbacks.{Standing, begins, command_at, answer_at, after, Leads, none, more, is_store, not_store}
use Rattle.std.specs.Prelude.{Ok}

-- ---- what stands passes its checks, and what the names hold
pub record Fit (x : Standing) : Type 0 where
  pub sound : Sound x.session
  pub holding : Holding x.checkpoints

pub begins-fit : Fit begins
begins-fit = record { sound = start-sound; holding = record { passes = λ slot z. absurd (empty slot z) } }
  where
    empty : (slot : ℕ) → restore_code slot no_checkpoints ≡ 0 → ⊥
    empty slot z = let e = sym (ap (λ (g : Opened). outcome_code g.outcome) (nothing-at-first slot)) ∙ restored-code slot no_checkpoints ∙ z in omega (arith, positive (rejection_of no_checkpoint))

pub after-fit : (s : List ℕ) → AreBytes s → (x : Standing) → Fit x → Fit (after s x)
after-fit s b x f =
    record {
      sound = later-sound s x.session x.checkpoints snapshot_room b f.holding f.sound;
      holding = kept s x.session x.checkpoints f.holding f.sound;
    }

pub leads-fit : {allowed : Command → Bool} (s : List ℕ) → AreBytes s → {x y : Standing} {ps : List Performed} → Leads allowed s x ps y → Fit x → Fit y
leads-fit s b none f = f
leads-fit s b (more {x} a e l) f = leads-fit s b l (after-fit s b x f)

-- ---- a command that is no 50 leaves what the names hold
only_store : (x : Session) (cs : List ℕ) (c : Command) → not_store c ≡ true → checkpointed x cs c ≡ cs
only_store x cs CommandOf.End e = refl
only_store x cs CommandOf.Open e = refl
only_store x cs (CommandOf.Reading y) e = refl
only_store x cs CommandOf.Missing e = refl
only_store x cs (CommandOf.Forecast h) e = refl
only_store x cs (CommandOf.Variance h sigma2) e = refl
only_store x cs CommandOf.Save e = refl
only_store x cs (CommandOf.Rejected r) e = refl
only_store x cs CommandOf.SwitchToEven e = refl
only_store x cs (CommandOf.RelativeVariance h sigma2) e = refl
only_store x cs (CommandOf.Store slot) e = absurd (false≢true e)
only_store x cs (CommandOf.Restore slot) e = refl

pub gone-keeps : (s : List ℕ) {x y : Standing} {ps : List Performed} → Leads not_store s x ps y → y.checkpoints ≡ x.checkpoints
unfolding perform_checkpoints
gone-keeps s none = refl
gone-keeps s (more {x} a e l) = gone-keeps s l ∙ only_store x.session x.checkpoints (command_at s x) a

-- ---- 50 finds an open state
module _ (s : List ℕ) (x : Session) (slot : ℕ) where
  abbrev b : ℕ
  b = get_or s x.at 0

  abbrev Found : Decoded → Type 0
  Found d = d.command ≡ CommandOf.Store slot → x.active ≡ true

  -- no other command is 50
  other : (c : Command) → is_store c ≡ false → c ≡ CommandOf.Store slot → x.active ≡ true
  other c e q = absurd (true≢false (sym (ap is_store q) ∙ e))

  operands-open : command_code s x.at x.active x.state.model ≡ 0 → operands s x.at ≡ CommandOf.Store slot → x.active ≡ true
  unfolding operands
  operands-open e =
      let w = whole-command s x.at x.active x.state.model e in
      cond-elim (λ (c : Command). c ≡ CommandOf.Store slot → x.active ≡ true) (opens b) _ _ (λ _. other CommandOf.Open refl)
      (λ q _. active-is x.active (opens b) w.due q)

  pub store-open : (next_command s x).command ≡ CommandOf.Store slot → x.active ≡ true
  unfolding decode
  store-open =
      cond-elim Found (leb (length s) x.at) _ _ (λ _. other CommandOf.End refl)
      (λ _. cond-elim Found (eqb (command_code s x.at x.active x.state.model) 0) _ _ (λ e. operands-open (eqb-true _ 0 e)) (λ _. other (CommandOf.Rejected _) refl))

-- ---- 50 accepted: the state stays, and its name holds it
module _ (s : List ℕ) (x : Standing) (slot : ℕ) (fit : Fit x) (q : command_at s x ≡ CommandOf.Store slot) (e : is_last (answer_at s x).reply ≡ false) where
  abbrev t : State
  t = x.session.state

  abbrev to : ℕ
  to = (next_command s x.session).next

  stores : answer_at s x ≡ store_state x.session to slot (length x.checkpoints)
  stores = performs s x.session (next_command s x.session) (CommandOf.Store slot) refl q x.checkpoints snapshot_room

  store-accepted : store_code t slot (length x.checkpoints) ≡ 0
  unfolding store_state store
  store-accepted = go (store_code t slot (length x.checkpoints)) refl (rw stores at e)
    where
      go : (n : ℕ) → store_code t slot (length x.checkpoints) ≡ n → is_last (store_state x.session to slot (length x.checkpoints)).reply ≡ false → store_code t slot (length x.checkpoints) ≡ 0
      go zero z f = z
      go (suc n) z f = absurd (true≢false (rw (z, eqb-suc-zero n) at f))

  pub after_store : answer_at s x ≡ accepted ReplyOf.Silent to t
  unfolding store_state store
  after_store = stores ∙ rw store-accepted

  pub names-hold : restore slot (after s x).checkpoints ≡ record { outcome = Ok tt; state = t }
  names-hold =
      rw (keeps s x.session (next_command s x.session) (CommandOf.Store slot) refl q x.checkpoints)
      (stores_back t slot x.checkpoints (fit.sound.passes (store-open s x.session slot q)).typed store-accepted).same

-- ---- 51 where the name holds a state
module _ (s : List ℕ) (z : Standing) (slot : ℕ) (t : State) (q : command_at s z ≡ CommandOf.Restore slot) (h : restore slot z.checkpoints ≡ record { outcome = Ok tt; state = t }) where
  pub after-restore : answer_at s z ≡ accepted ReplyOf.Silent (next_command s z.session).next t
  unfolding restore_state
  after-restore =
      performs s z.session (next_command s z.session) (CommandOf.Restore slot) refl q z.checkpoints snapshot_room ∙ rw h

  pub names-stay : (after s z).checkpoints ≡ z.checkpoints
  names-stay = keeps s z.session (next_command s z.session) (CommandOf.Restore slot) refl q z.checkpoints
