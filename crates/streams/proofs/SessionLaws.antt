-- The states of a session and those that names hold pass their checks.
use Prim.Native.Nat.{ℕ, zero, suc, ◌+◌}
use mathlib.Core.Path.{◌≡◌, refl, sym, ap, ◌∙◌}
use mathlib.Core.List.{List}
use native.Mathlib.Decide.{ℕ_discrete}
use borrow.Author.Tests.{eqb-true}
use lib.Dec.{eqb, leb, eqb-suc-zero}
use lib.ListN.{length, get_or}
use lib.Seq.{length-sets}
use Rattle.integers.proofs.Tests.{cond-elim}
use Rattle.state.specs.Rejections.{outcome_code}
use Rattle.state.specs.declared.State.{State}
use Rattle.layout.specs.Bytes.{AreBytes}
use Rattle.layout.specs.CommandTable.{opens}
use Rattle.snapshot.specs.declared.Opened.{Opened}
use Rattle.saving.specs.Encoding.{encoded}
use Rattle.checkpoints.specs.Checkpoints.{slot_at, store_code, stored_bytes, restore_code, restore}
use Rattle.checkpoints.proofs.CheckpointLaws.{restored-code, stores_back, restored-passes}
use Rattle.decoding.specs.Decoding.{command_code, operands, decode}
use Rattle.decoding.specs.declared.Command.{Command}
use Rattle.decoding.specs.declared.Command.TheVariants as CommandOf
use Rattle.decoding.specs.declared.Decoded.{Decoded}
use Rattle.decoding.proofs.DecodingLaws.{whole-command}
use Rattle.commands.specs.Commands.{checkpointed, next_command, perform_checkpoints}
use Rattle.streams.specs.Promises.{Passes, Sound, Holding, Sessions}
use Rattle.commands.specs.declared.Session.{Session}
use Rattle.streams.proofs.StreamLaws.{start-sound, later-sound, active-is}

pub lent-holding : (cs : List ℕ) → AreBytes cs → Holding cs
lent-holding cs b =
    record { passes = λ slot z. let r = restored-passes slot cs b z in record { checked = r.passes; typed = r.typed } }

-- ---- after 50 the name holds the state, the others what they held
module _ (t : State) (slot : ℕ) (cs : List ℕ) (p : Passes t) (h : Holding cs) where
  at : store_code t slot (length cs) ≡ 0 → (other : ℕ) → Dec (other ≡ slot) → restore_code other (stored_bytes t slot cs) ≡ 0 → Passes (restore other (stored_bytes t slot cs)).state
  at z other (yes e) q = rw (e, (stores_back t slot cs p.typed z).same) p
  at z other (no e) q =
      let o = (stores_back t slot cs p.typed z).others other e in
      let code : restore_code other cs ≡ restore_code other (stored_bytes t slot cs) = sym (restored-code other cs) ∙ ap (λ (r : Opened). outcome_code r.outcome) (sym o) ∙ restored-code other (stored_bytes t slot cs) in
      rw o (h.passes other (code ∙ q))

  pub stored-holding : Holding (stored_bytes t slot cs)
  unfolding stored_bytes
  stored-holding = go (store_code t slot (length cs)) refl
    where
      go : (n : ℕ) → store_code t slot (length cs) ≡ n → Holding (stored_bytes t slot cs)
      go zero z = record { passes = λ other. at z other (ℕ_discrete other slot) }
      go (suc n) z = rw (z, eqb-suc-zero n) h

-- ---- no other command changes what a name holds
module _ (s : List ℕ) (x : Session) (cs : List ℕ) (h : Holding cs) (p : Sound x) where
  abbrev b : ℕ
  b = get_or s x.at 0

  abbrev Kept : Command → Type 0
  Kept c = Holding (checkpointed x cs c)

  operands-keep : command_code s x.at x.active x.state.model ≡ 0 → Kept (operands s x.at)
  unfolding operands
  operands-keep e =
      let w = whole-command s x.at x.active x.state.model e in
      cond-elim Kept (opens b) _ _ (λ _. h)
      (λ q. cond-elim Kept (eqb b 0x20) _ _ (λ _. h)
      (λ _. cond-elim Kept (eqb b 0x21) _ _ (λ _. h)
      (λ _. cond-elim Kept (eqb b 0x30) _ _ (λ _. h)
      (λ _. cond-elim Kept (eqb b 0x31) _ _ (λ _. h)
      (λ _. cond-elim Kept (eqb b 0x32) _ _ (λ _. h)
      (λ _. cond-elim Kept (eqb b 0x14) _ _ (λ _. h)
      (λ _. cond-elim Kept (eqb b 0x50) _ _ (λ _. stored-holding x.state (get_or s (x.at + 1) 0) cs (p.passes (active-is x.active (opens b) w.due q)) h)
      (λ _. cond-elim Kept (eqb b 0x51) _ _ (λ _. h)
      (λ _. h)))))))))

  pub kept : Holding (perform_checkpoints s x cs)
  unfolding perform_checkpoints decode
  kept =
      cond-elim (λ (d : Decoded). Kept d.command) (leb (length s) x.at) _ _ (λ _. h)
      (λ _. cond-elim (λ (d : Decoded). Kept d.command) (eqb (command_code s x.at x.active x.state.model) 0) _ _ (λ e. operands-keep (eqb-true _ 0 e)) (λ _. h))

-- and the buffer keeps its length
stored-length : (t : State) (slot : ℕ) (cs : List ℕ) → length (stored_bytes t slot cs) ≡ length cs
unfolding stored_bytes
stored-length t slot cs = cond-elim (λ (l : List ℕ). length l ≡ length cs) (eqb (store_code t slot (length cs)) 0) _ _ (λ _. length-sets cs (slot_at slot) (encoded t)) (λ _. refl)

pub kept-length : (s : List ℕ) (x : Session) (cs : List ℕ) → length (perform_checkpoints s x cs) ≡ length cs
unfolding perform_checkpoints
kept-length s x cs = go (next_command s x).command
  where
    go : (c : Command) → length (checkpointed x cs c) ≡ length cs
    go CommandOf.End = refl
    go CommandOf.Open = refl
    go (CommandOf.Reading y) = refl
    go CommandOf.Missing = refl
    go (CommandOf.Forecast h) = refl
    go (CommandOf.Variance h sigma2) = refl
    go CommandOf.Save = refl
    go (CommandOf.Rejected r) = refl
    go CommandOf.SwitchToEven = refl
    go (CommandOf.RelativeVariance h sigma2) = refl
    go (CommandOf.Store slot) = stored-length x.state slot cs
    go (CommandOf.Restore slot) = refl

pub sessions : Sessions
sessions = record { first = start-sound; lent = lent-holding; later = later-sound; kept = kept }
