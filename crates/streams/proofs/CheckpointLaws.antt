-- Commands 50 and 51 in a stream, by the session and what the names hold.
use Prim.Native.Nat.{ℕ, ◌+◌, ◌-◌, ◌≤◌, ◌<◌}
use mathlib.Core.Path.{◌≡◌, refl, sym, ◌∙◌}
use mathlib.Core.Bool.{true, false}
use mathlib.Core.Logic.{◌⊎◌, inl, inr}
use mathlib.Core.List.{List}
use native.Mathlib.Omega.{arith}
use borrow.Author.Tests.{lt-leb, le-leb}
use lib.ListN.{length, get_or}
use Rattle.state.specs.Rejections.{out_of_place, no_checkpoint, rejection_of}
use Rattle.layout.specs.CommandTable.{command_size, is_command, only_in_snapshot, opens}
use Rattle.checkpoints.specs.Checkpoints.{slots, checkpoints_size, store, restore_code, restore}
use Rattle.checkpoints.proofs.CheckpointLaws.{stores_back, stored-code, no_slot, none_above, restored-outcome, restored-none}
use Rattle.decoding.specs.Decoding.{allowed_here, command_code, operands, decoded, decode}
use Rattle.decoding.specs.declared.Command.TheVariants as CommandOf
use Rattle.replies.specs.declared.Reply.TheVariants as ReplyOf
use Rattle.commands.specs.Commands.{accepted, rejected, store_state, restore_state, next_command, perform, perform_checkpoints}
use Rattle.streams.specs.Promises.{Sound, CheckpointLaws}
use Rattle.commands.specs.declared.Session.{Session}
use Rattle.commands.proofs.CommandLaws.{performs, keeps}
use Rattle.std.specs.Prelude.{Ok}

module _ (s : List ℕ) (x : Session) (d : List ℕ) (room slot : ℕ) (h : x.at + 2 ≤ length s) (operand : get_or s (x.at + 1) 0 ≡ slot) where
  abbrev b : ℕ
  b = get_or s x.at 0

  begun : x.at < length s
  begun = omega arith

  whole : 2 ≤ length s - x.at
  whole = omega arith

  unopened : (first : ℕ) → (first ≡ 0x50) ⊎ (first ≡ 0x51) → b ≡ first → x.active ≡ false → perform s x d room ≡ rejected (rejection_of out_of_place) x.at x
  unfolding perform decode command_code allowed_here is_command command_size only_in_snapshot opens
  unopened first (inl f) q e = rw (lt-leb (length s) x.at begun, q, f, e)
  unopened first (inr f) q e = rw (lt-leb (length s) x.at begun, q, f, e)

  -- ---- with a state open
  module _ (e : x.active ≡ true) where
    command-50 : b ≡ 0x50 → next_command s x ≡ decoded (CommandOf.Store slot) (x.at + 2)
    unfolding decode command_code allowed_here is_command command_size only_in_snapshot opens operands
    command-50 q = rw (lt-leb (length s) x.at begun, q, e, le-leb 2 (length s - x.at) whole, operand)

    command-51 : b ≡ 0x51 → next_command s x ≡ decoded (CommandOf.Restore slot) (x.at + 2)
    unfolding decode command_code allowed_here is_command command_size only_in_snapshot opens operands
    command-51 q = rw (lt-leb (length s) x.at begun, q, e, le-leb 2 (length s - x.at) whole, operand)

    perform-50 : b ≡ 0x50 → perform s x d room ≡ store_state x (x.at + 2) slot (length d)
    perform-50 q = performs s x (decoded (CommandOf.Store slot) (x.at + 2)) (CommandOf.Store slot) (sym (command-50 q)) refl d room

    perform-51 : b ≡ 0x51 → perform s x d room ≡ restore_state x (x.at + 2) slot d
    perform-51 q = performs s x (decoded (CommandOf.Restore slot) (x.at + 2)) (CommandOf.Restore slot) (sym (command-51 q)) refl d room

    stores : b ≡ 0x50 → Sound x → slot < slots → checkpoints_size ≤ length d → (perform s x d room ≡ accepted ReplyOf.Silent (x.at + 2) x.state) × (restore slot (perform_checkpoints s x d) ≡ record { outcome = Ok tt; state = x.state })
    unfolding store_state store
    stores q p l r =
        let t = p.passes e in
        let z = stored-code x.state slot (length d) t.checked l r in
        let k = keeps s x (decoded (CommandOf.Store slot) (x.at + 2)) (CommandOf.Store slot) (sym (command-50 q)) refl d in
        (perform-50 q ∙ rw z, rw k (stores_back x.state slot d t.typed z).same)

    restores : b ≡ 0x51 → restore_code slot d ≡ 0 → (perform s x d room ≡ accepted ReplyOf.Silent (x.at + 2) (restore slot d).state) × (perform_checkpoints s x d ≡ d)
    unfolding restore_state
    restores q z = (
      perform-51 q ∙ rw (restored-outcome slot d, z),
      keeps s x (decoded (CommandOf.Restore slot) (x.at + 2)) (CommandOf.Restore slot) (sym (command-51 q)) refl d,
    )

    above : (first : ℕ) → (first ≡ 0x50) ⊎ (first ≡ 0x51) → b ≡ first → Sound x → slots ≤ slot → perform s x d room ≡ rejected (rejection_of no_checkpoint) x.at x
    unfolding store_state restore_state store
    above first (inl f) q p l = perform-50 (q ∙ f) ∙ rw (no_slot x.state slot d l, (p.passes e).checked)
    above first (inr f) q p l = perform-51 (q ∙ f) ∙ rw (none_above slot d l)

    empty : b ≡ 0x51 → (restore_code slot d ≡ 0 → ⊥) → perform s x d room ≡ rejected (rejection_of no_checkpoint) x.at x
    unfolding restore_state
    empty q n = perform-51 q ∙ rw (restored-none slot d n)

pub checkpoint-laws : CheckpointLaws
checkpoint-laws s x d room slot h o =
    record {
      unopened = unopened s x d room slot h o;
      stores = λ q e. stores s x d room slot h o e q;
      restores = λ q e. restores s x d room slot h o e q;
      above = λ first f q e. above s x d room slot h o e first f q;
      empty = λ q e. empty s x d room slot h o e q;
    }
