-- What the slots hold after every operation.
use Prim.Native.Nat.{ℕ}
use mathlib.Core.Path.{◌≡◌, refl, sym, ◌∙◌, ap}
use mathlib.Core.Bool.{Bool, true, false, cond, not, ◌&&◌, false≢true}
use mathlib.Core.List.{List}
use native.Mathlib.Omega.{arith}
use borrow.Author.Tests.{eqb-true, eqb-false}
use lib.Dec.{eqb}
use lib.ListN.{length}
use lib.Seq.{sets}
use Rattle.state.specs.Rejections.{accepting, outcome_code, no_checkpoint, rejection_of, unless}
use Rattle.state.specs.States.{Typed}
use Rattle.state.specs.declared.State.{State}
use Rattle.layout.specs.Bytes.{AreBytes}
use Rattle.snapshot.specs.Snapshots.{open_code, decoded, read}
use Rattle.snapshot.specs.declared.Opened.{Opened}
use Rattle.snapshot.proofs.Decoded.{accepted-passes}
use Rattle.saving.specs.Encoding.{encoded}
use Rattle.round_trips.proofs.RoundTrip.{decoded-typed}
use Rattle.checkpoints.specs.Checkpoints.{slot_at, slot_in, no_checkpoints, store_code, stored_bytes, is_held, restore_code, nothing_kept, restore}
use Rattle.checkpoints.specs.Promises.{StoredBack}
use Rattle.checkpoints.proofs.CheckpointLaws.{stored_is, stores_back, nothing-at-first}
use Rattle.traces.specs.Laws.{Passing}
use Rattle.traces.specs.Operations.{Standing, standing_of, Operation, on_state, Store, Restore, Open, operate, AllPassing, answered_by, is_rejected, OperationLaws}
use Rattle.traces.proofs.Works.{by_code}
use Rattle.traces.proofs.Lists.{call-laws}
use Rattle.std.specs.Prelude.{Ok}

-- the rejection of going back is that of its answer
restored-code : (slot : ℕ) (d : List ℕ) → outcome_code (restore slot d).outcome ≡ restore_code slot d
unfolding restore restore_code rejection_of
restored-code slot d = go (is_held slot d)
  where
    back : Opened
    back = record { outcome = Ok tt; state = decoded (slot_in d slot) }

    go : (b : Bool) → outcome_code (accepting (unless b no_checkpoint) back (λ (n : ℕ). nothing_kept)).outcome ≡ unless b no_checkpoint
    go true = refl
    go false = refl

same_code : (slot : ℕ) (d e : List ℕ) → restore slot d ≡ restore slot e → restore_code slot d ≡ restore_code slot e
same_code slot d e q =
    sym (restored-code slot d) ∙ ap (λ (r : Opened). outcome_code r.outcome) q ∙ restored-code slot e

-- ---- each state beside something of a type A: what runs beside the one that stands is kept with it
module _ {A : Type 0} (G : State → A → Type 0) where
  abbrev pub Held : List ℕ → (ℕ → A) → Type 0
  Held d kept = (slot : ℕ) → restore_code slot d ≡ 0 → G (restore slot d).state (kept slot)

  pub held_first : (kept : ℕ → A) → Held no_checkpoints kept
  unfolding rejection_of
  held_first kept slot z =
      let e : restore_code slot no_checkpoints ≡ no_checkpoint = sym (restored-code slot no_checkpoints) ∙ ap (λ (r : Opened). outcome_code r.outcome) (nothing-at-first slot) in
      absurd (omega arith)

  module _ (s : State) (x : A) (d : List ℕ) (kept : ℕ → A) (full : Typed s) (good : G s x) (held : Held d kept) (slot : ℕ) where
    accepted : store_code s slot (length d) ≡ 0 → Held (stored_bytes s slot d) (λ k. cond (eqb k slot) x (kept k))
    accepted z other = go (eqb other slot) refl
      where
        back : StoredBack s slot d
        back = stores_back s slot d full z

        go : (b : Bool) → eqb other slot ≡ b → restore_code other (stored_bytes s slot d) ≡ 0 → G (restore other (stored_bytes s slot d)).state (cond b x (kept other))
        go true e h = rw (eqb-true other slot e, back.same) good
        go false e h =
            let same = back.others other (eqb-false other slot e) in
            rw same (held other (sym (same_code other (stored_bytes s slot d) d same) ∙ h))

    pub held-stored : Held (stored_bytes s slot d) (λ k. cond (eqb (store_code s slot (length d)) 0 && eqb k slot) x (kept k))
    unfolding stored_bytes
    held-stored =
        by_code (λ b. Held (cond b (sets d (slot_at slot) (encoded s)) d) (λ k. cond (b && eqb k slot) x (kept k))) (store_code s slot (length d))
        (λ z. rw (stored_is s slot d z) at (accepted z))
        held

-- what a snapshot that is accepted opens
pub opened-passes : (bytes : List ℕ) → AreBytes bytes → open_code bytes ≡ 0 → Passing (read bytes).state
unfolding read
opened-passes bytes b z = rw z (record { typed = decoded-typed bytes b; passes = accepted-passes bytes z })

-- ---- every operation, on a state and slots that pass
abbrev PassingBeside : State → ℕ → Type 0
PassingBeside s n = Passing s

first : (s : State) → Passing s → AllPassing (standing_of s)
first s w = record { state = w; checkpoints = held_first PassingBeside (λ slot. 0) }

module _ (a : Standing) (w : AllPassing a) where
  stays : (o : Operation) → AllPassing (operate a o).standing
  unfolding operate
  stays (on_state k) = record { state = (call-laws a.state w.state k).stays; checkpoints = w.checkpoints }
  stays (Store slot) =
      record {
        state = w.state;
        checkpoints = held-stored PassingBeside a.state 0 a.checkpoints (λ slot. 0) w.state.typed w.state w.checkpoints slot;
      }
  stays (Restore slot) =
      record {
        state = by_code (λ b. Passing (cond b (restore slot a.checkpoints).state a.state)) (restore_code slot a.checkpoints) (w.checkpoints slot) w.state;
        checkpoints = w.checkpoints;
      }
  stays (Open bytes b) =
      record {
        state = by_code (λ b. Passing (cond b (read bytes).state a.state)) (open_code bytes) (opened-passes bytes b) w.state;
        checkpoints = w.checkpoints;
      }

  counted : (o : Operation) → length (operate a o).numbers ≡ answered_by (operate a o).notice
  unfolding operate
  counted (on_state k) = (call-laws a.state w.state k).counted
  counted (Store slot) = refl
  counted (Restore slot) = refl
  counted (Open bytes b) = refl

not-true : (b : Bool) → not b ≡ true → b ≡ false
not-true true e = absurd (false≢true e)
not-true false e = refl

rejected : (a : Standing) (o : Operation) → is_rejected (operate a o).notice ≡ true → (operate a o).standing ≡ a
unfolding operate stored_bytes
rejected a (on_state k) e = absurd (false≢true e)
rejected a (Store slot) e = rw (not-true (eqb (store_code a.state slot (length a.checkpoints)) 0) e)
rejected a (Restore slot) e = rw (not-true (eqb (restore_code slot a.checkpoints) 0) e)
rejected a (Open bytes b) e = rw (not-true (eqb (open_code bytes) 0) e)

pub operation-laws : OperationLaws
operation-laws = record { first = first; next = λ a w o. record { stays = stays a w o; counted = counted a w o; rejected = rejected a o } }
