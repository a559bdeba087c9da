-- What a slot holds after a state was kept, and before.
use Prim.Native.Nat.{ℕ, zero, suc, ◌+◌, ◌-◌, ◌≤◌, ◌<◌}
use mathlib.Core.Path.{◌≡◌, refl, sym, ap, ◌∙◌}
use mathlib.Core.Bool.{Bool, true, false, ◌&&◌, true≢false, false≢true}
use mathlib.Core.List.{List, [], ◌++◌, append-nil}
use native.Mathlib.Omega.{arith}
use borrow.Author.Tests.{ltb-true, leb-true, lt-ltb, le-ltb, le-leb, lt-leb, eqb-true, ne_eqb}
use lib.Dec.{eqb, ltb, leb, eqb-suc-zero}
use lib.ListN.{length, length-drop, take, drop, take-append-drop, drop_of_length-le}
use lib.Seq.{length-sets, sets}
use Rattle.integers.proofs.Tests.{both}
use Rattle.state.specs.Rejections.{unless, ◌then◌, accepting, outcome, outcome_code, short_buffer, no_checkpoint, rejects, IsCode, Outcome}
use Rattle.state.specs.States.{Typed, check}
use Rattle.state.specs.declared.State.{State}
use Rattle.state.proofs.Answers.{outcome-code, rejected-by, code-unless}
use Rattle.state.proofs.Passing.{bounded}
use Rattle.state.proofs.Tests.{then-zero, unless-zero, then-first}
use Rattle.layout.specs.Bytes.{AreBytes}
use Rattle.layout.specs.Layout.{size_of}
use Rattle.layout.specs.CommandTable.{command_size, is_command}
use Rattle.snapshot.specs.Snapshots.{due_code, model_code, scan, open_code, decoded, read}
use Rattle.snapshot.specs.declared.Opened.{Opened}
use Rattle.snapshot.proofs.ByteLaws.{rest}
use Rattle.snapshot.proofs.Decoded.{accepted-passes}
use Rattle.saving.specs.Encoding.{encoded}
use Rattle.saving.specs.Saving.{save_code, save, saved_bytes}
use Rattle.saving.proofs.ByteLaws.{bytes_drop, bytes_take}
use Rattle.saving.proofs.Lengths.{length-encoded}
use Rattle.round_trips.proofs.RoundTrip.{read_back, decoded-typed}
use Rattle.checkpoints.specs.Checkpoints.{slots, slot_size, checkpoints_size, slot_at, slot_in, no_checkpoints, store_code, store, stored_bytes, is_held, restore_code, nothing_kept, restore}
use Rattle.checkpoints.specs.Promises.{StoresBack, Restored, NothingKept}
use Rattle.checkpoints.proofs.SlotLaws.{put-at, same-slot, other-slot}
use Rattle.std.specs.Prelude.{Ok, is_ok}
use Rattle.std.specs.Result.{result_and}

-- what was let pass: the state, one of the four slots, room for all of them
pub record Storable (s : State) (slot room : ℕ) : Type 0 where
  pub passes : check s ≡ 0
  pub slot-in : slot < 4
  pub room_in : 2204 ≤ room

pub storable : (s : State) (slot room : ℕ) → store_code s slot room ≡ 0 → Storable s slot room
unfolding store_code
storable s slot room z =
    let c = then-zero (check s) (unless (ltb slot slots) no_checkpoint then unless (leb checkpoints_size room) short_buffer) z in
    let d = then-zero (unless (ltb slot slots) no_checkpoint) (unless (leb checkpoints_size room) short_buffer) c.1 in
    record { passes = c.0; slot-in = ltb-true slot slots (unless-zero _ 20 d.0); room_in = leb-true checkpoints_size room (unless-zero _ 11 d.1) }

-- its snapshot fits a slot, and the slot is there
pub slot-fits : (s : State) → check s ≡ 0 → length (encoded s) ≤ slot_size
slot-fits s z = omega (arith, length-encoded s, (bounded s z).period)

pub slot-room : (slot room : ℕ) → slot < 4 → 2204 ≤ room → slot_at slot + slot_size ≤ room
slot-room slot room h k = omega arith

pub stored_is : (s : State) (slot : ℕ) (d : List ℕ) → store_code s slot (length d) ≡ 0 → stored_bytes s slot d ≡ sets d (slot_at slot) (encoded s)
unfolding stored_bytes
stored_is s slot d z = rw z

-- saving at the front of the slot's part of the buffer, where the slot and the room are there, is keeping
module _ (s : State) (slot : ℕ) (d : List ℕ) (h : slot < 4) (k : 2204 ≤ length d) where
  same_code : save_code s (length (drop (slot_at slot) d)) ≡ store_code s slot (length d)
  unfolding save_code store_code
  same_code = rw (lt-ltb slot slots h, le-leb checkpoints_size (length d) k) (go (check s) refl)
    where
      go : (n : ℕ) → check s ≡ n → (n then unless (leb (size_of s.period) (length (drop (slot_at slot) d))) short_buffer) ≡ (n then 0)
      go zero e =
          rw (le-leb (size_of s.period) (length (drop (slot_at slot) d)) (rw (length-drop (slot_at slot) d) (omega (arith, (bounded s e).period))))
      go (suc n) e = rw (eqb-suc-zero n)

  pub same_answer : save s (length (drop (slot_at slot) d)) ≡ store s slot (length d)
  unfolding save store
  same_answer = ap outcome same_code

  pub same_bytes : take (slot_at slot) d ++ saved_bytes s (drop (slot_at slot) d) ≡ stored_bytes s slot d
  unfolding saved_bytes stored_bytes
  same_bytes = rw same_code (go (store_code s slot (length d)) refl)
    where
      go : (n : ℕ) → store_code s slot (length d) ≡ n → take (slot_at slot) d ++ accepting n (sets (drop (slot_at slot) d) 0 (encoded s)) (λ (r : ℕ). drop (slot_at slot) d) ≡ accepting n (sets d (slot_at slot) (encoded s)) (λ (r : ℕ). d)
      go zero e = put-at (slot_at slot) (encoded s) d (omega (arith, slot-fits s (storable s slot (length d) e).passes))
      go (suc n) e = rw (eqb-suc-zero n) (take-append-drop (slot_at slot) d)

  -- as the code has it: what `save` answered, and what it left, put back into the buffer
  pub put-part : (at : ℕ) (r : Outcome) (ys : List ℕ) → at ≡ slot_at slot → r ≡ save s (length (take (length d - at) (drop at d))) → ys ≡ saved_bytes s (take (length d - at) (drop at d)) → (r ≡ store s slot (length d)) × (take at d ++ (ys ++ drop (length d - at) (drop at d)) ≡ stored_bytes s slot d)
  put-part at r ys q e f =
      let part : take (length d - at) (drop at d) ≡ drop at d = rest d at in
      let none : drop (length d - at) (drop at d) ≡ [] = drop_of_length-le (drop at d) {i = length d - at} (rw (length-drop at d) (omega arith)) in
      rw (none, append-nil ys, e, f, part, q) (same_answer, same_bytes)

-- ---- a rejected one leaves the buffer
and-then : (n k : ℕ) → result_and (outcome n) (rejects (suc k)) ≡ outcome (n then suc k)
and-then zero k = sym (rejected-by k tt)
and-then (suc n) k =
    ap (λ (o : Outcome). result_and o (rejects (suc k))) (rejected-by n tt) ∙ sym (ap outcome (then-first (suc n) (suc k) (λ z. omega arith)) ∙ rejected-by n tt)

module _ (s : State) (slot : ℕ) (d : List ℕ) where
  pub unstored : (store_code s slot (length d) ≡ 0 → ⊥) → d ≡ stored_bytes s slot d
  unfolding stored_bytes
  unstored h = rw (ne_eqb (store_code s slot (length d)) 0 h)

  pub no_slot : slots ≤ slot → store_code s slot (length d) ≡ (check s then no_checkpoint)
  unfolding store_code
  no_slot h = rw (le-ltb slot slots h)

  pub no_room : slot < slots → length d < checkpoints_size → store_code s slot (length d) ≡ (check s then short_buffer)
  unfolding store_code
  no_room h k = rw (lt-ltb slot slots h, lt-leb checkpoints_size (length d) k)

  -- the state's own rejection, else the one that follows it
  pub refused : (k : ℕ) {p r : Outcome} → store_code s slot (length d) ≡ (check s then suc k) → p ≡ outcome (check s) → r ≡ result_and p (rejects (suc k)) → (r ≡ store s slot (length d)) × (d ≡ stored_bytes s slot d)
  unfolding store
  refused k q e h =
      (h ∙ rw (e, q) (and-then (check s) k), unstored (λ z. absurd (omega (arith, (then-zero (check s) (suc k) (sym q ∙ z)).1))))

-- a slot that holds something
pub held : (slot : ℕ) (d : List ℕ) → slot < 4 → 2204 ≤ length d → open_code (slot_in d slot) ≡ 0 → is_held slot d ≡ true
unfolding is_held
held slot d h k z = rw (lt-ltb slot slots h, le-leb checkpoints_size (length d) k, z)

pub record Held (slot : ℕ) (d : List ℕ) : Type 0 where
  pub slot-in : slot < 4
  pub room_in : 2204 ≤ length d
  pub opens : open_code (slot_in d slot) ≡ 0

pub held-facts : (slot : ℕ) (d : List ℕ) → restore_code slot d ≡ 0 → Held slot d
unfolding restore_code is_held
held-facts slot d z =
    let e = unless-zero (is_held slot d) 20 z in
    let a = both (ltb slot slots && leb checkpoints_size (length d)) (eqb (open_code (slot_in d slot)) 0) e in
    let b = both (ltb slot slots) (leb checkpoints_size (length d)) a.0 in
    record { slot-in = ltb-true slot slots b.0; room_in = leb-true checkpoints_size (length d) b.1; opens = eqb-true (open_code (slot_in d slot)) 0 a.1 }

pub restored-outcome : (slot : ℕ) (d : List ℕ) → (restore slot d).outcome ≡ outcome (restore_code slot d)
unfolding restore restore_code
restored-outcome slot d = go (is_held slot d)
  where
    go : (b : Bool) → (accepting (unless b no_checkpoint) (record { outcome = Ok tt; state = decoded (slot_in d slot) }) (λ (n : ℕ). nothing_kept)).outcome ≡ outcome (unless b no_checkpoint)
    go true = refl
    go false = refl

pub code-restore : (slot : ℕ) (d : List ℕ) → IsCode (restore_code slot d)
unfolding restore_code
code-restore slot d = code-unless (is_held slot d) no_checkpoint (omega arith)

pub restored-code : (slot : ℕ) (d : List ℕ) → outcome_code (restore slot d).outcome ≡ restore_code slot d
restored-code slot d = ap outcome_code (restored-outcome slot d) ∙ outcome-code (restore_code slot d) (code-restore slot d)

-- a name holds a state, or nothing
pub restored-none : (slot : ℕ) (d : List ℕ) → (restore_code slot d ≡ 0 → ⊥) → restore slot d ≡ nothing_kept
unfolding restore restore_code
restored-none slot d h = go (is_held slot d) h
  where
    go : (b : Bool) → (unless b no_checkpoint ≡ 0 → ⊥) → accepting (unless b no_checkpoint) (record { outcome = Ok tt; state = decoded (slot_in d slot) }) (λ (n : ℕ). nothing_kept) ≡ nothing_kept
    go true h = absurd (h refl)
    go false h = refl

pub stored-code : (s : State) (slot room : ℕ) → check s ≡ 0 → slot < slots → checkpoints_size ≤ room → store_code s slot room ≡ 0
unfolding store_code
stored-code s slot room z h k = rw (z, lt-ltb slot slots h, le-leb checkpoints_size room k)

-- an outcome of a rejection
accepted-code : (n : ℕ) → is_ok (outcome n) ≡ true → n ≡ 0
accepted-code zero e = refl
accepted-code (suc n) e = absurd (false≢true (ap is_ok (sym (rejected-by n tt)) ∙ e))

rejected-code : (n : ℕ) → is_ok (outcome n) ≡ false → n ≡ 0 → ⊥
rejected-code zero e q = true≢false e
rejected-code (suc n) e q = omega arith

-- ---- going back: by the slot, the room, and what its bytes read as
module _ (slot : ℕ) (d : List ℕ) where
  pub none_above : slots ≤ slot → restore slot d ≡ nothing_kept
  unfolding restore restore_code is_held
  none_above h = rw (le-ltb slot slots h)

  pub none-short : slot < slots → length d < checkpoints_size → restore slot d ≡ nothing_kept
  unfolding restore restore_code is_held
  none-short h k = rw (lt-ltb slot slots h, lt-leb checkpoints_size (length d) k)

  module _ (h : slot < slots) (k : checkpoints_size ≤ length d) (g : Opened) (e : g ≡ read (slot_in d slot)) where
    code_of : {b : Bool} → is_ok g.outcome ≡ b → is_ok (outcome (open_code (slot_in d slot))) ≡ b
    unfolding read
    code_of q = ap (λ (g : Opened). is_ok g.outcome) (sym e) ∙ q

    pub found : is_ok g.outcome ≡ true → g ≡ restore slot d
    unfolding restore restore_code read
    found q =
        let z = accepted-code (open_code (slot_in d slot)) (code_of q) in
        rw (e, held slot d h k z, z)

    pub found_none : is_ok g.outcome ≡ false → nothing_kept ≡ restore slot d
    unfolding restore restore_code is_held
    found_none q =
        let z = rejected-code (open_code (slot_in d slot)) (code_of q) in
        rw (lt-ltb slot slots h, le-leb checkpoints_size (length d) k, ne_eqb (open_code (slot_in d slot)) 0 z)

-- ---- a state that was kept
module _ (s : State) (slot : ℕ) (d : List ℕ) (typed : Typed s) (z : store_code s slot (length d) ≡ 0) where
  facts : Storable s slot (length d)
  facts = storable s slot (length d) z

  fits : length (encoded s) ≤ slot_size
  fits = slot-fits s facts.passes

  room : slot_at slot + slot_size ≤ length d
  room = slot-room slot (length d) facts.slot-in facts.room_in

  length-stored : length (stored_bytes s slot d) ≡ length d
  length-stored = ap length (stored_is s slot d z) ∙ length-sets d (slot_at slot) (encoded s)

  slot-holds : (open_code (slot_in (stored_bytes s slot d) slot) ≡ 0) × (decoded (slot_in (stored_bytes s slot d) slot) ≡ s)
  slot-holds =
      let r = read_back s (take (slot_size - length (encoded s)) (drop (slot_at slot + length (encoded s)) d)) typed facts.passes in
      rw (stored_is s slot d z, same-slot d (encoded s) slot fits room) (r.0, r.2)

  same : restore slot (stored_bytes s slot d) ≡ record { outcome = outcome 0; state = s }
  unfolding restore restore_code
  same =
      let h = slot-holds in
      rw (held slot (stored_bytes s slot d) facts.slot-in (rw length-stored facts.room_in) h.0, h.1)

  slot-stays : (other : ℕ) → (other ≡ slot → ⊥) → slot_in (stored_bytes s slot d) other ≡ slot_in d other
  slot-stays other h = rw (stored_is s slot d z) (other-slot d (encoded s) slot fits room other h)

  others : (other : ℕ) → (other ≡ slot → ⊥) → restore other (stored_bytes s slot d) ≡ restore other d
  unfolding restore restore_code is_held
  others other h = rw (slot-stays other h, length-stored)

pub stores_back : StoresBack
stores_back s slot d typed z = record { same = same s slot d typed z; others = others s slot d typed z; size = length-stored s slot d typed z }

-- ---- what is restored
slot-bytes : (d : List ℕ) (slot : ℕ) → AreBytes d → AreBytes (slot_in d slot)
slot-bytes d slot b = bytes_take slot_size (drop (slot_at slot) d) (bytes_drop (slot_at slot) d b)

pub restored-passes : Restored
unfolding restore
restored-passes slot d b z =
    let h = held-facts slot d z in
    record { passes = rw z (accepted-passes (slot_in d slot) h.opens); typed = rw z (decoded-typed (slot_in d slot) (slot-bytes d slot b)) }

pub nothing-at-first : NothingKept
unfolding restore restore_code is_held scan model_code due_code is_command command_size
nothing-at-first zero = refl
nothing-at-first (suc zero) = refl
nothing-at-first (suc (suc zero)) = refl
nothing-at-first (suc (suc (suc zero))) = refl
nothing-at-first (suc (suc (suc (suc n)))) = none_above (suc (suc (suc (suc n)))) no_checkpoints (omega arith)
