-- Document 02, W-209: a list of document 01 that also keeps states, goes back to them and opens new ones.
-- The paper's words, and the names here:
--   name           slot
--   kept state     checkpoint; 50 stores it, 51 restores it
--   new group      a snapshot that is opened
use Rattle.std.specs.Prelude.{ℕ, Bool, true, false, cond, not, List, [], ◌≡◌, eqb, ℤ, length}
use Rattle.state.specs.declared.State.{State}
use Rattle.layout.specs.Bytes.{AreBytes}
use Rattle.snapshot.specs.Snapshots.{open_code, read}
use Rattle.checkpoints.specs.Checkpoints.{no_checkpoints, store_code, stored_bytes, restore_code, restore}
use Rattle.traces.specs.Calls.{Call, Event, result}
use Rattle.traces.specs.Laws.{filled, Passing}

-- what stands between two operations: the state, and the buffer with what the slots hold
pub record Standing : Type 0 where
  pub state : State
  pub checkpoints : List ℕ

-- at first no slot holds anything
abbrev pub standing_of : State → Standing
standing_of s = record { state = s; checkpoints = no_checkpoints }

-- a call on the state that stands; keeping it, and going back, by a slot; a new snapshot, which may be of any model and may be rejected
pub data Operation : Type 0 where
  on_state : (k : Call) → Operation
  Store : (slot : ℕ) → Operation
  Restore : (slot : ℕ) → Operation
  Open : (bytes : List ℕ) → AreBytes bytes → Operation

-- what one who sees no state but those that are opened is told
pub data Notice : Type 0 where
  called : (e : Event) → Notice
  storing : (slot : ℕ) (accepted : Bool) → Notice
  restored : (slot : ℕ) (accepted : Bool) → Notice
  opening : (t : State) (accepted : Bool) → Notice

-- what an operation does: what then stands, what is told of it, and the numbers of a call
pub record Done : Type 0 where
  pub standing : Standing
  pub notice : Notice
  pub numbers : List ℤ

abbrev pub done : State → List ℕ → Notice → List ℤ → Done
done s d notice numbers = record { standing = record { state = s; checkpoints = d }; notice = notice; numbers = numbers }

-- going back and opening leave the slots as they are, and a rejected one the state too
unfoldable pub operate : Standing → Operation → Done
operate a (on_state k) =
    let r = result a.state k in done r.state a.checkpoints (called r.event) r.numbers
operate a (Store slot) =
    let d = a.checkpoints in
    done a.state (stored_bytes a.state slot d) (storing slot (eqb (store_code a.state slot (length d)) 0)) []
operate a (Restore slot) =
    let accepted = eqb (restore_code slot a.checkpoints) 0 in
    done (cond accepted (restore slot a.checkpoints).state a.state) a.checkpoints (restored slot accepted) []
operate a (Open bytes _) =
    let accepted = eqb (open_code bytes) 0 in
    done (cond accepted (read bytes).state a.state) a.checkpoints (opening (read bytes).state accepted) []

-- ---- what holds of every operation
-- the state passes, and so does what each slot that holds something brings back
pub record AllPassing (a : Standing) : Type 0 where
  pub state : Passing a.state
  pub checkpoints : (slot : ℕ) → restore_code slot a.checkpoints ≡ 0 → Passing (restore slot a.checkpoints).state

-- the numbers that a call answered; keeping, going back and opening answer none
abbrev pub answered_by : Notice → ℕ
answered_by (called e) = filled e
answered_by (storing slot accepted) = 0
answered_by (restored slot accepted) = 0
answered_by (opening t accepted) = 0

-- a 50, a 51 or a group was rejected (what a rejected call leaves is the call's own affair: a halted batch moved the state)
abbrev pub is_rejected : Notice → Bool
is_rejected (called e) = false
is_rejected (storing slot accepted) = not accepted
is_rejected (restored slot accepted) = not accepted
is_rejected (opening t accepted) = not accepted

-- the next operation finds such a state and such slots again, after a rejected one the same
pub record OperationLaw (a : Standing) (o : Operation) : Type 0 where
  pub stays : AllPassing (operate a o).standing
  pub counted : length (operate a o).numbers ≡ answered_by (operate a o).notice
  pub rejected : is_rejected (operate a o).notice ≡ true → (operate a o).standing ≡ a

pub record OperationLaws : Type 0 where
  pub first : (s : State) → Passing s → AllPassing (standing_of s)
  pub next : (a : Standing) → AllPassing a → (o : Operation) → OperationLaw a o
