-- The promises about keeping a state and going back to it.
use Rattle.std.specs.Prelude.{ℕ, ◌≡◌, List, length, Ok}
use Rattle.state.specs.States.{Typed, check}
use Rattle.state.specs.declared.State.{State}
use Rattle.layout.specs.Bytes.{AreBytes}
use Rattle.checkpoints.specs.Checkpoints.{no_checkpoints, store_code, stored_bytes, restore_code, nothing_kept, restore}

-- a state that was kept is brought back whole, and every other name holds what it held
pub record StoredBack (s : State) (slot : ℕ) (d : List ℕ) : Type 0 where
  pub same : restore slot (stored_bytes s slot d) ≡ record { outcome = Ok tt; state = s }
  pub others : (other : ℕ) → (other ≡ slot → ⊥) → restore other (stored_bytes s slot d) ≡ restore other d
  pub size : length (stored_bytes s slot d) ≡ length d

abbrev pub StoresBack : Type 0
StoresBack = (s : State) (slot : ℕ) (d : List ℕ) → Typed s → store_code s slot (length d) ≡ 0 → StoredBack s slot d

-- what is brought back is a state that every check lets pass, whatever bytes the buffer has
pub record Restorable (slot : ℕ) (d : List ℕ) : Type 0 where
  pub passes : check (restore slot d).state ≡ 0
  pub typed : Typed (restore slot d).state

abbrev pub Restored : Type 0
Restored = (slot : ℕ) (d : List ℕ) → AreBytes d → restore_code slot d ≡ 0 → Restorable slot d

-- no name holds anything at first
abbrev pub NothingKept : Type 0
NothingKept = (slot : ℕ) → restore slot no_checkpoints ≡ nothing_kept
