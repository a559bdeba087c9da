-- `in_place::switch_to_even` meets its contract: the byte that is written makes the slice the switched state's snapshot.
use mathlib.Core.Path.{◌≡◌, ap, ◌∙◌}
use mathlib.Core.List.{List}
use native.Mathlib.Omega.{arith}
use lib.ListN.{length, get_or, set}
use Prim.Native.Nat.{ℕ, ◌<◌}
use Rattle.std.specs.Prelude.{Ok}
use Rattle.models.specs.Models.{to_even}
use Rattle.state.specs.Rejections.{outcome}
use Rattle.state.specs.States.{check}
use Rattle.state.specs.Switching.{switched}
use Rattle.state.specs.declared.State.{State}
use Rattle.state.proofs.Answers.{check-passes}
use Rattle.layout.specs.Bytes.{AreBytes}
use Rattle.slices.specs.Slices.{in_place_code}
use Rattle.snapshot.specs.Snapshots.{decoded}
use Rattle.saving.specs.Encoding.{encoded}
use Rattle.saving.proofs.Lengths.{length-encoded}
use Rattle.in_place.specs.InPlace.{room_code, rejection, in_place_switch_code, in_place_switch_bytes}
use Rattle.in_place.proofs.InPlaceSteps.{found, not-found, room-told, rewritable, by-slice, by-room, rejected, kept, accepted-call}
use Rattle.in_place.proofs.InPlaceSwitch.{passes, switch-stored}
use borrow.Author.Rules.{rules}
use Rattle.in_place.proofs.switch_to_even.Goals as goal

abbrev next : State → State
next s = switched s

-- the slice at entry of an accepted call
module _ (d : List ℕ) (o : in_place_code d ≡ 0) (z : room_code d ≡ 0) where
  accepts : rejection check d ≡ 0
  accepts = accepted-call check d o z (passes d o)

  answer-is : ◌≡◌ (Ok tt) (outcome (in_place_switch_code d))
  unfolding in_place_switch_code
  answer-is = rw accepts

  bytes_are : (l : List ℕ) → l ≡ encoded (decoded d) → (v : ℕ) → v ≡ to_even (get_or l 1 0) → set l 1 v ≡ in_place_switch_bytes d
  unfolding in_place_switch_bytes
  bytes_are l w v t = rw (t, accepts) (switch-stored d o l w)

-- the model byte is one of the slice's
room : (d l : List ℕ) → l ≡ encoded (decoded d) → 1 < length l
room d l e = omega (arith, ap length e ∙ length-encoded (decoded d))

pub returns-in_err-x : goal.returns-in_err-x
unfolding in_place_switch_code in_place_switch_bytes
returns-in_err-x c =
    let d = c.args.snapshot.now in
    let p = by-slice check d in
    let q = not-found d c.in_err-x.ensures in
    record { answer = rejected check d _ _ tt p q c.from_residual.ensures.1; bytes = kept check d next _ _ p q }

pub returns-in_err-check_room : goal.returns-in_err-check_room
unfolding in_place_switch_code in_place_switch_bytes
returns-in_err-check_room c =
    let d = c.args.snapshot.now in
    let b : AreBytes d = search rules in
    let f = found d b c.in_ok-x.ensures in
    let p = by-room check d f.0 in
    let q = rw (room-told d _ f.1) at c.in_err-check_room.ensures in
    record { answer = rejected check d _ _ tt p q c.from_residual-in_err-check_room.ensures.1; bytes = kept check d next _ _ p q }

pub upgrade-requires : goal.upgrade-requires
upgrade-requires c =
    let d = c.args.snapshot.now in
    let b : AreBytes d = search rules in
    let f = found d b c.in_ok-x.ensures in
    let z = check-passes _ (rw (room-told d _ f.1) at c.in_ok-check_room.ensures) in
    (rewritable d f.0 z, f.1.scored)

pub bounds-snapshot-1 : goal.bounds-snapshot-1
bounds-snapshot-1 c = omega (arith, room c.args.snapshot.now c.upgrade.new.d c.upgrade.ensures)

pub bounds-snapshot-1-2 : goal.bounds-snapshot-1-2
bounds-snapshot-1-2 c = omega (arith, room c.args.snapshot.now c.upgrade.new.d c.upgrade.ensures)

pub returns : goal.returns
returns c =
    let d = c.args.snapshot.now in
    let b : AreBytes d = search rules in
    let f = found d b c.in_ok-x.ensures in
    let z = check-passes _ (rw (room-told d _ f.1) at c.in_ok-check_room.ensures) in
    record { answer = answer-is d f.0 z; bytes = bytes_are d f.0 z c.upgrade.new.d c.upgrade.ensures _ c.to_even.ensures }
