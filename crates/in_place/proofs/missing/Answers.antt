-- `in_place::missing` meets its contract: the update is that of the state which the slice holds, and what is stored is the next one's snapshot.
use Prim.Native.Nat.{ℕ, ◌<◌}
use mathlib.Core.Path.{◌≡◌, ap₂, ◌∙◌}
use mathlib.Core.Bool.{Bool, true}
use mathlib.Core.List.{List}
use lib.IntN.{ℤ}
use mir.Syntax.{w64}
use mir.ValLaws.{to_z-of_z}
use Rattle.std.specs.Prelude.{Ok, Err}
use Rattle.models.specs.Models.{ties_to_even}
use Rattle.state.specs.Fixed.{max_count}
use Rattle.state.specs.Rejections.{outcome}
use Rattle.state.specs.declared.Rejection.{Rejection}
use Rattle.state.specs.declared.State.{State}
use Rattle.state.proofs.Answers.{check-passes}
use Rattle.ets.specs.Steps.{terms_of, missing_code, after_missing}
use Rattle.ets.specs.Updates.{numbers_of, advance, update_missing}
use Rattle.state.specs.declared.Numbers.{Numbers}
use Rattle.ets.specs.declared.Update.{Update}
use Rattle.ets.proofs.StepLaws.{missing-facts}
use Rattle.layout.specs.Bytes.{AreBytes}
use Rattle.slices.specs.Slices.{in_place_code, opened_in}
use Rattle.slices.specs.declared.Checked.{Checked}
use Rattle.snapshot.specs.Facts.{Room}
use Rattle.snapshot.specs.Snapshots.{decoded}
use Rattle.saving.specs.Encoding.{encoded}
use Rattle.in_place.specs.InPlace.{room_code, rejection, in_place_missing_code, in_place_missing_bytes}
use Rattle.in_place.specs.Facts.{Held, advanced_on}
use Rattle.in_place.proofs.InPlaceSteps.{count-is, room-is, missed, not-missed, missing-stored, found, not-found, room-told, rewritable, by-slice, by-room, by-state, rejected, kept, accepted-call}
use borrow.Author.Rules.{rules}
use Rattle.in_place.proofs.missing.Goals as goal

abbrev next : State → State
next s = after_missing s

-- the slice at entry, and what its numbers are
module _ (d : List ℕ) (b : AreBytes d) (x : Checked) (q : Ok x ≡ opened_in d) where
  opens : in_place_code d ≡ 0
  opens = (found d b q).0

  held : Held d x
  held = (found d b q).1

  updates : update_missing x.even x.numbers ≡ update_missing (ties_to_even (decoded d).model) (numbers_of (decoded d))
  updates = ap₂ (λ (even : Bool) (n : Numbers). update_missing even n) held.even held.numbers

  not-updated : {e : Rejection} → Err e ≡ update_missing x.even x.numbers → Err e ≡ outcome (missing_code (decoded d))
  not-updated w = not-missed (decoded d) held.passes (w ∙ updates)

  -- the update of an accepted call
  module _ (z : room_code d ≡ 0) (u : Update) (w : Ok u ≡ update_missing x.even x.numbers) where
    accepts : missing_code (decoded d) ≡ 0
    accepts = (missed (decoded d) held.passes (w ∙ updates)).0

    update-is : u ≡ advance (terms_of (decoded d))
    update-is = (missed (decoded d) held.passes (w ∙ updates)).1

    passes : rejection missing_code d ≡ 0
    passes = accepted-call missing_code d opens z accepts

    answer-is : ◌≡◌ (Ok tt) (outcome (in_place_missing_code d))
    unfolding in_place_missing_code
    answer-is = rw passes

    -- the saved form l has room, and what is written there
    module _ (l : List ℕ) (s : l ≡ encoded (decoded d)) where
      room : Room true l x.period x.index × (x.numbers.count < max_count)
      room = (room-is d x held l s, rw (count-is d x held l s) (missing-facts (decoded d) accepts).room)

      bytes_are : advanced_on l x.period x.index x.numbers.count u.level u.trend ≡ in_place_missing_bytes d
      unfolding in_place_missing_bytes
      bytes_are = rw passes (missing-stored d x held l s u update-is)

pub returns-in_err-x : goal.returns-in_err-x
unfolding in_place_missing_code in_place_missing_bytes
returns-in_err-x c =
    let d = c.args.snapshot.now in
    let p = by-slice missing_code d in
    let q = not-found d c.in_err-x.ensures in
    record { answer = rejected missing_code d _ _ tt p q c.from_residual.ensures.1; bytes = kept missing_code d next _ _ p q }

pub returns-in_err-check_room : goal.returns-in_err-check_room
unfolding in_place_missing_code in_place_missing_bytes
returns-in_err-check_room c =
    let d = c.args.snapshot.now in
    let b : AreBytes d = search rules in
    let f = found d b c.in_ok-x.ensures in
    let p = by-room missing_code d f.0 in
    let q = rw (room-told d _ f.1) at c.in_err-check_room.ensures in
    record { answer = rejected missing_code d _ _ tt p q c.from_residual-in_err-check_room.ensures.1; bytes = kept missing_code d next _ _ p q }

pub returns-in_err-u : goal.returns-in_err-u
unfolding in_place_missing_code in_place_missing_bytes
returns-in_err-u c =
    let d = c.args.snapshot.now in
    let b : AreBytes d = search rules in
    let f = found d b c.in_ok-x.ensures in
    let z = check-passes _ (rw (room-told d _ f.1) at c.in_ok-check_room.ensures) in
    let p = by-state missing_code d f.0 z in
    let q = not-updated d b _ c.in_ok-x.ensures c.in_err-u.ensures in
    record { answer = rejected missing_code d _ _ tt p q c.from_residual-in_err-u.ensures.1; bytes = kept missing_code d next _ _ p q }

pub upgrade-requires : goal.upgrade-requires
upgrade-requires c =
    let d = c.args.snapshot.now in
    let b : AreBytes d = search rules in
    let f = found d b c.in_ok-x.ensures in
    let z = check-passes _ (rw (room-told d _ f.1) at c.in_ok-check_room.ensures) in
    (rewritable d f.0 z, f.1.scored)

pub advance-requires : goal.advance-requires
advance-requires c =
    let d = c.args.snapshot.now in
    let b : AreBytes d = search rules in
    let q = c.in_ok-x.ensures in
    let z = check-passes _ (rw (room-told d _ (found d b q).1) at c.in_ok-check_room.ensures) in
    room d b _ q z _ c.in_ok-u.ensures c.upgrade.new.d c.upgrade.ensures

pub returns : goal.returns
returns c =
    let d = c.args.snapshot.now in
    let b : AreBytes d = search rules in
    let x = c.in_ok-x.x in
    let q = c.in_ok-x.ensures in
    let u = c.in_ok-u.u in
    let l = to_z-of_z w64 u.level (search rules) in
    let t = to_z-of_z w64 u.trend (search rules) in
    let z = check-passes _ (rw (room-told d _ (found d b q).1) at c.in_ok-check_room.ensures) in
    record {
      answer = answer-is d b x q z u c.in_ok-u.ensures;
      bytes = c.advance.ensures
          ∙ ap₂ (λ (l b : ℤ). advanced_on c.upgrade.new.d x.period x.index x.numbers.count l b) l t
          ∙ bytes_are d b x q z u c.in_ok-u.ensures c.upgrade.new.d c.upgrade.ensures;
    }
