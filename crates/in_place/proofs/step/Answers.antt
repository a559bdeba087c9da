-- `in_place::step` meets its contract: the update is that of the state which the slice holds, and what is stored is the next one's snapshot.
use Prim.Native.Nat.{ℕ, ◌<◌}
use mathlib.Core.Path.{◌≡◌, ap, ap₂, ◌∙◌}
use mathlib.Core.Bool.{Bool, true}
use mathlib.Core.List.{List}
use lib.IntN.{ℤ, pos}
use mir.Facts.{to_z-of_z}
use mir.Syntax.{w64}
use mir.ValLaws.{to_z-of_z as back}
use Rattle.std.specs.Prelude.{Ok, Err}
use Rattle.models.specs.Models.{ties_to_even}
use Rattle.state.specs.Fixed.{max_count}
use Rattle.state.specs.Rejections.{gives, outcome}
use Rattle.state.specs.declared.Rejection.{Rejection}
use Rattle.state.specs.declared.Score.{Score}
use Rattle.state.specs.declared.State.{State}
use Rattle.state.proofs.Answers.{check-passes}
use Rattle.ets.specs.Steps.{step_code, after_reading, residual_of, square_at, score_after}
use Rattle.ets.specs.Updates.{numbers_of, update, update_score}
use Rattle.state.specs.declared.Numbers.{Numbers}
use Rattle.ets.specs.declared.Update.{Update}
use Rattle.ets.proofs.ScoreLaws.{update-score-is}
use Rattle.layout.specs.Bytes.{AreBytes}
use Rattle.slices.specs.Slices.{in_place_code, opened_in, score_value}
use Rattle.slices.specs.declared.Checked.{Checked}
use Rattle.snapshot.specs.Facts.{Room}
use Rattle.snapshot.specs.Snapshots.{decoded}
use Rattle.saving.specs.Encoding.{encoded}
use Rattle.in_place.specs.InPlace.{room_code, rejection, in_place_step_code, in_place_step_bytes, in_place_residual}
use Rattle.in_place.specs.Facts.{Held, step_written}
use Rattle.in_place.proofs.InPlaceSteps.{count-is, room-is, score-value, Direct, direct, not-direct, step-stored, found, not-found, room-told, rewritable, by-slice, by-room, by-state, rejected, kept, accepted-call}
use borrow.Author.Rules.{rules}
use Rattle.in_place.proofs.step.Goals as goal

-- the slice at entry, what its numbers are, and the reading
module _ (d : List ℕ) (b : AreBytes d) (x : Checked) (q : Ok x ≡ opened_in d) (y : ℤ) where
  abbrev code : State → ℕ
  code s = step_code s y

  opens : in_place_code d ≡ 0
  opens = (found d b q).0

  held : Held d x
  held = (found d b q).1

  updates : update x.even x.numbers y ≡ update (ties_to_even (decoded d).model) (numbers_of (decoded d)) y
  updates = ap₂ (λ (even : Bool) (n : Numbers). update even n y) held.even held.numbers

  not-updated : {e : Rejection} → Err e ≡ update x.even x.numbers y → Err e ≡ outcome (step_code (decoded d) y)
  not-updated w = not-direct (decoded d) held.passes y (w ∙ updates)

  -- the update of an accepted call
  module _ (z : room_code d ≡ 0) (u : Update) (w : Ok u ≡ update x.even x.numbers y) where
    accepts : step_code (decoded d) y ≡ 0
    accepts = (direct (decoded d) held.passes y (w ∙ updates)).0

    update-is : Direct (decoded d) y u
    update-is = (direct (decoded d) held.passes y (w ∙ updates)).1

    passes : rejection code d ≡ 0
    passes = accepted-call code d opens z accepts

    -- the residual r that is given, and the score that is written
    module _ (r : ℤ) (t : r ≡ u.residual) where
      residual-is : r ≡ residual_of (decoded d) y
      residual-is = t ∙ update-is.residual

      answer-is : Ok r ≡ gives (in_place_step_code d y) (in_place_residual d y (pos 0))
      unfolding in_place_step_code in_place_residual
      answer-is = rw passes (ap Ok residual-is)

      score-is : (f g : Score) → f ≡ score_value d → g ≡ update_score x.even x.numbers.count f r → g ≡ score_after (decoded d).score (square_at (decoded d) y)
      score-is f g h k =
          k
          ∙ same _ _ _ _ _ _ _ _ held.even (ap (λ (n : Numbers). n.count) held.numbers) (h ∙ score-value d opens) residual-is
          ∙ update-score-is (decoded d) y accepts
        where
          same : (x x' : Bool) (n n' : ℕ) (s s' : Score) (e e' : ℤ) → x ≡ x' → n ≡ n' → s ≡ s' → e ≡ e' → update_score x n s e ≡ update_score x' n' s' e'
          same x x' n n' s s' e e' ex en es ee = rw (ex, en, es, ee)

      -- what is written over the saved form l
      bytes_are : (l : List ℕ) → l ≡ encoded (decoded d) → (f g : Score) → f ≡ score_value d → g ≡ update_score x.even x.numbers.count f r → step_written l x.period x.index x.numbers.count u g ≡ in_place_step_bytes d y
      unfolding in_place_step_bytes
      bytes_are l s f g h k = rw passes (step-stored d x held l s y u g update-is (score-is f g h k))

    -- there is room for it
    room : (l : List ℕ) → l ≡ encoded (decoded d) → Room true l x.period x.index × (x.numbers.count < max_count)
    room l s = (room-is d x held l s, rw (count-is d x held l s) update-is.count)

pub returns-in_err-x : goal.returns-in_err-x
unfolding in_place_step_code in_place_step_bytes
returns-in_err-x c =
    let d = c.args.snapshot.now in
    let y = c.args.reading in
    let p = by-slice (λ (s : State). step_code s y) d in
    let q = not-found d c.in_err-x.ensures in
    record {
      answer = rejected (λ (s : State). step_code s y) d _ _ (in_place_residual d y (pos 0)) p q c.from_residual.ensures.1;
      bytes = kept (λ (s : State). step_code s y) d (λ (s : State). after_reading s y) _ _ p q;
    }

pub returns-in_err-check_room : goal.returns-in_err-check_room
unfolding in_place_step_code in_place_step_bytes
returns-in_err-check_room c =
    let d = c.args.snapshot.now in
    let b : AreBytes d = search rules in
    let y = c.args.reading in
    let f = found d b c.in_ok-x.ensures in
    let p = by-room (λ (s : State). step_code s y) d f.0 in
    let q = rw (room-told d _ f.1) at c.in_err-check_room.ensures in
    record {
      answer = rejected (λ (s : State). step_code s y) d _ _ (in_place_residual d y (pos 0)) p q c.from_residual-in_err-check_room.ensures.1;
      bytes = kept (λ (s : State). step_code s y) d (λ (s : State). after_reading s y) _ _ p q;
    }

pub returns-in_err-u : goal.returns-in_err-u
unfolding in_place_step_code in_place_step_bytes
returns-in_err-u c =
    let d = c.args.snapshot.now in
    let b : AreBytes d = search rules in
    let y = c.args.reading in
    let f = found d b c.in_ok-x.ensures in
    let z = check-passes _ (rw (room-told d _ f.1) at c.in_ok-check_room.ensures) in
    let p = by-state (λ (s : State). step_code s y) d f.0 z in
    let q = not-updated d b _ c.in_ok-x.ensures y (rw (to_z-of_z c.ranges.reading) at c.in_err-u.ensures) in
    record {
      answer = rejected (λ (s : State). step_code s y) d _ _ (in_place_residual d y (pos 0)) p q c.from_residual-in_err-u.ensures.1;
      bytes = kept (λ (s : State). step_code s y) d (λ (s : State). after_reading s y) _ _ p q;
    }

pub upgrade-requires : goal.upgrade-requires
upgrade-requires c =
    let d = c.args.snapshot.now in
    let b : AreBytes d = search rules in
    let f = found d b c.in_ok-x.ensures in
    let z = check-passes _ (rw (room-told d _ f.1) at c.in_ok-check_room.ensures) in
    (rewritable d f.0 z, f.1.scored)

pub store-requires : goal.store-requires
store-requires c =
    let d = c.args.snapshot.now in
    let b : AreBytes d = search rules in
    let q = c.in_ok-x.ensures in
    let f = found d b q in
    let z = check-passes _ (rw (room-told d _ f.1) at c.in_ok-check_room.ensures) in
    let w = rw (to_z-of_z c.ranges.reading) at c.in_ok-u.ensures in
    room d b _ q c.args.reading z _ w c.upgrade.new.d c.upgrade.ensures

pub returns : goal.returns
returns c =
    let d = c.args.snapshot.now in
    let y = c.args.reading in
    let b : AreBytes d = search rules in
    let u = c.in_ok-u.u in
    let t = back w64 u.residual (search rules) in
    let x = c.in_ok-x.x in
    let q = c.in_ok-x.ensures in
    let f = found d b q in
    let z = check-passes _ (rw (room-told d _ f.1) at c.in_ok-check_room.ensures) in
    let w = rw (to_z-of_z c.ranges.reading) at c.in_ok-u.ensures in
    record {
      answer = answer-is d b x q y z u w _ t;
      bytes = c.store.ensures ∙ bytes_are d b x q y z u w _ t c.upgrade.new.d c.upgrade.ensures _ _ c.score_value.ensures c.update_score-score.ensures;
    }
