-- `in_place::forecast` meets its contract: the forecast is made of the numbers of the state which the slice holds.
use Prim.Native.Nat.{ℕ}
use mathlib.Core.Path.{◌≡◌, ap, ap₂, ◌∙◌}
use mathlib.Core.Bool.{Bool}
use mathlib.Core.List.{List}
use lib.IntN.{ℤ, pos, ◌+ℤ◌}
use mir.Syntax.{w64}
use mir.ValLaws.{to_z-of_z}
use Rattle.std.specs.Prelude.{Ok}
use Rattle.models.specs.Models.{ties_to_even}
use Rattle.state.specs.Rejections.{gives, Answer}
use Rattle.state.specs.declared.State.{State}
use Rattle.state.proofs.Answers.{check-ends, given-same}
use Rattle.forecasts.specs.Forecasts.{trend_line, forecast_code, forecast_from_code, forecast_from, forecast_of}
use Rattle.state.specs.declared.Numbers.{Numbers}
use Rattle.forecasts.proofs.ForecastLaws.{from-code, forecast-ready}
use Rattle.layout.specs.Bytes.{AreBytes}
use Rattle.snapshot.specs.Snapshots.{open_code, decoded}
use Rattle.slices.specs.Slices.{in_place_code, opened_in}
use Rattle.slices.specs.declared.Checked.{Checked}
use Rattle.slices.proofs.SliceLaws.{one-snapshot}
use Rattle.in_place.specs.InPlace.{in_place_forecast_code, in_place_forecast}
use Rattle.in_place.specs.Facts.{ahead_in, Held}
use Rattle.in_place.proofs.InPlaceSteps.{room_in, ahead_value, ahead_within, ahead-is, found, not-found}
use borrow.Author.Rules.{rules}
use Rattle.in_place.proofs.forecast.Goals as goal

-- the slice, what its numbers are, and the horizon
module _ (d : List ℕ) (b : AreBytes d) (x : Checked) (q : Ok x ≡ opened_in d) (h : ℕ) where
  opens : in_place_code d ≡ 0
  opens = (found d b q).0

  held : Held d x
  held = (found d b q).1

  open-is : open_code d ≡ 0
  open-is = (one-snapshot d opens).0

  abbrev s : State
  s = decoded d

  abbrev v : ℤ
  v = ahead_value d open-is h

  code_is : forecast_from_code s.level s.phi s.trend v h ≡ forecast_code s h
  code_is = from-code s held.passes v (ahead_within d open-is h) h

  value-is : forecast_code s h ≡ 0 → trend_line (ties_to_even s.model) s.level s.phi s.trend h +ℤ v ≡ in_place_forecast d h (pos 0)
  unfolding forecast_of in_place_forecast_code in_place_forecast
  value-is e = rw (opens, e, ahead-is d open-is h (forecast-ready 512 s h e).least)

  forecast-is : forecast_from (ties_to_even s.model) s.level s.phi s.trend v h ≡ gives (in_place_forecast_code d h) (in_place_forecast d h (pos 0))
  unfolding forecast_from in_place_forecast_code
  forecast-is = rw (opens, code_is) (given-same (forecast_code s h) _ _ value-is)

  -- the numbers that the forecast is given are the state's
  answer-is : (r : Answer) (l b' a : ℤ) → r ≡ forecast_from x.even l x.numbers.phi b' a h → l ≡ x.numbers.level → b' ≡ x.numbers.trend → a ≡ ahead_in d x.period x.index h → r ≡ gives (in_place_forecast_code d h) (in_place_forecast d h (pos 0))
  answer-is r l b' a f el eb ea =
      f ∙ same _ _ _ _ _ _ _ _ _ _ h held.even (el ∙ ap (λ (n : Numbers). n.level) held.numbers) (ap (λ (n : Numbers). n.phi) held.numbers) (eb ∙ ap (λ (n : Numbers). n.trend) held.numbers) (ea ∙ ap₂ (λ (m p : ℕ). ahead_in d m p h) held.period held.index)
      ∙ forecast-is
    where
      same : (x x' : Bool) (l l' : ℤ) (F F' : ℕ) (b b' s s' : ℤ) (h : ℕ) → x ≡ x' → l ≡ l' → F ≡ F' → b ≡ b' → s ≡ s' → forecast_from x l F b s h ≡ forecast_from x' l' F' b' s' h
      same x x' l l' F F' b b' s s' h ex el ef eb es = rw (ex, el, ef, eb, es)

pub returns-in_err-x : goal.returns-in_err-x
unfolding in_place_forecast_code
returns-in_err-x c =
    let d = c.args.snapshot.now in
    check-ends _ _ (in_place_forecast d c.args.horizon (pos 0)) (not-found d c.in_err-x.ensures) c.from_residual.ensures.1

pub season_ahead-season-requires : goal.season_ahead-season-requires
season_ahead-season-requires c =
    let d = c.args.snapshot.now in
    room_in d _ (found d c.type_inv.snapshot c.in_ok-x.ensures).1

pub returns : goal.returns
returns c =
    let n = c.in_ok-x.x.numbers in
    let el = to_z-of_z w64 n.level (search rules) in
    let eb = to_z-of_z w64 n.trend (search rules) in
    let ea = to_z-of_z w64 c.season_ahead-season.result (search rules) ∙ c.season_ahead-season.ensures in
    answer-is c.args.snapshot.now c.type_inv.snapshot c.in_ok-x.x c.in_ok-x.ensures c.args.horizon _ _ _ _ c.forecast_from.ensures el eb ea
