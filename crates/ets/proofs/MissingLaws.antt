-- A missing reading without trend, and as a step with residual 0.
use Prim.Native.Nat.{ℕ, zero, suc}
use mathlib.Core.Path.{◌≡◌, refl, ap}
use mathlib.Core.Bool.{Bool, true, false, cond}
use lib.Dec.{eqb, eqb-suc-zero}
use lib.IntN.{pos, ◌+ℤ◌, +ℤ_idr}
use lib.Seq.{set-get_or}
use borrow.Author.Tests.{eqb-true}
use Rattle.models.specs.Models.{has_trend, ties_to_even}
use Rattle.state.specs.Rejections.{◌then◌, outcome}
use Rattle.state.specs.States.{check}
use Rattle.state.specs.declared.State.{State}
use Rattle.state.proofs.Tests.{then-zero, then-none}
use Rattle.state.proofs.Rounding.{share-zero}
use Rattle.state.proofs.Passing.{passed, valid, no_trend}
use Rattle.ets.specs.Steps.{damped_trend, season_due, terms_of, new_level, new_trend, new_season, advanced, corrected, after_missing, count_code, gap_code, missing_code, missing}
use Rattle.ets.specs.declared.Missed.{Missed}
use Rattle.ets.specs.Promises.{held_code, held, held_missing, Trendless, MissingLaws}
use Rattle.ets.proofs.StepLaws.{missing-facts}
use Rattle.ets.proofs.UpdateLaws.{season-is, seasonal-is}

-- ---- without trend d is 0
module _ (s : State) (flat : has_trend s.model ≡ false) where
  undamped : damped_trend s ≡ pos 0
  unfolding damped_trend
  undamped = rw flat

  level-held : advanced (terms_of s) ≡ s.level
  unfolding advanced
  level-held = rw (undamped, +ℤ_idr s.level)

  pub after-held : check s ≡ 0 → after_missing s ≡ held s
  after-held ok = rw (level-held, undamped, (no_trend s ok flat).trend)

  -- l is in range, so that 15 is never given
  code-held : missing_code s ≡ held_code s
  unfolding missing_code
  code-held = go (check s) refl
    where
      go : (n : ℕ) → check s ≡ n → (n then gap_code (terms_of s) s.count) ≡ (n then count_code s.count)
      go zero ok = rw (level-held, (passed s ok).level) (then-none (count_code s.count))
      go (suc n) e = rw (eqb-suc-zero n)

  call-held : missing s ≡ held_missing s
  unfolding missing
  call-held = rw code-held (ap told (go (eqb (held_code s) 0) refl))
    where
      told : State → Missed
      told next = record { state = next; outcome = outcome (held_code s) }

      go : (t : Bool) → eqb (held_code s) 0 ≡ t → cond t (after_missing s) s ≡ cond t (held s) s
      go true e = after-held (then-zero (check s) _ (eqb-true (held_code s) 0 e)).0
      go false e = refl

  trendless : Trendless s
  trendless = record { code = code-held; after = λ z. after-held (missing-facts s z).valid; call = call-held }

-- ---- with residual 0 each gain's share is 0
step-zero : (s : State) → check s ≡ 0 → after_missing s ≡ corrected s (pos 0) s.score
unfolding advanced new_level new_trend new_season
step-zero s ok =
    let v = valid s ok in
    rw (
      seasonal-is s v (pos 0),
      share-zero (ties_to_even s.model) s.alpha,
      share-zero (ties_to_even s.model) s.beta,
      share-zero (ties_to_even s.model) s.gamma,
      +ℤ_idr (s.level +ℤ damped_trend s),
      +ℤ_idr (damped_trend s),
      +ℤ_idr (season_due s),
      season-is s v,
      set-get_or s.seasonal s.index (pos 0),
    )

pub missing-laws : MissingLaws
missing-laws = record { trendless = trendless; step = step-zero }
