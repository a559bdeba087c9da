-- The window's answer is the largest forecast inside: of the steps up to each one, by induction.
use Prim.Native.Nat.{ℕ, zero, suc, ◌≤◌, ◌<◌}
use mathlib.Core.Path.{◌≡◌, refl, sym, ◌∙◌, subst}
use mathlib.Core.Bool.{Bool, true, false, cond, not, ◌&&◌, ◌||◌, false≢true}
use mathlib.Core.Logic.{◌⊎◌, inl, inr}
use mathlib.Core.List.{List}
use native.Mathlib.Nat.{eq-or-lt_of_le, le_of_suc-le-suc}
use native.Mathlib.Omega.{arith}
use lib.IntN.{ℤ}
use lib.Signed.{lt_z, ◌≤ℤ◌}
use Rattle.integers.proofs.Difference.{ints}
use Rattle.calendars.specs.Calendars.{Calendar}
use Rattle.state.specs.Rejections.{unless, bad_calendar}
use Rattle.state.specs.States.{check}
use Rattle.state.specs.declared.State.{State}
use Rattle.state.proofs.Answers.{answer-accepted}
use Rattle.state.proofs.Tests.{then-zero, unless-zero}
use Rattle.ets.specs.Calendars.{calendar_code}
use Rattle.forecasts.specs.Calendars.{place_by, forecast_by}
use Rattle.clock.specs.Windows.{window_ok, in_window, inside_to, inside, is_some, largest, window_code, window_maximum}
use Rattle.clock.specs.Promises.{IsLargest, WindowMaxima}
use Rattle.clock.proofs.WindowLaws.{some_next, best-next}
use Rattle.std.specs.Prelude.{Ok}

or-true : (x : Bool) → (x || true) ≡ true
or-true true = refl
or-true false = refl

-- up to a step or at it
up_to : {P : ℕ → Type 0} (i : ℕ) → ((h : ℕ) → 1 ≤ h → h ≤ i → P h) → P (suc i) → (h : ℕ) → 1 ≤ h → h ≤ suc i → P h
up_to {P} i f g h l u = go (eq-or-lt_of_le u)
  where
    go : (h ≡ suc i) ⊎ (h < suc i) → P h
    go (inl e) = subst P (sym e) g
    go (inr b) = f h l (le_of_suc-le-suc b)

module _ (k : Calendar) (s : State) (start end : ℕ) where
  abbrev here : ℕ → Bool
  here h = in_window start end (place_by k s h)

  abbrev list : ℕ → List ℤ
  list h = inside_to k s start end h

  abbrev best : ℕ → ℤ
  best h = largest (list h)

  -- of the steps 1 to i none is inside, or one has the largest forecast
  pub record None (i : ℕ) : Type 0 where
    pub some : is_some (list i) ≡ false
    pub outside : (h : ℕ) → 1 ≤ h → h ≤ i → here h ≡ false

  pub record One (i : ℕ) : Type 0 where
    pub some : is_some (list i) ≡ true
    pub step : ℕ
    pub least : 1 ≤ step
    pub most : step ≤ i
    pub place : here step ≡ true
    pub value : forecast_by k s step ≡ best i
    pub others : (h : ℕ) → 1 ≤ h → h ≤ i → here h ≡ true → forecast_by k s h ≤ℤ best i

  -- the numbers one step on
  some_is : (i : ℕ) (x y : Bool) → is_some (list i) ≡ x → here (suc i) ≡ y → is_some (list (suc i)) ≡ (x || y)
  some_is i x y ex ey = sym (some_next k s start end i) ∙ rw (ex, ey)

  best-is : (i : ℕ) (x y z : Bool) → is_some (list i) ≡ x → here (suc i) ≡ y → lt_z (best i) (forecast_by k s (suc i)) ≡ z → best (suc i) ≡ cond (y && (not x || z)) (forecast_by k s (suc i)) (best i)
  best-is i x y z ex ey ez = sym (best-next k s start end i) ∙ rw (ex, ey, ez)

  no_less : (x : ℤ) → x ≤ℤ x
  no_less x = omega ints

  at_most : (x y : ℤ) → lt_z x y ≡ false → y ≤ℤ x
  at_most x y e = omega ints

  further : (x y z : ℤ) → z ≤ℤ x → lt_z x y ≡ true → z ≤ℤ y
  further x y z l e = omega ints

  pub maximum : (i : ℕ) → None i ⊎ One i
  unfolding inside_to
  maximum zero = inl (record { some = refl; outside = λ h l u. absurd (omega arith) })
  maximum (suc i) = go (maximum i) (here (suc i)) refl (lt_z (best i) v) refl
    where
      v : ℤ
      v = forecast_by k s (suc i)

      -- the step is the one
      new : (x : Bool) → is_some (list i) ≡ x → here (suc i) ≡ true → best (suc i) ≡ v → ((h : ℕ) → 1 ≤ h → h ≤ i → here h ≡ true → forecast_by k s h ≤ℤ v) → One (suc i)
      new x ex ey eb f =
          record {
            some = some_is i x true ex ey ∙ or-true x;
            step = suc i;
            least = omega arith;
            most = omega arith;
            place = ey;
            value = sym eb;
            others = rw eb (up_to i f (λ _. no_less v));
          }

      -- or the one before stays
      old : (o : One i) (y : Bool) → here (suc i) ≡ y → best (suc i) ≡ best i → (y ≡ true → v ≤ℤ best i) → One (suc i)
      old o y ey eb f =
          record {
            some = some_is i true y o.some ey;
            step = o.step;
            least = o.least;
            most = omega (arith, o.most);
            place = o.place;
            value = o.value ∙ sym eb;
            others = rw eb (up_to i o.others (λ e. f (sym ey ∙ e)));
          }

      go : None i ⊎ One i → (y : Bool) → here (suc i) ≡ y → (z : Bool) → lt_z (best i) v ≡ z → None (suc i) ⊎ One (suc i)
      go (inl n) false ey z ez = inl (record { some = some_is i false false n.some ey; outside = up_to i n.outside ey })
      go (inl n) true ey z ez =
          inr (new false n.some ey (best-is i false true z n.some ey ez) (λ h l u e. absurd (false≢true (sym (n.outside h l u) ∙ e))))
      go (inr o) false ey z ez = inr (old o false ey (best-is i true false z o.some ey ez) (λ e. absurd (false≢true e)))
      go (inr o) true ey true ez =
          inr (new true o.some ey (best-is i true true true o.some ey ez) (λ h l u e. further (best i) v (forecast_by k s h) (o.others h l u e) ez))
      go (inr o) true ey false ez = inr (old o true ey (best-is i true true false o.some ey ez) (λ _. at_most (best i) v ez))

-- ---- the call
module _ (k : Calendar) (s : State) (start end : ℕ) (v : ℤ) (e : window_maximum k s start end ≡ Ok v) where
  told : (window_code k s start end ≡ 0) × (largest (inside k s start end) ≡ v)
  unfolding window_maximum
  told = answer-accepted (window_code k s start end) (largest (inside k s start end)) v e

  some-inside : is_some (inside k s start end) ≡ true
  unfolding window_code
  some-inside =
      let a = then-zero (check s) _ told.0 in
      let b = then-zero (calendar_code s.period k) _ a.1 in
      let c = then-zero (unless (window_ok start end) bad_calendar) _ b.1 in
      unless-zero (is_some (inside k s start end)) 19 c.1

  largest-is : None k s start end 24 ⊎ One k s start end 24 → IsLargest k s start end v
  largest-is (inl n) = absurd (false≢true (sym n.some ∙ some-inside))
  largest-is (inr o) =
      record {
        one = record { step = o.step; least = o.least; most = o.most; place = o.place; value = o.value ∙ told.1 };
        others = λ h l u p. rw (← told.1) (o.others h l u p);
      }

pub window-maxima : WindowMaxima
window-maxima k s start end v e = largest-is k s start end v e (maximum k s start end 24)
