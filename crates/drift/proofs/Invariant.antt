-- The invariant of a list of calls: a state against the exact recursion that runs beside it. It is kept by a reading, by a missing one, by a switch of the rounding rule and
-- where a list took effect.
use mathlib.Core.Path.{◌≡◌, refl, sym, ◌∙◌, ap, subst}
use mathlib.Core.Bool.{Bool, true, false, cond, not, false≢true}
use Prim.Native.Nat.{ℕ, suc, ◌+◌, ◌*◌, ◌-◌, ◌^◌, ◌≤◌, ◌<◌}
use native.Mathlib.Decide.{ℕ_discrete}
use native.Mathlib.Numerals.{add-one}
use native.Mathlib.Omega.{arith}
use lib.Dec.{T, ltb, ltb→lt, nltb→le}
use lib.IntN.{ℤ, pos}
use lib.ListN.{length, get_or}
use Rattle.models.specs.Models.{has_trend, has_season}
use Rattle.state.specs.States.{Typed, index_ok, check}
use Rattle.state.specs.Switching.{switched}
use Rattle.state.specs.declared.State.{State}
use Rattle.state.proofs.Passing.{bounded, no_season, with_season}
use Rattle.state.proofs.Switches.{switch-law}
use Rattle.calendars.specs.Turns.{next_index}
use Rattle.ets.specs.Steps.{seasonal_by, after_reading, after_missing}
use Rattle.ets.specs.Promises.{held}
use Rattle.ets.proofs.Kept.{reading-typed}
use Rattle.ets.proofs.CalendarLaws.{placed, placed-kept}
use Rattle.ets.proofs.MissingLaws.{after-held}
use Rattle.drift.proofs.Averages.{D, neg_d, zero_d, Same, StepBelow, half-mix, half-keep, plain-mix}
use Rattle.drift.proofs.Cycles.{CycleInvariant, negs, inv-step, inv-wrap}
use Rattle.drift.proofs.Errors.{parts, err, Both}
use Rattle.drift.proofs.Turns.{shifted}
use Rattle.drift.proofs.Readings.{power, power-next, level_err, season_err, reading-below, reading-above}
use Rattle.drift.specs.Exact.{Parameters, parameters_of, Exact, exact_reading, exact_missing, exact_season_by}

-- 2 a |d| ≤ e
abbrev pub Sized : ℕ → ℕ → D → Type 0
Sized a e d = (2 * a * d.1 ≤ 2 * a * d.0 + e) × (2 * a * d.0 ≤ 2 * a * d.1 + e)

pub record Good (c : Parameters) (s : State) (x : Exact) : Type 0 where
  pub passes : check s ≡ 0
  pub typed : Typed s
  pub flat : has_trend s.model ≡ false
  pub index : x.p ≡ s.index
  pub count : x.count ≡ s.count
  pub bare : c.seasonal ≡ false → (k : ℕ) → x.S k ≡ pos 0
  pub level : Both (x.n * power x) (level_err s x) zero_d
  pub places : (k : ℕ) → Both (x.n * power x) (season_err s x k) zero_d
  pub plain : c.seasonal ≡ false → Sized (65536 * c.alpha) (4294967296 * power x) (level_err s x)
  pub cycle : c.seasonal ≡ true → c.alpha < 65536 → 0 < c.gamma → x.missed ≡ 0 → x.changed ≡ 0 → CycleInvariant 4294967296 (65536 * (65536 - c.alpha)) (65536 * c.gamma) c.period (power x) s.index (level_err s x) (season_err s x)

-- ---- the next place
data Next (m p : ℕ) : ℕ → Type 0 where
  on : suc p < m → Next m p (suc p)
  round : m ≤ suc p → Next m p 0

next : (m p : ℕ) → Next m p (next_index m p)
unfolding next_index
next m p = go (ltb (p + 1) m) (λ t. ltb→lt (p + 1) m t) (λ t. nltb→le (p + 1) m t)
  where
    go : (b : Bool) → (T b → p + 1 < m) → (T (not b) → m ≤ p + 1) → Next m p (cond b (p + 1) 0)
    go true f g = rw (add-one p) (on (omega (arith, f tt)))
    go false f g = round (omega (arith, g tt))

inv-next : (K B G C m Kn p q : ℕ) (δ : D) (τ : ℕ → D) → G + C ≡ K → 0 < K → p < m → Next m p q → CycleInvariant K B G m Kn (suc p) δ τ → CycleInvariant K B G m Kn q δ τ
inv-next K B G C m Kn p q δ τ f K> hp (on h) i = i
inv-next K B G C m Kn p q δ τ f K> hp (round h) i =
    inv-wrap K B G C m Kn f K> δ τ (subst (λ (z : ℕ). CycleInvariant K B G m Kn z δ τ) (omega arith) i)

-- without season no place has an error
idle : (b : Bool) (Kn : ℕ) (v S : ℤ) → b ≡ false → S ≡ pos 0 → Same (neg_d (err Kn (parts (cond b v (pos 0))) (parts S))) zero_d
idle true Kn v S h e = absurd (false≢true (sym h))
idle false Kn v S h e = rw e (omega arith)

module _ (s : State) (x : Exact) (w : Good (parameters_of s) s x) where
  B : ℕ
  B = 65536 - s.alpha

  C : ℕ
  C = 65536 - s.gamma

  h_a : 65536 * s.alpha + 65536 * B ≡ 4294967296
  unfolding B
  h_a = omega (arith, (bounded s w.passes).alpha)

  h_g : 65536 * s.gamma + 65536 * C ≡ 4294967296
  unfolding C
  h_g = omega (arith, (bounded s w.passes).gamma)

  fits : s.index < length s.seasonal
  fits = omega (arith, (bounded s w.passes).index, w.typed.cells)

  none : has_season s.model ≡ false → (s.gamma ≡ 0) × ((k : ℕ) → x.S k ≡ pos 0)
  none h = ((no_season s w.passes h).gamma, w.bare h)

  -- ---- a reading accepted
  module _ (y : ℤ) where
    s' : State
    s' = after_reading s y

    x' : Exact
    x' = exact_reading (parameters_of s) x y

    grown : 4294967296 * power x ≡ 65536 ^ (2 * suc x.n)
    grown = sym (power-next x.n)

    below : StepBelow 4294967296 (65536 * s.alpha) (65536 * B) (65536 * s.gamma) (65536 * C) (power x) s.index (level_err s x) (season_err s x) (level_err s' x') (season_err s' x')
    unfolding s' x'
    below = reading-below s x y B C h_a h_g w.flat w.index none fits

    above : StepBelow 4294967296 (65536 * s.alpha) (65536 * B) (65536 * s.gamma) (65536 * C) (power x) s.index (neg_d (level_err s x)) (negs (season_err s x)) (neg_d (level_err s' x')) (negs (season_err s' x'))
    unfolding s' x'
    above = reading-above s x y B C h_a h_g w.flat w.index none fits

    level' : Both (suc x.n * (4294967296 * power x)) (level_err s' x') zero_d
    level' = (
      half-mix 4294967296 (65536 * s.alpha) (65536 * B) (power x) x.n (level_err s x) (season_err s x s.index) (level_err s' x') h_a w.level.0 (w.places s.index).0 below.level,
      half-mix 4294967296 (65536 * s.alpha) (65536 * B) (power x) x.n (neg_d (level_err s x)) (neg_d (season_err s x s.index)) (neg_d (level_err s' x')) h_a w.level.1 (w.places s.index).1 above.level,
    )

    season' : (k : ℕ) → Dec (k ≡ s.index) → Both (suc x.n * (4294967296 * power x)) (season_err s' x' k) zero_d
    season' k (yes q) =
        subst (λ (z : ℕ). Both (suc x.n * (4294967296 * power x)) (season_err s' x' z) zero_d) (sym q) (
          half-mix 4294967296 (65536 * s.gamma) (65536 * C) (power x) x.n (season_err s x s.index) (level_err s x) (season_err s' x' s.index) h_g (w.places s.index).0 w.level.0 below.here,
          half-mix 4294967296 (65536 * s.gamma) (65536 * C) (power x) x.n (neg_d (season_err s x s.index)) (neg_d (level_err s x)) (neg_d (season_err s' x' s.index)) h_g (w.places s.index).1 w.level.1 above.here,
        )
    season' k (no q) = (
      half-keep 4294967296 (power x) x.n (season_err s x k) (season_err s' x' k) (w.places k).0 (below.there k q),
      half-keep 4294967296 (power x) x.n (neg_d (season_err s x k)) (neg_d (season_err s' x' k)) (w.places k).1 (above.there k q),
    )

    plain' : has_season s.model ≡ false → Sized (65536 * s.alpha) (4294967296 * (4294967296 * power x)) (level_err s' x')
    plain' h = (
      plain-mix 4294967296 (65536 * s.alpha) (65536 * B) (power x) (level_err s x) (season_err s x s.index) (level_err s' x') h_a (w.plain h).0 still below.level,
      plain-mix 4294967296 (65536 * s.alpha) (65536 * B) (power x) (neg_d (level_err s x)) (neg_d (season_err s x s.index)) (neg_d (level_err s' x')) h_a (w.plain h).1 (sym still) above.level,
    )
      where
        still : Same (season_err s x s.index) zero_d
        still = idle (has_season s.model) (power x) (get_or s.seasonal s.index (pos 0)) (x.S s.index) h (w.bare h s.index)

    cycle' : has_season s.model ≡ true → s.alpha < 65536 → 0 < s.gamma → x.missed ≡ 0 → x.changed ≡ 0 → CycleInvariant 4294967296 (65536 * (65536 - s.alpha)) (65536 * s.gamma) s.period (4294967296 * power x) (next_index s.period s.index) (level_err s' x') (season_err s' x')
    unfolding B
    cycle' h a g z u =
        inv-next 4294967296 (65536 * B) (65536 * s.gamma) (65536 * C) s.period (4294967296 * power x) s.index (next_index s.period s.index) (level_err s' x') (season_err s' x') h_g (omega arith) (with_season s w.passes h).index (next s.period s.index)
        (inv-step 4294967296 (65536 * s.alpha) (65536 * B) (65536 * s.gamma) (65536 * C) s.period (power x) s.index (level_err s x) (season_err s x) (level_err s' x') (season_err s' x') h_a h_g (with_season s w.passes h).index below above (w.cycle h a g z u))

    pub good-reading : check (after_reading s y) ≡ 0 → Good (parameters_of s) (after_reading s y) (exact_reading (parameters_of s) x y)
    unfolding s' x' seasonal_by exact_season_by
    good-reading ok =
        record {
          passes = ok;
          typed = reading-typed s y w.typed;
          flat = w.flat;
          index = ap (next_index s.period) w.index;
          count = omega (arith, w.count);
          bare = λ h k. rw h;
          level = subst (λ (P : ℕ). Both (suc x.n * P) (level_err s' x') zero_d) grown level';
          places = λ k. subst (λ (P : ℕ). Both (suc x.n * P) (season_err s' x' k) zero_d) grown (season' k (ℕ_discrete k s.index));
          plain = λ h. subst (λ (P : ℕ). Sized (65536 * s.alpha) (4294967296 * P) (level_err s' x')) grown (plain' h);
          cycle = λ h a g z u. subst (λ (P : ℕ). CycleInvariant 4294967296 (65536 * (65536 - s.alpha)) (65536 * s.gamma) s.period P (next_index s.period s.index) (level_err s' x') (season_err s' x')) grown (cycle' h a g z u);
        }

  -- ---- a missing reading accepted: without trend it only moves p
  x'' : Exact
  x'' =
      record { L = x.L; T = x.T; S = x.S; p = next_index s.period x.p; n = x.n; count = suc x.count; missed = suc x.missed; changed = x.changed }

  exact-held : exact_missing (parameters_of s) x ≡ x''
  unfolding x''
  exact-held = rw w.flat

  held-good : check (held s) ≡ 0 → Good (parameters_of s) (held s) x''
  unfolding x''
  held-good ok =
      record {
        passes = ok;
        typed = record { cells = w.typed.cells; low = w.typed.low };
        flat = w.flat;
        index = ap (next_index s.period) w.index;
        count = omega (arith, w.count);
        bare = w.bare;
        level = w.level;
        places = w.places;
        plain = w.plain;
        cycle = λ h a g z u. absurd (omega arith);
      }

  pub good-missing : check (after_missing s) ≡ 0 → Good (parameters_of s) (after_missing s) (exact_missing (parameters_of s) x)
  good-missing ok =
      let e = after-held s w.flat w.passes in
      subst (λ (z : Exact). Good (parameters_of s) (after_missing s) z) (sym exact-held)
      (subst (λ (t : State). Good (parameters_of s) t x'') (sym e) (held-good (rw e at ok)))

-- ---- a switch: no value moves, and the model keeps its season
pub good-switch : (c : Parameters) (s : State) (x : Exact) → Good c s x → Good c (switched s) x
good-switch c s x w =
    let law = switch-law s in
    record {
      passes = law.checks ∙ w.passes;
      typed = record { cells = w.typed.cells; low = w.typed.low };
      flat = law.trend ∙ w.flat;
      index = w.index;
      count = w.count;
      bare = w.bare;
      level = w.level;
      places = rw law.season w.places;
      plain = w.plain;
      cycle = λ h a g z u. subst (λ (b : Bool). CycleInvariant 4294967296 (65536 * (65536 - c.alpha)) (65536 * c.gamma) c.period (power x) s.index (level_err s x) (λ k. neg_d (err (power x) (parts (cond b (get_or s.seasonal k (pos 0)) (pos 0))) (parts (x.S k))))) (sym law.season) (w.cycle h a g z u);
    }

-- ---- a list took effect: state and exact recursion stand at another place, and the cycle is claimed no more
pub good_placed : (c : Parameters) (s : State) (x : Exact) → Good c s x → (p : ℕ) → index_ok s.period p ≡ true → Good c (placed s p) (shifted x p)
good_placed c s x w p h =
    record {
      passes = placed-kept s p w.passes h;
      typed = record { cells = w.typed.cells; low = w.typed.low };
      flat = w.flat;
      index = refl;
      count = w.count;
      bare = w.bare;
      level = w.level;
      places = w.places;
      plain = w.plain;
      cycle = λ h a g z u. absurd (omega arith);
    }
