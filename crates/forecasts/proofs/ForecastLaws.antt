-- The bounds of a forecast's parts, the seasonal index that moves on with the horizon, and the list of forecasts.
use Prim.Native.Nat.{ℕ, zero, suc, ◌+◌, ◌-◌, ◌*◌, ◌%◌, ◌^◌, ◌<◌, ◌≤◌}
use mathlib.Core.Path.{◌≡◌, refl, sym, ◌∙◌}
use mathlib.Core.Bool.{Bool, true, false, cond}
use native.Mathlib.Decide.{dec_le}
use native.Mathlib.Nat.{suc-mod, mod-lt, mod-eq_of_lt, mod_self}
use native.Mathlib.Omega.{arith}
use lib.Dec.{ltb, leb}
use lib.IntN.{ℤ, pos, ◌+ℤ◌}
use lib.Signed.{mag}
use mir.Syntax.{w64}
use mir.Val.{SFits, to_z, of_z}
use mir.ValLaws.{to_z-of_z}
use lib.ListN.{length, get_or, length-append}
use borrow.Author.Tests.{lt-ltb, le-ltb, le-leb, leb-true}
use Rattle.integers.specs.Bounds.{Within}
use Rattle.integers.proofs.Difference.{back}
use Rattle.integers.proofs.Bounds.{within-le, within-add, within-fits}
use Rattle.state.specs.Fixed.{share}
use Rattle.models.specs.Models.{has_season}
use Rattle.state.specs.States.{check}
use Rattle.state.specs.declared.State.{State}
use Rattle.integers.proofs.Tests.{both}
use Rattle.state.proofs.Tests.{then-zero, unless-zero}
use Rattle.state.proofs.Rounding.{share-within}
use Rattle.state.specs.Valid.{Valid}
use Rattle.state.proofs.Passing.{bounded, range-in}
use Rattle.calendars.specs.Turns.{next_index}
use Rattle.forecasts.specs.Forecasts.{trend_at, trend_line, season_at, horizon_ok, forecast_code_to, forecast_code, forecast_from_code, forecast_list}

-- the horizon of a forecast that is not rejected
pub record Ready (limit : ℕ) (s : State) (h : ℕ) : Type 0 where
  pub valid : check s ≡ 0
  pub least : 1 ≤ h
  pub most : h ≤ limit

pub forecast-ready : (limit : ℕ) (s : State) (h : ℕ) → forecast_code_to limit s h ≡ 0 → Ready limit s h
unfolding forecast_code_to
forecast-ready limit s h z =
    let a = then-zero (check s) _ z in
    let p = both (leb 1 h) (leb h limit) (unless-zero (horizon_ok limit h) 10 a.1) in
    record { valid = a.0; least = leb-true 1 h p.0; most = leb-true h limit p.1 }

-- each trend is no larger than b
pub trend-within : (even : Bool) {n : ℕ} {b : ℤ} (F : ℕ) → F ≤ 65536 → Within n b → (j : ℕ) → Within n (trend_at even F b j)
unfolding trend_at
trend-within even F h w zero = w
trend-within even F h w (suc j) = share-within even h (trend-within even F h w j)

pub line-within : (even : Bool) {l b : ℤ} (F : ℕ) → F ≤ 65536 → Within 1099511627776 l → Within 1099511627776 b → (h : ℕ) → Within (1099511627776 + 1099511627776 * h) (trend_line even l F b h)
unfolding trend_line
line-within even F f l b zero = l
line-within even F f l b (suc h) = within-le _ (omega arith) (within-add (line-within even F f l b h) (trend-within even F f b (suc h)))

-- ---- the seasonal index i steps on
unfoldable pub ahead : ℕ → ℕ → ℕ → ℕ
ahead m p zero = p
ahead m p (suc i) = next_index m (ahead m p i)

next_small : (m p : ℕ) → m ≤ 48 → next_index m p < 48
unfolding next_index
next_small m p h = go (dec_le m (p + 1))
  where
    go : Dec (m ≤ p + 1) → cond (ltb (p + 1) m) (p + 1) 0 < 48
    go (yes l) = rw (le-ltb (p + 1) m l) (omega arith)
    go (no l) = rw (lt-ltb (p + 1) m (omega arith)) (omega arith)

pub ahead_small : (m p i : ℕ) → m ≤ 48 → p < 48 → ahead m p i < 48
unfolding ahead
ahead_small m p zero h k = k
ahead_small m p (suc i) h k = next_small m (ahead m p i) h

-- it is the remainder by m
next-mod : (m x : ℕ) → 0 < m → next_index m (x % m) ≡ suc x % m
unfolding next_index
next-mod m x h = go (dec_le m (x % m + 1))
  where
    go : Dec (m ≤ x % m + 1) → cond (ltb (x % m + 1) m) (x % m + 1) 0 ≡ suc x % m
    go (yes l) =
        let e : suc (x % m) ≡ m = omega (arith, mod-lt x h) in
        rw (le-ltb (x % m + 1) m l, suc-mod x m, e) (sym (mod_self m))
    go (no l) =
        let k : suc (x % m) < m = omega arith in
        rw (lt-ltb (x % m + 1) m (omega arith), suc-mod x m, mod-eq_of_lt k) (omega arith)

ahead-mod : (m p i : ℕ) → p < m → ahead m p i ≡ (p + i) % m
unfolding ahead
ahead-mod m p zero h = let e : p + 0 ≡ p = omega arith in rw (e, mod-eq_of_lt h)
ahead-mod m p (suc i) h =
    let e : p + suc i ≡ suc (p + i) = omega arith in
    rw (ahead-mod m p i h, e) (next-mod m (p + i) (omega arith))

-- without season it stays 0
ahead_none : (i : ℕ) → ahead 0 0 i ≡ 0
unfolding ahead next_index
ahead_none zero = refl
ahead_none (suc i) = rw (ahead_none i)

-- what the code reads at it is the season's value for the next horizon
pub season-ahead : (s : State) → Valid s → (i : ℕ) → season_at s (suc i) ≡ get_or s.seasonal (ahead s.period s.index i) (pos 0)
unfolding season_at
season-ahead s v i = go (has_season s.model) refl
  where
    go : (t : Bool) → has_season s.model ≡ t → cond t (get_or s.seasonal ((s.index + suc i - 1) % s.period) (pos 0)) (pos 0) ≡ get_or s.seasonal (ahead s.period s.index i) (pos 0)
    go true h =
        let e : s.index + suc i - 1 ≡ s.index + i = omega arith in
        rw (e, ahead-mod s.period s.index i (v.with_season h).index)
    go false h =
        let none = v.no_season h in
        rw (none.period, none.index, ahead_none i) (sym (none.cells 0 (omega arith)))

-- ---- the list of forecasts
pub list_length : (s : State) (h : ℕ) → length (forecast_list s h) ≡ h
unfolding forecast_list
list_length s zero = refl
list_length s (suc h) = rw (length-append, list_length s h) (omega arith)

-- ---- a turn of the loops: d is the trend and l the line of i steps from numbers within their bounds, and r is the share F of d
pub record Turn (even : Bool) (l : ℤ) (F : ℕ) (b : ℤ) (i : ℕ) (line r : ℤ) : Type 0 where
  pub trend : to_z w64 (of_z w64 r) ≡ trend_at even F b (suc i)
  pub fits : SFits w64 (line +ℤ to_z w64 (of_z w64 r))
  pub line-is : to_z w64 (of_z w64 (line +ℤ to_z w64 (of_z w64 r))) ≡ trend_line even l F b (suc i)

module _ (even : Bool) (l : ℤ) (F : ℕ) (b : ℤ) (f : F ≤ 65536) (wl : Within 1099511627776 l) (wb : Within 1099511627776 b) where
  pub line-bound : (h : ℕ) → h ≤ 512 → Within 564049465049088 (trend_line even l F b h)
  line-bound h k = within-le 564049465049088 (omega arith) (line-within even F f wl wb h)

  pub trend-bound : (i : ℕ) → Within 8796093022208 (trend_at even F b i)
  trend-bound i = within-le 8796093022208 (omega arith) (trend-within even F f wb i)

  pub turn : (i : ℕ) → i < 512 → (d line r : ℤ) → d ≡ trend_at even F b i → line ≡ trend_line even l F b i → mag r < 2 ^ 63 → r ≡ share even F d → Turn even l F b i line r
  unfolding trend_at trend_line
  turn i h d line r ed el fr er =
      let t : to_z w64 (of_z w64 r) ≡ trend_at even F b (suc i) = back w64 r fr ∙ er ∙ rw ed in
      let w : SFits w64 (trend_line even l F b (suc i)) = within-fits w64 (line-bound (suc i) (omega arith)) (omega arith) in
      record { trend = t; fits = rw (t, el) w; line-is = rw (t, el) (to_z-of_z w64 (trend_line even l F b (suc i)) w) }

-- ---- the forecast on the numbers of a state that passes its checks, with any season value in range, is rejected as the state's
pub from-code : (s : State) → check s ≡ 0 → (v : ℤ) → Within 1099511627776 v → (h : ℕ) → forecast_from_code s.level s.phi s.trend v h ≡ forecast_code s h
unfolding forecast_code_to
from-code s ok v w h =
    let b = bounded s ok in
    rw (ok, le-leb _ _ b.phi, range-in _ b.level, range-in _ b.trend, range-in _ w)
