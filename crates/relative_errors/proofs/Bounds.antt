-- The forecasts and the coefficients of a state that passes its checks: each is a double, and the arrays hold the squares of the definition.
use Prim.Native.Nat.{ℕ, zero, suc, ◌-◌, ◌≤◌, ◌<◌}
use mathlib.Core.Path.{◌≡◌, refl, ap, ◌∙◌}
use mathlib.Core.Bool.{true}
use mathlib.Core.List.{List, ◌++◌}
use native.Mathlib.Omega.{arith}
use borrow.Author.Tests.{le-leb, leb-true}
use lib.Dec.{leb}
use lib.IntN.{ℤ, pos, negsuc, nat_abs}
use lib.ListN.{length, get_or, drop, get_or-append}
use lib.Ieee.{Float, nan}
use Rattle.integers.specs.Bounds.{Within}
use Rattle.integers.proofs.Bounds.{within-parts, within-add}
use Rattle.integers.proofs.Snoc.{snoc-at}
use Rattle.models.specs.Models.{ties_to_even}
use Rattle.std.proofs.Common.{Err}
use Rattle.state.specs.Valid.{Valid}
use Rattle.state.specs.declared.Rejection.{Rejection}
use Rattle.state.specs.declared.State.{State}
use Rattle.state.proofs.Answers.{refuses}
use Rattle.state.proofs.Tests.{then-zero, unless-then, unless-zero}
use Rattle.forecasts.specs.Forecasts.{season_at, forecast_of, forecast_list, forecast_code_to, forecasts_code_to, forecasts_code, forecasts_to, forecasts, forecast_cells_to, forecast_cells}
use Rattle.forecasts.proofs.ForecastLaws.{Ready, line-bound, season-ahead, ahead_small, list_length}
use Rattle.weights.specs.Weights.{coefficient, errors_code}
use Rattle.weights.specs.Coefficients.{coefficient_list, coefficients, coefficient_cells}
use Rattle.weights.proofs.Rejecting.{errors-ready}
use Rattle.weights.proofs.CoefficientLaws.{coefficients-length, coefficient-most}
use Rattle.relative_errors.specs.Relative.{one_bits, squared, squared_mean, squared_coefficient, input_code}
use Rattle.relative_errors.specs.Facts.{means_in, squares_in, square_list, Small, SmallMeans}
use Rattle.relative_errors.proofs.Recursion.{squares-length}

-- ---- bounds
within-size : {n : ℕ} (x : ℤ) → Within n x → nat_abs x ≤ n
within-size (pos k) w = omega (arith, (within-parts w).1)
within-size (negsuc k) w = omega (arith, (within-parts w).0)

season-within : (s : State) → Valid s → (h : ℕ) → 1 ≤ h → Within 1099511627776 (season_at s h)
season-within s v zero l = absurd (omega arith)
season-within s v (suc i) l =
    rw (season-ahead s v i) (v.bounded.cells _ (ahead_small s.period s.index i v.bounded.period v.bounded.index))

pub mean-small : (s : State) → Valid s → (h : ℕ) → 1 ≤ h → h ≤ 512 → nat_abs (forecast_of s h) ≤ 9007199254740992
unfolding forecast_of
mean-small s v h l m =
    let b = v.bounded in
    omega (arith, within-size (forecast_of s h) (within-add (line-bound (ties_to_even s.model) s.level s.phi s.trend b.phi b.level b.trend h m) (season-within s v h l)))

pub coefficient-small : (s : State) → Valid s → (j : ℕ) → j ≤ 512 → coefficient s j ≤ 9007199254740992
coefficient-small s v j m = omega (arith, coefficient-most s v j m)

-- ---- what stands at each place of the lists
forecast-at : (s : State) (h i : ℕ) (rest : List ℤ) → i < h → get_or (forecast_list s h ++ rest) i (pos 0) ≡ forecast_of s (suc i)
unfolding forecast_list
forecast-at s h i rest l =
    get_or-append (forecast_list s h) rest (pos 0) i (omega (arith, list_length s h))
    ∙ snoc-at (forecast_list s) (λ (n : ℕ). forecast_of s (suc n)) (pos 0) (λ n. refl) (list_length s) h i l

coefficient-at : (s : State) (h i : ℕ) (rest : List ℕ) → i < h → get_or (coefficient_list s h ++ rest) i 0 ≡ coefficient s (suc i)
unfolding coefficient_list
coefficient-at s h i rest l =
    get_or-append (coefficient_list s h) rest 0 i (omega (arith, coefficients-length s h))
    ∙ snoc-at (coefficient_list s) (λ (n : ℕ). coefficient s (suc n)) 0 (λ n. refl) (coefficients-length s) h i l

square-at : (ns : List ℕ) (h i : ℕ) (rest : List Float) → i < h → get_or (square_list ns h ++ rest) i nan ≡ squared (pos (get_or ns i 0))
unfolding square_list
square-at ns h i rest l =
    get_or-append (square_list ns h) rest nan i (omega (arith, squares-length ns h))
    ∙ snoc-at (square_list ns) (λ (n : ℕ). squared (pos (get_or ns n 0))) nan (λ n. refl) (squares-length ns) h i l

-- ---- what the calls for all forecasts and all coefficients leave in an array that has room
-- a call that nothing but 19 rejects
pub record Taken (s : State) (h bits room : ℕ) : Type 0 where
  pub ready : Ready 512 s h
  pub sigma2 : bits ≤ one_bits
  pub fits : h ≤ room

pub taken : (s : State) (h bits room : ℕ) → input_code s h bits room ≡ 0 → Taken s h bits room
unfolding input_code
taken s h bits room z =
    let a = then-zero (errors_code true s h) _ z in
    let b = unless-then (leb bits one_bits) 17 _ a.1 in
    record {
      ready = errors-ready true s h a.0;
      sigma2 = leb-true bits one_bits b.0;
      fits = leb-true h room (unless-zero (leb h room) 11 b.1);
    }

accepted : (s : State) (h room : ℕ) → Ready 512 s h → h ≤ room → forecasts_code s h room ≡ 0
unfolding forecasts_code_to forecast_code_to
accepted s h room o l = rw (o.valid, le-leb 1 h o.least, le-leb h 512 o.most, le-leb h room l)

-- no such call is refused
pub forecasts-taken : (s : State) (h room : ℕ) {e : Rejection} → Ready 512 s h → h ≤ room → Err e ≡ forecasts s h room → ⊥
unfolding forecasts_to
forecasts-taken s h room o l q = refuses q (accepted s h room o l)

pub coefficients-taken : (s : State) (h room : ℕ) {e : Rejection} → Ready 512 s h → h ≤ room → Err e ≡ coefficients s h room → ⊥
unfolding coefficients
coefficients-taken s h room o l q = refuses q (accepted s h room o l)

pub forecasts-filled : (s : State) (h : ℕ) (cells : List ℤ) {ms : List ℤ} → Ready 512 s h → h ≤ length cells → ms ≡ forecast_cells s h cells → ms ≡ forecast_list s h ++ drop h cells
unfolding forecast_cells_to
forecasts-filled s h cells o l e = rw (accepted s h (length cells) o l) at e

pub coefficients-filled : (s : State) (h : ℕ) (cells : List ℕ) {cs : List ℕ} → Ready 512 s h → h ≤ length cells → cs ≡ coefficient_cells s h cells → cs ≡ coefficient_list s h ++ drop h cells
unfolding coefficient_cells
coefficients-filled s h cells o l e = rw (accepted s h (length cells) o l) at e

-- ---- the arrays of a call that nothing but 19 rejects
module _ (s : State) (v : Valid s) (h : ℕ) (most : h ≤ 512) where
  module _ (ms rest : List ℤ) (is : ms ≡ forecast_list s h ++ rest) where
    mean-at : (i : ℕ) → i < h → get_or ms i (pos 0) ≡ forecast_of s (suc i)
    mean-at i l = rw is (forecast-at s h i rest l)

    pub means-small : SmallMeans ms h
    means-small i l = rw (mean-at i l) (mean-small s v (suc i) (omega arith) (omega arith))

    pub means-are : (k : ℕ) → 1 ≤ k → k ≤ h → means_in ms k ≡ squared_mean s k
    unfolding squared_mean
    means-are k l m =
        let e : suc (k - 1) ≡ k = omega arith in
        ap squared (mean-at (k - 1) (omega arith) ∙ rw e)

  module _ (cs rest : List ℕ) (is : cs ≡ coefficient_list s h ++ rest) where
    c-at : (i : ℕ) → i < h → get_or cs i 0 ≡ coefficient s (suc i)
    c-at i l = rw is (coefficient-at s h i rest l)

    pub coefficients-small : Small cs h
    coefficients-small i l = rw (c-at i l) (coefficient-small s v (suc i) (omega arith))

    pub squares-are : (c2 more : List Float) → c2 ≡ square_list cs h ++ more → (j : ℕ) → 1 ≤ j → j ≤ h → squares_in c2 j ≡ squared_coefficient s j
    unfolding squared_coefficient
    squares-are c2 more q j l m =
        let e : suc (j - 1) ≡ j = omega arith in
        rw q (square-at cs h (j - 1) more (omega arith) ∙ ap (λ (n : ℕ). squared (pos n)) (c-at (j - 1) (omega arith) ∙ rw e))
