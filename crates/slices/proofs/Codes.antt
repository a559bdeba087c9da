-- The rejection of a snapshot, and of a slice that holds one, is a number of the papers, or 0.
use Prim.Native.Nat.{ℕ, zero, suc, ◌-◌}
use mathlib.Core.Bool.{Bool, true, false, cond, not, ◌&&◌, ◌||◌}
use mathlib.Core.List.{List}
use native.Mathlib.Omega.{arith}
use lib.Dec.{eqb, leb, ltb}
use lib.ListN.{length, get_or}
use Rattle.models.specs.Models.{valid_model, period_ok, parameters_ok, usual_gains}
use Rattle.state.specs.Fixed.{in_range}
use Rattle.state.specs.Rejections.{unless, ◌then◌, IsCode, out_of_place, unknown_command, truncated, bad_model, bad_period, bad_parameter, unusual_gains, wrong_index, bad_value, bad_position, bad_score}
use Rattle.state.specs.Scores.{score_ok}
use Rattle.state.specs.States.{parameters_code, trend_ok, index_ok, count_ok}
use Rattle.state.proofs.Answers.{code-then, code-unless}
use Rattle.layout.specs.CommandTable.{command_size, is_command, opener}
use Rattle.layout.specs.Layout.{model_at, level_at, score_at, season_at, position_at, outside_in, scored_in, model_in, period_in, alpha_in, beta_in, gamma_in, phi_in, level_in, trend_in, score_in, season_index_in, season_in, index_in, count_in}
use Rattle.snapshot.specs.Snapshots.{due_code, model_code, level_code, score_code, season_code, position_code, Scanned, finished, scan_seasons, scan, open_code, open_offset}
use Rattle.slices.specs.Slices.{spare, in_place_code}

-- a check before others
first : (t : Bool) (n k : ℕ) → IsCode n → IsCode k → IsCode (unless t n then k)
first t n k a b = code-then (unless t n) k (code-unless t n a) b

-- a command before others
one : (at code : ℕ) (rest : Scanned) → IsCode code → IsCode rest.code → IsCode (finished at code rest).code
one at code rest a b = go (eqb code 0)
  where
    go : (t : Bool) → IsCode (cond t rest (record { code = code; offset = at })).code
    go true = b
    go false = a

module _ (s : List ℕ) where
  due : (at byte : ℕ) → IsCode (due_code s at byte)
  unfolding due_code
  due at byte =
      first (ltb at (length s)) truncated _ (omega arith) (
      first (is_command (get_or s at 0)) unknown_command _ (omega arith) (
      first (eqb (get_or s at 0) byte) out_of_place _ (omega arith) (
      code-unless (leb (command_size byte) (length s - at)) truncated (omega arith))))

  model : IsCode (model_code s)
  unfolding model_code parameters_code
  model =
      code-then (due_code s model_at (opener (outside_in s))) _ (due model_at (opener (outside_in s))) (
      first (valid_model (model_in s)) bad_model _ (omega arith) (
      first (period_ok (model_in s) (period_in s)) bad_period _ (omega arith) (
      first (parameters_ok (model_in s) (alpha_in s) (beta_in s) (gamma_in s) (phi_in s) && not (outside_in s && usual_gains (alpha_in s) (beta_in s) (gamma_in s))) bad_parameter _ (omega arith) (
      code-unless (outside_in s || usual_gains (alpha_in s) (beta_in s) (gamma_in s)) unusual_gains (omega arith)))))

  level : IsCode (level_code s)
  unfolding level_code
  level =
      code-then (due_code s level_at 0x11) _ (due level_at 0x11) (code-unless (in_range (level_in s) && trend_ok (model_in s) (trend_in s)) bad_value (omega arith))

  score : IsCode (score_code s)
  unfolding score_code
  score = go (scored_in s)
    where
      go : (t : Bool) → IsCode (cond t (due_code s score_at 0x15) 0)
      go true = due score_at 0x15
      go false = omega arith

  season : (k : ℕ) → IsCode (season_code s k)
  unfolding season_code
  season k =
      code-then (due_code s (season_at (scored_in s) k) 0x12) _ (due (season_at (scored_in s) k) 0x12) (
      first (eqb (season_index_in s k) k) wrong_index _ (omega arith) (
      code-unless (in_range (season_in s k)) bad_value (omega arith)))

  position : (m : ℕ) → IsCode (position_code s m)
  unfolding position_code
  position m =
      code-then (due_code s (position_at (scored_in s) m) 0x13) _ (due (position_at (scored_in s) m) 0x13) (
      first (index_ok m (index_in s m) && count_ok (count_in s m)) bad_position _ (omega arith) (
      code-unless (score_ok (count_in s m) (score_in s)) bad_score (omega arith)))

  seasons : (k n : ℕ) (rest : Scanned) → IsCode rest.code → IsCode (scan_seasons s k n rest).code
  unfolding scan_seasons
  seasons k zero rest h = h
  seasons k (suc n) rest h = one _ (season_code s k) (scan_seasons s (suc k) n rest) (season k) (seasons (suc k) n rest h)

  pub code-open : IsCode (open_code s)
  unfolding scan
  code-open =
      one model_at (model_code s) _ model (
      one level_at (level_code s) _ level (
      one score_at (score_code s) _ score (
      seasons 0 (period_in s) _ (one _ (position_code s (period_in s)) _ (position (period_in s)) (omega arith)))))

  pub code-slice : IsCode (in_place_code s)
  unfolding in_place_code
  code-slice = code-then (open_code s) _ code-open (code-unless (leb (length s - open_offset s) (spare (scored_in s))) out_of_place (omega arith))
