-- Document 01, "Commands": a lent slice that holds one snapshot (the paper's group) and nothing after it, but for the room that an old one leaves (document 02, W-204).
use Rattle.std.specs.Prelude.{ℕ, ◌+◌, ◌-◌, Bool, cond, ◌&&◌, List, eqb, leb, pos, length, Result}
use Rattle.state.specs.Rejections.{unless, ◌then◌, out_of_place, truncated, accepting, outcome, answer, Answer, gives}
use Rattle.models.specs.Models.{ties_to_even}
use Rattle.state.specs.Scores.{no_score}
use Rattle.state.specs.States.{no_state}
use Rattle.state.specs.declared.Numbers.{Numbers}
use Rattle.state.specs.declared.Score.{Score}
use Rattle.state.specs.declared.State.{State}
use Rattle.layout.specs.CommandTable.{score_length, season_length}
use Rattle.layout.specs.Layout.{score_at, season_at, end_at, scored_in, model_in, period_in, alpha_in, beta_in, gamma_in, phi_in, level_in, trend_in, score_in, season_in, index_in, count_in}
use Rattle.snapshot.specs.Snapshots.{open_code, open_offset}
use Rattle.fields.specs.Fields.{decoded}
use Rattle.snapshot.specs.declared.Opened.{Opened}
use Rattle.slices.specs.declared.Checked.{Checked}
use Rattle.state.specs.declared.Rejection.{Rejection}

-- the bytes after a snapshot that are not looked at: none, or up to 25 after an old one, so that the new one fits
abbrev pub spare : Bool → ℕ
spare scored = cond scored 0 score_length

-- the snapshot's own rejections; then more bytes after it than that, commands or not, are 3
unfoldable pub in_place_code : List ℕ → ℕ
in_place_code d = open_code d then unless (leb (length d - open_offset d) (spare (scored_in d))) out_of_place

-- the call: the state that the slice holds
unfoldable pub in_place_read : List ℕ → Opened
in_place_read d = record { outcome = outcome (in_place_code d); state = accepting (in_place_code d) (decoded d) (λ (n : ℕ). no_state) }

-- the numbers of a snapshot but its season values, with the one that is due
abbrev pub numbers_in : List ℕ → Numbers
numbers_in s =
    record {
      alpha = alpha_in s;
      beta = beta_in s;
      gamma = gamma_in s;
      phi = phi_in s;
      level = level_in s;
      trend = trend_in s;
      season = cond (eqb (period_in s) 0) (pos 0) (season_in s (index_in s (period_in s)));
      count = count_in s (period_in s);
    }

abbrev pub checked_in : List ℕ → Checked
checked_in s =
    record { scored = scored_in s; even = ties_to_even (model_in s); period = period_in s; index = index_in s (period_in s); numbers = numbers_in s }

-- the call: what a call on the slice goes by
unfoldable pub opened_in : List ℕ → Result Checked Rejection
opened_in d = gives (in_place_code d) (checked_in d)

-- the call: the season value of index k; 4 where the slice ends before or inside its command
unfoldable pub season_value : List ℕ → ℕ → Answer
season_value d k = answer (unless (leb (season_at (scored_in d) k + season_length) (length d)) truncated) (season_in d k)

-- the call: the score, all 0 where there is no command 15 or the slice ends inside it
unfoldable pub score_value : List ℕ → Score
score_value d = cond (leb (score_at + score_length) (length d)) (score_in d) no_score

-- the call: the state of the bytes as they stand, where they reach to the end of a snapshot; no check is made of its numbers
unfoldable pub state_value : List ℕ → State
state_value d = cond (leb (period_in d) 48 && leb (end_at (scored_in d) (period_in d)) (length d)) (decoded d) no_state
