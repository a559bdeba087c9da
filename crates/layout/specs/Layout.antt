-- Document 01, "Commands": a snapshot (the paper's group) is the commands 10 (document 02, W-201: or 18), 11, 15 (document 02, W-204: old ones have none), then 12 for
-- the places 0 to m − 1 rising, then 13.
-- Where each command stands, and its operands in a stream: these numbers stand nowhere else.
use Rattle.std.specs.Prelude.{ℕ, ◌+◌, ◌*◌, Bool, true, cond, List, eqb, ℤ, get_or}
use Rattle.state.specs.Scores.{score_of, no_score}
use Rattle.state.specs.declared.Score.{Score}
use Rattle.layout.specs.Bytes.{unsigned_at, signed_at}
use Rattle.layout.specs.CommandTable.{opener, model_length, level_length, score_length, season_length, position_length}

-- ---- where each command stands
abbrev pub model_at : ℕ
model_at = 0

abbrev pub level_at : ℕ
level_at = model_at + model_length

abbrev pub score_at : ℕ
score_at = level_at + level_length

-- the bytes of command 15 in a snapshot with (scored) or without it
abbrev pub score_size : Bool → ℕ
score_size scored = cond scored score_length 0

-- the command 12 of seasonal index k (the paper's place)
abbrev pub season_at : Bool → ℕ → ℕ
season_at scored k = score_at + score_size scored + season_length * k

-- after m of them
abbrev pub position_at : Bool → ℕ → ℕ
position_at scored m = season_at scored m

-- and where the snapshot ends
abbrev pub end_at : Bool → ℕ → ℕ
end_at scored m = position_at scored m + position_length

-- a saved snapshot is 71 + 10 × m bytes
abbrev pub size_of : ℕ → ℕ
size_of m = end_at true m

-- whether it has command 15
abbrev pub scored_in : List ℕ → Bool
scored_in s = eqb (get_or s score_at 0) 0x15

-- whether 18 opens it
abbrev pub outside_in : List ℕ → Bool
outside_in s = eqb (get_or s model_at 0) (opener true)

-- ---- their operands
abbrev pub model_in : List ℕ → ℕ
model_in s = get_or s (model_at + 1) 0

abbrev pub period_in : List ℕ → ℕ
period_in s = get_or s (model_at + 2) 0

abbrev pub alpha_in : List ℕ → ℕ
alpha_in s = unsigned_at s (model_at + 3) 4

abbrev pub beta_in : List ℕ → ℕ
beta_in s = unsigned_at s (model_at + 7) 4

abbrev pub gamma_in : List ℕ → ℕ
gamma_in s = unsigned_at s (model_at + 11) 4

abbrev pub phi_in : List ℕ → ℕ
phi_in s = unsigned_at s (model_at + 15) 4

abbrev pub level_in : List ℕ → ℤ
level_in s = signed_at s (level_at + 1)

abbrev pub trend_in : List ℕ → ℤ
trend_in s = signed_at s (level_at + 9)

-- the score, all 0 without command 15
abbrev pub score_in : List ℕ → Score
score_in s =
    cond (scored_in s) (score_of (unsigned_at s (score_at + 1) 8) (unsigned_at s (score_at + 9) 8) (unsigned_at s (score_at + 17) 8)) no_score

-- the place byte and the value of the command 12 of index k
abbrev pub season_index_in : List ℕ → ℕ → ℕ
season_index_in s k = get_or s (season_at (scored_in s) k + 1) 0

abbrev pub season_in : List ℕ → ℕ → ℤ
season_in s k = signed_at s (season_at (scored_in s) k + 2)

-- p and the count, after m places
abbrev pub index_in : List ℕ → ℕ → ℕ
index_in s m = get_or s (position_at (scored_in s) m + 1) 0

abbrev pub count_in : List ℕ → ℕ → ℕ
count_in s m = unsigned_at s (position_at (scored_in s) m + 2) 8
