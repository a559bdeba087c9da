-- Document 02, W-204: the score that a state holds, and the check 17 of it.
use Rattle.std.specs.Prelude.{ℕ, ◌+◌, ◌*◌, Bool, ◌&&◌, leb}
use Rattle.state.specs.Fixed.{max_square, word_size}
use Rattle.state.specs.declared.Score.{Score}

-- the real readings, and the high and the low word of the sum
abbrev pub score_of : ℕ → ℕ → ℕ → Score
score_of readings high low = record { readings = readings; high = high; low = low }

-- no reading yet
abbrev pub no_score : Score
no_score = score_of 0 0 0

-- the sum of the squares of R(e) over the real readings: high × 2^64 + low
unfoldable pub sum_of : Score → ℕ
sum_of s = s.high * word_size + s.low

-- the sum is at most readings × 2^52
unfoldable pub sum_ok : Score → Bool
sum_ok s = leb (sum_of s) (s.readings * max_square)

-- and the real readings are at most the count
abbrev pub score_ok : ℕ → Score → Bool
score_ok count s = leb s.readings count && sum_ok s
