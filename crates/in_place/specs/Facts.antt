-- What the private functions rest on and give: no contract of a public call cites these.
use Rattle.std.specs.Prelude.{ℕ, ◌+◌, ◌-◌, ◌%◌, ◌≡◌, true, cond, ◌||◌, List, eqb, ℤ, pos}
use Rattle.std.proofs.lemmas.List.Edits.{sets}
use Rattle.models.specs.Models.{ties_to_even}
use Rattle.state.specs.States.{check}
use Rattle.calendars.specs.Turns.{next_index}
use Rattle.ets.specs.Updates.{numbers_of}
use Rattle.state.specs.declared.Score.{Score}
use Rattle.ets.specs.declared.Update.{Update}
use Rattle.layout.specs.Layout.{level_at, score_at, season_at, position_at, scored_in, season_in}
use Rattle.snapshot.specs.Snapshots.{decoded}
use Rattle.snapshot.specs.Facts.{Room}
use Rattle.slices.specs.declared.Checked.{Checked}
use Rattle.saving.specs.Encoding.{level_bytes, score_bytes, season_bytes, position_bytes, encoded}

-- the season value of a horizon
abbrev pub ahead_in : List ℕ → ℕ → ℕ → ℕ → ℤ
ahead_in s m p h = cond (eqb m 0 || eqb h 0) (pos 0) (season_in s ((p + h - 1) % m))

-- what a call in place goes by is the state that its slice holds; that state passes its checks, and where it has command 15 its snapshot is the slice
pub record Held (d : List ℕ) (x : Checked) : Type 0 where
  pub scored : x.scored ≡ scored_in d
  pub even : x.even ≡ ties_to_even (decoded d).model
  pub period : x.period ≡ (decoded d).period
  pub index : x.index ≡ (decoded d).index
  pub numbers : x.numbers ≡ numbers_of (decoded d)
  pub passes : check (decoded d) ≡ 0
  pub whole : scored_in d ≡ true → encoded (decoded d) ≡ d
  pub room : Room (scored_in d) d (decoded d).period (decoded d).index

-- what is written: the position moves on, and before it level and trend; of a reading the season value and the score too
abbrev pub moved_on : List ℕ → ℕ → ℕ → ℕ → List ℕ
moved_on d m p n = sets d (position_at true m) (position_bytes (next_index m p) (n + 1))

abbrev pub advanced_on : List ℕ → ℕ → ℕ → ℕ → ℤ → ℤ → List ℕ
advanced_on d m p n l b = moved_on (sets d level_at (level_bytes l b)) m p n

abbrev pub season_put : List ℕ → ℕ → ℕ → ℤ → List ℕ
season_put d m p v = cond (eqb m 0) d (sets d (season_at true p) (season_bytes p v))

abbrev pub score_put : List ℕ → Score → List ℕ
score_put d score = sets d score_at (score_bytes score)

abbrev pub step_written : List ℕ → ℕ → ℕ → ℕ → Update → Score → List ℕ
step_written d m p n u score = advanced_on (score_put (season_put d m p u.season) score) m p n u.level u.trend
