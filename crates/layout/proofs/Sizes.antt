-- Offsets in a snapshot are small: the command 15 has 25 bytes, or none.
use Prim.Native.Nat.{ℕ, ◌+◌, ◌≤◌, ◌<◌}
use mathlib.Core.Path.{◌≡◌}
use mathlib.Core.Bool.{Bool, true, false}
use native.Mathlib.Omega.{arith}
use mir.Syntax.{w64}
use mir.Val.{Fits}
use Rattle.layout.specs.Layout.{score_size, season_at}

score-size-le : (scored : Bool) → score_size scored ≤ 25
score-size-le true = omega arith
score-size-le false = omega arith

pub at-fits : (scored : Bool) (k n : ℕ) {at : ℕ} → at ≡ season_at scored k → k < 256 → n ≤ 10 → Fits w64 (at + n)
at-fits scored k n e h l = record { fits = omega (arith, score-size-le scored) }
