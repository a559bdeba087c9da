use mathlib.Core.Path.{◌≡◌, ◌∙◌, ap}
use native.Mathlib.Omega.{arith}
use lib.Bits.{bit_or, or_shifted_r}
use lib.Dec.{lit≤}
use lib.Pow.{shl_exact}
use Prim.Native.Nat.{ℕ, ◌+◌, ◌*◌, ◌<◌, ◌%◌, ◌^◌}
use Rattle.models.proofs.model_byte.Goals as goal

-- the four parts do not overlap
parts : (trend season errors rounding : ℕ) → trend < 4 → season < 2 → errors < 2 → rounding < 2
    → bit_or (bit_or (bit_or trend (season * 2 ^ 2 % 2 ^ 8)) (errors * 2 ^ 3 % 2 ^ 8)) (rounding * 2 ^ 6 % 2 ^ 8) ≡ rounding * 64 + errors * 8 + season * 4 + trend
parts trend season errors rounding t s e r =
    let low : bit_or trend (season * 2 ^ 2 % 2 ^ 8) ≡ season * 4 + trend = ap (bit_or trend) (shl_exact 1 2 8 s (lit≤ tt)) ∙ or_shifted_r season 2 trend t in
    let middle : bit_or (season * 4 + trend) (errors * 2 ^ 3 % 2 ^ 8) ≡ errors * 8 + (season * 4 + trend) = ap (bit_or (season * 4 + trend)) (shl_exact 1 3 8 e (lit≤ tt)) ∙ or_shifted_r errors 3 (season * 4 + trend) (omega arith) in
    rw (low, middle) (ap (bit_or (errors * 8 + (season * 4 + trend))) (shl_exact 1 6 8 r (lit≤ tt)) ∙ or_shifted_r rounding 6 (errors * 8 + (season * 4 + trend)) (omega arith) ∙ omega arith)

pub returns : goal.returns
returns c =
    let t = c.trend_of in
    let s = c.season_of in
    let e = c.errors_of in
    let r = c.rounding_of in
    parts t.result s.result e.result r.result (omega (arith, t.ensures)) (omega (arith, s.ensures)) (omega (arith, e.ensures)) (omega (arith, r.ensures))
    ∙ rw (t.ensures, s.ensures, e.ensures, r.ensures)
