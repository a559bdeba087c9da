-- Document 01, "Station cases": T1 to T12 as one table, T1's numbers by the other rounding rule (document 02, W-211), the score (document 02, W-204), the groups of a weight (document 02, W-210), and the model bytes with multiplicative errors (document 02, W-205). The function `cases::station_cases` promises it.
use Rattle.std.specs.Prelude.{ℕ, ◌+◌, ◌-◌, ◌^◌, ◌≡◌, true, false, List, [], ◌∷◌, ℤ, pos, neg_ℤ, Ok}
use Rattle.state.specs.Fixed.{R}
use Rattle.state.specs.Scores.{score_of, no_score}
use Rattle.state.specs.States.{state_of, check}
use Rattle.state.specs.declared.State.{State}
use Rattle.ets.specs.Steps.{step_code, step, missing}
use Rattle.forecasts.specs.Forecasts.{forecast_code, forecast}
use Rattle.weights.specs.Weights.{weight, variance}
use Rattle.weights.specs.Groups.{weight_groups_code, weight_group_cells}
use Rattle.state.specs.Rejections.{rejects}

-- a row: the number of the case, what the definitions give, and what the paper says
pub data Row : Type 1 where
  row : {A : Type 0} → ℕ → A → A → Row

-- every row of a table holds
unfoldable pub Every : List Row → Type 0
Every [] = Unit
Every (row n given said ∷ rows) = (given ≡ said) × Every rows

-- the cases of its rows
unfoldable pub numbers : List Row → List ℕ
numbers [] = []
numbers (row n given said ∷ rows) = n ∷ numbers rows

abbrev pub minus : ℕ → ℤ
minus n = neg_ℤ (pos n)

-- the state after a reading
abbrev pub after : State → ℤ → State
after s y = (step s y).state

-- the listing under "The program's lines": model 0, A = 32768, all else 0
abbrev pub listing : State
listing = state_of false 0 0 32768 0 0 0 (pos 0) (pos 0) [] 0 0 no_score

-- straight, A 32768, B 16384, l 0, b 65536; with another model byte for W-205
abbrev pub straight_as : ℕ → State
straight_as model = state_of false model 0 32768 16384 0 65536 (pos 0) (pos 65536) [] 0 0 no_score

abbrev pub straight : State
straight = straight_as 1

-- damped, F 32768, A and B 0, l 0, b 3
abbrev pub damped : State
damped = state_of false 2 0 0 0 0 32768 (pos 0) (pos 3) [] 0 0 no_score

-- model 4, m 2, A 16384, G 32768, l 0, s (65536, −65536), p 0
abbrev pub seasonal : State
seasonal = state_of false 4 2 16384 0 32768 0 (pos 0) (pos 0) (pos 65536 ∷ minus 65536 ∷ []) 0 0 no_score

-- the listing's state with a count and a score
abbrev pub scored : ℕ → ℕ → ℕ → ℕ → State
scored count readings high low = state_of false 0 0 32768 0 0 0 (pos 0) (pos 0) [] 0 count (score_of readings high low)

unfoldable pub table : List Row
table =
    -- T1: R of 32767, 32768, −32768, −32769 is 0, 1, 0, −1.
    row 1 (R false (pos 32767)) (pos 0)
    ∷ row 1 (R false (pos 32768)) (pos 1)
    ∷ row 1 (R false (minus 32768)) (pos 0)
    ∷ row 1 (R false (minus 32769)) (minus 1)
    -- T2: the listing's step: l = 327680. The listing's lines: E 655360, F 2 327680, V 2 0 21474836480, N 1.
    ∷ row 2 (step listing (pos 10)).residual (Ok (pos 655360))
    ∷ row 2 (after listing (pos 10)) (state_of false 0 0 32768 0 0 0 (pos 327680) (pos 0) [] 0 1 (score_of 1 0 100))
    ∷ row 2 (forecast (after listing (pos 10)) 2) (Ok (pos 327680))
    ∷ row 2 (variance (after listing (pos 10)) 2 4) (Ok (record { high = 0; low = 21474836480 }))
    -- T3: y 3: l 131072, b 98304; forecast 3 is 425984.
    ∷ row 3 (after straight (pos 3)) (state_of false 1 0 32768 16384 0 65536 (pos 131072) (pos 98304) [] 0 1 (score_of 1 0 4))
    ∷ row 3 (forecast (after straight (pos 3)) 3) (Ok (pos 425984))
    -- T4: y 0: l 2, b 2; forecast 2 is 4.
    ∷ row 4 (after damped (pos 0)) (state_of false 2 0 0 0 0 32768 (pos 2) (pos 2) [] 0 1 (score_of 1 0 0))
    ∷ row 4 (forecast (after damped (pos 0)) 2) (Ok (pos 4))
    -- T5: y 5: l 65536, first s 196608, p 1; forecasts 1, 2, 3 are 0, 262144, 0.
    ∷ row 5 (after seasonal (pos 5)) (state_of false 4 2 16384 0 32768 0 (pos 65536) (pos 0) (pos 196608 ∷ minus 65536 ∷ []) 1 1 (score_of 1 0 16))
    ∷ row 5 (forecast (after seasonal (pos 5)) 1) (Ok (pos 0))
    ∷ row 5 (forecast (after seasonal (pos 5)) 2) (Ok (pos 262144))
    ∷ row 5 (forecast (after seasonal (pos 5)) 3) (Ok (pos 0))
    -- T6: a missing reading after T5 moves p to 0 and nothing else but the count.
    ∷ row 6 (missing (after seasonal (pos 5))).state (state_of false 4 2 16384 0 32768 0 (pos 65536) (pos 0) (pos 196608 ∷ minus 65536 ∷ []) 0 2 (score_of 1 0 16))
    -- T7: the weight of 3 in T3 is 11005853696. T8: in T5 it is 6979321856.
    ∷ row 7 (weight straight 3) (Ok 11005853696)
    ∷ row 8 (weight seasonal 3) (Ok 6979321856)
    -- T9: model byte 3 is refusal 5, 6 is not.
    ∷ row 9 (check (state_of false 3 0 0 0 0 0 (pos 0) (pos 0) [] 0 0 no_score)) 5
    ∷ row 9 (check (state_of false 6 2 0 0 0 1 (pos 0) (pos 0) [] 0 0 no_score)) 0
    -- T10: reading 1,000,000 is taken, 1,000,001 is refusal 13.
    ∷ row 10 (step_code listing (pos 1000000)) 0
    ∷ row 10 (step_code listing (pos 1000001)) 13
    -- T11: l = 2^40 opens, 2^40 + 1 is refusal 9; horizon 512 is taken, 0 and 513 are refusal 11.
    ∷ row 11 (check (state_of false 0 0 0 0 0 0 (pos (2 ^ 40)) (pos 0) [] 0 0 no_score)) 0
    ∷ row 11 (check (state_of false 0 0 0 0 0 0 (pos (2 ^ 40 + 1)) (pos 0) [] 0 0 no_score)) 9
    ∷ row 11 (forecast_code listing 512) 0
    ∷ row 11 (forecast_code listing 0) 11
    ∷ row 11 (forecast_code listing 513) 11
    -- T12: straight, l and b 2^40, A and B 0, y 1,000,000: refusal 15.
    ∷ row 12 (step_code (state_of false 1 0 0 0 0 65536 (pos (2 ^ 40)) (pos (2 ^ 40)) [] 0 0 no_score) (pos 1000000)) 15
    -- W-211: with ties to even R of T1's numbers is 0, 0, 0, −1; of 98304 and −98304, 3/2 and −3/2, it is 2 and −2. Model byte 70 is 6 with that rule.
    ∷ row 211 (R true (pos 32767)) (pos 0)
    ∷ row 211 (R true (pos 32768)) (pos 0)
    ∷ row 211 (R true (minus 32768)) (pos 0)
    ∷ row 211 (R true (minus 32769)) (minus 1)
    ∷ row 211 (R true (pos 98304)) (pos 2)
    ∷ row 211 (R true (minus 98304)) (minus 2)
    ∷ row 211 (check (state_of false 70 2 0 0 0 1 (pos 0) (pos 0) [] 0 0 no_score)) 0
    -- W-204: T2's reading adds 100, which carries where the low word has no room for it. 17: readings above the count, a sum above readings × 2^52; 10 comes before it.
    ∷ row 204 (after (scored 8192 8192 0 (2 ^ 64 - 101)) (pos 10)).score (score_of 8193 0 (2 ^ 64 - 1))
    ∷ row 204 (after (scored 8192 8192 0 (2 ^ 64 - 100)) (pos 10)).score (score_of 8193 1 0)
    ∷ row 204 (check (scored 1 1 0 (2 ^ 52))) 0
    ∷ row 204 (check (scored 1 1 0 (2 ^ 52 + 1))) 17
    ∷ row 204 (check (scored 4096 4096 1 0)) 0
    ∷ row 204 (check (scored 4096 4096 1 1)) 17
    ∷ row 204 (check (scored 1 2 0 0)) 17
    ∷ row 204 (check (scored (2 ^ 48 + 1) 0 0 1)) 10
    -- W-210: of T8's weight j = 2 is in group 0 and j = 1 in group 1, of T7's both are in the one group; horizon 1 has no j. 11 comes before 12.
    ∷ row 210 (weight_group_cells seasonal 3 (7 ∷ 7 ∷ 7 ∷ [])) (2415919104 ∷ 268435456 ∷ 7 ∷ [])
    ∷ row 210 (weight_group_cells straight 3 (7 ∷ 7 ∷ [])) (6710886400 ∷ 7 ∷ [])
    ∷ row 210 (weight_group_cells seasonal 1 (7 ∷ 7 ∷ 7 ∷ [])) (0 ∷ 0 ∷ 7 ∷ [])
    ∷ row 210 (weight_groups_code seasonal 513 1) 11
    ∷ row 210 (weight_groups_code seasonal 512 1) 12
    ∷ row 210 (weight_groups_code straight 512 1) 0
    -- W-205: byte 9 is T3's with multiplicative errors, 73 with ties to even too; 11 and 17 are refusal 5. The step and the forecast are T3's. The weight and its groups are refusal 3, before 11.
    ∷ row 205 (check (straight_as 9)) 0
    ∷ row 205 (check (straight_as 73)) 0
    ∷ row 205 (check (straight_as 11)) 5
    ∷ row 205 (check (straight_as 17)) 5
    ∷ row 205 (after (straight_as 9) (pos 3)) (state_of false 9 0 32768 16384 0 65536 (pos 131072) (pos 98304) [] 0 1 (score_of 1 0 4))
    ∷ row 205 (forecast (after (straight_as 9) (pos 3)) 3) (Ok (pos 425984))
    ∷ row 205 (weight (straight_as 9) 513) (rejects 3)
    ∷ row 205 (weight_groups_code (straight_as 9) 513 0) 3
    ∷ []

-- so many comparisons for each case
abbrev pub compared : List ℕ
compared = 1 ∷ 1 ∷ 1 ∷ 1 ∷ 2 ∷ 2 ∷ 2 ∷ 2 ∷ 3 ∷ 3 ∷ 4 ∷ 4 ∷ 5 ∷ 5 ∷ 5 ∷ 5 ∷ 6 ∷ 7 ∷ 8 ∷ 9 ∷ 9 ∷ 10 ∷ 10 ∷ 11 ∷ 11 ∷ 11 ∷ 11 ∷ 11 ∷ 12 ∷ 211 ∷ 211 ∷ 211 ∷ 211 ∷ 211 ∷ 211 ∷ 211 ∷ 204 ∷ 204 ∷ 204 ∷ 204 ∷ 204 ∷ 204 ∷ 204 ∷ 204 ∷ 210 ∷ 210 ∷ 210 ∷ 210 ∷ 210 ∷ 210 ∷ 205 ∷ 205 ∷ 205 ∷ 205 ∷ 205 ∷ 205 ∷ 205 ∷ 205 ∷ []
