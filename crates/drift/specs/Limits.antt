-- A list of operations beside the exact recursion; demand 3's limits, multiplied out, and its claim.
use Rattle.std.specs.Prelude.{ℕ, suc, ◌+◌, ◌*◌, ◌-◌, ◌^◌, ◌≤◌, ◌<◌, true, false, List, [], ◌∷◌, ◌≡◌, ℤ, pos, nat_abs, ◌-ℤ◌, ◌*ℤ◌, get_or}
use Rattle.state.specs.declared.State.{State}
use Rattle.traces.specs.Laws.{Passing}
use Rattle.traces.specs.Operations.{Standing, standing_of, Operation, operate}
use Rattle.drift.specs.Exact.{Parameters, Exact, Expected, level_is, forecast_is, Beside, beside_of, beside_after, expected_by}

-- the distance of z from Z over 65536 ^ power, times 65536 ^ power
abbrev pub distance : ℕ → ℤ → ℤ → ℕ
distance power z Z = nat_abs (pos (65536 ^ power) *ℤ z -ℤ Z)

-- at most num/den units (the paper's grains): where den is 0 it says nothing
unfoldable pub AtMost : ℕ → ℕ → ℕ → ℤ → ℤ → Type 0
AtMost num den power z Z = den * distance power z Z ≤ num * 65536 ^ power

-- two lists of one length, number by number
pub data EachWithin (limit : ℤ → Expected → Type 0) : List ℤ → List Expected → Type 0 where
  none : EachWithin limit [] []
  more : {z : ℤ} {e : Expected} {zs : List ℤ} {es : List Expected} → limit z e → EachWithin limit zs es → EachWithin limit (z ∷ zs) (e ∷ es)

-- a list of operations, beside which the exact recursion runs: each number of an answer is within its limit of what the recursion has for it there, and the state that
-- stands after the list is within `end`. A list may open and bring back states of any model (document 02, W-209): what is claimed is claimed where the parameters that then
-- run are of the kind
unfoldable pub AllWithin : (kind : Parameters → Type 0) (limit : Parameters → ℤ → Expected → Type 0) (end : Parameters → State → Exact → Type 0) → Standing → Beside → List Operation → Type 0
AllWithin kind limit end a b [] =
    let c = b.run.parameters in
    kind c → end c a.state b.run.exact
AllWithin kind limit end a b (o ∷ os) =
    let c = b.run.parameters in
    let r = operate a o in
    (kind c → EachWithin (limit c) r.numbers (expected_by b.run r.notice))
    × AllWithin kind limit end r.standing (beside_after b r.notice) os

-- ---- demand 3: n/2
abbrev pub HalfPerReading : ℕ → ℤ → ℤ → Type 0
HalfPerReading n z Z = AtMost n 2 (2 * n) z Z

-- 1/(2α), for α above 0: A is 65536 × α
abbrev pub PlainBound : Parameters → ℕ → ℤ → ℤ → Type 0
PlainBound c power z Z = AtMost 65536 (2 * c.alpha) power z Z

-- γ (1 − α)^m, times 65536 ^ (m + 1)
abbrev pub divisor : Parameters → ℕ
divisor c = c.gamma * (65536 - c.alpha) ^ c.period

-- m + 2m/(γ (1 − α)^m), for γ above 0 and α below 1: G is 65536 × γ
abbrev pub SeasonalBound : Parameters → ℕ → ℤ → ℤ → Type 0
SeasonalBound c power z Z = AtMost (c.period * divisor c + 2 * (c.period * 65536 ^ suc c.period)) (divisor c) power z Z

-- a level in a cell: n/2. A forecast with no missing reading accepted before it: 1/(2α) without season; with one the season's limit, where no list took effect on a step
-- accepted before it either (document 02, W-208; the forecast's own walk may meet one)
unfoldable pub WithinLimit : Parameters → ℤ → Expected → Type 0
WithinLimit c z (level_is L n) = HalfPerReading n z L
WithinLimit c z (forecast_is F h power missed changed) =
    missed ≡ 0
    → (c.seasonal ≡ false → PlainBound c power z F)
    × (c.seasonal ≡ true → changed ≡ 0 → SeasonalBound c power z F)

-- the level and each of the m season values, by n/2
pub record StateWithin (c : Parameters) (s : State) (x : Exact) : Type 0 where
  pub level : HalfPerReading x.n s.level x.L
  pub seasons : (k : ℕ) → k < c.period → HalfPerReading x.n (get_or s.seasonal k (pos 0)) (x.S k)

abbrev pub Trendless : Parameters → Type 0
Trendless c = c.trended ≡ false

-- the single claim about a list: while a trendless model stands, each number of an answer is within its limit, and the state that stands after the list is within n/2
abbrev pub Claim : Standing → Beside → List Operation → Type 0
Claim = AllWithin Trendless WithinLimit StateWithin

-- a state that checks 5, 6, 7, 16, 9, 10 and 17 let pass (and that the types of the code hold). Document 01's opening state of a trendless model is the case that is claimed
-- from the start; a list may open others, and may start from one: the limits are claimed while a trendless model stands
abbrev pub Opening : State → Type 0
Opening = Passing

abbrev pub Demand3 : Type 0
Demand3 = (s : State) → Opening s → (os : List Operation) → Claim (standing_of s) (beside_of s) os
