-- Document 01, "Grains and states": the model byte, and the season lengths and parameters that a model allows; document 02, W-201: the usual region, W-211: the rounding rule, and W-205: the kind of the errors.
use Rattle.std.specs.Prelude.{ℕ, ◌+◌, ◌*◌, ◌-◌, ◌/◌, ◌%◌, Bool, cond, not, ◌&&◌, ◌||◌, eqb, leb}

-- bits 0 and 1 are the trend: 0 none, 1 straight, 2 damped
abbrev pub trend_of : ℕ → ℕ
trend_of model = model % 4

-- bit 2 is the season
abbrev pub season_of : ℕ → ℕ
season_of model = model / 4 % 2

abbrev pub has_trend : ℕ → Bool
has_trend model = not (eqb (trend_of model) 0)

abbrev pub has_season : ℕ → Bool
has_season model = not (eqb (season_of model) 0)

-- bit 6 is the rounding rule: 0 for ties up, 1 for ties to even
abbrev pub rounding_of : ℕ → ℕ
rounding_of model = model / 64 % 2

abbrev pub ties_to_even : ℕ → Bool
ties_to_even model = not (eqb (rounding_of model) 0)

-- bit 3 is the kind of the errors: 0 for additive ones, 1 for multiplicative ones, which scatter in proportion
abbrev pub errors_of : ℕ → ℕ
errors_of model = model / 8 % 2

abbrev pub has_relative_errors : ℕ → Bool
has_relative_errors model = not (eqb (errors_of model) 0)

-- whether the errors are of a kind: multiplicative (relative) or additive
abbrev pub errors_are : Bool → ℕ → Bool
errors_are relative model = cond relative (has_relative_errors model) (not (has_relative_errors model))

-- the byte with bit 6 clear, and with it set
abbrev pub to_up : ℕ → ℕ
to_up model = model - rounding_of model * 64

abbrev pub to_even : ℕ → ℕ
to_even model = to_up model + 64

-- the byte with bit 3 clear
abbrev pub to_additive : ℕ → ℕ
to_additive model = model - errors_of model * 8

-- the byte put together from its parts
abbrev pub model_byte : ℕ → ℕ
model_byte model = rounding_of model * 64 + errors_of model * 8 + season_of model * 4 + trend_of model

-- valid bytes are 0, 1, 2, 4, 5, 6, with bits 3 and 6 set or clear
abbrev pub valid_model : ℕ → Bool
valid_model model =
    let form = to_additive (to_up model) in
    eqb form 0 || eqb form 1 || eqb form 2 || eqb form 4 || eqb form 5 || eqb form 6

-- the season length m: 0 without season, otherwise 2 to 48
abbrev pub period_ok : ℕ → ℕ → Bool
period_ok model m = cond (has_season model) (leb 2 m && leb m 48) (eqb m 0)

-- B or G: at most 65,536, and 0 where the model has no trend or no season
abbrev pub gain_ok : Bool → ℕ → Bool
gain_ok has x = cond has (leb x 65536) (eqb x 0)

-- F: 0 without trend, 65,536 with straight trend, damped 1 to 65,535
abbrev pub damping_ok : ℕ → ℕ → Bool
damping_ok trend F = cond (eqb trend 0) (eqb F 0) (cond (eqb trend 1) (eqb F 65536) (leb 1 F && leb F 65535))

-- the parameters A, B, G, F are whole 65,536ths of α, β, γ, φ, each at most 65,536
abbrev pub parameters_ok : ℕ → ℕ → ℕ → ℕ → ℕ → Bool
parameters_ok model A B G F =
    leb A 65536 && gain_ok (has_trend model) B && gain_ok (has_season model) G && damping_ok (trend_of model) F

-- the usual region of the gains: B not above A, and A + G not above 65,536
abbrev pub usual_gains : ℕ → ℕ → ℕ → Bool
usual_gains A B G = leb B A && leb (A + G) 65536
