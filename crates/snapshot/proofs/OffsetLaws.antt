-- The offset of a rejection lies in the stream; rejection 4 tells the stream's length where no command is begun.
use Prim.Native.Nat.{ℕ, zero, suc, ◌+◌, ◌-◌, ◌≤◌, ◌<◌}
use mathlib.Core.Path.{◌≡◌, refl}
use mathlib.Core.Bool.{Bool, true, false, cond, not, ◌&&◌, ◌||◌}
use mathlib.Core.Logic.{◌⊎◌, inl, inr}
use mathlib.Core.List.{List}
use native.Mathlib.Omega.{arith}
use borrow.Author.Tests.{ltb-true, ltb-false, leb-false, eqb-true}
use lib.Dec.{eqb, ltb, leb, eqb-suc-zero}
use lib.ListN.{length, get_or}
use Rattle.state.specs.Rejections.{unless, ◌then◌, truncated, unknown_command, out_of_place}
use Rattle.state.specs.Fixed.{in_range}
use Rattle.models.specs.Models.{valid_model, period_ok, parameters_ok, usual_gains}
use Rattle.state.specs.Scores.{score_ok}
use Rattle.state.specs.States.{parameters_code, trend_ok, index_ok, count_ok}
use Rattle.layout.specs.CommandTable.{command_size, is_command, opener}
use Rattle.layout.specs.Layout.{model_at, level_at, score_at, season_at, position_at, end_at, outside_in, scored_in, model_in, period_in, alpha_in, beta_in, gamma_in, phi_in, level_in, trend_in, score_in, season_index_in, season_in, index_in, count_in}
use Rattle.snapshot.specs.Snapshots.{due_code, model_code, level_code, score_code, season_code, position_code, finished, scan_position, scan_seasons, scan}
use Rattle.snapshot.specs.Promises.{Offsets}
use Rattle.snapshot.specs.Snapshots.{Scanned}
use Rattle.snapshot.proofs.Accepting.{model, level, score, season, position}

-- the bytes end before a command at an offset, or inside it
abbrev Cut : List ℕ → ℕ → Type 0
Cut s at = (at ≡ length s) ⊎ ((at < length s) × (length s < at + command_size (get_or s at 0)))

cut : (s : List ℕ) (at first : ℕ) → at ≤ length s → (t u v w : Bool) → ltb at (length s) ≡ t → eqb (get_or s at 0) first ≡ v → leb (command_size first) (length s - at) ≡ w
    → (unless t truncated then unless u unknown_command then unless v out_of_place then unless w truncated) ≡ 4 → Cut s at
cut s at first l false u v w et ev ew h = inl (omega (arith, ltb-false at (length s) et))
cut s at first l true false v w et ev ew h = absurd (omega arith)
cut s at first l true true false w et ev ew h = absurd (omega arith)
cut s at first l true true true true et ev ew h = absurd (omega arith)
cut s at first l true true true false et ev ew h =
    let a = ltb-true at (length s) et in
    let b = leb-false (command_size first) (length s - at) ew in
    inr (a, rw (eqb-true (get_or s at 0) first ev) (omega arith))

due-cut : (s : List ℕ) (at first : ℕ) → at ≤ length s → due_code s at first ≡ 4 → Cut s at
unfolding due_code
due-cut s at first l h = cut s at first l _ (is_command (get_or s at 0)) _ _ refl refl refl h

-- no later check of a command gives 4
later : (n k : ℕ) → (n then k) ≡ 4 → (k ≡ 4 → ⊥) → n ≡ 4
later zero k h o = absurd (o h)
later (suc n) k h o = rw (eqb-suc-zero n) at h

not-one : (t : Bool) (n : ℕ) → (n ≡ 4 → ⊥) → unless t n ≡ 4 → ⊥
not-one true n o h = omega arith
not-one false n o h = o h

not-both : (n k : ℕ) → (n ≡ 4 → ⊥) → (k ≡ 4 → ⊥) → (n then k) ≡ 4 → ⊥
not-both n k o q h = o (later n k h q)

-- ---- one command after the other
abbrev LocatedAt : List ℕ → Scanned → Type 0
LocatedAt s r = (r.offset ≤ length s) × (r.code ≡ 4 → Cut s r.offset)

finished-at : (s : List ℕ) (at code : ℕ) (r : Scanned) → at ≤ length s → (code ≡ 4 → Cut s at) → (code ≡ 0 → LocatedAt s r) → LocatedAt s (finished at code r)
finished-at s at zero r l c k = k refl
finished-at s at (suc n) r l c k = rw (eqb-suc-zero n) (l, c)

season-cut : (s : List ℕ) (k : ℕ) → season_at (scored_in s) k ≤ length s → season_code s k ≡ 4 → Cut s (season_at (scored_in s) k)
unfolding season_code
season-cut s k l h =
    let i = eqb (season_index_in s k) k in
    let v = in_range (season_in s k) in
    due-cut s (season_at (scored_in s) k) 0x12 l
    (later (due_code s (season_at (scored_in s) k) 0x12) (unless i 8 then unless v 9) h (not-both (unless i 8) (unless v 9) (not-one i 8 (λ e. omega arith)) (not-one v 9 (λ e. omega arith))))

seasons-at : (s : List ℕ) (k n : ℕ) (r : Scanned) → season_at (scored_in s) k ≤ length s → (season_at (scored_in s) (k + n) ≤ length s → LocatedAt s r) → LocatedAt s (scan_seasons s k n r)
unfolding scan_seasons
seasons-at s k zero r l f = f (omega arith)
seasons-at s k (suc n) r l f =
    finished-at s (season_at (scored_in s) k) (season_code s k) (scan_seasons s (suc k) n r) l (season-cut s k l)
    (λ z.
    let w = (season s k z).due.room in
    seasons-at s (suc k) n r (omega arith) (λ g. f (omega arith)))

not-parameters : (outside : Bool) (model A B G F : ℕ) → parameters_code outside model A B G F ≡ 4 → ⊥
unfolding parameters_code
not-parameters outside model A B G F =
    let g = parameters_ok model A B G F && not (outside && usual_gains A B G) in
    let r = outside || usual_gains A B G in
    not-both (unless g 7) (unless r 16) (not-one g 7 (λ e. omega arith)) (not-one r 16 (λ e. omega arith))

model-cut : (s : List ℕ) → model_code s ≡ 4 → Cut s model_at
unfolding model_code
model-cut s h =
    let m = valid_model (model_in s) in
    let p = period_ok (model_in s) (period_in s) in
    let g = parameters_code (outside_in s) (model_in s) (alpha_in s) (beta_in s) (gamma_in s) (phi_in s) in
    let first = opener (outside_in s) in
    due-cut s model_at first (omega arith)
    (later (due_code s model_at first) (unless m 5 then unless p 6 then g) h
    (not-both (unless m 5) (unless p 6 then g) (not-one m 5 (λ e. omega arith))
    (not-both (unless p 6) g (not-one p 6 (λ e. omega arith)) (not-parameters (outside_in s) (model_in s) (alpha_in s) (beta_in s) (gamma_in s) (phi_in s)))))

level-cut : (s : List ℕ) → level_at ≤ length s → level_code s ≡ 4 → Cut s level_at
unfolding level_code
level-cut s l h =
    let v = in_range (level_in s) && trend_ok (model_in s) (trend_in s) in
    due-cut s level_at 0x11 l (later (due_code s level_at 0x11) (unless v 9) h (not-one v 9 (λ e. omega arith)))

score-cut : (s : List ℕ) → score_at ≤ length s → score_code s ≡ 4 → Cut s score_at
unfolding score_code
score-cut s l = go (scored_in s)
  where
    go : (t : Bool) → cond t (due_code s score_at 0x15) 0 ≡ 4 → Cut s score_at
    go true h = due-cut s score_at 0x15 l h
    go false h = absurd (omega arith)

-- where the seasons begin lies in the stream too
score-room : (s : List ℕ) → score_at ≤ length s → score_code s ≡ 0 → season_at (scored_in s) 0 ≤ length s
score-room s l z = go (scored_in s) refl
  where
    go : (t : Bool) → scored_in s ≡ t → season_at t 0 ≤ length s
    go true e = omega (arith, score s z e)
    go false e = omega arith

position-cut : (s : List ℕ) (m : ℕ) → position_at (scored_in s) m ≤ length s → position_code s m ≡ 4 → Cut s (position_at (scored_in s) m)
unfolding position_code
position-cut s m l h =
    let at = position_at (scored_in s) m in
    let v = index_ok m (index_in s m) && count_ok (count_in s m) in
    let w = score_ok (count_in s m) (score_in s) in
    due-cut s at 0x13 l
    (later (due_code s at 0x13) (unless v 10 then unless w 17) h (not-both (unless v 10) (unless w 17) (not-one v 10 (λ e. omega arith)) (not-one w 17 (λ e. omega arith))))

position_at-located : (s : List ℕ) (m : ℕ) → position_at (scored_in s) m ≤ length s → LocatedAt s (scan_position s m)
position_at-located s m l =
    finished-at s (position_at (scored_in s) m) (position_code s m) (record { code = 0; offset = end_at (scored_in s) m }) l (position-cut s m l)
    (λ z. ((position s m z).due.room, λ e. absurd (omega arith)))

pub offsets : Offsets
unfolding scan
offsets s =
    let r =
    finished-at s model_at (model_code s) _ (omega arith) (model-cut s)
    (λ z.
    let m = (model s z).due.room in
    finished-at s level_at (level_code s) _ m (level-cut s m)
    (λ y.
    let l = (level s y).due.room in
    finished-at s score_at (score_code s) _ l (score-cut s l)
    (λ x.
    seasons-at s 0 (period_in s) (scan_position s (period_in s)) (score-room s l x) (λ w. position_at-located s (period_in s) (omega arith))))) in
    record { within = r.0; cut = r.1 }
