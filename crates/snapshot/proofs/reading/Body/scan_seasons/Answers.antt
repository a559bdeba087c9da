-- `snapshot::reading::Body::scan_seasons` meets its contract: what is left to scan gives the whole.
use Prim.Native.Nat.{ℕ, suc, ◌+◌, ◌-◌, zero-le}
use mathlib.Core.Path.{◌≡◌, refl, ap, ◌∙◌}
use mathlib.Core.List.{List}
use native.Mathlib.Nat.{sub-zero}
use native.Mathlib.Numerals.{add-one}
use native.Mathlib.Omega.{arith}
use Rattle.layout.specs.Layout.{season_at, scored_in}
use Rattle.snapshot.specs.Snapshots.{Scanned, season_code, scan_position, scan_seasons, scanned, finished}
use Rattle.snapshot.proofs.Stops.{walk-ends, walk-goes-on}
use Rattle.snapshot.proofs.reading.Body.scan_seasons.Goals as goal

-- a turn: one place more, or the rejected one
turn : (s : List ℕ) (k n : ℕ) (r : Scanned) → finished (season_at (scored_in s) k) (season_code s k) (scan_seasons s (k + 1) n r) ≡ scan_seasons s k (suc n) r
unfolding scan_seasons
turn s k n r = rw add-one

none : (s : List ℕ) (k : ℕ) (r : Scanned) → r ≡ scan_seasons s k 0 r
unfolding scan_seasons
none s k r = refl

pub loop-k-init : goal.loop-k-init
loop-k-init c = (zero-le, rw sub-zero)

pub returns-in_err-stopped_at : goal.returns-in_err-stopped_at
returns-in_err-stopped_at c =
    let l = c.loop-k in
    let a = c.args in
    let e : a.m - l.k ≡ suc (a.m - (l.k + 1)) = omega arith in
    walk-ends _ _ (scan_seasons a.self.bytes.now (l.k + 1) (a.m - (l.k + 1)) (scan_position a.self.bytes.now a.m)) (rw (c.check_season.ensures, c.season_at.ensures, c.args.self.told) at c.in_err-stopped_at.ensures) c.from_residual.ensures.1
    ∙ ap scanned (turn a.self.bytes.now l.k _ _ ∙ (rw e at l.invariant.1))

pub loop-k-preserved : goal.loop-k-preserved
loop-k-preserved c =
    let l = c.loop-k in
    let a = c.args in
    let e : a.m - l.k ≡ suc (a.m - (l.k + 1)) = omega arith in
    let q = walk-goes-on _ _ (rw c.check_season.ensures at c.in_ok-stopped_at.ensures) in
    (omega arith, (rw q at (turn a.self.bytes.now l.k (a.m - (l.k + 1)) (scan_position a.self.bytes.now a.m))) ∙ (rw e at l.invariant.1))

pub returns : goal.returns
returns c =
    let l = c.loop-k in
    let a = c.args in
    let e : a.m - l.k ≡ 0 = omega arith in
    c.scan_position.ensures ∙ ap scanned (none a.self.bytes.now l.k (scan_position a.self.bytes.now a.m) ∙ (rw e at l.invariant.1))
