-- `in_place::season_ahead` meets its contract.
use Prim.Native.Nat.{ℕ, ◌+◌, ◌-◌, ◌%◌, ◌<◌}
use mathlib.Core.Path.{◌≡◌, refl, sym, ap, ◌∙◌}
use mathlib.Core.Bool.{Bool, true, false, ◌||◌, false≢true}
use mathlib.Core.List.{List}
use native.Mathlib.Nat.{mod-lt}
use native.Mathlib.Omega.{arith}
use lib.Dec.{eqb}
use lib.IntN.{pos}
use lib.ListN.{length}
use mir.Syntax.{w64}
use mir.ValLaws.{to_z-of_z}
use borrow.Author.Tests.{eqb-false, le-leb}
use Rattle.std.specs.Prelude.{Ok}
use Rattle.std.specs.Result.{result_unwrap_or}
use Rattle.state.specs.Rejections.{Answer}
use Rattle.layout.specs.CommandTable.{season_length}
use Rattle.layout.specs.Layout.{season_at, scored_in, season_in}
use Rattle.slices.specs.Slices.{season_value}
use Rattle.snapshot.specs.Facts.{Room}
use borrow.Author.Rules.{rules}
use Rattle.in_place.proofs.season_ahead.Goals as goal

neither : (a b : Bool) → (a || b) ≡ false → (a ≡ false) × (b ≡ false)
neither true b e = absurd (false≢true (sym e))
neither false b e = (refl, e)

-- there is a season
some : (m h : ℕ) → (eqb m 0 || eqb h 0) ≡ false → 0 < m
some m h e = omega (arith, eqb-false m 0 (neither (eqb m 0) (eqb h 0) e).0)

-- the slice has the whole command, so its value is told
told : (d : List ℕ) (m p k : ℕ) → Room (scored_in d) d m p → k < m → season_value d k ≡ Ok (season_in d k)
unfolding season_value
told d m p k r l = rw (le-leb (season_at (scored_in d) k + season_length) (length d) (omega arith))

pub returns : goal.returns
returns c =
    let a = c.args in
    let k = (a.p + a.h - 1) % a.m in
    let t = told a.s.now a.m a.p k c.requires (mod-lt (a.p + a.h - 1) (some a.m a.h c.if-m-h.false)) in
    rw (to_z-of_z w64 c.unwrap_or.result (search rules), c.if-m-h.false) (c.unwrap_or.ensures ∙ ap (λ (r : Answer). result_unwrap_or r (pos 0)) (c.season_value.ensures ∙ t))
