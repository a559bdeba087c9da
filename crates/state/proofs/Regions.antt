-- The usual region and the checks: with the command that the gains call for they are document 01's, with the other one they end there.
use Prim.Native.Nat.{ℕ, ◌+◌}
use mathlib.Core.Path.{◌≡◌, refl}
use mathlib.Core.Bool.{Bool, true, false, cond, not, ◌&&◌, ◌||◌}
use native.Mathlib.Omega.{arith}
use borrow.Author.Tests.{leb-true, le-leb, eqb-true}
use Rattle.state.specs.Rejections.{unless, ◌then◌}
use Rattle.models.specs.Models.{parameters_ok, usual_gains}
use Rattle.state.specs.Scores.{no_score, sum_of, sum_ok, score_ok}
use Rattle.state.specs.States.{parameters_code, values_ok, position_ok, check}
use Rattle.state.specs.Regions.{is_usual, RegionLaws}
use Rattle.state.specs.declared.Score.{Score}
use Rattle.state.specs.declared.State.{State}
use Rattle.state.proofs.Tests.{then-assoc, then-none}
use Rattle.state.proofs.Passing.{passed, each-allowed}

-- the code of the parameters by its tests: they are allowed, and the gains usual
abbrev by : Bool → Bool → Bool → ℕ
by outside allowed usual = unless (allowed && not (outside && usual)) 7 then unless (outside || usual) 16

called-for : (allowed usual : Bool) → by (not usual) allowed usual ≡ unless allowed 7
called-for true true = refl
called-for true false = refl
called-for false true = refl
called-for false false = refl

-- the other command is rejected, whatever the later checks say
not-called-for : (allowed usual : Bool) (later : ℕ) → (by usual allowed usual then later) ≡ (unless allowed 7 then cond usual 7 16)
not-called-for true true later = refl
not-called-for true false later = refl
not-called-for false true later = refl
not-called-for false false later = refl

opener-is : (outside allowed usual : Bool) → by outside allowed usual ≡ 0 → outside ≡ not usual
opener-is true true true h = absurd (omega arith)
opener-is true true false h = refl
opener-is true false usual h = absurd (omega arith)
opener-is false true true h = refl
opener-is false true false h = absurd (omega arith)
opener-is false false usual h = absurd (omega arith)

-- a score of zeros is never rejected
scored-none : (count : ℕ) (score : Score) → score ≡ no_score → score_ok count score ≡ true
unfolding sum_of sum_ok
scored-none count score e = rw (e, le-leb 0 count (omega arith))

abbrev ok : State → Bool
ok s = parameters_ok s.model s.alpha s.beta s.gamma s.phi

pub region-laws : RegionLaws
unfolding check parameters_code
region-laws =
    record {
      parameters = λ model A B G F. called-for (parameters_ok model A B G F) (usual_gains A B G);
      same = λ s. rw (called-for (ok s) (is_usual s)) (simp then-assoc);
      other = λ s. rw (not-called-for (ok s) (is_usual s) (unless (values_ok s) 9 then unless (position_ok s) 10 then unless (score_ok s.count s.score) 17)) (simp then-assoc);
      unscored = λ s e. rw (scored-none s.count s.score e, then-none (unless (position_ok s) 10));
      opener = λ s h. opener-is s.outside (ok s) (is_usual s) (passed s h).parameters;
      simple = λ model A B G F t s h.
          let p = each-allowed model A B G F h in
          let a = leb-true A 65536 p.alpha in
          let b : B ≡ 0 = eqb-true B 0 (rw t at p.beta) in
          let g : G ≡ 0 = eqb-true G 0 (rw s at p.gamma) in
          rw (le-leb B A (omega arith), le-leb (A + G) 65536 (omega arith));
    }
