-- An invariant that a reading, a missing reading and a switch of the rounding rule keep holds after every call and every list of operations, of the state that stands and of
-- each that a slot holds; and each number answered is within the limit that the invariant gives it.
use mathlib.Core.Path.{◌≡◌, refl, sym, ◌∙◌, ap}
use mathlib.Core.Bool.{Bool, true, false, cond}
use mathlib.Core.List.{List, [], ◌∷◌, ◌++◌}
use Prim.Native.Nat.{ℕ, zero, suc}
use lib.Dec.{eqb}
use lib.IntN.{ℤ, pos}
use lib.ListN.{length, take}
use Rattle.calendars.specs.Calendars.{Calendar, no_changes}
use Rattle.state.specs.Fixed.{is_sentinel}
use Rattle.state.specs.States.{index_ok}
use Rattle.state.specs.Switching.{switched}
use Rattle.state.specs.declared.State.{State}
use Rattle.ets.specs.Steps.{step_code, missing_code, after_reading_by, after_reading, after_missing_by, after_missing}
use Rattle.ets.specs.Batches.{Run as BatchRun, run_by, halted, preceded, take_code_by, after_take_by}
use Rattle.ets.proofs.CalendarLaws.{Followed, walkable, skips, repeats, placed, turned}
use Rattle.forecasts.specs.Forecasts.{forecast_of, forecast_list}
use Rattle.forecasts.specs.Calendars.{forecast_by, forecast_list_by}
use Rattle.snapshot.specs.Snapshots.{open_code, read}
use Rattle.checkpoints.specs.Checkpoints.{restore_code, restore}
use Rattle.traces.specs.Calls.{Call, Result, result}
use Rattle.traces.specs.Laws.{Passing}
use Rattle.traces.specs.Operations.{Standing, standing_of, Operation, on_state, Store, Restore, Open, operate}
use Rattle.traces.proofs.Works.{by_code, Fitting, unlisted, listed, take-period, Works, reads, misses, switches, takes, forecasts-one, forecasts-all, walks-one, walks-all}
use Rattle.traces.proofs.Results.{works}
use Rattle.traces.proofs.Lists.{call-laws}
use Rattle.traces.proofs.Operations.{Held, held_first, held-stored, opened-passes}
use Rattle.drift.specs.Exact.{Parameters, parameters_of, Exact, exact_of, exact_reading_by, exact_reading, exact_missing_by, exact_missing, exact_take_by, exact_batch_by, exact_after, Expected, level_is, expected_forecast, expected_forecast_by, up_to, expected_levels_by, expected, Run, run_of, Beside, beside_of, beside_after, expected_by}
use Rattle.drift.specs.Limits.{EachWithin, none, more, AllWithin}
use Rattle.drift.proofs.Turns.{shifted, code_of, stepped, exact_stepped, code-turned, skips-from, skips-to, repeats-from, repeats-to, goes-from, goes_to, exact-skips, exact-repeats, exact-goes}

each_append : {limit : ℤ → Expected → Type 0} {zs ws : List ℤ} {es fs : List Expected} → EachWithin limit zs es → EachWithin limit ws fs → EachWithin limit (zs ++ ws) (es ++ fs)
each_append none v = v
each_append (more h u) v = more h (each_append u v)

pub first : {limit : ℤ → Expected → Type 0} {z : ℤ} {e : Expected} {zs : List ℤ} {es : List Expected} → EachWithin limit (z ∷ zs) (e ∷ es) → limit z e
first (more h u) = h

-- what is asked of an invariant: it holds of states that pass, three kinds of call keep it, and levels and forecasts are within their limits by it. Where m is 24, so that
-- a list may take effect, the exact recursion stands where the state does, and both may be moved to another place; a forecast may walk any calendar
pub record Keeps (c : Parameters) (limit : ℤ → Expected → Type 0) (Inv : State → Exact → Type 0) : Type 0 where
  pub passing : (s : State) (x : Exact) → Inv s x → Passing s
  pub reading : (s : State) (x : Exact) → Inv s x → (y : ℤ) → step_code s y ≡ 0 → Inv (after_reading s y) (exact_reading c x y)
  pub missing : (s : State) (x : Exact) → Inv s x → missing_code s ≡ 0 → Inv (after_missing s) (exact_missing c x)
  pub switch : (s : State) (x : Exact) → Inv s x → Inv (switched s) x
  pub level : (s : State) (x : Exact) → Inv s x → limit s.level (level_is x.L x.n)
  pub forecast : (s : State) (x : Exact) → Inv s x → (h : ℕ) → limit (forecast_of s h) (expected_forecast c x h)
  pub aligned : (s : State) (x : Exact) → Inv s x → s.period ≡ 24 → (x.p ≡ s.index) × (x.count ≡ s.count) × (c.period ≡ s.period)
  pub placing : (s : State) (x : Exact) → Inv s x → s.period ≡ 24 → (p : ℕ) → index_ok s.period p ≡ true → Inv (placed s p) (shifted x p)
  pub walk : (s : State) (x : Exact) → Inv s x → (k : Calendar) → Followed s.period k → (h : ℕ) → limit (forecast_by k s h) (expected_forecast_by k c x h)

module _ (c : Parameters) (limit : ℤ → Expected → Type 0) (Inv : State → Exact → Type 0) (keeps : Keeps c limit Inv) where
  -- ---- a step by the lists of a call
  kept-plain : (s : State) (x : Exact) → Inv s x → (y : ℤ) (gap : Bool) → code_of gap no_changes s y ≡ 0 → Inv (stepped gap no_changes s y) (exact_stepped gap no_changes c x y)
  kept-plain s x w y true = keeps.missing s x w
  kept-plain s x w y false = keeps.reading s x w y

  -- m is 24 after it too
  same-day : (k : Calendar) (s : State) (y : ℤ) (gap : Bool) → (stepped gap k s y).period ≡ s.period
  same-day k s y true = refl
  same-day k s y false = refl

  module _ (k : Calendar) (s : State) (x : Exact) (w : Inv s x) (f : Followed s.period k) (y : ℤ) (gap : Bool) (z : code_of gap k s y ≡ 0) where
    abbrev skip : Bool
    skip = skips k s.index s.count

    abbrev repeat : Bool
    repeat = repeats k s.index s.count

    at : (x.p ≡ s.index) × (x.count ≡ s.count) × (c.period ≡ s.period)
    at = keeps.aligned s x w f.day

    exact-skip : skips k x.p x.count ≡ skip
    exact-skip = rw (at.0, at.1)

    exact-repeat : repeats k x.p x.count ≡ repeat
    exact-repeat = rw (at.0, at.1)

    code-plain : code_of gap no_changes (turned k s) y ≡ 0
    code-plain = sym (code-turned k s y (walkable s.period k f) (keeps.passing s x w).passes gap) ∙ z

    kept-listed : Inv (stepped gap k s y) (exact_stepped gap k c x y)
    kept-listed = go skip refl repeat refl
      where
        go : (a : Bool) → skip ≡ a → (b : Bool) → repeat ≡ b → Inv (stepped gap k s y) (exact_stepped gap k c x y)
        go true e b r =
            rw (skips-to k s y e f.day gap, exact-skips k c x y (exact-skip ∙ e) (at.2 ∙ f.day) gap)
            (kept-plain (placed s 3) (shifted x 3) (keeps.placing s x w f.day 3 (rw f.day)) y gap (ap (λ (t : State). code_of gap no_changes t y) (sym (skips-from k s y e)) ∙ code-plain))
        go false e true r =
            rw (repeats-to k s y e r gap, exact-repeats k c x y (exact-skip ∙ e) (exact-repeat ∙ r) gap)
            (keeps.placing (stepped gap no_changes s y) (exact_stepped gap no_changes c x y) (kept-plain s x w y gap (ap (λ (t : State). code_of gap no_changes t y) (sym (repeats-from k s y e r)) ∙ code-plain)) (same-day no_changes s y gap ∙ f.day) 2 (rw (same-day no_changes s y gap, f.day)))
        go false e false r =
            rw (goes_to k s y e r gap, exact-goes k c x y (exact-skip ∙ e) (exact-repeat ∙ r) gap)
            (kept-plain s x w y gap (ap (λ (t : State). code_of gap no_changes t y) (sym (goes-from k s y e r)) ∙ code-plain))

  kept_step : (k : Calendar) (s : State) (x : Exact) → Inv s x → Fitting s.period k → (y : ℤ) (gap : Bool) → code_of gap k s y ≡ 0 → Inv (stepped gap k s y) (exact_stepped gap k c x y)
  kept_step k s x w unlisted y gap z = kept-plain s x w y gap z
  kept_step k s x w (listed f) y gap z = kept-listed k s x w f y gap z

  -- what a call leaves
  abbrev Fine : Exact → Result → Type 0
  Fine x r = Inv r.state (exact_after c x r.event) × EachWithin limit r.numbers (expected c x r.event)

  -- ---- a batch
  module _ (k : Calendar) where
    kept-take : (s : State) (x : Exact) → Inv s x → Fitting s.period k → (y : ℤ) → take_code_by k s y ≡ 0 → Inv (after_take_by k s y) (exact_take_by k c x y)
    unfolding take_code_by after_take_by exact_take_by
    kept-take s x w f y z = kept_step k s x w f y (is_sentinel y) z

    abbrev Left : Exact → List ℤ → BatchRun → Type 0
    Left x ys r =
        Inv r.state (exact_batch_by k c x (take (length r.levels) ys)) × EachWithin limit r.levels (expected_levels_by k c x (take (length r.levels) ys))

    left-halted : (s : State) (x : Exact) (ys : List ℤ) (n : ℕ) → Inv s x → Left x ys (halted s n)
    unfolding exact_batch_by expected_levels_by
    left-halted s x ys n w = (w, none)

    left-preceded : (s : State) (x : Exact) (y : ℤ) (ys : List ℤ) (r : BatchRun) → Inv s (exact_take_by k c x y) → Left (exact_take_by k c x y) ys r → Left x (y ∷ ys) (preceded s.level r)
    unfolding exact_batch_by expected_levels_by
    left-preceded s x y ys r w u = (u.0, more (keeps.level s (exact_take_by k c x y) w) u.1)

    left-run : (ys : List ℤ) (s : State) (x : Exact) → Inv s x → Fitting s.period k → Left x ys (run_by k s ys)
    unfolding run_by
    left-run [] s x w f = left-halted s x [] 0 w
    left-run (y ∷ ys) s x w f =
        by_code (λ b. Left x (y ∷ ys) (cond b (preceded (after_take_by k s y).level (run_by k (after_take_by k s y) ys)) (halted s (take_code_by k s y)))) (take_code_by k s y)
        (λ z. left-preceded (after_take_by k s y) x y ys (run_by k (after_take_by k s y) ys) (kept-take s x w f y z) (left-run ys (after_take_by k s y) (exact_take_by k c x y) (kept-take s x w f y z) (rw (take-period k s y) f)))
        (left-halted s x (y ∷ ys) (take_code_by k s y) w)

  -- ---- each call, by how it works
  nothing : (n : ℕ) → EachWithin limit (cond (eqb n 0) [] []) []
  nothing n = by_code (λ b. EachWithin limit (cond b [] []) []) n (λ z. none) none

  module _ (s : State) (x : Exact) (w : Inv s x) where
    all-within : (h : ℕ) → EachWithin limit (forecast_list s h) (up_to (expected_forecast c x) h)
    unfolding forecast_list up_to
    all-within zero = none
    all-within (suc h) = each_append (all-within h) (more (keeps.forecast s x w (suc h)) none)

    all-walked : (k : Calendar) → Followed s.period k → (h : ℕ) → EachWithin limit (forecast_list_by k s h) (up_to (expected_forecast_by k c x) h)
    unfolding forecast_list_by up_to
    all-walked k f zero = none
    all-walked k f (suc h) = each_append (all-walked k f h) (more (keeps.walk s x w k f (suc h)) none)

    fine-works : {q : List ℕ} {r : Result} → Works s q r → Fine x r
    unfolding exact_after expected
    fine-works (reads k y n f) =
        (by_code (λ b. Inv (cond b (after_reading_by k s y) s) (cond b (exact_reading_by k c x y) x)) n (λ z. kept_step k s x w (f z).0 y false (f z).1) w, nothing n)
    fine-works (misses k n f) =
        (by_code (λ b. Inv (cond b (after_missing_by k s) s) (cond b (exact_missing_by k c x) x)) n (λ z. kept_step k s x w (f z).0 (pos 0) true (f z).1) w, nothing n)
    fine-works (switches n) = (by_code (λ b. Inv (cond b (switched s) s) x) n (λ z. keeps.switch s x w) w, none)
    fine-works (takes k ys n f) =
        by_code (λ b. Left k x ys (cond b (run_by k s ys) (halted s n))) n (λ z. left-run k ys s x w (f z)) (left-halted k s x ys n w)
    fine-works (forecasts-one h n v f) =
        (w, by_code (λ b. EachWithin limit (cond b (v ∷ []) []) (cond b (expected_forecast c x h ∷ []) [])) n (λ z. more (rw (f z) (keeps.forecast s x w h)) none) none)
    fine-works (forecasts-all h n zs f) =
        (w, by_code (λ b. EachWithin limit (cond b zs []) (cond b (up_to (expected_forecast c x) h) [])) n (λ z. rw (f z) (all-within h)) none)
    fine-works (walks-one k h n v f) =
        (w, by_code (λ b. EachWithin limit (cond b (v ∷ []) []) (cond b (expected_forecast_by k c x h ∷ []) [])) n (λ z. more (rw (f z).1 (keeps.walk s x w k (f z).0 h)) none) none)
    fine-works (walks-all k h n zs f) =
        (w, by_code (λ b. EachWithin limit (cond b zs []) (cond b (up_to (expected_forecast_by k c x) h) [])) n (λ z. rw (f z).1 (all-walked k (f z).0 h)) none)

    fine-call : (k : Call) → Fine x (result s k)
    fine-call k = let p = keeps.passing s x w in fine-works (works s p.typed p.passes k)

-- ---- a list of operations: the invariant holds, for the parameters that run, where they are of the kind; it has to hold of every state that is exact_of
module _ (kind : Parameters → Type 0) (limit : Parameters → ℤ → Expected → Type 0) (Inv : Parameters → State → Exact → Type 0) (keeps : (c : Parameters) → kind c → Keeps c (limit c) (Inv c)) (start : (s : State) → Passing s → kind (parameters_of s) → Inv (parameters_of s) s (exact_of s)) where
  record Good (s : State) (r : Run) : Type 0 where
    passing : Passing s
    within : kind r.parameters → Inv r.parameters s r.exact

  good_start : (s : State) → Passing s → Good s (run_of s)
  good_start s w = record { passing = w; within = start s w }

  -- what stands, and what each slot holds
  record AllGood (a : Standing) (b : Beside) : Type 0 where
    state : Good a.state b.run
    slots : Held Good a.checkpoints b.kept

  module _ (a : Standing) (b : Beside) (w : AllGood a b) where
    abbrev c : Parameters
    c = b.run.parameters

    fine : (g : kind c) (k : Call) → Fine c (limit c) (Inv c) (keeps c g) b.run.exact (result a.state k)
    fine g = fine-call c (limit c) (Inv c) (keeps c g) a.state b.run.exact (w.state.within g)

    good-after : (o : Operation) → AllGood (operate a o).standing (beside_after b (operate a o).notice)
    unfolding operate beside_after
    good-after (on_state k) =
        record { state = record { passing = (call-laws a.state w.state.passing k).stays; within = λ g. (fine g k).0 }; slots = w.slots }
    good-after (Store slot) =
        record { state = w.state; slots = held-stored Good a.state b.run a.checkpoints b.kept w.state.passing.typed w.state w.slots slot }
    good-after (Restore slot) =
        record {
          state = by_code (λ t. Good (cond t (restore slot a.checkpoints).state a.state) (cond t (b.kept slot) b.run)) (restore_code slot a.checkpoints) (w.slots slot) w.state;
          slots = w.slots;
        }
    good-after (Open bytes h) =
        record {
          state = by_code (λ t. Good (cond t (read bytes).state a.state) (cond t (run_of (read bytes).state) b.run)) (open_code bytes) (λ z. good_start (read bytes).state (opened-passes bytes h z)) w.state;
          slots = w.slots;
        }

    each_within : (o : Operation) → kind c → EachWithin (limit c) (operate a o).numbers (expected_by b.run (operate a o).notice)
    unfolding operate expected_by
    each_within (on_state k) g = (fine g k).1
    each_within (Store slot) g = none
    each_within (Restore slot) g = none
    each_within (Open bytes h) g = none

  module _ (end : Parameters → State → Exact → Type 0) (ends : (c : Parameters) (s : State) (x : Exact) → Inv c s x → end c s x) where
    claim-from : (os : List Operation) (a : Standing) (b : Beside) → AllGood a b → AllWithin kind limit end a b os
    unfolding AllWithin
    claim-from [] a b w = λ g. ends b.run.parameters a.state b.run.exact (w.state.within g)
    claim-from (o ∷ os) a b w =
        (each_within a b w o, claim-from os (operate a o).standing (beside_after b (operate a o).notice) (good-after a b w o))

    pub claim : (s : State) → Passing s → (os : List Operation) → AllWithin kind limit end (standing_of s) (beside_of s) os
    claim s w os = claim-from os (standing_of s) (beside_of s) (record { state = good_start s w; slots = held_first Good (λ slot. run_of s) })
