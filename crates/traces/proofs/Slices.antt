-- What a slice of a list's call holds: the state that stands, or nothing that is accepted.
use Prim.Native.Nat.{ℕ, ◌<◌, ◌≤◌}
use mathlib.Core.Path.{◌≡◌, refl, ◌∙◌}
use mathlib.Core.Bool.{true}
use mathlib.Core.List.{List, [], ◌++◌, append-nil}
use native.Mathlib.Decide.{dec_le}
use native.Mathlib.Omega.{arith}
use lib.ListN.{length, take, drop, get_or, take-append-drop}
use lib.Seq.{take_all, length-take-le, get_or-take}
use Rattle.state.specs.States.{Typed, check}
use Rattle.state.specs.declared.State.{State}
use Rattle.layout.specs.Layout.{end_at, scored_in, period_in}
use Rattle.snapshot.specs.Snapshots.{open_offset, decoded}
use Rattle.slices.specs.Slices.{in_place_code}
use Rattle.snapshot.proofs.Accepting.{accepted-size}
use Rattle.slices.proofs.SliceLaws.{one-snapshot, nothing-after}
use Rattle.saving.specs.Encoding.{to_bytes, model_bytes, level_bytes, score_bytes, encoded}
use Rattle.saving.proofs.Lengths.{length-encoded}
use Rattle.round_trips.proofs.RoundTrip.{read_back}
use Rattle.traces.specs.Calls.{Slice, followed, cut, slice_of, state_in}

-- the length of a snapshot is told by its season length, so that no shorter beginning of it is one
period-in : (s : State) → get_or (encoded s) 2 0 ≡ s.period
unfolding encoded model_bytes
period-in s = refl

score-in : (s : State) → get_or (encoded s) 36 0 ≡ 0x15
unfolding encoded model_bytes level_bytes score_bytes to_bytes
score-in s = refl

pub too_short : (s : State) (size : ℕ) → size < length (encoded s) → in_place_code (take size (encoded s)) ≡ 0 → ⊥
unfolding decoded
too_short s size h z =
    let d = take size (encoded s) in
    let o = one-snapshot d z in
    let w = accepted-size d o.0 in
    let l : length d ≡ size = length-take-le size (encoded s) (omega arith) in
    let n : 46 ≤ size = omega arith in
    let p : get_or d 2 0 ≡ s.period = get_or-take size (encoded s) 2 0 (omega arith) ∙ period-in s in
    let q : get_or d 36 0 ≡ 0x15 = get_or-take size (encoded s) 36 0 (omega arith) ∙ score-in s in
    let e : scored_in d ≡ true = rw q in
    let v : open_offset d ≡ end_at true (period_in d) = rw e at w.0 in
    omega (arith, length-encoded s, nothing-after d z e)

module _ (s : State) (full : Typed s) (ok : check s ≡ 0) where
  saved : (trailing : List ℕ) → decoded (encoded s ++ trailing) ≡ s
  saved trailing = (read_back s trailing full ok).2

  -- an accepted slice holds the state
  pub accepted-holds : (slice : Slice) → in_place_code (slice_of s slice) ≡ 0 → decoded (slice_of s slice) ≡ s
  accepted-holds (followed trailing) z = saved trailing
  accepted-holds (cut size) z = go (dec_le (length (encoded s)) size)
    where
      go : Dec (length (encoded s) ≤ size) → decoded (take size (encoded s)) ≡ s
      go (yes h) = rw (take_all size (encoded s) h) (rw (append-nil (encoded s)) at (saved []))
      go (no h) = absurd (too_short s size (omega arith) z)

  -- a slice left as found leaves the state, and so does one that holds its snapshot
  pub untouched-holds : (slice : Slice) → state_in s slice (slice_of s slice) ≡ s
  untouched-holds (followed trailing) = saved trailing
  untouched-holds (cut size) = rw (take-append-drop size (encoded s)) (rw (append-nil (encoded s)) at (saved []))

  pub rewritten-holds : (old : State) (slice : Slice) → state_in old slice (encoded s) ≡ s
  rewritten-holds old (followed trailing) = rw (append-nil (encoded s)) at (saved [])
  rewritten-holds old (cut size) = saved (drop size (encoded old))
