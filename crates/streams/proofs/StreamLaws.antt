-- The stream as a whole: each command moves on and stays within the bytes, the state that is open passes its checks, and going command by command
-- gives the whole stream's answers, of which the last and no other is X or N.
use Prim.Native.Nat.{ℕ, zero, suc, ◌+◌, ◌-◌, ◌≤◌, ◌<◌}
use mathlib.Core.Path.{◌≡◌, refl, sym, ap, ◌∙◌}
use mathlib.Core.Bool.{Bool, true, false, cond, ◌||◌, true≢false, false≢true}
use mathlib.Core.List.{List, [], ◌∷◌, ◌++◌}
use native.Mathlib.Nat.{zero-add}
use native.Mathlib.Omega.{arith}
use borrow.Author.Tests.{eqb-true, leb-false, lt-leb}
use lib.Dec.{eqb, leb, eqb-suc-zero}
use lib.IntN.{ℤ}
use lib.ListN.{length, length-drop, length-replicate, take, drop, get_or, replicate}
use lib.Ieee.{Float}
use lib.Seq.{sets, sets-eq, take_at, take-length}
use Rattle.state.specs.Rejections.{unless, outcome, answer, input_too_long, truncated, by_outcome, by_answer, rejection_of, Outcome}
use Rattle.state.specs.States.{check}
use Rattle.state.specs.Switching.{switch_to_even}
use Rattle.state.specs.declared.State.{State}
use Rattle.integers.proofs.Tests.{cond-elim}
use Rattle.state.proofs.Switches.{checks-kept, switch-accepted}
use Rattle.ets.specs.Steps.{step, step_code, residual_of, missing, missing_code}
use Rattle.forecasts.specs.Forecasts.{max_horizon, forecast_to, forecast_code, forecast_of}
use Rattle.ets.proofs.Kept.{reading-kept, reading-typed, missing-kept}
use Rattle.weights.specs.Weights.{variance}
use Rattle.weights.specs.declared.Variance.{Variance}
use Rattle.relative_errors.specs.Relative.{relative_variance}
use Rattle.layout.specs.Bytes.{AreBytes}
use Rattle.layout.specs.CommandTable.{command_size, opens}
use Rattle.snapshot.specs.Snapshots.{open_code, open_offset, decoded, read}
use Rattle.saving.specs.Encoding.{encoded}
use Rattle.saving.specs.Saving.{save, save_code, saved_bytes}
use Rattle.saving.proofs.ByteLaws.{bytes_drop}
use Rattle.round_trips.proofs.RoundTrip.{decoded-typed}
use Rattle.checkpoints.specs.Checkpoints.{no_checkpoints, store_code, store, restore_code}
use Rattle.checkpoints.proofs.CheckpointLaws.{restored-outcome}
use Rattle.snapshot.proofs.Accepting.{accepted-size}
use Rattle.snapshot.proofs.Decoded.{accepted-passes}
use Rattle.snapshot.proofs.OffsetLaws.{offsets}
use Rattle.decoding.specs.Decoding.{command_code, operands, decode}
use Rattle.decoding.specs.declared.Decoded.{Decoded}
use Rattle.decoding.specs.declared.Command.{Command}
use Rattle.decoding.specs.declared.Command.TheVariants as CommandOf
use Rattle.decoding.proofs.DecodingLaws.{inside, whole-command}
use Rattle.lines.specs.Lines.{fields_bytes, line_of, write_line, line_bytes}
use Rattle.replies.specs.declared.Reply.{Reply}
use Rattle.replies.specs.declared.Reply.TheVariants as ReplyOf
use Rattle.lines.proofs.LineLaws.{saved_count, line-most, long-enough}
use Rattle.replies.specs.Replies.{is_last}
use Rattle.actions.specs.Actions.{by_variance, by_relative}
use Rattle.commands.specs.Commands.{start, accepted, rejected, finish, rest_offset, open_snapshot, take_reading, take_missing, switch_state, give_forecast, give_variance, give_relative_variance, save_state, store_state, restore_state, act, buffered, next_command, perform, perform_bytes, perform_checkpoints}
use Rattle.streams.specs.Stream.{input_limit, snapshot_room, line_room, admit, next, answers_in, answers_from, answers_of, answers, write_next, next_bytes, final_reply, last_reply, line_after, text_of}
use Rattle.streams.specs.Promises.{Passes, Sound, Holding, EndsOnce, Answers, Openings, Offsets}
use Rattle.commands.specs.declared.Session.{Session}
use Rattle.commands.specs.declared.Performed.{Performed}
use Rattle.commands.proofs.CommandLaws.{snapshot-most, save-facts, performs, keeps, opened-rejected}
use Rattle.std.specs.Prelude.{Result, Ok, Err}
use Rattle.state.specs.declared.Rejection.{Rejection}

module _ (P : Performed → Type 0) where
  on-outcome : (code : ℕ) (a : Performed) (r : Rejection → Performed) → (code ≡ 0 → P a) → ((n : Rejection) → P (r n)) → P (by_outcome (outcome code) a r)
  on-outcome zero a r f g = f refl
  on-outcome (suc code) a r f g = rw (eqb-suc-zero code) (g (rejection_of (suc code)))

  on-answer : (code : ℕ) (v : ℤ) (a : ℤ → Performed) (r : Rejection → Performed) → (code ≡ 0 → P (a v)) → ((n : Rejection) → P (r n)) → P (by_answer (answer code v) a r)
  on-answer zero v a r f g = f refl
  on-answer (suc code) v a r f g = rw (eqb-suc-zero code) (g (rejection_of (suc code)))

  on-variance : (v : Result Variance Rejection) (a : ℕ → ℕ → Performed) (r : Rejection → Performed) → ((high low : ℕ) → P (a high low)) → ((n : Rejection) → P (r n)) → P (by_variance v a r)
  on-variance (Ok v) a r f g = f v.high v.low
  on-variance (Err n) a r f g = g n

  on-relative : (v : Result Float Rejection) (a : Float → Performed) (r : Rejection → Performed) → ((w : Float) → P (a w)) → ((n : Rejection) → P (r n)) → P (by_relative v a r)
  on-relative (Ok w) a r f g = f w
  on-relative (Err n) a r f g = g n

-- ---- a state that is open passes its checks
pub start-sound : Sound start
unfolding start
start-sound = record { passes = λ e. absurd (false≢true e) }

reading-passes : (t : State) (y : ℤ) → Passes t → step_code t y ≡ 0 → Passes (step t y).state
unfolding step
reading-passes t y p z =
    rw z (record { checked = reading-kept t y p.typed.cells z; typed = reading-typed t y p.typed })

switch-passes : (t : State) → Passes t → Passes (switch_to_even t).state
switch-passes t p =
    rw (switch-accepted t p.checked) (record { checked = checks-kept t ∙ p.checked; typed = record { cells = p.typed.cells; low = p.typed.low } })

missing-passes : (t : State) → Passes t → missing_code t ≡ 0 → Passes (missing t).state
unfolding missing
missing-passes t p z = rw z (record { checked = missing-kept t z; typed = record { cells = p.typed.cells; low = p.typed.low } })

-- ---- the line of a save, of the buffer that it was written into
front : (d xs : List ℕ) → length xs ≤ length d → take (length xs) (sets d 0 xs) ≡ take (length xs) xs
front d xs h = rw (sets-eq xs d 0 (rw (zero-add (length xs)) h)) (take_at xs _ (length xs) refl ∙ sym (take-length xs))

saved-line : (t : State) (d : List ℕ) → save_code t (length d) ≡ 0
    → line_of (ReplyOf.Saved (length (encoded t))) (saved_bytes t d) ≡ line_of (ReplyOf.Saved (length (encoded t))) (encoded t)
unfolding line_of fields_bytes saved_bytes
saved-line t d z = rw (z, front d (encoded t) (save-facts t (length d) z).1)

-- ---- a command that is not the last answer moves on and stays within the bytes, what is open stays sound, and its line is that of the state that stands
pub record Goes (s : List ℕ) (x : Session) (cs buffer : List ℕ) (p : Performed) : Type 0 where
  pub moves : is_last p.reply ≡ false → (x.at < p.session.at) × (p.session.at ≤ length s)
  pub sound : AreBytes s → Holding cs → Sound x → Sound p.session
  pub saved : saved_count p.reply ≤ snapshot_room
  pub line : line_of p.reply buffer ≡ line_after p

module _ (s : List ℕ) (x : Session) (cs d : List ℕ) where
  stays : (r : Rejection) (offset : ℕ) → Goes s x cs d (rejected r offset x)
  unfolding line_after line_of fields_bytes
  stays r offset = record { moves = λ e. absurd (true≢false e); sound = λ b c p. p; saved = omega arith; line = refl }

  goes : (r : Reply) (to : ℕ) (t : State) → x.at < to → to ≤ length s → (AreBytes s → Holding cs → Sound x → Passes t) → saved_count r ≤ snapshot_room → line_of r d ≡ line_of r (encoded t) → Goes s x cs d (accepted r to t)
  unfolding line_after
  goes r to t h k f n e = record { moves = λ _. (h, k); sound = λ b c p. record { passes = λ _. f b c p }; saved = n; line = e }

  finish-goes : Goes s x cs d (finish x)
  unfolding finish line_after line_of fields_bytes
  finish-goes = record { moves = λ e. absurd (true≢false e); sound = λ b c p. p; saved = omega arith; line = refl }

  open-goes : x.at < length s → Goes s x cs d (open_snapshot s x)
  unfolding open_snapshot read line_of fields_bytes
  open-goes h =
      let t = drop x.at s in
      cond-elim (Goes s x cs d) (eqb (open_code t) 0) _ _
      (λ q. let z = eqb-true (open_code t) 0 q in let k = accepted-size t z in
      goes _ _ _ (omega arith) (omega (arith, length-drop x.at s)) (λ b _ _. rw z (record { checked = accepted-passes t z; typed = decoded-typed t (bytes_drop x.at s b) })) (omega arith) refl)
      (λ _. stays _ _)

  module _ (to : ℕ) (h : x.at < to) (k : to ≤ length s) (same : AreBytes s → Holding cs → Sound x → Passes x.state) where
    reading-goes : (y : ℤ) → Goes s x cs d (take_reading x to y)
    unfolding take_reading step line_of fields_bytes
    reading-goes y =
        on-answer (Goes s x cs d) (step_code x.state y) (residual_of x.state y) _ _ (λ z. goes _ to _ h k (λ b c p. reading-passes x.state y (same b c p) z) (omega arith) refl) (λ n. stays n _)

    missing-goes : Goes s x cs d (take_missing x to)
    unfolding take_missing missing line_of fields_bytes
    missing-goes =
        on-outcome (Goes s x cs d) (missing_code x.state) _ _ (λ z. goes _ to _ h k (λ b c p. missing-passes x.state (same b c p) z) (omega arith) refl) (λ n. stays n _)

    switch-goes : Goes s x cs d (switch_state x to)
    unfolding switch_state switch_to_even line_of fields_bytes
    switch-goes =
        on-outcome (Goes s x cs d) (check x.state) _ _ (λ z. goes _ to _ h k (λ b c p. switch-passes x.state (same b c p)) (omega arith) refl) (λ n. stays n _)

    forecast-goes : (j : ℕ) → Goes s x cs d (give_forecast x to j)
    unfolding give_forecast forecast_to line_of fields_bytes
    forecast-goes j =
        on-answer (Goes s x cs d) (forecast_code x.state j) (forecast_of x.state j) _ _ (λ z. goes _ to _ h k same (omega arith) refl) (λ n. stays n _)

    variance-goes : (j v : ℕ) → Goes s x cs d (give_variance x to j v)
    unfolding give_variance line_of fields_bytes
    variance-goes j v = on-variance (Goes s x cs d) (variance x.state j v) _ _ (λ high low. goes _ to _ h k same (omega arith) refl) (λ n. stays n _)

    relative-goes : (j v : ℕ) → Goes s x cs d (give_relative_variance x to j v)
    unfolding give_relative_variance line_of fields_bytes
    relative-goes j v = on-relative (Goes s x cs d) (relative_variance x.state j v max_horizon) _ _ (λ w. goes _ to _ h k same (omega arith) refl) (λ n. stays n _)

    store_goes : (slot : ℕ) → Goes s x cs d (store_state x to slot (length cs))
    unfolding store_state store line_of fields_bytes
    store_goes slot =
        on-outcome (Goes s x cs d) (store_code x.state slot (length cs)) _ _ (λ z. goes _ to _ h k same (omega arith) refl) (λ n. stays n _)

    restore-goes : (slot : ℕ) → Goes s x cs d (restore_state x to slot cs)
    unfolding restore_state line_of fields_bytes
    restore-goes slot =
        rw (restored-outcome slot cs)
        (on-outcome (Goes s x cs d) (restore_code slot cs) _ _ (λ z. goes _ to _ h k (λ b c p. c.passes slot z) (omega arith) refl) (λ n. stays n _))

save-goes : (s : List ℕ) (x : Session) (cs d : List ℕ) (to : ℕ) → x.at < to → to ≤ length s → (AreBytes s → Holding cs → Sound x → Passes x.state)
    → Goes s x cs (saved_bytes x.state d) (save_state x to (length d))
unfolding save_state save
save-goes s x cs d to h k same =
    on-outcome (Goes s x cs (saved_bytes x.state d)) (save_code x.state (length d)) _ _
    (λ z. goes s x cs (saved_bytes x.state d) _ to _ h k same (snapshot-most x.state (save-facts x.state (length d) z).0) (saved-line x.state d z))
    (λ n. stays s x cs (saved_bytes x.state d) n _)

-- ---- a command that was decoded finds an open state unless it opens one
pub active-is : (a b : Bool) → (a || b) ≡ true → b ≡ false → a ≡ true
active-is true b e f = refl
active-is false true e f = absurd (true≢false f)
active-is false false e f = absurd (false≢true e)

module _ (s : List ℕ) (x : Session) (cs d : List ℕ) where
  abbrev b : ℕ
  b = get_or s x.at 0

  abbrev After : Decoded → Type 0
  After k = Goes s x cs (buffered x d k.command) (act s x cs (length d) k.next k.command)

  operands-go : x.at < length s → command_code s x.at x.active x.state.model ≡ 0 → After (record { command = operands s x.at; next = x.at + command_size b })
  unfolding operands
  operands-go h e =
      let w = whole-command s x.at x.active x.state.model e in
      let to : ℕ = x.at + command_size b in
      let l : x.at < to = omega arith in
      let k : to ≤ length s = omega arith in
      let open-state : opens b ≡ false → AreBytes s → Holding cs → Sound x → Passes x.state = λ q _ _ p. p.passes (active-is x.active (opens b) w.due q) in
      let P : Command → Type 0 = λ c. After (record { command = c; next = to }) in
      cond-elim P (opens b) _ _ (λ _. open-goes s x cs d h)
      (λ q. cond-elim P (eqb b 0x20) _ _ (λ _. reading-goes s x cs d to l k (open-state q) _)
      (λ _. cond-elim P (eqb b 0x21) _ _ (λ _. missing-goes s x cs d to l k (open-state q))
      (λ _. cond-elim P (eqb b 0x30) _ _ (λ _. forecast-goes s x cs d to l k (open-state q) _)
      (λ _. cond-elim P (eqb b 0x31) _ _ (λ _. variance-goes s x cs d to l k (open-state q) _ _)
      (λ _. cond-elim P (eqb b 0x32) _ _ (λ _. relative-goes s x cs d to l k (open-state q) _ _)
      (λ _. cond-elim P (eqb b 0x14) _ _ (λ _. switch-goes s x cs d to l k (open-state q))
      (λ _. cond-elim P (eqb b 0x50) _ _ (λ _. store_goes s x cs d to l k (open-state q) _)
      (λ _. cond-elim P (eqb b 0x51) _ _ (λ _. restore-goes s x cs d to l k (open-state q) _)
      (λ _. save-goes s x cs d to l k (open-state q))))))))))

  pub perform-goes : Goes s x cs (perform_bytes s x d) (perform s x cs (length d))
  unfolding perform perform_bytes decode
  perform-goes =
      cond-elim After (leb (length s) x.at) _ _ (λ _. finish-goes s x cs d)
      (λ q. let h = leb-false (length s) x.at q in
      cond-elim After (eqb (command_code s x.at x.active x.state.model) 0) _ _ (λ e. operands-go h (eqb-true _ 0 e)) (λ _. stays s x cs d _ _))

-- one command of the program's stream
pub next-goes : (s : List ℕ) (x : Session) (cs : List ℕ) → Goes s x cs (perform_bytes s x (replicate snapshot_room 0)) (next s x cs)
next-goes s x cs = rw (length-replicate {A = ℕ} snapshot_room 0) at (perform-goes s x cs (replicate snapshot_room 0))

pub later-sound : (s : List ℕ) (x : Session) (cs : List ℕ) (room : ℕ) → AreBytes s → Holding cs → Sound x → Sound (perform s x cs room).session
later-sound s x cs room = rw (length-replicate {A = ℕ} room 0) at (perform-goes s x cs (replicate room 0)).sound

-- its line, of the buffer that a save wrote into
module _ (s : List ℕ) (x : Session) (cs : List ℕ) (room : ℕ) (d : List ℕ) (p : Performed) (saved : List ℕ) (q : p ≡ next s x cs) (e : saved ≡ perform_bytes s x (replicate snapshot_room 0)) where
  same_line : line_of p.reply saved ≡ line_of p.reply (encoded p.session.state)
  unfolding line_after
  same_line = rw (q, e) (next-goes s x cs).line

  pub written_is : record { performed = p; line = write_line p.reply saved room } ≡ write_next s x cs room
  unfolding write_next write_line
  written_is = rw (same_line, q)

  pub bytes-are : line_bytes p.reply saved d ≡ next_bytes s x cs d
  unfolding next_bytes line_bytes
  bytes-are = rw (same_line, q)

-- ---- as many commands as are asked for give the same answers, once they are enough
unless-last : (b : Bool) (l k : List Performed) → (b ≡ false → l ≡ k) → cond b [] l ≡ cond b [] k
unless-last true l k f = refl
unless-last false l k f = f refl

enough : (s : List ℕ) (n m : ℕ) (x : Session) (cs : List ℕ) → length s - x.at < n → length s - x.at < m → answers_in n s x cs ≡ answers_in m s x cs
unfolding answers_in
enough s zero m x cs h k = absurd (omega arith)
enough s (suc n) zero x cs h k = absurd (omega arith)
enough s (suc n) (suc m) x cs h k =
    let p = next s x cs in
    let ds = perform_checkpoints s x cs in
    ap (λ (l : List Performed). p ∷ l)
    (unless-last (is_last p.reply) (answers_in n s p.session ds) (answers_in m s p.session ds)
    (λ e. let q = (next-goes s x cs).moves e in enough s n m p.session ds (omega arith) (omega arith)))

-- going command by command gives the whole stream's answers
pub command-by-command : (s : List ℕ) (x : Session) (cs : List ℕ)
    → answers_from s x cs ≡ next s x cs ∷ cond (is_last (next s x cs).reply) [] (answers_from s (next s x cs).session (perform_checkpoints s x cs))
unfolding answers_from answers_in
command-by-command s x cs =
    let p = next s x cs in
    let y = p.session in
    let ds = perform_checkpoints s x cs in
    ap (λ (l : List Performed). p ∷ l)
    (unless-last (is_last p.reply) (answers_in (length s - x.at) s y ds) (answers_in (suc (length s - y.at)) s y ds)
    (λ e. let q = (next-goes s x cs).moves e in enough s (length s - x.at) (suc (length s - y.at)) y ds (omega arith) (omega arith)))

-- and so does its text
text-until : (b : Bool) (l : List Performed) → text_of (cond b [] l) ≡ cond b [] (text_of l)
unfolding text_of
text-until true l = refl
text-until false l = refl

line-by-line : (s : List ℕ) (x : Session) (cs : List ℕ)
    → text_of (answers_from s x cs) ≡ line_after (next s x cs) ++ cond (is_last (next s x cs).reply) [] (text_of (answers_from s (next s x cs).session (perform_checkpoints s x cs)))
unfolding text_of
line-by-line s x cs =
    rw (command-by-command s x cs)
    (ap (λ (l : List ℕ). line_after (next s x cs) ++ l) (text-until (is_last (next s x cs).reply) (answers_from s (next s x cs).session (perform_checkpoints s x cs))))

line-written : (s : List ℕ) (x : Session) (cs : List ℕ) (room : ℕ) → line_room ≤ room
    → write_line (next s x cs).reply (encoded (next s x cs).session.state) room ≡ Ok (length (line_after (next s x cs)))
unfolding line_after
line-written s x cs room h =
    let r = (next s x cs).reply in
    let saved = encoded (next s x cs).session.state in
    let e = length-replicate {A = ℕ} room 0 in
    let m = line-most r saved snapshot_room (omega arith) (next-goes s x cs).saved in
    rw e at (long-enough r saved (replicate room 0) (omega arith)).0

more : (p : Performed) (l : List Performed) → is_last p.reply ≡ false → EndsOnce l → EndsOnce (p ∷ l)
more p [] e f = absurd f
more p (q ∷ l) e f = (e, f)

one_more : (b : Bool) (p : Performed) (l : List Performed) → is_last p.reply ≡ b → (b ≡ false → EndsOnce l) → EndsOnce (p ∷ cond b [] l)
one_more true p l e f = e
one_more false p l e f = more p l e (f refl)

ends : (n : ℕ) (s : List ℕ) (x : Session) (cs : List ℕ) → length s - x.at < n → EndsOnce (answers_in n s x cs)
unfolding answers_in
ends zero s x cs h = absurd (omega arith)
ends (suc n) s x cs h =
    let p = next s x cs in
    one_more (is_last p.reply) p (answers_in n s p.session (perform_checkpoints s x cs)) refl (λ e. let q = (next-goes s x cs).moves e in ends n s p.session (perform_checkpoints s x cs) (omega arith))

ends-once : (s : List ℕ) → EndsOnce (answers s)
unfolding answers answers_from admit
ends-once s =
    cond-elim (λ (o : Outcome). EndsOnce (answers_of o s)) (eqb (unless (leb (length s) input_limit) input_too_long) 0) _ _
    (λ _. ends (suc (length s - start.at)) s start no_checkpoints (omega arith)) (λ _. refl)

pub answers-laws : Answers
answers-laws = record { each = command-by-command; lines = line-by-line; written = line-written; ends = ends-once }

-- ---- a new group, and the offset of X
module _ (s : List ℕ) (x : Session) (cs : List ℕ) (room : ℕ) (o : (next_command s x).command ≡ CommandOf.Open) where
  opened : perform s x cs room ≡ open_snapshot s x
  opened = performs s x (next_command s x) CommandOf.Open refl o cs room

  whole : open_code (drop x.at s) ≡ 0 → (perform s x cs room).session.state ≡ decoded (drop x.at s)
  unfolding open_snapshot read
  whole z = rw (opened, z)

  otherwise : (open_code (drop x.at s) ≡ 0 → ⊥) → (perform s x cs room).session ≡ x
  otherwise h = ap (λ (p : Performed). p.session) (opened ∙ opened-rejected s x h)

  names : perform_checkpoints s x cs ≡ cs
  names = keeps s x (next_command s x) CommandOf.Open refl o cs

  none : open_code (drop x.at s) ≡ truncated → length (drop x.at s) ≤ open_offset (drop x.at s) → (perform s x cs room).reply ≡ ReplyOf.Rejected (rejection_of truncated) (length s)
  none z h =
      let k = inside s x.at x.active x.state.model o in
      let e : rest_offset s x.at ≡ length s = omega (arith, length-drop x.at s, (offsets (drop x.at s)).within) in
      ap (λ (p : Performed). p.reply) (opened ∙ opened-rejected s x (λ q. omega arith))
      ∙ ap (λ (n : ℕ). ReplyOf.Rejected (rejection_of n) (rest_offset s x.at)) z
      ∙ ap (λ (n : ℕ). ReplyOf.Rejected (rejection_of truncated) n) e

pub openings : Openings
openings =
    record { replaced = λ s x cs room o. record { whole = whole s x cs room o; otherwise = otherwise s x cs room o; names = names s x cs room o } }

long : (s : List ℕ) → input_limit < length s → answers s ≡ rejected (rejection_of input_too_long) 0 start ∷ []
unfolding answers admit
long s h = rw (lt-leb (length s) input_limit h)

pub offset-laws : Offsets
offset-laws = record { long = long; none = none }

-- ---- the stream's last answer, for a loop that goes command by command
pub last-here : (s : List ℕ) (x : Session) (cs : List ℕ) → is_last (next s x cs).reply ≡ true → last_reply (answers_from s x cs) ≡ (next s x cs).reply
unfolding last_reply final_reply
last-here s x cs e = rw (command-by-command s x cs, e)

pub last-later : (s : List ℕ) (x : Session) (cs : List ℕ) → is_last (next s x cs).reply ≡ false
    → last_reply (answers_from s x cs) ≡ last_reply (answers_from s (next s x cs).session (perform_checkpoints s x cs))
unfolding last_reply final_reply
last-later s x cs e =
    rw (command-by-command s x cs, e)
    (rw (command-by-command s (next s x cs).session (perform_checkpoints s x cs)))

pub written_next : (s : List ℕ) (x : Session) (cs : List ℕ) (room : ℕ) → (write_next s x cs room).performed ≡ next s x cs
unfolding write_next
written_next s x cs room = refl

pub last-admitted : (s : List ℕ) → admit s ≡ Ok tt → last_reply (answers s) ≡ last_reply (answers_from s start no_checkpoints)
unfolding answers
last-admitted s e = rw e

pub last-rejected : (s : List ℕ) (r : Rejection) → admit s ≡ Err r → last_reply (answers s) ≡ ReplyOf.Rejected r 0
unfolding answers last_reply final_reply
last-rejected s r e = rw e
