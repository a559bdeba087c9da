-- Document 02, W-209: what follows 51 is answered as if all since 50 had never come.
use Prim.Native.Nat.{ℕ, ◌+◌, ◌≤◌, ◌<◌}
use mathlib.Core.Path.{◌≡◌, refl, sym, ap, ◌∙◌, subst}
use mathlib.Core.Bool.{Bool, true, false}
use mathlib.Core.List.{List, ◌∷◌, ◌++◌}
use native.Mathlib.Omega.{arith}
use lib.ListN.{length, length-append, take, drop}
use lib.Seq.{length-take-le, take_at, drop_at}
use Rattle.state.specs.declared.State.{State}
use Rattle.checkpoints.specs.Checkpoints.{restore}
use Rattle.layout.specs.Bytes.{AreBytes}
use Rattle.decoding.specs.declared.Command.{Command}
use Rattle.decoding.specs.declared.Decoded.{Decoded}
use Rattle.replies.specs.declared.Reply.TheVariants as ReplyOf
use Rattle.replies.specs.Replies.{is_last}
use Rattle.commands.specs.Commands.{next_command, perform_checkpoints}
use Rattle.streams.specs.Stream.{snapshot_room, answers_from}
use Rattle.commands.specs.declared.Session.{Session}
use Rattle.commands.specs.declared.Performed.{Performed}
use Rattle.streams.proofs.StreamLaws.{next-goes, command-by-command}
use Rattle.rollbacks.specs.Rollbacks.{Standing, begins, answer_at, after, answers_at, Leads, none, more, KeptAndBack, later_session, all_later, kept, restored, without, gap, Rollback, Rollbacks}
use Rattle.rollbacks.proofs.Later.{answers-later, same_line}
use Rattle.rollbacks.proofs.Accepted.{next-same, perform-same}
use Rattle.rollbacks.proofs.Kept.{Fit, begins-fit, leads-fit, gone-keeps, after_store, names-hold, after-restore, names-stay}
use Rattle.std.specs.Prelude.{Ok}

abbrev place : Standing → ℕ
place x = x.session.at

-- ---- commands that are accepted go forward, and their answers come one after the other
goes_on : (s : List ℕ) (x : Standing) → is_last (answer_at s x).reply ≡ false → (place x < place (after s x)) × (place (after s x) ≤ length s)
goes_on s x e = (next-goes s x.session x.checkpoints).moves e

leads-on : {allowed : Command → Bool} (s : List ℕ) {x y : Standing} {ps : List Performed} → Leads allowed s x ps y → place x ≤ place y
leads-on s none = omega arith
leads-on s (more {x} a e l) = omega (arith, (goes_on s x e).0, leads-on s l)

one_more : (s : List ℕ) (x : Standing) → is_last (answer_at s x).reply ≡ false → answers_at s x ≡ answer_at s x ∷ answers_at s (after s x)
one_more s x e = command-by-command s x.session x.checkpoints ∙ rw e

answers-lead : {allowed : Command → Bool} (s : List ℕ) {x y : Standing} {ps : List Performed} → Leads allowed s x ps y → answers_at s x ≡ ps ++ answers_at s y
answers-lead s none = refl
answers-lead s (more {x} a e l) = one_more s x e ∙ ap (λ (ps : List Performed). answer_at s x ∷ ps) (answers-lead s l)

-- ---- another stream with the same first m bytes
module _ (s t : List ℕ) (bytes : AreBytes s) (m : ℕ) (same : take m s ≡ take m t) (in-s : m ≤ length s) (in-t : m ≤ length t) where
  module _ (x : Standing) (e : is_last (answer_at s x).reply ≡ false) (h : place (after s x) ≤ m) where
    same_answer : answer_at t x ≡ answer_at s x
    same_answer = perform-same s t m same in-s in-t bytes x.session x.checkpoints snapshot_room e h

    same-command : next_command t x.session ≡ next_command s x.session
    same-command = next-same s t m same in-s in-t bytes x.session x.checkpoints snapshot_room e h

    same_after : after t x ≡ after s x
    unfolding perform_checkpoints
    same_after = rw (same_answer, same-command)

  same-leads : {allowed : Command → Bool} {x y : Standing} {ps : List Performed} → Leads allowed s x ps y → place y ≤ m → Leads allowed t x ps y
  same-leads none h = none
  same-leads {allowed} (more {x} {y} {ps} a e l) h =
      let k : place (after s x) ≤ m = omega (arith, leads-on s l) in
      rw (← (same_answer x e k))
      (more {x = x} {y = y} {ps = ps} (ap (λ (d : Decoded). allowed d.command) (same-command x e k) ∙ a)
      (ap (λ (p : Performed). is_last p.reply) (same_answer x e k) ∙ e)
      (subst (λ (z : Standing). Leads allowed t z ps y) (sym (same_after x e k)) (same-leads l h)))

-- ---- a state kept and brought back
module _ (s : List ℕ) (slot : ℕ) (bytes : AreBytes s) (r : KeptAndBack s slot) where
  abbrev t : State
  t = r.here.session.state

  abbrev y : Standing
  y = kept s slot r

  abbrev w : Standing
  w = restored s slot r

  fit : Fit r.here
  fit = leads-fit s bytes r.reached begins-fit

  stored : answer_at s r.here ≡ record { reply = ReplyOf.Silent; session = record { at = (next_command s r.here.session).next; active = true; state = t } }
  stored = after_store s r.here slot fit r.keeps r.accepted

  names-between : r.there.checkpoints ≡ y.checkpoints
  names-between = gone-keeps s r.gone

  holds-there : restore slot r.there.checkpoints ≡ record { outcome = Ok tt; state = t }
  holds-there = ap (restore slot) names-between ∙ names-hold s r.here slot fit r.keeps r.accepted

  brought : answer_at s r.there ≡ record { reply = ReplyOf.Silent; session = record { at = (next_command s r.there.session).next; active = true; state = t } }
  brought = after-restore s r.there slot t r.back holds-there

  not_last : is_last (answer_at s r.there).reply ≡ false
  not_last = ap (λ (p : Performed). is_last p.reply) brought

  same-state : w.session.state ≡ y.session.state
  same-state = ap (λ (p : Performed). p.session.state) brought ∙ sym (ap (λ (p : Performed). p.session.state) stored)

  same_names : w.checkpoints ≡ y.checkpoints
  same_names = names-stay s r.there slot t r.back holds-there ∙ names-between

  kept_in : place y ≤ length s
  kept_in = (goes_on s r.here r.accepted).1

  further : place y ≤ place w
  further = omega (arith, leads-on s r.gone, (goes_on s r.there not_last).0)

  same-session : w.session ≡ later_session (gap s slot r) y.session
  same-session =
      let e : place w ≡ gap s slot r + place y = omega (arith, further) in
      let p = ap (λ (p : Performed). p.session) brought in
      let q = ap (λ (p : Performed). p.session) stored in
      from w.session y.session (gap s slot r) e (ap (λ (x : Session). x.active) p ∙ sym (ap (λ (x : Session). x.active) q)) same-state
    where
      from : (a b : Session) (n : ℕ) → a.at ≡ n + b.at → a.active ≡ b.active → a.state ≡ b.state → a ≡ later_session n b
      from a b n e f g = rw (← e, ← f, ← g)

  -- ---- the stream without what stood between
  abbrev W : List ℕ
  W = without s slot r

  front : length (take (place y) s) ≡ place y
  front = length-take-le (place y) s kept_in

  same-front : take (place y) s ≡ take (place y) W
  same-front = sym (take_at (take (place y) s) (drop (place w) s) (place y) front)

  kept-in-shorter : place y ≤ length W
  kept-in-shorter = omega (arith, length-append (take (place y) s) (drop (place w) s), front)

  tails : drop (gap s slot r + place y) s ≡ drop (place y) W
  tails =
      let e : gap s slot r + place y ≡ place w = omega (arith, further) in
      ap (λ (k : ℕ). drop k s) e ∙ sym (drop_at (take (place y) s) (drop (place w) s) (place y) front)

  follows : answers_at s w ≡ all_later (gap s slot r) (answers_at W y)
  follows =
      ap (λ (x : Session). answers_from s x w.checkpoints) same-session
      ∙ ap (λ (cs : List ℕ). answers_from s (later_session (gap s slot r) y.session) cs) same_names
      ∙ answers-later (gap s slot r) s W y.session y.checkpoints tails

  here-before : place r.here ≤ place y
  here-before = omega (arith, (goes_on s r.here r.accepted).0)

  shorter : answers_at W begins ≡ r.earlier ++ (answer_at s r.here ∷ answers_at W y)
  shorter =
      let l = same-leads s W bytes (place y) same-front kept_in kept-in-shorter r.reached here-before in
      let a = same_answer s W bytes (place y) same-front kept_in kept-in-shorter r.here r.accepted (omega arith) in
      let n = same_after s W bytes (place y) same-front kept_in kept-in-shorter r.here r.accepted (omega arith) in
      answers-lead W l
      ∙ ap (λ (ps : List Performed). r.earlier ++ ps)
      (one_more W r.here (rw a r.accepted) ∙ ap (λ (p : Performed). p ∷ answers_at W (after W r.here)) a ∙ ap (λ (z : Standing). answer_at s r.here ∷ answers_at W z) n)

  whole : answers_at s begins ≡ r.earlier ++ (answer_at s r.here ∷ (r.between ++ (answer_at s r.there ∷ answers_at s w)))
  whole =
      answers-lead s r.reached
      ∙ ap (λ (ps : List Performed). r.earlier ++ ps)
      (one_more s r.here r.accepted
      ∙ ap (λ (ps : List Performed). answer_at s r.here ∷ ps) (answers-lead s r.gone ∙ ap (λ (ps : List Performed). r.between ++ ps) (one_more s r.there not_last)))

  back : Rollback s slot r
  back =
      record {
        silent = ap (λ (p : Performed). p.reply) brought;
        state = same-state;
        names = same_names;
        whole = whole;
        shorter = shorter;
        follows = follows;
      }

pub rollbacks : Rollbacks
rollbacks = record { back = λ s slot b r. back s slot b r; lines = same_line }
