-- Laws of opening a group: what it answers, and where the rest of the stream begins.
use Prim.Native.Nat.{ℕ, ◌-◌, ◌≤◌}
use mathlib.Core.Path.{◌≡◌, ap, sym, ◌∙◌}
use mathlib.Core.List.{List}
use native.Mathlib.Omega.{arith}
use borrow.Author.Tests.{ne_eqb}
use lib.ListN.{length, length-drop}
use Rattle.std.specs.Prelude.{⊤, Ok, Err}
use Rattle.state.specs.Rejections.{outcome}
use Rattle.state.specs.declared.Rejection.{Rejection}
use Rattle.state.specs.declared.State.{State}
use Rattle.state.proofs.Answers.{given-rejected, check-passes}
use Rattle.snapshot.specs.Snapshots.{open_code, open_offset, read, rest_of}
use Rattle.snapshot.specs.declared.Opened.{Opened}
use Rattle.snapshot.proofs.OffsetLaws.{offsets}
use Rattle.replies.specs.declared.Reply.{Reply}
use Rattle.replies.specs.declared.Reply.TheVariants as ReplyOf
use Rattle.actions.specs.Actions.{open_snapshot}

pub rest-begins : (group : List ℕ) {left : List ℕ} → left ≡ rest_of group → (length left ≤ length group) × (length group - length left ≡ open_offset group)
unfolding rest_of
rest-begins group e =
    let n = ap length e ∙ length-drop (open_offset group) group in
    (omega arith, omega (arith, (offsets group).within))

-- a group that is rejected, and one that is accepted
module _ {A : Type 0} (group : List ℕ) (accept : Reply → State → A) (reject : Rejection → A) where
  pub opened-rejected : {r : Rejection} → Err r ≡ outcome (open_code group) → open_snapshot group accept reject ≡ reject r
  opened-rejected {r} q =
      let g = given-rejected (open_code group) tt r (sym q) in
      rw (← g.0, ne_eqb (open_code group) 0 g.1)

  pub opened-accepted : {t : ⊤} (g : Opened) → Ok t ≡ outcome (open_code group) → g ≡ read group
      → open_snapshot group accept reject ≡ accept (ReplyOf.Opened g.state.model g.state.period) g.state
  opened-accepted g z q = rw (check-passes (open_code group) z, ← q)
