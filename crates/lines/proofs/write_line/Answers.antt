-- `lines::write_line` meets its contract.
use lib.Seq.{sets}
use Rattle.lines.proofs.LineLaws.{short, long-enough, has-room}
use Rattle.replies.specs.declared.Fields.{Fields}
use Rattle.lines.specs.Lines.{bytes_of, line_of}
use Rattle.replies.specs.Replies.{fields_of}
use lib.ListN.{length}
use mathlib.Core.List.{List, []}
use native.Mathlib.Omega.{arith}
use Prim.Native.Nat.{ℕ}
use mathlib.Core.Path.{◌≡◌, sym, ap, ◌∙◌}
use Rattle.std.specs.Prelude.{Ok, Option, None}
use Rattle.lines.proofs.write_line.Goals as goal
use Rattle.lines.proofs.write_line.Goals.{After-fields_length-n}

line-length : (c : After-fields_length-n) → c.fields_length-n.result ≡ length (line_of c.args.reply c.args.saved.now)
unfolding line_of
line-length c = c.fields_length-n.ensures ∙ ap (λ (f : Option Fields). length (bytes_of c.args.saved.now f)) (sym c.in-Some.is ∙ c.fields_of.ensures)

pub returns-in_err-unless-in-Some : goal.returns-in_err-unless-in-Some
returns-in_err-unless-in-Some c =
    let n = line-length (goal.at.returns-in_err-unless-in-Some c).After-fields_length-n in
    let w = short c.args.reply c.args.saved.now c.args.d.now (rw n at c.in_err-unless-in-Some.ensures) c.from_residual.ensures.1 in
    record { answer = w.0; bytes = w.1 }

pub returns-in_ok-unless-in-Some : goal.returns-in_ok-unless-in-Some
unfolding line_of
returns-in_ok-unless-in-Some c =
    let n = line-length (goal.at.returns-in_ok-unless-in-Some c).After-fields_length-n in
    let w = long-enough c.args.reply c.args.saved.now c.args.d.now (has-room c.args.reply c.args.saved.now c.args.d.now (rw n at c.in_ok-unless-in-Some.ensures)) in
    record { answer = ap Ok n ∙ sym w.0; bytes = c.put_fields.ensures ∙ ap (λ (f : Option Fields). sets c.args.d.now 0 (bytes_of c.args.saved.now f)) (sym c.in-Some.is ∙ c.fields_of.ensures) ∙ sym w.1 }

-- an answer without a line needs no room, and nothing is written
pub returns-in-None : goal.returns-in-None
unfolding line_of
returns-in-None c =
    let e : fields_of c.args.reply ≡ None = sym c.fields_of.ensures ∙ c.in-None.is in
    let z : line_of c.args.reply c.args.saved.now ≡ [] = ap (bytes_of c.args.saved.now) e in
    let w = long-enough c.args.reply c.args.saved.now c.args.d.now (rw z (omega arith)) in
    record { answer = sym (w.0 ∙ ap (λ (l : List ℕ). Ok (length l)) z); bytes = sym (w.1 ∙ ap (sets c.args.d.now 0) z) }
