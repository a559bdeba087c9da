-- Laws of the command at an offset: the order of its refusals.
use Prim.Native.Nat.{ℕ, zero, suc, ◌+◌, ◌-◌, ◌≤◌, ◌<◌}
use mathlib.Core.Path.{◌≡◌, refl, sym, ap, ◌∙◌}
use mathlib.Core.Bool.{Bool, true, false, cond, not, ◌&&◌, ◌||◌, false≢true}
use mathlib.Core.List.{List}
use native.Mathlib.Omega.{arith}
use borrow.Author.Tests.{le-leb, lt-leb, leb-true, leb-false, ne_eqb}
use lib.Dec.{eqb, leb}
use lib.ListN.{length, get_or}
use Rattle.std.proofs.Common.{Result, Err}
use Rattle.std.specs.Prelude.{IsErrAnd}
use Rattle.std.proofs.lemmas.Result.{err_from_is_err_and}
use Rattle.state.specs.Rejections.{unless, ◌then◌, gives, out_of_place, truncated, rejection_of}
use Rattle.state.specs.declared.Rejection.{Rejection}
use Rattle.integers.proofs.Tests.{both}
use Rattle.state.proofs.Answers.{given-rejected, rejected}
use Rattle.state.proofs.Tests.{unless-then, unless-zero, then-first}
use Rattle.layout.specs.CommandTable.{command_size, is_command, only_in_snapshot, opens}
use Rattle.decoding.specs.Decoding.{errors_fit, allowed_here, command_code, operands, decoded, decode}
use Rattle.decoding.specs.declared.Command.TheVariants as CommandOf

-- ---- a call that rejects ends the checks, and one that does not tells its value
module _ {A B : Type 0} (n : ℕ) (w : B) where
  pub call-rejects : (v : A) {r : Result A Rejection} {e : Rejection} → Err e ≡ gives n w → IsErrAnd r (λ y. y ≡ e) → r ≡ gives n v
  call-rejects v {r} {e} q h =
      let p = err_from_is_err_and r h in
      let g = given-rejected n w e (sym q) in
      p.1 ∙ ap Err (p.2 ∙ sym g.0) ∙ sym (rejected v g.1)

  pub call-ends : (k : ℕ) (v : A) {r : Result A Rejection} {e : Rejection} → Err e ≡ gives n w → IsErrAnd r (λ y. y ≡ e) → r ≡ gives (n then k) v
  call-ends k v {r} {e} q h =
      let g = given-rejected n w e (sym q) in
      rw (then-first n k g.1) (call-rejects v q h)

-- ---- a command is decoded: the end, then 2, 3, 4, then its operands
module _ (s : List ℕ) (at : ℕ) (active : Bool) (model : ℕ) where
  abbrev b : ℕ
  b = get_or s at 0

  pub decode-end : length s ≤ at → decode s at active model ≡ decoded CommandOf.End at
  unfolding decode
  decode-end h = rw (le-leb (length s) at h)

  pub inside : (decode s at active model).command ≡ CommandOf.Open → at ≤ length s
  unfolding decode
  inside e = go (leb (length s) at) refl e
    where
      go : (t : Bool) → leb (length s) at ≡ t
          → (cond t (decoded CommandOf.End at) (cond (eqb (command_code s at active model) 0) (decoded (operands s at) (at + command_size b)) (decoded (CommandOf.Rejected (rejection_of (command_code s at active model))) at))).command ≡ CommandOf.Open
          → at ≤ length s
      go true q e =
          let z : ◌≡◌ {A = ℕ} 0 1 = cc in
          absurd (omega arith)
      go false q e = omega (arith, leb-false (length s) at q)

  module _ (h : at < length s) where
    pub decode-whole : command_code s at active model ≡ 0 → decode s at active model ≡ decoded (operands s at) (at + command_size b)
    unfolding decode
    decode-whole e = rw (lt-leb (length s) at h, e)

    pub decode-rejected : (command_code s at active model ≡ 0 → ⊥) → decode s at active model ≡ decoded (CommandOf.Rejected (rejection_of (command_code s at active model))) at
    unfolding decode
    decode-rejected n = rw (lt-leb (length s) at h, ne_eqb _ 0 n)

    pub decode-stray : is_command b ≡ true → allowed_here b active model ≡ false → decode s at active model ≡ decoded (CommandOf.Rejected (rejection_of out_of_place)) at
    unfolding decode command_code
    decode-stray u v = rw (lt-leb (length s) at h, u, v)

-- ---- a command that nothing rejects has its bytes, and an open state unless it opens one
size-least : (n : ℕ) → not (eqb n 0) ≡ true → 0 < n
size-least zero e = absurd (false≢true e)
size-least (suc n) e = omega arith

pub record Whole (s : List ℕ) (at : ℕ) (active : Bool) : Type 0 where
  pub due : (active || opens (get_or s at 0)) ≡ true
  pub least : 0 < command_size (get_or s at 0)
  pub most : command_size (get_or s at 0) ≤ length s - at

pub whole-command : (s : List ℕ) (at : ℕ) (active : Bool) (model : ℕ) → command_code s at active model ≡ 0 → Whole s at active
unfolding command_code is_command allowed_here
whole-command s at active model e =
    let b = get_or s at 0 in
    let open-or-opens = not (only_in_snapshot b) && (active || opens b) in
    let due = open-or-opens && errors_fit b model in
    let c = unless-then (is_command b) 1 (unless due out_of_place then unless (leb (command_size b) (length s - at)) truncated) e in
    let d = unless-then due 2 (unless (leb (command_size b) (length s - at)) truncated) c.1 in
    record {
      due = (both (not (only_in_snapshot b)) (active || opens b) (both open-or-opens (errors_fit b model) d.0).0).1;
      least = size-least (command_size b) c.0;
      most = leb-true (command_size b) (length s - at) (unless-zero _ 3 d.1);
    }
