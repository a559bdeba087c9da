-- What the row of a byte tells: there is one where the byte begins a command.
use Prim.Native.Nat.{ℕ, zero, suc, ◌<◌}
use mathlib.Core.Path.{◌≡◌, refl, sym, ◌∙◌}
use mathlib.Core.Bool.{Bool, true, false, true≢false, cond, not}
use mathlib.Core.List.{List, [], ◌∷◌}
use native.Mathlib.Omega.{arith}
use Rattle.std.proofs.Common.{rules}
use lib.Dec.{eqb, eqb-suc-zero}
use Rattle.std.specs.Prelude.{⊤, Some, None, Result, Ok, Err, is_ok, IsErrAnd}
use Rattle.std.proofs.lemmas.Result.{err_from_is_err_and}
use Rattle.std.specs.Option.{MatchOption}
use Rattle.state.specs.Rejections.{rejection_of}
use Rattle.state.specs.declared.Rejection.{Rejection}
use Rattle.state.specs.declared.Rejection.TheVariants as RejectionOf
use Rattle.layout.specs.CommandTable.{Decodes, Command, byte_of, commands, size_in, inner_in, command_size, is_command, only_in_snapshot, entry_of, command_length}
use Rattle.layout.specs.declared.table.Entry.{Entry}
use Rattle.layout.specs.declared.table.Opcode.{Opcode}
use Rattle.layout.proofs.Opcodes.{begins}

-- that of a command's first byte
pub row-of : (c : Opcode) → Some (record { length = command_size (byte_of c); only_in_snapshot = only_in_snapshot (byte_of c) }) ≡ entry_of (byte_of c)
unfolding entry_of
row-of c = rw (begins c)

pub is-command : (b : ℕ) (r : Result Opcode Rejection) → Decodes b r → is_ok r ≡ is_command b
is-command b (Ok c) d = rw (sym d, begins c)
is-command b (Err e) d = sym d.0

-- every command has a length
abbrev Sized : List Command → Type 0
Sized [] = ⊤
Sized (c ∷ cs) = (0 < c.size) × Sized cs

-- so that a byte that begins none is in no row
unlisted : (cs : List Command) (b : ℕ) → Sized cs → size_in cs b ≡ 0 → inner_in cs b ≡ false
unlisted [] b s e = refl
unlisted (c ∷ cs) b s e = go (eqb b c.first) e (λ z. unlisted cs b s.1 z)
  where
    go : (t : Bool) → cond t c.size (size_in cs b) ≡ 0 → (size_in cs b ≡ 0 → inner_in cs b ≡ false) → cond t c.inner (inner_in cs b) ≡ false
    go true z f = absurd (omega (arith, s.0))
    go false z f = f z

no-command : (b : ℕ) → is_command b ≡ false → only_in_snapshot b ≡ false
unfolding is_command command_size only_in_snapshot
no-command b h = unlisted commands b (search rules) (zero-of (command_size b) h)
  where
    zero-of : (n : ℕ) → not (eqb n 0) ≡ false → n ≡ 0
    zero-of zero h = refl
    zero-of (suc n) h = absurd (true≢false (rw (eqb-suc-zero n) at h))

-- a closure's answer of the row, Q, is whether only a snapshot holds the command
pub only-in-snapshot : (b : ℕ) {r : Bool} {Q : Entry → Type 0} → MatchOption (entry_of b) (r ≡ false) Q → ((e : Entry) → Q e → r ≡ e.only_in_snapshot) → r ≡ only_in_snapshot b
unfolding entry_of
only-in-snapshot b {r} {Q} h f = go (is_command b) refl h
  where
    go : (t : Bool) → is_command b ≡ t → MatchOption (cond t (Some (record { length = command_size b; only_in_snapshot = only_in_snapshot b })) None) (r ≡ false) Q → r ≡ only_in_snapshot b
    go true e h = f _ h
    go false e h = h ∙ sym (no-command b e)

-- the length of the command that a byte begins
pub length-of : (c : Opcode) → Ok (command_size (byte_of c)) ≡ command_length (byte_of c)
unfolding command_length
length-of c = rw (begins c)

pub no-length : (b : ℕ) {r : Result ℕ Rejection} {e : Rejection} → (is_command b ≡ false) × (e ≡ RejectionOf.UnknownCommand) → IsErrAnd r (λ y. y ≡ e) → r ≡ command_length b
unfolding command_length rejection_of
no-length b {r} d h = let p = err_from_is_err_and r h in rw (p.1, p.2, d.0, d.1)
