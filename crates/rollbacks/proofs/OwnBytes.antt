-- An accepted command is answered by its own bytes alone: another stream with the same bytes up to its end answers it alike.
use Prim.Native.Nat.{ℕ, ◌+◌, ◌-◌, ◌≤◌, ◌<◌}
use mathlib.Core.Path.{◌≡◌, refl, sym, ap, ◌∙◌}
use mathlib.Core.Bool.{Bool, true, false, cond}
use mathlib.Core.List.{List, ◌∷◌, ◌++◌, append_assoc}
use native.Mathlib.Omega.{arith}
use borrow.Author.Tests.{eqb-true, le-leb, lt-leb}
use lib.Dec.{eqb}
use lib.ListN.{length, take, drop, get_or, replicate, take-append-drop, get_or-append}
use lib.Seq.{length-take-le, take-take, take-add, take_at, drop_at, drop-append-add, get_or-take}
use Rattle.state.specs.Scores.{no_score}
use Rattle.state.specs.declared.State.{State}
use Rattle.state.proofs.Answers.{outcome-accepted}
use Rattle.layout.specs.Bytes.{AreBytes, from_bytes, unsigned_at}
use Rattle.layout.specs.CommandTable.{command_size, opens}
use Rattle.layout.specs.Layout.{end_at, scored_in, period_in, score_in}
use Rattle.snapshot.specs.Snapshots.{open_code, open_offset, decoded, read}
use Rattle.snapshot.specs.Promises.{old_form}
use Rattle.snapshot.specs.declared.Opened.{Opened}
use Rattle.snapshot.proofs.Accepting.{accepted-size}
use Rattle.snapshot.proofs.Decoded.{accepted-passes}
use Rattle.snapshot.proofs.OldForms.{old-forms}
use Rattle.saving.specs.Encoding.{encoded}
use Rattle.decoding.specs.Decoding.{command_code, operands, decode}
use Rattle.round_trips.proofs.RoundTrip.{read_back, has-score, saved-back, upgraded-back, decoded-typed}
use Rattle.std.specs.Prelude.{Ok}

-- ---- a group that is accepted, before whatever follows it
pub record Again (u : List ℕ) (v : List ℕ) : Type 0 where
  pub code : open_code v ≡ 0
  pub offset : open_offset v ≡ open_offset u
  pub state : decoded v ≡ decoded u

module _ (u : List ℕ) (b : AreBytes u) (z : open_code u ≡ 0) (r : List ℕ) where
  abbrev n : ℕ
  n = open_offset u

  abbrev t : State
  t = decoded u

  abbrev own : List ℕ
  own = take n u

  size : (n ≡ end_at (scored_in u) (period_in u)) × (n ≤ length u)
  size = accepted-size u z

  -- what is saved of it, before the same
  abbrev saved : List ℕ
  saved = encoded t ++ r

  saved-reads : (open_code saved ≡ 0) × (open_offset saved ≡ length (encoded t)) × (decoded saved ≡ t)
  saved-reads = read_back t r (decoded-typed u b) (accepted-passes u z)

  -- with command 15 these are its bytes
  again-new : scored_in u ≡ true → Again u (own ++ r)
  again-new e =
      let q = saved-back u b z e in
      let l : length (encoded t) ≡ n = ap length q ∙ length-take-le n u size.1 in
      rw (← q) (record { code = saved-reads.0; offset = saved-reads.1 ∙ l; state = saved-reads.2 })

  -- without it they are those without 15
  abbrev fifteen : List ℕ
  fifteen = 0x15 ∷ replicate 24 0

  least : (scored : Bool) (m : ℕ) → 46 ≤ end_at scored m
  least true m = omega arith
  least false m = omega arith

  long : 46 ≤ n
  long = rw size.0 (least (scored_in u) (period_in u))

  front : length (take 36 u) ≡ 36
  front = length-take-le 36 u (omega (arith, long, size.1))

  parts : (f c d : List ℕ) → length f ≡ 36 → length c ≡ 25 → take 36 ((f ++ (c ++ d)) ++ r) ++ drop 61 ((f ++ (c ++ d)) ++ r) ≡ (f ++ d) ++ r
  parts f c d p q =
      let e : (f ++ (c ++ d)) ++ r ≡ f ++ (c ++ (d ++ r)) = append_assoc f (c ++ d) r ∙ ap (λ (l : List ℕ). f ++ l) (append_assoc c d r) in
      let k : length f + 25 ≡ 61 = omega arith in
      rw e
      (rw (take_at f (c ++ (d ++ r)) 36 p, ← k, drop-append-add f (c ++ (d ++ r)) 25, drop_at c (d ++ r) 25 q) (sym (append_assoc f d r)))

  without-15 : scored_in u ≡ false → old_form saved ≡ own ++ r
  without-15 e =
      let d = drop 36 own in
      let w : take 36 u ++ d ≡ own = ap (λ (l : List ℕ). l ++ d) (sym (take-take 36 n u (omega (arith, long)))) ∙ take-append-drop 36 own in
      ap (λ (l : List ℕ). old_form (l ++ r)) (upgraded-back u b z e) ∙ parts (take 36 u) fifteen d front refl ∙ ap (λ (l : List ℕ). l ++ r) w

  no-score : scored_in u ≡ false → score_in saved ≡ no_score
  unfolding decoded
  no-score e = ap (λ (s : State). s.score) saved-reads.2 ∙ rw e

  abbrev v : List ℕ
  v = own ++ r

  reads-again : scored_in u ≡ false → read v ≡ record { outcome = Ok tt; state = t }
  unfolding read
  reads-again e =
      ap read (sym (without-15 e)) ∙ old-forms saved saved-reads.0 (has-score t r) (no-score e) ∙ rw (saved-reads.0, saved-reads.2)

  byte-again : (i : ℕ) → i < 46 → get_or v i 0 ≡ get_or u i 0
  byte-again i h =
      get_or-append own r 0 i (omega (arith, long, length-take-le n u size.1)) ∙ get_or-take n u i 0 (omega (arith, long))

  again-old : scored_in u ≡ false → Again u v
  unfolding read
  again-old e =
      let q = reads-again e in
      let c : open_code v ≡ 0 = outcome-accepted (open_code v) (ap (λ (g : Opened). g.outcome) q) in
      let k : end_at (scored_in v) (period_in v) ≡ n = rw (byte-again 36 (omega arith), byte-again 2 (omega arith)) (sym size.0) in
      record { code = c; offset = (accepted-size v c).0 ∙ k; state = rw c at (ap (λ (g : Opened). g.state) q) }

  pub again : Again u (own ++ r)
  again = go (scored_in u) refl
    where
      go : (scored : Bool) → scored_in u ≡ scored → Again u (own ++ r)
      go true e = again-new e
      go false e = again-old e

-- ---- two streams with the same first m bytes
cond_same : {A : Type 0} (b : Bool) (p q c d : A) → (b ≡ true → p ≡ c) → (b ≡ false → q ≡ d) → cond b p q ≡ cond b c d
cond_same true p q c d f g = f refl
cond_same false p q c d f g = g refl

module _ (s t : List ℕ) (m : ℕ) (same : take m s ≡ take m t) (in-s : m ≤ length s) (in-t : m ≤ length t) where
  byte-same : (i : ℕ) → i < m → get_or t i 0 ≡ get_or s i 0
  byte-same i h = sym (get_or-take m t i 0 h) ∙ ap (λ (l : List ℕ). get_or l i 0) (sym same) ∙ get_or-take m s i 0 h

  part : (l : List ℕ) (j k : ℕ) → j ≤ length l → drop j (take (j + k) l) ≡ take k (drop j l)
  part l j k h = ap (drop j) (take-add j k l) ∙ drop_at (take j l) (take k (drop j l)) j (length-take-le j l h)

  pub part_same : (j k : ℕ) → j + k ≤ m → take k (drop j t) ≡ take k (drop j s)
  part_same j k h =
      sym (part t j k (omega arith))
      ∙ ap (drop j) (sym (take-take (j + k) m t h) ∙ ap (take (j + k)) (sym same) ∙ take-take (j + k) m s h)
      ∙ part s j k (omega arith)

  module _ (at : ℕ) where
    abbrev b : ℕ
    b = get_or s at 0

    unsigned-same : (i k : ℕ) → at + i + k ≤ m → unsigned_at t (at + i) k ≡ unsigned_at s (at + i) k
    unsigned-same i k h = ap from_bytes (part_same (at + i) k h)

    module _ (h : at + command_size b ≤ m) (begun : at < m) where
      size-of : (first k : ℕ) → command_size first ≡ k → eqb b first ≡ true → at + k ≤ m
      size-of first k q e = rw (← q, ← (eqb-true b first e)) h

      sizes : (command_size 0x20 ≡ 5) × (command_size 0x30 ≡ 3) × (command_size 0x31 ≡ 7) × (command_size 0x32 ≡ 11) × (command_size 0x50 ≡ 2) × (command_size 0x51 ≡ 2)
      unfolding command_size
      sizes = (refl, refl, refl, refl, refl, refl)

      operands_same : operands t at ≡ operands s at
      unfolding operands
      operands_same =
          rw (byte-same at begun)
          (cond_same (opens b) _ _ _ _ (λ _. refl)
          (λ _. cond_same (eqb b 0x20) _ _ _ _ (λ e. let l = size-of 0x20 5 sizes.0 e in rw (unsigned-same 1 4 (omega arith)))
          (λ _. cond_same (eqb b 0x21) _ _ _ _ (λ _. refl)
          (λ _. cond_same (eqb b 0x30) _ _ _ _ (λ e. let l = size-of 0x30 3 sizes.1 e in rw (unsigned-same 1 2 (omega arith)))
          (λ _. cond_same (eqb b 0x31) _ _ _ _ (λ e. let l = size-of 0x31 7 sizes.2 e in rw (unsigned-same 1 2 (omega arith), unsigned-same 3 4 (omega arith)))
          (λ _. cond_same (eqb b 0x32) _ _ _ _ (λ e. let l = size-of 0x32 11 sizes.3 e in rw (unsigned-same 1 2 (omega arith), unsigned-same 3 8 (omega arith)))
          (λ _. cond_same (eqb b 0x14) _ _ _ _ (λ _. refl)
          (λ _. cond_same (eqb b 0x50) _ _ _ _ (λ e. let l = size-of 0x50 2 sizes.4 e in rw (byte-same (at + 1) (omega arith)))
          (λ _. cond_same (eqb b 0x51) _ _ _ _ (λ e. let l = size-of 0x51 2 sizes.5 e in rw (byte-same (at + 1) (omega arith)))
          (λ _. refl))))))))))

      code_same : (active : Bool) (model : ℕ) → command_code t at active model ≡ command_code s at active model
      unfolding command_code
      code_same active model =
          rw (byte-same at begun, le-leb (command_size b) (length t - at) (omega arith), le-leb (command_size b) (length s - at) (omega arith))

      pub decode-same : (active : Bool) (model : ℕ) → decode t at active model ≡ decode s at active model
      unfolding decode
      decode-same active model =
          rw (lt-leb (length t) at (omega arith), lt-leb (length s) at (omega arith), code_same active model, operands_same, byte-same at begun)
