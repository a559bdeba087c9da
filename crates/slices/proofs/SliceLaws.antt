-- A slice that is not rejected holds one snapshot, and after it no more than may be there.
use Prim.Native.Nat.{ℕ, ◌-◌, ◌≤◌}
use mathlib.Core.Path.{◌≡◌}
use mathlib.Core.Bool.{true}
use mathlib.Core.List.{List}
use native.Mathlib.Omega.{arith}
use borrow.Author.Tests.{leb-true}
use lib.Dec.{leb}
use lib.ListN.{length}
use Rattle.state.specs.Rejections.{unless, out_of_place}
use Rattle.state.proofs.Tests.{unless-zero, then-zero}
use Rattle.layout.specs.Layout.{scored_in}
use Rattle.snapshot.specs.Snapshots.{open_code, open_offset}
use Rattle.snapshot.proofs.Accepting.{accepted-size}
use Rattle.slices.specs.Slices.{spare, in_place_code}

pub one-snapshot : (d : List ℕ) → in_place_code d ≡ 0 → (open_code d ≡ 0) × (length d - open_offset d ≤ spare (scored_in d))
unfolding in_place_code
one-snapshot d h =
    let t = leb (length d - open_offset d) (spare (scored_in d)) in
    let c = then-zero (open_code d) (unless t out_of_place) h in
    (c.0, leb-true (length d - open_offset d) (spare (scored_in d)) (unless-zero t 2 c.1))

-- nothing at all after one with command 15
pub nothing-after : (d : List ℕ) → in_place_code d ≡ 0 → scored_in d ≡ true → open_offset d ≡ length d
nothing-after d h e =
    let o = one-snapshot d h in
    let l : length d - open_offset d ≤ 0 = rw e at o.1 in
    omega (arith, (accepted-size d o.0).1)
