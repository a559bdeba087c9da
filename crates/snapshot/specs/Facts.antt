-- What the private functions rest on: no contract of a public call cites this.
use Rattle.std.specs.Prelude.{ℕ, ◌≤◌, Bool, List, length}
use Rattle.layout.specs.Layout.{end_at}

-- the slice reaches to the end of a snapshot of m season values, with or without command 15, and index p is one of them (0 without season)
pub record Room (scored : Bool) (s : List ℕ) (m p : ℕ) : Type 0 where
  pub size : end_at scored m ≤ length s
  pub period : m ≤ 48
  pub index : p ≤ m
