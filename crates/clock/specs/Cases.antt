-- What a private function chooses by: a number that is larger than those before it.
use Rattle.std.specs.Prelude.{Bool, true, false, ℤ, Option, Some, None}
use Rattle.clock.specs.Windows.{larger}

-- the largest so far after v, which counts where `taken`
abbrev pub raised : Bool → Option ℤ → ℤ → Option ℤ
raised false best v = best
raised true None v = Some v
raised true (Some b) v = Some (larger b v)
