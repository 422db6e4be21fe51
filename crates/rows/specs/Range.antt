-- The range of every number and value: within ±1,000,000,000.
use Rattle.std.specs.Prelude.{Bool, ◌&&◌, ℤ, pos, negsuc, int_le}

abbrev pub in_range : ℤ → Bool
in_range z = int_le (negsuc 999_999_999) z && int_le z (pos 1_000_000_000)
