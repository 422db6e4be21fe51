-- Numbers come back from their bytes.
use Rattle.std.proofs.Common.{◌≡◌, ℕ, ◌+◌, ◌*◌, ◌/◌, ◌%◌, ◌<◌, true, ℤ, pos, negsuc, ap, ◌∙◌, arith, w32, SFits, to_z, of_z}
use native.Mathlib.Nat.{div-div-eq-div-mul}
use mir.Facts.{Fits-of_z}
use Rattle.std.proofs.lemmas.Int.{to_z-of_z}
use Rattle.std.proofs.lemmas.Bool.Decides.{nat_tests}
use Rattle.rows.specs.Range.{in_range}
use Rattle.records.specs.Bytes.{pair}

-- a field from its two bytes
pub pair_back : (n : ℕ) → n < 65536 → pair (n % 256) (n / 256 % 256) ≡ n
pair_back n h = omega arith

-- the bits of a value from their four bytes
four_back : (n : ℕ) → n < 4294967296 → n % 256 + n / 256 % 256 * 256 + n / 65536 % 256 * 65536 + n / 16777216 % 256 * 16777216 ≡ n
four_back n h =
    let q : n / 65536 < 65536 = omega arith in
    let e = rw (div-div-eq-div-mul n 65536 256) at (pair_back (n / 65536) q) in
    let l : n % 256 + n / 256 % 256 * 256 + n / 65536 * 65536 ≡ n = omega arith in
    omega arith

-- a value in the range takes four bytes
range_fits : (z : ℤ) → in_range z ≡ true → SFits w32 z
range_fits (pos n) h = record { sfits = grind (arith, nat_tests) }
range_fits (negsuc n) h = record { sfits = grind (arith, nat_tests) }

-- a value from its four bytes
pub value_back : (z : ℤ) → in_range z ≡ true
    → to_z w32 (of_z w32 z % 256 + of_z w32 z / 256 % 256 * 256 + of_z w32 z / 65536 % 256 * 65536 + of_z w32 z / 16777216 % 256 * 16777216) ≡ z
value_back z h =
    let s = range_fits z h in
    ap (to_z w32) (four_back (of_z w32 z) (Fits-of_z s).fits) ∙ to_z-of_z w32 z s
