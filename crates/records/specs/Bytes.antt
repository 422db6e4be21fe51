-- Numbers as bytes, the lowest byte first, and a record as bytes.
use Rattle.std.specs.Prelude.{ℕ, ◌+◌, ◌-◌, ◌*◌, ◌/◌, ◌%◌, cond, List, [], ◌∷◌, length, take, drop, ℤ, Some, None, Option, nat_le, slice_index}
use Rattle.std.specs.Int.{w32, cast_signed, cast_unsigned}

-- a field takes two bytes
abbrev pub pair : ℕ → ℕ → ℕ
pair low high = low + high * 256

abbrev pub pair_bytes : ℕ → List ℕ
pair_bytes n = (n % 256) ∷ (n / 256 % 256) ∷ []

-- the field at this place of a body
abbrev pub field : List ℕ → ℕ → ℕ
field body at = pair (slice_index body at) (slice_index body (at + 1))

-- a value takes four bytes, and is signed
abbrev pub value_bytes : ℤ → List ℕ
value_bytes z = (cast_unsigned w32 z % 256) ∷ (cast_unsigned w32 z / 256 % 256) ∷ (cast_unsigned w32 z / 65536 % 256) ∷ (cast_unsigned w32 z / 16777216 % 256) ∷ []

abbrev pub value : List ℕ → ℕ → ℤ
value body at = cast_signed w32 (slice_index body at + slice_index body (at + 1) * 256 + slice_index body (at + 2) * 65536 + slice_index body (at + 3) * 16777216)

-- a record: the code of its kind, what follows the code, and the bytes behind the record
pub record Raw : Type 0 where
  pub code : ℕ
  pub body : List ℕ
  pub rest : List ℕ

-- a record whose length counts its code and its body, in front of the bytes xs that follow its code
abbrev pub whole : ℕ → ℕ → List ℕ → Option Raw
whole len code xs =
    cond (nat_le 2 len) (cond (nat_le (len - 2) (length xs)) (Some (record { code = code; body = take (len - 2) xs; rest = drop (len - 2) xs })) None) None

-- the record at the front of these bytes, if they begin with a whole one
abbrev pub first : List ℕ → Option Raw
first [] = None
first (a ∷ []) = None
first (a ∷ b ∷ []) = None
first (a ∷ b ∷ c ∷ []) = None
first (a ∷ b ∷ c ∷ d ∷ xs) = whole (pair a b) (pair c d) xs
