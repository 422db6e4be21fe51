-- What is written of an entry is read back as that entry.
use Rattle.std.proofs.Common.{◌≡◌, ℕ, ◌+◌, ◌-◌, ◌/◌, ◌%◌, true, false, ◌&&◌, leb, List, [], ◌∷◌, ◌++◌, map, length, get_or, Some, refl, ap, arith}
use Rattle.std.specs.List.{flat_map, list_all}
use Rattle.std.proofs.lemmas.List.{take_at, drop_at, length-append}
use Rattle.std.proofs.lemmas.Bool.{and_parts, ltb-true}
use Rattle.std.proofs.lemmas.Bool.Decides.{nat_tests}
use Rattle.rows.specs.declared.row.Expression.TheVariants.{Constant, Number, Sum, Difference, Product}
use Rattle.rows.specs.declared.row.Comparison.TheVariants.{AtMost, Less, Equal, Greater, AtLeast}
use Rattle.rows.specs.declared.row.Formula.TheVariants.{True, Bit, Compare, Not, And, Or}
use Rattle.rows.specs.declared.row.Change.{Change}
use Rattle.rows.specs.declared.row.Change.TheVariants.{Set, Assign, Increase, Decrease}
use Rattle.draft.specs.Entry.{Entry, head, bit, number, expression, formula, action, event, process, effect, rate, goal, kind}
use Rattle.records.specs.Bytes.{whole, first, pair, pair_bytes}
use Rattle.draft.specs.Kinds.{code}
use Rattle.records.specs.Kinds.{kind_read}
use Rattle.records.specs.Decoded.{decoded, effect_of}
use Rattle.writer.specs.Written.{fields, tail, encoded}
use Rattle.writer.proofs.Numbers.{pair_back, value_back}
use Rattle.writer.proofs.Fits.{small, Fits}

-- what follows the code
abbrev pub body : Entry → List ℕ
body e = flat_map pair_bytes (fields e) ++ tail e

-- fields from their bytes
fields_back : (xs : List ℕ) → list_all small xs ≡ true → map (λ n. pair (n % 256) (n / 256 % 256)) xs ≡ xs
fields_back [] h = refl
fields_back (x ∷ xs) h =
    let p = and_parts (small x) (list_all small xs) h in
    let e = pair_back x (ltb-true x 65536 p.0) in
    cc (fields_back xs p.1)

-- a record whose length is right stands at the front of its bytes
whole_front : (len c : ℕ) (b rest : List ℕ) → len ≡ 2 + length b → whole len c (b ++ rest) ≡ Some (record { code = c; body = b; rest = rest })
whole_front len c b rest h =
    let n : length b ≡ len - 2 = omega arith in
    let two : leb 2 len ≡ true = grind (arith, nat_tests) in
    let enough : leb (len - 2) (length (b ++ rest)) ≡ true = simp length-append (grind (arith, nat_tests)) in
    rw (two, enough, take_at b rest (len - 2), drop_at b rest (len - 2))

-- the same behind its length and its code
first_short : (c : ℕ) (b rest : List ℕ) → (small c && small (2 + length b)) ≡ true
    → first ((pair_bytes (2 + length b) ++ (pair_bytes c ++ b)) ++ rest) ≡ Some (record { code = c; body = b; rest = rest })
first_short c b rest h =
    let p = and_parts (small c) (small (2 + length b)) h in
    rw (pair_back c (ltb-true c 65536 p.0)) (whole_front _ c b rest (pair_back (2 + length b) (ltb-true (2 + length b) 65536 p.1)))

-- a record is short, its kind is read back from its code and length, and its entry from its body
abbrev ReadBack : Entry → Type 0
ReadBack e =
    ((small (code (kind e)) && small (2 + length (body e))) ≡ true)
    × (kind_read (code (kind e)) (length (body e)) ≡ Some (kind e))
    × (decoded (kind e) (body e) ≡ Some e)

-- an effect
read_effect : (c : ℕ) (x : Change) → Fits (effect_of c x) → ReadBack (effect_of c x)
read_effect c (Set b true) h = (refl, refl, cc (fields_back (c ∷ b ∷ []) h.0))
read_effect c (Set b false) h = (refl, refl, cc (fields_back (c ∷ b ∷ []) h.0))
read_effect c (Assign n e) h = (refl, refl, cc (fields_back (c ∷ n ∷ e ∷ []) h.0))
read_effect c (Increase n e) h = (refl, refl, cc (fields_back (c ∷ n ∷ e ∷ []) h.0))
read_effect c (Decrease n e) h = (refl, refl, cc (fields_back (c ∷ n ∷ e ∷ []) h.0))

-- any entry
read_back : (e : Entry) → Fits e → ReadBack e
read_back (head t) h = (refl, refl, cc (fields_back (t ∷ []) h.0))
read_back (bit true) h = (refl, refl, refl)
read_back (bit false) h = (refl, refl, refl)
read_back (number z) h = (refl, refl, cc (value_back z h.1))
read_back (expression (Constant v)) h = (refl, refl, cc (value_back v h.1))
read_back (expression (Number n)) h = (refl, refl, cc (fields_back (n ∷ []) h.0))
read_back (expression (Sum a b)) h = (refl, refl, cc (fields_back (a ∷ b ∷ []) h.0))
read_back (expression (Difference a b)) h = (refl, refl, cc (fields_back (a ∷ b ∷ []) h.0))
read_back (expression (Product a b)) h = (refl, refl, cc (fields_back (a ∷ b ∷ []) h.0))
read_back (formula True) h = (refl, refl, refl)
read_back (formula (Bit b)) h = (refl, refl, cc (fields_back (b ∷ []) h.0))
read_back (formula (Compare AtMost e)) h = (refl, refl, cc (fields_back (e ∷ []) h.0))
read_back (formula (Compare Less e)) h = (refl, refl, cc (fields_back (e ∷ []) h.0))
read_back (formula (Compare Equal e)) h = (refl, refl, cc (fields_back (e ∷ []) h.0))
read_back (formula (Compare Greater e)) h = (refl, refl, cc (fields_back (e ∷ []) h.0))
read_back (formula (Compare AtLeast e)) h = (refl, refl, cc (fields_back (e ∷ []) h.0))
read_back (formula (Not f)) h = (refl, refl, cc (fields_back (f ∷ []) h.0))
read_back (formula (And f g)) h = (refl, refl, cc (fields_back (f ∷ g ∷ []) h.0))
read_back (formula (Or f g)) h = (refl, refl, cc (fields_back (f ∷ g ∷ []) h.0))
read_back (action c n) h = (grind (arith, nat_tests), grind (arith, nat_tests), cc (fields_back (c ∷ []) h.0))
read_back (event c) h = (refl, refl, cc (fields_back (c ∷ []) h.0))
read_back (process c) h = (refl, refl, cc (fields_back (c ∷ []) h.0))
read_back (effect e) h = read_effect e.condition e.change h
read_back (rate r) h = (refl, refl, ap (λ l. Some (rate (record { number = get_or l 0 0; expression = get_or l 1 0 }))) (fields_back (fields (rate r)) h.0))
read_back (goal f) h = (refl, refl, cc (fields_back (f ∷ []) h.0))

-- a written entry is the record at the front of its bytes
pub first_encoded : (e : Entry) (rest : List ℕ) → Fits e
    → first (encoded e ++ rest) ≡ Some (record { code = code (kind e); body = body e; rest = rest })
first_encoded e rest h = first_short (code (kind e)) (body e) rest (read_back e h).0

-- its kind is read back
pub kind_encoded : (e : Entry) → Fits e → kind_read (code (kind e)) (length (body e)) ≡ Some (kind e)
kind_encoded e h = (read_back e h).1

-- it is decoded as itself
pub decoded_encoded : (e : Entry) → Fits e → decoded (kind e) (body e) ≡ Some e
decoded_encoded e h = (read_back e h).2
