-- Laws of lists of which each element may stand after those before it.
use Rattle.std.proofs.Common.{◌≡◌, Bool, true, List, [], ◌∷◌, ◌++◌, sym, refl, subst, append_assoc}
use Rattle.std.proofs.lemmas.Bool.{and_parts, and_from}
use Rattle.std.proofs.lemmas.List.{append-nil}
use Rattle.rows.specs.After.{each_after}

-- one element more at the end
pub each_push : {X : Type 0} (may : List X → X → Bool) (before xs : List X) (x : X)
    → each_after may before xs ≡ true → may (before ++ xs) x ≡ true → each_after may before (xs ++ x ∷ []) ≡ true
each_push may before [] x h m = and_from (may before x) true (subst (λ l. may l x ≡ true) (append-nil before) m) refl
each_push may before (y ∷ xs) x h m =
    let p = and_parts (may before y) (each_after may (before ++ y ∷ []) xs) h in
    and_from (may before y) (each_after may (before ++ y ∷ []) (xs ++ x ∷ [])) p.0
    (each_push may (before ++ y ∷ []) xs x p.1 (subst (λ l. may l x ≡ true) (sym (append_assoc before (y ∷ []) xs)) m))

-- a test that passes wherever another does
pub each_weaker : {X : Type 0} (may might : List X → X → Bool) → ((before : List X) (x : X) → may before x ≡ true → might before x ≡ true)
    → (before xs : List X) → each_after may before xs ≡ true → each_after might before xs ≡ true
each_weaker may might w before [] h = refl
each_weaker may might w before (x ∷ xs) h =
    let p = and_parts (may before x) (each_after may (before ++ x ∷ []) xs) h in
    and_from (might before x) (each_after might (before ++ x ∷ []) xs) (w before x p.0) (each_weaker may might w (before ++ x ∷ []) xs p.1)
