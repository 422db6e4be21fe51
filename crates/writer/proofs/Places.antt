-- An element of a list, behind those before it.
use Rattle.std.proofs.Common.{◌≡◌, ℕ, ◌+◌, ◌<◌, ◌≤◌, Bool, true, ltb, List, [], ◌∷◌, ◌++◌, length, sym, refl, ap, ◌∙◌, append_assoc, arith}
use Rattle.std.specs.List.{list_all, sum_by}
use Rattle.std.proofs.lemmas.List.{append-nil, length-append}
use Rattle.std.proofs.lemmas.List.Folds.{list_all-append}
use Rattle.std.proofs.lemmas.List.Sums.{sum_by-append, sum_by-cons}
use Rattle.std.proofs.lemmas.Bool.{and_parts, lt-ltb}
use Rattle.rows.specs.After.{each_after}
use Rattle.draft.specs.Entered.{on_last}

-- in the list `whole`, x stands right behind those of `pre`
pub record Place {X : Type 0} (whole pre : List X) (x : X) : Type 0 where
  pub rest : List X
  pub is : pre ++ x ∷ rest ≡ whole

-- an element may stand after those before it and the list `before`
each_there : {X : Type 0} (may : List X → X → Bool) (before pre : List X) (x : X) (rest : List X)
    → each_after may before (pre ++ x ∷ rest) ≡ true → may (before ++ pre) x ≡ true
each_there may before [] x rest h = rw append-nil (and_parts _ _ h).0
each_there may before (y ∷ pre) x rest h = rw append_assoc at (each_there may (before ++ y ∷ []) pre x rest (and_parts _ _ h).1)

-- it may stand after those before it
pub each_at : {X : Type 0} {whole pre : List X} {x : X} (may : List X → X → Bool) → Place whole pre x → each_after may [] whole ≡ true → may pre x ≡ true
each_at {pre = pre} {x = x} may at h = each_there may [] pre x at.rest (ap (each_after may []) at.is ∙ h)

-- it passes a test that all pass
pub all_at : {X : Type 0} {whole pre : List X} {x : X} (passes : X → Bool) → Place whole pre x → list_all passes whole ≡ true → passes x ≡ true
all_at {pre = pre} {x = x} passes at h = (and_parts _ _ (and_parts _ _ (sym (list_all-append passes pre (x ∷ at.rest)) ∙ ap (list_all passes) at.is ∙ h)).1).0

-- fewer stand before it than there are
pub fewer_at : {X : Type 0} {whole pre : List X} {x : X} → Place whole pre x → length pre < length whole
fewer_at {pre = pre} {x = x} at = omega (arith, ap length at.is, length-append pre (x ∷ at.rest))

-- there is room for it where there is for all
pub room_at : {X : Type 0} {whole pre : List X} {x : X} {limit : ℕ} → Place whole pre x → length whole ≤ limit → ltb (length pre) limit ≡ true
room_at at l = lt-ltb _ _ (omega (arith, fewer_at at))

-- those before it and it are together at most as large as all
pub total_at : {X : Type 0} {whole pre : List X} {x : X} (size : X → ℕ) → Place whole pre x → sum_by size pre + size x ≤ sum_by size whole
total_at {pre = pre} {x = x} size at =
    omega (arith, ap (sum_by size) at.is, sum_by-append size pre (x ∷ at.rest), sum_by-cons size x at.rest)

-- the last element is changed
pub on_last_push : {X : Type 0} (change : X → X) (pre : List X) (x : X) → on_last change (pre ++ x ∷ []) ≡ pre ++ change x ∷ []
on_last_push change [] x = refl
on_last_push change (y ∷ []) x = refl
on_last_push change (y ∷ z ∷ pre) x = ap (λ l. y ∷ l) (on_last_push change (z ∷ pre) x)
