-- One record after another: a step at a time.
use Rattle.std.proofs.Common.{◌≡◌, ℕ, zero, suc, ◌-◌, ◌<◌, ◌≤◌, Bool, true, false, cond, eqb, leb, List, [], ◌∷◌, length, take, drop, Some, None, Ok, Err, Option, Result, MatchResult, IsOk, sym, refl, ap, ◌∙◌, arith, length-drop}
use Rattle.faults.specs.declared.Fault.{Fault}
use Rattle.std.proofs.lemmas.Bool.{eqb-true, cond-true}
use Rattle.faults.specs.declared.Fault.TheVariants.{Record, Row, Memory}
use Rattle.faults.specs.declared.RecordQuestion.TheVariants.{Whole}
use Rattle.faults.specs.declared.RowQuestion.TheVariants.{Goal}
use Rattle.draft.specs.Draft.{Draft, blank, sealed}
use Rattle.faults.specs.Faults.{record_fault}
use Rattle.draft.specs.Questions.{row_fault, ask}
use Rattle.draft.specs.Outcome.{Refused, RefusedRecord, refused_or}
use Rattle.records.specs.Bytes.{Raw, pair, first, whole}
use Rattle.records.specs.Loaded.{with_record, onward, taken, all_taken, finished, loaded}

-- the bytes behind a record are fewer than those in front of it
whole_shorter : (len code : ℕ) (xs : List ℕ) (r : Raw) → whole len code xs ≡ Some r → length r.rest ≤ length xs
whole_shorter len code xs r h = go (leb 2 len) (leb (len - 2) (length xs)) h
  where
    go : (a b : Bool) → cond a (cond b (Some (record { code = code; body = take (len - 2) xs; rest = drop (len - 2) xs })) None) None ≡ Some r → length r.rest ≤ length xs
    go true true t =
        let e : drop (len - 2) xs ≡ r.rest = cc in
        omega (arith, length-drop (len - 2) xs, ap length e)
    go true false t = cc
    go false b t = cc

pub first_shorter : (xs : List ℕ) (r : Raw) → first xs ≡ Some r → length r.rest < length xs
first_shorter [] r h = cc
first_shorter (a ∷ []) r h = cc
first_shorter (a ∷ b ∷ []) r h = cc
first_shorter (a ∷ b ∷ c ∷ []) r h = cc
first_shorter (a ∷ b ∷ c ∷ d ∷ xs) r h = omega (arith, whole_shorter (pair a b) (pair c d) xs r h)

-- what takes the bytes behind the first record may be exchanged for what takes fewer bytes alike
onward_same : (next next' : Draft → List ℕ → Result Draft Fault) (ys : List ℕ) → ((d : Draft) → next d ys ≡ next' d ys)
    → (o : Result Draft Fault) → onward next o ys ≡ onward next' o ys
onward_same next next' ys h (Ok d) = h d
onward_same next next' ys h (Err f) = refl

taken_same : (next next' : Draft → List ℕ → Result Draft Fault) (xs : List ℕ) → ((d : Draft) (ys : List ℕ) → length ys < length xs → next d ys ≡ next' d ys)
    → (d : Draft) (at : ℕ) (o : Option Raw) → first xs ≡ o → taken next d at o ≡ taken next' d at o
taken_same next next' xs h d at None e = refl
taken_same next next' xs h d at (Some r) e =
    onward_same next next' r.rest (λ d'. h d' r.rest (first_shorter xs r e)) (with_record d at r.code r.body)

-- any two bounds that suffice agree
pub enough : (n m size : ℕ) (d : Draft) (xs : List ℕ) → length xs ≤ n → length xs ≤ m → all_taken n size d xs ≡ all_taken m size d xs
unfolding all_taken
enough zero zero size d xs h k = refl
enough zero (suc m) size d [] h k = refl
enough zero (suc m) size d (b ∷ xs) h k = absurd (omega arith)
enough (suc n) zero size d [] h k = refl
enough (suc n) zero size d (b ∷ xs) h k = absurd (omega arith)
enough (suc n) (suc m) size d [] h k = refl
enough (suc n) (suc m) size d (b ∷ xs) h k =
    taken_same (all_taken n size) (all_taken m size) (b ∷ xs) (λ d' ys l. enough n m size d' ys (omega arith) (omega arith)) d
    (size - length (b ∷ xs)) (first (b ∷ xs)) refl

-- bytes that are left are taken by their first record
all_front : (size : ℕ) (d : Draft) (xs : List ℕ) → 0 < length xs
    → (n : ℕ) × (length xs ≡ suc n) × (all_taken (length xs) size d xs ≡ taken (all_taken n size) d (size - length xs) (first xs))
unfolding all_taken
all_front size d [] h = absurd (omega arith)
all_front size d (b ∷ xs) h = (length xs, refl, refl)

pub taken_none : (size : ℕ) (d : Draft) (xs : List ℕ) → length xs ≡ 0 → all_taken (length xs) size d xs ≡ Ok d
unfolding all_taken
taken_none size d [] h = refl
taken_none size d (b ∷ xs) h = absurd (omega arith)

module _ (size : ℕ) (d : Draft) (xs : List ℕ) (some : 0 < length xs) where
  -- no whole record
  pub taken_short : first xs ≡ None → all_taken (length xs) size d xs ≡ Err (record_fault Whole (size - length xs))
  taken_short e = let p = all_front size d xs some in p.2 ∙ ap (taken (all_taken p.0 size) d (size - length xs)) e

  module _ (r : Raw) (is : first xs ≡ Some r) where
    -- a record that is refused
    pub taken_refused : (f : Fault) → with_record d (size - length xs) r.code r.body ≡ Err f → all_taken (length xs) size d xs ≡ Err f
    taken_refused f e =
        let p = all_front size d xs some in
        p.2 ∙ ap (taken (all_taken p.0 size) d (size - length xs)) is ∙ ap (λ o. onward (all_taken p.0 size) o r.rest) e

    -- a record that is taken
    pub taken_more : (d' : Draft) → with_record d (size - length xs) r.code r.body ≡ Ok d'
        → all_taken (length r.rest) size d' r.rest ≡ all_taken (length xs) size d xs
    taken_more d' e =
        let p = all_front size d xs some in
        let l = first_shorter xs r is in
        sym (p.2 ∙ ap (taken (all_taken p.0 size) d (size - length xs)) is ∙ ap (λ o. onward (all_taken p.0 size) o r.rest) e
        ∙ enough p.0 (length r.rest) size d' r.rest (omega (arith, p.1)) (omega arith))

-- bytes that are not empty
pub some_left : (n : ℕ) → false ≡ eqb n 0 → 0 < n
some_left zero h = cc
some_left (suc n) h = omega arith

pub none_left : (n : ℕ) → true ≡ eqb n 0 → n ≡ 0
none_left n h = eqb-true n 0 (sym h)

-- a refusal of a record is passed on
pub refused_on : {X Y : Type 0} (o : Result X Fault) (o' : Result Y Fault) (f : Fault) → ((g : Fault) → o ≡ Err g → o' ≡ Err g) → RefusedRecord o f → Refused o' f
refused_on o o' (Record f) h r = h (Record f) r
refused_on o o' (Row f) h r = h (Row f) r
refused_on o o' Memory h r = tt

-- a file that is loaded has its goal
pub loaded_ended : (o : Result Draft Fault) (d : Draft) → finished o ≡ Ok d → d.ended ≡ true
loaded_ended (Ok d') d h = go d'.ended refl h
  where
    go : (b : Bool) → d'.ended ≡ b → refused_or (ask b (row_fault Goal d') None) d' ≡ Ok d → d.ended ≡ true
    go true e t = let same : d' ≡ d = cc in sym (ap (λ x. x.ended) same) ∙ e
    go false e t = cc
loaded_ended (Err f) d h = cc

pub ended_sealed : (d : Draft) → d.ended ≡ true → sealed d ≡ None → ⊥
ended_sealed d e h = let t = cond-true d.ended (Some d.problem) None e in cc

-- so a draft into which a file was loaded is sealed
pub never_unsealed : (bytes : List ℕ) (d : Draft) → loaded bytes ≡ Ok d → sealed d ≡ None → ⊥
never_unsealed bytes d h n = ended_sealed d (loaded_ended (all_taken (length bytes) (length bytes) blank bytes) d h) n

-- a result whose error is ruled out
pub surely_ok : {X Y : Type 0} (P : X → Type 0) (Q : Y → Type 0) (r : Result X Y) → MatchResult r P Q → ((y : Y) → Q y → ⊥) → IsOk r
surely_ok P Q (Ok x) h n = refl
surely_ok P Q (Err y) h n = absurd (n y h)
