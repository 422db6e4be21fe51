-- What is read of a record is of the record's kind.
use Rattle.std.proofs.Common.{◌≡◌, ℕ, Bool, true, false, cond, eqb, List, Some, None, Option, sym, refl, ap, ◌∙◌, subst}
use Rattle.std.specs.Option.{option_map}
use Rattle.rows.specs.declared.row.Change.{Change}
use Rattle.rows.specs.declared.row.Change.TheVariants.{Set, Assign, Increase, Decrease}
use Rattle.draft.specs.Entry.{Entry, kind, change_kind, bit, expression, formula}
use Rattle.draft.specs.declared.entry.Kind.{Kind}
use Rattle.draft.specs.declared.entry.Kind.TheVariants as kinds
use Rattle.records.specs.Bytes.{field}
use Rattle.records.specs.Kinds.{body_fits, fitting}
use Rattle.records.specs.Decoded.{decoded, flag, expression_read, formula_read, set_read, change_read, effect_of}

-- a kind that is read fits its body's length
pub fits_read : (n : ℕ) (o : Option Kind) (k : Kind) → Some k ≡ fitting n o → body_fits k n ≡ true
fits_read n None k h = cc
fits_read n (Some j) k h = go (body_fits j n) refl h
  where
    go : (b : Bool) → body_fits j n ≡ b → Some k ≡ cond b (Some j) None → body_fits k n ≡ true
    go true e t = let same : k ≡ j = cc in ap (λ i. body_fits i n) same ∙ e
    go false e t = cc

-- an entry that is made of what is read, if anything
made : {X : Type 0} (f : X → Entry) (k : Kind) (o : Option X) → ((x : X) → o ≡ Some x → kind (f x) ≡ k) → (e : Entry) → Some e ≡ option_map f o → kind e ≡ k
made f k None h e t = cc
made f k (Some x) h e t = let same : e ≡ f x = cc in ap kind same ∙ h x refl

set_kind : (b to : ℕ) (c : Change) → set_read b to ≡ Some c → change_kind c ≡ kinds.BitEffect
set_kind b to c h = go (flag to) h
  where
    go : (o : Option Bool) → option_map (Set b) o ≡ Some c → change_kind c ≡ kinds.BitEffect
    go None t = cc
    go (Some v) t = let same : Set b v ≡ c = cc in sym (ap change_kind same)

-- the first test of a chain that passes decides
chosen : (P : Change → Type 0) (c : Change) (b : Bool) (x : Change) (rest : Option Change) → P x → (rest ≡ Some c → P c) → cond b (Some x) rest ≡ Some c → P c
chosen P c true x rest p q t = let same : x ≡ c = cc in subst P same p
chosen P c false x rest p q t = q t

change_kind_is : (way n e : ℕ) (c : Change) → change_read way n e ≡ Some c → change_kind c ≡ kinds.NumberEffect
change_kind_is way n e c h =
    let P : Change → Type 0 = λ x. change_kind x ≡ kinds.NumberEffect in
    let never : None ≡ Some c → P c = λ t. cc in
    chosen P c (eqb way 0) (Assign n e) _ refl
    (chosen P c (eqb way 1) (Increase n e) _ refl (chosen P c (eqb way 2) (Decrease n e) None refl never)) h

one : (k : Kind) (x e : Entry) → kind x ≡ k → Some e ≡ Some x → kind e ≡ k
one k x e h t = let same : e ≡ x = cc in ap kind same ∙ h

pub kind_decoded : (k : Kind) (body : List ℕ) (e : Entry) → Some e ≡ decoded k body → kind e ≡ k
kind_decoded kinds.Head body e h = one kinds.Head _ e refl h
kind_decoded kinds.Bit body e h = made bit kinds.Bit (flag (field body 0)) (λ _ _. refl) e h
kind_decoded kinds.Number body e h = one kinds.Number _ e refl h
kind_decoded kinds.Expression body e h = made expression kinds.Expression (expression_read body (field body 0)) (λ _ _. refl) e h
kind_decoded kinds.Formula body e h = made formula kinds.Formula (formula_read (field body 0) (field body 2) (field body 4)) (λ _ _. refl) e h
kind_decoded kinds.Action body e h = one kinds.Action _ e refl h
kind_decoded kinds.Event body e h = one kinds.Event _ e refl h
kind_decoded kinds.Process body e h = one kinds.Process _ e refl h
kind_decoded kinds.BitEffect body e h =
    made (effect_of (field body 0)) kinds.BitEffect (set_read (field body 2) (field body 4)) (set_kind (field body 2) (field body 4)) e h
kind_decoded kinds.NumberEffect body e h =
    made (effect_of (field body 0)) kinds.NumberEffect (change_read (field body 2) (field body 4) (field body 6))
    (change_kind_is (field body 2) (field body 4) (field body 6)) e h
kind_decoded kinds.Rate body e h = one kinds.Rate _ e refl h
kind_decoded kinds.Goal body e h = one kinds.Goal _ e refl h
