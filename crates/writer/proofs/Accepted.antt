-- Entries that a draft accepts one after another.
use Rattle.std.proofs.Common.{◌≡◌, true, false, List, [], ◌∷◌, ◌++◌, map, Option, sym, refl, ap, ◌∙◌, subst, append_assoc}
use Rattle.std.specs.List.{flat_map}
use Rattle.std.proofs.lemmas.List.{append-nil}
use Rattle.std.proofs.lemmas.List.Concat.{flat_map_single}
use Rattle.table.specs.Problem.{Problem}
use Rattle.draft.specs.Entry.{Entry}
use Rattle.draft.specs.Draft.{Draft}
use Rattle.draft.specs.Entered.{entered}
use Rattle.draft.specs.declared.entry.Owner.{Owner}
use Rattle.draft.specs.Questions.{Passes}
use Rattle.writer.proofs.Places.{Place}

-- the draft d accepts these entries one after another, and is d' then
abbrev pub Accepts : Draft → List Entry → Draft → Type 0
Accepts d [] d' = d ≡ d'
Accepts d (e ∷ es) d' = Passes d e × Accepts (entered d e) es d'

-- some entries behind others
pub accepts_append : (d : Draft) (es : List Entry) (d' : Draft) (fs : List Entry) (d'' : Draft) → Accepts d es d' → Accepts d' fs d'' → Accepts d (es ++ fs) d''
accepts_append d [] d' fs d'' g h = subst (λ x. Accepts x fs d'') (sym g) h
accepts_append d (e ∷ es) d' fs d'' g h = (g.0, accepts_append (entered d e) es d' fs d'' g.1 h)

-- a draft between its head and its goal
abbrev pub so_far : Option Owner → Problem → Draft
so_far o q = record { problem = q; owner = o; begun = true; ended = false }

-- elements of a list, each of which takes the draft of those before it to the draft with it
module _ {X : Type 0} (make : X → List Entry) (D : List X → Draft) (whole : List X)
    (step : (pre : List X) (x : X) → Place whole pre x → Accepts (D pre) (make x) (D (pre ++ x ∷ []))) where
  -- those that are left take it to the draft of all
  section_left : (pre xs : List X) → pre ++ xs ≡ whole → Accepts (D pre) (flat_map make xs) (D whole)
  section_left pre [] is = ap D (sym (append-nil pre) ∙ is)
  section_left pre (x ∷ xs) is =
      accepts_append _ _ _ _ _ (step pre x (record { rest = xs; is = is })) (section_left (pre ++ x ∷ []) xs (append_assoc pre (x ∷ []) xs ∙ is))

  -- one after another they all do
  pub section : Accepts (D []) (flat_map make whole) (D whole)
  section = section_left [] whole refl

-- the same where each element is one entry
pub single_section : {X : Type 0} (make : X → Entry) (D : List X → Draft) (whole : List X)
    → ((pre : List X) (x : X) → Place whole pre x → Accepts (D pre) (make x ∷ []) (D (pre ++ x ∷ [])))
    → Accepts (D []) (map make whole) (D whole)
single_section make D whole step = subst (λ es. Accepts (D []) es (D whole)) (flat_map_single make whole) (section (λ x. make x ∷ []) D whole step)
