-- The records of entries that a draft takes one after another are loaded.
use Rattle.std.proofs.Common.{◌≡◌, ℕ, zero, suc, ◌-◌, ◌≤◌, List, [], ◌∷◌, length, Ok, ap, ◌∙◌, arith}
use Rattle.std.specs.List.{flat_map}
use Rattle.std.proofs.lemmas.List.{length-append}
use Rattle.draft.specs.Entry.{Entry, kind}
use Rattle.draft.specs.Draft.{Draft}
use Rattle.draft.specs.Entered.{entered}
use Rattle.draft.specs.Lawful.{LawfulDraft}
use Rattle.draft.specs.Questions.{Passes}
use Rattle.draft.proofs.Entered.{lawful_entered}
use Rattle.draft.specs.Kinds.{code}
use Rattle.records.specs.Loaded.{with_record, onward, taken, all_taken}
use Rattle.writer.specs.Written.{encoded}
use Rattle.writer.proofs.Fits.{Fits, fits_entry}
use Rattle.writer.proofs.Codec.{body, first_encoded, kind_encoded, decoded_encoded}
use Rattle.writer.proofs.Accepted.{Accepts}

-- the record of an accepted entry is taken
record_taken : (d : Draft) (e : Entry) (at : ℕ) → Passes d e → Fits e → with_record d at (code (kind e)) (body e) ≡ Ok (entered d e)
record_taken d e at a fits = rw (kind_encoded e fits, a.stands, a.room, decoded_encoded e fits, a.fields, a.rows, a.shallow, a.new)

-- and those of all entries that a lawful draft accepts
pub accepted_loads : (d : Draft) (es : List Entry) (d' : Draft) → Accepts d es d' → LawfulDraft d
    → (n size : ℕ) → length (flat_map encoded es) ≤ n → all_taken n size d (flat_map encoded es) ≡ Ok d'
unfolding all_taken
accepted_loads d [] d' g l zero size h = ap Ok g
accepted_loads d [] d' g l (suc n) size h = ap Ok g
accepted_loads d (e ∷ es) d' g l zero size h = let z : ⊥ = omega arith in absurd z
accepted_loads d (e ∷ es) d' g l (suc n) size h =
    let at = size - length (flat_map encoded (e ∷ es)) in
    let k : length (flat_map encoded es) ≤ n = omega (arith, length-append (encoded e) (flat_map encoded es)) in
    let fits = fits_entry d e l.0.0 g.0.fields g.0.rows in
    ap (taken (all_taken n size) d at) (first_encoded e (flat_map encoded es) fits)
    ∙ ap (λ r. onward (all_taken n size) r (flat_map encoded es)) (record_taken d e at g.0 fits)
    ∙ accepted_loads (entered d e) es d' g.1 (lawful_entered d e l g.0) n size k
