use Rattle.std.proofs.Common.{◌≡◌, true, length, None, sym, refl, subst}
use Rattle.faults.specs.declared.RecordQuestion.TheVariants.{Order}
use Rattle.faults.specs.declared.RowQuestion.TheVariants.{Limit}
use Rattle.faults.specs.Faults.{record_fault}
use Rattle.draft.specs.Questions.{ask, may_stand, has_room, row_fault}
use Rattle.draft.specs.Plain.{plain_entry}
use Rattle.draft.specs.declared.entry.Kind.{Kind}
use Rattle.draft.proofs.Kept.{ask_passed}
use Rattle.std.proofs.lemmas.Result.{err_from_is_err_and}
use Rattle.draft.specs.Outcome.{RefusedRecord}
use Rattle.draft.specs.Kinds.{coded}
use Rattle.records.specs.Decoded.{decoded}
use Rattle.records.specs.Loaded.{with_record, with_kind, with_entry}
use Rattle.records.proofs.Told.{kind_told}
use Rattle.records.proofs.Read.{fits_read, kind_decoded}
use Rattle.records.proofs.load.take.Goals as goal

pub decode-requires : goal.decode-requires
decode-requires c = fits_read (length c.args.body.now) (coded c.args.code) c.in-Some.kind c.in-Some.ensures

pub admit-requires : goal.admit-requires
admit-requires c =
    let d = c.args.draft.now.plain in
    let k = c.in-Some.kind in
    let is = kind_decoded k c.args.body.now (plain_entry c.in-Some-decode.entry) c.in-Some-decode.ensures in
    let a = ask_passed (may_stand d k) (record_fault Order c.args.at) (ask (has_room d k) (row_fault Limit d) None) (sym c.in_ok-ask_kind.ensures) in
    let b = ask_passed (has_room d k) (row_fault Limit d) None a.1 in
    record {
      stands = subst (λ (j : Kind). may_stand d j ≡ true) (sym is) a.0;
      room = subst (λ (j : Kind). has_room d j ≡ true) (sym is) b.0;
    }

pub returns-in_err-ask_kind : goal.returns-in_err-ask_kind
returns-in_err-ask_kind c =
    let d = c.args.draft.now.plain in
    let body = c.args.body.now in
    let k = c.in-Some.kind in
    let p = err_from_is_err_and c.from_residual.result c.from_residual.ensures.1 in
    rw p.1 (
      subst (λ f. RefusedRecord (with_record d c.args.at c.args.code body) f) (sym p.2)
          (subst (λ o. RefusedRecord (with_kind d c.args.at body o) c.in_err-ask_kind.field-0.0) c.in-Some.ensures
          (kind_told d c.args.at k c.in_err-ask_kind.field-0.0 (with_entry d (decoded k body)) c.in_err-ask_kind.ensures)),
      refl,
    )
