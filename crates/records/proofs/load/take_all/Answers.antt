use Rattle.std.proofs.Common.{◌-◌, length, sym, ◌∙◌, subst, arith}
use Rattle.std.proofs.lemmas.Result.{err_from_is_err_and}
use Rattle.draft.specs.Outcome.{Refused, RefusedRecord}
use Rattle.records.specs.Loaded.{with_record, all_taken}
use Rattle.records.specs.Seen.{raw}
use Rattle.records.proofs.Taken.{first_shorter, taken_none, taken_short, taken_refused, taken_more, some_left, none_left, refused_on}
use Rattle.records.proofs.load.take_all.Goals as goal

pub returns-in_default : goal.returns-in_default
returns-in_default c =
    let bytes = c.args.bytes.now in
    let left = c.loop-left.left.now in
    let d = c.loop-left.draft.plain in
    let some = some_left (length left) c.loop-left-test.ensures in
    let outcome = all_taken (length bytes) (length bytes) c.args.draft.now.plain bytes in
    subst (Refused outcome) (sym c.at.ensures) (sym c.loop-left.invariant.1 ∙ taken_short (length bytes) d left some (sym c.in_default.ensures))

pub returns-in_err-take : goal.returns-in_err-take
returns-in_err-take c =
    let bytes = c.args.bytes.now in
    let left = c.loop-left.left.now in
    let d = c.loop-left.draft.plain in
    let r = raw c.in-Some.record in
    let is = sym c.in-Some.ensures in
    let some = some_left (length left) c.loop-left-test.ensures in
    let outcome = all_taken (length bytes) (length bytes) c.args.draft.now.plain bytes in
    let p = err_from_is_err_and c.from_residual.result c.from_residual.ensures.1 in
    rw p.1
    (refused_on (with_record d (length bytes - length left) r.code r.body) outcome p.0
    (λ g e. sym c.loop-left.invariant.1 ∙ taken_refused (length bytes) d left some r is g e)
    (subst (RefusedRecord (with_record d (length bytes - length left) r.code r.body)) (sym p.2) c.in_err-take.ensures.0))

pub loop-left-preserved : goal.loop-left-preserved
loop-left-preserved c =
    let bytes = c.args.bytes.now in
    let left = c.loop-left.left.now in
    let d = c.loop-left.draft.plain in
    let r = raw c.in-Some.record in
    let is = sym c.in-Some.ensures in
    let some = some_left (length left) c.loop-left-test.ensures in
    let short = first_shorter left r is in
    (omega (arith, short, c.loop-left.invariant.0), taken_more (length bytes) d left some r is c.take.new.draft.plain c.in_ok-take.ensures ∙ c.loop-left.invariant.1)

pub returns : goal.returns
returns c =
    let bytes = c.args.bytes.now in
    let left = c.loop-left.left.now in
    sym c.loop-left.invariant.1 ∙ taken_none (length bytes) c.loop-left.draft.plain left (none_left (length left) c.loop-left-test.ensures)
