-- A refusal of a record's kind is told as it is: it is never want of memory.
use Rattle.std.proofs.Common.{◌≡◌, ℕ, Bool, true, false, Some, None, Err, Result, sym, ap}
use Rattle.faults.specs.declared.Fault.{Fault}
use Rattle.faults.specs.declared.Fault.TheVariants.{Record, Row, Memory}
use Rattle.faults.specs.declared.RecordQuestion.TheVariants.{Order}
use Rattle.faults.specs.declared.RowQuestion.TheVariants.{Limit}
use Rattle.draft.specs.Draft.{Draft}
use Rattle.faults.specs.Faults.{record_fault}
use Rattle.draft.specs.Questions.{ask, may_stand, has_room, row_fault, kind_refused}
use Rattle.draft.specs.Outcome.{RefusedRecord}
use Rattle.draft.specs.declared.entry.Kind.{Kind}
use Rattle.records.specs.Loaded.{unless_refused}

-- a fault that is a question's
told : (d : Draft) (at : ℕ) (a b : Bool) (f : Fault) (o : Result Draft Fault) → Some f ≡ ask a (record_fault Order at) (ask b (row_fault Limit d) None)
    → o ≡ Err f → RefusedRecord o f
told d at a b (Record g) o h e = e
told d at a b (Row g) o h e = e
told d at true true Memory o h e = cc
told d at true false Memory o h e = cc
told d at false b Memory o h e = cc

pub kind_told : (d : Draft) (at : ℕ) (k : Kind) (f : Fault) (rest : Result Draft Fault) → Some f ≡ kind_refused d at k
    → RefusedRecord (unless_refused (kind_refused d at k) rest) f
kind_told d at k f rest h =
    told d at (may_stand d k) (has_room d k) f (unless_refused (kind_refused d at k) rest) h (ap (λ o. unless_refused o rest) (sym h))
