-- What a draft becomes by one record, and by a whole file, or the first question whose answer is no.
use Rattle.std.specs.Prelude.{ℕ, zero, suc, ◌-◌, cond, List, [], ◌∷◌, length, Some, None, Ok, Err, Option, Result, ◌==◌}
use Rattle.faults.specs.declared.Fault.{Fault}
use Rattle.faults.specs.declared.RecordQuestion.TheVariants as record_questions
use Rattle.faults.specs.declared.RowQuestion.TheVariants as row_questions
use Rattle.table.specs.Problem.{Problem}
use Rattle.draft.specs.Entry.{Entry}
use Rattle.draft.specs.Draft.{Draft, blank}
use Rattle.faults.specs.Faults.{record_fault}
use Rattle.draft.specs.Questions.{row_fault, kind_refused, entry_refused, seal_refused}
use Rattle.draft.specs.Entered.{entered}
use Rattle.draft.specs.Outcome.{refused_or}
use Rattle.draft.specs.declared.entry.Kind.{Kind}
use Rattle.records.specs.Bytes.{Raw, first}
use Rattle.records.specs.Kinds.{kind_read}
use Rattle.records.specs.Decoded.{decoded}

-- the draft with what a record says, if anything
abbrev pub with_entry : Draft → Option Entry → Result Draft Fault
with_entry d None = Err (row_fault row_questions.Fields d)
with_entry d (Some e) = refused_or (entry_refused d e) (entered d e)

-- the same, unless it was refused before
abbrev pub unless_refused : Option Fault → Result Draft Fault → Result Draft Fault
unless_refused (Some f) o = Err f
unless_refused None o = o

-- the draft with a record of this kind, if any, that begins at the byte `at`
abbrev pub with_kind : Draft → ℕ → List ℕ → Option Kind → Result Draft Fault
with_kind d at body None = Err (record_fault record_questions.Kind at)
with_kind d at body (Some k) = unless_refused (kind_refused d at k) (with_entry d (decoded k body))

abbrev pub with_record : Draft → ℕ → ℕ → List ℕ → Result Draft Fault
with_record d at code body = with_kind d at body (kind_read code (length body))

-- Add: the bytes are one record and nothing else
abbrev pub added_alone : Draft → Option Raw → Result Draft Fault
added_alone d None = Err (record_fault record_questions.Whole 0)
added_alone d (Some r) = cond (length r.rest == 0) (with_record d 0 r.code r.body) (Err (record_fault record_questions.Whole 0))

abbrev pub added : Draft → List ℕ → Result Draft Fault
added d bytes = added_alone d (first bytes)

-- what comes of the bytes behind a record, if it was taken
abbrev pub onward : (Draft → List ℕ → Result Draft Fault) → Result Draft Fault → List ℕ → Result Draft Fault
onward next (Ok d) rest = next d rest
onward next (Err f) rest = Err f

abbrev pub taken : (Draft → List ℕ → Result Draft Fault) → Draft → ℕ → Option Raw → Result Draft Fault
taken next d at None = Err (record_fault record_questions.Whole at)
taken next d at (Some r) = onward next (with_record d at r.code r.body) r.rest

-- One record after another: of `size` bytes these are left, and they begin with the next record. `n` bounds how many records
-- there are: as each takes at least four bytes, the number of bytes left suffices.
unfoldable pub all_taken : ℕ → ℕ → Draft → List ℕ → Result Draft Fault
all_taken zero size d bytes = Ok d
all_taken (suc n) size d [] = Ok d
all_taken (suc n) size d (b ∷ bytes) = taken (all_taken n size) d (size - length (b ∷ bytes)) (first (b ∷ bytes))

-- all records of these bytes
abbrev pub file_taken : Draft → List ℕ → Result Draft Fault
file_taken d bytes = all_taken (length bytes) (length bytes) d bytes

-- Load: from a blank draft, and at the end the goal has to have come
abbrev pub finished : Result Draft Fault → Result Draft Fault
finished (Ok d) = refused_or (seal_refused d) d
finished (Err f) = Err f

abbrev pub loaded : List ℕ → Result Draft Fault
loaded bytes = finished (file_taken blank bytes)

-- the problem of a file that is loaded and sealed
abbrev pub problem_in : Result Draft Fault → Result Problem Fault
problem_in (Ok d) = Ok d.problem
problem_in (Err f) = Err f

abbrev pub problem_loaded : List ℕ → Result Problem Fault
problem_loaded bytes = problem_in (loaded bytes)
