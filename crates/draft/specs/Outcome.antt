-- What a call that takes a record answers, and what it leaves.
use Rattle.std.specs.Prelude.{◌≡◌, true, is_ok, Some, None, Ok, Err, Option, Result}
use Rattle.std.specs.Result.{result_err}
use Rattle.faults.specs.declared.Fault.{Fault}
use Rattle.faults.specs.declared.Fault.TheVariants.{Record, Row, Memory}

-- the fault of an answer, if there is one
abbrev pub fault : {X : Type 0} → Result X Fault → Option Fault
fault o = result_err o

-- refused by f, or accepted with x
abbrev pub refused_or : {X : Type 0} → Option Fault → X → Result X Fault
refused_or (Some f) x = Err f
refused_or None x = Ok x

-- the outcome is the refusal f; memory is wanting only for what would be accepted
abbrev pub RefusedRecord : {X : Type 0} → Result X Fault → Fault → Type 0
RefusedRecord o (Record f) = o ≡ Err (Record f)
RefusedRecord o (Row f) = o ≡ Err (Row f)
RefusedRecord o Memory = is_ok o ≡ true

-- the answer r to one record tells the outcome o: at Ok the value after is the outcome's, and a refusal leaves what was before
abbrev pub Tells : {X Y : Type 0} → Result X Fault → X → Result Y Fault → X → Type 0
Tells o before (Ok y) after = o ≡ Ok after
Tells o before (Err f) after = RefusedRecord o f × (after ≡ before)

-- The outcome of a file is the refusal f. Memory may be wanting before the record that is refused.
abbrev pub Refused : {X : Type 0} → Result X Fault → Fault → Type 0
Refused o (Record f) = o ≡ Err (Record f)
Refused o (Row f) = o ≡ Err (Row f)
Refused o Memory = Unit {0}

-- the answer r to some records leads to the outcome o: at Ok the value after is the outcome's; what a refusal leaves is not said
abbrev pub LeadsTo : {X Y : Type 0} → Result X Fault → Result Y Fault → X → Type 0
LeadsTo o (Ok y) after = o ≡ Ok after
LeadsTo o (Err f) after = Refused o f

-- the answer r to a file tells the outcome o: at Ok the value after is the outcome's, and a refusal leaves `left`
abbrev pub TellsFile : {X Y : Type 0} → Result X Fault → X → Result Y Fault → X → Type 0
TellsFile o left (Ok y) after = o ≡ Ok after
TellsFile o left (Err f) after = Refused o f × (after ≡ left)
