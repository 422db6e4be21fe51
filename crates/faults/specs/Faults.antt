-- The number, the layer and the place of a fault.
use Rattle.std.specs.Prelude.{ℕ, Some, None, Ok, Err, Option, Result}
use Rattle.std.specs.declared.alloc.AllocError.{AllocError}
use Rattle.faults.specs.declared.Layer.{Layer}
use Rattle.faults.specs.declared.Layer.TheVariants as layers
use Rattle.faults.specs.declared.RecordQuestion.{RecordQuestion}
use Rattle.faults.specs.declared.RecordQuestion.TheVariants.{Whole, Kind, Order}
use Rattle.faults.specs.declared.RowQuestion.{RowQuestion}
use Rattle.faults.specs.declared.RowQuestion.TheVariants.{Limit, Fields, Rows, Depth, Name, Goal}
use Rattle.faults.specs.declared.Fault.{Fault}
use Rattle.faults.specs.declared.Fault.TheVariants.{Record, Row, Memory}

-- a fault of the record that begins at this byte
abbrev pub record_fault : RecordQuestion → ℕ → Fault
record_fault question at = Record (record { question = question; place = at })

abbrev pub record_number : RecordQuestion → ℕ
record_number Whole = 1
record_number Kind = 2
record_number Order = 3

abbrev pub row_number : RowQuestion → ℕ
row_number Limit = 4
row_number Fields = 5
row_number Rows = 6
row_number Depth = 7
row_number Name = 8
row_number Goal = 9

-- the number of the question whose answer was no; want of memory is no question
abbrev pub number : Fault → Option ℕ
number (Record f) = Some (record_number f.question)
number (Row f) = Some (row_number f.question)
number Memory = None

abbrev pub layer : Fault → Option Layer
layer (Record f) = Some layers.Record
layer (Row f) = Some layers.Row
layer Memory = None

-- a record's place is the offset of its first byte, a row's the count of its record from 1
abbrev pub place : Fault → Option ℕ
place (Record f) = Some f.place
place (Row f) = Some f.place
place Memory = None

-- number and place, or want of memory
abbrev pub refused : Fault → Result (ℕ × ℕ) AllocError
refused (Record f) = Ok (record_number f.question, f.place)
refused (Row f) = Ok (row_number f.question, f.place)
refused Memory = Err (record {})
