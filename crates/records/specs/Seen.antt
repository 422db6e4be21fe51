-- The record that the code's record stands for.
use Rattle.records.specs.Bytes.{Raw}
use Rattle.records.specs.declared.cut.Record.{Record}

abbrev pub raw : Record → Raw
raw r = record { code = r.code; body = r.body.now; rest = r.rest.now }
