-- What the code's record says in the terms of SCOPE.md, "Broker".
use Rattle.model.specs.Record as model
use Rattle.records.specs.declared.Record.{Record}

-- the eight positions, the grant number and the eight counts
abbrev pub record_of : Record → model.Record
record_of r = record { positions = r.positions; grants = r.grants; counts = r.counts }
