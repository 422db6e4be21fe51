-- What a contract sees of a sealed table: its problem, and that this is lawful.
use Rattle.table.specs.Problem.{Problem}
use Rattle.table.specs.Lawful.{Lawful}

pub record Sealed : Type 0 where
  pub problem : Problem
  pub lawful : Lawful problem
