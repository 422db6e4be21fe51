-- The law above the decoder: what is written of a lawful problem is loaded and sealed as that very problem.
use Rattle.std.specs.Prelude.{◌≡◌, Ok}
use Rattle.table.specs.Problem.{Problem}
use Rattle.table.specs.Lawful.{Lawful}
use Rattle.records.specs.Loaded.{problem_loaded}
use Rattle.writer.specs.Written.{written}

abbrev pub LoadsBack : Problem → Type 0
LoadsBack p = problem_loaded (written p) ≡ Ok p

abbrev pub EveryLawfulProblemLoadsBack : Type 0
EveryLawfulProblemLoadsBack = (p : Problem) → Lawful p → LoadsBack p
