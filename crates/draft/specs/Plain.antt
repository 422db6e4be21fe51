-- What the code's entries say.
use Rattle.draft.specs.Entry as plain
use Rattle.draft.specs.declared.entry.Entry.{Entry}
use Rattle.draft.specs.declared.entry.Entry.TheVariants.{Head, Bit, Number, Expression, Formula, Action, Event, Process, Effect, Rate, Goal}

abbrev pub plain_entry : Entry → plain.Entry
plain_entry (Head t) = plain.head t
plain_entry (Bit v) = plain.bit v
plain_entry (Number z) = plain.number z
plain_entry (Expression e) = plain.expression e
plain_entry (Formula f) = plain.formula f
plain_entry (Action c n) = plain.action c n.now
plain_entry (Event c) = plain.event c
plain_entry (Process c) = plain.process c
plain_entry (Effect e) = plain.effect e
plain_entry (Rate r) = plain.rate r
plain_entry (Goal f) = plain.goal f
