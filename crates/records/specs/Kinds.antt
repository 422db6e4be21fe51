-- How long a body of each kind is, and the kind that a code and a length tell.
use Rattle.std.specs.Prelude.{ℕ, Bool, cond, ◌&&◌, Some, None, Option, ◌==◌, nat_le}
use Rattle.draft.specs.Kinds.{coded}
use Rattle.draft.specs.declared.entry.Kind.{Kind}
use Rattle.draft.specs.declared.entry.Kind.TheVariants.{Head, Bit, Number, Expression, Formula, Action, Event, Process, BitEffect, NumberEffect, Rate, Goal}

-- a body of so many bytes is as long as its kind asks: an action's name has 1 to 24 letters behind its condition
abbrev pub body_fits : Kind → ℕ → Bool
body_fits Head n = n == 2
body_fits Bit n = n == 2
body_fits Number n = n == 4
body_fits Expression n = n == 6
body_fits Formula n = n == 6
body_fits Action n = nat_le 3 n && nat_le n 26
body_fits Event n = n == 2
body_fits Process n = n == 2
body_fits BitEffect n = n == 6
body_fits NumberEffect n = n == 8
body_fits Rate n = n == 4
body_fits Goal n = n == 2

abbrev pub fitting : ℕ → Option Kind → Option Kind
fitting n None = None
fitting n (Some k) = cond (body_fits k n) (Some k) None

-- the kind of a record with this code and so long a body, if there is one
abbrev pub kind_read : ℕ → ℕ → Option Kind
kind_read c n = fitting n (coded c)
