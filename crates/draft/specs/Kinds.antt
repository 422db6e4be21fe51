-- The kinds of records by their codes.
use Rattle.std.specs.Prelude.{ℕ, cond, Some, None, Option, Result, ◌==◌}
use Rattle.std.specs.Option.{ok_or}
use Rattle.draft.specs.declared.entry.Kind.{Kind}
use Rattle.draft.specs.declared.entry.UnknownKind.{UnknownKind}
use Rattle.draft.specs.declared.entry.Kind.TheVariants.{Head, Bit, Number, Expression, Formula, Action, Event, Process, BitEffect, NumberEffect, Rate, Goal}

abbrev pub code : Kind → ℕ
code Head = 1
code Bit = 2
code Number = 3
code Expression = 4
code Formula = 5
code Action = 6
code Event = 7
code Process = 8
code BitEffect = 9
code NumberEffect = 10
code Rate = 11
code Goal = 12

-- the kind with this code, if there is one
abbrev pub coded : ℕ → Option Kind
coded n =
    cond (n == 1) (Some Head)
    (cond (n == 2) (Some Bit)
    (cond (n == 3) (Some Number)
    (cond (n == 4) (Some Expression)
    (cond (n == 5) (Some Formula)
    (cond (n == 6) (Some Action)
    (cond (n == 7) (Some Event)
    (cond (n == 8) (Some Process)
    (cond (n == 9) (Some BitEffect)
    (cond (n == 10) (Some NumberEffect)
    (cond (n == 11) (Some Rate)
    (cond (n == 12) (Some Goal) None)))))))))))

-- the kind with this code, or the number n that is the code of none
abbrev pub kind_coded : ℕ → Result Kind UnknownKind
kind_coded n = ok_or (coded n) (record { 0 = n })
