-- The draft of a tick length and a goal that may not have come, parts and the last owner. It is over fields, since a ghost field speaks of these.
use Rattle.std.specs.Prelude.{ℕ, Option, is_some, unwrap_or}
use Rattle.table.specs.Seen.{problem_with}
use Rattle.table.specs.declared.contents.Parts.{Parts}
use Rattle.draft.specs.Draft.{Draft}
use Rattle.draft.specs.declared.entry.Owner.{Owner}

-- a tick length or a goal that has not come counts as 0
abbrev pub drafted : Option ℕ → Parts → Option ℕ → Option Owner → Draft
drafted tick parts goal owner =
    record {
      problem = problem_with (unwrap_or tick 0) parts (unwrap_or goal 0);
      owner = owner;
      begun = is_some tick;
      ended = is_some goal;
    }
