use Rattle.std.proofs.Common.{rules, not, vec_items, List, ℕ, Bool, ◌∙◌, sym}
use Rattle.std.specs.Str.{bytes_eq}
use Rattle.std.proofs.lemmas.Iterator.{YieldsList-from_slice}
use Rattle.std.proofs.lemmas.Iterator.Search.{all_from_yields_List}
use borrow.Author.Tests.{tests}
use Rattle.table.specs.Seen.{action_of}
use Rattle.table.specs.declared.contents.Action.{Action}
use Rattle.std.proofs.lemmas.List.Folds.{list_all-map}
use Rattle.draft.proofs.draft.asks.is_new_name.Goals as goal

-- whether an action has another name
abbrev other : List ℕ → Action → Bool
other name a = not (bytes_eq (vec_items a.name) name)

pub returns : goal.returns
returns c =
    let xs = c.args.actions.now in
    let name = c.args.name.now in
    all_from_yields_List (other name) _ _ c.all.result c.all.ensures.ran (YieldsList-from_slice xs cc) (λ x b q k. search (rules, tests))
    ∙ sym (list_all-map (λ a. not (bytes_eq a.name name)) action_of xs)
