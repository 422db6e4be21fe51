use Rattle.std.proofs.Common.{rules, ◌≡◌, arith}
use Rattle.std.specs.List.{list_all}
use Rattle.std.proofs.lemmas.Bool.Decides.{nat_tests}
use Rattle.std.proofs.lemmas.Iterator.{YieldsList-from_slice}
use Rattle.std.proofs.lemmas.Iterator.Search.{all_from_yields_List}
use borrow.Author.Tests.{tests}
use Rattle.table.specs.Lawful.{letter}
use Rattle.draft.proofs.draft.asks.is_lawful_name.Goals as goal

pub returns-then-contains : goal.returns-then-contains
returns-then-contains c =
    let xs = c.args.name.now in
    let h : c.all.result ≡ list_all letter xs = all_from_yields_List letter _ _ c.all.result c.all.ensures.ran (YieldsList-from_slice xs cc) (λ x b q k. search (rules, tests)) in
    grind (arith, nat_tests, h, c.if-contains.true)
