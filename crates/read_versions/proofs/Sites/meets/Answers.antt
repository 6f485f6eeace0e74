use Rattle.std.proofs.lemmas.Iterator.{YieldsList-from_slice}
use Rattle.std.proofs.lemmas.Iterator.Search.{any_from_yields_List}
use Rattle.basis.proofs.Std.{◌∙◌, rules, take, tests}
use Rattle.read_versions.specs.Judge.{lists}
use Rattle.read_versions.proofs.Searches.{meet_is}
use Rattle.read_versions.proofs.Sites.meets.Goals as goal

pub returns : goal.returns
returns c =
    let l = take c.args.self.now.count c.args.self.now.list in
    let theirs = take c.args.theirs.now.count c.args.theirs.now.list in
    any_from_yields_List (lists theirs) _ _ _ c.any.ensures.ran (YieldsList-from_slice l cc) (λ x b q k. search (rules, tests)) ∙ meet_is theirs l
