use Rattle.std.proofs.lemmas.Iterator.{YieldsList-from_slice}
use Rattle.std.proofs.lemmas.Iterator.Search.{any_from_yields_List}
use Rattle.basis.proofs.Std.{◌∙◌, rules, take, tests}
use Rattle.label.specs.declared.Label.{Label}
use Rattle.read_versions.specs.Judge.{same_label}
use Rattle.read_versions.proofs.Searches.{lists_is}
use Rattle.read_versions.proofs.Sites.lists.Goals as goal

pub returns : goal.returns
returns c =
    let l = take c.args.self.now.count c.args.self.now.list in
    any_from_yields_List (λ (x : Label). same_label x c.args.l) _ _ _ c.any.ensures.ran (YieldsList-from_slice l cc) (λ x b q k. search (rules, tests)) ∙ lists_is c.args.l l
