use Rattle.basis.proofs.Std.{◌∙◌, sub-zero, refl, tests, rules}
use Rattle.std.proofs.lemmas.Iterator.{YieldsList-from_range}
use Rattle.std.proofs.lemmas.Iterator.Search.{all_from_yields_List}
use Rattle.table_item.specs.Find.{own_item}
use Rattle.table_item.proofs.Own.{all_each}
use Rattle.table_item.proofs.own_items.Goals as goal

pub returns : goal.returns
returns c = all_from_yields_List (own_item c.args.items.now c.args.count) _ _ _ c.all.ensures.ran (YieldsList-from_range 0 c.args.count c.args.count refl (sub-zero _)) (λ x b q k. search (rules, tests)) ∙ all_each (own_item c.args.items.now c.args.count) c.args.count
