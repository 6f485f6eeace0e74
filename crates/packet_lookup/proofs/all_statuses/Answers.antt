use Rattle.basis.proofs.Std.{◌∙◌, ℕ, sub-zero, refl, tests, rules}
use Rattle.std.proofs.lemmas.Iterator.{YieldsList-from_range}
use Rattle.std.proofs.lemmas.Iterator.Search.{all_from_yields_List}
use Rattle.store_table.specs.Layout.{table_of}
use Rattle.table_item.proofs.Own.{all_each}
use Rattle.packet_lookup.specs.Sought.{is_sought, status_sought, entry_at}
use Rattle.packet_lookup.proofs.all_statuses.Goals as goal

pub returns : goal.returns
returns c =
    let test = λ (i : ℕ). is_sought (status_sought (table_of c.args.t.now) c.args.component (entry_at c.args.entries i)) in
    all_from_yields_List test _ _ _ c.all.ensures.ran (YieldsList-from_range 0 c.args.count c.args.count refl (sub-zero _)) (λ x b q k. search (rules, tests)) ∙ all_each test c.args.count
