-- `store_table::component` meets its contract.
-- Assumes nothing.
use Rattle.store_table.proofs.RowLaws.{label_at, label_behind}
use Rattle.store_table.specs.Layout.{table_of}
use Rattle.basis.proofs.Std.{◌∙◌, rules}
use Rattle.store_table.proofs.component.Goals as goal

pub returns-then-k-lt8 : goal.returns-then-k-lt8
unfolding table_of
returns-then-k-lt8 c =
    c.label_at.ensures ∙ label_at c.args.t.now 74 c.args.k (search rules)

pub returns-else-k-lt8 : goal.returns-else-k-lt8
unfolding table_of
returns-else-k-lt8 c =
    c.none.ensures ∙ label_behind c.args.t.now 74 c.args.k (search rules)
