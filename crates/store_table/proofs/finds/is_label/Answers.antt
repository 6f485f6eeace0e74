-- `store_table::finds::is_label` meets its contract.
-- Assumes nothing.
use Rattle.basis.proofs.Std.{same_bytes, ap, ◌∙◌, rules}
use Rattle.label.specs.declared.Label.{Label}
use Rattle.label.specs.Label.{text_of}
use Rattle.store_table.proofs.RowLaws.{label_at, label_behind}
use Rattle.store_table.proofs.finds.is_label.Goals as goal

pub returns-then-k-lt8 : goal.returns-then-k-lt8
returns-then-k-lt8 c =
    rw (← (label_at c.args.t.now c.args.i c.args.k (search rules))) c.label_is.ensures

pub returns-else-k-lt8 : goal.returns-else-k-lt8
returns-else-k-lt8 c =
    c.is.ensures ∙ ap (λ (l : Label). same_bytes (text_of l) c.args.text.now) (c.none.ensures ∙ label_behind c.args.t.now c.args.i c.args.k (search rules))
