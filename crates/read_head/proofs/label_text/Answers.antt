use Rattle.basis.proofs.Std.{rules, ◌∙◌}
use Rattle.read_head.proofs.Leaves.{label_good, label_bad}
use Rattle.read_head.proofs.label_text.Goals as goal

pub returns-then-is_label : goal.returns-then-is_label
returns-then-is_label c = label_good c.args.d.now c.is_label.ensures c.if-is_label.true c.of.ensures

pub returns-else-is_label : goal.returns-else-is_label
returns-else-is_label c = c.no_label.ensures ∙ label_bad c.args.d.now c.is_label.ensures c.if-is_label.false
