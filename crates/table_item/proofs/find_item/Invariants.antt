use Rattle.basis.proofs.Std.{◌-◌, ◌≡◌}
use Rattle.table_item.specs.Find.{first_from, item_at}
use Rattle.table_item.proofs.find_item.Given as goal

abbrev pub invariant-loop-i : goal.invariant-loop-i
invariant-loop-i l = first_from (item_at l.items l.component l.code l.name) 0 l.count ≡ first_from (item_at l.items l.component l.code l.name) l.i (l.count - l.i)
