use Rattle.basis.proofs.Std.{◌≡◌, length, sym, arith, refl, rules}
use Rattle.store_table.specs.Layout.{label_bytes}
use Rattle.store_table.proofs.LayLaws.{one, then, copied}
use Rattle.store_table.proofs.lays.label.Goals as goal

pub returns : goal.returns
unfolding label_bytes
returns c =
    let n : length c.args.x.bytes ≡ 32 = search rules in
    rw c.copy_from_slice.ensures.after (then 33 (copied c.args.t.now c.args.x.bytes c.args.at _ 32 (sym n) (omega arith)) (one _ _ _ (search rules)) refl refl)
