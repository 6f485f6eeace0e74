use Rattle.table_item.proofs.First.{get_d_any}
use Rattle.basis.proofs.Std.{length, get_or-eq_default, ◌≡◌, sym, ◌∙◌, rules}
use Rattle.packet_command.proofs.entry_in.Goals as goal

pub returns-then-i-lt16 : goal.returns-then-i-lt16
returns-then-i-lt16 c =
    let e : length c.args.entries ≡ 16 = search rules in
    get_d_any c.args.entries c.args.i _ _ (search rules)

pub returns : goal.returns
returns c =
    let e : length c.args.entries ≡ 16 = search rules in
    c.none.ensures ∙ sym (get_or-eq_default c.args.entries _ {n = c.args.i} (search rules))
