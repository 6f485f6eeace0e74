use Rattle.basis.proofs.Std.{◌≡◌, sym, ◌∙◌, set_out}
use Rattle.awaited.specs.declared.Found.TheVariants.{For}
use Rattle.awaited.proofs.Back.{change_set, position_here, position_none}
use Rattle.awaited.proofs.Search.{find_at, find_none}
use Rattle.awaited.specs.Awaited.{find_in, find_of, remove_of}
use Rattle.awaited.specs.Slot.{awaits_for}
use Rattle.awaited.proofs.Awaited.take.Goals as goal

pub returns-in-Some : goal.returns-in-Some
unfolding find_of remove_of
returns-in-Some c =
    let e = sym c.place_of.ensures ∙ c.in-Some.is in
    let found : For c.sent_for.result ≡ find_in c.args.id c.args.self.slots = rw c.sent_for.ensures (sym (find_at c.args.id _ _ _ e)) in
    rw (change_set (awaits_for _) _ _, ← found, c.free_slot.ensures, (position_here (awaits_for c.args.id) _ _ e).0)

pub returns-in_default : goal.returns-in_default
unfolding find_of remove_of
returns-in_default c =
    let h = position_none (awaits_for c.args.id) c.args.self.slots (sym c.place_of.ensures ∙ c.in_default.is) in
    rw (change_set (awaits_for _) _ _, set_out _ _ _ h, find_none c.args.id _ h)
