use Rattle.basis.proofs.Std.{ap, ◌∙◌, ◌-◌, arith}
use Rattle.json_find.proofs.Walks.{step_on, step_in}
use Rattle.read_lists.specs.Version.{push_site, site_of_item}
use Rattle.read_lists.proofs.Walk.{none_in, some_in, last_one, and_more}
use Rattle.read_lists.proofs.sites_in.Goals as goal

pub returns-in_default : goal.returns-in_default
returns-in_default c = c.no_sites-list.ensures ∙ none_in (λ l x. push_site l (site_of_item x)) _ _ _ (rw c.in_default.is at c.inside-p.ensures)

pub loop-list-init : goal.loop-list-init
loop-list-init c = rw c.no_sites-list.ensures (some_in (λ l x. push_site l (site_of_item x)) _ _ _ _ (rw c.in-End.is at c.inside-p.ensures))

pub returns-in-Bad : goal.returns-in-Bad
returns-in-Bad c = last_one (λ l x. push_site l (site_of_item x)) _ _ _ _ c.space.ensures (c.push_site-list.ensures ∙ ap (push_site c.loop-list.list) c.site_entry.ensures) (rw c.in-Bad.is at c.step-m.ensures) ∙ c.loop-list.invariant

pub loop-list-smaller : goal.loop-list-smaller
loop-list-smaller c =
    let x = rw c.in-End-m.is at c.step-m.ensures in
    omega (arith, step_on _ _ 0x5d _ x, step_in _ _ 0x5d _ x)

pub loop-list-preserved : goal.loop-list-preserved
loop-list-preserved c = and_more (λ l x. push_site l (site_of_item x)) _ _ _ _ c.space.ensures (c.push_site-list.ensures ∙ ap (push_site c.loop-list.list) c.site_entry.ensures) _ (rw c.in-End-m.is at c.step-m.ensures) ∙ c.loop-list.invariant
