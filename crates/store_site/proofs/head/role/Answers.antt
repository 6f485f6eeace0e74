-- `store_site::head::role` meets its contract.
-- Assumes nothing.
use Rattle.store_site.specs.Layout.{site_of}
use Rattle.basis.proofs.Std.{sym, ◌∙◌, eq-eqb, ne_eqb}
use Rattle.store_site.proofs.head.role.Goals as goal

pub returns-then-l-quarter : goal.returns-then-l-quarter
unfolding site_of
returns-then-l-quarter c = λ ps t. rw (eq-eqb _ _ (c.if-l-quarter.true ∙ c.quarter.ensures))

pub returns : goal.returns
unfolding site_of
returns c = λ ps t. rw (ne_eqb _ _ (λ e. c.if-l-quarter.false (e ∙ sym c.quarter.ensures)))
