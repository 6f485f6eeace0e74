-- `call_input::records::of_aggregated` meets its contract.
-- Assumes nothing.
use Rattle.basis.proofs.Std.{◌∙◌}
use Rattle.store_site.specs.Layout.{site_of}
use Rattle.call_input.proofs.InPlace.{one_each, none_at_all}
use Rattle.call_input.proofs.records.of_aggregated.Goals as goal

pub returns-then-x : goal.returns-then-x
returns-then-x c =
    λ ps t. c.link_count.ensures ps t ∙ one_each c.args.x (site_of ps c.args.w.now t) c.if-x.true (site_of ps c.args.w.now t).linkcount

pub returns : goal.returns
returns c =
    λ ps t. none_at_all c.args.x (site_of ps c.args.w.now t) c.if-x.false (site_of ps c.args.w.now t).linkcount
