-- `call_link::connect` meets its contract.
-- Assumes nothing.
use Rattle.basis.proofs.Std.{sym, ◌∙◌, rules}
use Rattle.store_site.specs.Layout.{site_of}
use Rattle.store_site.proofs.TurnsLaws.{turns_moves}
use Rattle.store_call.proofs.CallLaws.{below_four, steps_refused, steps_done}
use Rattle.answer.specs.declared.Refusal.TheVariants.{NoSuchLink, BadTime, WrongPhase}
use Rattle.site.specs.Call.{nothing_of}
use Rattle.call_link.proofs.Laws.{connect_no_link, connect_bad_time, connect_up, connects}
use Rattle.call_link.proofs.connect.Goals as goal

pub returns-then-no_link : goal.returns-then-no_link
returns-then-no_link c =
    λ ps t. steps_refused t ps c.args.w.now NoSuchLink (connect_no_link (site_of ps c.args.w.now t) c.args.link c.args.time (sym (c.no_link.ensures ps t) ∙ c.if-no_link.true))

pub returns-then-bad_time : goal.returns-then-bad_time
returns-then-bad_time c =
    λ ps t. steps_refused t ps c.args.w.now BadTime (connect_bad_time (site_of ps c.args.w.now t) c.args.link c.args.time (sym (c.no_link.ensures ps t) ∙ c.if-no_link.false) (sym (c.bad_time.ensures ps t) ∙ c.if-bad_time.true))

pub down-requires : goal.down-requires
down-requires c = (search rules, below_four c.args.w.now c.args.link (λ ps t. sym (c.no_link.ensures ps t) ∙ c.if-no_link.false))

pub joined-requires : goal.joined-requires
joined-requires c = (search rules, below_four c.args.w.now c.args.link (λ ps t. sym (c.no_link.ensures ps t) ∙ c.if-no_link.false))

pub returns-then-down : goal.returns-then-down
returns-then-down c =
    λ ps t. rw c.nothing.ensures (steps_done t ps c.args.w.now nothing_of (turns_moves ps c.joined.ensures) (connects (site_of ps c.args.w.now t) c.args.link c.args.time (sym (c.no_link.ensures ps t) ∙ c.if-no_link.false) (sym (c.bad_time.ensures ps t) ∙ c.if-bad_time.false) (sym (c.down.ensures ps t) ∙ c.if-down.true)))

pub returns : goal.returns
returns c =
    λ ps t. steps_refused t ps c.args.w.now WrongPhase (connect_up (site_of ps c.args.w.now t) c.args.link c.args.time (sym (c.no_link.ensures ps t) ∙ c.if-no_link.false) (sym (c.bad_time.ensures ps t) ∙ c.if-bad_time.false) (sym (c.down.ensures ps t) ∙ c.if-down.false))
