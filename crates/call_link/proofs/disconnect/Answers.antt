-- `call_link::disconnect` meets its contract.
-- Assumes nothing.
use Rattle.basis.proofs.Std.{sym, ◌∙◌, arith, rules}
use Rattle.store_site.specs.Layout.{site_of}
use Rattle.store_call.proofs.CallLaws.{below_four, steps_refused, steps_done}
use Rattle.answer.specs.declared.Refusal.TheVariants.{NoSuchLink, BadTime, WrongPhase}
use Rattle.site.specs.Site.{mask_of}
use Rattle.call_link.proofs.Laws.{disconnect_no_link, disconnect_bad_time, disconnect_down, disconnects}
use Rattle.call_link.proofs.disconnect.Goals as goal

pub returns-then-no_link : goal.returns-then-no_link
returns-then-no_link c =
    λ t. steps_refused t c.args.p.now c.args.w.now NoSuchLink (disconnect_no_link (site_of c.args.p.now c.args.w.now t) c.args.link c.args.time (sym (c.no_link.ensures c.args.p.now t) ∙ c.if-no_link.true))

pub returns-then-bad_time : goal.returns-then-bad_time
returns-then-bad_time c =
    λ t. steps_refused t c.args.p.now c.args.w.now BadTime (disconnect_bad_time (site_of c.args.p.now c.args.w.now t) c.args.link c.args.time (sym (c.no_link.ensures c.args.p.now t) ∙ c.if-no_link.false) (sym (c.bad_time.ensures c.args.p.now t) ∙ c.if-bad_time.true))

pub down-requires : goal.down-requires
down-requires c = (search rules, below_four c.args.w.now c.args.link (λ ps t. sym (c.no_link.ensures ps t) ∙ c.if-no_link.false))

pub returns-then-down : goal.returns-then-down
returns-then-down c =
    λ t. steps_refused t c.args.p.now c.args.w.now WrongPhase (disconnect_down (site_of c.args.p.now c.args.w.now t) c.args.link c.args.time (sym (c.no_link.ensures c.args.p.now t) ∙ c.if-no_link.false) (sym (c.bad_time.ensures c.args.p.now t) ∙ c.if-bad_time.false) (sym (c.down.ensures c.args.p.now t) ∙ c.if-down.true))

pub overflow_cast-l : goal.overflow_cast-l
overflow_cast-l c = omega (arith, below_four c.args.w.now c.args.link (λ ps t. sym (c.no_link.ensures ps t) ∙ c.if-no_link.false))

pub left-requires : goal.left-requires
left-requires c = (search rules, (search rules, below_four c.args.w.now c.args.link (λ ps t. sym (c.no_link.ensures ps t) ∙ c.if-no_link.false)))

pub returns : goal.returns
returns c =
    λ t. rw c.bit_of.ensures (steps_done t c.args.p.now c.args.w.now (record { hint = 0; written = 0; closed = mask_of c.args.link; hinted = 0; commands = 0 }) c.left.ensures (disconnects (site_of c.args.p.now c.args.w.now t) c.args.link c.args.time (sym (c.no_link.ensures c.args.p.now t) ∙ c.if-no_link.false) (sym (c.bad_time.ensures c.args.p.now t) ∙ c.if-bad_time.false) (sym (c.down.ensures c.args.p.now t) ∙ c.if-down.false)))
