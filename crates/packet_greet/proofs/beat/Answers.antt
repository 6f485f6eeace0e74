-- `packet_greet::beat` meets its contract.
-- Assumes nothing.
use Rattle.basis.proofs.Std.{ℕ, ap, ap₂, ◌∙◌}
use Rattle.answer.specs.declared.Answer.TheVariants.{Done}
use Rattle.link.specs.declared.Role.{Role}
use Rattle.site.specs.declared.Site.{Site}
use Rattle.site.specs.Site.{role_of}
use Rattle.site.specs.Call.{hint_time, hint_bit}
use Rattle.store_site.specs.Layout.{site_of}
use Rattle.packet_answer.specs.Ending.{report}
use Rattle.store_site.proofs.TurnsLaws.{turns_then, turns_moves}
use Rattle.packet_answer.proofs.Ends.{accepts}
use Rattle.packet_greet.specs.Watchdog.{hint_from, beaten as beaten_of}
use Rattle.packet_greet.proofs.beat.Goals as goal

pub returns : goal.returns
returns c =
    let role = c.role-role.ensures in
    let wrote = c.ack-end in
    let done = c.done.ensures in
    λ ps t. accepts t c.args.q (λ (s : Site). beaten_of s c.args.q.link) (hint_from (role_of (site_of ps c.args.w.now t) c.args.q.link) c.args.theirs) wrote.ensures
    (done.0
    ∙ ap₂ (λ (x y : ℕ). Done (report x y wrote.result 0))
    (c.hint-at.ensures ∙ ap (λ (x : Role). hint_time (hint_from x c.args.theirs)) (role ps t))
    (c.hinted-bit.ensures ∙ ap (λ (x : Role). hint_bit (hint_from x c.args.theirs)) (role ps t)))
    (turns_moves ps (turns_then c.beaten.ensures done.1))
