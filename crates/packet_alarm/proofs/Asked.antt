-- The parts of an Alarm and of an AggregatedStatusRequest together: the pool's words are ps, the site's ws, its table is t.
-- Assumes nothing.
use Rattle.basis.proofs.Std.{ℕ, ◌≡◌, refl, ap, ◌∙◌, List, []}
use Rattle.answer.specs.declared.Answer.{Answer}
use Rattle.answer.specs.Given.Hint.{none}
use Rattle.link.specs.declared.Role.{Role}
use Rattle.link.specs.declared.Role.TheVariants.{Primary, Secondary}
use Rattle.table_whole.specs.declared.SiteTable.{SiteTable}
use Rattle.read_head.specs.declared.AlarmFields.{AlarmFields}
use Rattle.read_head.specs.declared.GotLabel.{GotLabel}
use Rattle.packet_lookup.specs.declared.SoughtAlarm.{SoughtAlarm}
use Rattle.packet_lookup.specs.Sought.{component_sought, alarm_sought}
use Rattle.send_message.specs.Sending.{alarm_message}
use Rattle.site.specs.Site.{role_of}
use Rattle.site.specs.Call.{never}
use Rattle.store_site.specs.Layout.{site_of}
use Rattle.store_site.proofs.SiteLaws.{table_of_lem}
use Rattle.store_call.specs.Called.{GivesIn}
use Rattle.packet_answer.specs.declared.Question.{Question}
use Rattle.packet_answer.specs.Taken.{acked, replied, by_verdict, unless_busy}
use Rattle.packet_answer.specs.Takes.{TakesIn}
use Rattle.packet_answer.proofs.Ends.{unreplied}
use Rattle.packet_answer.proofs.Choices.{like}
use Rattle.packet_alarm.specs.Orders.{request_by, request_taken, ordered_of, found_taken, alarm_taken, aggregated_of, aggregated_taken}

module _ (t : SiteTable) (ps ws : List ℕ) (q : Question) {qs vs xs ys : List ℕ} {r : Answer} where
  pub from_primary : (k : ℕ)
      → role_of (site_of ps ws t) q.link ≡ Primary
      → TakesIn t q (unless_busy (site_of ps ws t) q (replied (site_of ps ws t) q (alarm_message (site_of ps ws t) q.identity.bytes k))) ps qs ws vs xs ys r
      → TakesIn t q (request_taken (site_of ps ws t) q k) ps qs ws vs xs ys r
  unfolding request_taken
  from_primary k e g = like t ps ws q (λ (x : Role). request_by (site_of ps ws t) q k x) e g

  pub from_secondary : (k : ℕ)
      → role_of (site_of ps ws t) q.link ≡ Secondary
      → GivesIn t q.time never (acked (site_of ps ws t) [] q none).plan ps qs ws vs xs ys r
      → TakesIn t q (request_taken (site_of ps ws t) q k) ps qs ws vs xs ys r
  unfolding request_taken
  from_secondary k e g =
      like t ps ws q (λ (x : Role). request_by (site_of ps ws t) q k x) e
      (unreplied t q (acked (site_of ps ws t) [] q none) refl g)

  pub found : (f : AlarmFields) {x : SoughtAlarm}
      → alarm_sought t f.component f.code ≡ x
      → TakesIn t q (ordered_of (site_of ps ws t) q f.order x) ps qs ws vs xs ys r
      → TakesIn t q (found_taken (site_of ps ws t) q f) ps qs ws vs xs ys r
  unfolding found_taken
  found f e g =
      like t ps ws q (λ (x : SoughtAlarm). ordered_of (site_of ps ws t) q f.order x)
      (ap (λ (u : SiteTable). alarm_sought u f.component f.code) (table_of_lem ps ws t) ∙ e)
      g

  pub alarm_judged : (f : AlarmFields)
      → TakesIn t q (by_verdict f.verdict (site_of ps ws t) q (found_taken (site_of ps ws t) q f)) ps qs ws vs xs ys r
      → TakesIn t q (alarm_taken (site_of ps ws t) q f) ps qs ws vs xs ys r
  unfolding alarm_taken
  alarm_judged f g = g

  pub aggregated_judged : (f : GotLabel)
      → TakesIn t q (by_verdict f.verdict (site_of ps ws t) q (aggregated_of (site_of ps ws t) q (component_sought t f.label))) ps qs ws vs xs ys r
      → TakesIn t q (aggregated_taken (site_of ps ws t) q f) ps qs ws vs xs ys r
  unfolding aggregated_taken
  aggregated_judged f g =
      like t ps ws q (λ (u : SiteTable). by_verdict f.verdict (site_of ps ws t) q (aggregated_of (site_of ps ws t) q (component_sought u f.label)))
      (table_of_lem ps ws t)
      g
