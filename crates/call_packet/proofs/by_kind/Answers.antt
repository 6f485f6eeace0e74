-- `call_packet::by_kind` meets its contract.
-- Assumes nothing.
use Rattle.basis.proofs.Std.{true, false}
use Rattle.read_head.specs.declared.Kind.{Kind}
use Rattle.read_head.specs.declared.Kind.TheVariants.{Version, Watchdog, StatusSubscribe, StatusUnsubscribe}
use Rattle.read_head.specs.Small.{watchdog_at}
use Rattle.read_lists.specs.Version.{version_at}
use Rattle.read_lists.specs.declared.Asking.TheVariants.{Plain}
use Rattle.read_lists.specs.Status.{status_at}
use Rattle.store_site.specs.Layout.{site_of}
use Rattle.store_table.specs.Layout.{table_of}
use Rattle.packet_answer.specs.Taken.{unexpected}
use Rattle.packet_answer.proofs.Ends.{unreplied}
use Rattle.packet_answer.proofs.Choices.{like, not_acked_lem}
use Rattle.packet_greet.proofs.Kept.{kept as greet_kept}
use Rattle.packet_subscribe.specs.Subscribing.{asking_on}
use Rattle.packet_subscribe.proofs.Kept.{kept as subscribing_kept}
use Rattle.site.specs.Site.{link_at}
use Rattle.call_packet.specs.Packet.{kind_taken}
use Rattle.call_packet.proofs.by_kind.Goals as goal

pub returns-in-Version : goal.returns-in-Version
returns-in-Version c =
    let t = table_of c.args.t.now in
    let s = site_of c.args.p.now c.args.w.now t in
    like t c.args.p.now c.args.w.now c.args.q (λ (x : Kind). kind_taken s c.args.q c.args.packet.now x) c.in-Version.is
    (unreplied t c.args.q (kind_taken s c.args.q c.args.packet.now Version) (greet_kept.version_only_answered s c.args.q (version_at c.args.packet.now)) c.version.ensures)

pub returns-in-Watchdog : goal.returns-in-Watchdog
returns-in-Watchdog c =
    let t = table_of c.args.t.now in
    let s = site_of c.args.p.now c.args.w.now t in
    like t c.args.p.now c.args.w.now c.args.q (λ (x : Kind). kind_taken s c.args.q c.args.packet.now x) c.in-Watchdog.is
    (unreplied t c.args.q (kind_taken s c.args.q c.args.packet.now Watchdog) (greet_kept.watchdog_only_answered s c.args.q (watchdog_at c.args.packet.now)) (c.watchdog.ensures c.args.p.now t))

pub returns-in-Alarm : goal.returns-in-Alarm
returns-in-Alarm c =
    let t = table_of c.args.t.now in
    let s = site_of c.args.p.now c.args.w.now t in
    like t c.args.p.now c.args.w.now c.args.q (λ (x : Kind). kind_taken s c.args.q c.args.packet.now x) c.in-Alarm.is
    c.alarm.ensures

pub returns-in-AggregatedStatusRequest : goal.returns-in-AggregatedStatusRequest
returns-in-AggregatedStatusRequest c =
    let t = table_of c.args.t.now in
    let s = site_of c.args.p.now c.args.w.now t in
    like t c.args.p.now c.args.w.now c.args.q (λ (x : Kind). kind_taken s c.args.q c.args.packet.now x) c.in-AggregatedStatusRequest.is
    (c.aggregated.ensures c.args.p.now)

pub returns-in-StatusRequest : goal.returns-in-StatusRequest
returns-in-StatusRequest c =
    let t = table_of c.args.t.now in
    let s = site_of c.args.p.now c.args.w.now t in
    like t c.args.p.now c.args.w.now c.args.q (λ (x : Kind). kind_taken s c.args.q c.args.packet.now x) c.in-StatusRequest.is
    (c.status_request.ensures c.args.p.now)

pub returns-in-StatusSubscribe : goal.returns-in-StatusSubscribe
returns-in-StatusSubscribe c =
    let t = table_of c.args.t.now in
    let s = site_of c.args.p.now c.args.w.now t in
    like t c.args.p.now c.args.w.now c.args.q (λ (x : Kind). kind_taken s c.args.q c.args.packet.now x) c.in-StatusSubscribe.is
    (unreplied t c.args.q (kind_taken s c.args.q c.args.packet.now StatusSubscribe) (subscribing_kept.only_answered true s c.args.q (status_at (asking_on (link_at s c.args.q.link)) c.args.packet.now)) c.subscribe.ensures)

pub returns-in-StatusUnsubscribe : goal.returns-in-StatusUnsubscribe
returns-in-StatusUnsubscribe c =
    let t = table_of c.args.t.now in
    let s = site_of c.args.p.now c.args.w.now t in
    like t c.args.p.now c.args.w.now c.args.q (λ (x : Kind). kind_taken s c.args.q c.args.packet.now x) c.in-StatusUnsubscribe.is
    (unreplied t c.args.q (kind_taken s c.args.q c.args.packet.now StatusUnsubscribe) (subscribing_kept.only_answered false s c.args.q (status_at Plain c.args.packet.now)) c.unsubscribe.ensures)

pub returns-in-CommandRequest : goal.returns-in-CommandRequest
returns-in-CommandRequest c =
    let t = table_of c.args.t.now in
    let s = site_of c.args.p.now c.args.w.now t in
    like t c.args.p.now c.args.w.now c.args.q (λ (x : Kind). kind_taken s c.args.q c.args.packet.now x) c.in-CommandRequest.is
    (c.command.ensures c.args.p.now)

pub returns-in-Unexpected : goal.returns-in-Unexpected
returns-in-Unexpected c =
    let t = table_of c.args.t.now in
    let s = site_of c.args.p.now c.args.w.now t in
    like t c.args.p.now c.args.w.now c.args.q (λ (x : Kind). kind_taken s c.args.q c.args.packet.now x) c.in-Unexpected.is
    (not_acked_lem t c.args.p.now c.args.w.now c.args.q unexpected (c.not_ack.ensures c.args.p.now t))
