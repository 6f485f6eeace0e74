-- Their AggregatedStatusRequest is the machine's.
-- Assumes nothing.
use Rattle.basis.proofs.Std.{ℕ, zero, suc, ◌<◌, String, arith, ◌≡◌, refl, sym, ap, subst, ◌∙◌, Bool, true, false, Option, some, none, ne_eqb, pick, text}
use Rattle.identity.specs.declared.Identity.{Identity}
use Rattle.identity.specs.Read.{SixteenBytes}
use Rattle.table_whole.specs.declared.SiteTable.{SiteTable}
use Rattle.table_whole.specs.Memory.{memory_of}
use Rattle.json_value.specs.Grammar.{Json}
use Rattle.read_head.specs.declared.Verdict.{Verdict}
use Rattle.read_head.specs.declared.Verdict.TheVariants.{Good}
use Rattle.read_head.specs.declared.GotLabel.{GotLabel}
use Rattle.read_head.specs.Small.{aggregated_at}
use Rattle.packet_lookup.specs.Sought.{component_sought}
use Rattle.send_message.specs.Sending.{aggregated_message}
use Rattle.site.specs.declared.Site.{Site}
use Rattle.packet_answer.specs.Taken.{not_acked, replied, unless_busy, unknown_component}
use Rattle.packet_alarm.specs.Orders.{is_zero, aggregated_of, aggregated_taken}
use Rattle.machine.specs.Words.{Bytes, is_number}
use Rattle.machine.specs.State.{Machine, life_at, only}
use Rattle.machine.specs.Life.{is_older}
use Rattle.machine.specs.Json.{read_packet, string_at, string_of, is_type}
use Rattle.machine.specs.Messages.{aggregated_message as aggregated_told}
use Rattle.machine.specs.Answers.{component_asked, wants_reply}
use Rattle.machine.specs.Effects.{carried_out, reply_message}
use Rattle.refine_parts.specs.Same.{Beside}
use Rattle.refine_read.specs.Verdicts.{verdict_in}
use Rattle.refine_read.specs.Reasons.{by_verdict as reason_by, further_reason, busy_if}
use Rattle.refine_read.proofs.Kept as Reads
use Rattle.refine_calls.specs.Abstracts.{Abstracts}
use Rattle.refine_calls.proofs.Messages.{messages}
use Rattle.refine_packet.specs.Lookups.{sought_for}
use Rattle.refine_packet.proofs.Lookups.{same_lookups}
use Rattle.refine_packet.specs.Taken.{SameTaken, question_on}
use Rattle.refine_packet.proofs.Refused.{reasons, by_verdict_lem}
use Rattle.refine_packet.specs.Ordered.{IsUp, SameAggregated}
use Rattle.refine_packet.proofs.Replied.{reply}

module _ (j : Json) (ty : string_at "type" j ≡ some (text "AggregatedStatusRequest")) where
  is_request : is_type "AggregatedStatusRequest" j ≡ true
  is_request = rw ty

  replies : (m : Machine) (l : ℕ) → wants_reply m l j ≡ true
  replies m l = rw ty

  done_so : (l t : ℕ) (m : Machine) → carried_out l t j m ≡ only m
  unfolding carried_out
  done_so l t m = rw ty

  told_so : (m : Machine) (t : ℕ) (id : Bytes) → reply_message m t id j ≡ aggregated_told m.setup.table id m.aggregated m.aggregated_time
  told_so m t id = rw ty

zero_is : (o : Option ℕ) → is_zero (sought_for o) ≡ is_number 0 o
zero_is none = refl
zero_is (some zero) = refl
zero_is (some (suc k)) = ne_eqb (suc k) 0 (λ e. omega (arith, e)) ∙ sym (ne_eqb 0 (suc k) (λ e. omega (arith, e)))

module _ {beside : Beside} (s : Site) (m : Machine) (h : Abstracts beside s m) (l : ℕ) (b : l < m.setup.links) (up : IsUp (life_at m l)) (t : ℕ) (id : Identity) (v : SixteenBytes id.bytes) (p : Bytes) (j : Json) (read : read_packet p ≡ some j) (ty : string_at "type" j ≡ some (text "AggregatedStatusRequest")) where
  abbrev f : GotLabel
  f = aggregated_at p

  sought : f.verdict ≡ Good → component_sought s.table f.label ≡ sought_for (component_asked m j)
  sought g =
      ap (λ (x : SiteTable). component_sought x f.label) h.items.setup.table
      ∙ ap (component_sought (memory_of m.setup.table)) (((Reads.kept).aggregated p j read).component g)
      ∙ (same_lookups h.items.setup.edition m.setup.table h.items.setup.allowed).component (string_of "cId" j)

  by_component : (z : Bool)
      → SameTaken beside s m l t id j
      (pick z (unless_busy s (question_on l t id j) (replied s (question_on l t id j) (aggregated_message s id.bytes))) (not_acked s (question_on l t id j) unknown_component))
      (pick z (busy_if m l true) (some "Unknown component"))
  by_component true =
      reply s m h l b up t id v j (aggregated_message s id.bytes) (done_so j ty l t m) (rw ty) (replies j ty m l)
      ((messages.messages s m h.items id.bytes).aggregated ∙ sym (told_so j ty m t id.bytes))
  by_component false = (reasons s m h l b t id j).unknown_component_lem

  good : f.verdict ≡ Good
      → SameTaken beside s m l t id j (aggregated_of s (question_on l t id j) (component_sought s.table f.label))
      (pick (is_number 0 (component_asked m j)) (busy_if m l true) (some "Unknown component"))
  good g =
      subst (λ (z : Bool). SameTaken beside s m l t id j
      (pick z (unless_busy s (question_on l t id j) (replied s (question_on l t id j) (aggregated_message s id.bytes))) (not_acked s (question_on l t id j) unknown_component))
      (pick (is_number 0 (component_asked m j)) (busy_if m l true) (some "Unknown component")))
      (sym (ap is_zero (sought g) ∙ zero_is (component_asked m j)))
      (by_component (is_number 0 (component_asked m j)))

  taken : SameTaken beside s m l t id j (aggregated_taken s (question_on l t id j) f) (reason_by (verdict_in (is_older (life_at m l)) j) (further_reason m l j))
  unfolding aggregated_taken
  taken =
      subst (λ (x : Verdict). SameTaken beside s m l t id j (aggregated_taken s (question_on l t id j) f) (reason_by x (further_reason m l j)))
      (((Reads.kept).aggregated p j read).verdict (is_older (life_at m l)) (is_request j ty))
      (subst (λ (r : Option String). SameTaken beside s m l t id j (aggregated_taken s (question_on l t id j) f) (reason_by f.verdict r))
      (sym (((Reads.kept).further m l j).aggregated (is_request j ty)))
      (by_verdict_lem s m h l b t id j f.verdict (aggregated_of s (question_on l t id j) (component_sought s.table f.label))
      (pick (is_number 0 (component_asked m j)) (busy_if m l true) (some "Unknown component")) good))

pub same_aggregated : SameAggregated
same_aggregated beside s m h l b up t id v p j read ty = taken s m h l b up t id v p j read ty
