-- An alarm that an order changes, or not.
-- Assumes nothing.
use Rattle.basis.proofs.Std.{ℕ, ◌<◌, ◌≡◌, refl, Bool, true, false, [], ◌∷◌, Option, some, none, pick}
use Rattle.answer.specs.Given.Hint.{none as no_hint}
use Rattle.identity.specs.declared.Identity.{Identity}
use Rattle.alarm.specs.declared.Order.{Order as Change}
use Rattle.alarm.specs.Alarm.{order_of}
use Rattle.json_value.specs.Grammar.{Json}
use Rattle.site.specs.declared.Site.{Site}
use Rattle.site.specs.Parts.{alarm_at as alarm_in, with_alarm as with_alarm_in}
use Rattle.packet_alarm.specs.Orders.{records_of, change_taken}
use Rattle.machine.specs.Words.{maybe}
use Rattle.machine.specs.State.{Alarm, issued_for, Machine, with_alarm, effect, only}
use Rattle.machine.specs.State.Content.{of_alarm}
use Rattle.machine.specs.Answers.{wants_reply, replies_at_once}
use Rattle.machine.specs.Items.{is_silent, told, happens}
use Rattle.machine.specs.Effects.{carried_out}
use Rattle.demand_held.proofs.Lists.{Each}
use Rattle.demand_held.proofs.Lists.Each.{no_more, one_more}
use Rattle.demand_held.proofs.Issue.{For}
use Rattle.refine_parts.specs.Same.{Beside}
use Rattle.refine_parts.specs.Items.{SameEffect}
use Rattle.refine_calls.specs.Abstracts.{Abstracts}
use Rattle.refine_calls.specs.Calls.SameCommands.{no_command}
use Rattle.refine_packet.specs.Taken.{SameTaken, question_on}
use Rattle.refine_packet.proofs.Acked.{only_acked}

module _ {beside : Beside} (s : Site) (m : Machine) (h : Abstracts beside s m) where
  -- the primary is configured
  for_primary : (k : ℕ) (a : Alarm) → Each (For m.setup.links) (told m k a)
  for_primary k a = by (is_silent a.event a.suspended) m.setup.primary h.items.setup.its_link
    where
      by : (silent : Bool) (o : Option ℕ) → ((p : ℕ) → o ≡ some p → p < m.setup.links)
          → Each (For m.setup.links) (pick silent [] (maybe [] (λ (p : ℕ). issued_for p (of_alarm k a) ∷ []) o))
      by true o f = no_more
      by false none f = no_more
      by false (some p) f = one_more (f p refl) no_more

  module _ (l t : ℕ) (id : Identity) (j : Json) (k : ℕ) (order : Change) where
    pub changed : (o : Option Alarm) → carried_out l t j m ≡ happens m k o → replies_at_once j ≡ false → wants_reply m l j ≡ false
        → SameEffect (change_taken s (question_on l t id j) k order).plan (happens m k o) → SameTaken beside s m l t id j (change_taken s (question_on l t id j) k order) none
    unfolding change_taken happens
    changed none c r w e =
        only_acked s m l t id j (with_alarm_in s k (order_of (alarm_in s k) order t).alarm) (records_of s k (order_of (alarm_in s k) order t)) no_hint (only m) c r w w refl refl
        (record {
          leaves = record { items = e.items; last = h.last; link_places = h.link_places; life_count = h.life_count; lives = h.lives; pool = h.pool };
          issued = record { issued = e.records.issued; told = e.records.told };
          for_links = no_more;
          messages = refl;
          closed = refl;
          hint = refl;
          commands = no_command;
        })
    changed (some a) c r w e =
        only_acked s m l t id j (with_alarm_in s k (order_of (alarm_in s k) order t).alarm) (records_of s k (order_of (alarm_in s k) order t)) no_hint
        (effect (with_alarm k a m) (told m k a) [] [] none) c r w w refl refl
        (record {
          leaves = record { items = e.items; last = h.last; link_places = h.link_places; life_count = h.life_count; lives = h.lives; pool = h.pool };
          issued = record { issued = e.records.issued; told = e.records.told };
          for_links = for_primary k a;
          messages = refl;
          closed = refl;
          hint = refl;
          commands = no_command;
        })
