-- What pump lays down is the machine's, whatever is due.
-- Assumes nothing.
use Rattle.basis.proofs.Std.{ℕ, ◌<◌, ◌≡◌, refl, sym, ap, ap₂, subst, ◌∙◌, true, [], ◌∷◌, some, none, arith, length}
use Rattle.identity.specs.declared.Identity.{Identity}
use Rattle.awaited.specs.declared.Purpose.{Purpose}
use Rattle.pool.specs.declared.Sought.{Sought}
use Rattle.pool.specs.declared.Sought.TheVariants.{Found}
use Rattle.link.specs.Steps.{message_out_of, alarm_passed_of}
use Rattle.write_message.specs.Message.{Message}
use Rattle.write_message.specs.Message.Message.{version}
use Rattle.site.specs.declared.Site.{Site}
use Rattle.site.specs.Site.{link_at, owner_of}
use Rattle.send_after.specs.declared.Carried.{Carried}
use Rattle.send_after.specs.declared.Carried.TheVariants.{Held as Carries}
use Rattle.send_after.specs.Outgoing.{purpose_of, entry_sent, alarm_sent_with, carried_at}
use Rattle.call_pump.specs.Pump.{sends, entry_plan, plan_for}
use Rattle.machine.specs.State.{Held, Sent, Machine, effect, life_at, with_life}
use Rattle.machine.specs.State.Sent.{the_record}
use Rattle.machine.specs.Life.{is_up, awaiting, Due, due, carried_by}
use Rattle.machine.specs.Life.Due.{the_version, the_watchdog, the_aggregated, the_alarm, the_held}
use Rattle.machine.specs.Effects.{passed, mark_sent, sends as sending}
use Rattle.demand_held.proofs.Lists.Each.{no_more}
use Rattle.refine_parts.specs.Same.{Beside}
use Rattle.refine_parts.specs.Life.{SameLife}
use Rattle.refine_parts.specs.LifeActs.{Sendable, SameSending}
use Rattle.refine_parts.specs.Questions.{kind_of}
use Rattle.refine_parts.proofs.LifeActs.{acts}
use Rattle.refine_parts.specs.Record.{place_for, found}
use Rattle.refine_parts.specs.Claims.{Stands}
use Rattle.refine_parts.proofs.Entries.{entry_sequence}
use Rattle.refine_parts.proofs.Same.{same_answers}
use Rattle.refine_calls.specs.Abstracts.{Abstracts}
use Rattle.refine_calls.specs.Calls.{SamePlan}
use Rattle.refine_calls.specs.Calls.SameCommands.{no_command}
use Rattle.refine_calls.proofs.Parts.{with_life_lem}
use Rattle.refine_calls.specs.Messages.{SameTexts, SameMessages}
use Rattle.refine_calls.proofs.Messages.{messages}
use Rattle.refine_calls.proofs.Due.{Alarms, why}
use Rattle.refine_calls.proofs.After.{sent_for, same_purpose, sent_same, carried_same, carried_held}

-- one message, and nothing else but the site afterwards
sent_plan : {beside : Beside} (s : Site) (m : Machine) (x y : Message) → Abstracts beside s m → x ≡ y → SamePlan beside (sends s x) (effect m [] (y ∷ []) [] none)
sent_plan s m x y h e =
    record {
      leaves = h;
      issued = record { issued = refl; told = no_more };
      for_links = no_more;
      messages = ap (λ (z : Message). z ∷ []) e;
      closed = refl;
      hint = refl;
      commands = no_command;
    }

module _ {beside : Beside} (s : Site) (m : Machine) (h : Abstracts beside s m) (l : ℕ) (b : l < m.setup.links) (t : ℕ) (id : Identity) (ok : Sendable (life_at m l) id) where
  lives : SameSending (link_at s l) (life_at m l) id t
  lives = (acts.acts (link_at s l) (life_at m l) (h.lives l)).sends id t ok

  texts : SameTexts s m.setup
  texts = messages.texts s m.setup h.items.setup

  told : SameMessages s m id.bytes
  told = messages.messages s m h.items id.bytes

  abbrev Same : Due → Type 0
  Same d = due m l t ≡ some d → SamePlan beside (plan_for (kind_of (some d)) s l t id) (sending l t id.bytes m d)

  version_same : Same the_version
  unfolding sending
  version_same e =
      sent_plan _ _ _ _
      (with_life_lem s m h l b _ _ (lives.version (why m l t the_version e).0 (why m l t the_version e).1))
      (ap₂ (version id.bytes) texts.site texts.sxl)

  watchdog_same : Same the_watchdog
  unfolding sending
  watchdog_same e = sent_plan _ _ _ _ (with_life_lem s m h l b _ _ (lives.watchdog (why m l t the_watchdog e))) refl

  aggregated_same : Same the_aggregated
  unfolding sending
  aggregated_same e =
      sent_plan _ _ _ _
      (with_life_lem s m h l b _ _ (lives.aggregated (why m l t the_aggregated e).0 (why m l t the_aggregated e).1))
      told.aggregated

  -- ---- an alarm of the first pass
  module _ (i : ℕ) (w : Alarms m l i) where
    in_table : i < length m.alarms
    in_table = omega (arith, w.behind, w.number, w.few)

    few_passed : (life_at m l).pass < 4294967296
    few_passed = omega (arith, w.few, h.items.alarm_count, h.items.setup.allowed.most_alarms)

    alarm_life : (c : Carried) → SameLife (alarm_passed_of (message_out_of (link_at s l) id t (purpose_of c))) (awaiting id.bytes t (sent_for c) (passed (life_at m l)))
    alarm_life c =
        subst (λ (p : Purpose). SameLife (alarm_passed_of (message_out_of (link_at s l) id t p)) (awaiting id.bytes t (sent_for c) (passed (life_at m l))))
        (same_purpose c)
        (lives.alarm (sent_for c) w.up w.behind few_passed)

    alarm_after : Abstracts beside (alarm_sent_with (carried_at s l i) s l t id) (with_life l (awaiting id.bytes t (carried_by m l i) (passed (life_at m l))) (mark_sent (carried_by m l i) m))
    alarm_after =
        subst (λ (z : Sent). Abstracts beside (alarm_sent_with (carried_at s l i) s l t id) (with_life l (awaiting id.bytes t z (passed (life_at m l))) (mark_sent z m)))
        (carried_same s m h l i in_table)
        (sent_same s m h l b _ _ (alarm_life (carried_at s l i)) (carried_at s l i) (carried_held s m h l i in_table))

  alarm_same : (i : ℕ) → Same (the_alarm i)
  unfolding sending
  alarm_same i e =
      sent_plan _ _ _ _ (alarm_after i (why m l t (the_alarm i) e)) (told.alarm i (in_table i (why m l t (the_alarm i) e)))

  -- ---- a held record
  module _ (x : Held) where
    entry_same : is_up (life_at m l) ≡ true → Stands s.pool (owner_of s l) l x → SamePlan beside (entry_plan (Found (place_for (owner_of s l) x)) s l t id) (sending l t id.bytes m (the_held x))
    unfolding sending
    entry_same up w =
        sent_plan _ _ _ _
        (subst (λ (n : ℕ). Abstracts beside (entry_sent s l t id n) (with_life l (awaiting id.bytes t (the_record x.sequence) (life_at m l)) (mark_sent (the_record x.sequence) m)))
        (sym (entry_sequence (owner_of s l) x.sequence x.content))
        (sent_same s m h l b _ _ (lives.other (the_record x.sequence) up) (Carries x.sequence) w.held))
        (told.held (owner_of s l) x.sequence x.content w.told)

  held_same : (x : Held) → Same (the_held x)
  held_same x e =
      subst (λ (o : Sought). SamePlan beside (entry_plan o s l t id) (sending l t id.bytes m (the_held x)))
      (sym ((same_answers m h.pool).oldest_unsent_lem l ∙ ap (found (owner_of s l)) (why m l t (the_held x) e).1))
      (entry_same x (why m l t (the_held x) e).0 ((same_answers m h.pool).unsent_stands l x (why m l t (the_held x) e).1))

  pub plan_same : (d : Due) → Same d
  plan_same the_version = version_same
  plan_same the_watchdog = watchdog_same
  plan_same the_aggregated = aggregated_same
  plan_same (the_alarm i) = alarm_same i
  plan_same (the_held x) = held_same x
