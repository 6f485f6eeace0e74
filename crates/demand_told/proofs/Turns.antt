-- What a link's life becomes in a call of it, each turn with its event.
-- Assumes nothing.
use Rattle.basis.proofs.Std.{ℕ, ◌≡◌, refl, sym, ◌∙◌, subst, true, false, List, [], ◌∷◌, some, none, picked}
use Rattle.basis.specs.Lists.Among.{first}
use Rattle.json_value.specs.Grammar.{Json}
use Rattle.write_message.specs.Message.Message.{version, watchdog}
use Rattle.machine.specs.Words.{Bytes, maybe}
use Rattle.machine.specs.State.{Sent, Awaited, Life, Machine, alarm_at}
use Rattle.machine.specs.State.Sent.{own_version, own_watchdog, no_record, the_record}
use Rattle.machine.specs.Json.{string_of, element_is, is_type, is_identity_of}
use Rattle.machine.specs.Life.{now_taken, with_watchdogs, with_awaited, awaiting, answered_to, alarm_in, same_alarm, newest, carries, carried_by, Due}
use Rattle.machine.specs.Life.Due.{the_version, the_watchdog, the_aggregated, the_alarm, the_held}
use Rattle.machine.specs.Effects.{due_message, sent_as, after_sending, acknowledges, agreed}
use Rattle.machine.specs.Run.{Past}
use Rattle.demand_held.proofs.Lists.{maybe_cases, Each, each_append, each_but_first}
use Rattle.demand_held.proofs.Lists.Each.{no_more, one_more}
use Rattle.demand_told.specs.Demand.{messages_of, link_of}
use Rattle.demand_told.specs.Life.{going_on}
use Rattle.demand_told.specs.Greeted.{Within, Came, Answered, IsGoodVersion, IsTheirWatchdog}
use Rattle.demand_told.specs.Greeted.IsVersion.{is_version}
use Rattle.demand_told.specs.Greeted.IsWatchdog.{is_watchdog}
use Rattle.demand_told.specs.Greeted.Wrote.{wrote}
use Rattle.demand_told.specs.Greeted.Acknowledged.{acknowledged}
use Rattle.demand_told.proofs.Kept.{Backed, BackedBy, Kept, now, goes_on_lem}

-- a life with the same flags and the same awaited
pub alike : {u : Machine} {l : ℕ} {k : Life} {life : List Past} (x : Life) → Kept u l k life → x.connected ≡ k.connected → x.version ≡ k.version
    → x.versions.acknowledged ≡ k.versions.acknowledged → x.versions.taken ≡ k.versions.taken
    → x.watchdogs.acknowledged ≡ k.watchdogs.acknowledged → x.watchdogs.taken ≡ k.watchdogs.taken → x.awaited ≡ k.awaited → Kept u l x life
alike {u} {l} {k} {life} x kept c v va vt wa wt ids =
    record {
      there = λ e. kept.there (sym c ∙ e);
      our_version = λ e. kept.our_version (sym va ∙ e);
      their_version = λ e. subst (λ (w : List ℕ). Within (Answered l (IsGoodVersion u w)) life) (sym v) (kept.their_version (sym vt ∙ e));
      our_watchdog = λ e. kept.our_watchdog (sym wa ∙ e);
      their_watchdog = λ e. kept.their_watchdog (sym wt ∙ e);
      awaited = rw ids kept.awaited;
    }

module _ (u : Machine) (l : ℕ) (k : Life) (life : List Past) (kept : Kept u l k life) (p : Past) (lives : life ≡ [] → ⊥) where
  abbrev Goal : Life → Type 0
  Goal x = Kept u l x (going_on p life)

  carried_backed : (m : Machine) (i : ℕ) (id : Bytes) → Backed l (going_on p life) id (carried_by m l i)
  unfolding carried_by
  carried_backed m i id =
      maybe_cases (Backed l (going_on p life) id) no_record (carries (alarm_at m i) i) (newest l i none m.pool.held) (λ e. tt)
      (λ h e. picked (Backed l (going_on p life) id) (maybe false (same_alarm (alarm_at m i)) (alarm_in i h.content)) (the_record h.sequence) no_record (λ f. tt) (λ f. tt))

  same_life : Goal k
  same_life = goes_on_lem p kept

  -- their MessageAck of one of ours, or any answer to another
  pub acked : (id : Bytes) (j : Json) → Came l j p → element_is "mType" "rSMsg" j ≡ true → is_identity_of id (string_of "oMId" j) ≡ true
      → (message : Sent) → Backed l life id message → Goal (acknowledges (is_type "MessageAck" j) message k)
  acked id j c marked own own_version b =
      picked Goal (is_type "MessageAck" j) _ k
      (λ e. record {
        there = same_life.there;
        our_version = λ f. now p life lives (acknowledged b c marked e own);
        their_version = same_life.their_version;
        our_watchdog = same_life.our_watchdog;
        their_watchdog = same_life.their_watchdog;
        awaited = same_life.awaited;
      })
      (λ e. same_life)
  acked id j c marked own own_watchdog b =
      picked Goal (is_type "MessageAck" j) _ k
      (λ e. record {
        there = same_life.there;
        our_version = same_life.our_version;
        their_version = same_life.their_version;
        our_watchdog = λ f. now p life lives (acknowledged b c marked e own);
        their_watchdog = same_life.their_watchdog;
        awaited = same_life.awaited;
      })
      (λ e. same_life)
  acked id j c marked own no_record b = same_life
  acked id j c marked own (the_record n) b = same_life

  -- theirs is accepted, or taken
  pub accepted : (chosen : List ℕ) → Answered l (IsGoodVersion u chosen) p life → Goal (agreed chosen k)
  accepted chosen a =
      record {
        there = same_life.there;
        our_version = same_life.our_version;
        their_version = λ f. now p life lives a;
        our_watchdog = same_life.our_watchdog;
        their_watchdog = same_life.their_watchdog;
        awaited = same_life.awaited;
      }

  pub taken : Answered l IsTheirWatchdog p life → Goal (with_watchdogs (now_taken k.watchdogs) k)
  taken a =
      record {
        there = same_life.there;
        our_version = same_life.our_version;
        their_version = same_life.their_version;
        our_watchdog = same_life.our_watchdog;
        their_watchdog = λ f. now p life lives a;
        awaited = same_life.awaited;
      }

  -- ours goes out
  pub sent : (t : ℕ) (d : Due) → Goal (after_sending t d k)
  sent t the_version = alike (after_sending t the_version k) same_life refl refl refl refl refl refl refl
  sent t the_watchdog = alike (after_sending t the_watchdog k) same_life refl refl refl refl refl refl refl
  sent t the_aggregated = alike (after_sending t the_aggregated k) same_life refl refl refl refl refl refl refl
  sent t (the_alarm i) = alike (after_sending t (the_alarm i) k) same_life refl refl refl refl refl refl refl
  sent t (the_held h) = same_life

  pub waits : (id : Bytes) (m : Machine) (t : ℕ) (d : Due) → link_of p.call.act ≡ some l → messages_of p.gave ≡ due_message m t id d ∷ []
      → Backed l (going_on p life) id (sent_as m l d)
  waits id m t the_version f e = now p life lives (wrote {w = version id m.setup.table.site m.setup.table.sxl} f (rw e first) is_version)
  waits id m t the_watchdog f e = now p life lives (wrote {w = watchdog id t} f (rw e first) is_watchdog)
  waits id m t the_aggregated f e = tt
  waits id m t (the_alarm i) f e = carried_backed m i id
  waits id m t (the_held h) f e = tt

-- one more is awaited, or one fewer
module _ {u : Machine} {l : ℕ} {k : Life} {life : List Past} (kept : Kept u l k life) where
  with_ids : (ids : List Awaited) → Each (BackedBy l life) ids → Kept u l (with_awaited ids k) life
  with_ids ids each =
      record {
        there = kept.there;
        our_version = kept.our_version;
        their_version = kept.their_version;
        our_watchdog = kept.our_watchdog;
        their_watchdog = kept.their_watchdog;
        awaited = each;
      }

  pub awaits : (id : Bytes) (t : ℕ) (message : Sent) → Backed l life id message → Kept u l (awaiting id t message k) life
  awaits id t message b = with_ids (awaiting id t message k).awaited (each_append kept.awaited (one_more b no_more))

  pub unawaits : (s : Bytes) → Kept u l (answered_to s k) life
  unawaits s = with_ids (answered_to s k).awaited (each_but_first (λ a. is_identity_of a.identity s) kept.awaited)
