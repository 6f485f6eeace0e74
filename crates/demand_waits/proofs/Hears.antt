-- What a packet on an Up link does to it where it closes nothing: it stays Up, nothing comes back into the pass, no more records go before one, and an answer
-- is awaited for no other record.
-- Assumes nothing.
use Rattle.basis.proofs.Std.{ℕ, ◌≤◌, String, ◌≡◌, refl, Bool, true, false, not, List, [], Option, some, none, eqb, arith, eq-eqb, both, count, picked, both_true, not_both}
use Rattle.json_value.specs.Grammar.{Json}
use Rattle.write_message.specs.Message.{Message}
use Rattle.machine.specs.Words.{Bytes, any, or_else}
use Rattle.machine.specs.State.{Alarm, Awaited, Life, Machine, with_life, life_at, Effect, only}
use Rattle.machine.specs.State.Sent.{no_record}
use Rattle.machine.specs.Json.{read_packet, string_of, is_type, asks_for, is_identity_of}
use Rattle.machine.specs.Life.{is_up, now_taken, with_watchdogs, common, awaited_by, awaiting, answered_to}
use Rattle.machine.specs.Answers.{is_answer, wants_reply, replies_at_once, reason_of, fails_check}
use Rattle.machine.specs.Items.{happens, subscribe, unsubscribe, commands}
use Rattle.machine.specs.Pool.{is_for}
use Rattle.machine.specs.Effects.{closes, own_identity, carried, answer_closes, acknowledges, settle, answers, answered, refuses, agreed, carried_out, replying, receives, effect_of}
use Rattle.machine.specs.State.Act.{packet}
use Rattle.demand_held.proofs.Lists.{maybe_cases, count_keep}
use Rattle.demand_told.proofs.Apart.{settle_lives}
use Rattle.demand_happens.specs.Records.{is_before}
use Rattle.demand_happens.proofs.Round.{up_connected, up_over, acked_up, acked_pass}
use Rattle.demand_carried.specs.Marked.{Awaits}
use Rattle.demand_carried.proofs.Goes.{ack_awaited}
use Rattle.demand_carried.proofs.Marks.{set_got, awaits_old, awaits_left}

module _ (m : Machine) (l : ℕ) (up : is_up (life_at m l) ≡ true) where
  pub record Like (k : Life) : Type 0 where
    pub still_up : is_up k ≡ true
    pub pass : k.pass ≡ (life_at m l).pass
    pub awaited : (n : ℕ) → Awaits n k.awaited → Awaits n (life_at m l).awaited

  pub record Hears (e : Effect) : Type 0 where
    pub life : Like (life_at e.leaves l)
    pub fewer : (n : ℕ) → count (is_before l n) e.leaves.pool.held ≤ count (is_before l n) m.pool.held

  abbrev Open : Effect → Type 0
  Open e = any (eqb l) e.closed ≡ false → Hears e

  pub same : Like (life_at m l)
  same = record { still_up = up; pass = refl; awaited = λ n w. w }

  as_it_was : (e : Effect) → life_at e.leaves l ≡ life_at m l → e.leaves.pool ≡ m.pool → Hears e
  as_it_was e f g = record { life = rw f same; fewer = λ n. rw g (omega arith) }

  sets : (k : Life) (n : Machine) → n.lives ≡ m.lives → Like k → Like (life_at (with_life l k n) l)
  sets k n e like = rw (set_got l k n.lives (rw e (up_connected (life_at m l) up))) like

  hears_closes : (messages : List Message) → Open (closes l messages m)
  unfolding closes
  hears_closes messages e = not_both (rw (eq-eqb l l refl)) e

  hears_happens : (i : ℕ) (o : Option Alarm) → Open (happens m i o)
  unfolding happens
  hears_happens i none e = as_it_was (only m) refl refl
  hears_happens i (some a) e = record { life = same; fewer = λ n. omega arith }

  -- ---- an answer
  module _ (s : Bytes) (is_ack : Bool) (a : Awaited) where
    answered_like : Like (answered_to s (acknowledges is_ack a.message (life_at m l)))
    answered_like =
        record {
          still_up = acked_up is_ack a.message (life_at m l) up;
          pass = acked_pass is_ack a.message (life_at m l);
          awaited = λ n w. awaits_left (λ (x : Awaited). is_identity_of x.identity s) (life_at m l).awaited (rw (ack_awaited is_ack a.message (life_at m l)) at w);
        }

    settled_fewer : (n : ℕ) → count (is_before l n) (settle l a.message m).pool.held ≤ count (is_before l n) m.pool.held
    settled_fewer n =
        maybe_cases (λ (x : Machine). count (is_before l n) x.pool.held ≤ count (is_before l n) m.pool.held) m _ (carried a.message) (λ f. omega arith)
        (λ i f. count_keep (λ h. not (both (is_for l h) (eqb h.sequence i))) (is_before l n) m.pool.held)

    hears_answers : Open (answers l s is_ack m a)
    unfolding answers
    hears_answers =
        picked Open (answer_closes (life_at m l) is_ack a.message) _ _ (λ e. hears_closes [])
        (λ e f. record { life = sets _ (settle l a.message m) (settle_lives l a.message m) answered_like; fewer = settled_fewer })

  module _ (t : ℕ) (id : Bytes) (j : Json) where
    hears_answered : Open (answered l j m)
    unfolding answered
    hears_answered = maybe_cases Open (only m) _ (awaited_by (life_at m l) (string_of "oMId" j)) (λ e f. as_it_was (only m) refl refl) (λ a e. hears_answers _ _ a)

    hears_refuses : (reason : String) → Open (refuses l j m reason)
    unfolding refuses
    hears_refuses reason = picked Open (fails_check reason) _ _ (λ e. hears_closes _) (λ e f. record { life = same; fewer = λ n. omega arith })

    -- ---- any other
    hears_carried_out : Open (carried_out l t j m)
    unfolding carried_out subscribe unsubscribe commands
    hears_carried_out =
        picked Open (is_type "Version" j) _ _ (λ e f. record { life = sets _ m refl version_like; fewer = λ n. omega arith })
        (λ e. picked Open (is_type "Watchdog" j) _ _ (λ e f. record { life = sets _ m refl watchdog_like; fewer = λ n. omega arith })
        (λ e. picked Open (is_type "Alarm" j) _ _ (λ e. hears_happens _ _)
        (λ e. picked Open (is_type "StatusSubscribe" j) _ _ (λ e f. record { life = same; fewer = λ n. omega arith })
        (λ e. picked Open (is_type "StatusUnsubscribe" j) _ _ (λ e f. record { life = same; fewer = λ n. omega arith })
        (λ e. picked Open (asks_for "CommandRequest" j) _ _ (λ e f. record { life = same; fewer = λ n. omega arith }) (λ e f. record { life = same; fewer = λ n. omega arith }))))))
      where
        k : Life
        k = life_at m l

        version_like : Like (agreed (or_else [] (common j)) k)
        version_like =
            record {
              still_up = rw (up_connected k up, (both_true k.versions.acknowledged _ (up_over k up).0).0, (up_over k up).1);
              pass = refl;
              awaited = λ n w. w;
            }

        watchdog_like : Like (with_watchdogs (now_taken k.watchdogs) k)
        watchdog_like =
            record {
              still_up = rw (up_connected k up, (up_over k up).0, (both_true k.watchdogs.acknowledged _ (up_over k up).1).0);
              pass = refl;
              awaited = λ n w. w;
            }

    hears_replying : (e : Effect) → Open e → Open (replying l t id j e)
    unfolding replying
    hears_replying e h =
        picked Open (replies_at_once j) _ _ (λ o c. record { life = (h c).life; fewer = (h c).fewer })
        (λ o. picked Open (wants_reply e.leaves l j) _ _
        (λ w c. record { life = there (h c); fewer = (h c).fewer })
        (λ w c. record { life = (h c).life; fewer = (h c).fewer }))
      where
        replied : Hears e → Like (awaiting id t no_record (life_at e.leaves l))
        replied h =
            record {
              still_up = h.life.still_up;
              pass = h.life.pass;
              awaited = λ n w. h.life.awaited n (awaits_old (life_at e.leaves l).awaited _ refl w);
            }

        there : Hears e → Like (life_at (with_life l (awaiting id t no_record (life_at e.leaves l)) e.leaves) l)
        there h = rw (set_got l (awaiting id t no_record (life_at e.leaves l)) e.leaves.lives (up_connected (life_at e.leaves l) h.life.still_up)) (replied h)

    hears_received : Open (receives l t id m j)
    unfolding receives
    hears_received =
        picked Open (is_answer j) _ _ (λ e. hears_answered)
        (λ e. maybe_cases Open _ _ (reason_of m l j) (λ f. hears_replying (carried_out l t j m) hears_carried_out) (λ reason f. hears_refuses reason))

  pub hears : (t room : ℕ) (random bytes : Bytes) → Open (effect_of m t (packet l random bytes room))
  unfolding effect_of
  hears t room random bytes =
      maybe_cases Open (only m) _ (read_packet bytes) (λ e f. as_it_was (only m) refl refl) (λ j e. hears_received t (own_identity random) j)
