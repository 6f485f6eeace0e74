-- The site after a message went out, and the machine.
-- Assumes nothing.
use Rattle.basis.proofs.Std.{ℕ, ◌<◌, ◌≡◌, refl, sym, ap, subst, ◌∙◌, Bool, true, false, map, Option, some, none, length, pick, picked}
use Rattle.entry.specs.declared.Entry.{Entry}
use Rattle.pool.specs.declared.Sought.{Sought}
use Rattle.pool.specs.declared.Sought.TheVariants.{Found, Nothing}
use Rattle.pool.specs.Pool.{mark_of, newest_alarm}
use Rattle.pool_laws.specs.Leaves.{Held as IsHeld}
use Rattle.link.specs.declared.Link.{Link}
use Rattle.alarm.specs.declared.Alarm.{Alarm as AlarmWord}
use Rattle.alarm.specs.Issued.{issued_of}
use Rattle.site.specs.declared.Site.{Site}
use Rattle.site.specs.Site.{with_link, with_pool, owner_of}
use Rattle.site.specs.Parts.{alarm_at as alarm_in}
use Rattle.send_after.specs.declared.Carried.{Carried}
use Rattle.send_after.specs.declared.Carried.TheVariants.{Held as Carries, NoRecord}
use Rattle.send_after.specs.Outgoing.{purpose_of, marked, same_event, carried_of, carried_at}
use Rattle.machine.specs.State.{Held, Sent, Life, Machine, with_life, with_held, alarm_at}
use Rattle.machine.specs.State.Sent.{no_record, the_record}
use Rattle.machine.specs.State.Content.{of_alarm}
use Rattle.machine.specs.Pool.{marked as now_marked}
use Rattle.machine.specs.Life.{newest, carried_by}
use Rattle.machine.specs.Effects.{mark_sent}
use Rattle.machine.specs.Readings.{entry_for}
use Rattle.refine_parts.specs.Same.{Beside}
use Rattle.refine_parts.specs.Waits.{purpose_for}
use Rattle.refine_parts.specs.Life.{SameLife}
use Rattle.refine_parts.specs.Record.{place_for, found, carried_like}
use Rattle.refine_parts.specs.Claims.{SameAnswers}
use Rattle.refine_parts.proofs.Entries.{entry_sequence}
use Rattle.refine_parts.proofs.Same.{same_acts, same_answers}
use Rattle.refine_parts.proofs.Alarms.{alarm_record_lem}
use Rattle.refine_calls.specs.Abstracts.{Abstracts}
use Rattle.refine_calls.proofs.Parts.{items_moved, with_life_lem}

-- what a message that carries so was sent as
abbrev pub sent_for : Carried → Sent
sent_for (Carries q) = the_record q
sent_for NoRecord = no_record

pub same_purpose : (c : Carried) → purpose_for (sent_for c) ≡ purpose_of c
same_purpose (Carries q) = refl
same_purpose NoRecord = refl

module _ {beside : Beside} (s : Site) (m : Machine) (h : Abstracts beside s m) (l : ℕ) where
  answers : SameAnswers s.site s.pool s.next m
  answers = same_answers m h.pool

  -- a record that is carried is held
  abbrev pub IsCarried : Carried → Type 0
  IsCarried (Carries q) = IsHeld s.pool (owner_of s l) q
  IsCarried NoRecord = Unit {0}

  record_marked : (n : ℕ) → IsHeld s.pool (owner_of s l) n → Abstracts beside (with_pool s (mark_of s.pool (owner_of s l) n)) (with_held (map (now_marked n) m.pool.held) m)
  record_marked n k =
      record {
        items = items_moved h.items;
        last = h.last;
        link_places = h.link_places;
        life_count = h.life_count;
        lives = h.lives;
        pool = (same_acts m.setup.links beside s.site).mark s.pool s.next m h.pool l n k;
      }

  -- the link's next life, and the record that the message carries marked as sent
  pub sent_same : (b : l < m.setup.links) (k : Link) (x : Life) → SameLife k x → (c : Carried) → IsCarried c
      → Abstracts beside (with_pool (with_link s l k) (marked s.pool (owner_of s l) c)) (with_life l x (mark_sent (sent_for c) m))
  sent_same b k x e (Carries q) held =
      with_life_lem (with_pool s (mark_of s.pool (owner_of s l) q)) (with_held (map (now_marked q) m.pool.held) m) (record_marked q held) l b k x e
  sent_same b k x e NoRecord held = with_life_lem s m h l b k x e

  -- ---- what the message of the first pass carries
  module _ (i : ℕ) (b : i < length m.alarms) where
    the_event : issued_of (alarm_in s i) (owner_of s l) i ≡ entry_for (owner_of s l) 0 (of_alarm i (alarm_at m i))
    the_event = ap (λ (a : AlarmWord). issued_of a (owner_of s l) i) (h.items.alarms i b) ∙ alarm_record_lem (alarm_at m i) (owner_of s l) i

    carried_like_lem : (o : Sought) → sent_for (carried_of (entry_for (owner_of s l) 0 (of_alarm i (alarm_at m i))) o) ≡ carried_like (alarm_at m i) o
    carried_like_lem Nothing = refl
    carried_like_lem (Found x) = by (same_event x.entry (entry_for (owner_of s l) 0 (of_alarm i (alarm_at m i)))) x.entry.sequence
      where
        by : (t : Bool) (q : ℕ) → sent_for (pick t (Carries q) NoRecord) ≡ pick t (the_record q) no_record
        by true q = refl
        by false q = refl

    pub carried_same : sent_for (carried_at s l i) ≡ carried_by m l i
    carried_same =
        ap (λ (e : Entry). sent_for (carried_of e (newest_alarm s.pool (owner_of s l) i))) the_event
        ∙ carried_like_lem (newest_alarm s.pool (owner_of s l) i)
        ∙ sym (answers.carried l i)

    held_if : (e : Entry) (o : Option Held) → newest l i none m.pool.held ≡ o → IsCarried (carried_of e (found (owner_of s l) o))
    held_if e none q = tt
    held_if e (some x) q =
        picked IsCarried (same_event (place_for (owner_of s l) x).entry e) (Carries (place_for (owner_of s l) x).entry.sequence) NoRecord
        (λ t. subst (IsHeld s.pool (owner_of s l)) (sym (entry_sequence (owner_of s l) x.sequence x.content)) (answers.alarm_stands l i x q).held)
        (λ t. tt)

    pub carried_held : IsCarried (carried_at s l i)
    carried_held =
        subst (λ (o : Sought). IsCarried (carried_of (issued_of (alarm_in s i) (owner_of s l) i) o)) (sym (answers.newest_alarm_lem l i))
        (held_if (issued_of (alarm_in s i) (owner_of s l) i) (newest l i none m.pool.held) refl)
