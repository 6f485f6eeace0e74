-- An alarm's change in place, and the record of it: the pool's words are ps, the site's ws, its table is t.
-- Assumes nothing.
use Rattle.basis.proofs.Std.{ℕ, ◌≡◌, refl, sym, ap, subst, ◌∙◌, Bool, true, false, List, length}
use Rattle.answer.specs.declared.Refusal.TheVariants.{SequenceSpent}
use Rattle.answer.specs.declared.Report.{Report}
use Rattle.answer.specs.declared.Answer.{Answer}
use Rattle.answer.specs.declared.Answer.TheVariants.{Done, Refused}
use Rattle.answer.specs.Given.Hint.{none}
use Rattle.entry.specs.declared.Entry.{Entry}
use Rattle.alarm.specs.declared.Changed.{Changed}
use Rattle.alarm.specs.declared.Order.{Order}
use Rattle.alarm.specs.Alarm.{order_of}
use Rattle.table_whole.specs.declared.SiteTable.{SiteTable}
use Rattle.output.specs.Put.{Wrote}
use Rattle.write_message.specs.Message.Message.{ack}
use Rattle.write_message.specs.Pieces.{pieces}
use Rattle.site.specs.declared.Site.{Site}
use Rattle.site.specs.Parts.{alarm_at, with_alarm}
use Rattle.site.specs.Call.{never}
use Rattle.store_site.specs.Layout.{site_of, with_last}
use Rattle.store_site.specs.Turns.{Moves}
use Rattle.store_call.specs.Called.{GivesIn}
use Rattle.store_call.specs.Issued.{batch_in, issued_in}
use Rattle.store_call.proofs.IssuedLaws.{issued_end}
use Rattle.packet_answer.specs.declared.Question.{Question}
use Rattle.packet_answer.specs.Ending.{report}
use Rattle.packet_answer.specs.Takes.{TakesIn}
use Rattle.packet_answer.proofs.Ends.{acks, refuses_spent, unreplied}
use Rattle.packet_alarm.specs.Orders.{records_of, changed_to, change_taken}

module _ (t : SiteTable) (ps ws : List ℕ) (q : Question) (k : ℕ) where
  module _ (c : Changed) {n : ℕ} {b : Bool}
      (many : (os : List ℕ) (u : SiteTable) (j : ℕ) → n ≡ length (records_of (site_of os ws u) j c))
      (judged : (os : List ℕ) (u : SiteTable) (es : List Entry) → length es ≡ n → b ≡ (batch_in (site_of os ws u) es).spent) where
    is_judged : b ≡ (batch_in (site_of ps ws t) (records_of (site_of ps ws t) k c)).spent
    is_judged = judged ps t (records_of (site_of ps ws t) k c) (sym (many ps t k))

    -- number 10: nothing is written, and no word changed
    pub refuses : {xs : List ℕ} → b ≡ true → GivesIn t q.time never (changed_to (site_of ps ws t) q k c).plan ps ps ws ws xs xs (Refused SequenceSpent)
    refuses e = refuses_spent t q (with_alarm (site_of ps ws t) k c.alarm) (records_of (site_of ps ws t) k c) none (sym is_judged ∙ e) refl

    pub makes : {qs vs xs ys : List ℕ} {end : ℕ} {x : Report}
        → b ≡ false
        → Wrote xs 0 (pieces (ack q.received.bytes)) ys end
        → Moves (λ (s : Site). with_last (issued_in (with_alarm s k c.alarm) (records_of s k c)) q.time) ps qs ws vs
        → x ≡ report 0 0 end 0
        → GivesIn t q.time never (changed_to (site_of ps ws t) q k c).plan ps qs ws vs xs ys (Done x)
    makes e w u f =
        acks t q (with_alarm (site_of ps ws t) k c.alarm) (records_of (site_of ps ws t) k c) none (sym is_judged ∙ e) w (ap Done f)
        (u.site t ∙ issued_end (with_alarm (site_of ps ws t) k c.alarm) (records_of (site_of ps ws t) k c) q.time)
        u.plain

  module _ (order : Order) {qs vs xs ys : List ℕ} {r : Answer} where
    -- the change that an order makes of the alarm
    pub orders_it : {c : Changed}
        → c ≡ order_of (alarm_at (site_of ps ws t) k) order q.time
        → GivesIn t q.time never (changed_to (site_of ps ws t) q k c).plan ps qs ws vs xs ys r
        → GivesIn t q.time never (change_taken (site_of ps ws t) q k order).plan ps qs ws vs xs ys r
    unfolding change_taken
    orders_it e g = subst (λ (x : Changed). GivesIn t q.time never (changed_to (site_of ps ws t) q k x).plan ps qs ws vs xs ys r) e g

    pub taken_so : GivesIn t q.time never (change_taken (site_of ps ws t) q k order).plan ps qs ws vs xs ys r
        → TakesIn t q (change_taken (site_of ps ws t) q k order) ps qs ws vs xs ys r
    unfolding change_taken
    taken_so g = unreplied t q (changed_to (site_of ps ws t) q k (order_of (alarm_at (site_of ps ws t) k) order q.time)) refl g
