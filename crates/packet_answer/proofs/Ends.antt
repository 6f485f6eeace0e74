-- From what was written and how the words changed to what the call gives, the site's table being t.
-- Assumes nothing.
use Rattle.basis.proofs.Std.{ℕ, ◌≡◌, refl, sym, ap, ap₂, ◌∙◌, true, false, List, [], ◌∷◌, ◌++◌, arith, length}
use Rattle.answer.specs.declared.Refusal.{Refusal}
use Rattle.answer.specs.declared.Refusal.TheVariants.{IdentityAwaited, SequenceSpent}
use Rattle.answer.specs.declared.Report.{Report}
use Rattle.answer.specs.declared.Answer.{Answer}
use Rattle.answer.specs.declared.Answer.TheVariants.{Done, Refused}
use Rattle.answer.specs.Given.{Hint}
use Rattle.names.specs.Names.{name_of}
use Rattle.entry.specs.declared.Entry.{Entry}
use Rattle.awaited.specs.Awaited.{find_of, is_awaited}
use Rattle.pool_laws.specs.Batch.{issued_all}
use Rattle.output.specs.Put.{Out, output, put_all, Wrote}
use Rattle.table_whole.specs.declared.SiteTable.{SiteTable}
use Rattle.write_message.specs.Message.{Message}
use Rattle.write_message.specs.Message.Message.{ack, not_ack}
use Rattle.write_message.specs.Pieces.{pieces}
use Rattle.site.specs.declared.Site.{Site}
use Rattle.site.specs.declared.Step.{Step}
use Rattle.site.specs.Site.{link_at, close_at, mask_of, with_issued}
use Rattle.site.specs.Call.{Command, Plan, never, written_to, report_of, batch_of, hint_time, hint_bit}
use Rattle.store_site.specs.Layout.{site_of, with_last}
use Rattle.store_site.specs.Turns.{Plain, Moves}
use Rattle.store_call.specs.Called.{GivesIn}
use Rattle.packet_answer.specs.declared.Question.{Question}
use Rattle.packet_answer.specs.Taken.{Taken, not_acked, closing, acked, handing, responded}
use Rattle.packet_answer.specs.Ending.{report, handed, replied_at}
use Rattle.packet_answer.specs.Takes.{TakesIn}

++-nil : (bs : List (List ℕ)) → bs ++ [] ≡ bs
++-nil [] = refl
++-nil (b ∷ bs) = ap (λ (x : List (List ℕ)). b ∷ x) (++-nil bs)

-- one message, and an answer with a reply behind it
pub one : (m : Message) {xs ys : List ℕ} {end : ℕ} → Wrote xs 0 (pieces m) ys end → output ys end ≡ written_to xs (m ∷ [])
one m {xs} w = w.all ∙ ap (λ (x : List (List ℕ)). put_all (output xs 0) x) (sym (++-nil (pieces m)))

pub two : (m n : Message) {xs ys : List ℕ} {end : ℕ} → Wrote xs 0 (pieces m ++ pieces n) ys end → output ys end ≡ written_to xs (m ∷ n ∷ [])
two m n {xs} w = w.all ∙ ap (λ (x : List (List ℕ)). put_all (output xs 0) (pieces m ++ x)) (sym (++-nil (pieces n)))

-- a call that is done is not refused
pub not_refused : {A : Type 0} {x : Report} {r : Answer} → r ≡ Done x → (why : Refusal) → r ≡ Refused why → A
not_refused e why f = absurd (let z : ◌≡◌ {A = ℕ} 0 1 = cc in omega arith)

abbrev step_to : Site → Answer → Step
step_to s r = record { site = s; answer = r }

module _ (t : SiteTable) (time : ℕ) where
  -- a call without a condition of its own, done: its messages end at `end`, and the words hold the next site
  pub ends : (p : Plan) {ps qs ws vs xs ys : List ℕ} {end : ℕ} {r : Answer}
      → (batch_of p).spent ≡ false
      → output ys end ≡ written_to xs p.messages
      → r ≡ Done (report_of p end)
      → site_of qs vs t ≡ with_issued p.site (batch_of p) time
      → (Plain ws → Plain vs)
      → GivesIn t time never p ps qs ws vs xs ys r
  ends p {ps} {qs} {ws} {vs} {xs} {ys} h o e site plain =
      record {
        gives = record {
          step = rw (e, h) (ap₂ (λ (s : Site) (x : Out). step_to s (Done (report_of p x.end))) site o);
          out = rw e (ap (λ (x : Out). x.bytes) o);
        };
        plain = plain;
        kept = not_refused e;
      }

  -- number 10: nothing is written, and no word changed
  pub spends : (p : Plan) {ps ws xs : List ℕ} {r : Answer} → (batch_of p).spent ≡ true → r ≡ Refused SequenceSpent → GivesIn t time never p ps ps ws ws xs xs r
  spends p h e = record { gives = record { step = rw (e, h) refl; out = rw e refl }; plain = λ x. x; kept = λ why q. (refl, refl) }

module _ (t : SiteTable) (q : Question) where
  module _ {ps qs ws vs xs ys : List ℕ} {end : ℕ} {r : Answer} where
    -- answered with a reason
    pub not_acks : (reason : ℕ)
        → Wrote xs 0 (pieces (not_ack q.received.bytes (name_of reason))) ys end
        → r ≡ Done (report 0 0 end 0)
        → Moves (λ (s : Site). with_last s q.time) ps qs ws vs
        → GivesIn t q.time never (not_acked (site_of ps ws t) q reason).plan ps qs ws vs xs ys r
    not_acks reason w e u =
        ends t q.time (not_acked (site_of ps ws t) q reason).plan refl (one (not_ack q.received.bytes (name_of reason)) w) e (u.site t) u.plain

    -- answered with a reason, and the link is closed
    pub closes : (reason : ℕ)
        → Wrote xs 0 (pieces (not_ack q.received.bytes (name_of reason))) ys end
        → r ≡ Done (report 0 0 end (mask_of q.link))
        → Moves (λ (s : Site). with_last (close_at s q.link) q.time) ps qs ws vs
        → GivesIn t q.time never (closing (site_of ps ws t) q reason).plan ps qs ws vs xs ys r
    closes reason w e u =
        ends t q.time (closing (site_of ps ws t) q reason).plan refl (one (not_ack q.received.bytes (name_of reason)) w) e (u.site t) u.plain

    -- acknowledged, with the records es; the site `after` them is that of the plan
    pub acks : (after : Site) (es : List Entry) (hint : Hint)
        → (issued_all 8 after.pool after.next es).spent ≡ false
        → Wrote xs 0 (pieces (ack q.received.bytes)) ys end
        → r ≡ Done (report (hint_time hint) (hint_bit hint) end 0)
        → site_of qs vs t ≡ with_issued after (issued_all 8 after.pool after.next es) q.time
        → (Plain ws → Plain vs)
        → GivesIn t q.time never (acked after es q hint).plan ps qs ws vs xs ys r
    acks after es hint h w e = ends t q.time (acked after es q hint).plan h (one (ack q.received.bytes) w) e

    -- acknowledged, and no record is issued: the words are changed by f, then the time is kept
    pub accepts : (f : Site → Site) (hint : Hint)
        → Wrote xs 0 (pieces (ack q.received.bytes)) ys end
        → r ≡ Done (report (hint_time hint) (hint_bit hint) end 0)
        → Moves (λ (s : Site). with_last (f s) q.time) ps qs ws vs
        → GivesIn t q.time never (acked (f (site_of ps ws t)) [] q hint).plan ps qs ws vs xs ys r
    accepts f hint w e u = acks (f (site_of ps ws t)) [] hint refl w e (u.site t) u.plain

  -- number 10 of a call that acknowledges
  pub refuses_spent : (after : Site) (es : List Entry) (hint : Hint) {ps ws xs : List ℕ} {r : Answer}
      → (issued_all 8 after.pool after.next es).spent ≡ true
      → r ≡ Refused SequenceSpent
      → GivesIn t q.time never (acked after es q hint).plan ps ps ws ws xs xs r
  refuses_spent after es hint h e = spends t q.time (acked after es q hint).plan h e

  -- what sends no message of its own has no condition of its own
  pub unreplied : (x : Taken) {ps qs ws vs xs ys : List ℕ} {r : Answer}
      → x.replies ≡ false
      → GivesIn t q.time never x.plan ps qs ws vs xs ys r
      → TakesIn t q x ps qs ws vs xs ys r
  unreplied x e g = record { gives = record { step = rw e g.gives.step; out = g.gives.out }; plain = g.plain; kept = g.kept }

  -- one message, with commands handed over
  pub responds : (m : Message) (commands : List Command) {ps qs ws vs xs ys : List ℕ} {end : ℕ} {r : Answer}
      → Wrote xs 0 (pieces m) ys end
      → r ≡ Done (handed end (length commands))
      → Moves (λ (s : Site). with_last s q.time) ps qs ws vs
      → TakesIn t q (responded (site_of ps ws t) m commands) ps qs ws vs xs ys r
  responds m commands {ps} {qs} {ws} w e u =
      let x = responded (site_of ps ws t) m commands in
      unreplied x refl (ends t q.time x.plan refl (one m w) e (u.site t) u.plain)

  -- replied, with commands handed over: refused where the identity is awaited already, and else the answer and the reply are written
  pub hands_refused : (m : Message) (commands : List Command) {ps ws xs : List ℕ} {r : Answer}
      → is_awaited (find_of (link_at (site_of ps ws t) q.link).awaited q.identity) ≡ true
      → r ≡ Refused IdentityAwaited
      → TakesIn t q (handing (site_of ps ws t) q m commands) ps ps ws ws xs xs r
  hands_refused m commands h e = record { gives = record { step = rw (e, h) refl; out = rw e refl }; plain = λ x. x; kept = λ why q. (refl, refl) }

  pub hands : (m : Message) (commands : List Command) {ps qs ws vs xs ys : List ℕ} {end : ℕ} {r : Answer}
      → is_awaited (find_of (link_at (site_of ps ws t) q.link).awaited q.identity) ≡ false
      → Wrote xs 0 (pieces (ack q.received.bytes) ++ pieces m) ys end
      → r ≡ Done (handed end (length commands))
      → Moves (λ (s : Site). (replied_at s q end).site) ps qs ws vs
      → TakesIn t q (handing (site_of ps ws t) q m commands) ps qs ws vs xs ys r
  hands m commands {ps} {qs} {ws} h w e u =
      let g = ends t q.time (handing (site_of ps ws t) q m commands).plan refl (two (ack q.received.bytes) m w) e (u.site t) u.plain in
      record { gives = record { step = rw h g.gives.step; out = g.gives.out }; plain = g.plain; kept = g.kept }
