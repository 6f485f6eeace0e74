-- From what one part of the call gives to what the packet comes to: the pool's words are ps, the site's ws, its table is t.
-- Assumes nothing.
use Rattle.basis.proofs.Std.{ℕ, ◌≡◌, refl, Bool, true, false, List, [], pick, picked}
use Rattle.answer.specs.declared.Refusal.{Refusal}
use Rattle.answer.specs.declared.Refusal.TheVariants.{NoSuchLink, ShortOutput, LongPacket, BadTime, WrongPhase, Ignored}
use Rattle.answer.specs.declared.Answer.{Answer}
use Rattle.answer.specs.declared.Answer.TheVariants.{Done, Refused}
use Rattle.identity.specs.declared.Identity.{Identity}
use Rattle.link.specs.Steps.{closes_of}
use Rattle.table_whole.specs.declared.SiteTable.{SiteTable}
use Rattle.read_head.specs.declared.Kind.{Kind}
use Rattle.site.specs.declared.Site.{Site}
use Rattle.site.specs.Site.{link_at}
use Rattle.site.specs.Call.{Plan, never, only, when, step_of, out_after}
use Rattle.store_site.specs.Layout.{site_of, with_last}
use Rattle.store_site.specs.Turns.{Moves}
use Rattle.store_call.specs.Called.{StepsIn, GivesIn}
use Rattle.packet_answer.specs.declared.Question.{Question}
use Rattle.packet_answer.specs.Taken.{Taken, taken_refuses, not_acked, unexpected, not_ready}
use Rattle.packet_answer.specs.Takes.{TakesIn}
use Rattle.packet_answer.specs.Ending.{report}
use Rattle.packet_answer.proofs.Ends.{ends, unreplied}
use Rattle.packet_answer.proofs.Choices.{not_acked_lem, picked_first, picked_second, like}
use Rattle.packet_greet.specs.Answered.{answered_plan}
use Rattle.call_packet.specs.Packet.{expected, unready, kind_taken, expected_taken}

-- no message leaves the output as it was
untouched : (xs : List ℕ) (a : Answer) → xs ≡ out_after xs [] a
untouched xs (Done r) = refl
untouched xs (Refused x) = refl

module _ (t : SiteTable) (q : Question) {ps qs ws vs xs : List ℕ} {r : Answer} where
  -- a call that writes nothing and replies nothing
  pub quiet : (p : Plan)
      → p.messages ≡ []
      → StepsIn t (step_of (site_of ps ws t) q.time never p 0) ps qs ws vs r
      → TakesIn t q (record { plan = p; replies = false }) ps qs ws vs xs xs r
  quiet p m e = record { gives = record { step = rw m e.step; out = rw m (untouched xs r) }; plain = e.plain; kept = e.kept }

  -- a call that does nothing but keep its time
  pub keeps_time : r ≡ Done (report 0 0 0 0)
      → Moves (λ (s : Site). with_last s q.time) ps qs ws vs
      → TakesIn t q (record { plan = only (site_of ps ws t); replies = false }) ps qs ws vs xs xs r
  keeps_time e u = unreplied t q (record { plan = only (site_of ps ws t); replies = false }) refl (ends t q.time (only (site_of ps ws t)) refl refl e (u.site t) u.plain)

pub answers_quietly : (s : Site) (l : ℕ) (id : Identity) (acknowledged : Bool) → (answered_plan s l id acknowledged).messages ≡ []
answers_quietly s l id acknowledged = picked (λ (p : Plan). p.messages ≡ []) (closes_of (link_at s l) id acknowledged) _ _ (λ e. refl) (λ e. refl)

-- "Unexpected", "Not ready", then what the kind comes to
module _ (t : SiteTable) (ps ws : List ℕ) (q : Question) (p : List ℕ) (kind : Kind) where
  abbrev expects : Bool
  expects = expected (link_at (site_of ps ws t) q.link) kind

  abbrev waits : Bool
  waits = unready (link_at (site_of ps ws t) q.link) kind

  abbrev passed : Bool → Taken
  passed u = pick u (not_acked (site_of ps ws t) q not_ready) (kind_taken (site_of ps ws t) q p kind)

  pub not_expected : {qs vs xs ys : List ℕ} {r : Answer}
      → expects ≡ false
      → GivesIn t q.time never (not_acked (site_of ps ws t) q unexpected).plan ps qs ws vs xs ys r
      → TakesIn t q (expected_taken (site_of ps ws t) q p kind) ps qs ws vs xs ys r
  not_expected e g =
      picked_second t ps ws q expects (passed waits) (not_acked (site_of ps ws t) q unexpected) e (not_acked_lem t ps ws q unexpected g)

  pub not_ready_lem : {qs vs xs ys : List ℕ} {r : Answer}
      → expects ≡ true
      → waits ≡ true
      → GivesIn t q.time never (not_acked (site_of ps ws t) q not_ready).plan ps qs ws vs xs ys r
      → TakesIn t q (expected_taken (site_of ps ws t) q p kind) ps qs ws vs xs ys r
  not_ready_lem e u g =
      picked_first t ps ws q expects (passed waits) (not_acked (site_of ps ws t) q unexpected) e
      (like t ps ws q passed u (not_acked_lem t ps ws q not_ready g))

  pub ready : {qs vs xs ys : List ℕ} {r : Answer}
      → expects ≡ true
      → waits ≡ false
      → TakesIn t q (kind_taken (site_of ps ws t) q p kind) ps qs ws vs xs ys r
      → TakesIn t q (expected_taken (site_of ps ws t) q p kind) ps qs ws vs xs ys r
  ready e u g =
      picked_first t ps ws q expects (passed waits) (not_acked (site_of ps ws t) q unexpected) e (like t ps ws q passed u g)

module _ (t : SiteTable) (ps ws : List ℕ) (q : Question) (x : Taken) where
  abbrev pub heeded : Bool → Refusal → Bool
  heeded i = when Ignored i (taken_refuses (site_of ps ws t) q x)

  -- a condition refuses: no word and no byte is changed
  pub is_ignored : (i : Bool) {xs : List ℕ} → i ≡ true → GivesIn t q.time (heeded i) x.plan ps ps ws ws xs xs (Refused Ignored)
  is_ignored i e = record { gives = record { step = rw e refl; out = refl }; plain = λ p. p; kept = λ why e. (refl, refl) }

  pub is_heeded : (i : Bool) {qs vs xs ys : List ℕ} {r : Answer} → i ≡ false → TakesIn t q x ps qs ws vs xs ys r → GivesIn t q.time (heeded i) x.plan ps qs ws vs xs ys r
  is_heeded i e g = record { gives = record { step = rw e g.gives.step; out = g.gives.out }; plain = g.plain; kept = g.kept }

  module _ (a b c d w i : Bool) where
    abbrev pub guarded : Refusal → Bool
    guarded = when NoSuchLink a (when ShortOutput b (when LongPacket c (when BadTime d (when WrongPhase w (heeded i)))))

    pub no_link : {xs : List ℕ} → a ≡ true → GivesIn t q.time guarded x.plan ps ps ws ws xs xs (Refused NoSuchLink)
    no_link e = record { gives = record { step = rw e refl; out = refl }; plain = λ p. p; kept = λ why e. (refl, refl) }

    pub short : {xs : List ℕ} → a ≡ false → b ≡ true → GivesIn t q.time guarded x.plan ps ps ws ws xs xs (Refused ShortOutput)
    short e1 e = record { gives = record { step = rw (e1, e) refl; out = refl }; plain = λ p. p; kept = λ why e. (refl, refl) }

    pub long : {xs : List ℕ} → a ≡ false → b ≡ false → c ≡ true → GivesIn t q.time guarded x.plan ps ps ws ws xs xs (Refused LongPacket)
    long e1 e2 e = record { gives = record { step = rw (e1, e2, e) refl; out = refl }; plain = λ p. p; kept = λ why e. (refl, refl) }

    pub late : {xs : List ℕ} → a ≡ false → b ≡ false → c ≡ false → d ≡ true → GivesIn t q.time guarded x.plan ps ps ws ws xs xs (Refused BadTime)
    late e1 e2 e3 e = record { gives = record { step = rw (e1, e2, e3, e) refl; out = refl }; plain = λ p. p; kept = λ why e. (refl, refl) }

    pub closed : {xs : List ℕ} → a ≡ false → b ≡ false → c ≡ false → d ≡ false → w ≡ true → GivesIn t q.time guarded x.plan ps ps ws ws xs xs (Refused WrongPhase)
    closed e1 e2 e3 e4 e = record { gives = record { step = rw (e1, e2, e3, e4, e) refl; out = refl }; plain = λ p. p; kept = λ why e. (refl, refl) }

    pub through : {qs vs xs ys : List ℕ} {r : Answer}
        → a ≡ false → b ≡ false → c ≡ false → d ≡ false → w ≡ false
        → GivesIn t q.time (heeded i) x.plan ps qs ws vs xs ys r
        → GivesIn t q.time guarded x.plan ps qs ws vs xs ys r
    through e1 e2 e3 e4 e5 g =
        record { gives = record { step = rw (e1, e2, e3, e4, e5) g.gives.step; out = g.gives.out }; plain = g.plain; kept = g.kept }
