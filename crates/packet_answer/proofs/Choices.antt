-- From what one part of a call gives to what the packet comes to: the pool's words are ps, the site's ws, its table is t.
-- Assumes nothing.
use Rattle.basis.proofs.Std.{ℕ, ◌≡◌, refl, sym, subst, Bool, true, false, List, [], ◌++◌, length, pick}
use Rattle.answer.specs.declared.Refusal.TheVariants.{IdentityAwaited}
use Rattle.answer.specs.declared.Answer.{Answer}
use Rattle.answer.specs.declared.Answer.TheVariants.{Done, Refused}
use Rattle.awaited.specs.Awaited.{find_of, is_awaited}
use Rattle.link.specs.Steps.{full_of}
use Rattle.output.specs.Put.{Wrote}
use Rattle.table_whole.specs.declared.SiteTable.{SiteTable}
use Rattle.write_message.specs.declared.Told.{Told}
use Rattle.write_message.specs.Message.{Message, Status}
use Rattle.write_message.specs.Message.Message.{ack, statuses, included}
use Rattle.write_message.specs.Pieces.{pieces}
use Rattle.read_head.specs.declared.Verdict.{Verdict}
use Rattle.read_head.specs.declared.Verdict.TheVariants.{Good, Missing, Bad}
use Rattle.site.specs.declared.Site.{Site}
use Rattle.site.specs.Site.{link_at}
use Rattle.site.specs.Call.{Command, never}
use Rattle.store_site.specs.Layout.{site_of, with_last}
use Rattle.store_site.specs.Turns.{Turns}
use Rattle.store_site.proofs.TurnsLaws.{turns_moves}
use Rattle.store_call.specs.Called.{GivesIn}
use Rattle.packet_answer.specs.declared.Question.{Question}
use Rattle.packet_answer.specs.Taken.{Taken, not_acked, handing, responded, by_verdict, unless_busy, answering, missing_element, bad_value, busy}
use Rattle.packet_answer.specs.Ending.{report, handed, replied_at, response_of}
use Rattle.packet_answer.proofs.Ends.{unreplied, responds, hands, hands_refused}
use Rattle.packet_answer.specs.Takes.{TakesIn}

module _ (t : SiteTable) (ps ws : List ℕ) (q : Question) where
  pub not_acked_lem : (reason : ℕ) {qs vs xs ys : List ℕ} {r : Answer}
      → GivesIn t q.time never (not_acked (site_of ps ws t) q reason).plan ps qs ws vs xs ys r
      → TakesIn t q (not_acked (site_of ps ws t) q reason) ps qs ws vs xs ys r
  not_acked_lem reason g = unreplied t q (not_acked (site_of ps ws t) q reason) refl g

  module _ {qs vs xs ys : List ℕ} {r : Answer} where
    -- a choice that a test made
    pub picked_first : (b : Bool) (x y : Taken) → b ≡ true → TakesIn t q x ps qs ws vs xs ys r → TakesIn t q (pick b x y) ps qs ws vs xs ys r
    picked_first b x y e g = subst (λ (z : Bool). TakesIn t q (pick z x y) ps qs ws vs xs ys r) (sym e) g

    pub picked_second : (b : Bool) (x y : Taken) → b ≡ false → TakesIn t q y ps qs ws vs xs ys r → TakesIn t q (pick b x y) ps qs ws vs xs ys r
    picked_second b x y e g = subst (λ (z : Bool). TakesIn t q (pick z x y) ps qs ws vs xs ys r) (sym e) g

    -- by the verdict
    pub good : (v : Verdict) (x : Taken) → v ≡ Good → TakesIn t q x ps qs ws vs xs ys r → TakesIn t q (by_verdict v (site_of ps ws t) q x) ps qs ws vs xs ys r
    good v x e g = subst (λ (z : Verdict). TakesIn t q (by_verdict z (site_of ps ws t) q x) ps qs ws vs xs ys r) (sym e) g

    pub missing : (v : Verdict) (x : Taken)
        → v ≡ Missing
        → GivesIn t q.time never (not_acked (site_of ps ws t) q missing_element).plan ps qs ws vs xs ys r
        → TakesIn t q (by_verdict v (site_of ps ws t) q x) ps qs ws vs xs ys r
    missing v x e g = subst (λ (z : Verdict). TakesIn t q (by_verdict z (site_of ps ws t) q x) ps qs ws vs xs ys r) (sym e) (not_acked_lem missing_element g)

    pub bad : (v : Verdict) (x : Taken)
        → v ≡ Bad
        → GivesIn t q.time never (not_acked (site_of ps ws t) q bad_value).plan ps qs ws vs xs ys r
        → TakesIn t q (by_verdict v (site_of ps ws t) q x) ps qs ws vs xs ys r
    bad v x e g = subst (λ (z : Verdict). TakesIn t q (by_verdict z (site_of ps ws t) q x) ps qs ws vs xs ys r) (sym e) (not_acked_lem bad_value g)

    -- what is chosen by a value that a function gave
    pub like : {A : Type 0} (f : A → Taken) {x y : A} → x ≡ y → TakesIn t q (f y) ps qs ws vs xs ys r → TakesIn t q (f x) ps qs ws vs xs ys r
    like {A} f e g = subst (λ (z : A). TakesIn t q (f z) ps qs ws vs xs ys r) (sym e) g

  -- a reply is due, and commands are handed over: "Busy"; the identity is awaited already; the answer and the reply behind it
  module _ (m : Message) (commands : List Command) where
    abbrev pub handed_due : Taken
    handed_due = unless_busy (site_of ps ws t) q (handing (site_of ps ws t) q m commands)

    pub hand_busy : {qs vs xs ys : List ℕ} {r : Answer}
        → full_of (link_at (site_of ps ws t) q.link) ≡ true
        → GivesIn t q.time never (not_acked (site_of ps ws t) q busy).plan ps qs ws vs xs ys r
        → TakesIn t q handed_due ps qs ws vs xs ys r
    hand_busy e g =
        picked_first (full_of (link_at (site_of ps ws t) q.link)) (not_acked (site_of ps ws t) q busy) (handing (site_of ps ws t) q m commands) e (not_acked_lem busy g)

    pub hand_awaited : {xs : List ℕ} {r : Answer}
        → full_of (link_at (site_of ps ws t) q.link) ≡ false
        → is_awaited (find_of (link_at (site_of ps ws t) q.link).awaited q.identity) ≡ true
        → r ≡ Refused IdentityAwaited
        → TakesIn t q handed_due ps ps ws ws xs xs r
    hand_awaited e h f =
        picked_second (full_of (link_at (site_of ps ws t) q.link)) (not_acked (site_of ps ws t) q busy) (handing (site_of ps ws t) q m commands) e
        (hands_refused t q m commands h f)

    pub hand_sent : {vs xs ys : List ℕ} {end : ℕ} {r : Answer}
        → full_of (link_at (site_of ps ws t) q.link) ≡ false
        → is_awaited (find_of (link_at (site_of ps ws t) q.link).awaited q.identity) ≡ false
        → Wrote xs 0 (pieces (ack q.received.bytes) ++ pieces m) ys end
        → r ≡ Done (handed end (length commands))
        → Turns (λ (s : Site). (replied_at s q end).site) ws vs
        → TakesIn t q handed_due ps ps ws vs xs ys r
    hand_sent e h w f u =
        picked_second (full_of (link_at (site_of ps ws t) q.link)) (not_acked (site_of ps ws t) q busy) (handing (site_of ps ws t) q m commands) e
        (hands t q m commands h w f (turns_moves ps u))

  -- and none is handed over
  module _ (m : Message) where
    abbrev pub due : Taken
    due = handed_due m []

    pub is_busy : {qs vs xs ys : List ℕ} {r : Answer}
        → full_of (link_at (site_of ps ws t) q.link) ≡ true
        → GivesIn t q.time never (not_acked (site_of ps ws t) q busy).plan ps qs ws vs xs ys r
        → TakesIn t q due ps qs ws vs xs ys r
    is_busy = hand_busy m []

    pub is_awaited_lem : {xs : List ℕ} {r : Answer}
        → full_of (link_at (site_of ps ws t) q.link) ≡ false
        → is_awaited (find_of (link_at (site_of ps ws t) q.link).awaited q.identity) ≡ true
        → r ≡ Refused IdentityAwaited
        → TakesIn t q due ps ps ws ws xs xs r
    is_awaited_lem = hand_awaited m []

    pub is_sent : {vs xs ys : List ℕ} {end : ℕ} {r : Answer}
        → full_of (link_at (site_of ps ws t) q.link) ≡ false
        → is_awaited (find_of (link_at (site_of ps ws t) q.link).awaited q.identity) ≡ false
        → Wrote xs 0 (pieces (ack q.received.bytes) ++ pieces m) ys end
        → r ≡ Done (report 0 0 end 0)
        → Turns (λ (s : Site). (replied_at s q end).site) ws vs
        → TakesIn t q due ps ps ws vs xs ys r
    is_sent = hand_sent m []

  -- what is told of a component in answer to a request: in one message, or behind the acknowledgement
  module _ (kind : Told) (component : List ℕ) (entries : List Status) (commands : List Command) where
    abbrev one_message : Message
    one_message = included kind q.received.bytes component q.time entries

    abbrev behind_it : Message
    behind_it = statuses kind q.identity.bytes component q.time entries

    pub in_one : {vs xs ys : List ℕ} {end : ℕ} {r : Answer}
        → q.included ≡ true
        → Wrote xs 0 (pieces (response_of q kind component entries)) ys end
        → r ≡ Done (handed end (length commands))
        → Turns (λ (s : Site). with_last s q.time) ws vs
        → TakesIn t q (answering (site_of ps ws t) q kind component entries commands) ps ps ws vs xs ys r
    in_one {vs} {xs} {ys} {end} e w f u =
        picked_first q.included (responded (site_of ps ws t) one_message commands) (handed_due behind_it commands) e
        (responds t q one_message commands (subst (λ (b : Bool). Wrote xs 0 (pieces (pick b one_message behind_it)) ys end) e w) f (turns_moves ps u))

    pub in_two : {qs vs xs ys : List ℕ} {r : Answer}
        → q.included ≡ false
        → TakesIn t q (handed_due (response_of q kind component entries) commands) ps qs ws vs xs ys r
        → TakesIn t q (answering (site_of ps ws t) q kind component entries commands) ps qs ws vs xs ys r
    in_two {qs} {vs} {xs} {ys} {r} e g =
        picked_second q.included (responded (site_of ps ws t) one_message commands) (handed_due behind_it commands) e
        (subst (λ (b : Bool). TakesIn t q (handed_due (pick b one_message behind_it) commands) ps qs ws vs xs ys r) e g)
