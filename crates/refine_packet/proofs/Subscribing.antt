-- Their StatusSubscribe and StatusUnsubscribe are the machine's.
-- Assumes nothing.
use Rattle.basis.proofs.Std.{ℕ, ◌<◌, String, ◌≡◌, refl, sym, subst, ◌∙◌, Bool, true, false, not, List, [], ◌∷◌, map, Option, some, none, pick, both, text, same_bytes, eqb}
use Rattle.answer.specs.Given.Hint.{none as no_hint}
use Rattle.identity.specs.declared.Identity.{Identity}
use Rattle.json_value.specs.Grammar.{Json}
use Rattle.write_message.specs.Message.Message.{ack}
use Rattle.read_head.specs.declared.Verdict.{Verdict}
use Rattle.read_head.specs.declared.Verdict.TheVariants.{Good}
use Rattle.read_lists.specs.declared.StatusFields.{StatusFields}
use Rattle.read_lists.specs.declared.Asking.{Asking}
use Rattle.read_lists.specs.declared.Asking.TheVariants.{Plain, Full, Older}
use Rattle.read_lists.specs.Status.{status_at}
use Rattle.packet_lookup.specs.declared.Sought.{Sought}
use Rattle.packet_lookup.specs.Sought.{component_sought}
use Rattle.site.specs.declared.Site.{Site}
use Rattle.site.specs.Site.{link_at}
use Rattle.refine_parts.specs.Same.{Beside}
use Rattle.refine_parts.specs.Life.{shown}
use Rattle.packet_answer.specs.Taken.{not_acked, unknown_status}
use Rattle.packet_subscribe.specs.Subscribing.{replaced, records, changed, judged, asked, asking_by, asking_on, subscribing_taken}
use Rattle.machine.specs.Words.{is_some}
use Rattle.machine.specs.State.{Issued, Machine, with_subscriptions, Effect, effect, life_at}
use Rattle.machine.specs.Life.{is_older}
use Rattle.machine.specs.Json.{string_at, string_of, entries_of, is_type}
use Rattle.machine.specs.Answers.{component_asked, wants_reply, replies_at_once}
use Rattle.machine.specs.Items.{subscribe, unsubscribe}
use Rattle.machine.specs.Effects.{carried_out}
use Rattle.demand_held.proofs.Lists.{Each, each_of}
use Rattle.demand_held.proofs.Lists.Each.{no_more}
use Rattle.demand_held.proofs.Issue.{For}
use Rattle.refine_read.specs.Verdicts.{verdict_in}
use Rattle.refine_read.specs.Reasons.{by_verdict as reason_by, further_reason, any_unknown}
use Rattle.refine_read.proofs.Kept as Reads
use Rattle.refine_read.specs.Statuses.{asking_for, is_read, StatusReads}
use Rattle.refine_read.proofs.ListsKept as Lists
use Rattle.refine_parts.specs.Items.{SameIssued}
use Rattle.refine_calls.specs.Abstracts.{Abstracts}
use Rattle.refine_calls.specs.Calls.SameCommands.{no_command}
use Rattle.refine_packet.specs.Lookups.{sought_for}
use Rattle.refine_packet.specs.Taken.{SameTaken, question_on}
use Rattle.refine_packet.proofs.Refused.{reasons, by_verdict_lem}
use Rattle.refine_packet.proofs.Acked.{only_acked}
use Rattle.refine_packet.specs.Statuses.{SameStatusSubscribe, SameStatusUnsubscribe}
use Rattle.refine_packet.proofs.Entries.{component_sought_lem, all_known}
use Rattle.refine_packet.proofs.Changes.{all_by, told_of, subscriptions_so, all_told, records_so}

-- the effect of either
abbrev effect_for : Bool → Machine → ℕ → ℕ → Json → Effect
effect_for true m l t j = subscribe m t l j
effect_for false m l t j = unsubscribe m l j

abbrev reason_for : Machine → Json → Option String
reason_for m j = pick (both (is_some (component_asked m j)) (not (any_unknown m j))) none (some "Unknown status")

module _ {beside : Beside} (s : Site) (m : Machine) (h : Abstracts beside s m) (l : ℕ) (b : l < m.setup.links) (t : ℕ) (id : Identity) (subscribing : Bool) (j : Json) (f : StatusFields) (r : StatusReads subscribing (is_older (life_at m l)) j f) (does : carried_out l t j m ≡ effect_for subscribing m l t j) (late : replies_at_once j ≡ false) (silent : (n : Machine) → wants_reply n l j ≡ false) where
  module _ (g : f.verdict ≡ Good) (c : ℕ) (a : component_asked m j ≡ some c) (k : any_unknown m j ≡ false) where
    abbrev issued_by : Bool → List Issued
    issued_by true = map (told_of s m h l b t subscribing j f r g c a) (entries_of "sS" j)
    issued_by false = []

    abbrev left_by : Bool → Machine
    left_by z = with_subscriptions (all_by s m h l b t subscribing j f r g c a z (entries_of "sS" j) m.subscriptions) m

    effect_so : (z : Bool) → effect_for z m l t j ≡ effect (left_by z) (issued_by z) [] [] none
    unfolding subscribe unsubscribe
    effect_so true = refl
    effect_so false = refl

    issued_so : (z : Bool) (after : Site) → after.site ≡ s.site
        → SameIssued (record { site = after; issued = pick z (records s l t c f.entries f.count) []; messages = ack (string_of "mId" j) ∷ []; closed = 0; hint = no_hint; commands = [] }) (issued_by z)
    issued_so true after same = record { issued = rw same (records_so s m h l b t subscribing j f r g c a k); told = all_told s m h l b t subscribing j f r g c a (entries_of "sS" j) k }
    issued_so false after same = record { issued = refl; told = no_more }

    for_links : (z : Bool) → Each (For m.setup.links) (issued_by z)
    for_links true = each_of (told_of s m h l b t subscribing j f r g c a) (λ e. b) (entries_of "sS" j)
    for_links false = no_more

    done_so : SameTaken beside s m l t id j (changed subscribing s (question_on l t id j) f c) none
    unfolding changed
    done_so =
        let now = subscriptions_so s m h l b t subscribing j f r g c a k in
        only_acked s m l t id j (replaced subscribing s l t c f.entries f.count) (pick subscribing (records s l t c f.entries f.count) []) no_hint
        (effect (left_by subscribing) (issued_by subscribing) [] [] none) (does ∙ effect_so subscribing) late (silent m) (silent (left_by subscribing)) now.next now.site
        (record {
          leaves = now.same;
          issued = issued_so subscribing (replaced subscribing s l t c f.entries f.count) now.site;
          for_links = for_links subscribing;
          messages = refl;
          closed = refl;
          hint = refl;
          commands = no_command;
        })

  by_known : (g : f.verdict ≡ Good) (c : ℕ) → component_asked m j ≡ some c → (z : Bool) → any_unknown m j ≡ z
      → SameTaken beside s m l t id j (pick (not z) (changed subscribing s (question_on l t id j) f c) (not_acked s (question_on l t id j) unknown_status)) (pick (not z) none (some "Unknown status"))
  by_known g c a false k = done_so g c a k
  by_known g c a true k = (reasons s m h l b t id j).unknown_status_lem

  by_component : (g : f.verdict ≡ Good) (o : Option ℕ) → component_asked m j ≡ o
      → SameTaken beside s m l t id j (asked subscribing s (question_on l t id j) f (sought_for o)) (pick (both (is_some o) (not (any_unknown m j))) none (some "Unknown status"))
  unfolding judged
  by_component g none a = (reasons s m h l b t id j).unknown_status_lem
  by_component g (some c) a =
      subst (λ (x : Bool). SameTaken beside s m l t id j (pick x (changed subscribing s (question_on l t id j) f c) (not_acked s (question_on l t id j) unknown_status)) (pick (not (any_unknown m j)) none (some "Unknown status")))
      (sym (all_known s m h subscribing (is_older (life_at m l)) j f r g c a)) (by_known g c a (any_unknown m j) refl)

  good : f.verdict ≡ Good → SameTaken beside s m l t id j (asked subscribing s (question_on l t id j) f (component_sought s.table f.component)) (reason_for m j)
  good g =
      subst (λ (x : Sought). SameTaken beside s m l t id j (asked subscribing s (question_on l t id j) f x) (reason_for m j)) (sym (component_sought_lem s m h subscribing (is_older (life_at m l)) j f r g))
      (by_component g (component_asked m j) refl)

  taken : is_read subscribing j ≡ true → further_reason m l j ≡ reason_for m j
      → SameTaken beside s m l t id j (subscribing_taken subscribing s (question_on l t id j) f) (reason_by (verdict_in (is_older (life_at m l)) j) (further_reason m l j))
  unfolding subscribing_taken
  taken is further =
      subst (λ (x : Verdict). SameTaken beside s m l t id j (subscribing_taken subscribing s (question_on l t id j) f) (reason_by x (further_reason m l j))) (r.verdict is)
      (subst (λ (x : Option String). SameTaken beside s m l t id j (subscribing_taken subscribing s (question_on l t id j) f) (reason_by f.verdict x)) (sym further)
      (by_verdict_lem s m h l b t id j f.verdict (asked subscribing s (question_on l t id j) f (component_sought s.table f.component)) (reason_for m j) good))

module _ (j : Json) (ty : string_at "type" j ≡ some (text "StatusSubscribe")) where
  is_subscribe : is_type "StatusSubscribe" j ≡ true
  is_subscribe = rw ty

  subscribe_silent : (l : ℕ) (m : Machine) → wants_reply m l j ≡ false
  subscribe_silent l m = rw ty

  subscribe_does : (l t : ℕ) (m : Machine) → carried_out l t j m ≡ subscribe m t l j
  unfolding carried_out
  subscribe_does l t m = rw ty

module _ (j : Json) (ty : string_at "type" j ≡ some (text "StatusUnsubscribe")) where
  is_unsubscribe : is_type "StatusUnsubscribe" j ≡ true
  is_unsubscribe = rw ty

  is_list : is_read false j ≡ true
  is_list = rw ty

  unsubscribe_silent : (l : ℕ) (m : Machine) → wants_reply m l j ≡ false
  unsubscribe_silent l m = rw ty

  unsubscribe_does : (l t : ℕ) (m : Machine) → carried_out l t j m ≡ unsubscribe m l j
  unfolding carried_out
  unsubscribe_does l t m = rw ty

-- the link's three numbers are its life's version
asking_shown : (v : List ℕ) (x y z : ℕ) → x ∷ y ∷ z ∷ [] ≡ shown v → asking_for true (same_bytes v (3 ∷ 1 ∷ 4 ∷ [])) ≡ asking_by x y z
asking_shown [] x y z e =
    let q : x ≡ 0 = cc in
    rw q
asking_shown (a ∷ v) x y z e = subst (λ (w : List ℕ). asking_for true (same_bytes w (3 ∷ 1 ∷ 4 ∷ [])) ≡ asking_by x y z) e (by (eqb x 3) (eqb y 1) (eqb z 4))
  where
    by : (p q r : Bool) → asking_for true (both p (both q (both r true))) ≡ pick (both p (both q r)) Older Full
    by true true true = refl
    by true true false = refl
    by true false r = refl
    by false q r = refl

same_asking : {beside : Beside} (s : Site) (m : Machine) → Abstracts beside s m → (l : ℕ) → asking_for true (is_older (life_at m l)) ≡ asking_on (link_at s l)
same_asking s m h l = asking_shown (life_at m l).version (link_at s l).major (link_at s l).minor (link_at s l).patch (h.lives l).version

pub same_subscribe : SameStatusSubscribe
same_subscribe beside s m h l b up t id v p j read ty =
    subst (λ (a : Asking). SameTaken beside s m l t id j (subscribing_taken true s (question_on l t id j) (status_at a p)) (reason_by (verdict_in (is_older (life_at m l)) j) (further_reason m l j)))
    (same_asking s m h l)
    (taken s m h l b t id true j (status_at (asking_for true (is_older (life_at m l))) p) ((Lists.kept).statuses true (is_older (life_at m l)) p j read) (subscribe_does j ty l t m) (rw ty) (subscribe_silent j ty l) (is_subscribe j ty)
    (((Reads.kept).further m l j).status_subscribe (is_subscribe j ty)))

pub same_unsubscribe : SameStatusUnsubscribe
same_unsubscribe beside s m h l b up t id v p j read ty =
    taken s m h l b t id false j (status_at Plain p) ((Lists.kept).statuses false (is_older (life_at m l)) p j read) (unsubscribe_does j ty l t m) (rw ty) (unsubscribe_silent j ty l) (is_list j ty)
    (((Reads.kept).further m l j).status_unsubscribe (is_unsubscribe j ty))
