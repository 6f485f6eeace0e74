-- What is done to a link is done to its life.
-- Assumes nothing.
use Rattle.basis.proofs.Std.{ℕ, suc, ◌+◌, ◌≤◌, ◌<◌, ◌≡◌, refl, ap, ◌∙◌, Bool, true, false, not, [], ◌∷◌, some, none, arith, lt-ltb, pick, both, bool_cases, picked, not_both, both_first, both_second}
use Rattle.identity.specs.declared.Identity.{Identity}
use Rattle.identity.specs.Read.{Says}
use Rattle.awaited.specs.declared.Purpose.TheVariants.{Version, Other}
use Rattle.awaited.specs.declared.Found.{Found}
use Rattle.awaited.specs.declared.Found.TheVariants.{For, Nothing}
use Rattle.awaited.specs.Awaited.{add_of, find_of, is_awaited as is_found}
use Rattle.link.specs.declared.Link.{Link}
use Rattle.link.specs.declared.Phase.{Phase}
use Rattle.link.specs.declared.Phase.TheVariants.{Down, Greeting, Beating, Up}
use Rattle.link.specs.Deed.Deed.{Connected, OurVersion, OurVersionAcked, TheirVersion, OurWatchdog, OurWatchdogAcked, TheirWatchdog, OurAggregated}
use Rattle.link.specs.Fields.{closed_link, with_awaited as with_places, with_beat, with_alarm, with_version, mark}
use Rattle.link.specs.Phase.{phase_of, is_up as up_in, is_beating as beating_in, beats_in, closes_for}
use Rattle.link.specs.Steps.{connect_of, version_out_of, may_judge_of, version_accepted_of, may_beat_of, watchdog_out_of, watchdog_taken_of, message_out_of, removed_of, noted_for, noted, closes_of, answered_of, aggregated_passed_of, alarm_passed_of}
use Rattle.machine.specs.Words.{Bytes}
use Rattle.machine.specs.Json.{is_identity_of}
use Rattle.machine.specs.State.{Sent, Awaited, Exchange, exchange, Life, fresh}
use Rattle.machine.specs.State.Sent.{own_version, own_watchdog, no_record, the_record}
use Rattle.machine.specs.Life.{is_over, is_greeting, is_beating, is_up, now_sent, now_acknowledged, now_taken, with_versions, with_watchdogs, awaited_by, awaiting, answered_to}
use Rattle.machine.specs.Life.Due.{the_version, the_watchdog, the_aggregated}
use Rattle.machine.specs.Effects.{passed, beaten, after_sending, answer_closes, acknowledges, agreed}
use Rattle.refine_parts.specs.Waits.{purpose_for, found_for}
use Rattle.refine_parts.specs.Life.{pass_of, SameExchange, went_out, SameLife}
use Rattle.refine_parts.specs.LifeActs.{Sendable, answered_by, SameActs, Acts}
use Rattle.refine_parts.proofs.LifeLists.{among_none, among_but_first, among_last, first_among}
use Rattle.refine_parts.proofs.Waits.{nothing_same, added, removed}
use Rattle.refine_parts.proofs.Text.{but_first_by}
use Rattle.refine_parts.proofs.Questions.{same_phase, same_waits}

none_begun : SameExchange false false false (exchange false false false)
none_begun = record { is_sent = refl; is_acknowledged = refl; is_taken = refl; first_sent = λ e. e }

new_life : SameLife (mark Connected closed_link) (fresh true)
new_life =
    record {
      connected = refl;
      versions = none_begun;
      watchdogs = none_begun;
      version = refl;
      beat = refl;
      pass = refl;
      no_alarm_lem = λ e. refl;
      awaited = nothing_same;
      went_out_lem = λ w a. among_none refl a;
    }

pub no_life : SameLife closed_link (fresh false)
no_life =
    record {
      connected = refl;
      versions = none_begun;
      watchdogs = none_begun;
      version = refl;
      beat = refl;
      pass = refl;
      no_alarm_lem = λ e. refl;
      awaited = nothing_same;
      went_out_lem = λ w a. among_none refl a;
    }

-- a step of an exchange
module _ {a b c : Bool} {x : Exchange} (h : SameExchange a b c x) where
  sent_now : SameExchange true b c (now_sent x)
  sent_now = record { is_sent = refl; is_acknowledged = h.is_acknowledged; is_taken = h.is_taken; first_sent = λ e. refl }

  acknowledged_now : x.sent ≡ true → SameExchange a true c (now_acknowledged x)
  acknowledged_now e = record { is_sent = h.is_sent; is_acknowledged = refl; is_taken = h.is_taken; first_sent = λ f. e }

  taken_now : SameExchange a b true (now_taken x)
  taken_now = record { is_sent = h.is_sent; is_acknowledged = h.is_acknowledged; is_taken = refl; first_sent = h.first_sent }

-- what went out went out, whatever else does
still_out : (x y : Life) → (x.versions.sent ≡ true → y.versions.sent ≡ true) → (x.watchdogs.sent ≡ true → y.watchdogs.sent ≡ true)
    → (message : Sent) → went_out x message ≡ true → went_out y message ≡ true
still_out x y f g own_version e = f e
still_out x y f g own_watchdog e = g e
still_out x y f g no_record e = refl
still_out x y f g (the_record n) e = refl

module _ (k : Link) (x : Life) (h : SameLife k x) where
  -- ---- one flag or number at a time
  version_sent : SameLife (mark OurVersion k) (with_versions (now_sent x.versions) x)
  version_sent =
      record {
        connected = h.connected;
        versions = sent_now h.versions;
        watchdogs = h.watchdogs;
        version = h.version;
        beat = h.beat;
        pass = h.pass;
        no_alarm_lem = h.no_alarm_lem;
        awaited = h.awaited;
        went_out_lem = λ w a. still_out x (with_versions (now_sent x.versions) x) (λ e. refl) (λ e. e) w.message (h.went_out_lem w a);
      }

  watchdog_sent : (t : ℕ) → SameLife (mark OurWatchdog (with_beat k t)) (beaten t x)
  watchdog_sent t =
      record {
        connected = h.connected;
        versions = h.versions;
        watchdogs = sent_now h.watchdogs;
        version = h.version;
        beat = refl;
        pass = h.pass;
        no_alarm_lem = h.no_alarm_lem;
        awaited = h.awaited;
        went_out_lem = λ w a. still_out x (beaten t x) (λ e. e) (λ e. refl) w.message (h.went_out_lem w a);
      }

  version_acknowledged : x.versions.sent ≡ true → SameLife (mark OurVersionAcked k) (with_versions (now_acknowledged x.versions) x)
  version_acknowledged e =
      record {
        connected = h.connected;
        versions = acknowledged_now h.versions e;
        watchdogs = h.watchdogs;
        version = h.version;
        beat = h.beat;
        pass = h.pass;
        no_alarm_lem = h.no_alarm_lem;
        awaited = h.awaited;
        went_out_lem = λ w a. still_out x (with_versions (now_acknowledged x.versions) x) (λ e. e) (λ e. e) w.message (h.went_out_lem w a);
      }

  watchdog_acknowledged : x.watchdogs.sent ≡ true → SameLife (mark OurWatchdogAcked k) (with_watchdogs (now_acknowledged x.watchdogs) x)
  watchdog_acknowledged e =
      record {
        connected = h.connected;
        versions = h.versions;
        watchdogs = acknowledged_now h.watchdogs e;
        version = h.version;
        beat = h.beat;
        pass = h.pass;
        no_alarm_lem = h.no_alarm_lem;
        awaited = h.awaited;
        went_out_lem = λ w a. still_out x (with_watchdogs (now_acknowledged x.watchdogs) x) (λ e. e) (λ e. e) w.message (h.went_out_lem w a);
      }

  version_taken : (a b c : ℕ) → SameLife (mark TheirVersion (with_version k a b c)) (agreed (a ∷ b ∷ c ∷ []) x)
  version_taken a b c =
      record {
        connected = h.connected;
        versions = taken_now h.versions;
        watchdogs = h.watchdogs;
        version = refl;
        beat = h.beat;
        pass = h.pass;
        no_alarm_lem = h.no_alarm_lem;
        awaited = h.awaited;
        went_out_lem = λ w i. still_out x (agreed (a ∷ b ∷ c ∷ []) x) (λ e. e) (λ e. e) w.message (h.went_out_lem w i);
      }

  watchdog_taken_lem : SameLife (mark TheirWatchdog k) (with_watchdogs (now_taken x.watchdogs) x)
  watchdog_taken_lem =
      record {
        connected = h.connected;
        versions = h.versions;
        watchdogs = taken_now h.watchdogs;
        version = h.version;
        beat = h.beat;
        pass = h.pass;
        no_alarm_lem = h.no_alarm_lem;
        awaited = h.awaited;
        went_out_lem = λ w a. still_out x (with_watchdogs (now_taken x.watchdogs) x) (λ e. e) (λ e. e) w.message (h.went_out_lem w a);
      }

  aggregated_passed : x.pass ≡ 0 → SameLife (mark OurAggregated k) (passed x)
  aggregated_passed e =
      record {
        connected = h.connected;
        versions = h.versions;
        watchdogs = h.watchdogs;
        version = h.version;
        beat = h.beat;
        pass = omega (arith, first k.aggregatedout k.alarm (h.pass ∙ e) h.no_alarm_lem, e);
        no_alarm_lem = λ f. not_both refl f;
        awaited = h.awaited;
        went_out_lem = λ w a. still_out x (passed x) (λ e. e) (λ e. e) w.message (h.went_out_lem w a);
      }
    where
      first : (out : Bool) (i : ℕ) → pick out (suc i) 0 ≡ 0 → (out ≡ false → i ≡ 0) → i ≡ 0
      first true i f n = absurd (omega arith)
      first false i f n = n refl

  alarm_passed : 1 ≤ x.pass → SameLife (with_alarm k (k.alarm + 1)) (passed x)
  alarm_passed e =
      record {
        connected = h.connected;
        versions = h.versions;
        watchdogs = h.watchdogs;
        version = h.version;
        beat = h.beat;
        pass = next k.aggregatedout h.pass;
        no_alarm_lem = λ f. absurd (none k.aggregatedout f h.pass);
        awaited = h.awaited;
        went_out_lem = λ w a. still_out x (passed x) (λ e. e) (λ e. e) w.message (h.went_out_lem w a);
      }
    where
      next : (out : Bool) → pick out (suc k.alarm) 0 ≡ x.pass → pick out (suc (k.alarm + 1)) 0 ≡ suc x.pass
      next true f = omega arith
      next false f = absurd (omega arith)

      none : (out : Bool) → out ≡ false → pick out (suc k.alarm) 0 ≡ x.pass → ⊥
      none true g f = not_both refl g
      none false g f = absurd (omega arith)

  -- ---- one more awaited, one less
  pub awaits : (id : Identity) (t : ℕ) (message : Sent) → Sendable x id → went_out x message ≡ true
      → SameLife (with_places k (add_of k.awaited id t (purpose_for message))) (awaiting id.bytes t message x)
  awaits id t message s o =
      record {
        connected = h.connected;
        versions = h.versions;
        watchdogs = h.watchdogs;
        version = h.version;
        beat = h.beat;
        pass = h.pass;
        no_alarm_lem = h.no_alarm_lem;
        awaited = added k.awaited x.awaited h.awaited id t message s.bytes
            (unfound (find_of k.awaited id) ((same_waits k x h).is_awaited_lem id ∙ s.unawaited)) s.room;
        went_out_lem = λ w a. still_out x (awaiting id.bytes t message x) (λ e. e) (λ e. e) w.message
            (among_last (λ (w : Awaited). went_out x w.message ≡ true) x.awaited (record { identity = id.bytes; time = t; message = message }) h.went_out_lem o w a);
      }
    where
      unfound : (f : Found) → is_found f ≡ false → f ≡ Nothing
      unfound Nothing e = refl
      unfound (For p) e = not_both refl e

  pub unawaits : (s : Bytes) (id : Identity) → Says s id.bytes → SameLife (removed_of k id) (answered_to s x)
  unfolding removed_of
  unawaits s id q =
      record {
        connected = h.connected;
        versions = h.versions;
        watchdogs = h.watchdogs;
        version = h.version;
        beat = h.beat;
        pass = h.pass;
        no_alarm_lem = h.no_alarm_lem;
        awaited = rw (but_first_by x.awaited h.awaited.bytes s id q) (removed k.awaited x.awaited h.awaited id);
        went_out_lem = λ w a. still_out x (answered_to s x) (λ e. e) (λ e. e) w.message
            (h.went_out_lem w (among_but_first (λ (v : Awaited). is_identity_of v.identity s) x.awaited a));
      }

-- ---- tests that a link makes itself, and that hold where the machine does the same
-- the first of a choice whose test passes
taken : {A : Type 0} (P : A → Type 0) (b : Bool) (x y : A) → b ≡ true → P x → P (pick b x y)
taken P b x y e p = picked P b x y (λ t. p) (λ t. not_both e t)

-- in Up both of ours went out
all_out : (k : Link) (x : Life) → SameLife k x → is_up x ≡ true → (message : Sent) → went_out x message ≡ true
all_out k x h u message = out message
  where
    exchanged : both (is_over x.versions) (is_over x.watchdogs) ≡ true
    exchanged = both_second x.connected (both (is_over x.versions) (is_over x.watchdogs)) u

    out : (message : Sent) → went_out x message ≡ true
    out own_version =
        h.versions.first_sent (both_first x.versions.acknowledged x.versions.taken (both_first (is_over x.versions) (is_over x.watchdogs) exchanged))
    out own_watchdog =
        h.watchdogs.first_sent (both_first x.watchdogs.acknowledged x.watchdogs.taken (both_second (is_over x.versions) (is_over x.watchdogs) exchanged))
    out no_record = refl
    out (the_record n) = refl

may_beat : (k : Link) (x : Life) → SameLife k x → pick (both (is_beating x) (not x.watchdogs.sent)) true (is_up x) ≡ true → may_beat_of k ≡ true
unfolding may_beat_of
may_beat k x h e =
    by (phase_of k) k.watchdogout (rw ((same_phase k x h).beating, (same_phase k x h).up, h.watchdogs.is_sent) e)
  where
    by : (f : Phase) (out : Bool) → pick (both (beating_in f) (not out)) true (up_in f) ≡ true → beats_in f out ≡ true
    by Down out e = e
    by Greeting out e = e
    by Beating true e = e
    by Beating false e = refl
    by Up out e = refl

module _ (k : Link) (x : Life) (h : SameLife k x) where
  connects : x.connected ≡ false → SameLife (connect_of k) (fresh true)
  unfolding connect_of
  connects e = rw (h.connected, e) new_life

  module _ (id : Identity) (t : ℕ) (s : Sendable x id) where
    sends_version : is_greeting x ≡ true → x.versions.sent ≡ false
        → SameLife (version_out_of k id t) (awaiting id.bytes t own_version (after_sending t the_version x))
    unfolding version_out_of
    sends_version g n =
        taken (λ (j : Link). SameLife j (awaiting id.bytes t own_version (after_sending t the_version x)))
        (pick k.versionout false k.connected) (mark OurVersion (with_places k (add_of k.awaited id t Version))) k
        (rw (h.versions.is_sent, n, h.connected) (both_first x.connected (not (is_over x.versions)) g))
        (awaits (mark OurVersion k) (with_versions (now_sent x.versions) x) (version_sent k x h) id t own_version
        (record { bytes = s.bytes; unawaited = s.unawaited; room = s.room }) refl)

    sends_watchdog : pick (both (is_beating x) (not x.watchdogs.sent)) true (is_up x) ≡ true
        → SameLife (watchdog_out_of k id t) (awaiting id.bytes t own_watchdog (after_sending t the_watchdog x))
    unfolding watchdog_out_of
    sends_watchdog e =
        rw (may_beat k x h e)
        (awaits (mark OurWatchdog (with_beat k t)) (beaten t x) (watchdog_sent k x h t) id t own_watchdog
        (record { bytes = s.bytes; unawaited = s.unawaited; room = s.room }) refl)

    sends_other : (message : Sent) → is_up x ≡ true → SameLife (message_out_of k id t (purpose_for message)) (awaiting id.bytes t message x)
    unfolding message_out_of
    sends_other message u = rw ((same_phase k x h).up, u) (awaits k x h id t message s (all_out k x h u message))

    sends_aggregated : is_up x ≡ true → x.pass ≡ 0
        → SameLife (aggregated_passed_of (message_out_of k id t Other)) (awaiting id.bytes t no_record (after_sending t the_aggregated x))
    unfolding aggregated_passed_of
    sends_aggregated u e =
        let o : SameLife (message_out_of k id t Other) (awaiting id.bytes t no_record x) = sends_other no_record u in
        rw ((same_phase (message_out_of k id t Other) (awaiting id.bytes t no_record x) o).up, u)
        (aggregated_passed (message_out_of k id t Other) (awaiting id.bytes t no_record x) o e)

    sends_alarm : (message : Sent) → is_up x ≡ true → 1 ≤ x.pass → x.pass < 4294967296
        → SameLife (alarm_passed_of (message_out_of k id t (purpose_for message))) (awaiting id.bytes t message (passed x))
    unfolding alarm_passed_of
    sends_alarm message u e f =
        let o : SameLife (message_out_of k id t (purpose_for message)) (awaiting id.bytes t message x) = sends_other message u in
        rw (
          (same_phase (message_out_of k id t (purpose_for message)) (awaiting id.bytes t message x) o).up,
          u,
          lt-ltb (message_out_of k id t (purpose_for message)).alarm 4294967295 (few (message_out_of k id t (purpose_for message)) o.pass),
        )
        (alarm_passed (message_out_of k id t (purpose_for message)) (awaiting id.bytes t message x) o e)
      where
        few : (j : Link) → pass_of j ≡ x.pass → j.alarm < 4294967295
        few j p = by j.aggregatedout p
          where
            by : (out : Bool) → pick out (suc j.alarm) 0 ≡ x.pass → j.alarm < 4294967295
            by true p = omega arith
            by false p = absurd (omega arith)

  accepts : (a b c : ℕ) → x.versions.sent ≡ true → x.versions.taken ≡ false → SameLife (version_accepted_of k a b c) (agreed (a ∷ b ∷ c ∷ []) x)
  unfolding version_accepted_of may_judge_of
  accepts a b c e f =
      taken (λ (j : Link). SameLife j (agreed (a ∷ b ∷ c ∷ []) x)) (may_judge_of k) (mark TheirVersion (with_version k a b c)) k
      (rw (h.versions.is_taken, f, h.versions.is_sent) e) (version_taken k x h a b c)

  takes : pick (is_beating x) true (is_up x) ≡ true → SameLife (watchdog_taken_of k) (with_watchdogs (now_taken x.watchdogs) x)
  unfolding watchdog_taken_of
  takes e = rw ((same_phase k x h).takes, e) (watchdog_taken_lem k x h)

  module _ (s : Bytes) (id : Identity) (is_ack : Bool) (w : Awaited) (q : Says s id.bytes) (f : awaited_by x s ≡ some w) where
    its_purpose : find_of k.awaited id ≡ For (purpose_for w.message)
    its_purpose = (same_waits k x h).found_by s id q ∙ ap found_for f

    closes : closes_of k id is_ack ≡ answer_closes x is_ack w.message
    unfolding closes_of
    closes = rw its_purpose (by is_ack w.message)
      where
        by : (b : Bool) (message : Sent) → pick b false (closes_for (phase_of k) (purpose_for message)) ≡ answer_closes x b message
        by true own_version = refl
        by true own_watchdog = refl
        by true no_record = refl
        by true (the_record n) = refl
        by false own_version = refl
        by false own_watchdog = (same_phase k x h).beating
        by false no_record = refl
        by false (the_record n) = refl

    its_life : (message : Sent) → went_out x message ≡ true
        → SameLife (pick is_ack (noted (For (purpose_for message)) (removed_of k id)) (removed_of k id)) (answered_to s (acknowledges is_ack message x))
    unfolding noted noted_for
    its_life message o = by is_ack message o
      where
        gone : SameLife (removed_of k id) (answered_to s x)
        gone = unawaits k x h s id q

        by : (b : Bool) (message : Sent) → went_out x message ≡ true
            → SameLife (pick b (noted (For (purpose_for message)) (removed_of k id)) (removed_of k id)) (answered_to s (acknowledges b message x))
        by true own_version o = version_acknowledged (removed_of k id) (answered_to s x) gone o
        by true own_watchdog o = watchdog_acknowledged (removed_of k id) (answered_to s x) gone o
        by true no_record o = gone
        by true (the_record n) o = gone
        by false own_version o = gone
        by false own_watchdog o = gone
        by false no_record o = gone
        by false (the_record n) o = gone

    answers : SameLife (answered_of k id is_ack) (answered_by s is_ack w x)
    unfolding answered_of
    answers =
        rw closes
        (bool_cases (answer_closes x is_ack w.message) (λ e. rw e no_life)
        (λ e. rw (e, its_purpose)
        (its_life w.message (h.went_out_lem w (first_among (λ (v : Awaited). is_identity_of v.identity s) x.awaited w f)))))

  does : SameActs k x
  does =
      record {
        connect = connects;
        sends = λ id t s. record { version = sends_version id t s; watchdog = sends_watchdog id t s; aggregated = sends_aggregated id t s; alarm = sends_alarm id t s; other = sends_other id t s };
        accepts = accepts;
        takes = takes;
        closes = closes;
        answered = answers;
      }

pub acts : Acts
acts = record { closed = no_life; acts = does }
