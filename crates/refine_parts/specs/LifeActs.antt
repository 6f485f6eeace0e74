-- What is done to a link, and to a life: they stay the same.
-- Assumes nothing.
use Rattle.std.specs.Prelude.{ℕ, ◌<◌, ◌≤◌, ◌≡◌, Bool, true, false, not, [], ◌∷◌, length}
use Rattle.std.proofs.Math.Option.{some}
use Rattle.identity.specs.declared.Identity.{Identity}
use Rattle.identity.specs.Read.{SixteenBytes, Says}
use Rattle.awaited.specs.declared.Purpose.TheVariants.{Other}
use Rattle.link.specs.declared.Link.{Link}
use Rattle.link.specs.Fields.{closed_link}
use Rattle.link.specs.Steps.{connect_of, version_out_of, version_accepted_of, watchdog_out_of, watchdog_taken_of, message_out_of, closes_of, answered_of, aggregated_passed_of, alarm_passed_of}
use Rattle.machine.specs.Words.{Bytes, if'◌then◌else◌, ◌and◌, ◌or◌}
use Rattle.machine.specs.State.{Sent, Awaited, Life, fresh}
use Rattle.machine.specs.State.Sent.{own_version, own_watchdog, no_record}
use Rattle.machine.specs.Life.{is_greeting, is_beating, is_up, now_taken, with_watchdogs, is_awaited, awaited_by, awaiting, answered_to}
use Rattle.machine.specs.Life.Due.{the_version, the_watchdog, the_aggregated}
use Rattle.machine.specs.Effects.{passed, after_sending, answer_closes, acknowledges, agreed}
use Rattle.refine_parts.specs.Waits.{purpose_for}
use Rattle.refine_parts.specs.Life.{SameLife}

-- numbers 8 and 9, or "Busy" and 9, refuse every other identity
pub record Sendable (x : Life) (id : Identity) : Type 0 where
  pub bytes : SixteenBytes id.bytes
  pub unawaited : is_awaited x id.bytes ≡ false
  pub room : length x.awaited < 16

-- a life after an answer to the awaited one w, whose identity the text s is
abbrev pub answered_by : Bytes → Bool → Awaited → Life → Life
answered_by s is_ack w x =
    if' answer_closes x is_ack w.message then fresh false else answered_to s (acknowledges is_ack w.message x)

module _ (k : Link) (x : Life) where
  -- a message goes out under an identity at a time
  pub record SameSending (id : Identity) (t : ℕ) : Type 0 where
    pub version : is_greeting x ≡ true → x.versions.sent ≡ false
        → SameLife (version_out_of k id t) (awaiting id.bytes t own_version (after_sending t the_version x))
    pub watchdog : ((is_beating x and not x.watchdogs.sent) or is_up x) ≡ true
        → SameLife (watchdog_out_of k id t) (awaiting id.bytes t own_watchdog (after_sending t the_watchdog x))
    pub aggregated : is_up x ≡ true → x.pass ≡ 0
        → SameLife (aggregated_passed_of (message_out_of k id t Other)) (awaiting id.bytes t no_record (after_sending t the_aggregated x))
    pub alarm : (message : Sent) → is_up x ≡ true → 1 ≤ x.pass → x.pass < 4294967296
        → SameLife (alarm_passed_of (message_out_of k id t (purpose_for message))) (awaiting id.bytes t message (passed x))
    -- a record, or a reply
    pub other : (message : Sent) → is_up x ≡ true → SameLife (message_out_of k id t (purpose_for message)) (awaiting id.bytes t message x)

  pub record SameActs : Type 0 where
    pub connect : x.connected ≡ false → SameLife (connect_of k) (fresh true)
    pub sends : (id : Identity) (t : ℕ) → Sendable x id → SameSending id t
    -- their Version and Watchdog
    pub accepts : (a b c : ℕ) → x.versions.sent ≡ true → x.versions.taken ≡ false → SameLife (version_accepted_of k a b c) (agreed (a ∷ b ∷ c ∷ []) x)
    pub takes : (is_beating x or is_up x) ≡ true → SameLife (watchdog_taken_of k) (with_watchdogs (now_taken x.watchdogs) x)
    -- either answer, by the text of an awaited identity
    pub closes : (s : Bytes) (id : Identity) (is_ack : Bool) (w : Awaited) → Says s id.bytes → awaited_by x s ≡ some w
        → closes_of k id is_ack ≡ answer_closes x is_ack w.message
    pub answered : (s : Bytes) (id : Identity) (is_ack : Bool) (w : Awaited) → Says s id.bytes → awaited_by x s ≡ some w
        → SameLife (answered_of k id is_ack) (answered_by s is_ack w x)

pub record Acts : Type 0 where
  pub closed : SameLife closed_link (fresh false)
  pub acts : (k : Link) (x : Life) → SameLife k x → SameActs k x
