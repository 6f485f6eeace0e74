-- Number 1: the code ignores the packets that the machine ignores.
-- Assumes nothing.
use Rattle.basis.proofs.Std.{◌≡◌, refl, sym, ap, ◌∙◌, Bool, true, false, not, List, [], ◌∷◌, pick, both, Among}
use Rattle.basis.specs.Lists.Among.{first, later}
use Rattle.identity.specs.declared.Identity.{Identity}
use Rattle.identity.specs.Read.{SixteenBytes}
use Rattle.awaited.specs.Awaited.{find_of, is_awaited as is_found}
use Rattle.link.specs.declared.Link.{Link}
use Rattle.link.specs.declared.Phase.TheVariants.{Down, Greeting, Beating, Up}
use Rattle.link.specs.Phase.{phase_of}
use Rattle.read_head.specs.declared.Kind.{Kind}
use Rattle.read_head.specs.declared.Kind.TheVariants.{Version, Watchdog, Alarm, AggregatedStatusRequest, StatusRequest, StatusSubscribe, StatusUnsubscribe, CommandRequest, Unexpected}
use Rattle.read_head.specs.declared.Class.{Class}
use Rattle.read_head.specs.declared.Class.TheVariants.{Ignored, Acked, NotAcked, Asked}
use Rattle.read_head.specs.Head.{head_at}
use Rattle.call_packet.specs.Packet.{is_version, is_greeting, unawaited, ignored_by}
use Rattle.machine.specs.Words.{Bytes}
use Rattle.machine.specs.State.{Awaited, Life}
use Rattle.machine.specs.Json.{read_packet}
use Rattle.machine.specs.Life.{is_greeting as greets_in, is_beating as beats_in, is_awaited}
use Rattle.machine.specs.Answers.{is_ignored}
use Rattle.refine_read.specs.Ignored.{AllSixteen, is_version as version_in, ignored_as}
use Rattle.refine_read.proofs.Kept as Reads
use Rattle.refine_parts.specs.Life.{SameLife}
use Rattle.refine_parts.proofs.Questions.{questions}

pub all_sixteen : (xs : List Awaited) → ((w : Awaited) → Among w xs → SixteenBytes w.identity) → AllSixteen xs
all_sixteen [] f = tt
all_sixteen (w ∷ xs) f = (f w first, all_sixteen xs (λ v a. f v (later a)))

other : (b c : Bool) → b ≡ c → pick b false true ≡ not c
other true c e = rw (sym e)
other false c e = rw (sym e)

not_version : (k : Kind) → pick (is_version k) false true ≡ not (version_in k)
not_version Version = refl
not_version Watchdog = refl
not_version Alarm = refl
not_version AggregatedStatusRequest = refl
not_version StatusRequest = refl
not_version StatusSubscribe = refl
not_version StatusUnsubscribe = refl
not_version CommandRequest = refl
not_version Unexpected = refl

module _ (k : Link) (x : Life) (h : SameLife k x) where
  pub sixteen : AllSixteen x.awaited
  sixteen = all_sixteen x.awaited h.awaited.bytes

  greets : is_greeting (phase_of k) ≡ greets_in x
  greets = ap is_greeting (questions.phases k x h).phase ∙ by x.connected x.versions.acknowledged x.versions.taken (beats_in x)
    where
      by : (c a t b : Bool) → is_greeting (pick (not c) Down (pick (both c (not (both a t))) Greeting (pick b Beating Up))) ≡ both c (not (both a t))
      by false a t b = refl
      by true true true true = refl
      by true true true false = refl
      by true true false b = refl
      by true false t b = refl

  unawaited_same : (id : Identity) → unawaited k id ≡ not (is_awaited x id.bytes)
  unawaited_same id = other (is_found (find_of k.awaited id)) (is_awaited x id.bytes) ((questions.waits k x h).is_awaited_lem id)

  by_class : (id : Identity) (c : Class) → ignored_by k id c ≡ ignored_as x id.bytes c
  by_class id Ignored = refl
  by_class id Acked = unawaited_same id
  by_class id NotAcked = unawaited_same id
  by_class id (Asked v kind) = rw (greets, not_version kind)

  pub same_ignored : (p : Bytes) → ignored_by k (head_at p).identity (head_at p).class ≡ is_ignored x (read_packet p)
  same_ignored p = by_class (head_at p).identity (head_at p).class ∙ sym ((Reads.kept).ignored x p sixteen)
