-- What is claimed of packets without lists: from every list of bytes the code reads what the machine reads. proofs/Kept.antt proves it.
-- Assumes nothing.
use Rattle.std.specs.Prelude.{ℕ, ◌≡◌}
use Rattle.std.proofs.Math.Option.{some}
use Rattle.basis.specs.Lists.{same_bytes}
use Rattle.identity.specs.Read.{SixteenBytes, read_identity}
use Rattle.label.specs.Label.{label_of, text_of}
use Rattle.json_value.specs.Grammar.{Json}
use Rattle.json_packet.specs.Packet.{Packet}
use Rattle.read_head.specs.Head.{ignored, head_at}
use Rattle.read_head.specs.Small.{alarm_at, watchdog_at, aggregated_at}
use Rattle.machine.specs.Words.{Bytes, ◌and◌, maybe}
use Rattle.machine.specs.Json.{read_packet, is_identity, is_identity_of}
use Rattle.machine.specs.State.{Life, Machine}
use Rattle.machine.specs.Life.{awaited_by, with_awaited, answered_to}
use Rattle.machine.specs.Answers.{is_ignored, reason_of}
use Rattle.refine_read.specs.Head.{kind_of, head_of, Typed}
use Rattle.refine_read.specs.Ignored.{AllSixteen, found_by, left_by, ignored_by}
use Rattle.refine_read.specs.Reasons.{reason_by, FurtherReasons}
use Rattle.refine_read.specs.Fields.{AlarmReads, WatchdogReads, AggregatedReads}

pub record Claims : Type 0 where
  -- the machine reads j exactly from the bytes of the packet j
  pub reads : {s : Bytes} {j : Json} → Packet s j → read_packet s ≡ some j
  pub only : {s : Bytes} {j : Json} → read_packet s ≡ some j → Packet s j
  -- its kind, its mId, the identity that it answers; what is no packet is ignored
  pub head : (s : Bytes) → head_at s ≡ maybe ignored head_of (read_packet s)
  pub typed : (j : Json) → Typed j (kind_of j)
  -- a text is an identity of ours exactly where its sixteen bytes are read from it
  pub identity : (a s : Bytes) → SixteenBytes a → is_identity_of a s ≡ (is_identity s and same_bytes a (read_identity s).id.bytes)
  pub awaited : (k : Life) (s : Bytes) → AllSixteen k.awaited → awaited_by k s ≡ found_by k s
  pub answered : (k : Life) (s : Bytes) → AllSixteen k.awaited → answered_to s k ≡ with_awaited (left_by k s) k
  -- "Ignored (1)"
  pub ignored : (k : Life) (s : Bytes) → AllSixteen k.awaited → is_ignored k (read_packet s) ≡ ignored_by k (head_at s)
  -- "Reasons, first that applies"
  pub reason : (m : Machine) (l : ℕ) (j : Json) → reason_of m l j ≡ reason_by m l j
  pub further : (m : Machine) (l : ℕ) (j : Json) → FurtherReasons m l j
  -- the elements that are needed
  pub alarm : (s : Bytes) (j : Json) → read_packet s ≡ some j → AlarmReads j (alarm_at s)
  pub watchdog : (s : Bytes) (j : Json) → read_packet s ≡ some j → WatchdogReads j (watchdog_at s)
  pub aggregated : (s : Bytes) (j : Json) → read_packet s ≡ some j → AggregatedReads j (aggregated_at s)
  -- a string that is kept is that string
  pub kept : (s : Bytes) → text_of (label_of s) ≡ s
