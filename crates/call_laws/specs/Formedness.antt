-- Every message that a sound site writes is well-formed, and a done call writes exactly its messages' bytes, 4,096 at most, each of which
-- reads back to its message. Statements only: their proofs are `messages`, `plans`, `received` and `outputs`.
-- Assumes nothing.
use Rattle.std.specs.Prelude.{ℕ, ◌≤◌, ◌<◌, ◌≡◌, Bool, List, [], ◌∷◌, ◌++◌, length, take, drop}
use Rattle.answer.specs.declared.Refusal.{Refusal}
use Rattle.answer.specs.declared.Report.{Report}
use Rattle.answer.specs.declared.Answer.TheVariants.{Done}
use Rattle.identity.specs.declared.Identity.{Identity}
use Rattle.identity.specs.Read.{SixteenBytes}
use Rattle.identity.specs.Version.{version4_of}
use Rattle.entry.specs.declared.Entry.{Entry}
use Rattle.names.specs.Names.{IsReason}
use Rattle.label.specs.Label.{text_of as label_text}
use Rattle.json_packet.specs.Packet.{Packet}
use Rattle.json_write.specs.Text.{text_of}
use Rattle.write_message.specs.Message.{Message}
use Rattle.write_message.specs.Message.Message.{version, watchdog}
use Rattle.write_message.specs.Listing.{json_of, bytes_of}
use Rattle.write_laws.specs.Formed.{Formed, Received}
use Rattle.write_laws.specs.Fields.{fields_of}
use Rattle.read_head.specs.declared.Verdict.{Verdict}
use Rattle.read_head.specs.declared.Kind.{Kind}
use Rattle.read_head.specs.declared.Class.TheVariants.{Asked}
use Rattle.read_head.specs.declared.GotTime.{GotTime}
use Rattle.read_head.specs.declared.GotLabel.{GotLabel}
use Rattle.read_head.specs.declared.AlarmFields.{AlarmFields}
use Rattle.read_head.specs.Head.{head_at}
use Rattle.read_lists.specs.declared.VersionFields.{VersionFields}
use Rattle.read_lists.specs.declared.StatusFields.{StatusFields}
use Rattle.read_lists.specs.declared.Asking.TheVariants.{Plain}
use Rattle.read_lists.specs.Status.{status_at}
use Rattle.read_commands.specs.Command.{command_at}
use Rattle.site.specs.declared.Site.{Site}
use Rattle.site.specs.declared.Step.{Step}
use Rattle.site.specs.Call.{Plan, Gives}
use Rattle.send_message.specs.Sending.{alarm_message, aggregated_message, entry_message}
use Rattle.call_pump.specs.Pump.{pump_plan}
use Rattle.packet_answer.specs.declared.Question.{Question}
use Rattle.packet_answer.specs.Taken.{not_acked}
use Rattle.packet_greet.specs.Answered.{answered_plan}
use Rattle.packet_greet.specs.Version.{version_taken}
use Rattle.packet_greet.specs.Watchdog.{watchdog_taken}
use Rattle.packet_subscribe.specs.Subscribing.{subscribing_taken}
use Rattle.packet_alarm.specs.Orders.{alarm_taken, aggregated_taken}
use Rattle.packet_status.specs.StatusReply.{status_taken}
use Rattle.packet_command.specs.Commanding.{command_taken}
use Rattle.call_laws.specs.Sound.{EntryOf, SoundAt}

-- each is well-formed
abbrev pub EachFormed : List Message → Type 0
EachFormed [] = Unit {0}
EachFormed (m ∷ ms) = Formed m × EachFormed ms

-- their bytes, one behind the other, form feeds included
abbrev pub all_bytes : List Message → List ℕ
all_bytes [] = []
all_bytes (m ∷ ms) = bytes_of m ++ all_bytes ms

-- the messages of a call: well-formed, with room in 4,096 bytes
pub record Sendable (ms : List Message) : Type 0 where
  pub formed : EachFormed ms
  pub room : length (all_bytes ms) ≤ 4096

-- ---- the messages that tell a part of a sound site
pub record Messages : Type 0 where
  pub version : (now : ℕ) (s : Site) → SoundAt now s → (id : List ℕ) → SixteenBytes id → Formed (version id (label_text s.table.site) (label_text s.table.sxl))
  pub alarm : (now : ℕ) (s : Site) → SoundAt now s → (id : List ℕ) → SixteenBytes id → (k : ℕ) → k < s.table.alarmcount → Formed (alarm_message s id k)
  pub aggregated : (now : ℕ) (s : Site) → SoundAt now s → (id : List ℕ) → SixteenBytes id → Formed (aggregated_message s id)
  -- of a held record
  pub entry : (now : ℕ) (s : Site) → SoundAt now s → (id : List ℕ) → SixteenBytes id → (e : Entry) → EntryOf s now e → Formed (entry_message s id e)

-- ---- the messages of every call that writes
pub record Plans : Type 0 where
  pub identity : (bs : List ℕ) → SixteenBytes bs → SixteenBytes (version4_of bs)
  pub pump : (time : ℕ) (s : Site) → SoundAt time s → (l : ℕ) (id : Identity) → SixteenBytes id.bytes → Sendable (pump_plan s l time id).messages
  pub answered : (s : Site) (l : ℕ) (id : Identity) (acknowledged : Bool) → (answered_plan s l id acknowledged).messages ≡ []
  pub refused : (s : Site) (q : Question) → Received q.received.bytes → (reason : ℕ) → IsReason reason → Sendable (not_acked s q reason).plan.messages
  pub version : (s : Site) (q : Question) → Received q.received.bytes → (f : VersionFields) → Sendable (version_taken s q f).plan.messages
  pub watchdog : (s : Site) (q : Question) → Received q.received.bytes → (f : GotTime) → Sendable (watchdog_taken s q f).plan.messages
  pub subscribing : (subscribing : Bool) (s : Site) (q : Question) → Received q.received.bytes → (f : StatusFields)
      → Sendable (subscribing_taken subscribing s q f).plan.messages
  pub alarm : (s : Site) (q : Question) → SoundAt q.time s → SixteenBytes q.identity.bytes → Received q.received.bytes → (f : AlarmFields)
      → Sendable (alarm_taken s q f).plan.messages
  pub aggregated : (s : Site) (q : Question) → SoundAt q.time s → SixteenBytes q.identity.bytes → Received q.received.bytes → (f : GotLabel)
      → Sendable (aggregated_taken s q f).plan.messages
  -- a StatusRequest and a CommandRequest, their fields read from the packet's bytes
  pub status : (s : Site) (q : Question) → SoundAt q.time s → SixteenBytes q.identity.bytes → Received q.received.bytes → (packet : List ℕ)
      → Sendable (status_taken s q (status_at Plain packet)).plan.messages
  pub command : (s : Site) (q : Question) → SoundAt q.time s → SixteenBytes q.identity.bytes → Received q.received.bytes → (packet : List ℕ)
      → Sendable (command_taken s q (command_at packet)).plan.messages

-- the mId of a packet that is a request, as it was received
abbrev pub ReceivedIn : Type 0
ReceivedIn = (packet : List ℕ) (v : Verdict) (k : Kind) → (head_at packet).class ≡ Asked v k → Received (head_at packet).received.bytes

-- ---- what a done call writes
-- its text is one packet, whose fields are its own
pub record ReadsBack (m : Message) : Type 0 where
  pub packet : Packet (text_of (json_of m)) (json_of m)
  pub fields : fields_of (json_of m) ≡ m

abbrev pub EachReadsBack : List Message → Type 0
EachReadsBack [] = Unit {0}
EachReadsBack (m ∷ ms) = ReadsBack m × EachReadsBack ms

pub record Wrote (ms : List Message) (xs ys : List ℕ) (d : Report) : Type 0 where
  pub counted : d.written ≡ length (all_bytes ms)
  pub most : d.written ≤ 4096
  pub first : take d.written ys ≡ all_bytes ms
  pub behind : drop d.written ys ≡ drop d.written xs
  pub read_back : EachReadsBack ms

abbrev pub Outputs : Type 0
Outputs = (s : Site) (time : ℕ) (refuses : Refusal → Bool) (p : Plan) (xs ys : List ℕ) (r : Step) (d : Report)
    → Gives s time refuses p xs ys r → r.answer ≡ Done d → 4096 ≤ length xs → Sendable p.messages → Wrote p.messages xs ys d
