-- What is certain of the product: every statement that a reviewer need believe, each a field, and one theorem, `kept`, for all of them.
-- A host of the exported functions sees what the machine shows (the equation); the three demands hold over every run of the machine; what the machine
-- reads and writes is RFC 8259's and document 01's; the weekly report of a stream is that of its entries; records go to CSV and back. Of every function the checker itself gives that no
-- call crashes, hangs or leaves the memory it was lent.
-- Assumes nothing.
use Rattle.std.specs.Prelude.{ℕ, ◌≤◌, ◌<◌, ◌≡◌, List, ℤ}
use contract.Lifetimes.{Lfts}
use denote.Triple.Clauses.{AtExit}
use borrow.Fn.Kinds.{ended_of}
use Rattle.answer.specs.Times.{last_time}
use Rattle.number.specs.Signed.{Signed32, signed_of, word_of}
use Rattle.number.specs.Claims.{Claims as Alphabet}
use Rattle.identity.specs.Read.{SixteenBytes, Answers, read_identity, found}
use Rattle.identity.specs.Text.{identity_text}
use Rattle.calendar.specs.declared.Time.TheVariants.{Is}
use Rattle.calendar.specs.Text.{time_text}
use Rattle.calendar.specs.Read.{Reads as ReadsTime, read_time}
use Rattle.entry.specs.declared.Entry.{Entry}
use Rattle.entry.specs.declared.Packed.{Packed}
use Rattle.entry.specs.declared.Unpacked.{Unpacked}
use Rattle.entry.specs.declared.Unpacked.TheVariants.{Accepted}
use Rattle.entry.specs.Layout.{bytes_of}
use Rattle.entry.specs.Reading.{Reads as ReadsRecord}
use Rattle.entry.specs.Valid.{Valid, Decides}
use Rattle.entry.proofs.unpack.Reads as unpack
use Rattle.entry.proofs.unpack.Kinds as unpack_kinds
use Rattle.json_character.specs.Claims.{Claims as Characters}
use Rattle.json_text.specs.Claims.{Claims as Strings}
use Rattle.json_number.specs.Claims.{Claims as Numbers}
use Rattle.json_value.specs.Claims.{Claims as Values}
use Rattle.json_packet.specs.Claims.{Claims as Packets}
use Rattle.table_whole.specs.Table.{Table}
use Rattle.table_whole.specs.Bytes.{table_bytes}
use Rattle.table_whole.specs.Allowed.{Allowed}
use Rattle.write_laws.specs.Claims.{Claims as Messages}
use Rattle.machine.specs.Json.{is_identity, is_identity_of}
use Rattle.machine.specs.Computed.{Marked, Conversation}
use Rattle.machine_cases.specs.Cases.{Cases}
use Rattle.demand_refused.specs.Demand.{Demand1}
use Rattle.demand_told.specs.Demand.{Demand2}
use Rattle.demand_told.specs.GreetedDemand.{DemandGreeted}
use Rattle.demand_told.specs.VersionDemand.{DemandVersion}
use Rattle.demand_told.specs.IncludedDemand.{DemandIncluded}
use Rattle.demand_told.specs.ReadDemand.{DemandRead}
use Rattle.demand_held.specs.Demand.{Demand3}
use Rattle.demand_apart.specs.Apart.{DemandApart}
use Rattle.demand_apart.specs.Example.{ApartExample}
use Rattle.demand_carried.specs.Demand.{DemandCarried}
use Rattle.demand_carried.specs.Marked.{DemandMarked}
use Rattle.demand_issued.specs.Tells.{DemandTells}
use Rattle.demand_issued.specs.Issues.{DemandIssues}
use Rattle.demand_issued.specs.Replies.{DemandReplies}
use Rattle.demand_issued.specs.Pumps.{DemandPumps}
use Rattle.demand_issued.specs.Sends.{DemandSends}
use Rattle.demand_happens.specs.Pumped.{Pumping}
use Rattle.demand_happens.specs.Greeting.{Greeting}
use Rattle.demand_happens.specs.Records.{Sending}
use Rattle.demand_waits.specs.Waits.{Waiting}
use Rattle.demand_waits.specs.Example.{Computed as WaitingExample}
use Rattle.demand_taken.specs.Taken.{DemandTaken}
use Rattle.demand_taken.specs.Commands.{DemandCommands}
use Rattle.demand_taken.specs.Closing.{DemandClosing}
use Rattle.demand_taken.specs.Beats.{DemandBeats}
use Rattle.equation.specs.Equation.{Equation}
use Rattle.week_promise.specs.Claims.{Claims as Weekly}
use Rattle.certain.specs.Csv.{Csv}

-- The three demands, over every sequence of calls of the machine.
pub record Demands : Type 0 where
  -- 1. "A refused call gives the number that document 01 fixes, and the site's state .. stay exactly as before." Of the lent buffers the
  -- equation says it: `refused`
  pub refusing : Demand1
  -- 2. "every request that document 01 says is answered gets exactly one MessageAck or MessageNotAck", request 04: "or such a response"; "a secondary
  -- supervisor gets no alarm"
  pub telling : Demand2
  -- "no alarm or status leaves on a link before versions are agreed and watchdogs exchanged", on the packets and messages of this life
  pub greeted : DemandGreeted
  -- "every message written reads back to the same fields"
  pub reads_back : DemandRead
  -- in Greeting and Beating nothing but the greeting is taken, on the packets and messages of this life; what is no answer is heard
  pub taking : DemandTaken
  -- request 01: "A value in its range is handed to the host and answered with age recent", in the order of the entries, and nothing else is
  pub commanding : DemandCommands
  -- "A failure of these three sends MessageNotAck and closes the link"; a MessageNotAck to our Version, or to our Watchdog while Beating, closes it; "the
  -- latest common one is chosen"
  pub closing : DemandClosing
  -- request 07: "prove the selection once over any offered list"
  pub choosing : DemandVersion
  -- request 04: "one response .., so it takes no awaited place and is never "Busy""; what it shares with the old types
  pub including : DemandIncluded
  -- "Due in Up ..: Watchdog a period or more after the last"
  pub beating : DemandBeats
  -- "Each call issues, sends, answers .. what that document lays down and nothing else": which records, by the last input, order, value and
  -- subscription of the history; what a reply and a pump tell; what a message that carries a record tells, by the record's sixteen bytes
  pub issuing : DemandIssues
  pub replying : DemandReplies
  pub pumped : DemandPumps
  pub telling_records : DemandTells
  -- 3. "a record issued for a supervisor stays held until that supervisor answers a message carrying it, or until a call issues a record after
  -- which at least 16 newer records for the same supervisor are held. None ever has more than 64 held." Request 10: of each of eight owners
  pub keeping : Demand3
  -- request 10: "in every sequence where no record is issued while the pool is full, the numbers and bytes of one site are the same as if the other's
  -- calls had never been made"; such a sequence, and one where the pool is full
  pub keeping_apart : DemandApart
  pub apart_example : ApartExample
  -- "a message carrying it": one that told the record, went out on its link in this life of it, and was not answered since
  pub carrying : DemandCarried
  -- "the oldest held record not sent": a record is marked sent exactly while its link awaits an answer to a message that carries it
  pub marking : DemandMarked
  -- "greets properly and then only pretends to issue or send": what is due goes out, a greeting leads to Up, every held record is sent
  pub pumping : Pumping
  pub greeting : Greeting
  pub sending : Sending
  -- with other calls in between, and again in a new life of its link
  pub sending_among : DemandSends
  -- request 13: "A held record that has not been sent is sent or lost within 2 + A + K such pumps"; records that wait so long, and shorter
  pub waiting : Waiting
  pub waiting_example : WaitingExample

-- RFC 8259: the readers that the machine cites read the grammar and nothing else, and each text has one meaning.
pub record Grammar : Type 1 where
  pub characters : Characters
  pub strings : Strings
  pub numbers : Numbers
  pub values : Values
  pub packets : Packets

-- the record reader by its own contract: the bytes that it is given, and what it makes of them
pub data Unpacks : List ℕ → Unpacked → Type 0 where
  unpacks : (κs : Lfts 0) (p : Packed) (r : Unpacked) (e : AtExit (ended_of 0 unpack_kinds.ps unpack_kinds.r) κs) → unpack.Learnt κs (p, tt) r e → Unpacks p.bytes r

-- The forms of document 01, both ways.
pub record Codecs : Type 0 where
  -- 1 to 32 bytes of the table's alphabet
  pub alphabet : Alphabet
  -- "Times are `YYYY-MM-DDThh:mm:ss.mmmZ`, 1970 to 9999"
  pub time_read : (s : List ℕ) → ReadsTime s (read_time s)
  pub time_written : (ms : ℕ) → ms ≤ last_time → read_time (time_text ms) ≡ Is ms 3
  -- "Identities are 36 characters, hex 8-4-4-4-12, either case"
  pub identity_read : (s : List ℕ) → Answers s (read_identity s)
  pub identity_written : (bs : List ℕ) → SixteenBytes bs → read_identity (identity_text bs) ≡ found bs
  -- by which the machine's own tests go
  pub identity_is : (s : List ℕ) → is_identity s ≡ (read_identity s).found
  pub identity_of_lem : (bs s : List ℕ) → SixteenBytes bs → Decides (is_identity_of bs s) (read_identity s ≡ found bs)
  -- "Record, 128 bits": of a record's bytes the record, of all others number 11
  pub record_read : (b : List ℕ) (r : Unpacked) → Unpacks b r → ReadsRecord b r
  pub record_back : (e : Entry) (r : Unpacked) → Valid e → Unpacks (bytes_of e) r → r ≡ Accepted e
  pub value_back : (v : ℤ) → Signed32 v → signed_of (word_of v) ≡ v
  -- "Site table": its bytes are those of one table in one edition
  pub table_back : (d e : ℕ) (t u : Table) → Allowed d t → Allowed e u → table_bytes d t ≡ table_bytes e u → (d ≡ e) × (t ≡ u)
  -- a message's text is one packet, whose fields are the message's
  pub messages : Messages

pub record Certain : Type 1 where
  pub equation : Equation
  pub demands : Demands
  pub grammar : Grammar
  pub codecs : Codecs
  -- the cases that document 01 marks, and a conversation from bytes to bytes
  pub marked : Marked
  pub conversation : Conversation
  -- a case, or several, of each rule of document 01 and of requests 01, 02, 04, 05, 07 and 10
  pub cases : Cases
  pub weekly : Weekly
  -- request 12
  pub csv : Csv
