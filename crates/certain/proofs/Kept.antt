-- What is certain is proved.
-- Assumes nothing.
use Rattle.basis.proofs.Std.{List, ℕ}
use Rattle.number.proofs.Kept.{kept as alphabet}
use Rattle.number.proofs.RoundTrip.{signed_word}
use Rattle.identity.proofs.Read.{answers as identity_read, read_written as identity_written}
use Rattle.calendar.proofs.Reading.{answers as time_read, read_written as time_written}
use Rattle.entry.specs.declared.Unpacked.{Unpacked}
use Rattle.entry.specs.Reading.{Reads as ReadsRecord}
use Rattle.entry.proofs.RoundTrip.{round_trip}
use Rattle.json_character.proofs.Kept.{kept as characters}
use Rattle.json_text.proofs.Kept.{kept as strings}
use Rattle.json_number.proofs.Kept.{kept as numbers}
use Rattle.json_value.proofs.Kept.{kept as values}
use Rattle.json_packet.proofs.Kept.{kept as packets}
use Rattle.table_whole.proofs.Whole.{same_table}
use Rattle.write_laws.proofs.Kept.{kept as messages}
use Rattle.machine.proofs.Computed.{marked, conversation}
use Rattle.machine_cases.proofs.Cases.{cases}
use Rattle.demand_refused.proofs.Demand.{demand1}
use Rattle.demand_told.proofs.Demand.{demand2}
use Rattle.demand_told.proofs.GreetedDemand.{demand_greeted}
use Rattle.demand_told.proofs.VersionDemand.{demand_version}
use Rattle.demand_told.proofs.IncludedDemand.{demand_included}
use Rattle.demand_told.proofs.ReadDemand.{demand_read}
use Rattle.demand_held.proofs.Demand.{demand3}
use Rattle.demand_apart.proofs.Apart.{demand_apart}
use Rattle.demand_apart.proofs.Example.{apart_example}
use Rattle.demand_carried.proofs.Demand.{demand_carried}
use Rattle.demand_carried.proofs.Marked.{demand_marked}
use Rattle.demand_issued.proofs.Tells.{demand_tells}
use Rattle.demand_issued.proofs.Goes.{demand_issues}
use Rattle.demand_issued.proofs.Replies.{demand_replies}
use Rattle.demand_issued.proofs.Pumps.{demand_pumps}
use Rattle.demand_issued.proofs.Sends.{demand_sends}
use Rattle.demand_happens.proofs.Pumped.{pumping}
use Rattle.demand_happens.proofs.Greeting.{greeting}
use Rattle.demand_happens.proofs.Records.{sending}
use Rattle.demand_waits.proofs.Waits.{waiting}
use Rattle.demand_waits.proofs.Example.{computed as waiting_example}
use Rattle.demand_taken.proofs.Taken.{demand_taken}
use Rattle.demand_taken.proofs.Commands.{demand_commands}
use Rattle.demand_taken.proofs.Closing.{demand_closing}
use Rattle.demand_taken.proofs.Beats.{demand_beats}
use Rattle.refine_read.proofs.Identity.{readable as identity_is}
use Rattle.equation.proofs.Calls.{equation}
use Rattle.week_promise.proofs.Kept.{kept as weekly}
use Rattle.certain.proofs.Csv.{csv}
use Rattle.certain.proofs.Editions.{same_edition}
use Rattle.certain.proofs.Identities.{identity_of_lem}
use Rattle.certain.specs.Certain.{Demands, Grammar, Unpacks, Codecs, Certain}
use Rattle.certain.specs.Certain.Unpacks.{unpacks}

demands : Demands
demands =
    record {
      refusing = demand1;
      telling = demand2;
      greeted = demand_greeted;
      reads_back = demand_read;
      taking = demand_taken;
      commanding = demand_commands;
      closing = demand_closing;
      choosing = demand_version;
      including = demand_included;
      beating = demand_beats;
      issuing = demand_issues;
      replying = demand_replies;
      pumped = demand_pumps;
      telling_records = demand_tells;
      keeping = demand3;
      keeping_apart = demand_apart;
      apart_example = apart_example;
      carrying = demand_carried;
      marking = demand_marked;
      pumping = pumping;
      greeting = greeting;
      sending = sending;
      sending_among = demand_sends;
      waiting = waiting;
      waiting_example = waiting_example;
    }

grammar : Grammar
grammar = record { characters = characters; strings = strings; numbers = numbers; values = values; packets = packets }

record_read : (b : List ℕ) (r : Unpacked) → Unpacks b r → ReadsRecord b r
record_read b r (unpacks κs p x e q) = q

codecs : Codecs
codecs =
    record {
      alphabet = alphabet;
      time_read = time_read;
      time_written = time_written;
      identity_read = identity_read;
      identity_written = identity_written;
      identity_is = identity_is;
      identity_of_lem = identity_of_lem;
      record_read = record_read;
      record_back = λ e r v q. round_trip v (record_read _ r q);
      value_back = signed_word;
      table_back = λ d e t u v w p. (same_edition t u v w p, same_table t u v w p);
      messages = messages;
    }

pub kept : Certain
kept =
    record {
      equation = equation;
      demands = demands;
      grammar = grammar;
      codecs = codecs;
      marked = marked;
      conversation = conversation;
      cases = cases;
      weekly = weekly;
      csv = csv;
    }
