-- What the exported functions' contracts allow: each constructor cites the contract of sitec's function of its name, which sitec_c exports with the same
-- clauses. The host lends the pool's words, which go from ps to qs, a site's, which go from ws to vs, and the bytes ts of its table.
-- Assumes nothing.
use Rattle.std.specs.Prelude.{ℕ, zero, suc, ◌/◌, ◌%◌, ◌^◌, ◌<◌, ◌≡◌, List, [], ◌∷◌, map, ltb, ℤ, length, take}
use contract.Lifetimes.{Lfts}
use Rattle.std.specs.Borrow.{Bor, MutBor}
use denote.Triple.Clauses.{AtExit}
use borrow.Fn.Kinds.{ended_of}
use Rattle.number.specs.Signed.{signed_of}
use Rattle.identity.specs.declared.Identity.{Identity}
use Rattle.pool.specs.declared.Reading.{Reading}
use Rattle.call_read.specs.declared.ChosenVersion.{ChosenVersion}
use Rattle.sitec.specs.declared.Outcome.{Outcome}
use Rattle.sitec.proofs.starting.rsmp_lent_start.Reads as rsmp_start
use Rattle.sitec.proofs.starting.rsmp_lent_start.Kinds as start_kinds
use Rattle.sitec.proofs.links.rsmp_lent_connect.Reads as rsmp_connect
use Rattle.sitec.proofs.links.rsmp_lent_connect.Kinds as connect_kinds
use Rattle.sitec.proofs.links.rsmp_lent_disconnect.Reads as rsmp_disconnect
use Rattle.sitec.proofs.links.rsmp_lent_disconnect.Kinds as disconnect_kinds
use Rattle.sitec.proofs.messages.rsmp_lent_packet.Reads as rsmp_packet
use Rattle.sitec.proofs.messages.rsmp_lent_packet.Kinds as packet_kinds
use Rattle.sitec.proofs.inputs.rsmp_lent_alarm.Reads as rsmp_alarm
use Rattle.sitec.proofs.inputs.rsmp_lent_alarm.Kinds as alarm_kinds
use Rattle.sitec.proofs.inputs.rsmp_lent_status.Reads as rsmp_status
use Rattle.sitec.proofs.inputs.rsmp_lent_status.Kinds as status_kinds
use Rattle.sitec.proofs.inputs.rsmp_lent_aggregated.Reads as rsmp_aggregated
use Rattle.sitec.proofs.inputs.rsmp_lent_aggregated.Kinds as aggregated_kinds
use Rattle.sitec.proofs.inputs.rsmp_lent_tick.Reads as rsmp_tick
use Rattle.sitec.proofs.inputs.rsmp_lent_tick.Kinds as tick_kinds
use Rattle.sitec.proofs.messages.rsmp_lent_pump.Reads as rsmp_pump
use Rattle.sitec.proofs.messages.rsmp_lent_pump.Kinds as pump_kinds
use Rattle.sitec.proofs.readings.rsmp_lent_held.Reads as rsmp_held
use Rattle.sitec.proofs.readings.rsmp_lent_held.Kinds as held_kinds
use Rattle.sitec.proofs.readings.rsmp_lent_lost.Reads as rsmp_lost
use Rattle.sitec.proofs.readings.rsmp_lent_lost.Kinds as lost_kinds
use Rattle.sitec.proofs.readings.rsmp_lent_phase.Reads as rsmp_phase
use Rattle.sitec.proofs.readings.rsmp_lent_phase.Kinds as phase_kinds
use Rattle.sitec.proofs.readings.rsmp_lent_version_of.Reads as rsmp_version_of
use Rattle.sitec.proofs.readings.rsmp_lent_version_of.Kinds as version_of_kinds
use Rattle.sitec.proofs.readings.rsmp_lent_record.Reads as rsmp_record
use Rattle.sitec.proofs.readings.rsmp_lent_record.Kinds as record_kinds
use Rattle.machine.specs.Words.{Bytes}
use Rattle.machine.specs.State.{Command, command_of, Act}
use Rattle.machine.specs.State.Act.{connect, disconnect, packet, alarm_input, status_value, aggregated_value, tick, pump}
use Rattle.equation.specs.Seen.{Ask, Asking, Seen, start_for}
use Rattle.equation.specs.Seen.Asking.{start_of, ask_of}
use Rattle.equation.specs.Seen.Ask.{call, held, lost, phase, version, record_of}
use Rattle.equation.specs.Seen.Seen.{told, count, numbers, entry}

-- the command of a word: its number is the high half, its value the low one
abbrev pub command_in : ℕ → Command
command_in word = command_of (word / 2 ^ 32) (signed_of (word % 2 ^ 32))

-- what is seen of an outcome, of the output afterwards, and of the words lent for commands, of which so many are counted
abbrev pub packet_seen : Bytes → List ℕ → Outcome → Seen
packet_seen output words o = told o output (map command_in (take o.commands words))

abbrev pub outcome_seen : Bytes → Outcome → Seen
outcome_seen output o = packet_seen output [] o

-- a call that lends no output
abbrev pub calls : ℕ → Act → Ask
calls t act = call (record { time = t; act = act }) []

-- one that does: its length is the room
abbrev pub lends : ℕ → (ℕ → Act) → Bytes → Ask
lends t act output = call (record { time = t; act = act (length output) }) output

-- a packet call, whatever the lengths of what is lent: table, pool and words, the words lent for commands, the output; and all four afterwards
pub data Packets : Bytes → List ℕ → List ℕ → List ℕ → Bytes → Outcome → List ℕ → List ℕ → List ℕ → Bytes → Type 0 where
  packet_call : (κs : Lfts 6) (p w : MutBor (List ℕ)) (table : Bor (List ℕ)) (l t : ℕ) (random : Identity) (received : Bor (List ℕ)) (commands out : MutBor (List ℕ)) (o : Outcome) (e : AtExit (ended_of 6 packet_kinds.ps packet_kinds.r) κs)
      → rsmp_packet.Learnt κs (p, (w, (table, (l, (t, (random, (received, (commands, (out, tt))))))))) o e
      → Packets table.now p.now w.now commands.now out.now o e.0.now e.1.0.now e.1.1.1.1.1.1.1.0.now e.1.1.1.1.1.1.1.1.0.now

-- pool, words and table before; the bytes of a site table and the start values; what is handed out; pool, words and table afterwards
pub data Starts : List ℕ → List ℕ → Bytes → Bytes → ℕ → ℕ → ℕ → ℕ → ℕ → ℕ → Outcome → List ℕ → List ℕ → Bytes → Type 0 where
  starts : (κs : Lfts 4) (p w t : MutBor (List ℕ)) (table : Bor (List ℕ)) (site links primary period first time : ℕ) (o : Outcome) (e : AtExit (ended_of 4 start_kinds.ps start_kinds.r) κs)
      → rsmp_start.Learnt κs (p, (w, (t, (table, (site, (links, (primary, (period, (first, (time, tt)))))))))) o e
      → Starts p.now w.now t.now table.now site links primary period first time o e.0.now e.1.0.now e.1.1.0.now

-- table, pool and words, an ask, what a host sees of it, and the pool and the words afterwards
pub data Allows : Bytes → List ℕ → List ℕ → Ask → Seen → List ℕ → List ℕ → Type 0 where
  connects : {ts : Bytes} (κs : Lfts 2) (p : Bor (List ℕ)) (w : MutBor (List ℕ)) (l t : ℕ) (o : Outcome) (e : AtExit (ended_of 2 connect_kinds.ps connect_kinds.r) κs)
      → rsmp_connect.Learnt κs (p, (w, (l, (t, tt)))) o e → Allows ts p.now w.now (calls t (connect l)) (outcome_seen [] o) p.now e.1.0.now
  disconnects : {ts : Bytes} (κs : Lfts 2) (p w : MutBor (List ℕ)) (l t : ℕ) (o : Outcome) (e : AtExit (ended_of 2 disconnect_kinds.ps disconnect_kinds.r) κs)
      → rsmp_disconnect.Learnt κs (p, (w, (l, (t, tt)))) o e → Allows ts p.now w.now (calls t (disconnect l)) (outcome_seen [] o) e.0.now e.1.0.now
  -- sixteen words are lent for its commands
  packets : (κs : Lfts 6) (p w : MutBor (List ℕ)) (table : Bor (List ℕ)) (l t : ℕ) (random : Identity) (received : Bor (List ℕ)) (commands out : MutBor (List ℕ)) (o : Outcome) (e : AtExit (ended_of 6 packet_kinds.ps packet_kinds.r) κs)
      → rsmp_packet.Learnt κs (p, (w, (table, (l, (t, (random, (received, (commands, (out, tt))))))))) o e → length commands.now ≡ 16
      → Allows table.now p.now w.now (lends t (packet l random.bytes received.now) out.now)
      (packet_seen e.1.1.1.1.1.1.1.1.0.now e.1.1.1.1.1.1.1.0.now o) e.0.now e.1.0.now
  -- active where it is not 0
  alarms : (κs : Lfts 3) (p w : MutBor (List ℕ)) (table : Bor (List ℕ)) (i active t : ℕ) (o : Outcome) (e : AtExit (ended_of 3 alarm_kinds.ps alarm_kinds.r) κs)
      → rsmp_alarm.Learnt κs (p, (w, (table, (i, (active, (t, tt)))))) o e
      → Allows table.now p.now w.now (calls t (alarm_input i (ltb 0 active))) (outcome_seen [] o) e.0.now e.1.0.now
  statuses : (κs : Lfts 3) (p w : MutBor (List ℕ)) (table : Bor (List ℕ)) (i : ℕ) (v : ℤ) (t : ℕ) (o : Outcome) (e : AtExit (ended_of 3 status_kinds.ps status_kinds.r) κs)
      → rsmp_status.Learnt κs (p, (w, (table, (i, (v, (t, tt)))))) o e
      → Allows table.now p.now w.now (calls t (status_value i v)) (outcome_seen [] o) e.0.now e.1.0.now
  aggregates : {ts : Bytes} (κs : Lfts 2) (p w : MutBor (List ℕ)) (v t : ℕ) (o : Outcome) (e : AtExit (ended_of 2 aggregated_kinds.ps aggregated_kinds.r) κs)
      → rsmp_aggregated.Learnt κs (p, (w, (v, (t, tt)))) o e → Allows ts p.now w.now (calls t (aggregated_value v)) (outcome_seen [] o) e.0.now e.1.0.now
  ticks : {ts : Bytes} (κs : Lfts 2) (p w : MutBor (List ℕ)) (t : ℕ) (o : Outcome) (e : AtExit (ended_of 2 tick_kinds.ps tick_kinds.r) κs)
      → rsmp_tick.Learnt κs (p, (w, (t, tt))) o e → Allows ts p.now w.now (calls t tick) (outcome_seen [] o) e.0.now e.1.0.now
  pumps : (κs : Lfts 4) (p w : MutBor (List ℕ)) (table : Bor (List ℕ)) (l t : ℕ) (random : Identity) (out : MutBor (List ℕ)) (o : Outcome) (e : AtExit (ended_of 4 pump_kinds.ps pump_kinds.r) κs)
      → rsmp_pump.Learnt κs (p, (w, (table, (l, (t, (random, (out, tt))))))) o e
      → Allows table.now p.now w.now (lends t (pump l random.bytes) out.now) (outcome_seen e.1.1.1.1.1.1.0.now o) e.0.now e.1.0.now
  reads_held : {ts : Bytes} (κs : Lfts 2) (p w : Bor (List ℕ)) (l n : ℕ) (e : AtExit (ended_of 2 held_kinds.ps held_kinds.r) κs)
      → rsmp_held.Learnt κs (p, (w, (l, tt))) n e → Allows ts p.now w.now (held l) (count n) p.now w.now
  reads_lost : {ts : Bytes} (κs : Lfts 2) (p w : Bor (List ℕ)) (l n : ℕ) (e : AtExit (ended_of 2 lost_kinds.ps lost_kinds.r) κs)
      → rsmp_lost.Learnt κs (p, (w, (l, tt))) n e → Allows ts p.now w.now (lost l) (count n) p.now w.now
  reads_phase : {ts : Bytes} (κs : Lfts 2) (p w : Bor (List ℕ)) (l n : ℕ) (e : AtExit (ended_of 2 phase_kinds.ps phase_kinds.r) κs)
      → rsmp_phase.Learnt κs (p, (w, (l, tt))) n e → Allows ts p.now w.now (phase l) (count n) p.now w.now
  reads_version : {ts : Bytes} (κs : Lfts 2) (p w : Bor (List ℕ)) (l : ℕ) (v : ChosenVersion) (e : AtExit (ended_of 2 version_of_kinds.ps version_of_kinds.r) κs)
      → rsmp_version_of.Learnt κs (p, (w, (l, tt))) v e → Allows ts p.now w.now (version l) (numbers (v.major ∷ v.minor ∷ v.patch ∷ [])) p.now w.now
  reads_record : {ts : Bytes} (κs : Lfts 2) (p w : Bor (List ℕ)) (l r : ℕ) (x : Reading) (e : AtExit (ended_of 2 record_kinds.ps record_kinds.r) κs)
      → rsmp_record.Learnt κs (p, (w, (l, (r, tt)))) x e → Allows ts p.now w.now (record_of l r) (entry x.found x.bytes) p.now w.now

-- what is lent of a site, and of a box: one pool, two sites
pub record Part : Type 0 where
  pub words : List ℕ
  pub table : Bytes

pub record Memory : Type 0 where
  pub pool : List ℕ
  pub north : Part
  pub south : Part

abbrev pub part_of : ℕ → Memory → Part
part_of zero m = m.north
part_of (suc k) m = m.south

-- the memory with another pool, and other words and another table of site k
abbrev pub leaving : ℕ → List ℕ → List ℕ → Bytes → Memory → Memory
leaving zero qs vs us m = record { pool = qs; north = record { words = vs; table = us }; south = m.south }
leaving (suc k) qs vs us m = record { pool = qs; north = m.north; south = record { words = vs; table = us } }

-- ask after ask, each on the memory that the one before left
pub data Run : Memory → List Asking → List Seen → Type 0 where
  ends : {m : Memory} → Run m [] []
  asks : {m : Memory} {k : ℕ} {qs vs : List ℕ} {a : Ask} {x : Seen} {more : List Asking} {xs : List Seen} → k < 2
      → Allows (part_of k m).table m.pool (part_of k m).words a x qs vs → Run (leaving k qs vs (part_of k m).table m) more xs → Run m (ask_of k a ∷ more) (x ∷ xs)
  begins : {m : Memory} {k : ℕ} {table : Bytes} {links primary period first time : ℕ} {o : Outcome} {qs vs : List ℕ} {us : Bytes} {more : List Asking} {xs : List Seen} → k < 2
      → Starts m.pool (part_of k m).words (part_of k m).table table k links primary period first time o qs vs us
      → Run (leaving k qs vs us m) more xs → Run m (start_of (start_for k table links primary period first time) ∷ more) (outcome_seen [] o ∷ xs)

-- no function asks anything of what it is given
pub record Free : Type 0 where
  pub start : (κs : Lfts 4) (given : _) → rsmp_start.Asked κs given
  pub connect : (κs : Lfts 2) (given : _) → rsmp_connect.Asked κs given
  pub disconnect : (κs : Lfts 2) (given : _) → rsmp_disconnect.Asked κs given
  pub packet : (κs : Lfts 6) (given : _) → rsmp_packet.Asked κs given
  pub alarm : (κs : Lfts 3) (given : _) → rsmp_alarm.Asked κs given
  pub status : (κs : Lfts 3) (given : _) → rsmp_status.Asked κs given
  pub aggregated : (κs : Lfts 2) (given : _) → rsmp_aggregated.Asked κs given
  pub tick : (κs : Lfts 2) (given : _) → rsmp_tick.Asked κs given
  pub pump : (κs : Lfts 4) (given : _) → rsmp_pump.Asked κs given
  pub held : (κs : Lfts 2) (given : _) → rsmp_held.Asked κs given
  pub lost : (κs : Lfts 2) (given : _) → rsmp_lost.Asked κs given
  pub phase : (κs : Lfts 2) (given : _) → rsmp_phase.Asked κs given
  pub version : (κs : Lfts 2) (given : _) → rsmp_version_of.Asked κs given
  pub record_of : (κs : Lfts 2) (given : _) → rsmp_record.Asked κs given
