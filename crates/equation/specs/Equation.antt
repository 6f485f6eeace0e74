-- THE EQUATION: whatever the exported functions' contracts allow a host to see, from start on, is what the machines of the box show; a refused call changes
-- nothing. Statement only: its proof is `equation`.
-- Assumes nothing.
use Rattle.std.specs.Prelude.{ℕ, ◌<◌, ◌≡◌, List, map, length, drop, replicate}
use Rattle.std.proofs.Math.Option.{Option, some, none}
use Rattle.sitec.specs.declared.Outcome.{Outcome}
use Rattle.machine.specs.Words.{Bytes}
use Rattle.machine.specs.State.{Start, Command, Machine, Act, Call}
use Rattle.machine.specs.State.Act.{connect, disconnect, packet, alarm_input, status_value, aggregated_value, tick, pump}
use Rattle.machine.specs.State.Outcome.{refused as refuses}
use Rattle.machine.specs.Table.{Begins}
use Rattle.machine.specs.Box.{Box, box, empty_box}
use Rattle.equation.specs.Seen.{Ask, Asking, Seen, start_for, numbered, tells, unfit, shows_all, BoxShows, AllTyped}
use Rattle.equation.specs.Seen.Ask.{call, held, lost, phase, version, record_of}
use Rattle.equation.specs.Seen.Asking.{ask_of}
use Rattle.equation.specs.Seen.Seen.{told}
use Rattle.equation.specs.Allows.{Starts, Packets, Allows, Memory, leaving, Run, Free}

-- a pool has 520 words, a site 657, and 6,178 bytes for its table
pub record WordsFit (ps ws : List ℕ) : Type 0 where
  pub pool : length ps ≡ 520
  pub words : length ws ≡ 657

pub record Fits (ps ws : List ℕ) (ts : Bytes) : Type 0 where
  pub words : WordsFit ps ws
  pub table : length ts ≡ 6178

pub record BoxFits (m : Memory) : Type 0 where
  pub north : Fits m.pool m.north.words m.north.table
  pub south : Fits m.pool m.south.words m.south.table

-- from a box on, in memory that stands for it, what is seen is what the box shows
abbrev pub SeesBox : Memory → Box → Type 0
SeesBox m b = (more : List Asking) → AllTyped more → (xs seen : List Seen) → BoxShows b more xs → Run m more seen → seen ≡ xs

-- one machine begins and no other, or none does; number 11 where none does, else 0
abbrev pub start_number : Option Machine → Outcome
start_number none = numbered 11
start_number (some m) = numbered 0

pub record Begun (start : Start) (o : Outcome) : Type 0 where
  pub machine : Option Machine
  pub begins : Begins start machine
  pub only : (m : Option Machine) → Begins start m → m ≡ machine
  pub number : o ≡ start_number machine

-- the memory that an ask needs: a pool's words and a site's, and the table where a call reads it
abbrev pub ServesCall : Act → List ℕ → List ℕ → Bytes → Type 0
ServesCall (connect l) ps ws ts = WordsFit ps ws
ServesCall (disconnect l) ps ws ts = WordsFit ps ws
ServesCall (packet l random received room) ps ws ts = Fits ps ws ts
ServesCall (alarm_input i active) ps ws ts = Fits ps ws ts
ServesCall (status_value i v) ps ws ts = Fits ps ws ts
ServesCall (aggregated_value v) ps ws ts = WordsFit ps ws
ServesCall tick ps ws ts = WordsFit ps ws
ServesCall (pump l random room) ps ws ts = Fits ps ws ts

abbrev pub Serves : Ask → List ℕ → List ℕ → Bytes → Type 0
Serves (call c output) ps ws ts = ServesCall c.act ps ws ts
Serves (held l) ps ws ts = WordsFit ps ws
Serves (lost l) ps ws ts = WordsFit ps ws
Serves (phase l) ps ws ts = WordsFit ps ws
Serves (version l) ps ws ts = WordsFit ps ws
Serves (record_of l r) ps ws ts = WordsFit ps ws

pub record Equation : Type 0 where
  pub free : Free
  -- every start, of site 0, of site 1 or of another number: the machine that begins, and the number
  pub start : (ps ws : List ℕ) (ts table : Bytes) (site links primary period first time : ℕ) (o : Outcome) (qs vs : List ℕ) (us : Bytes)
      → Fits ps ws ts → (site ≡ 4294967295 → ⊥) → Starts ps ws ts table site links primary period first time o qs vs us → Begun (start_for site table links primary period first time) o
  -- and of an only site, which is site 0
  pub start_alone : (ps ws : List ℕ) (ts table : Bytes) (links primary period first time : ℕ) (o : Outcome) (qs vs : List ℕ) (us : Bytes)
      → Fits ps ws ts → Starts ps ws ts table 4294967295 links primary period first time o qs vs us → Begun (start_for 0 table links primary period first time) o
  -- from a pool of zeros on, whatever stands in the words of either site and in their tables
  pub from_zeros : (m : Memory) → BoxFits m → m.pool ≡ replicate 520 0 → SeesBox m empty_box
  -- from a done start of an only site on, whatever stood in any memory: the other site has not begun
  pub from_alone : (m : Memory) → BoxFits m → (table : Bytes) (links primary period first time : ℕ) (o : Outcome) (qs vs : List ℕ) (us : Bytes)
      → Starts m.pool m.north.words m.north.table table 4294967295 links primary period first time o qs vs us
      → (x : Machine) → Begins (start_for 0 table links primary period first time) (some x) → SeesBox (leaving 0 qs vs us m) (box (some x) none)
  -- where it stays alone the box shows what its machine does
  pub one_site : (x : Machine) (more : List Ask) → BoxShows (box (some x) none) (map (ask_of 0) more) (shows_all x more)
  -- "All but 0 change nothing: state, last time and lent bytes stay", whatever the memory holds and however long it is; nothing but the number is told
  pub refused : (ts : Bytes) (ps ws : List ℕ) (c : Call) (output : Bytes) (o : Outcome) (after_bytes : Bytes) (commands : List Command) (qs vs : List ℕ)
      → Allows ts ps ws (call c output) (told o after_bytes commands) qs vs → (o.number ≡ 0 → ⊥)
      → (qs ≡ ps) × (vs ≡ ws) × (told o after_bytes commands ≡ tells output (refuses o.number))
  pub not_started : (ps ws : List ℕ) (ts table : Bytes) (site links primary period first time : ℕ) (o : Outcome) (qs vs : List ℕ) (us : Bytes)
      → Starts ps ws ts table site links primary period first time o qs vs us → (o.number ≡ 0 → ⊥) → (qs ≡ ps) × (vs ≡ ws) × (us ≡ ts)
  -- "A done call writes only the counted first bytes of the output", whatever the memory holds: the count is of 32 bits
  pub only_counted : (ts : Bytes) (ps ws : List ℕ) (c : Call) (output : Bytes) (o : Outcome) (after_bytes : Bytes) (commands : List Command) (qs vs : List ℕ)
      → Allows ts ps ws (call c output) (told o after_bytes commands) qs vs → length output < 4294967295 → drop o.written after_bytes ≡ drop o.written output
  -- words, or a table that the call reads, of another length
  pub misfit : (ts : Bytes) (ps ws : List ℕ) (a : Ask) (x : Seen) (qs vs : List ℕ) → Allows ts ps ws a x qs vs → (Serves a ps ws ts → ⊥) → x ≡ unfit a
  -- the words lent for commands: a refused call leaves them; a done one those behind the commands that it counts; sixteen, or number 14 and nothing is changed
  pub unhanded : (ts : Bytes) (ps ws cs : List ℕ) (output : Bytes) (o : Outcome) (qs vs ds : List ℕ) (after_bytes : Bytes)
      → Packets ts ps ws cs output o qs vs ds after_bytes → (o.number ≡ 0 → ⊥) → ds ≡ cs
  pub behind : (ts : Bytes) (ps ws cs : List ℕ) (output : Bytes) (o : Outcome) (qs vs ds : List ℕ) (after_bytes : Bytes)
      → Packets ts ps ws cs output o qs vs ds after_bytes → drop o.commands ds ≡ drop o.commands cs
  pub commands_misfit : (ts : Bytes) (ps ws cs : List ℕ) (output : Bytes) (o : Outcome) (qs vs ds : List ℕ) (after_bytes : Bytes)
      → Packets ts ps ws cs output o qs vs ds after_bytes → (length cs ≡ 16 → ⊥) → (o ≡ numbered 14) × (qs ≡ ps) × (vs ≡ ws) × (after_bytes ≡ output)
  pub start_misfit : (ps ws : List ℕ) (ts table : Bytes) (site links primary period first time : ℕ) (o : Outcome) (qs vs : List ℕ) (us : Bytes)
      → Starts ps ws ts table site links primary period first time o qs vs us → (Fits ps ws ts → ⊥) → o ≡ numbered 14
