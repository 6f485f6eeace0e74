-- Demand 3: "A record issued for a link stays held until its supervisor answers a message that carried it, or until a call issues a record
-- after which at least 16 newer ones of that link are held. None ever has more than 64 held. No call of another link changes this." Request 10:
-- "Demand 3 speaks of each owner", and each owner is a link of one of the two sites.
-- Assumes nothing.
use Rattle.std.specs.Prelude.{ℕ, ◌+◌, ◌≤◌, ◌<◌, ◌≡◌, false, List, ◌∷◌, ◌++◌, eqb, length, get_or}
use Rattle.std.proofs.Math.Option.{some}
use Rattle.basis.specs.Lists.{count}
use Rattle.machine.specs.Words.{is_number}
use Rattle.machine.specs.State.{Issued, Held, Start, Machine, Call}
use Rattle.machine.specs.Pool.{holds, issue_all}
use Rattle.machine.specs.Effects.{effect_of}
use Rattle.machine.specs.Box.{empty_box, site_of, Turn, turned_all}
use Rattle.machine.specs.Run.{Past, Run, Played, Runs}
use Rattle.demand_held.specs.Held.{IsHeld, IsDone, issued_by, Kept, Fate, KeptBeside, packet_link, Until, At}
use Rattle.demand_held.specs.Crowded.{Crowded}
use Rattle.demand_held.specs.Counted.{IssuedIn, answered_count, issued_count}

module _ (s : Start) (h : List Past) (m : Machine) where
  pub record Holding : Type 0 where
    -- what becomes of a held record in a call of its site, and in a call of the other
    pub held : (c : Call) (r : Issued) (n : ℕ) → IsHeld r n m.pool.held → Fate m c r n
    pub beside : (c : Call) (r : Issued) (n : ℕ) → IsHeld r n m.pool.beside.held → KeptBeside m c r n
    -- "No call of another link changes this": only a packet call on its own link ends a record otherwise than by newer ones
    pub apart : (c : Call) (r : Issued) (n : ℕ) → is_number r.link (packet_link c.act) ≡ false → IsHeld r n m.pool.held → Kept m c r n
    -- the k-th record that a done call issues is held after it, or 16 newer ones of its link are
    pub issued : (c : Call) → IsDone m c → (k : ℕ) (r : Issued) → At r k (issued_by m c) → Kept m c r (m.pool.next + k)
    -- "None ever has more than 64 held", and 128 together, of both sites
    pub most : (l : ℕ) → holds m.pool l ≤ 64
    pub all : length m.pool.held + length m.pool.beside.held ≤ 128
    -- a held number was given before, and stands once
    pub given : (r : Issued) (n : ℕ) → IsHeld r n m.pool.held → n < m.pool.next
    pub once : (n : ℕ) → count (λ (h : Held). eqb h.sequence n) m.pool.held ≤ 1
    -- before no single record that a call issues, also after others of that call, is the pool full while the record's owner holds fewer than 16
    -- and no other of the eight more than 16
    pub never_crowded : (c : Call) → IsDone m c → (xs : List Issued) (i : Issued) (ys : List Issued) → issued_by m c ≡ xs ++ i ∷ ys
        → Crowded (issue_all xs (effect_of m c.time c.act).leaves.pool) i.link → ⊥

pub record Demand3 : Type 0 where
  pub of_every_run : (s : Start) (h : List Past) (m : Machine) → Run s h m → Holding s h m
  -- request 10: whatever is done to a box, its sites are at the ends of runs; and what becomes of a held record over any turns from there
  pub of_every_box : (ts : List Turn) → Played ts → Runs (turned_all ts empty_box)
  pub held_on : (ts us : List Turn) → Played ts → Played us → (k : ℕ) (m : Machine) → site_of k (turned_all ts empty_box) ≡ some m
      → (r : Issued) (n : ℕ) → IsHeld r n m.pool.held → Until k r n (turned_all ts empty_box) us
  -- every held record was issued by a done call of the run
  pub issued_by_a_call : (s : Start) (h : List Past) (m : Machine) → Run s h m → (r : Issued) (n : ℕ) → IsHeld r n m.pool.held → IssuedIn s r n h
  -- a link's lost count is the number of records issued for it that left without being answered: of those issued, all that neither are held nor
  -- were answered
  pub lost_count : (s : Start) (h : List Past) (m : Machine) (run : Run s h m) (l : ℕ)
      → get_or m.pool.lost l 0 + holds m.pool l + answered_count l run ≡ issued_count l run
