-- Every act keeps both pools the same, and every question has the same answer. Statements only: their proofs are `same_acts` and `same_answers`.
-- Assumes nothing.
use Rattle.std.specs.Prelude.{ℕ, suc, ◌+◌, ◌*◌, ◌/◌, ◌%◌, ◌≤◌, ◌<◌, ◌≡◌, Bool, List, [], map, eqb, ℤ, length, get_or, replicate}
use Rattle.std.proofs.Math.Option.{some, none}
use Rattle.basis.specs.Pick.{both}
use Rattle.number.specs.Signed.{Signed32, word_of, signed_of}
use Rattle.pool.specs.declared.Pool.{Pool}
use Rattle.pool.specs.Pool.{empty_of, issue_of, settle_of, mark_of, unmark_of, clear_of, held_of, lost_of, oldest_unsent, newest_alarm, ranked_of, reading_of}
use Rattle.pool_laws.specs.Leaves.{Held as IsHeld}
use Rattle.pool_laws.specs.Promises.{Reached}
use Rattle.pool_laws.specs.View.{records}
use Rattle.pool_laws.specs.declared.Batch.{Batch}
use Rattle.pool_laws.specs.Batch.{issued_all}
use Rattle.site.specs.Site.{owner}
use Rattle.machine.specs.Words.{keep}
use Rattle.machine.specs.State.{Alarm, Issued, Held, Share, no_share, Pool as Listed, shared_pool, pool_of, own_of, Machine, alarm_at, with_held, Effect}
use Rattle.machine.specs.State.Content.{of_alarm, of_status, of_aggregated}
use Rattle.machine.specs.Pool.{is_for, issue, issue_all, settled, marked}
use Rattle.machine.specs.Life.{unsent, same_alarm, newest, carried_by, oldest_unsent as oldest_unsent_of}
use Rattle.machine.specs.Readings.{entry_for, reading}
use Rattle.machine.specs.Step.{sequence_ends}
use Rattle.demand_held.proofs.Lists.{Each}
use Rattle.demand_held.proofs.Good.{GoodShare}
use Rattle.demand_held.proofs.Issue.{For}
use Rattle.refine_parts.specs.Record.{place_for, found, unnumbered, IsTold, flags_for, carried_like, reading_at}
use Rattle.refine_parts.specs.Same.{Beside, beside_of, nobody, next_for, ToldRecord, SamePool}

-- which contents their entries tell, and what the code reads of such an entry
pub record Contents : Type 0 where
  pub alarm : (i : ℕ) (a : Alarm) → IsTold (of_alarm i a)
  pub value : (i : ℕ) (v : ℤ) (old : Bool) (t : ℕ) → Signed32 v → IsTold (of_status i (some v) old t)
  pub no_value_lem : (i : ℕ) (old : Bool) (t : ℕ) → IsTold (of_status i none old t)
  pub aggregated : (v t : ℕ) → v < 256 → IsTold (of_aggregated v t)
  pub value_read : (i : ℕ) (v : ℤ) (old : Bool) (t : ℕ) → IsTold (of_status i (some v) old t) → signed_of (word_of v) ≡ v
  pub aggregated_read : (v t : ℕ) → IsTold (of_aggregated v t) → v % 256 ≡ v
  -- "equals that alarm's last event, states and time": the code compares times and flags
  pub same_alarm_lem : (a b : Alarm) → both (eqb a.time b.time) (eqb (flags_for a) (flags_for b)) ≡ same_alarm b a

abbrev pub batch_of : ℕ → Pool → ℕ → List Issued → Batch
batch_of k p q is = issued_all 8 p q (map (unnumbered k) is)

pub record SameActs (links : ℕ) (x : Beside) (k : ℕ) : Type 0 where
  -- a record is issued for a configured link; records are issued one by one
  pub issue : (p : Pool) (q : ℕ) (m : Listed) → SamePool links x k p q m → (i : Issued) → i.link < links → IsTold i.content → q ≤ 2147483647
      → SamePool links x k (issue_of 8 p (entry_for (owner k i.link) q i.content)) (suc q) (issue i m)
  pub issue_all_lem : (p : Pool) (q : ℕ) (m : Listed) → SamePool links x k p q m → (is : List Issued) → Each (For links) is
      → Each (λ (i : Issued). IsTold i.content) is → q + length is ≤ 2147483648
      → SamePool links x k (batch_of k p q is).pool (batch_of k p q is).next (issue_all is m)
  -- a record of link l is settled; one that is held is marked as sent; none of link l is sent any more
  pub settle : (p : Pool) (q : ℕ) (m : Machine) → SamePool links x k p q m.pool → (l n : ℕ)
      → SamePool links x k (settle_of p (owner k l) n) q (with_held (settled l n m.pool.held) m).pool
  pub mark : (p : Pool) (q : ℕ) (m : Machine) → SamePool links x k p q m.pool → (l n : ℕ) → IsHeld p (owner k l) n
      → SamePool links x k (mark_of p (owner k l) n) q (with_held (map (marked n) m.pool.held) m).pool
  pub unmark : (p : Pool) (q : ℕ) (m : Machine) → SamePool links x k p q m.pool → (l : ℕ)
      → SamePool links x k (unmark_of p (owner k l)) q (with_held (map (unsent l) m.pool.held) m).pool

-- a record that a question found: the code holds it for link l's owner o under its number, and its entry tells its content
pub record Stands (p : Pool) (o l : ℕ) (h : Held) : Type 0 where
  pub link : h.link ≡ l
  pub held : IsHeld p o h.sequence
  pub told : IsTold h.content

pub record SameAnswers (k : ℕ) (p : Pool) (q : ℕ) (m : Machine) : Type 0 where
  -- what is due
  pub oldest_unsent_lem : (l : ℕ) → oldest_unsent p (owner k l) ≡ found (owner k l) (oldest_unsent_of m l)
  pub unsent_stands : (l : ℕ) (h : Held) → oldest_unsent_of m l ≡ some h → Stands p (owner k l) l h
  pub newest_alarm_lem : (l i : ℕ) → newest_alarm p (owner k l) i ≡ found (owner k l) (newest l i none m.pool.held)
  pub carried : (l i : ℕ) → carried_by m l i ≡ carried_like (alarm_at m i) (newest_alarm p (owner k l) i)
  pub alarm_stands : (l i : ℕ) (h : Held) → newest l i none m.pool.held ≡ some h → Stands p (owner k l) l h
  -- what is read
  pub held : (l : ℕ) → held_of p (owner k l) ≡ (reading m l).held
  pub lost : (l : ℕ) → l < 4 → lost_of p (owner k l) ≡ (reading m l).lost
  pub records : (l r : ℕ) → reading_of (ranked_of p (owner k l) r) ≡ reading_at r (reading m l).records
  -- number 10, of whatever pool the call leaves to its records
  pub spent : (left : Pool) (e : Effect) → (batch_of k left q e.issues).spent ≡ sequence_ends m e

-- ---- the other site
-- what the site that is not k has in the pool, as s
pub record Rest (k : ℕ) (x : Beside) (p : Pool) (s : Share) : Type 0 where
  pub held : (o : ℕ) → o < 8 → (o / 4 ≡ k → ⊥) → records p o ≡ map (place_for o) (keep (is_for (o % 4)) s.held)
  pub told : Each ToldRecord s.held
  pub lost : (o : ℕ) → o < 8 → (o / 4 ≡ k → ⊥) → lost_of p o ≡ get_or s.lost (o % 4) 0
  pub configured : length s.lost ≡ x.links
  pub good : GoodShare x.next s
  pub all : length s.held ≤ 128
  pub own : ℕ
  pub reached : Reached 8 p (next_for k own x.next)

-- the four owners of site k begin anew
abbrev pub cleared_of : ℕ → Pool → Pool
cleared_of k p = clear_of (clear_of (clear_of (clear_of p (4 * k)) (4 * k + 1)) (4 * k + 2)) (4 * k + 3)

-- o is the machine's pool as the other site has it
pub record Mirrors (m o : Listed) : Type 0 where
  pub two : m.site + o.site ≡ 1
  pub beside : m.beside ≡ own_of o
  pub own : o.beside ≡ own_of m

pub record SameBeside : Type 0 where
  -- in an empty pool there is nobody
  pub empty : (k : ℕ) → Rest k nobody (empty_of 8) no_share
  pub rest : {links k q : ℕ} {x : Beside} {p : Pool} {m : Listed} → SamePool links x k p q m → Rest k x p m.beside
  -- a site begins
  pub starts : {k : ℕ} {x : Beside} {p : Pool} {s : Share} → Rest k x p s → k ≤ 1 → (links first : ℕ) → links ≤ 4 → first ≤ 2147483647
      → SamePool links x k (cleared_of k p) first (shared_pool k first [] (replicate links 0) s)
  pub alone : (links first : ℕ) → links ≤ 4 → first ≤ 2147483647 → SamePool links nobody 0 (empty_of 8) first (pool_of first [] (replicate links 0))
  -- what one leaves in the pool the other finds
  pub turns : {links k q : ℕ} {x : Beside} {p : Pool} {m : Listed} → SamePool links x k p q m → (o : Listed) → Mirrors m o → o.next ≡ x.next
      → SamePool x.links (beside_of links q) o.site p x.next o
