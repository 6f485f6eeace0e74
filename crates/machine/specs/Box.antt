-- Document 02, request 10: "North and south boom shall share one box, one site table format and one pool of 128, each as a site of its own with up to
-- four links, its own clock reading, sequence and identities."
-- Assumes nothing.
use Rattle.std.specs.Prelude.{ℕ, zero, suc, ◌≡◌, false, List, [], ◌∷◌, eqb}
use Rattle.std.proofs.Math.Option.{Option, some, none}
use Rattle.machine.specs.Words.{if'◌then◌else◌, maybe}
use Rattle.machine.specs.State.{Issued, Share, no_share, Pool, own_of, with_own, with_beside, Machine, at_end, Call, Outcome}
use Rattle.machine.specs.Pool.{is_full, issue}
use Rattle.machine.specs.Effects.{effect_of}
use Rattle.machine.specs.Step.{number_of, step}

-- the sites that have begun
pub record Box : Type 0 where
  pub north : Option Machine
  pub south : Option Machine

abbrev pub box : Option Machine → Option Machine → Box
box north south = record { north = north; south = south }

abbrev pub empty_box : Box
empty_box = box none none

-- site 0 is north, site 1 south; there is no third
abbrev pub site_of : ℕ → Box → Option Machine
site_of zero b = b.north
site_of (suc zero) b = b.south
site_of (suc (suc k)) b = none

abbrev pub other_of : ℕ → Box → Option Machine
other_of zero b = b.south
other_of (suc zero) b = b.north
other_of (suc (suc k)) b = none

-- ---- what one site leaves in the pool the other finds
abbrev pub with_pool : Pool → Machine → Machine
with_pool p m = at_end m.last p m

-- m, when the other site has become o
abbrev pub finds : Machine → Machine → Machine
finds o m = with_pool (with_beside (own_of o.pool) (with_own o.pool.beside m.pool)) m

abbrev pub found_by : Machine → Option Machine → Option Machine
found_by o none = none
found_by o (some m) = some (finds o m)

-- site k is m now
abbrev pub site_is : ℕ → Machine → Box → Box
site_is zero m b = box (some m) (found_by m b.south)
site_is (suc zero) m b = box (found_by m b.north) (some m)
site_is (suc (suc k)) m b = b

-- what a start makes, with what the other site holds beside it: a start empties its own share alone
abbrev pub begins_beside : Option Machine → Machine → Machine
begins_beside o m = with_pool (with_beside (maybe no_share (λ x. own_of x.pool) o) m.pool) m

-- ---- what is done to a box: a start of a site, by what it makes (nothing where it is refused), and a call of a site
pub data Turn : Type 0 where
  starts : (site : ℕ) (begun : Option Machine) → Turn
  calls : (site : ℕ) (call : Call) → Turn

abbrev pub started : ℕ → Option Machine → Box → Box
started k none b = b
started k (some m) b = site_is k (begins_beside (other_of k b) m) b

-- a call of a site that has not begun changes nothing
abbrev pub called : ℕ → Call → Option Machine → Box → Box
called k c none b = b
called k c (some m) b = site_is k (step m c).1 b

unfoldable pub turned : Turn → Box → Box
turned (starts k o) b = started k o b
turned (calls k c) b = called k c (site_of k b) b

abbrev pub turned_all : List Turn → Box → Box
turned_all [] b = b
turned_all (t ∷ ts) b = turned_all ts (turned t b)

-- ---- what the calls of site k give, in their order
abbrev pub giving : Call → Option Machine → List Outcome → List Outcome
giving c none rest = rest
giving c (some m) rest = (step m c).0 ∷ rest

abbrev pub given : ℕ → List Turn → Box → List Outcome
given k [] b = []
given k (starts j o ∷ ts) b = given k ts (turned (starts j o) b)
given k (calls j c ∷ ts) b =
    if' eqb j k then giving c (site_of k b) (given k ts (turned (calls j c) b)) else given k ts (turned (calls j c) b)

-- the turns of site k alone
abbrev pub site_turned : Turn → ℕ
site_turned (starts k o) = k
site_turned (calls k c) = k

abbrev pub only : ℕ → List Turn → List Turn
only k [] = []
only k (t ∷ ts) = if' eqb (site_turned t) k then t ∷ only k ts else only k ts

-- ---- "no record is issued while the pool is full": before none of a call's records, each issued behind those before it
abbrev pub NeverFull : List Issued → Pool → Type 0
NeverFull [] p = Unit {0}
NeverFull (i ∷ is) p = (is_full p ≡ false) × NeverFull is (issue i p)

abbrev pub RoomyCall : Machine → Call → Type 0
RoomyCall m c = number_of m c ≡ none → NeverFull (effect_of m c.time c.act).issues (effect_of m c.time c.act).leaves.pool

abbrev pub RoomyTurn : Turn → Box → Type 0
RoomyTurn (starts k o) b = Unit {0}
RoomyTurn (calls k c) b = (m : Machine) → site_of k b ≡ some m → RoomyCall m c

abbrev pub Roomy : List Turn → Box → Type 0
Roomy [] b = Unit {0}
Roomy (t ∷ ts) b = RoomyTurn t b × Roomy ts (turned t b)
