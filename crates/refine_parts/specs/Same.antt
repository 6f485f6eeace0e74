-- When the code's pool, 128 places of eight owners, with a site's next sequence number is the machine's, a list for each site: a proof's device,
-- nothing here need be believed.
-- Assumes nothing.
use Rattle.std.specs.Prelude.{ℕ, ◌/◌, ◌%◌, ◌≤◌, ◌<◌, ◌≡◌, List, map, eqb, leb, length, get_or}
use Rattle.basis.specs.Pick.{pick}
use Rattle.pool.specs.declared.Pool.{Pool}
use Rattle.pool.specs.Pool.{lost_of}
use Rattle.pool_laws.specs.Promises.{Reached}
use Rattle.pool_laws.specs.View.{records}
use Rattle.machine.specs.Words.{keep}
use Rattle.machine.specs.State.{Held, Pool as Listed}
use Rattle.machine.specs.Pool.{is_for, is_own}
use Rattle.demand_held.proofs.Lists.{Each}
use Rattle.demand_held.proofs.Good.{GoodShare, Good}
use Rattle.refine_parts.specs.Record.{place_for, IsTold}

-- the other site of the box: how many links it has, and its next number; no link where there is none
pub record Beside : Type 0 where
  pub links : ℕ
  pub next : ℕ

abbrev pub beside_of : ℕ → ℕ → Beside
beside_of links next = record { links = links; next = next }

abbrev pub nobody : Beside
nobody = beside_of 0 0

-- the list in which the machine has the records of owner o, and the lost counts
abbrev pub held_for : Listed → ℕ → List Held
held_for m o = pick (is_own m o) m.held m.beside.held

abbrev pub lost_for : Listed → ℕ → List ℕ
lost_for m o = pick (is_own m o) m.lost m.beside.lost

-- each owner's next number: site k's have the one, the other site's the other; there is no ninth owner
abbrev pub next_for : ℕ → ℕ → ℕ → ℕ → ℕ
next_for k own other o = pick (leb 8 o) 0 (pick (eqb (o / 4) k) own other)

abbrev pub ToldRecord : Held → Type 0
ToldRecord h = IsTold h.content

-- k is the site and q its next number; so many links are configured; x is the other site
pub record SamePool (links : ℕ) (x : Beside) (k : ℕ) (p : Pool) (q : ℕ) (m : Listed) : Type 0 where
  pub site : m.site ≡ k
  pub next : m.next ≡ q
  -- each owner's records, oldest first, with their marks
  pub held : (o : ℕ) → o < 8 → records p o ≡ map (place_for o) (keep (is_for (o % 4)) (held_for m o))
  pub told : Each ToldRecord m.held
  pub told_beside : Each ToldRecord m.beside.held
  -- the lost counts: the code has eight, the machine one for each configured link
  pub lost : (o : ℕ) → o < 8 → lost_of p o ≡ get_or (lost_for m o) (o % 4) 0
  pub configured : length m.lost ≡ links
  pub configured_beside : length m.beside.lost ≡ x.links
  pub few : links ≤ 4
  -- pools as calls leave them
  pub reached : Reached 8 p (next_for k q x.next)
  pub good : Good m
  pub beside : GoodShare x.next m.beside
