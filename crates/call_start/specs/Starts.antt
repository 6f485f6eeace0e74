-- What start gives, the pool being p before it: the site made of the table whose bytes it takes, and number 11 where document 01 does not
-- accept them or a value.
-- Assumes nothing.
use Rattle.std.specs.Prelude.{ℕ, ◌≤◌, ◌<◌, ◌≡◌, List, ◌⊎◌}
use Rattle.answer.specs.declared.Refusal.TheVariants.{NotAccepted}
use Rattle.answer.specs.declared.Answer.TheVariants.{Done, Refused}
use Rattle.answer.specs.Times.{last_time}
use Rattle.pool.specs.declared.Pool.{Pool}
use Rattle.table_whole.specs.Table.{Table}
use Rattle.table_whole.specs.Bytes.{table_bytes}
use Rattle.table_whole.specs.Allowed.{Allowed}
use Rattle.table_whole.specs.Memory.{memory_of}
use Rattle.site.specs.declared.Step.{Step}
use Rattle.site.specs.Call.{nothing_of}
use Rattle.call_start.specs.Fresh.{alone, site_for, pool_for, fresh, primary_of, no_site}

-- each limit of a start value; the site is one of two, or alone; the primary is one of the links, or 4294967295 where there is none
pub record Within (site links primary period first time : ℕ) : Type 0 where
  pub a_site_or_alone_lem : (site < 2) ⊎ (site ≡ alone)
  pub fewest_links : 1 ≤ links
  pub most_links : links ≤ 4
  pub a_link_or_none_lem : (primary < links) ⊎ (primary ≡ 4294967295)
  pub shortest_period : 1 ≤ period
  pub longest_period : period ≤ 3600
  pub highest_first : first ≤ 2147483647
  pub latest : time ≤ last_time

pub data Starts (b : List ℕ) (p : Pool) (site links primary period first time : ℕ) : Step → Type 0 where
  starts : {edition : ℕ} {t : Table} → Allowed edition t → table_bytes edition t ≡ b → Within site links primary period first time
      → Starts b p site links primary period first time (record { site = fresh (pool_for site p) (site_for site) (memory_of t) links (primary_of primary) period first time; answer = Done nothing_of })
  refuses : ((edition : ℕ) (t : Table) → Allowed edition t → table_bytes edition t ≡ b → Within site links primary period first time → ⊥)
      → Starts b p site links primary period first time (record { site = no_site; answer = Refused NotAccepted })
