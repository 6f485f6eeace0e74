-- Start, step by step; what it comes to is said in Starts.
-- Assumes nothing.
use Rattle.std.specs.Prelude.{ℕ, Bool, true, eqb, leb, ltb}
use Rattle.basis.specs.Pick.{pick, both}
use Rattle.answer.specs.declared.Refusal.TheVariants.{NotAccepted}
use Rattle.answer.specs.declared.Answer.TheVariants.{Done}
use Rattle.answer.specs.Times.{last_time}
use Rattle.table_whole.specs.declared.TableRead.{TableRead}
use Rattle.table_whole.specs.declared.Verdict.{Verdict}
use Rattle.table_whole.specs.declared.Verdict.TheVariants.{Accepted, Refused}
use Rattle.site.specs.declared.Site.{Site}
use Rattle.site.specs.declared.Step.{Step}
use Rattle.site.specs.Call.{refused, nothing_of}
use Rattle.pool.specs.declared.Pool.{Pool}
use Rattle.call_start.specs.Fresh.{alone, site_for, pool_for, fresh, primary_of, no_site}

abbrev pub a_site_or_alone : ℕ → Bool
a_site_or_alone site = pick (ltb site 2) true (eqb site alone)

abbrev pub a_link_or_none : ℕ → ℕ → Bool
a_link_or_none links primary = pick (ltb primary links) true (eqb primary 4294967295)

unfoldable pub values_within : ℕ → ℕ → ℕ → Bool
values_within period first time = both (leb 1 period) (both (leb period 3600) (both (leb first 2147483647) (leb time last_time)))

-- all but the site
abbrev pub others_within : ℕ → ℕ → ℕ → ℕ → ℕ → Bool
others_within links primary period first time = both (leb 1 links) (both (leb links 4) (both (a_link_or_none links primary) (values_within period first time)))

unfoldable pub is_within : ℕ → ℕ → ℕ → ℕ → ℕ → ℕ → Bool
is_within site links primary period first time = both (a_site_or_alone site) (others_within links primary period first time)

abbrev pub not_accepted : Step
not_accepted = refused no_site NotAccepted

abbrev pub judged_by : Verdict → Site → Step
judged_by Accepted made = record { site = made; answer = Done nothing_of }
judged_by (Refused x) made = not_accepted

unfoldable pub make_of : TableRead → Pool → ℕ → ℕ → ℕ → ℕ → ℕ → ℕ → Step
make_of read p site links primary period first time =
    pick (is_within site links primary period first time)
    (judged_by read.verdict (fresh (pool_for site p) (site_for site) read.table links (primary_of primary) period first time))
    not_accepted
