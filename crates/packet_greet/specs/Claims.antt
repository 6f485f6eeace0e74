-- What is claimed of the answers and of what greets. proofs/Kept.antt proves it.
-- Assumes nothing.
use Rattle.std.specs.Prelude.{ℕ, ◌≤◌, ◌<◌, ◌≡◌, Bool, false, map, reverse}
use Rattle.number.specs.declared.Number.TheVariants.{Is}
use Rattle.answer.specs.Given.Hint.{none, clock}
use Rattle.identity.specs.declared.Identity.{Identity}
use Rattle.awaited.specs.declared.Purpose.TheVariants.{Entry}
use Rattle.awaited.specs.declared.Found.TheVariants.{For}
use Rattle.awaited.specs.Awaited.{find_of}
use Rattle.pool.specs.Pool.{settle_of, numbered}
use Rattle.pool.specs.declared.Spot.TheVariants.{Nowhere}
use Rattle.link.specs.declared.Role.TheVariants.{Primary, Secondary}
use Rattle.read_head.specs.declared.Verdict.TheVariants.{Good}
use Rattle.read_head.specs.declared.GotTime.{GotTime}
use Rattle.read_lists.specs.declared.VersionFields.{VersionFields}
use Rattle.read_versions.specs.declared.Judged.TheVariants.{Chosen}
use Rattle.read_versions.specs.Version.{version_of}
use Rattle.read_versions.specs.Judge.{versions_in, judge}
use Rattle.table_whole.specs.declared.SiteTable.{SiteTable}
use Rattle.write_message.specs.Listing.{offered}
use Rattle.site.specs.declared.Site.{Site}
use Rattle.site.specs.Site.{link_at, role_of, owner_of, close_at, mask_of}
use Rattle.packet_answer.specs.declared.Question.{Question}
use Rattle.packet_greet.specs.Answered.{answered_plan}
use Rattle.packet_greet.specs.Version.{own_offer, own, version_taken}
use Rattle.packet_greet.specs.Watchdog.{watchdog_taken}

pub record Claims : Type 0 where
  -- either answer settles the record that its message carried, and no other
  pub settles : (s : Site) (l : ℕ) (id : Identity) (acknowledged : Bool) (q : ℕ)
      → find_of (link_at s l).awaited id ≡ For (Entry q)
      → (answered_plan s l id acknowledged).site.pool ≡ settle_of s.pool (owner_of s l) q
  -- a late answer for a lost record leaves the pool as it was
  pub late : (s : Site) (l : ℕ) (id : Identity) (acknowledged : Bool) (q : ℕ)
      → find_of (link_at s l).awaited id ≡ For (Entry q)
      → numbered s.pool (owner_of s l) q ≡ Nowhere
      → (answered_plan s l id acknowledged).site.pool ≡ s.pool
  -- a Version that fails a check closes the link
  pub failed : (s : Site) (q : Question) (f : VersionFields)
      → f.verdict ≡ Good
      → ((v : ℕ) → judge (own s) f.offer ≡ Chosen v → ⊥)
      → ((version_taken s q f).plan.site ≡ close_at s q.link) × ((version_taken s q f).plan.closed ≡ mask_of q.link)
  -- the versions that are judged are those that our Version writes, one for one, from the last
  pub offers : (table : SiteTable) → reverse (map version_of offered) ≡ map Is (versions_in (own_offer table))
  -- only the primary's Watchdog gives a hint, and only with three or more decimals; its time is the hint
  pub hints : (s : Site) (q : Question) (f : GotTime)
      → role_of s q.link ≡ Primary
      → f.verdict ≡ Good
      → 3 ≤ f.decimals
      → (watchdog_taken s q f).plan.hint ≡ clock f.time
  pub fewer : (s : Site) (q : Question) (f : GotTime) → f.decimals < 3 → (watchdog_taken s q f).plan.hint ≡ none
  pub no_hint : (s : Site) (q : Question) (f : GotTime) → role_of s q.link ≡ Secondary → (watchdog_taken s q f).plan.hint ≡ none
  -- neither sends a message of its own
  pub version_only_answered : (s : Site) (q : Question) (f : VersionFields) → (version_taken s q f).replies ≡ false
  pub watchdog_only_answered : (s : Site) (q : Question) (f : GotTime) → (watchdog_taken s q f).replies ≡ false
