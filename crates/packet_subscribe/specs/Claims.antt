-- What is claimed of StatusSubscribe and StatusUnsubscribe. proofs/Kept.antt proves it.
-- Assumes nothing.
use Rattle.std.specs.Prelude.{ℕ, ◌<◌, ◌≡◌, Bool, true, false, List, [], length}
use Rattle.pool_laws.specs.BatchLaws.{Owned}
use Rattle.read_lists.specs.declared.StatusEntry.{StatusEntry}
use Rattle.read_lists.specs.declared.StatusFields.{StatusFields}
use Rattle.packet_lookup.specs.Sought.{all_statuses}
use Rattle.site.specs.declared.Site.{Site}
use Rattle.site.specs.Site.{owned_by}
use Rattle.packet_answer.specs.declared.Question.{Question}
use Rattle.packet_subscribe.specs.Subscribing.{records, subscribing_taken}

pub record Claims : Type 0 where
  -- where all entries are statuses, one record is issued for each
  pub one_each : (s : Site) (l time c : ℕ) (es : List StatusEntry) (n : ℕ) → all_statuses s.table c es n ≡ true → length (records s l time c es n) ≡ n
  -- all of them are for an owner of the site
  pub owned : (s : Site) (l time c : ℕ) (es : List StatusEntry) (n : ℕ) → s.site < 2 → l < 4 → Owned 8 (owned_by s) (records s l time c es n)
  -- ending a subscription issues no record
  pub ends : (s : Site) (q : Question) (f : StatusFields) → (subscribing_taken false s q f).plan.issued ≡ []
  -- neither sends a message of its own
  pub only_answered : (subscribing : Bool) (s : Site) (q : Question) (f : StatusFields)
      → (subscribing_taken subscribing s q f).replies ≡ false
