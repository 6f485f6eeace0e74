-- The words that stand for a site: the ones that start leaves, and that every change in place leaves where it found such words.
-- Assumes nothing.
use Rattle.std.specs.Prelude.{ℕ, ◌<◌, List, [], ◌∷◌, ◌++◌, take, drop}
use Rattle.basis.specs.Pick.{bit}
use Rattle.bits.specs.Fields.{joined, number_of}
use Rattle.awaited.specs.declared.Slot.{Slot}
use Rattle.link.specs.declared.Link.{Link}
use Rattle.pool.specs.declared.Place.{Place}
use Rattle.pool.specs.declared.Pool.{Pool}
use Rattle.subscription.specs.declared.Subscription.{Subscription}
use Rattle.alarm.specs.declared.Alarm.{Alarm}
use Rattle.status.specs.declared.Status.{Status}
use Rattle.site.specs.declared.Site.{Site}
use Rattle.store_words.specs.Words.{word}
use Rattle.store_words.specs.Narrow.{pair, quad}

-- the words of each element, one behind the other
unfoldable pub flat : {A : Type 0} → (A → List ℕ) → List A → List ℕ
flat f [] = []
flat f (x ∷ l) = f x ++ flat f l

unfoldable pub slot_words : Slot → List ℕ
slot_words x =
    x.time ∷ pair x.sequence x.purpose ∷ number_of (take 8 x.id.bytes) ∷ number_of (take 8 (drop 8 x.id.bytes)) ∷ []

unfoldable pub link_head : Link → List ℕ
link_head k =
    k.beat
    ∷ pair k.alarm k.major
    ∷ pair k.minor k.patch
    ∷ bit k.connected
    ∷ bit k.versionout
    ∷ bit k.versionacked
    ∷ bit k.versiontaken
    ∷ bit k.watchdogout
    ∷ bit k.watchdogacked
    ∷ bit k.watchdogtaken
    ∷ bit k.aggregatedout
    ∷ []

unfoldable pub link_words : Link → List ℕ
link_words k = link_head k ++ flat slot_words k.awaited.slots

unfoldable pub place_words : Place → List ℕ
place_words x =
    x.entry.time
    ∷ pair x.entry.value x.entry.sequence
    ∷ quad x.entry.link x.entry.kind x.entry.item x.entry.flags
    ∷ x.mark
    ∷ []

unfoldable pub subscription_words : Subscription → List ℕ
subscription_words x = x.since ∷ pair x.seconds x.state ∷ []

unfoldable pub alarm_words : Alarm → List ℕ
alarm_words x = x.time ∷ quad x.event x.acknowledged x.active x.suspended ∷ []

unfoldable pub status_words : Status → List ℕ
status_words x = pair x.value x.known ∷ []

unfoldable pub head_words : Site → List ℕ
head_words s =
    s.next
    ∷ s.last
    ∷ joined 0 (1 ∷ 31 ∷ 16 ∷ 16 ∷ []) (s.site ∷ s.period ∷ s.linkcount ∷ s.primary ∷ [])
    ∷ s.aggregated.time
    ∷ s.aggregated.value
    ∷ []

-- the pool's words, and the site's own
unfoldable pub pool_words_of : Pool → List ℕ
pool_words_of p = p.lost ++ flat place_words p.places

unfoldable pub words_of : Site → List ℕ
words_of s =
    head_words s
    ++ (flat link_words s.links
    ++ (flat subscription_words s.subscriptions
    ++ (flat alarm_words s.alarms
    ++ flat status_words s.statuses)))

-- each is a word of 64 bits
abbrev pub Wide : List ℕ → Type 0
Wide ws = (j : ℕ) → word ws j < 18446744073709551616
