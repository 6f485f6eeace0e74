-- What is claimed of packets with lists. proofs/Kept.antt proves it.
-- Assumes nothing.
use Rattle.std.specs.Prelude.{◌≡◌, List, ℕ, ◌≤◌, ◌<◌}
use Rattle.basis.specs.Text.{text}
use Rattle.number.specs.Decimal.{digits}
use Rattle.json_value.specs.Grammar.{Json, Jsons}
use Rattle.json_value.specs.Grammar.Json.{str, arr}
use Rattle.json_find.specs.Lookup.{Found, member, count_elements}
use Rattle.json_find.specs.Lookup.Found.{found, missing}
use Rattle.json_packet.specs.Packet.{Packet}
use Rattle.read_head.specs.declared.Verdict.TheVariants.{Good, Missing, Bad}
use Rattle.read_lists.specs.declared.Asking.{Asking}
use Rattle.read_lists.specs.declared.Asking.TheVariants.{Full, Older}
use Rattle.read_lists.specs.Items.{item_in}
use Rattle.read_lists.specs.Version.{version_in, version_at}
use Rattle.read_lists.specs.Status.{seconds_in, entry_of_item, status_in, status_at}

-- "uRt is decimal text, seconds 0 to 86400 without leading zeros": an entry's says n
pub record Seconds (entry : Json) (n : ℕ) : Type 0 where
  pub said : member (text "uRt") entry ≡ found (str (digits n))
  pub most : n ≤ 86400

-- an element is a list of this many entries, "at most 16"
pub record Counted (element : Found) (count : ℕ) : Type 0 where
  pub list : Jsons
  pub is : element ≡ found (arr list)
  pub all : count ≡ count_elements list
  pub most : count ≤ 16

pub record Claims : Type 0 where
  -- the code's answers are those that the packet's meaning gives
  pub version : {s : List ℕ} {j : Json} → Packet s j → version_at s ≡ version_in j
  pub status : (asking : Asking) {s : List ℕ} {j : Json} → Packet s j → status_at asking s ≡ status_in asking j
  -- uRt is good exactly where it says seconds, and says these; missing exactly where it is not there
  pub seconds : (entry : Json) (n : ℕ) → Seconds entry n → seconds_in entry ≡ record { verdict = Good; number = n }
  pub only_seconds : (entry : Json) → (seconds_in entry).verdict ≡ Good → Seconds entry (seconds_in entry).number
  pub no_seconds : (entry : Json) → member (text "uRt") entry ≡ missing → (seconds_in entry).verdict ≡ Missing
  pub only_missing : (entry : Json) → (seconds_in entry).verdict ≡ Missing → member (text "uRt") entry ≡ missing
  pub too_long : (entry : Json) (n : ℕ) → member (text "uRt") entry ≡ found (str (digits n)) → 86400 < n → (seconds_in entry).verdict ≡ Bad
  -- a good entry of a StatusSubscribe has seconds, in the edition before too
  pub subscribed : (entry : Json) → (entry_of_item Full (item_in entry)).verdict ≡ Good → Seconds entry (entry_of_item Full (item_in entry)).entry.seconds
  pub older : (entry : Json) → (entry_of_item Older (item_in entry)).verdict ≡ Good → Seconds entry (entry_of_item Older (item_in entry)).entry.seconds
  -- a good verdict's lists are the packet's, whole
  pub statuses : (asking : Asking) (j : Json) → (status_in asking j).verdict ≡ Good → Counted (member (text "sS") j) (status_in asking j).count
  pub versions : (j : Json) → (version_in j).verdict ≡ Good → Counted (member (text "RSMP") j) (version_in j).offer.versions.count
  pub sites : (j : Json) → (version_in j).verdict ≡ Good → Counted (member (text "siteId") j) (version_in j).offer.sites.count
