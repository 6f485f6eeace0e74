-- The fields of a Version, and the three checks, in the machine's words; proofs/Kept.antt proves it.
-- Assumes nothing.
use Rattle.std.specs.Prelude.{ℕ, ◌≡◌, Bool, true, List, [], ◌∷◌, map, get_or}
use Prim.Native.String.{String}
use Rattle.std.proofs.Math.Option.{Option, some, none}
use Rattle.number.specs.declared.Number.{Number}
use Rattle.number.specs.declared.Number.TheVariants.{Is, No}
use Rattle.label.specs.declared.Label.{Label}
use Rattle.label.specs.Label.{text_of}
use Rattle.json_value.specs.Grammar.{Json}
use Rattle.read_versions.specs.declared.Offer.{Offer}
use Rattle.read_versions.specs.declared.Judged.{Judged}
use Rattle.read_versions.specs.declared.Judged.TheVariants.{Chosen, RsmpVersion, SiteId, SxlVersion}
use Rattle.read_versions.specs.Version.{version, version_of}
use Rattle.read_versions.specs.Judge.{versions_in, sites_in, judge}
use Rattle.read_head.specs.declared.Verdict.TheVariants.{Good}
use Rattle.read_lists.specs.declared.VersionFields.{VersionFields}
use Rattle.read_lists.specs.Version.{version_at}
use Rattle.machine.specs.Words.{Bytes, if'◌then◌else◌, maybe}
use Rattle.machine.specs.State.{Machine}
use Rattle.machine.specs.Json.{read_packet, is_type, version_in}
use Rattle.machine.specs.Life.{ours as offers, common, names_site, equal_sxl}
use Rattle.refine_read.specs.Verdicts.{verdict_in}
use Rattle.refine_read.specs.Reasons.{further_reason}

-- three parts as the code's one number, and a text's
abbrev pub number_of : List ℕ → ℕ
number_of v = version (get_or v 0 0) (get_or v 1 0) (get_or v 2 0)

abbrev pub numbered : Option (List ℕ) → Number
numbered none = No
numbered (some v) = Is (number_of v)

-- "a common RSMP version [the latest is chosen], our site id in their list, equal SXL bytes": the first check that fails, or the choice
abbrev pub checked : Machine → Json → Judged
checked m j =
    maybe RsmpVersion
    (λ v. if' names_site m j then if' equal_sxl m j then Chosen (number_of v) else SxlVersion else SiteId)
    (common j)

-- the reason that a check gives
abbrev pub failed : Judged → Option String
failed (Chosen v) = none
failed RsmpVersion = some "RSMP version"
failed SiteId = some "Site id"
failed SxlVersion = some "SXL version"

-- what our Version offers: the machine's versions, the table's site id and SXL version
pub record Ours (m : Machine) (own : Offer) : Type 0 where
  pub site : Label
  pub versions : versions_in own ≡ map number_of offers
  pub sites : sites_in own ≡ site ∷ []
  pub same_site : text_of site ≡ m.setup.table.site
  pub same_sxl : text_of own.sxl ≡ m.setup.table.sxl

-- "Version RSMP (each entry vers), siteId (each sId), SXL"
pub record VersionReads (j : Json) (f : VersionFields) : Type 0 where
  pub verdict : (older : Bool) → is_type "Version" j ≡ true → f.verdict ≡ verdict_in older j
  pub reason : is_type "Version" j ≡ true → (m : Machine) (l : ℕ) → further_reason m l j ≡ failed (checked m j)
  pub judged : f.verdict ≡ Good → (m : Machine) (own : Offer) → Ours m own → judge own f.offer ≡ checked m j

pub record Claims : Type 0 where
  -- "one to three dotted numbers, each 0 to 255 without leading zeros; a missing part is 0"
  pub text : (s : Bytes) → version_of s ≡ numbered (version_in s)
  pub version : (s : Bytes) (j : Json) → read_packet s ≡ some j → VersionReads j (version_at s)
