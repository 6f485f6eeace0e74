-- The fields of a Version, or the first reason that applies: RSMP (each entry vers), siteId (each sId), SXL.
-- Assumes nothing.
use Rattle.std.specs.Prelude.{List, ℕ, ◌+◌, ltb, set, replicate}
use Rattle.basis.specs.Pick.{pick}
use Rattle.basis.specs.Text.{text}
use Rattle.number.specs.declared.Number.{Number}
use Rattle.number.specs.declared.Number.TheVariants.{Is, No}
use Rattle.label.specs.Label.{no_label}
use Rattle.json_value.specs.Grammar.{Json}
use Rattle.json_value.specs.Reader.{skip_ws}
use Rattle.read_versions.specs.declared.Versions.{Versions}
use Rattle.read_versions.specs.declared.Sites.{Sites}
use Rattle.read_versions.specs.Version.{version_of}
use Rattle.read_head.specs.declared.Verdict.{Verdict}
use Rattle.read_head.specs.declared.Verdict.TheVariants.{Good, Missing, Bad}
use Rattle.read_head.specs.declared.GotLabel.{GotLabel}
use Rattle.read_head.specs.Word.{Word, absent, other, word, word_in, word_at}
use Rattle.read_head.specs.Values.{worst, no_text, got_label}
use Rattle.read_lists.specs.declared.GotNumber.{GotNumber}
use Rattle.read_lists.specs.declared.VersionList.{VersionList}
use Rattle.read_lists.specs.declared.SiteList.{SiteList}
use Rattle.read_lists.specs.declared.VersionFields.{VersionFields}
use Rattle.read_lists.specs.Items.{Item, Items, list_in, list_at}
use Rattle.read_lists.specs.Gather.{gathered}

-- "At most 16 entries": one more is a Bad value
abbrev pub one_more : ℕ → Verdict → Verdict
one_more count v = pick (ltb count 16) v (worst v Bad)

abbrev pub no_number : Verdict → GotNumber
no_number v = record { verdict = v; number = 0 }

abbrev pub numbered : Number → GotNumber
numbered (Is n) = record { verdict = Good; number = n }
numbered No = no_number Bad

abbrev pub got_version : Word → GotNumber
got_version absent = no_number Missing
got_version other = no_number Bad
got_version (word d) = numbered (version_of d)

-- an entry that is no object is a Bad value
abbrev pub version_of_item : Item → GotNumber
version_of_item x = pick x.object (got_version (x.words (text "vers"))) (no_number Bad)

abbrev pub site_of_item : Item → GotLabel
site_of_item x = pick x.object (got_label (x.words (text "sId"))) (no_text Bad)

abbrev pub no_versions : Verdict → VersionList
no_versions v = record { verdict = v; versions = record { count = 0; list = replicate 16 0 } }

abbrev pub no_sites : Verdict → SiteList
no_sites v = record { verdict = v; sites = record { count = 0; list = replicate 16 no_label } }

unfoldable pub push_version : VersionList → GotNumber → VersionList
push_version l g =
    record {
      verdict = one_more l.versions.count (worst l.verdict g.verdict);
      versions = pick (ltb l.versions.count 16) (record { count = l.versions.count + 1; list = set l.versions.list l.versions.count g.number }) l.versions;
    }

unfoldable pub push_site : SiteList → GotLabel → SiteList
push_site l g =
    record {
      verdict = one_more l.sites.count (worst l.verdict g.verdict);
      sites = pick (ltb l.sites.count 16) (record { count = l.sites.count + 1; list = set l.sites.list l.sites.count g.label }) l.sites;
    }

abbrev pub versions_of : Items → VersionList
versions_of i = gathered (λ l x. push_version l (version_of_item x)) (no_versions Good) (no_versions Missing) (no_versions Bad) i

abbrev pub sites_of : Items → SiteList
sites_of i = gathered (λ l x. push_site l (site_of_item x)) (no_sites Good) (no_sites Missing) (no_sites Bad) i

abbrev pub offered : VersionList → SiteList → GotLabel → VersionFields
offered v s x =
    record {
      verdict = worst v.verdict (worst s.verdict x.verdict);
      offer = record { versions = v.versions; sites = s.sites; sxl = x.label };
    }

abbrev pub version_by : (List ℕ → Word) → (List ℕ → Items) → VersionFields
version_by f g = offered (versions_of (g (text "RSMP"))) (sites_of (g (text "siteId"))) (got_label (f (text "SXL")))

-- of a packet's meaning
unfoldable pub version_in : Json → VersionFields
version_in j = version_by (word_in j) (list_in j)

-- of any text, as the code looks the elements up
unfoldable pub version_at : List ℕ → VersionFields
version_at s = version_by (word_at (skip_ws s)) (list_at (skip_ws s))
