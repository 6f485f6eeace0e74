-- Their Version, judged.
-- Assumes nothing.
use Rattle.std.specs.Prelude.{ℕ, ◌/◌, ◌%◌, [], ◌∷◌, replicate}
use Rattle.answer.specs.Given.Hint.{none}
use Rattle.label.specs.declared.Label.{Label}
use Rattle.label.specs.Label.{no_label}
use Rattle.table_whole.specs.declared.SiteTable.{SiteTable}
use Rattle.link.specs.Steps.{version_accepted_of}
use Rattle.read_versions.specs.declared.Versions.{Versions}
use Rattle.read_versions.specs.declared.Sites.{Sites}
use Rattle.read_versions.specs.declared.Offer.{Offer}
use Rattle.read_versions.specs.declared.Judged.{Judged}
use Rattle.read_versions.specs.declared.Judged.TheVariants.{Chosen, RsmpVersion, SiteId, SxlVersion}
use Rattle.read_versions.specs.Version.{version}
use Rattle.read_versions.specs.Judge.{judge}
use Rattle.read_lists.specs.declared.VersionFields.{VersionFields}
use Rattle.site.specs.declared.Site.{Site}
use Rattle.site.specs.Site.{link_at, with_link}
use Rattle.packet_answer.specs.declared.Question.{Question}
use Rattle.packet_answer.specs.Taken.{Taken, closing, acked, by_verdict, rsmp_version, site_id, sxl_version}

-- what our Version offers: 3.1.4, 3.1.5 and 3.2, here the latest first; the table's site id and SXL version
abbrev pub own_versions : Versions
own_versions = record { count = 3; list = version 3 2 0 ∷ version 3 1 5 ∷ version 3 1 4 ∷ replicate 13 0 }

abbrev pub own_sites : Label → Sites
own_sites id = record { count = 1; list = id ∷ replicate 15 no_label }

abbrev pub own_offer : SiteTable → Offer
own_offer table = record { versions = own_versions; sites = own_sites table.site; sxl = table.sxl }

abbrev pub own : Site → Offer
own s = own_offer s.table

-- the link goes on with the version, whose three parts are in one number
abbrev pub accepted : Site → ℕ → ℕ → Site
accepted s l v = with_link s l (version_accepted_of (link_at s l) (v / 65536) (v / 256 % 256) (v % 256))

-- the chosen version is accepted; "A failure of these three sends MessageNotAck and closes the link"
abbrev pub version_judged : Site → Question → Judged → Taken
version_judged s q (Chosen v) = acked (accepted s q.link v) [] q none
version_judged s q RsmpVersion = closing s q rsmp_version
version_judged s q SiteId = closing s q site_id
version_judged s q SxlVersion = closing s q sxl_version

abbrev pub version_taken : Site → Question → VersionFields → Taken
version_taken s q f = by_verdict f.verdict s q (version_judged s q (judge (own s) f.offer))
