-- The three checks of a Version: a common RSMP version, of which the latest is chosen; a common site id; equal SXL bytes.
-- Assumes nothing.
use Rattle.std.specs.Prelude.{Bool, true, false, List, [], ◌∷◌, ℕ, eqb, ltb, take}
use Rattle.basis.specs.Pick.{pick}
use Rattle.basis.specs.Lists.{same_bytes}
use Rattle.number.specs.declared.Number.{Number}
use Rattle.number.specs.declared.Number.TheVariants.{Is, No}
use Rattle.label.specs.declared.Label.{Label}
use Rattle.label.specs.Label.{text_of}
use Rattle.read_versions.specs.declared.Offer.{Offer}
use Rattle.read_versions.specs.declared.Judged.{Judged}
use Rattle.read_versions.specs.declared.Judged.TheVariants.{Chosen, RsmpVersion, SiteId, SxlVersion}

abbrev pub versions_in : Offer → List ℕ
versions_in o = take o.versions.count o.versions.list

abbrev pub sites_in : Offer → List Label
sites_in o = take o.sites.count o.sites.list

abbrev pub same_label : Label → Label → Bool
same_label a b = same_bytes (text_of a) (text_of b)

unfoldable pub has : List ℕ → ℕ → Bool
has [] v = false
has (x ∷ xs) v = pick (eqb x v) true (has xs v)

abbrev pub later : Number → Number → Number
later (Is a) (Is b) = Is (pick (ltb a b) b a)
later (Is a) No = Is a
later No r = r

abbrev pub shared : List ℕ → ℕ → Number
shared theirs v = pick (has theirs v) (Is v) No

-- the latest of the versions that both have
unfoldable pub latest : List ℕ → List ℕ → Number
latest [] theirs = No
latest (v ∷ own) theirs = later (shared theirs v) (latest own theirs)

unfoldable pub lists : List Label → Label → Bool
lists [] l = false
lists (x ∷ xs) l = pick (same_label x l) true (lists xs l)

-- some label is in both lists
unfoldable pub meet : List Label → List Label → Bool
meet [] theirs = false
meet (l ∷ own) theirs = pick (lists theirs l) true (meet own theirs)

-- the first check that fails, or the chosen version
abbrev pub judged : Number → Bool → Bool → Judged
judged No site sxl = RsmpVersion
judged (Is v) site sxl = pick site (pick sxl (Chosen v) SxlVersion) SiteId

unfoldable pub judge : Offer → Offer → Judged
judge own theirs =
    judged (latest (versions_in own) (versions_in theirs)) (meet (sites_in own) (sites_in theirs)) (same_label own.sxl theirs.sxl)
