-- The claims about Version are kept.
-- Assumes nothing.
use Rattle.basis.proofs.Std.{ℕ, ◌≡◌, refl, sym, ap, ap₂, ◌∙◌, Bool, true, false, not, List, [], ◌∷◌, Option, some, none, pick, same_bytes, text}
use Rattle.label.specs.Label.{text_of}
use Rattle.json_value.specs.Grammar.{Json}
use Rattle.read_versions.specs.declared.Offer.{Offer}
use Rattle.read_versions.specs.declared.Judged.TheVariants.{Chosen, RsmpVersion, SiteId, SxlVersion}
use Rattle.read_versions.specs.Judge as Judge
use Rattle.read_versions.specs.Judge.{versions_in, sites_in, same_label, latest, meet, judge}
use Rattle.read_head.specs.declared.Verdict.TheVariants.{Good}
use Rattle.read_head.specs.Word.{word_in}
use Rattle.read_head.specs.Values.{worst, got_label}
use Rattle.read_lists.specs.Items.{list_in}
use Rattle.read_lists.specs.Version as Code
use Rattle.read_lists.specs.Version.{versions_of, sites_of}
use Rattle.read_lists.proofs.Kept as Lists
use Rattle.machine.specs.Words.{Bytes, maybe, is_some, any}
use Rattle.machine.specs.State.{Machine}
use Rattle.machine.specs.Json.{string_of, entries_of, is_type}
use Rattle.machine.specs.Life.{common, names_site, equal_sxl}
use Rattle.machine.specs.Answers.{one, ◌is◌, label, needs, component_asked, reasons}
use Rattle.refine_read.specs.Reasons.{further_reason}
use Rattle.refine_read.specs.Verdicts.{judged}
use Rattle.refine_read.proofs.Words.{judged_more, both_good}
use Rattle.refine_read.proofs.Types.{type_is}
use Rattle.refine_read.proofs.Fields.{kept_text, label_judged, label_kept, last_judged}
use Rattle.refine_read.proofs.Kept.{only}
use Rattle.refine_read.specs.Versions.{number_of, numbered, failed, checked, Ours, VersionReads, Claims}
use Rattle.refine_read.proofs.Text.{text_is}
use Rattle.refine_read.proofs.Lists.{the_versions, the_sites, versions_judged, versions_held, sites_judged, sites_held}
use Rattle.refine_read.proofs.Checks.{same_swap, choice, met}

version_needs : (older : Bool) (j : Json) → is_type "Version" j ≡ true → needs older j ≡ the_versions ∷ the_sites ∷ one ("SXL" is label) ∷ []
unfolding needs
version_needs older j e = rw (type_is j "Version" e)

-- the first check that fails, or the choice
in_order : (o : Option (List ℕ)) (site sxl : Bool)
    → Judge.judged (numbered o) site sxl ≡ maybe RsmpVersion (λ v. pick site (pick sxl (Chosen (number_of v)) SxlVersion) SiteId) o
in_order none site sxl = refl
in_order (some v) site sxl = refl

module _ (j : Json) where
  parts : (Code.version_in j).verdict ≡ Good
      → ((versions_of (list_in j (text "RSMP"))).verdict ≡ Good) × ((sites_of (list_in j (text "siteId"))).verdict ≡ Good) × ((got_label (word_in j (text "SXL"))).verdict ≡ Good)
  unfolding Code.version_in
  parts g =
      let v = (versions_of (list_in j (text "RSMP"))).verdict in
      let s = (sites_of (list_in j (text "siteId"))).verdict in
      let x = (got_label (word_in j (text "SXL"))).verdict in
      let p = both_good v (worst s x) g in
      let q = both_good s x p.1 in
      (p.0, q.0, q.1)

  module _ (g : (Code.version_in j).verdict ≡ Good) (m : Machine) (own : Offer) (ours : Ours m own) where
    version_check : latest (versions_in own) (versions_in (Code.version_in j).offer) ≡ numbered (common j)
    unfolding Code.version_in
    version_check = ap₂ latest ours.versions (versions_held j (parts g).0).all ∙ choice (entries_of "RSMP" j)

    site_check : meet (sites_in own) (sites_in (Code.version_in j).offer) ≡ names_site m j
    unfolding Code.version_in
    site_check =
        ap₂ meet ours.sites (sites_held j (parts g).1).all ∙ met ours.site (entries_of "siteId" j)
        ∙ ap (λ (s : Bytes). any (λ e. same_bytes (string_of "sId" e) s) (entries_of "siteId" j)) ours.same_site

    sxl_check : same_label own.sxl (Code.version_in j).offer.sxl ≡ equal_sxl m j
    unfolding Code.version_in
    sxl_check =
        ap₂ same_bytes ours.same_sxl (ap text_of (label_kept j "SXL" (parts g).2) ∙ kept_text (string_of "SXL" j))
        ∙ same_swap m.setup.table.sxl (string_of "SXL" j)

    judged_is : judge own (Code.version_in j).offer ≡ checked m j
    unfolding judge
    judged_is = rw (version_check, site_check, sxl_check) (in_order (common j) (names_site m j) (equal_sxl m j))

  -- of the further reasons only the three checks speak of a Version
  first_failed : (o : Option (List ℕ)) (site sxl component : Bool)
      → pick (not (is_some o)) (some "RSMP version") (pick (not site) (some "Site id") (pick (not sxl) (some "SXL version") (pick (pick component false false) (some "Unknown status") none)))
      ≡ failed (maybe RsmpVersion (λ v. pick site (pick sxl (Chosen (number_of v)) SxlVersion) SiteId) o)
  first_failed none site sxl component = refl
  first_failed (some v) false sxl component = refl
  first_failed (some v) true false component = refl
  first_failed (some v) true true true = refl
  first_failed (some v) true true false = refl

  reason_is : is_type "Version" j ≡ true → (m : Machine) (l : ℕ) → further_reason m l j ≡ failed (checked m j)
  unfolding reasons
  reason_is e m l = rw (type_is j "Version" e) (first_failed (common j) (names_site m j) (equal_sxl m j) (is_some (component_asked m j)))

  version_reads : VersionReads j (Code.version_in j)
  unfolding Code.version_in
  version_reads =
      record {
        verdict = λ older e.
            ap₂ worst (versions_judged j) (ap₂ worst (sites_judged j) (label_judged j "SXL" ∙ sym (last_judged j (one ("SXL" is label))))
            ∙ sym (judged_more j the_sites (one ("SXL" is label) ∷ [])))
            ∙ sym (judged_more j the_versions (the_sites ∷ one ("SXL" is label) ∷ []))
            ∙ ap (judged j) (sym (version_needs older j e));
        reason = reason_is;
        judged = judged_is;
      }

pub kept : Claims
kept = record { text = text_is; version = λ s j e. rw ((Lists.kept).version (only e)) (version_reads j) }
