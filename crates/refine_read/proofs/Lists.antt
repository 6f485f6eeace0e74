-- The lists of a Version: RSMP and siteId.
-- Assumes nothing.
use Rattle.basis.proofs.Std.{ℕ, String, ◌≡◌, refl, sym, ap, ap₂, ◌∙◌, Bool, true, false, List, [], ◌∷◌, Option, some, none, ltb, pick, text, bool_cases}
use Rattle.number.specs.declared.Number.{Number}
use Rattle.label.specs.declared.Label.{Label}
use Rattle.label.specs.Label.{label_of}
use Rattle.json_value.specs.Grammar.{Json}
use Rattle.read_head.specs.declared.Verdict.{Verdict}
use Rattle.read_head.specs.declared.Verdict.TheVariants.{Good, Missing, Bad}
use Rattle.read_head.specs.Word.{Word, absent, other, word, word_in}
use Rattle.read_head.specs.Values.{verdict_of, no_text, got_label}
use Rattle.read_lists.specs.declared.VersionList.{VersionList}
use Rattle.read_lists.specs.declared.SiteList.{SiteList}
use Rattle.read_lists.specs.Items.{Item, Items, item_in, list_of, list_in}
use Rattle.read_lists.specs.Version as Code
use Rattle.read_lists.specs.Version.{no_number, got_version, version_of_item, site_of_item, no_versions, no_sites, push_version, push_site, versions_of, sites_of}
use Rattle.machine.specs.Words.{maybe, is_some}
use Rattle.machine.specs.Json.{element, string_of, version_in}
use Rattle.machine.specs.Answers as Answers
use Rattle.machine.specs.Answers.{Element, a_string, ◌is◌, label, Need, any_entry, is_object}
use Rattle.refine_read.specs.Verdicts.{verdict}
use Rattle.refine_read.proofs.Words.{found_of, element_found, worst_good, element_judged, need_good}
use Rattle.refine_read.proofs.Fields.{label_kept}
use Rattle.refine_read.proofs.Gathered.{Pushes, Holds, entries_of, list_judged, list_holds}
use Rattle.refine_read.proofs.Entries.{object_is, element_verdict, elements_verdict, elements_more, label_element, is_missing, is_bad, entry_judged, good_object}
use Rattle.refine_read.specs.Versions.{number_of, numbered}
use Rattle.refine_read.proofs.Text.{is_version, version_sure, text_is}

-- an entry with one element
module _ (e : Element) (x : Json) (v : Verdict) (same : v ≡ element_verdict x e) where
  one_judged : pick (is_object x) v Bad ≡ verdict (is_missing (e ∷ []) x) (is_bad (e ∷ []) any_entry x)
  one_judged = entry_judged (e ∷ []) any_entry x v (same ∙ sym (worst_good (element_verdict x e)) ∙ sym (elements_more x e []) ∙ sym (worst_good (elements_verdict x (e ∷ []))))

-- ---- vers
version_verdict : (w : Word) → (got_version w).verdict ≡ verdict_of is_version w
version_verdict absent = refl
version_verdict other = refl
version_verdict (word d) = ap (λ (r : Number). (Code.numbered r).verdict) (text_is d) ∙ by (version_in d)
  where
    by : (o : Option (List ℕ)) → (Code.numbered (numbered o)).verdict ≡ pick (is_some o) Good Bad
    by none = refl
    by (some v) = refl

abbrev vers : Element
vers = "vers" is a_string is_version

version_element : (x : Json) → (got_version (word_in x (text "vers"))).verdict ≡ element_verdict x vers
version_element x = version_verdict (word_in x (text "vers")) ∙ element_judged is_version version_sure x "vers"

-- the number of an entry's version
abbrev pub version_at : Json → ℕ
version_at x = maybe 0 number_of (version_in (string_of "vers" x))

version_number : (x : Json) → (got_version (word_in x (text "vers"))).verdict ≡ Good → (got_version (word_in x (text "vers"))).number ≡ version_at x
version_number x g =
    let p = need_good is_version x "vers" (sym (version_verdict (word_in x (text "vers"))) ∙ g) in
    ap (λ (w : Word). (got_version w).number) p.0
    ∙ ap (λ (r : Number). (Code.numbered r).number) (text_is (string_of "vers" x))
    ∙ by (version_in (string_of "vers" x))
  where
    by : (o : Option (List ℕ)) → (Code.numbered (numbered o)).number ≡ maybe 0 number_of o
    by none = refl
    by (some v) = refl

version_item : (x : Json) → (version_of_item (item_in x)).verdict ≡ pick (is_object x) (got_version (word_in x (text "vers"))).verdict Bad
version_item x = rw (object_is x) (by (is_object x))
  where
    by : (b : Bool) → (pick b (got_version (word_in x (text "vers"))) (no_number Bad)).verdict ≡ pick b (got_version (word_in x (text "vers"))).verdict Bad
    by true = refl
    by false = refl

version_judged : (x : Json) → (version_of_item (item_in x)).verdict ≡ verdict (is_missing (vers ∷ []) x) (is_bad (vers ∷ []) any_entry x)
version_judged x = version_item x ∙ one_judged vers x (got_version (word_in x (text "vers"))).verdict (version_element x)

version_value : (x : Json) → is_missing (vers ∷ []) x ≡ false → is_bad (vers ∷ []) any_entry x ≡ false → (version_of_item (item_in x)).number ≡ version_at x
version_value x m b =
    let t : is_object x ≡ true = good_object (vers ∷ []) any_entry x b in
    let g : (got_version (word_in x (text "vers"))).verdict ≡ Good = sym (rw t at (version_item x)) ∙ version_judged x ∙ ap₂ verdict m b in
    rw (object_is x, t) (version_number x g)

-- ---- sId
abbrev s_id : Element
s_id = "sId" is label

site_item : (x : Json) → (site_of_item (item_in x)).verdict ≡ pick (is_object x) (got_label (word_in x (text "sId"))).verdict Bad
site_item x = rw (object_is x) (by (is_object x))
  where
    by : (b : Bool) → (pick b (got_label (word_in x (text "sId"))) (no_text Bad)).verdict ≡ pick b (got_label (word_in x (text "sId"))).verdict Bad
    by true = refl
    by false = refl

site_judged : (x : Json) → (site_of_item (item_in x)).verdict ≡ verdict (is_missing (s_id ∷ []) x) (is_bad (s_id ∷ []) any_entry x)
site_judged x = site_item x ∙ one_judged s_id x (got_label (word_in x (text "sId"))).verdict (label_element x "sId")

abbrev pub site_at : Json → Label
site_at x = label_of (string_of "sId" x)

site_value : (x : Json) → is_missing (s_id ∷ []) x ≡ false → is_bad (s_id ∷ []) any_entry x ≡ false → (site_of_item (item_in x)).label ≡ site_at x
site_value x m b =
    let t : is_object x ≡ true = good_object (s_id ∷ []) any_entry x b in
    let g : (got_label (word_in x (text "sId"))).verdict ≡ Good = sym (rw t at (site_item x)) ∙ site_judged x ∙ ap₂ verdict m b in
    rw (object_is x, t) (label_kept x "sId" g)

-- ---- the two lists
abbrev version_said : VersionList → Verdict
version_said l = l.verdict

abbrev pub version_count : VersionList → ℕ
version_count l = l.versions.count

abbrev pub version_numbers : VersionList → List ℕ
version_numbers l = l.versions.list

abbrev version_push : VersionList → Item → VersionList
version_push l x = push_version l (version_of_item x)

version_pushes : (l : VersionList) (x : Json) → Pushes version_said version_count version_numbers (λ y. (version_of_item (item_in y)).verdict) (λ y. (version_of_item (item_in y)).number) l (version_push l (item_in x)) x
unfolding push_version
version_pushes l x = bool_cases (ltb l.versions.count 16)
    (λ t. record { judged = rw t; counted = rw t; holds = rw t })
    (λ f. record { judged = rw f; counted = rw f; holds = rw f })

abbrev site_said : SiteList → Verdict
site_said l = l.verdict

abbrev pub site_count : SiteList → ℕ
site_count l = l.sites.count

abbrev pub site_labels : SiteList → List Label
site_labels l = l.sites.list

abbrev site_push : SiteList → Item → SiteList
site_push l x = push_site l (site_of_item x)

site_pushes : (l : SiteList) (x : Json) → Pushes site_said site_count site_labels (λ y. (site_of_item (item_in y)).verdict) (λ y. (site_of_item (item_in y)).label) l (site_push l (item_in x)) x
unfolding push_site
site_pushes l x = bool_cases (ltb l.sites.count 16)
    (λ t. record { judged = rw t; counted = rw t; holds = rw t })
    (λ f. record { judged = rw f; counted = rw f; holds = rw f })

abbrev pub the_versions : Need
the_versions = Answers.entries "RSMP" (vers ∷ []) any_entry

abbrev pub the_sites : Need
the_sites = Answers.entries "siteId" (s_id ∷ []) any_entry

module _ (j : Json) where
  list_in_lem : (name : String) → list_in j (text name) ≡ list_of (found_of (element name j))
  unfolding list_in
  list_in_lem name = ap list_of (element_found j name)

  pub versions_judged : (versions_of (list_in j (text "RSMP"))).verdict ≡ verdict (Answers.is_missing j the_versions) (Answers.is_bad j the_versions)
  versions_judged =
      ap (λ (i : Items). (versions_of i).verdict) (list_in_lem "RSMP")
      ∙ list_judged version_said version_count version_numbers _ _ version_push version_pushes (is_missing (vers ∷ [])) (is_bad (vers ∷ []) any_entry) version_judged
      (no_versions Good) (no_versions Missing) (no_versions Bad) refl refl refl refl (element "RSMP" j)

  pub versions_held : (versions_of (list_in j (text "RSMP"))).verdict ≡ Good → Holds (versions_of (list_in j (text "RSMP"))) version_count version_numbers version_at (entries_of (element "RSMP" j))
  versions_held g =
      rw (list_in_lem "RSMP")
      (list_holds version_said version_count version_numbers _ _ version_push version_pushes (is_missing (vers ∷ [])) (is_bad (vers ∷ []) any_entry) version_judged
      (no_versions Good) (no_versions Missing) (no_versions Bad) refl refl refl refl version_at version_value refl (element "RSMP" j) (rw (list_in_lem "RSMP") at g))

  pub sites_judged : (sites_of (list_in j (text "siteId"))).verdict ≡ verdict (Answers.is_missing j the_sites) (Answers.is_bad j the_sites)
  sites_judged =
      ap (λ (i : Items). (sites_of i).verdict) (list_in_lem "siteId")
      ∙ list_judged site_said site_count site_labels _ _ site_push site_pushes (is_missing (s_id ∷ [])) (is_bad (s_id ∷ []) any_entry) site_judged
      (no_sites Good) (no_sites Missing) (no_sites Bad) refl refl refl refl (element "siteId" j)

  pub sites_held : (sites_of (list_in j (text "siteId"))).verdict ≡ Good → Holds (sites_of (list_in j (text "siteId"))) site_count site_labels site_at (entries_of (element "siteId" j))
  sites_held g =
      rw (list_in_lem "siteId")
      (list_holds site_said site_count site_labels _ _ site_push site_pushes (is_missing (s_id ∷ [])) (is_bad (s_id ∷ []) any_entry) site_judged
      (no_sites Good) (no_sites Missing) (no_sites Bad) refl refl refl refl site_at site_value refl (element "siteId" j) (rw (list_in_lem "siteId") at g))
