-- A list that is good was gathered whole.
-- Assumes nothing.
use Rattle.basis.proofs.Std.{◌≡◌, refl, ap, List, [], ◌∷◌, ℕ, suc, ◌+◌, ◌≤◌, ◌<◌, arith, ltb, length, ltb-true, text, bool_cases}
use Rattle.json_value.specs.Grammar.{Json, Jsons}
use Rattle.json_value.specs.Grammar.Json.{null, bool, num, str, arr, obj}
use Rattle.json_value.specs.Grammar.Jsons.{jnil, jcons}
use Rattle.json_find.specs.Lookup.{Found, member, count_elements}
use Rattle.json_find.specs.Lookup.Found.{found, missing}
use Rattle.read_head.specs.declared.Verdict.{Verdict}
use Rattle.read_head.specs.declared.Verdict.TheVariants.{Good, Missing, Bad}
use Rattle.read_head.specs.declared.GotLabel.{GotLabel}
use Rattle.read_head.specs.Word.{word_in}
use Rattle.read_head.specs.Values.{worst, got_label}
use Rattle.read_lists.specs.declared.Asking.{Asking}
use Rattle.read_lists.specs.declared.GotNumber.{GotNumber}
use Rattle.read_lists.specs.declared.GotEntry.{GotEntry}
use Rattle.read_lists.specs.declared.VersionList.{VersionList}
use Rattle.read_lists.specs.declared.SiteList.{SiteList}
use Rattle.read_lists.specs.declared.StatusList.{StatusList}
use Rattle.read_lists.specs.Items.{Item, items_in, list_of, list_in}
use Rattle.read_lists.specs.Gather.{gather, gathered}
use Rattle.read_lists.specs.Version.{version_of_item, site_of_item, no_versions, no_sites, push_version, push_site, versions_of, sites_of, version_in}
use Rattle.read_lists.specs.Status.{entry_of_item, no_statuses, push_entry, statuses_of, status_in}
use Rattle.read_lists.specs.Claims.{Counted}
use Rattle.read_lists.proofs.Worst.{not_missing, not_bad, both_good}

items_long : (js : Jsons) → length (items_in js) ≡ count_elements js
items_long jnil = refl
items_long (jcons j js) = ap suc (items_long js)

-- what a good list says of the one before its last entry
pub record Pushed (before : Verdict) (count next : ℕ) : Type 0 where
  pub good : before ≡ Good
  pub room : count < 16
  pub more : next ≡ count + 1

module _ {A : Type 0} (verdict : A → Verdict) (count : A → ℕ) (push : A → Item → A)
    (one : (a : A) (x : Item) → verdict (push a x) ≡ Good → Pushed (verdict a) (count a) (count (push a x)))
  where
    good_before : (a : A) (xs : List Item) → verdict (gather push a xs) ≡ Good → verdict a ≡ Good
    unfolding gather
    good_before a [] g = g
    good_before a (x ∷ xs) g = (one a x (good_before (push a x) xs g)).good

    whole : (a : A) (xs : List Item) → count a ≤ 16 → verdict (gather push a xs) ≡ Good
        → (count (gather push a xs) ≡ count a + length xs) × (count (gather push a xs) ≤ 16)
    unfolding gather
    whole a [] h g = (omega arith, h)
    whole a (x ∷ xs) h g =
        let p = one a x (good_before (push a x) xs g) in
        let w = whole (push a x) xs (omega (arith, p.room, p.more)) g in
        (omega (arith, w.0, p.more), w.1)

    module _ (start none bad : A) (empty : count start ≡ 0) (no : verdict none ≡ Good → ⊥) (wrong : verdict bad ≡ Good → ⊥) where
      pub counted : (f : Found) → verdict (gathered push start none bad (list_of f)) ≡ Good → Counted f (count (gathered push start none bad (list_of f)))
      counted missing g = absurd (no g)
      counted (found null) g = absurd (wrong g)
      counted (found (bool b)) g = absurd (wrong g)
      counted (found (num d)) g = absurd (wrong g)
      counted (found (str d)) g = absurd (wrong g)
      counted (found (obj ms)) g = absurd (wrong g)
      counted (found (arr js)) g =
          let w = whole start (items_in js) (omega arith) g in
          record { list = js; is = refl; all = omega (arith, w.0, items_long js); most = w.1 }

entry_pushed : (l : StatusList) (g : GotEntry) → (push_entry l g).verdict ≡ Good → Pushed l.verdict l.count (push_entry l g).count
unfolding push_entry
entry_pushed l g e =
    bool_cases (ltb l.count 16)
    (λ t. record { good = (both_good l.verdict g.verdict (rw t at e)).0; room = ltb-true l.count 16 t; more = rw t refl })
    (λ f. absurd (not_bad (both_good (worst l.verdict g.verdict) Bad (rw f at e)).1))

version_pushed : (l : VersionList) (g : GotNumber) → (push_version l g).verdict ≡ Good → Pushed l.verdict l.versions.count (push_version l g).versions.count
unfolding push_version
version_pushed l g e =
    bool_cases (ltb l.versions.count 16)
    (λ t. record { good = (both_good l.verdict g.verdict (rw t at e)).0; room = ltb-true l.versions.count 16 t; more = rw t refl })
    (λ f. absurd (not_bad (both_good (worst l.verdict g.verdict) Bad (rw f at e)).1))

site_pushed : (l : SiteList) (g : GotLabel) → (push_site l g).verdict ≡ Good → Pushed l.verdict l.sites.count (push_site l g).sites.count
unfolding push_site
site_pushed l g e =
    bool_cases (ltb l.sites.count 16)
    (λ t. record { good = (both_good l.verdict g.verdict (rw t at e)).0; room = ltb-true l.sites.count 16 t; more = rw t refl })
    (λ f. absurd (not_bad (both_good (worst l.verdict g.verdict) Bad (rw f at e)).1))

pub statuses : (asking : Asking) (j : Json) → (status_in asking j).verdict ≡ Good → Counted (member (text "sS") j) (status_in asking j).count
unfolding status_in list_in
statuses asking j g =
    counted (λ (l : StatusList). l.verdict) (λ (l : StatusList). l.count) (λ l x. push_entry l (entry_of_item asking x))
    (λ l x. entry_pushed l (entry_of_item asking x))
    (no_statuses Good) (no_statuses Missing) (no_statuses Bad) refl not_missing not_bad (member (text "sS") j)
    (both_good (got_label (word_in j (text "cId"))).verdict (statuses_of asking (list_of (member (text "sS") j))).verdict g).1

module _ (j : Json) (g : (version_in j).verdict ≡ Good) where
  parts : ((versions_of (list_of (member (text "RSMP") j))).verdict ≡ Good) × ((sites_of (list_of (member (text "siteId") j))).verdict ≡ Good)
  unfolding version_in list_in
  parts =
      let v = versions_of (list_of (member (text "RSMP") j)) in
      let s = sites_of (list_of (member (text "siteId") j)) in
      let p = both_good v.verdict (worst s.verdict (got_label (word_in j (text "SXL"))).verdict) g in
      (p.0, (both_good s.verdict (got_label (word_in j (text "SXL"))).verdict p.1).0)

  pub versions : Counted (member (text "RSMP") j) (version_in j).offer.versions.count
  unfolding version_in list_in
  versions =
      counted (λ (l : VersionList). l.verdict) (λ (l : VersionList). l.versions.count) (λ l x. push_version l (version_of_item x))
      (λ l x. version_pushed l (version_of_item x))
      (no_versions Good) (no_versions Missing) (no_versions Bad) refl not_missing not_bad (member (text "RSMP") j) parts.0

  pub sites : Counted (member (text "siteId") j) (version_in j).offer.sites.count
  unfolding version_in list_in
  sites =
      counted (λ (l : SiteList). l.verdict) (λ (l : SiteList). l.sites.count) (λ l x. push_site l (site_of_item x))
      (λ l x. site_pushed l (site_of_item x))
      (no_sites Good) (no_sites Missing) (no_sites Bad) refl not_missing not_bad (member (text "siteId") j) parts.1
