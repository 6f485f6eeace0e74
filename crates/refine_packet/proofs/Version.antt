-- Their Version is the machine's.
-- Assumes nothing.
use Rattle.basis.proofs.Std.{ℕ, ◌/◌, ◌%◌, ◌<◌, String, ◌≡◌, refl, sym, ap, subst, ◌∙◌, Bool, true, false, List, [], ◌∷◌, Option, some, none, arith, pick, text}
use Rattle.answer.specs.Given.Hint.{none as no_hint}
use Rattle.identity.specs.declared.Identity.{Identity}
use Rattle.label.specs.Label.{text_of}
use Rattle.link.specs.declared.Link.{Link}
use Rattle.link.specs.Steps.{version_accepted_of}
use Rattle.json_value.specs.Grammar.{Json}
use Rattle.table_whole.specs.declared.SiteTable.{SiteTable}
use Rattle.read_head.specs.declared.Verdict.{Verdict}
use Rattle.read_versions.specs.declared.Judged.{Judged}
use Rattle.read_versions.specs.declared.Judged.TheVariants.{Chosen, RsmpVersion, SiteId, SxlVersion}
use Rattle.read_versions.specs.Version.{version}
use Rattle.read_versions.specs.Judge.{judge}
use Rattle.read_lists.specs.declared.VersionFields.{VersionFields}
use Rattle.read_lists.specs.Version.{version_at}
use Rattle.site.specs.declared.Site.{Site}
use Rattle.site.specs.Site.{link_at, with_link}
use Rattle.packet_greet.specs.Version.{own, accepted, version_judged, version_taken}
use Rattle.machine.specs.Words.{Bytes, maybe, or_else}
use Rattle.machine.specs.State.{Machine, life_at, with_life}
use Rattle.machine.specs.Json.{read_packet, string_at, is_type}
use Rattle.machine.specs.Life.{is_older, offers, common, names_site, equal_sxl}
use Rattle.machine.specs.Answers.{wants_reply}
use Rattle.machine.specs.Effects.{agreed, version_accepted, carried_out}
use Rattle.demand_held.proofs.Lists.Each.{no_more}
use Rattle.refine_read.specs.Verdicts.{verdict_in}
use Rattle.refine_read.specs.Reasons.{by_verdict as reason_by, further_reason}
use Rattle.refine_read.proofs.Kept as Reads
use Rattle.refine_read.specs.Versions.{number_of, checked, failed, Ours, VersionReads}
use Rattle.refine_read.proofs.VersionsKept as Versions
use Rattle.refine_read.proofs.Checks.{Parts, three, chosen_parts, ours_fall}
use Rattle.refine_parts.specs.Same.{Beside}
use Rattle.refine_parts.proofs.LifeActs.{acts}
use Rattle.refine_calls.specs.Abstracts.{Abstracts}
use Rattle.refine_calls.specs.Calls.SameCommands.{no_command}
use Rattle.refine_calls.proofs.Parts.{with_life_lem}
use Rattle.refine_packet.specs.Taken.{SameTaken, question_on}
use Rattle.refine_packet.proofs.Refused.{reasons, by_verdict_lem}
use Rattle.refine_packet.specs.Greeted.{Judges, SameVersion}
use Rattle.refine_packet.proofs.Acked.{only_acked}

module _ (j : Json) (ty : string_at "type" j ≡ some (text "Version")) where
  is_version : is_type "Version" j ≡ true
  is_version = rw ty

  no_reply : (m : Machine) (l : ℕ) → wants_reply m l j ≡ false
  no_reply m l = rw ty

  done_so : (l t : ℕ) (m : Machine) → carried_out l t j m ≡ version_accepted l j m
  unfolding carried_out
  done_so l t m = rw ty

-- what we offer is what the machine offers
own_ours : {beside : Beside} (s : Site) (m : Machine) → Abstracts beside s m → Ours m (own s)
own_ours s m h =
    record {
      site = s.table.site;
      versions = refl;
      sites = refl;
      same_site = ap (λ (x : SiteTable). text_of x.site) h.items.setup.table ∙ (Reads.kept).kept m.setup.table.site;
      same_sxl = ap (λ (x : SiteTable). text_of x.sxl) h.items.setup.table ∙ (Reads.kept).kept m.setup.table.sxl;
    }

module _ {beside : Beside} (s : Site) (m : Machine) (h : Abstracts beside s m) (l : ℕ) (b : l < m.setup.links) (judges : Judges (life_at m l)) (t : ℕ) (id : Identity) (j : Json) (ty : string_at "type" j ≡ some (text "Version")) where
  abbrev Same : Judged → Option String → Type 0
  Same c r = SameTaken beside s m l t id j (version_judged s (question_on l t id j) c) r

  -- its three parts are in one number
  so : (x y z a : ℕ) → common j ≡ some (x ∷ y ∷ z ∷ [])
      → version_accepted_of (link_at s l) (a / 65536) (a / 256 % 256) (a % 256) ≡ version_accepted_of (link_at s l) x y z → Same (Chosen a) none
  so x y z a c k =
      only_acked s m l t id j (accepted s l a) [] no_hint (version_accepted l j m) (done_so j ty l t m) (rw ty)
      (no_reply j ty m l) (no_reply j ty (version_accepted l j m).leaves l) refl refl
      (record {
        leaves = subst (λ (o : Option (List ℕ)). Abstracts beside (accepted s l a) (with_life l (agreed (or_else [] o) (life_at m l)) m)) (sym c)
            (subst (λ (q : Link). Abstracts beside (with_link s l q) (with_life l (agreed (x ∷ y ∷ z ∷ []) (life_at m l)) m)) (sym k)
            (with_life_lem s m h l b (version_accepted_of (link_at s l) x y z) (agreed (x ∷ y ∷ z ∷ []) (life_at m l))
            ((acts.acts (link_at s l) (life_at m l) (h.lives l)).accepts x y z judges.sent judges.not_taken)));
        issued = record { issued = refl; told = no_more };
        for_links = no_more;
        messages = refl;
        closed = refl;
        hint = refl;
        commands = no_command;
      })

  -- it is one of ours, so its parts are in its number
  accepts : (v : List ℕ) → common j ≡ some v → Same (Chosen (number_of v)) none
  accepts v e = by (chosen_parts (offers j) ours_fall v e) e
    where
      by : {w : List ℕ} → Parts w → common j ≡ some w → Same (Chosen (number_of w)) none
      by (three p q t high mid low) c =
          let a : version p q t / 65536 ≡ p = omega arith in
          let b : version p q t / 256 % 256 ≡ q = omega arith in
          let d : version p q t % 256 ≡ t = omega arith in
          so p q t (version p q t) c (rw (a, b, d))

  abbrev first_failed : Option (List ℕ) → Bool → Bool → Judged
  first_failed o n q = maybe RsmpVersion (λ v. pick n (pick q (Chosen (number_of v)) SxlVersion) SiteId) o

  by_checks : (o : Option (List ℕ)) → common j ≡ o → (n q : Bool) → Same (first_failed o n q) (failed (first_failed o n q))
  by_checks none e n q = (reasons s m h l b t id j).rsmp_version_lem
  by_checks (some v) e true true = accepts v e
  by_checks (some v) e true false = (reasons s m h l b t id j).sxl_version_lem
  by_checks (some v) e false q = (reasons s m h l b t id j).site_id_lem

  taken : (p : Bytes) → read_packet p ≡ some j
      → SameTaken beside s m l t id j (version_taken s (question_on l t id j) (version_at p)) (reason_by (verdict_in (is_older (life_at m l)) j) (further_reason m l j))
  taken p read =
      subst (λ (v : Verdict). SameTaken beside s m l t id j (version_taken s (question_on l t id j) f) (reason_by v (further_reason m l j))) (reads.verdict (is_older (life_at m l)) (is_version j ty))
      (subst (λ (r : Option String). SameTaken beside s m l t id j (version_taken s (question_on l t id j) f) (reason_by f.verdict r)) (sym (reads.reason (is_version j ty) m l))
      (by_verdict_lem s m h l b t id j f.verdict (version_judged s (question_on l t id j) (judge (own s) f.offer)) (failed (checked m j))
      (λ g. subst (λ (c : Judged). Same c (failed (checked m j))) (sym (reads.judged g m (own s) (own_ours s m h))) (by_checks (common j) refl (names_site m j) (equal_sxl m j)))))
    where
      f : VersionFields
      f = version_at p

      reads : VersionReads j (version_at p)
      reads = (Versions.kept).version p j read

pub same_version : SameVersion
same_version beside s m h l b judges t id v p j read ty = taken s m h l b judges t id j ty p read
