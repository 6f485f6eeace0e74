-- The claims about the answers and about what greets are kept.
-- Assumes nothing.
use Rattle.basis.proofs.Std.{ℕ, ◌≤◌, ◌<◌, ◌≡◌, refl, ◌∙◌, Bool, true, false, map, le-leb, lt-leb}
use mathlib.Core.List.{reverse}
use Rattle.number.specs.declared.Number.TheVariants.{Is}
use Rattle.number.specs.Decimal.{digits, digits_below}
use Rattle.answer.specs.Given.Hint.{none, clock}
use Rattle.identity.specs.declared.Identity.{Identity}
use Rattle.awaited.specs.declared.Purpose.TheVariants.{Entry}
use Rattle.awaited.specs.declared.Found.TheVariants.{For}
use Rattle.awaited.specs.Awaited.{find_of}
use Rattle.pool.specs.Pool.{settle_of, numbered, with_of}
use Rattle.pool.specs.declared.Spot.TheVariants.{Nowhere}
use Rattle.link.specs.declared.Role.{Role}
use Rattle.link.specs.declared.Role.TheVariants.{Primary, Secondary}
use Rattle.link.specs.Steps.{closes_of}
use Rattle.read_head.specs.declared.Verdict.{Verdict}
use Rattle.read_head.specs.declared.Verdict.TheVariants.{Good, Missing, Bad}
use Rattle.read_head.specs.declared.GotTime.{GotTime}
use Rattle.read_lists.specs.declared.VersionFields.{VersionFields}
use Rattle.read_versions.specs.Numeral.{number_in}
use Rattle.read_versions.specs.declared.Judged.{Judged}
use Rattle.read_versions.specs.declared.Judged.TheVariants.{Chosen, RsmpVersion, SiteId, SxlVersion}
use Rattle.read_versions.specs.Version.{version_of, before, behind, one_part, two_parts}
use Rattle.read_versions.specs.Judge.{versions_in, judge}
use Rattle.table_whole.specs.declared.SiteTable.{SiteTable}
use Rattle.write_message.specs.Listing.{offered}
use Rattle.site.specs.declared.Site.{Site}
use Rattle.site.specs.Site.{link_at, role_of, owner_of, close_at, mask_of}
use Rattle.packet_answer.specs.declared.Question.{Question}
use Rattle.packet_answer.specs.Taken.{Taken, by_verdict}
use Rattle.packet_greet.specs.Answered.{answered_plan}
use Rattle.packet_greet.specs.Version.{own_offer, own, version_judged, version_taken}
use Rattle.packet_greet.specs.Watchdog.{watchdog_taken}
use Rattle.packet_greet.specs.Claims.{Claims}

-- an answer to a message with a record does not close
stays : (s : Site) (l : ℕ) (id : Identity) (acknowledged : Bool) (q : ℕ)
    → find_of (link_at s l).awaited id ≡ For (Entry q)
    → closes_of (link_at s l) id acknowledged ≡ false
unfolding closes_of
stays s l id true q e = refl
stays s l id false q e = rw e refl

settles : (s : Site) (l : ℕ) (id : Identity) (acknowledged : Bool) (q : ℕ)
    → find_of (link_at s l).awaited id ≡ For (Entry q)
    → (answered_plan s l id acknowledged).site.pool ≡ settle_of s.pool (owner_of s l) q
settles s l id acknowledged q e = rw (stays s l id acknowledged q e, e) refl

missed : (s : Site) (l q : ℕ) → numbered s.pool l q ≡ Nowhere → settle_of s.pool l q ≡ s.pool
unfolding settle_of with_of
missed s l q e = rw e refl

judges : (s : Site) (q : Question) (j : Judged)
    → ((v : ℕ) → j ≡ Chosen v → ⊥)
    → ((version_judged s q j).plan.site ≡ close_at s q.link) × ((version_judged s q j).plan.closed ≡ mask_of q.link)
judges s q (Chosen v) h = absurd (h v refl)
judges s q RsmpVersion h = (refl, refl)
judges s q SiteId h = (refl, refl)
judges s q SxlVersion h = (refl, refl)

failed : (s : Site) (q : Question) (f : VersionFields)
    → f.verdict ≡ Good
    → ((v : ℕ) → judge (own s) f.offer ≡ Chosen v → ⊥)
    → ((version_taken s q f).plan.site ≡ close_at s q.link) × ((version_taken s q f).plan.closed ≡ mask_of q.link)
failed s q f e h = rw e (judges s q (judge (own s) f.offer) h)

offers : (table : SiteTable) → reverse (map version_of offered) ≡ map Is (versions_in (own_offer table))
unfolding version_of two_parts one_part before behind number_in digits digits_below
offers table = refl

hints : (s : Site) (q : Question) (f : GotTime)
    → role_of s q.link ≡ Primary
    → f.verdict ≡ Good
    → 3 ≤ f.decimals
    → (watchdog_taken s q f).plan.hint ≡ clock f.time
hints s q f e h d = rw (h, e, le-leb 3 f.decimals d) refl

fewer : (s : Site) (q : Question) (f : GotTime) (v : Verdict) (y : Role)
    → f.verdict ≡ v
    → role_of s q.link ≡ y
    → f.decimals < 3
    → (watchdog_taken s q f).plan.hint ≡ none
fewer s q f Good Primary h e d = rw (h, e, lt-leb 3 f.decimals d) refl
fewer s q f Good Secondary h e d = rw (h, e) refl
fewer s q f Missing y h e d = rw h refl
fewer s q f Bad y h e d = rw h refl

unhinted : (s : Site) (q : Question) (f : GotTime) (v : Verdict)
    → f.verdict ≡ v
    → role_of s q.link ≡ Secondary
    → (watchdog_taken s q f).plan.hint ≡ none
unhinted s q f Good h e = rw (h, e) refl
unhinted s q f Missing h e = rw h refl
unhinted s q f Bad h e = rw h refl

-- nothing of what the verdict leaves replies where its last case does not
silent : (v : Verdict) (s : Site) (q : Question) (t : Taken) → t.replies ≡ false → (by_verdict v s q t).replies ≡ false
silent Good s q t e = e
silent Missing s q t e = refl
silent Bad s q t e = refl

judged_silent : (s : Site) (q : Question) (j : Judged) → (version_judged s q j).replies ≡ false
judged_silent s q (Chosen v) = refl
judged_silent s q RsmpVersion = refl
judged_silent s q SiteId = refl
judged_silent s q SxlVersion = refl

pub kept : Claims
kept =
    record {
      settles = settles;
      late = λ s l id acknowledged q e h. settles s l id acknowledged q e ∙ missed s (owner_of s l) q h;
      failed = failed;
      offers = offers;
      hints = hints;
      fewer = λ s q f d. fewer s q f f.verdict (role_of s q.link) refl refl d;
      no_hint = λ s q f e. unhinted s q f f.verdict refl e;
      version_only_answered = λ s q f. silent f.verdict s q _ (judged_silent s q (judge (own s) f.offer));
      watchdog_only_answered = λ s q f. silent f.verdict s q _ refl;
    }
