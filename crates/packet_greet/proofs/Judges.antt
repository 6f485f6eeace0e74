-- A Version with good fields is judged by what the table offers.
-- Assumes nothing.
use Rattle.basis.proofs.Std.{ℕ, ◌≡◌, refl, sym, ap, subst, ◌∙◌, List}
use Rattle.answer.specs.declared.Answer.{Answer}
use Rattle.table_whole.specs.declared.SiteTable.{SiteTable}
use Rattle.read_head.specs.declared.Verdict.{Verdict}
use Rattle.read_head.specs.declared.Verdict.TheVariants.{Good}
use Rattle.read_lists.specs.declared.VersionFields.{VersionFields}
use Rattle.read_versions.specs.declared.Offer.{Offer}
use Rattle.read_versions.specs.declared.Judged.{Judged}
use Rattle.read_versions.specs.Judge.{judge}
use Rattle.site.specs.Call.{never}
use Rattle.store_site.specs.Layout.{site_of}
use Rattle.store_call.specs.Called.{GivesIn}
use Rattle.packet_answer.specs.declared.Question.{Question}
use Rattle.packet_answer.specs.Taken.{by_verdict}
use Rattle.packet_greet.specs.Version.{own_offer, own, version_judged, version_taken}

own_table : (ps ws : List ℕ) (t : SiteTable) → own (site_of ps ws t) ≡ own_offer t
unfolding site_of
own_table ps ws t = refl

module _ (t : SiteTable) (q : Question) (f : VersionFields) {ps qs ws vs xs ys : List ℕ} {r : Answer} where
  pub judges : {o : Offer} {j : Judged}
      → f.verdict ≡ Good
      → o ≡ own_offer t
      → j ≡ judge o f.offer
      → GivesIn t q.time never (version_judged (site_of ps ws t) q j).plan ps qs ws vs xs ys r
      → GivesIn t q.time never (version_taken (site_of ps ws t) q f).plan ps qs ws vs xs ys r
  judges e y h g =
      subst
      (λ (v : Verdict). GivesIn t q.time never (by_verdict v (site_of ps ws t) q (version_judged (site_of ps ws t) q (judge (own (site_of ps ws t)) f.offer))).plan ps qs ws vs xs ys r)
      (sym e)
      (subst (λ (x : Judged). GivesIn t q.time never (version_judged (site_of ps ws t) q x).plan ps qs ws vs xs ys r)
      (h ∙ ap (λ (x : Offer). judge x f.offer) (y ∙ sym (own_table ps ws t))) g)
