-- What start leaves in the pool's words, in the site's and in the table's bytes.
-- Assumes nothing.
use Rattle.basis.proofs.Std.{ℕ, ◌<◌, ◌≡◌, refl, sym, ap, subst, ◌∙◌, true, false, true≢false, List, [], arith, length, replicate, eq-eqb, ne_eqb}
use Rattle.answer.specs.declared.Refusal.{Refusal}
use Rattle.answer.specs.declared.Refusal.TheVariants.{NotAccepted}
use Rattle.answer.specs.declared.Answer.{Answer}
use Rattle.answer.specs.declared.Answer.TheVariants.{Done, Refused}
use Rattle.pool.specs.declared.Pool.{Pool}
use Rattle.pool.specs.Pool.{empty_of}
use Rattle.link.specs.Fields.{closed_link}
use Rattle.subscription.specs.Subscription.{none}
use Rattle.alarm.specs.Alarm.{beginning}
use Rattle.status.specs.Status.{unknown}
use Rattle.aggregated.specs.Aggregated.{beginning as all_false}
use Rattle.table_whole.specs.declared.SiteTable.{SiteTable}
use Rattle.table_whole.specs.declared.TableRead.{TableRead}
use Rattle.table_whole.specs.declared.Verdict.{Verdict}
use Rattle.table_whole.specs.declared.Verdict.TheVariants.{Accepted, Refused as NoTable}
use Rattle.table_whole.specs.Reads.{Reads}
use Rattle.site.specs.declared.Site.{Site}
use Rattle.site.specs.declared.Step.{Step}
use Rattle.site.specs.Site.{with_links, with_subscriptions, with_alarms, with_statuses}
use Rattle.site.specs.Call.{nothing_of}
use Rattle.store_site.specs.Layout.{pool_in, site_of, site_words}
use Rattle.store_site.specs.Turns.{Turns}
use Rattle.store_table.specs.Layout.{layout_of}
use Rattle.store_whole.specs.Image.{head_words, words_of, Wide}
use Rattle.store_whole.proofs.Back.{words_back}
use Rattle.store_whole.specs.Filled.{with_head, PutLinks}
use Rattle.call_start.specs.Fresh.{alone, site_for, cleared_for, pool_for, fresh, primary_of}
use Rattle.call_start.specs.Starts.Starts.{refuses}
use Rattle.call_start.specs.Making.{is_within, not_accepted, judged_by, make_of}
use Rattle.call_start.specs.Begun.{Begun, StartsIn}
use Rattle.call_start.proofs.Values.{all_within_lem}
use Rattle.call_start.proofs.Whole.{taken, starts_so}

abbrev items : Site → ℕ → Site
items s time = with_statuses (with_alarms (with_subscriptions s (replicate 128 none)) (replicate 32 (beginning time))) (replicate 32 unknown)

-- every part stored, whatever pool the site has
module _ (ws v1 v2 vs : List ℕ) (site links primary period first time : ℕ)
    (h1 : Turns (λ (s : Site). with_head s first time site period links primary (all_false time)) ws v1)
    (h2 : Turns (λ (s : Site). items s time) v1 v2)
    (h3 : PutLinks v2 vs (replicate 4 closed_link)) (t : SiteTable) where
  made : with_links (items (with_head (site_of [] ws t) first time site period links primary (all_false time)) time) (replicate 4 closed_link)
      ≡ fresh (pool_in []) site t links primary period first time
  unfolding fresh site_of
  made = refl

  all_put : site_of [] vs t ≡ fresh (pool_in []) site t links primary period first time
  all_put =
      h3.site [] t
      ∙ ap (λ (s : Site). with_links s (replicate 4 closed_link)) (h2.site [] t ∙ ap (λ (s : Site). items s time) (h1.site [] t))
      ∙ made

  of_any_pool : (p q : Pool) → words_of (fresh p site t links primary period first time) ≡ words_of (fresh q site t links primary period first time)
  unfolding words_of head_words fresh
  of_any_pool p q = refl

  pub fresh_put : (q : Pool) → length vs ≡ site_words → Wide vs → vs ≡ words_of (fresh q site t links primary period first time)
  fresh_put q e w = sym (words_back vs w [] t e h3.plain) ∙ ap words_of all_put ∙ of_any_pool (pool_in []) q

-- the pool after a start
pub pool_alone : (site : ℕ) (p : Pool) → site ≡ alone → pool_for site p ≡ empty_of 8
unfolding pool_for
pool_alone site p e = rw (eq-eqb site alone e) refl

pub pool_beside : (site : ℕ) (p : Pool) → site < 2 → pool_for site p ≡ cleared_for site p
unfolding pool_for
pool_beside site p l = rw (ne_eqb site alone (λ h. omega (arith, h))) refl

-- refused, with nothing stored; done, with all stored
pub nothing_begun : (x : Step) (ps ws xs : List ℕ) → x.answer ≡ Refused NotAccepted → Begun x ps ps ws ws xs xs (Refused NotAccepted)
nothing_begun x ps ws xs e =
    record {
      answer = sym e;
      pool = λ z. absurd (true≢false (sym z));
      words = λ z. absurd (true≢false (sym z));
      bytes = λ z. absurd (true≢false (sym z));
      pool_kept = λ z. refl;
      words_kept = λ z. refl;
      bytes_kept = λ z. refl;
    }

pub all_begun : (x : Step) (ps qs ws vs xs ys : List ℕ) → x.answer ≡ Done nothing_of → pool_in qs ≡ x.site.pool → vs ≡ words_of x.site → ys ≡ layout_of x.site.table
    → Begun x ps qs ws vs xs ys (Done nothing_of)
all_begun x ps qs ws vs xs ys e d f g =
    record {
      answer = sym e;
      pool = λ z. d;
      words = λ z. f;
      bytes = λ z. g;
      pool_kept = λ z. absurd (true≢false z);
      words_kept = λ z. absurd (true≢false z);
      bytes_kept = λ z. absurd (true≢false z);
    }

module _ (p : Pool) (site : ℕ) (t : SiteTable) (links primary period first time : ℕ) where
  pub fresh_table : (fresh p site t links primary period first time).table ≡ t
  unfolding fresh
  fresh_table = refl

  pub fresh_pool : (fresh p site t links primary period first time).pool ≡ p
  unfolding fresh
  fresh_pool = refl

module _ (v : Verdict) (p : Pool) (site : ℕ) (t : SiteTable) (links primary period first time : ℕ) (ps qs ws vs xs ys : List ℕ) where
  abbrev judged : Verdict → Step
  judged u = judged_by u (fresh p site t links primary period first time)

  pub begun_refused : {x : Refusal} → v ≡ NoTable x → Begun (judged v) ps ps ws ws xs xs (Refused NotAccepted)
  begun_refused e = nothing_begun (judged v) ps ws xs (ap (λ (u : Verdict). (judged u).answer) e)

  pub begun_accepted : v ≡ Accepted → pool_in qs ≡ p → vs ≡ words_of (fresh p site t links primary period first time) → ys ≡ layout_of t → Begun (judged v) ps qs ws vs xs ys (Done nothing_of)
  begun_accepted e d f g =
      all_begun (judged v) ps qs ws vs xs ys
      (ap (λ (u : Verdict). (judged u).answer) e)
      (d ∙ sym (fresh_pool p site t links primary period first time) ∙ ap (λ (u : Verdict). (judged u).site.pool) (sym e))
      (f ∙ ap (λ (u : Verdict). words_of (judged u).site) (sym e))
      (g ∙ ap layout_of (sym (fresh_table p site t links primary period first time)) ∙ ap (λ (u : Verdict). layout_of (judged u).site.table) (sym e))

module _ (b : List ℕ) (site links primary period first time : ℕ) where
  pub starts_not : (ps ws xs : List ℕ) → is_within site links primary period first time ≡ false → StartsIn b site links primary period first time ps ps ws ws xs xs (Refused NotAccepted)
  starts_not ps ws xs e =
      record {
        step = not_accepted;
        starts = refuses (λ edition t v p w. true≢false (sym (all_within_lem site links primary period first time w) ∙ e));
        begun = nothing_begun not_accepted ps ws xs refl;
      }

  pub starts_in : (r : TableRead) (ps qs ws vs xs ys : List ℕ) (p : ℕ) (a : Answer) → Reads b r → is_within site links primary period first time ≡ true → p ≡ primary_of primary
      → Begun (judged_by r.verdict (fresh (pool_for site (pool_in ps)) (site_for site) r.table links p period first time)) ps qs ws vs xs ys a
      → StartsIn b site links primary period first time ps qs ws vs xs ys a
  starts_in r ps qs ws vs xs ys p a q e f g =
      record {
        step = make_of r (pool_in ps) site links primary period first time;
        starts = starts_so (pool_in ps) site links primary period first time b r q;
        begun =
            subst (λ (x : Step). Begun x ps qs ws vs xs ys a)
            (ap (λ (n : ℕ). judged_by r.verdict (fresh (pool_for site (pool_in ps)) (site_for site) r.table links n period first time)) f ∙ sym (taken (pool_in ps) site links primary period first time r e)) g;
      }
