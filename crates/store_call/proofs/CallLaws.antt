-- How a call in place ends: refused with nothing changed, or done.
-- Assumes nothing.
use Rattle.basis.proofs.Std.{ℕ, ◌<◌, ◌≡◌, refl, ap, subst, sym, ◌∙◌, Bool, false, List, [], arith}
use Rattle.answer.specs.declared.Refusal.{Refusal}
use Rattle.answer.specs.declared.Report.{Report}
use Rattle.answer.specs.declared.Answer.{Answer}
use Rattle.answer.specs.declared.Answer.TheVariants.{Done, Refused}
use Rattle.table_whole.specs.declared.SiteTable.{SiteTable}
use Rattle.table_whole.specs.Memory.{no_table}
use Rattle.site.specs.declared.Site.{Site}
use Rattle.site.specs.declared.Step.{Step}
use Rattle.site.specs.Site.{no_link_at}
use Rattle.site.specs.Call.{Plan, Gives, refused}
use Rattle.site.proofs.Checks.{link_below}
use Rattle.store_site.specs.Layout.{site_of}
use Rattle.store_site.specs.Turns.{Moves}
use Rattle.store_call.specs.Called.{StepsIn, GivesIn}

-- what is said of every site table holds of one
pub below_four : (ws : List ℕ) (l : ℕ) → ((ps : List ℕ) (t : SiteTable) → no_link_at (site_of ps ws t) l ≡ false) → l < 4
below_four ws l h = link_below (site_of [] ws no_table) l (h [] no_table)

module _ (t : SiteTable) (ps ws : List ℕ) where
  pub steps_refused : (why : Refusal) {x : Step} → refused (site_of ps ws t) why ≡ x → StepsIn t x ps ps ws ws (Refused why)
  steps_refused why e = record { step = e; plain = λ p. p; kept = λ z q. (refl, refl) }

  pub steps_done : {f : Site → Site} {qs vs : List ℕ} {x : Step} (r : Report) → Moves f ps qs ws vs → record { site = f (site_of ps ws t); answer = Done r } ≡ x → StepsIn t x ps qs ws vs (Done r)
  steps_done r c e =
      record {
        step = ap (λ (s : Site). record { site = s; answer = Done r }) (c.site t) ∙ e;
        plain = c.plain;
        kept = λ z q. absurd (let n : ◌≡◌ {A = ℕ} 0 1 = cc in omega arith);
      }

  -- the same step, said otherwise
  pub steps_as : {qs vs : List ℕ} {x y : Step} {r : Answer} → StepsIn t x ps qs ws vs r → x ≡ y → StepsIn t y ps qs ws vs r
  steps_as c e = record { step = c.step ∙ e; plain = c.plain; kept = c.kept }

  module _ {time : ℕ} {refuses : Refusal → Bool} {p : Plan} {xs : List ℕ} where
    pub gives_refused : (why : Refusal) → Gives (site_of ps ws t) time refuses p xs xs (refused (site_of ps ws t) why) → GivesIn t time refuses p ps ps ws ws xs xs (Refused why)
    gives_refused why g = record { gives = g; plain = λ q. q; kept = λ z q. (refl, refl) }

    pub gives_done : {f : Site → Site} {qs vs ys : List ℕ} (r : Report) → Moves f ps qs ws vs → Gives (site_of ps ws t) time refuses p xs ys (record { site = f (site_of ps ws t); answer = Done r })
        → GivesIn t time refuses p ps qs ws vs xs ys (Done r)
    gives_done {ys = ys} r c g =
        record {
          gives = subst (λ (s : Site). Gives (site_of ps ws t) time refuses p xs ys (record { site = s; answer = Done r })) (sym (c.site t)) g;
          plain = c.plain;
          kept = λ z q. absurd (let n : ◌≡◌ {A = ℕ} 0 1 = cc in omega arith);
        }
