-- What a call in place gives, the site's table being t: the step of its definition, and every word as it was where it refuses, the pool's too.
-- Assumes nothing.
use Rattle.std.specs.Prelude.{ℕ, ◌≡◌, Bool, List}
use Rattle.answer.specs.declared.Refusal.{Refusal}
use Rattle.answer.specs.declared.Answer.{Answer}
use Rattle.answer.specs.declared.Answer.TheVariants.{Refused}
use Rattle.table_whole.specs.declared.SiteTable.{SiteTable}
use Rattle.site.specs.declared.Step.{Step}
use Rattle.site.specs.Call.{Plan, Gives}
use Rattle.store_site.specs.Layout.{site_of}
use Rattle.store_site.specs.Turns.{Plain}

-- the step x, the pool's words going from ps to qs and the site's from ws to vs
pub record StepsIn (t : SiteTable) (x : Step) (ps qs ws vs : List ℕ) (r : Answer) : Type 0 where
  pub step : ◌≡◌ {A = Step} (record { site = site_of qs vs t; answer = r }) x
  pub plain : Plain ws → Plain vs
  pub kept : (why : Refusal) → r ≡ Refused why → (qs ≡ ps) × (vs ≡ ws)

-- the same of a call with a lent output, which goes from xs to ys
pub record GivesIn (t : SiteTable) (time : ℕ) (refuses : Refusal → Bool) (p : Plan) (ps qs ws vs xs ys : List ℕ) (r : Answer) : Type 0 where
  pub gives : Gives (site_of ps ws t) time refuses p xs ys (record { site = site_of qs vs t; answer = r })
  pub plain : Plain ws → Plain vs
  pub kept : (why : Refusal) → r ≡ Refused why → (qs ≡ ps) × (vs ≡ ws)
