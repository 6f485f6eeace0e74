-- A site that start made is sound, and every call whose plan is sound leaves a sound site. Statements only: their proofs are `started` and `kept`.
-- Assumes nothing.
use Rattle.std.specs.Prelude.{ℕ, ◌≡◌, Bool, List}
use Rattle.answer.specs.declared.Refusal.{Refusal}
use Rattle.answer.specs.declared.Report.{Report}
use Rattle.answer.specs.declared.Answer.TheVariants.{Done}
use Rattle.answer.specs.Order.{in_order, None}
use Rattle.pool.specs.declared.Pool.{Pool}
use Rattle.pool.specs.Pool.{settle_of, mark_of, unmark_of}
use Rattle.site.specs.declared.Site.{Site}
use Rattle.site.specs.declared.Step.{Step}
use Rattle.site.specs.Call.{Plan, step_of}
use Rattle.call_start.specs.Starts.{Starts}
use Rattle.call_laws.specs.Numbers.{conditions}
use Rattle.call_laws.specs.Sound.{Each, EntryOf, SoundAt, Sound}

-- the pool p, and what settling, marking and unmarking records makes of it
pub data Reworked (p : Pool) : Pool → Type 0 where
  same : Reworked p p
  settles : {r : Pool} (o k : ℕ) → Reworked p r → Reworked p (settle_of r o k)
  marks : {r : Pool} (o k : ℕ) → Reworked p r → Reworked p (mark_of r o k)
  unmarks : {r : Pool} (o : ℕ) → Reworked p r → Reworked p (unmark_of r o)

-- what a call of the site s lays down at this time: a site that is sound but for its records and its time, and sound records
pub record SoundPlan (s : Site) (time : ℕ) (p : Plan) : Type 0 where
  pub site : SoundAt time p.site
  pub number : p.site.site ≡ s.site
  pub pool : Reworked s.pool p.site.pool
  pub issued : Each (EntryOf p.site time) p.issued

-- a done start, whatever the pool was before it
abbrev pub Started : Type 0
Started = (b : List ℕ) (p : Pool) (site links primary period first time : ℕ) (r : Step) (d : Report)
    → Starts b p site links primary period first time r → r.answer ≡ Done d → Sound r.site

-- any call, done or refused: its plan is sound where none of its conditions applies
abbrev pub Keeps : Type 0
Keeps = (s : Site) (time : ℕ) (refuses : Refusal → Bool) (p : Plan) (end : ℕ)
    → Sound s → (None (conditions refuses p) in_order → SoundPlan s time p) → Sound (step_of s time refuses p end).site
