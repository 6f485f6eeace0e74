-- Over every sequence from every done start of a site: of its own calls, and between them of the calls and starts of a site beside it. The site is sound,
-- and a done call writes exactly its messages' bytes, 4,096 at most, each of which reads back to its message. Statements only: their proof is `kept`.
-- Assumes nothing.
use Rattle.std.specs.Prelude.{ℕ, ◌≡◌, List}
use Rattle.answer.specs.declared.Report.{Report}
use Rattle.answer.specs.declared.Answer.TheVariants.{Done}
use Rattle.pool.specs.declared.Pool.{Pool}
use Rattle.site.specs.declared.Site.{Site}
use Rattle.site.specs.declared.Step.{Step}
use Rattle.site.specs.Site.{with_pool}
use Rattle.call_start.specs.Starts.{Starts}
use Rattle.call_laws.specs.Sound.{Sound}
use Rattle.call_laws.specs.Formedness.{Wrote}
use Rattle.call_laws.specs.Calls.{Call, plan_of, output_of, step_by, out_by}
use Rattle.call_laws.specs.Typed.{Typed}

-- two sites over one pool
pub record Beside (s t : Site) : Type 0 where
  pub pool : t.pool ≡ s.pool
  pub apart : t.site ≡ s.site → ⊥

-- what becomes of a site: by its own calls, and, of its pool alone, by the calls and starts of a sound site beside it
pub data Since (s : Site) : Site → Type 0 where
  first : Since s s
  own : {u : Site} (c : Call) → Typed c → Since s u → Since s (step_by u c).site
  other : {u : Site} (t : Site) → Sound t → Beside u t → (c : Call) → Typed c → Since s u → Since s (with_pool u (step_by t c).site.pool)
  begun : {u : Site} (b : List ℕ) (site links primary period first time : ℕ) (r : Step) (d : Report) → Starts b u.pool site links primary period first time r → r.answer ≡ Done d
      → Since s u → Since s (with_pool u r.site.pool)

pub record Sequences : Type 0 where
  -- whatever the pool was before the start
  pub started : (b : List ℕ) (p : Pool) (site links primary period first time : ℕ) (r : Step) (d : Report) → Starts b p site links primary period first time r → r.answer ≡ Done d
      → Sound r.site
  pub sound : (s u : Site) → Sound s → Since s u → Sound u
  -- no call makes a site another
  pub number : (s : Site) → Sound s → (c : Call) → Typed c → (step_by s c).site.site ≡ s.site
  -- of the next call
  pub writes : (s : Site) → Sound s → (c : Call) → Typed c → (d : Report) → (step_by s c).answer ≡ Done d
      → Wrote (plan_of s c).messages (output_of c) (out_by s c) d
