-- What the call of a packet gives that comes to x.
-- Assumes nothing.
use Rattle.std.specs.Prelude.{ℕ, List}
use Rattle.answer.specs.declared.Answer.{Answer}
use Rattle.table_whole.specs.declared.SiteTable.{SiteTable}
use Rattle.store_site.specs.Layout.{site_of}
use Rattle.store_call.specs.Called.{GivesIn}
use Rattle.packet_answer.specs.declared.Question.{Question}
use Rattle.packet_answer.specs.Taken.{Taken, taken_refuses}

-- the pool's words go from ps to qs, the site's from ws to vs, its table being t
abbrev pub TakesIn : SiteTable → Question → Taken → List ℕ → List ℕ → List ℕ → List ℕ → List ℕ → List ℕ → Answer → Type 0
TakesIn t q x ps qs ws vs xs ys r = GivesIn t q.time (taken_refuses (site_of ps ws t) q x) x.plan ps qs ws vs xs ys r
