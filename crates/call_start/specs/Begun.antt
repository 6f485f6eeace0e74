-- Start in place: what it leaves in the pool's words, in those of the site and in the bytes of its table.
-- Assumes nothing.
use Rattle.std.specs.Prelude.{ℕ, ◌≡◌, true, false, List}
use Rattle.answer.specs.declared.Answer.{Answer}
use Rattle.answer.specs.Number.{is_done}
use Rattle.site.specs.declared.Step.{Step}
use Rattle.store_table.specs.Layout.{layout_of}
use Rattle.store_site.specs.Layout.{pool_in}
use Rattle.store_whole.specs.Image.{words_of}
use Rattle.call_start.specs.Starts.{Starts}

-- the step x, the pool's words going from ps to qs, the site's from ws to vs and the bytes from xs to ys: where it is done they are exactly
-- those of its site and of its table, whatever they were before; where it is refused they are as before
pub record Begun (x : Step) (ps qs ws vs xs ys : List ℕ) (r : Answer) : Type 0 where
  pub answer : r ≡ x.answer
  pub pool : is_done r ≡ true → pool_in qs ≡ x.site.pool
  pub words : is_done r ≡ true → vs ≡ words_of x.site
  pub bytes : is_done r ≡ true → ys ≡ layout_of x.site.table
  pub pool_kept : is_done r ≡ false → qs ≡ ps
  pub words_kept : is_done r ≡ false → vs ≡ ws
  pub bytes_kept : is_done r ≡ false → ys ≡ xs

-- the step is that of the definition
pub record StartsIn (b : List ℕ) (site links primary period first time : ℕ) (ps qs ws vs xs ys : List ℕ) (r : Answer) : Type 0 where
  pub step : Step
  pub starts : Starts b (pool_in ps) site links primary period first time step
  pub begun : Begun step ps qs ws vs xs ys r
