-- What a call over lent memory gives. The pool's words go from ps to qs, the site's from ws to vs, and its table is t; `Fits` says that
-- each length is right.
-- Assumes nothing.
use Rattle.std.specs.Prelude.{ℕ, ◌<◌, ◌≡◌, Bool, true, List, length}
use Rattle.answer.specs.declared.Refusal.{Refusal}
use Rattle.answer.specs.Number.{is_done}
use Rattle.table_whole.specs.declared.SiteTable.{SiteTable}
use Rattle.site.specs.declared.Site.{Site}
use Rattle.site.specs.declared.Step.{Step}
use Rattle.site.specs.Call.{Command, Plan, step_of, written_to, out_after}
use Rattle.store_site.specs.Layout.{pool_in, site_of, pool_words, site_words}
use Rattle.store_site.specs.Turns.{Plain}
use Rattle.store_whole.specs.Image.{words_of}
use Rattle.store_table.specs.Layout.{layout_of, table_bytes}
use Rattle.packet_command.specs.Handing.{handed_over}
use Rattle.call_start.specs.Starts.{Starts}
use Rattle.sitec.specs.declared.Outcome.{Outcome}
use Rattle.sitec.specs.Outcome.{outcome_of, misfit}

-- the words of a pool and of a site; and with them the bytes of a table
abbrev pub Words : List ℕ → List ℕ → Type 0
Words ps ws = (length ps ≡ pool_words) × (length ws ≡ site_words)

abbrev pub WordsAndTable : List ℕ → List ℕ → List ℕ → Type 0
WordsAndTable ps ws ts = (length ps ≡ pool_words) × (length ws ≡ site_words) × (length ts ≡ table_bytes)

-- and sixteen words for commands
abbrev pub WithCommands : List ℕ → List ℕ → List ℕ → List ℕ → Type 0
WithCommands ps ws ts cs = (length ps ≡ pool_words) × (length ws ≡ site_words) × (length ts ≡ table_bytes) × (length cs ≡ 16)

-- a call whose step, by its definition, is x
pub record Called (Fits : Type 0) (t : SiteTable) (x : Step) (ps qs ws vs : List ℕ) (r : Outcome) : Type 0 where
  pub outcome : Fits → r ≡ outcome_of x.answer
  pub site : Fits → site_of qs vs t ≡ x.site
  pub plain : Plain ws → Plain vs
  pub pool_sized : length qs ≡ length ps
  pub sized : length vs ≡ length ws
  -- "All but 0 change nothing"
  pub pool_kept : 0 < r.number → qs ≡ ps
  pub kept : 0 < r.number → vs ≡ ws
  pub other : (Fits → ⊥) → r ≡ misfit

-- a call made at `time` with a lent output, which goes from xs to ys
pub record Told (Fits : Type 0) (t : SiteTable) (time : ℕ) (refuses : Refusal → Bool) (p : Plan) (ps qs ws vs xs ys : List ℕ) (r : Outcome) : Type 0 where
  pub called : Called Fits t (step_of (site_of ps ws t) time refuses p (written_to xs p.messages).end) ps qs ws vs r
  pub out : Fits → ys ≡ out_after xs p.messages (step_of (site_of ps ws t) time refuses p (written_to xs p.messages).end).answer
  pub unwritten : 0 < r.number → ys ≡ xs

-- a packet call, lent words for its commands, which go from cs to ds
pub record Handed (Fits : Type 0) (commands : List Command) (cs ds : List ℕ) (r : Outcome) : Type 0 where
  pub handed : Fits → r.number ≡ 0 → ds ≡ handed_over commands cs
  -- "All but 0 change nothing"
  pub unhanded : 0 < r.number → ds ≡ cs

-- what a start leaves whose step is x: where it is done, exactly the pool and the words of its site and the bytes of its table
pub record Made (x : Step) (qs vs ys : List ℕ) (r : Outcome) : Type 0 where
  pub outcome : r ≡ outcome_of x.answer
  pub pool : is_done x.answer ≡ true → pool_in qs ≡ x.site.pool
  pub words : is_done x.answer ≡ true → vs ≡ words_of x.site
  pub bytes : is_done x.answer ≡ true → ys ≡ layout_of x.site.table

-- a start from the bytes b of a site table; the words go from ps to qs and from ws to vs, the bytes that keep the table from xs to ys
pub record Started (b : List ℕ) (site links primary period first time : ℕ) (ps qs ws vs xs ys : List ℕ) (r : Outcome) : Type 0 where
  pub made : WordsAndTable ps ws xs → (x : Step) × Starts b (pool_in ps) site links primary period first time x × Made x qs vs ys r
  pub pool_sized : length qs ≡ length ps
  pub sized : length vs ≡ length ws
  pub table_sized : length ys ≡ length xs
  -- "All but 0 change nothing"
  pub pool_kept : 0 < r.number → qs ≡ ps
  pub kept : 0 < r.number → vs ≡ ws
  pub table_kept : 0 < r.number → ys ≡ xs
  pub other : (WordsAndTable ps ws xs → ⊥) → r ≡ misfit

-- a reading, of every table; `none` where the words are not a site's
pub record Read {A : Type 0} (f : Site → A) (none : A) (ps ws : List ℕ) (r : A) : Type 0 where
  pub reads : Words ps ws → (t : SiteTable) → r ≡ f (site_of ps ws t)
  pub other : (Words ps ws → ⊥) → r ≡ none
