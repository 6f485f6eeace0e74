-- `store_whole::lists::fill_links` meets its contract.
-- Assumes nothing.
use Rattle.basis.proofs.Std.{ℕ, ◌<◌, ◌+◌, ◌*◌, replicate}
use Rattle.link.specs.Fields.{closed_link}
use Rattle.site.specs.Site.{with_links}
use Rattle.store_link.specs.Rows.{PlainAt}
use Rattle.store_site.specs.Layout.{links_in}
use Rattle.store_whole.proofs.FillLaws.{Upto}
use Rattle.store_whole.proofs.lists.fill_links.Given as goal

abbrev pub invariant-loop-k : goal.invariant-loop-k
invariant-loop-k l = (Upto links_in with_links closed_link l.initial.w l.w (replicate 4 l.x) l.k × ((j : ℕ) → j < l.k → PlainAt l.w (5 + 75 * j)))
