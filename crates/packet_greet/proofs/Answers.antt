-- The two ends of an answer to a message of ours, in place, the site's table being t.
-- Assumes nothing.
use Rattle.basis.proofs.Std.{ℕ, ◌≡◌, refl, ap, sym, ◌∙◌, Bool, true, false, List}
use Rattle.answer.specs.declared.Answer.{Answer}
use Rattle.answer.specs.declared.Answer.TheVariants.{Done}
use Rattle.identity.specs.declared.Identity.{Identity}
use Rattle.awaited.specs.declared.Purpose.TheVariants.{Entry}
use Rattle.pool.specs.declared.Pool.{Pool}
use Rattle.pool.specs.Pool.{settle_of}
use Rattle.link.specs.declared.Answered.{Answered}
use Rattle.link.specs.Steps.{answered_by}
use Rattle.table_whole.specs.declared.SiteTable.{SiteTable}
use Rattle.site.specs.declared.Site.{Site}
use Rattle.site.specs.declared.Step.{Step}
use Rattle.site.specs.Site.{link_at, with_link, owner_of, close_at, mask_of}
use Rattle.site.specs.Call.{never, step_of}
use Rattle.store_site.specs.Layout.{pool_in, site_of, with_last}
use Rattle.store_site.specs.Turns.{Moves}
use Rattle.store_site.proofs.SiteLaws.{pool_moves}
use Rattle.store_site.proofs.TurnsLaws.{moves_as}
use Rattle.store_call.specs.Called.{StepsIn}
use Rattle.packet_answer.specs.Ending.{report}
use Rattle.packet_answer.proofs.Ends.{not_refused}
use Rattle.packet_greet.specs.Answered.{settled_for, settled, answered_plan}

-- the record of an owner that a message carried
pub settles_it : (l sequence : ℕ) {owner : ℕ} {ps qs : List ℕ} (ws : List ℕ)
    → ((os : List ℕ) (t : SiteTable) → owner ≡ owner_of (site_of os ws t) l)
    → pool_in qs ≡ settle_of (pool_in ps) owner sequence
    → Moves (λ (s : Site). settled_for s l (Entry sequence)) ps qs ws ws
settles_it l sequence {owner} {ps} {qs} ws o e =
    moves_as (pool_moves (λ (p : Pool). settle_of p owner sequence) ps qs ws e) (λ t. rw (o ps t) refl)

abbrev step_to : ℕ → Site → Step
step_to mask s = record { site = s; answer = Done (report 0 0 0 mask) }

module _ (t : SiteTable) (l time : ℕ) (id : Identity) (acknowledged : Bool) {ps qs ws vs : List ℕ} {a : Answered} {r : Answer}
    (comes : a ≡ answered_by (link_at (site_of ps ws t) l) id acknowledged) where
  pub answer_closes_lem : {mask : ℕ}
      → a.closes ≡ true
      → mask ≡ mask_of l
      → r ≡ Done (report 0 0 0 mask)
      → Moves (λ (s : Site). with_last (close_at s l) time) ps qs ws vs
      → StepsIn t (step_of (site_of ps ws t) time never (answered_plan (site_of ps ws t) l id acknowledged) 0) ps qs ws vs r
  answer_closes_lem h f e u =
      let closes = ap (λ (x : Answered). x.closes) comes in
      record { step = rw (sym closes ∙ h, e, f) (ap (step_to (mask_of l)) (u.site t)); plain = u.plain; kept = not_refused e }

  pub answer_goes_on : a.closes ≡ false
      → r ≡ Done (report 0 0 0 0)
      → Moves (λ (s : Site). with_last (with_link (settled s l a.found) l a.link) time) ps qs ws vs
      → StepsIn t (step_of (site_of ps ws t) time never (answered_plan (site_of ps ws t) l id acknowledged) 0) ps qs ws vs r
  answer_goes_on h e u =
      let closes = ap (λ (x : Answered). x.closes) comes in
      let found = ap (λ (x : Answered). x.found) comes in
      let next = ap (λ (x : Answered). x.link) comes in
      record { step = rw (sym closes ∙ h, e, ← found, ← next) (ap (step_to 0) (u.site t)); plain = u.plain; kept = not_refused e }
