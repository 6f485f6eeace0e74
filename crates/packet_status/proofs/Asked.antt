-- The parts of a StatusRequest together: the pool's words are ps, the site's ws, its table is t.
-- Assumes nothing.
use Rattle.basis.proofs.Std.{ℕ, ◌≡◌, sym, ap, ◌∙◌, Bool, true, false, List, []}
use Rattle.answer.specs.declared.Answer.{Answer}
use Rattle.table_whole.specs.declared.SiteTable.{SiteTable}
use Rattle.label.specs.Label.{text_of}
use Rattle.read_lists.specs.declared.StatusEntry.{StatusEntry}
use Rattle.read_lists.specs.declared.StatusFields.{StatusFields}
use Rattle.packet_lookup.specs.declared.Sought.{Sought}
use Rattle.packet_lookup.specs.declared.Sought.TheVariants.{Is}
use Rattle.packet_lookup.specs.Sought.{component_sought, status_sought, all_statuses}
use Rattle.write_message.specs.declared.Value.{Value}
use Rattle.write_message.specs.declared.Told.TheVariants.{Response}
use Rattle.site.specs.declared.Site.{Site}
use Rattle.site.specs.Call.{never}
use Rattle.store_site.specs.Layout.{site_of}
use Rattle.store_site.proofs.SiteLaws.{table_of_lem}
use Rattle.store_call.specs.Called.{GivesIn}
use Rattle.packet_answer.specs.declared.Question.{Question}
use Rattle.packet_answer.specs.Taken.{Taken, not_acked, answering, by_verdict, unknown_status}
use Rattle.packet_answer.specs.Takes.{TakesIn}
use Rattle.packet_answer.proofs.Choices.{not_acked_lem, picked_first, picked_second, like}
use Rattle.packet_status.specs.StatusReply.{value_of, value_in, told, passes, requested_of, status_taken}

-- the value of an entry of a known component
pub known_value_lem : (ps ws : List ℕ) (t : SiteTable) (component : ℕ) (e : StatusEntry) {k : Sought} {v : Value}
    → k ≡ Is component
    → v ≡ value_of (site_of ps ws t) (status_sought t component e)
    → v ≡ value_in (site_of ps ws t) k e
known_value_lem ps ws t component e f g =
    g
    ∙ ap (λ (u : SiteTable). value_of (site_of ps ws t) (status_sought u component e)) (sym (table_of_lem ps ws t))
    ∙ ap (λ (x : Sought). value_in (site_of ps ws t) x e) (sym f)

-- all entries of a known component
pub known_passes : (t : SiteTable) (component : ℕ) (f : StatusFields) {k : Sought} {b : Bool} (s : Site)
    → k ≡ Is component
    → b ≡ all_statuses t component f.entries f.count
    → s.table ≡ t
    → b ≡ passes s f k
known_passes t component f s g h e =
    h
    ∙ ap (λ (u : SiteTable). all_statuses u component f.entries f.count) (sym e)
    ∙ ap (λ (x : Sought). passes s f x) (sym g)

abbrev answer : SiteTable → List ℕ → List ℕ → Question → StatusFields → Sought → Taken
answer t ps ws q f k = answering (site_of ps ws t) q Response (text_of f.component) (told (site_of ps ws t) k f) []

module _ (t : SiteTable) (ps ws : List ℕ) (q : Question) (f : StatusFields) {qs vs xs ys : List ℕ} {r : Answer} where
  pub status_judged : {g : StatusFields}
      → g ≡ f
      → TakesIn t q (by_verdict g.verdict (site_of ps ws t) q (requested_of (site_of ps ws t) q g (component_sought t g.component))) ps qs ws vs xs ys r
      → TakesIn t q (status_taken (site_of ps ws t) q f) ps qs ws vs xs ys r
  unfolding status_taken
  status_judged {g} e x =
      like t ps ws q (λ (y : StatusFields). status_taken (site_of ps ws t) q y) (sym e)
      (like t ps ws q (λ (u : SiteTable). by_verdict g.verdict (site_of ps ws t) q (requested_of (site_of ps ws t) q g (component_sought u g.component))) (table_of_lem ps ws t) x)

  -- by whether all entries pass
  module _ {k : Sought} (h : k ≡ component_sought t f.component) where
    pub all_pass : passes (site_of ps ws t) f k ≡ true
        → TakesIn t q (answer t ps ws q f k) ps qs ws vs xs ys r
        → TakesIn t q (requested_of (site_of ps ws t) q f (component_sought t f.component)) ps qs ws vs xs ys r
    all_pass e g =
        like t ps ws q (λ (x : Sought). requested_of (site_of ps ws t) q f x) (sym h)
        (picked_first t ps ws q (passes (site_of ps ws t) f k) (answer t ps ws q f k) (not_acked (site_of ps ws t) q unknown_status) e g)

    pub one_fails : passes (site_of ps ws t) f k ≡ false
        → GivesIn t q.time never (not_acked (site_of ps ws t) q unknown_status).plan ps qs ws vs xs ys r
        → TakesIn t q (requested_of (site_of ps ws t) q f (component_sought t f.component)) ps qs ws vs xs ys r
    one_fails e g =
        like t ps ws q (λ (x : Sought). requested_of (site_of ps ws t) q f x) (sym h)
        (picked_second t ps ws q (passes (site_of ps ws t) f k) (answer t ps ws q f k) (not_acked (site_of ps ws t) q unknown_status) e
        (not_acked_lem t ps ws q unknown_status g))
