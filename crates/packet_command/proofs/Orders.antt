-- The parts of a CommandRequest together: the pool's words are ps, the site's ws, its table is t.
-- Assumes nothing.
use Rattle.basis.proofs.Std.{ℕ, ◌≡◌, sym, true, false, List, pick}
use Rattle.answer.specs.declared.Answer.{Answer}
use Rattle.table_whole.specs.declared.SiteTable.{SiteTable}
use Rattle.label.specs.Label.{text_of}
use Rattle.write_message.specs.declared.Told.TheVariants.{Command as CommandResponse}
use Rattle.read_commands.specs.declared.CommandFields.{CommandFields}
use Rattle.packet_lookup.specs.declared.Sought.{Sought}
use Rattle.packet_lookup.specs.Sought.{component_sought}
use Rattle.site.specs.Call.{never}
use Rattle.store_site.specs.Layout.{site_of}
use Rattle.store_site.proofs.SiteLaws.{table_of_lem}
use Rattle.store_call.specs.Called.{GivesIn}
use Rattle.packet_answer.specs.declared.Question.{Question}
use Rattle.packet_answer.specs.Taken.{Taken, not_acked, answering, by_verdict, bad_value, unknown_command}
use Rattle.packet_answer.specs.Takes.{TakesIn}
use Rattle.packet_answer.proofs.Choices.{not_acked_lem, picked_first, picked_second, like}
use Rattle.packet_command.specs.Commanding.{keeps_ranges, passes, told, commands_of, ordered_of, command_taken}

module _ (t : SiteTable) (ps ws : List ℕ) (q : Question) (f : CommandFields) where
  -- the choices by a table u
  abbrev reply_by : SiteTable → Sought → Taken
  reply_by u k = answering (site_of ps ws t) q CommandResponse (text_of f.component) (told k f) (commands_of u f k)

  abbrev passed_by : SiteTable → Sought → Taken
  passed_by u k = pick (passes u f k) (reply_by u k) (not_acked (site_of ps ws t) q unknown_command)

  abbrev ordered_by : SiteTable → Sought → Taken
  ordered_by u k = pick (keeps_ranges u f k) (passed_by u k) (not_acked (site_of ps ws t) q bad_value)

module _ (t : SiteTable) (ps ws : List ℕ) (q : Question) (f : CommandFields) {vs xs ys : List ℕ} {r : Answer} where
  pub command_judged : {g : CommandFields}
      → g ≡ f
      → TakesIn t q (by_verdict g.verdict (site_of ps ws t) q (ordered_of (site_of ps ws t) q g (component_sought t g.component))) ps ps ws vs xs ys r
      → TakesIn t q (command_taken (site_of ps ws t) q f) ps ps ws vs xs ys r
  unfolding command_taken
  command_judged {g} e x =
      like t ps ws q (λ (y : CommandFields). command_taken (site_of ps ws t) q y) (sym e)
      (like t ps ws q (λ (u : SiteTable). by_verdict g.verdict (site_of ps ws t) q (ordered_of (site_of ps ws t) q g (component_sought u g.component))) (table_of_lem ps ws t) x)

  module _ {k : Sought} (h : k ≡ component_sought t f.component) where
    chosen : TakesIn t q (ordered_by t ps ws q f t k) ps ps ws vs xs ys r
        → TakesIn t q (ordered_of (site_of ps ws t) q f (component_sought t f.component)) ps ps ws vs xs ys r
    chosen g =
        like t ps ws q (λ (x : Sought). ordered_of (site_of ps ws t) q f x) (sym h)
        (like t ps ws q (λ (u : SiteTable). ordered_by t ps ws q f u k) (table_of_lem ps ws t) g)

    pub outside : keeps_ranges t f k ≡ false
        → GivesIn t q.time never (not_acked (site_of ps ws t) q bad_value).plan ps ps ws vs xs ys r
        → TakesIn t q (ordered_of (site_of ps ws t) q f (component_sought t f.component)) ps ps ws vs xs ys r
    outside e g =
        chosen
        (picked_second t ps ws q (keeps_ranges t f k) (passed_by t ps ws q f t k) (not_acked (site_of ps ws t) q bad_value) e
        (not_acked_lem t ps ws q bad_value g))

    module _ (e : keeps_ranges t f k ≡ true) where
      inside : TakesIn t q (passed_by t ps ws q f t k) ps ps ws vs xs ys r
          → TakesIn t q (ordered_of (site_of ps ws t) q f (component_sought t f.component)) ps ps ws vs xs ys r
      inside g = chosen (picked_first t ps ws q (keeps_ranges t f k) (passed_by t ps ws q f t k) (not_acked (site_of ps ws t) q bad_value) e g)

      pub all_pass : passes t f k ≡ true
          → TakesIn t q (reply_by t ps ws q f t k) ps ps ws vs xs ys r
          → TakesIn t q (ordered_of (site_of ps ws t) q f (component_sought t f.component)) ps ps ws vs xs ys r
      all_pass p g = inside (picked_first t ps ws q (passes t f k) (reply_by t ps ws q f t k) (not_acked (site_of ps ws t) q unknown_command) p g)

      pub one_fails : passes t f k ≡ false
          → GivesIn t q.time never (not_acked (site_of ps ws t) q unknown_command).plan ps ps ws vs xs ys r
          → TakesIn t q (ordered_of (site_of ps ws t) q f (component_sought t f.component)) ps ps ws vs xs ys r
      one_fails p g =
          inside
          (picked_second t ps ws q (passes t f k) (reply_by t ps ws q f t k) (not_acked (site_of ps ws t) q unknown_command) p
          (not_acked_lem t ps ws q unknown_command g))
