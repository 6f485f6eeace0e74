-- A call that number 5 alone can refuse, besides what its records refuse; so a tick.
-- Assumes nothing.
use Rattle.basis.proofs.Std.{ℕ, ◌≡◌, refl, sym, ◌∙◌, Bool, true, false, pick}
use Rattle.answer.specs.declared.Refusal.TheVariants.{BadTime, SequenceSpent}
use Rattle.answer.specs.declared.Report.{Report}
use Rattle.answer.specs.declared.Answer.TheVariants.{Done, Refused}
use Rattle.site.specs.declared.Site.{Site}
use Rattle.site.specs.Site.{with_issued, bad_time_at}
use Rattle.site.specs.Call.{Plan, batch_of, never, when, report_of, stepped, refused, step_of, concluded}
use Rattle.call_tick.specs.Tick.{site_after, tick_plan, report_after, tick_step}

ended : (s t : Site) (r : Report) (x : Bool)
    → stepped s t (pick x (Refused SequenceSpent) (Done r)) ≡ pick x (refused s SequenceSpent) (record { site = t; answer = Done r })
ended s t r true = refl
ended s t r false = refl

pub judge : (s : Site) (time end : ℕ) (p : Plan) (bad : Bool)
    → step_of s time (when BadTime bad never) p end ≡ pick bad (refused s BadTime) (concluded s p.site (batch_of p) time (report_of p end))
judge s time end p true = refl
judge s time end p false = ended s (with_issued p.site (batch_of p) time) (report_of p end) (batch_of p).spent

module _ (s : Site) (time : ℕ) where
  judged : tick_step s time ≡ pick (bad_time_at s time) (refused s BadTime) (concluded s (site_after s time) (batch_of (tick_plan s time)) time (report_after s time))
  judged = judge s time 0 (tick_plan s time) (bad_time_at s time)

  pub tick_late : bad_time_at s time ≡ true → refused s BadTime ≡ tick_step s time
  tick_late h = sym (judged ∙ rw h refl)

  module _ (h : bad_time_at s time ≡ false) where
    pub tick_spent : (batch_of (tick_plan s time)).spent ≡ true → refused s SequenceSpent ≡ tick_step s time
    tick_spent g = sym (judged ∙ rw (h, g) refl)

    pub tick_done : (batch_of (tick_plan s time)).spent ≡ false
        → record { site = with_issued (site_after s time) (batch_of (tick_plan s time)) time; answer = Done (report_after s time) } ≡ tick_step s time
    tick_done g = sym (judged ∙ rw (h, g) refl)
