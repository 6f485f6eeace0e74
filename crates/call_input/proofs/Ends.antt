-- What a call without output gives, condition by condition in their order.
-- Assumes nothing.
use Rattle.basis.proofs.Std.{ℕ, ◌≤◌, ◌<◌, ◌≡◌, refl, Bool, true, false, le-leb, lt-leb, pick}
use Rattle.answer.specs.declared.Refusal.TheVariants.{NoSuchItem, BadTime, SequenceSpent}
use Rattle.answer.specs.declared.Report.{Report}
use Rattle.answer.specs.declared.Answer.TheVariants.{Done, Refused}
use Rattle.site.specs.declared.Site.{Site}
use Rattle.site.specs.Site.{bad_time_at}
use Rattle.site.specs.Call.{Plan, never, stepped, refused, report_of, step_of, batch_of}
use Rattle.store_site.specs.Layout.{with_last}
use Rattle.store_call.specs.Issued.{issued_in}
use Rattle.store_call.proofs.IssuedLaws.{issued_end}
use Rattle.call_input.specs.Inputs.{planned, item_refuses, aggregated_refuses}

ended : (s t : Site) (r : Report) (spent : Bool)
    → pick spent (refused s SequenceSpent) (record { site = t; answer = Done r }) ≡ stepped s t (pick spent (Refused SequenceSpent) (Done r))
ended s t r true = refl
ended s t r false = refl

module _ (s : Site) (time : ℕ) (p : Plan) where
  done : planned s time p ≡ step_of s time never p 0
  done = ended s _ _ (batch_of p).spent

  -- its records are judged, and then issued in place
  pub planned_spent : (batch_of p).spent ≡ true → refused s SequenceSpent ≡ planned s time p
  planned_spent h = rw h refl

  pub planned_done : (batch_of p).spent ≡ false → record { site = with_last (issued_in p.site p.issued) time; answer = Done (report_of p 0) } ≡ planned s time p
  planned_done h = rw (h, issued_end p.site p.issued time) refl

  pub late : bad_time_at s time ≡ true → refused s BadTime ≡ step_of s time (aggregated_refuses s time) p 0
  late h = rw h refl

  pub on_time : bad_time_at s time ≡ false → planned s time p ≡ step_of s time (aggregated_refuses s time) p 0
  on_time h = rw h done

  module _ (count k : ℕ) where
    pub no_item : count ≤ k → refused s NoSuchItem ≡ step_of s time (item_refuses s count k time) p 0
    no_item h = rw (le-leb count k h) refl

    pub item_late : k < count → bad_time_at s time ≡ true → refused s BadTime ≡ step_of s time (item_refuses s count k time) p 0
    item_late h g = rw (lt-leb count k h, g) refl

    pub item_on_time : k < count → bad_time_at s time ≡ false → planned s time p ≡ step_of s time (item_refuses s count k time) p 0
    item_on_time h g = rw (lt-leb count k h, g) done
