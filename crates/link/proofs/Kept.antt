-- The order of what is due is kept.
-- Assumes nothing.
use Rattle.basis.proofs.Std.{ℕ, ◌+◌, ◌*◌, ◌≤◌, arith, ◌≡◌, refl, Bool, false, ltb, lt-ltb, le-ltb, le-leb, lt-leb}
use Rattle.link.specs.declared.Link.{Link}
use Rattle.link.specs.declared.Role.{Role}
use Rattle.link.specs.declared.Role.TheVariants.{Primary, Secondary}
use Rattle.link.specs.Due.{alarms_for, due_up, due_of}
use Rattle.link.specs.Promises.{Order}

past_alarms : (role : Role) (n a : ℕ) → (role ≡ Primary → n ≤ a) → ltb a (alarms_for role n) ≡ false
past_alarms Primary n a h = le-ltb a n (h refl)
past_alarms Secondary n a h = le-ltb a 0 (omega arith)

pub order : (l : Link) (t p n : ℕ) (role : Role) (unsent : Bool) → Order l t p n role unsent
unfolding due_of due_up
order l t p n role unsent =
    record {
      down = λ f. rw f;
      greeting = λ f o. rw (f, o);
      greeting_no_second = λ f o. rw (f, o);
      beating = λ f o. rw (f, o);
      beating_no_second = λ f o. rw (f, o);
      watchdog = λ f h. rw (f, le-leb (l.beat + p * 1000) t h);
      aggregated = λ f h a. rw (f, lt-leb (l.beat + p * 1000) t h, a);
      alarm = λ f h a r m. rw (f, lt-leb (l.beat + p * 1000) t h, a, r, lt-ltb l.alarm n m);
      entry = λ f h a m u. rw (f, lt-leb (l.beat + p * 1000) t h, a, past_alarms role n l.alarm m, u);
      nothing = λ f h a m u. rw (f, lt-leb (l.beat + p * 1000) t h, a, past_alarms role n l.alarm m, u);
    }
