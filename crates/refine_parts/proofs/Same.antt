-- Both pools do the same.
-- Assumes nothing.
use Rattle.basis.proofs.Std.{ℕ}
use Rattle.pool.specs.declared.Pool.{Pool}
use Rattle.pool_laws.specs.Batch.{beginning}
use Rattle.machine.specs.State.{Machine}
use Rattle.refine_parts.specs.Same.{Beside, SamePool}
use Rattle.refine_parts.specs.Claims.{SameActs, SameAnswers}
use Rattle.refine_parts.proofs.Issue.{issue_same, issue_all_same}
use Rattle.refine_parts.proofs.Others.{settle_same, mark_same, unmark_same}
use Rattle.refine_parts.proofs.Asks.{unsent_same, unsent_stands, alarm_same, carried_same, alarm_stands, held_read, lost_read, records_read, spent_same}

pub same_acts : (links : ℕ) (x : Beside) (k : ℕ) → SameActs links x k
same_acts links x k =
    record {
      issue = λ p q m same i f t h. issue_same same i f t h;
      issue_all_lem = λ p q m same is fs ts h. issue_all_same (beginning p q) same is fs ts h;
      settle = λ p q m same. settle_same m same;
      mark = λ p q m same. mark_same m same;
      unmark = λ p q m same. unmark_same m same;
    }

pub same_answers : {links k q : ℕ} {x : Beside} {p : Pool} (m : Machine) → SamePool links x k p q m.pool → SameAnswers k p q m
same_answers m same =
    record {
      oldest_unsent_lem = unsent_same m same;
      unsent_stands = unsent_stands m same;
      newest_alarm_lem = alarm_same m same;
      carried = carried_same m same;
      alarm_stands = alarm_stands m same;
      held = held_read m same;
      lost = lost_read m same;
      records = records_read m same;
      spent = spent_same m same;
    }
