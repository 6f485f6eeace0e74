-- The cases, computed.
-- Assumes nothing.
use Rattle.machine_cases.proofs.CasesStart.{starts_hold}
use Rattle.machine_cases.proofs.CasesNumbers.{numbers_hold}
use Rattle.machine_cases.proofs.CasesLife.{greetings_hold, once_hold, judged_hold, checks_hold, closings_hold, dues_hold, carried_hold}
use Rattle.machine_cases.proofs.CasesAnswers.{ignoring_hold, passed_hold, reasons_hold, bad_values_hold, known_hold}
use Rattle.machine_cases.proofs.CasesAlarms.{inputs_hold, orders_hold, requests_hold}
use Rattle.machine_cases.proofs.CasesSubscriptions.{subscribing_hold, values_hold, intervals_hold, apart_hold, aggregates_hold}
use Rattle.machine_cases.proofs.CasesCommands.{commanding_hold}
use Rattle.machine_cases.proofs.CasesIncluded.{responding_hold, not_responding_hold, unawaited_hold}
use Rattle.machine_cases.proofs.CasesEditions.{choices_hold, older_entries_hold, newer_entries_hold, on_its_link_hold, over_breaks_hold}
use Rattle.machine_cases.proofs.CasesPool.{losing_hold, others_hold, others_in_time_hold, settling_hold, records_hold}
use Rattle.machine_cases.proofs.CasesBox.{owners_hold, turns_hold}
use Rattle.machine_cases.proofs.CasesLinks.{links_hold, link_lives_hold}
use Rattle.machine_cases.specs.Cases.{Cases}

pub cases : Cases
cases =
    record {
      starts = starts_hold;
      numbers = numbers_hold;
      greetings = greetings_hold;
      once = once_hold;
      judged = judged_hold;
      checks = checks_hold;
      closings = closings_hold;
      dues = dues_hold;
      carried = carried_hold;
      ignoring = ignoring_hold;
      passed = passed_hold;
      reasons = reasons_hold;
      bad_values = bad_values_hold;
      known = known_hold;
      inputs = inputs_hold;
      orders = orders_hold;
      requests = requests_hold;
      subscribing = subscribing_hold;
      values = values_hold;
      intervals = intervals_hold;
      apart = apart_hold;
      aggregates = aggregates_hold;
      commanding = commanding_hold;
      responding = responding_hold;
      not_responding = not_responding_hold;
      unawaited = unawaited_hold;
      choices = choices_hold;
      older_entries = older_entries_hold;
      newer_entries = newer_entries_hold;
      on_its_link = on_its_link_hold;
      over_breaks = over_breaks_hold;
      losing = losing_hold;
      others = others_hold;
      others_in_time = others_in_time_hold;
      settling = settling_hold;
      records = records_hold;
      owners = owners_hold;
      turns = turns_hold;
      links = links_hold;
      link_lives = link_lives_hold;
    }
