-- The cases of document 01's rules, all of them.
-- Assumes nothing.
use Rattle.machine_cases.specs.CasesStart.{Starts}
use Rattle.machine_cases.specs.CasesNumbers.{Numbers}
use Rattle.machine_cases.specs.CasesLife.{Greetings, Once, Judged, Checks, Closings, Dues, Carried}
use Rattle.machine_cases.specs.CasesAnswers.{Ignoring, Passed, Reasons, BadValues, Known}
use Rattle.machine_cases.specs.CasesAlarms.{Inputs, Orders, Requests}
use Rattle.machine_cases.specs.CasesSubscriptions.{Subscribing, Values, Intervals, Apart, Aggregates}
use Rattle.machine_cases.specs.CasesCommands.{Commanding}
use Rattle.machine_cases.specs.CasesIncluded.{Responding, NotResponding, Unawaited}
use Rattle.machine_cases.specs.CasesEditions.{Choices, OlderEntries, NewerEntries, OnItsLink, OverBreaks}
use Rattle.machine_cases.specs.CasesPool.{Losing, Others, OthersInTime, Settling, Records}
use Rattle.machine_cases.specs.CasesBox.{Owners, Turns}
use Rattle.machine_cases.specs.CasesLinks.{Links, LinkLives}

pub record Cases : Type 0 where
  -- "Site table", start
  pub starts : Starts
  -- "Numbers a call can give"
  pub numbers : Numbers
  -- "Life of a link"
  pub greetings : Greetings
  pub once : Once
  pub judged : Judged
  pub checks : Checks
  pub closings : Closings
  pub dues : Dues
  pub carried : Carried
  -- "Packets and JSON", "Which packets are answered"
  pub ignoring : Ignoring
  pub passed : Passed
  pub reasons : Reasons
  pub bad_values : BadValues
  pub known : Known
  -- "Alarms and subscriptions"
  pub inputs : Inputs
  pub orders : Orders
  pub requests : Requests
  -- .. subscriptions and values; request 02
  pub subscribing : Subscribing
  pub values : Values
  pub intervals : Intervals
  pub apart : Apart
  pub aggregates : Aggregates
  -- request 01
  pub commanding : Commanding
  -- request 04
  pub responding : Responding
  pub not_responding : NotResponding
  pub unawaited : Unawaited
  -- request 07
  pub choices : Choices
  pub older_entries : OlderEntries
  pub newer_entries : NewerEntries
  pub on_its_link : OnItsLink
  pub over_breaks : OverBreaks
  -- "The pool"
  pub losing : Losing
  pub others : Others
  pub others_in_time : OthersInTime
  pub settling : Settling
  pub records : Records
  -- request 10
  pub owners : Owners
  pub turns : Turns
  -- the same on every link
  pub links : Links
  pub link_lives : LinkLives
