use Rattle.basis.proofs.Std.{tests}
use Rattle.read_head.proofs.kind_for.Goals as goal

pub returns-then-i-eq-VERSION : goal.returns-then-i-eq-VERSION
returns-then-i-eq-VERSION c = search tests

pub returns-then-i-eq-WATCHDOG : goal.returns-then-i-eq-WATCHDOG
returns-then-i-eq-WATCHDOG c = search tests

pub returns-then-i-eq-ALARM : goal.returns-then-i-eq-ALARM
returns-then-i-eq-ALARM c = search tests

pub returns-then-i-eq-AGGREGATED_STATUS_REQUEST : goal.returns-then-i-eq-AGGREGATED_STATUS_REQUEST
returns-then-i-eq-AGGREGATED_STATUS_REQUEST c = search tests

pub returns-then-i-eq-STATUS_REQUEST : goal.returns-then-i-eq-STATUS_REQUEST
returns-then-i-eq-STATUS_REQUEST c = search tests

pub returns-then-i-eq-STATUS_SUBSCRIBE : goal.returns-then-i-eq-STATUS_SUBSCRIBE
returns-then-i-eq-STATUS_SUBSCRIBE c = search tests

pub returns-then-i-eq-STATUS_UNSUBSCRIBE : goal.returns-then-i-eq-STATUS_UNSUBSCRIBE
returns-then-i-eq-STATUS_UNSUBSCRIBE c = search tests

pub returns-then-i-eq-COMMAND_REQUEST : goal.returns-then-i-eq-COMMAND_REQUEST
returns-then-i-eq-COMMAND_REQUEST c = search tests

pub returns-then-i-eq-STATUS_REQUEST_ACK_INCLUDED : goal.returns-then-i-eq-STATUS_REQUEST_ACK_INCLUDED
returns-then-i-eq-STATUS_REQUEST_ACK_INCLUDED c = search tests

pub returns-then-i-eq-COMMAND_REQUEST_ACK_INCLUDED : goal.returns-then-i-eq-COMMAND_REQUEST_ACK_INCLUDED
returns-then-i-eq-COMMAND_REQUEST_ACK_INCLUDED c = search tests

pub returns : goal.returns
returns c = search tests
