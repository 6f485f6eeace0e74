-- The numbers that a call can give, each beside the words of document 01.
-- Assumes nothing.
use Rattle.std.specs.Prelude.{ℕ, Bool, true, false}
use Rattle.answer.specs.declared.Refusal.{Refusal}
use Rattle.answer.specs.declared.Refusal.TheVariants.{
  Ignored,
  NoSuchLink,
  NoSuchItem,
  ShortOutput,
  BadTime,
  WrongPhase,
  NothingDue,
  ManyAwaited,
  IdentityAwaited,
  SequenceSpent,
  NotAccepted,
  LongPacket,
}
use Rattle.answer.specs.declared.Answer.{Answer}
use Rattle.answer.specs.declared.Answer.TheVariants.{Done, Refused}

abbrev pub refusal_number : Refusal → ℕ
refusal_number Ignored = 1  -- packet ignored
refusal_number NoSuchLink = 2  -- no such configured link
refusal_number NoSuchItem = 3  -- alarm or status number not in the site table
refusal_number ShortOutput = 4  -- output shorter than 4,096
refusal_number BadTime = 5  -- time before the last time of a call done, or after the last one
refusal_number WrongPhase = 6  -- connect on a link not Down; disconnect, packet or pump on a Down link
refusal_number NothingDue = 7  -- pump, nothing due
refusal_number ManyAwaited = 8  -- pump, something due, 8 or more identities awaited on the link
refusal_number IdentityAwaited = 9  -- the identity to be sent is already awaited on that link
refusal_number SequenceSpent = 10  -- the call would take sequence numbers past 4294967295
refusal_number NotAccepted = 11  -- start values, site table or (record reader) record not accepted
refusal_number LongPacket = 12  -- packet longer than 4,096 bytes

abbrev pub number_of : Answer → ℕ
number_of (Done r) = 0  -- done
number_of (Refused r) = refusal_number r

abbrev pub is_done : Answer → Bool
is_done (Done r) = true
is_done (Refused x) = false
