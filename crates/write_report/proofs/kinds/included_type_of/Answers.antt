use Rattle.basis.proofs.Std.{sym, ap, rules}
use Rattle.write_message.specs.Listing.{included_text}
use Rattle.write_report.proofs.kinds.included_type_of.Goals as goal

pub returns-in-Response : goal.returns-in-Response
returns-in-Response c = sym (ap included_text c.in-Response.is)

pub returns-in-Update : goal.returns-in-Update
returns-in-Update c = absurd (c.requires c.in-Update.is)

pub returns-in-Command : goal.returns-in-Command
returns-in-Command c = sym (ap included_text c.in-Command.is)
