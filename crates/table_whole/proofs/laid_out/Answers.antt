use Rattle.basis.proofs.Std.{rules}
use Rattle.table_whole.specs.Reading.{laid_out, site_at, sxl_at, components_at, alarms_at, statuses_at, commands_at}
use Rattle.table_whole.proofs.laid_out.Goals as goal

pub returns : goal.returns
unfolding laid_out site_at sxl_at components_at alarms_at statuses_at commands_at
returns c = search rules
