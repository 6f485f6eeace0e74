-- "Tick closes each link with one awaited 30,000 ms or longer."
-- Assumes nothing.
use Rattle.std.specs.Prelude.{ℕ, zero, suc, ◌+◌, Bool}
use Rattle.basis.specs.Pick.{pick}
use Rattle.awaited.specs.Awaited.{late_of}
use Rattle.site.specs.declared.Site.{Site}
use Rattle.site.specs.Site.{link_at, close_at, mask_of}

abbrev pub late_at : Site → ℕ → ℕ → Bool
late_at s l time = late_of (link_at s l).awaited time

unfoldable pub close_late : Site → ℕ → ℕ → Site
close_late s l time = pick (late_at s l time) (close_at s l) s

-- the links below n, upwards
abbrev pub closed_to : Site → ℕ → ℕ → Site
closed_to s time zero = s
closed_to s time (suc l) = close_late (closed_to s time l) l time

unfoldable pub late_mask : Site → ℕ → ℕ → ℕ
late_mask s l time = pick (late_at s l time) (mask_of l) 0

-- those of them that are closed, as a report has them
abbrev pub mask_to : Site → ℕ → ℕ → ℕ
mask_to s time zero = 0
mask_to s time (suc l) = mask_to s time l + late_mask s l time
