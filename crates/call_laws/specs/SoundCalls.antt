-- The plan of every call of a sound site is sound, whatever it is given, where none of the call's conditions applies. Statement only: its proof is `planned`.
-- Assumes nothing.
use Rattle.answer.specs.Order.{in_order, None}
use Rattle.site.specs.declared.Site.{Site}
use Rattle.call_laws.specs.Numbers.{conditions}
use Rattle.call_laws.specs.Calls.{Call, time_of, refuses, plan_of}
use Rattle.call_laws.specs.Typed.{Typed}
use Rattle.call_laws.specs.Sound.{Sound}
use Rattle.call_laws.specs.SoundPlans.{SoundPlan}

abbrev pub Planned : Type 0
Planned = (s : Site) → Sound s → (c : Call) → Typed c → None (conditions (refuses s c) (plan_of s c)) in_order → SoundPlan s (time_of c) (plan_of s c)
