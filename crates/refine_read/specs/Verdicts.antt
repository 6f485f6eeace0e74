-- The code's verdict on what a packet needs, as the machine judges it.
-- Assumes nothing.
use Rattle.std.specs.Prelude.{Bool, List}
use Rattle.json_value.specs.Grammar.{Json}
use Rattle.read_head.specs.declared.Verdict.{Verdict}
use Rattle.read_head.specs.declared.Verdict.TheVariants.{Good, Missing, Bad}
use Rattle.machine.specs.Words.{if'◌then◌else◌, any}
use Rattle.machine.specs.Answers.{Need, needs, is_missing, is_bad}

-- "Missing element", then "Bad value"
abbrev pub verdict : Bool → Bool → Verdict
verdict missing bad = if' missing then Missing else if' bad then Bad else Good

-- of these needs
abbrev pub judged : Json → List Need → Verdict
judged j ns = verdict (any (is_missing j) ns) (any (is_bad j) ns)

-- of all that the packet needs, on a link of the edition before or not
abbrev pub verdict_in : Bool → Json → Verdict
verdict_in older j = judged j (needs older j)
