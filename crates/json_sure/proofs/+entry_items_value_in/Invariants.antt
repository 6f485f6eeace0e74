-- `json_sure::entry`, `json_sure::items`, `json_sure::value_in`, which call one another with falling levels, meet their contracts.
-- Assumes nothing.
use Rattle.basis.proofs.Std.{◌≤◌, ◌-◌, ◌+◌, ◌*◌, ◌≡◌, Bool, List, length, drop, ℕ}
use Rattle.json_text.specs.Decoded.Parsed.{ok}
use Rattle.json_text.specs.declared.Read.{Read}
use Rattle.json_text.specs.Ends.{Ends}
use Rattle.json_value.specs.Grammar.{Json}
use Rattle.json_value.specs.Reader.{inside_of}
use Rattle.json_value.proofs.Nesting.{ItemsAt}
use Rattle.json_sure.specs.Sure.{sure_in, noted_in}
use Rattle.json_sure.proofs.Saying.{ItemsSay}
use Rattle.json_sure.proofs.+entry_items_value_in.Given as goal

abbrev pub decreases-entry : goal.decreases-entry
decreases-entry l = 3 * l.levels + 3

abbrev pub decreases-items : goal.decreases-items
decreases-items l = 3 * l.levels + 1

abbrev pub decreases-value_in : goal.decreases-value_in
decreases-value_in l = 3 * l.levels + 2

abbrev pub invariant-items-loop-n : goal.invariant-items-loop-n
invariant-items-loop-n l =
    (l.i ≤ length l.s)
    × (length l.marks ≡ length l.initial.marks)
    × (l.seen.count ≤ length l.marks)
    × ((r : Read) → ItemsAt l.s l.close (l.levels - 1) l.i r → Ends l.s l.at (inside_of l.close l.levels (drop l.at l.s)) r)
    × ((q : Bool) → ItemsSay l.key (length l.initial.marks) l.s l.close (l.levels - 1) l.i (noted_in l.marks l.seen) q → (j : Json) (u : List ℕ) → inside_of l.close l.levels (drop l.at l.s) ≡ ok j u → q ≡ sure_in l.key (length l.initial.marks) j)

abbrev pub decreases-items-loop-n : goal.decreases-items-loop-n
decreases-items-loop-n l = length l.s - l.i
