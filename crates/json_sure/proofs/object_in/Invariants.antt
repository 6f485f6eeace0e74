-- `json_sure::object_in` meets its contract.
-- Assumes nothing.
use Rattle.basis.proofs.Std.{ℕ, ◌≤◌, ◌-◌, ◌≡◌, Bool, List, length, drop}
use Rattle.json_text.specs.Decoded.Parsed.{ok}
use Rattle.json_text.specs.declared.Read.{Read}
use Rattle.json_text.specs.Ends.{Ends}
use Rattle.json_value.specs.Grammar.{Json}
use Rattle.json_value.specs.Reader.{inside_of}
use Rattle.json_value.proofs.Nesting.{ItemsAt}
use Rattle.json_sure.specs.Sure.{sure_in, noted_in}
use Rattle.json_sure.proofs.Saying.{ItemsSay}
use Rattle.json_sure.proofs.Listing.{FoundFrom, CountFrom}
use Rattle.json_sure.proofs.object_in.Given as goal

abbrev pub invariant-loop-e : goal.invariant-loop-e
invariant-loop-e l =
    (l.i ≤ length l.s)
    × (length l.marks ≡ length l.initial.marks)
    × (l.seen.count ≤ length l.marks)
    × ((r : Read) → ItemsAt l.s 0x7d 7 l.i r → Ends l.s l.at (inside_of 0x7d 8 (drop l.at l.s)) r)
    × ((q : Bool) → ItemsSay l.key (length l.initial.marks) l.s 0x7d 7 l.i (noted_in l.marks l.seen) q → (j : Json) (u : List ℕ) → inside_of 0x7d 8 (drop l.at l.s) ≡ ok j u → q ≡ sure_in l.key (length l.initial.marks) j)
    × (length l.places ≡ length l.initial.places)
    × (l.n ≤ l.i)
    × FoundFrom l.s l.at l.places l.n l.i
    × CountFrom l.s l.at l.n l.i

abbrev pub decreases-loop-e : goal.decreases-loop-e
decreases-loop-e l = length l.s - l.i
