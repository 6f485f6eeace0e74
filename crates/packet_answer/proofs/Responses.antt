-- A response is how it begins, its entries and what follows them.
-- Assumes nothing.
use Rattle.basis.proofs.Std.{ℕ, ◌≡◌, sym, subst, Bool, true, false, List, ◌++◌, pick}
use Rattle.output.specs.Put.{Wrote}
use Rattle.output.proofs.Laws.{then}
use Rattle.write_message.specs.declared.Told.{Told}
use Rattle.write_message.specs.Message.{Status}
use Rattle.write_message.specs.Message.Message.{statuses, included}
use Rattle.write_message.specs.Pieces.{status_head, included_head, entries_pieces, status_tail, pieces}
use Rattle.write_message.proofs.Kept.{kept}
use Rattle.packet_answer.specs.declared.Question.{Question}
use Rattle.packet_answer.specs.Ending.{response_of, response_head}

module _ (q : Question) (kind : Told) (component : List ℕ) (entries : List Status) where
  by_form : (b : Bool)
      → pieces (pick b (included kind q.received.bytes component q.time entries) (statuses kind q.identity.bytes component q.time entries))
      ≡ pick b (included_head kind q.received.bytes component q.time) (status_head kind q.identity.bytes component q.time)
      ++ entries_pieces kind true entries
      ++ status_tail
  by_form true = kept.told_included kind q.received.bytes component q.time entries
  by_form false = kept.told kind q.identity.bytes component q.time entries

  pub whole_response : {xs ys zs ws : List ℕ} {at m n r : ℕ}
      → Wrote xs at (response_head q kind component) ys m
      → Wrote ys m (entries_pieces kind true entries) zs n
      → Wrote zs n status_tail ws r
      → Wrote xs at (pieces (response_of q kind component entries)) ws r
  whole_response {xs} {ys} {zs} {ws} {at} {m} {n} {r} a b c =
      subst (λ (p : List (List ℕ)). Wrote xs at p ws r) (sym (by_form q.included)) (then (then a b) c)
