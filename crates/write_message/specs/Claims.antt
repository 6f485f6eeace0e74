-- What is claimed of the pieces. proofs/Kept.antt proves it.
-- Assumes nothing.
use Rattle.std.specs.Prelude.{ℕ, ◌≡◌, true, List, [], ◌∷◌, ◌++◌, eqb, length}
use Rattle.output.specs.Put.{concat}
use Rattle.write_message.specs.declared.Told.{Told}
use Rattle.write_message.specs.Message.{Message, Status}
use Rattle.write_message.specs.Message.Message.{statuses, included}
use Rattle.write_message.specs.Listing.{bytes_of}
use Rattle.write_message.specs.Pieces.{status_head, included_head, entry_pieces, entries_pieces, status_tail, pieces}

pub record Claims : Type 0 where
  -- the pieces of a message are, together, its text and the form feed
  pub whole : (m : Message) → concat (pieces m) ≡ bytes_of m
  -- entries that are put one by one between a head and a tail make the message
  pub told : (kind : Told) (id component : List ℕ) (time : ℕ) (ss : List Status)
      → pieces (statuses kind id component time ss) ≡ status_head kind id component time ++ entries_pieces kind true ss ++ status_tail
  pub told_included : (kind : Told) (received component : List ℕ) (time : ℕ) (ss : List Status)
      → pieces (included kind received component time ss) ≡ included_head kind received component time ++ entries_pieces kind true ss ++ status_tail
  pub no_entry : (kind : Told) → entries_pieces kind true [] ≡ []
  pub one_more : (kind : Told) (ss : List Status) (s : Status)
      → entries_pieces kind true (ss ++ (s ∷ [])) ≡ entries_pieces kind true ss ++ entry_pieces kind (eqb (length ss) 0) s
