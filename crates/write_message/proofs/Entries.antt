-- Entries one by one.
-- Assumes nothing.
use Rattle.basis.proofs.Std.{suc, arith, ◌≡◌, sym, ap, ◌∙◌, true, false, List, [], ◌∷◌, ◌++◌, append_assoc, append-nil, eqb, length, ne_eqb}
use Rattle.write_message.specs.declared.Told.{Told}
use Rattle.write_message.specs.Message.{Status}
use Rattle.write_message.specs.Pieces.{entry_pieces, entries_pieces}

another : (kind : Told) (ss : List Status) (s : Status) → entries_pieces kind false (ss ++ (s ∷ [])) ≡ entries_pieces kind false ss ++ entry_pieces kind false s
unfolding entries_pieces
another kind [] s = append-nil (entry_pieces kind false s)
another kind (r ∷ ss) s = ap (λ l. entry_pieces kind false r ++ l) (another kind ss s) ∙ sym (append_assoc (entry_pieces kind false r) (entries_pieces kind false ss) (entry_pieces kind false s))

pub one_more : (kind : Told) (ss : List Status) (s : Status) → entries_pieces kind true (ss ++ (s ∷ [])) ≡ entries_pieces kind true ss ++ entry_pieces kind (eqb (length ss) 0) s
unfolding entries_pieces
one_more kind [] s = append-nil (entry_pieces kind true s)
one_more kind (r ∷ ss) s =
    let e : eqb (suc (length ss)) 0 ≡ false = ne_eqb (suc (length ss)) 0 (λ h. omega arith) in
    ap (λ l. entry_pieces kind true r ++ l) (another kind ss s)
    ∙ sym (append_assoc (entry_pieces kind true r) (entries_pieces kind false ss) (entry_pieces kind false s))
    ∙ ap (λ b. entry_pieces kind true r ++ entries_pieces kind false ss ++ entry_pieces kind b s) (sym e)
