-- The bytes of a site table say its edition.
-- Assumes nothing.
use Rattle.basis.proofs.Std.{ℕ, ◌/◌, ◌≡◌, sym, ap, ◌∙◌, List, arith, get_or}
use Rattle.table_whole.specs.Table.{Table}
use Rattle.table_whole.specs.Bytes.{table_head, table_bytes}
use Rattle.table_whole.specs.Allowed.{EditionOf, Allowed}
use Rattle.table_whole.specs.Allowed.EditionOf.{first, second}

-- the first byte: the edition is its high half
first_byte : {edition : ℕ} (t : Table) → Allowed edition t → EditionOf t edition → get_or (table_bytes edition t) 0 0 / 16 ≡ edition
unfolding table_bytes table_head
first_byte t v (first e) = let c = v.most_components in let a = v.most_alarms in let s = v.most_statuses in omega (arith, c, a, s)
first_byte t v second = let c = v.most_components in let a = v.most_alarms in let s = v.most_statuses in let k = v.most_commands in omega (arith, c, a, s, k)

pub same_edition : {d e : ℕ} (t u : Table) → Allowed d t → Allowed e u → table_bytes d t ≡ table_bytes e u → d ≡ e
same_edition t u v w p =
    sym (first_byte t v v.edition_of) ∙ ap (λ (bs : List ℕ). get_or bs 0 0 / 16) p ∙ first_byte u w w.edition_of
