-- The bytes of a site table, most significant bit first: document 01, "Site table".
-- Assumes nothing.
use Rattle.std.specs.Prelude.{ℕ, ◌/◌, List, [], ◌∷◌, ◌++◌, eqb, length}
use Rattle.basis.specs.Pick.{pick}
use Rattle.bits.specs.Fields.{joined, total, bytes_of}
use Rattle.number.specs.Signed.{word16_of}
use Rattle.label.specs.Label.{string}
use Rattle.table_whole.specs.Table.{Row, Table}

-- fields of these widths, as so many bytes as they fill
abbrev pub fields : List ℕ → List ℕ → List ℕ
fields widths values = bytes_of (total widths / 8) (joined 0 widths values)

-- one thing behind the other
abbrev pub in_turn : {A : Type 0} → (A → List ℕ) → List A → List ℕ
in_turn f [] = []
in_turn f (x ∷ xs) = f x ++ in_turn f xs

-- a head: the edition in 4 bits, a count in each of these widths, and zeros
abbrev pub head_bytes : ℕ → List ℕ → List ℕ → ℕ → List ℕ
head_bytes edition widths counts zeros = fields (4 ∷ (widths ++ (zeros ∷ []))) (edition ∷ (counts ++ (0 ∷ [])))

-- component 3, priority 2, category 1, zero 2; code
abbrev pub alarm_bytes : Row → List ℕ
alarm_bytes r = fields (3 ∷ 2 ∷ 1 ∷ 2 ∷ []) (r.component ∷ r.priority ∷ r.category ∷ 0 ∷ []) ++ string r.code

-- component 3, zero 5; code, name
abbrev pub status_bytes : Row → List ℕ
status_bytes r = fields (3 ∷ 5 ∷ []) (r.component ∷ 0 ∷ []) ++ (string r.code ++ string r.name)

-- request 01: "component 3 bits, zero 5, code, name, and lowest and highest value as signed 16-bit numbers"
abbrev pub command_bytes : Row → List ℕ
command_bytes r = status_bytes r ++ fields (16 ∷ 16 ∷ []) (word16_of r.lowest ∷ word16_of r.highest ∷ [])

-- components 4, alarms 6, statuses 6
abbrev pub count_widths : List ℕ
count_widths = 4 ∷ 6 ∷ 6 ∷ []

abbrev pub counts_of : Table → List ℕ
counts_of t = length t.components ∷ length t.alarms ∷ length t.statuses ∷ []

-- edition 1: zero 4. Edition 2, "The head grows to 32 bits: after the statuses count come commands 5 and zero 7."
unfoldable pub table_head : ℕ → Table → List ℕ
table_head edition t =
    pick (eqb edition 1)
    (head_bytes 1 count_widths (counts_of t) 4)
    (head_bytes 2 (count_widths ++ (5 ∷ [])) (counts_of t ++ (length t.commands ∷ [])) 7)

-- "up to 16 commands after the statuses": edition 1 has none
unfoldable pub table_bytes : ℕ → Table → List ℕ
table_bytes edition t =
    table_head edition t
    ++ (string t.site
    ++ (string t.sxl
    ++ (in_turn string t.components
    ++ (in_turn alarm_bytes t.alarms
    ++ (in_turn status_bytes t.statuses
    ++ in_turn command_bytes t.commands)))))
