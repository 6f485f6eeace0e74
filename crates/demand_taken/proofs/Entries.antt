-- The entries of a CommandRequest: what each asks for, as the table has it and as the machine looks it up.
-- Assumes nothing.
use Rattle.basis.proofs.Std.{ℕ, zero, suc, ◌≡◌, refl, sym, ◌∙◌, ap, Bool, true, false, [], ◌∷◌, Option, some, none, eqb, leb, ℤ, pos, get_or, eq-eqb, eqb-true, pick, both, same_bytes, not_both, both_true, same_true, same_self}
use Rattle.number.specs.Signed.{at_most}
use Rattle.number.specs.Decimal.{digits, decimal_of}
use Rattle.number.specs.Reading.{says}
use Rattle.number.proofs.Digits.{decimal_once}
use Rattle.json_value.specs.Grammar.{Json}
use Rattle.table_whole.specs.Table.{no_row, Table}
use Rattle.table_whole.specs.Allowed.{Allowed}
use Rattle.machine.specs.Words.{Bytes, maybe, is_some, or_else}
use Rattle.machine.specs.State.{Command, Machine}
use Rattle.machine.specs.Json.{string_of, number_in, below, integer_in}
use Rattle.machine.specs.Table.{is_called, command_number}
use Rattle.machine.specs.Answers.{component_asked, value_asked, in_range}
use Rattle.demand_taken.specs.Commands.{Asks, For}
use Rattle.demand_taken.proofs.Places.{stands, found}

-- ---- what is read as a number is its shortest decimal text
abbrev DigitsIf : Bytes → Option ℕ → Type 0
DigitsIf s none = Unit {0}
DigitsIf s (some n) = s ≡ digits n

number_text : (limit : ℕ) (s : Bytes) → DigitsIf s (number_in limit s)
number_text limit s = go (leb (says 0 s) limit) (same_bytes s (digits (says 0 s))) refl
  where
    go : (a b : Bool) → same_bytes s (digits (says 0 s)) ≡ b → DigitsIf s (pick (both a b) (some (says 0 s)) none)
    go true true e = same_true s (digits (says 0 s)) e
    go true false e = tt
    go false b e = tt

abbrev DecimalIf : Bytes → Option ℤ → Type 0
DecimalIf s none = Unit {0}
DecimalIf s (some v) = s ≡ decimal_of v

below_text : (s : Bytes) (o : Option ℕ) → DigitsIf s o → DecimalIf (45 ∷ s) (below o)
unfolding decimal_of
below_text s none e = tt
below_text s (some zero) e = tt
below_text s (some (suc n)) e = ap (λ (x : Bytes). 45 ∷ x) e

above_text : (s : Bytes) (o : Option ℕ) → DigitsIf s o → DecimalIf s (maybe none (λ (n : ℕ). some (pos n)) o)
unfolding decimal_of
above_text s none e = tt
above_text s (some n) e = e

integer_text : (s : Bytes) → DecimalIf s (integer_in s)
integer_text [] = tt
integer_text (b ∷ s) = go (eqb b 45) refl
  where
    go : (x : Bool) → eqb b 45 ≡ x → DecimalIf (b ∷ s) (pick x (below (number_in 2147483648 s)) (maybe none (λ (n : ℕ). some (pos n)) (number_in 2147483647 (b ∷ s))))
    go true e = rw (eqb-true b 45 e) (below_text s (number_in 2147483648 s) (number_text 2147483648 s))
    go false e = above_text (b ∷ s) (number_in 2147483647 (b ∷ s)) (number_text 2147483647 (b ∷ s))

-- an entry whose v is some number: valueAsked is it
value_text : (e : Json) → is_some (integer_in (string_of "v" e)) ≡ true → string_of "v" e ≡ decimal_of (value_asked e)
value_text e is = go (integer_in (string_of "v" e)) is (integer_text (string_of "v" e))
  where
    go : (o : Option ℤ) → is_some o ≡ true → DecimalIf (string_of "v" e) o → string_of "v" e ≡ decimal_of (or_else (pos 0) o)
    go none f d = not_both f refl
    go (some v) f d = d

-- ---- the row of a command
module _ (m : Machine) (component : ℕ) where
  abbrev table : Table
  table = m.setup.table

  abbrev number_of_entry : Json → Option ℕ
  number_of_entry e = command_number table component (string_of "cCI" e) (string_of "n" e)

  record Called (e : Json) (i : ℕ) : Type 0 where
    of : (get_or table.commands i no_row).component ≡ component
    code : (get_or table.commands i no_row).code ≡ string_of "cCI" e
    name : (get_or table.commands i no_row).name ≡ string_of "n" e

  called : (e : Json) (i : ℕ) → is_called component (string_of "cCI" e) (string_of "n" e) (get_or table.commands i no_row) ≡ true → Called e i
  called e i f =
      let a = both_true (eqb (get_or table.commands i no_row).component component) _ f in
      let b = both_true (same_bytes (get_or table.commands i no_row).code (string_of "cCI" e)) _ a.1 in
      record { of = eqb-true _ component a.0; code = same_true _ (string_of "cCI" e) b.0; name = same_true _ (string_of "n" e) b.1 }

  -- an entry that the machine finds in the table and takes the value of, in range, asks for that
  pub asks : (e : Json) (i : ℕ) → number_of_entry e ≡ some i → is_some (integer_in (string_of "v" e)) ≡ true
      → in_range (get_or table.commands i no_row) (value_asked e) ≡ true → Asks table component e (record { number = i; value = value_asked e })
  asks e i at is within =
      let s = stands no_row (is_called component (string_of "cCI" e) (string_of "n" e)) table.commands i at in
      let c = called e i s.1 in
      let r = both_true (at_most (get_or table.commands i no_row).lowest (value_asked e)) _ within in
      record { there = s.0; of = c.of; code = c.code; name = c.name; value = value_text e is; lowest = r.0; highest = r.1 }

  -- and what an entry asks for is found
  pub asked_at : {edition : ℕ} → Allowed edition table → (e : Json) (x : Command) → Asks table component e x → number_of_entry e ≡ some x.number
  asked_at allowed e x a =
      found no_row (is_called component (string_of "cCI" e) (string_of "n" e)) x.number table.commands a.there
      (rw (a.of, a.code, a.name, eq-eqb component component refl, same_self (string_of "cCI" e), same_self (string_of "n" e)))
      (λ q h f.
      let c = called e q f in
      allowed.no_command_twice q x.number h a.there
      (record { component = c.of ∙ sym a.of; code = c.code ∙ sym a.code; name = c.name ∙ sym a.name }))

  pub value_of_lem : (e : Json) (x : Command) → Asks table component e x → is_some (integer_in (string_of "v" e)) ≡ true → value_asked e ≡ x.value
  value_of_lem e x a is = decimal_once (value_asked e) x.value (sym (value_text e is) ∙ a.value)

pub component_at : {edition : ℕ} (m : Machine) → Allowed edition m.setup.table → (j : Json) (component : ℕ) → For m.setup.table j component → component_asked m j ≡ some component
component_at m allowed j component f =
    found [] (same_bytes (string_of "cId" j)) component m.setup.table.components f.there (rw f.named (same_self (string_of "cId" j)))
    (λ q h e. allowed.no_component_twice q component h f.there (sym (same_true (string_of "cId" j) _ e) ∙ sym f.named))
