-- A record's line has at most 66 bytes, and is taken apart into its fields.
-- Assumes nothing.
use Rattle.basis.proofs.Std.{ℕ, zero, suc, ◌+◌, ◌-◌, ◌^◌, ◌≤◌, ◌<◌, ◌≡◌, refl, ap, ◌∙◌, Bool, true, false, List, [], ◌∷◌, ◌++◌, map, arith, bit, length, length-append, lt_or_ge, ⊎_elim, lit≤}
use Rattle.output.specs.Put.{concat}
use Rattle.number.specs.Decimal.{digits, decimal_of}
use Rattle.number.specs.Signed.{signed_of}
use Rattle.number.proofs.Digits.{digits_length}
use Rattle.entry.specs.declared.Entry.{Entry}
use Rattle.entry.specs.Flags.{event_of, is_acknowledged, is_active, is_suspended, is_known, is_old}
use Rattle.entry.specs.Valid.{Valid, OfKind, an_alarm, a_status, an_aggregated}
use Rattle.csv_field.specs.Split.{split, fields}
use Rattle.csv_field.proofs.Meaning.{complete}
use Rattle.csv_words.specs.Words.{event_word}
use Rattle.csv_entry.specs.Fields.{line_from, line_of, fields_of}
use Rattle.csv_entry.proofs.Simple.{AllSimple, line_parts}
use Rattle.csv_entry.proofs.Shape.{as_alarm, as_status, as_aggregated, fields_simple, twelve, decimal_low, decimal_high}
use Rattle.csv_entry.proofs.Back.{event_below}

sum : List ℕ → ℕ
sum [] = 0
sum (n ∷ ns) = n + sum ns

concat_length : (ps : List (List ℕ)) → length (concat ps) ≡ sum (map length ps)
unfolding sum
concat_length [] = refl
concat_length (p ∷ ps) = length-append p (concat ps) ∙ ap (λ (n : ℕ). length p + n) (concat_length ps)

bit_length : (b : Bool) → length (digits (bit b)) ≤ 1
bit_length true = digits_length 0 1 (omega arith)
bit_length false = digits_length 0 0 (omega arith)

event_length : (k : ℕ) → k < 3 → length (event_word k) ≤ 11
event_length zero h = lit≤ tt
event_length (suc zero) h = lit≤ tt
event_length (suc (suc zero)) h = lit≤ tt
event_length (suc (suc (suc k))) h = absurd (omega arith)

value_length : (v : ℕ) → v < 2 ^ 32 → length (decimal_of (signed_of v)) ≤ 11
value_length v h = ⊎_elim
    (λ (l : v < 2 ^ 31). rw (decimal_low v l) (omega (arith, digits_length 9 v (omega arith))))
    (λ (l : 2 ^ 31 ≤ v). rw (decimal_high v l h) (omega (arith, digits_length 9 (2 ^ 32 - v) (omega arith))))
    (lt_or_ge v (2 ^ 31))

pub room : {e : Entry} → Valid e → length (line_of e) ≤ 66
unfolding line_of sum
room {e} v = go v.of_kind
  where
    a : length (digits e.link) ≤ 1
    a = digits_length 0 e.link (omega (arith, v.link))

    t : length (digits e.time) ≤ 15
    t = digits_length 14 e.time (omega (arith, v.time))

    q : length (digits e.sequence) ≤ 10
    q = digits_length 9 e.sequence (omega (arith, v.sequence))

    go : OfKind e → length (line_from (fields_of e)) ≤ 66
    go (an_alarm x) =
        rw (as_alarm e x.kind, concat_length)
        (omega (arith, a, t, q, digits_length 1 e.item (omega (arith, x.item)), event_length (event_of e.flags) (event_below x), bit_length (is_acknowledged e.flags), bit_length (is_active e.flags), bit_length (is_suspended e.flags)))
    go (a_status x) =
        rw (as_status e x.kind, concat_length)
        (omega (arith, a, t, q, digits_length 1 e.item (omega (arith, x.item)), bit_length (is_known e.flags), bit_length (is_old e.flags), value_length e.value x.value))
    go (an_aggregated x) =
        rw (as_aggregated e x.kind, concat_length)
        (omega (arith, a, t, q, digits_length 0 e.item (omega (arith, x.item)), digits_length 2 e.value (omega (arith, x.value))))

-- whatever follows it
pub split_line : (e : Entry) (rest : List ℕ) → split (line_of e ++ rest) ≡ fields (fields_of e) rest
unfolding line_of
split_line e rest = go (fields_of e) (fields_simple e) (twelve e)
  where
    go : (ds : List (List ℕ)) → AllSimple ds → length ds ≡ 12 → split (line_from ds ++ rest) ≡ fields ds rest
    go [] a h = absurd (omega arith)
    go (d ∷ ds) a h = complete (line_parts d ds rest a)
