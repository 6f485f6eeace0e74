-- What a StatusRequest and a CommandRequest hold where no element is missing and none is bad.
-- Assumes nothing.
use Rattle.basis.proofs.Std.{ℕ, zero, suc, ◌≤◌, String, ◌≡◌, refl, subst, Bool, true, false, not, List, [], ◌∷◌, Option, some, none, eqb, leb, ltb, ℤ, pos, length, drop, arith, leb-true, pick, both, same_bytes, picked, not_both, both_first}
use Rattle.number.specs.Decimal.{digits}
use Rattle.number.specs.Reading.{says}
use Rattle.number.specs.Signed.{Signed32}
use Rattle.number.specs.Alphabet.{is_label}
use Rattle.json_value.specs.Grammar.{Json}
use Rattle.machine.specs.Words.{Bytes, maybe, is_some, or_else, any}
use Rattle.machine.specs.Json.{shape, element, string_of, entries_of, asks_for, number_in, below, integer_in}
use Rattle.machine.specs.Answers.{Element, ◌is◌, Need, label, any_entry, asked, commanded, needs, is_object, lacks, spoils, is_missing, bad_entries, is_bad, value_asked}
use Rattle.machine.specs.Answers.Kind.{a_string}
use Rattle.machine.specs.Answers.Need.{one, entries}
use Rattle.demand_held.proofs.Lists.{Each}
use Rattle.demand_held.proofs.Lists.Each.{no_more, one_more}
use Rattle.demand_told.proofs.Replies.{asks_only, asks_nothing_else}
use Rattle.demand_told.proofs.Tests.{no_not, neither}
use Rattle.demand_told.proofs.Found.{none_of_any}

-- ---- a string that is there and not bad
string_of_lem : (good : Bytes → Bool) (name : String) (j : Json) → is_some (element name j) ≡ true
    → maybe false (λ v. not (maybe false good (shape v).string)) (element name j) ≡ false → good (string_of name j) ≡ true
string_of_lem good name j there fit = go (element name j) there fit
  where
    inner : (o : Option Bytes) → not (maybe false good o) ≡ false → good (or_else [] o) ≡ true
    inner none g = not_both refl g
    inner (some s) g = no_not (good s) g

    go : (o : Option Json) → is_some o ≡ true → maybe false (λ (v : Json). not (maybe false good (shape v).string)) o ≡ false
        → good (or_else [] (maybe none (λ (v : Json). (shape v).string) o)) ≡ true
    go none f g = not_both f refl
    go (some v) f g = inner (shape v).string g

-- an object that lacks and spoils none of these elements
abbrev pub Whole : List Element → Json → Type 0
Whole es x = (lacks x es ≡ false) × (spoils x es ≡ false)

first_of_lem : (good : Bytes → Bool) (name : String) (es : List Element) (x : Json) → Whole ((name is a_string good) ∷ es) x → (good (string_of name x) ≡ true) × Whole es x
first_of_lem good name es x w =
    let there = neither (not (is_some (element name x))) (lacks x es) w.0 in
    let fit = neither (maybe false (λ (v : Json). not (maybe false good (shape v).string)) (element name x)) (spoils x es) w.1 in
    (string_of_lem good name x (no_not (is_some (element name x)) there.0) fit.0, (there.1, fit.1))

-- ---- a component's id and a list of entries
pub both_each : {A : Type 0} {P Q R : A → Type 0} → ((x : A) → P x → Q x → R x) → {xs : List A} → Each P xs → Each Q xs → Each R xs
both_each f no_more no_more = no_more
both_each f (one_more p r) (one_more q t) = one_more (f _ p q) (both_each f r t)

module _ (older : Bool) (name : String) (es : List Element) (j : Json) (needed : needs older j ≡ one ("cId" is label) ∷ entries name es any_entry ∷ [])
    (complete : any (is_missing j) (needs older j) ≡ false) (good : any (is_bad j) (needs older j) ≡ false) where
  missing_none : (is_missing j (one ("cId" is label)) ≡ false) × (is_missing j (entries name es any_entry) ≡ false)
  missing_none =
      let a = neither (is_missing j (one ("cId" is label))) _ (subst (λ (ns : List Need). any (is_missing j) ns ≡ false) needed complete) in
      (a.0, (neither (is_missing j (entries name es any_entry)) false a.1).0)

  bad_none : (is_bad j (one ("cId" is label)) ≡ false) × (is_bad j (entries name es any_entry) ≡ false)
  bad_none =
      let a = neither (is_bad j (one ("cId" is label))) _ (subst (λ (ns : List Need). any (is_bad j) ns ≡ false) needed good) in
      (a.0, (neither (is_bad j (entries name es any_entry)) false a.1).0)

  pub component_label : is_label (string_of "cId" j) ≡ true
  component_label = (first_of_lem is_label "cId" [] j (missing_none.0, bad_none.0)).0

  abbrev NotBad : Json → Type 0
  NotBad x = pick (not (is_object x)) true (pick (spoils x es) true (not (any_entry x))) ≡ false

  none_bad : Each NotBad (entries_of name j)
  none_bad = go (element name j) bad_none.1
    where
      inner : (o : Option (List Json)) → maybe true (bad_entries es any_entry) o ≡ false → Each NotBad (or_else [] o)
      inner none e = not_both refl e
      inner (some xs) e =
          none_of_any (λ (x : Json). pick (not (is_object x)) true (pick (spoils x es) true (not (any_entry x)))) xs (neither (ltb 16 (length xs)) _ e).1

      go : (o : Option Json) → maybe false (λ (v : Json). maybe true (bad_entries es any_entry) (shape v).entries) o ≡ false
          → Each NotBad (or_else [] (maybe none (λ (v : Json). (shape v).entries) o))
      go none e = no_more
      go (some v) e = inner (shape v).entries e

  whole_entry : (x : Json) → NotBad x → both (is_object x) (lacks x es) ≡ false → Whole es x
  whole_entry x bad missing =
      let p = neither (not (is_object x)) (pick (spoils x es) true (not (any_entry x))) bad in
      (subst (λ (b : Bool). both b (lacks x es) ≡ false) (no_not (is_object x) p.0) missing, (neither (spoils x es) (not (any_entry x)) p.1).0)

  pub whole_entries : Each (Whole es) (entries_of name j)
  whole_entries =
      both_each whole_entry none_bad
      (none_of_any (λ (x : Json). both (is_object x) (lacks x es)) (entries_of name j) (neither (not (is_some (element name j))) _ missing_none.1).1)

-- ---- a StatusRequest
pub status_needs : (older : Bool) (j : Json) → asks_for "StatusRequest" j ≡ true → needs older j ≡ one ("cId" is label) ∷ entries "sS" asked any_entry ∷ []
unfolding needs
status_needs older j typed =
    rw (
      asks_only "StatusRequest" "Version" refl refl j typed,
      asks_only "StatusRequest" "Watchdog" refl refl j typed,
      asks_only "StatusRequest" "Alarm" refl refl j typed,
      asks_only "StatusRequest" "AggregatedStatusRequest" refl refl j typed,
      asks_only "StatusRequest" "StatusSubscribe" refl refl j typed,
      asks_only "StatusRequest" "CommandRequest" refl refl j typed,
      asks_nothing_else "StatusRequest" "CommandRequest" refl refl j typed,
    )

-- code and name
abbrev pub Named : String → Json → Type 0
Named code x = (is_label (string_of code x) ≡ true) × (is_label (string_of "n" x) ≡ true)

pub status_entry_lem : (x : Json) → Whole asked x → Named "sCI" x
status_entry_lem x w =
    let code = first_of_lem is_label "sCI" (drop 1 asked) x w in
    let name = first_of_lem is_label "n" [] x code.1 in
    (code.0, name.0)

-- ---- a CommandRequest
pub command_needs : (older : Bool) (j : Json) → asks_for "CommandRequest" j ≡ true → needs older j ≡ one ("cId" is label) ∷ entries "arg" commanded any_entry ∷ []
unfolding needs
command_needs older j typed =
    rw (
      asks_only "CommandRequest" "Version" refl refl j typed,
      asks_only "CommandRequest" "Watchdog" refl refl j typed,
      asks_only "CommandRequest" "Alarm" refl refl j typed,
      asks_only "CommandRequest" "AggregatedStatusRequest" refl refl j typed,
      asks_only "CommandRequest" "StatusSubscribe" refl refl j typed,
      typed,
    )

pub command_entry_lem : (x : Json) → Whole commanded x → Named "cCI" x × (is_some (integer_in (string_of "v" x)) ≡ true)
command_entry_lem x w =
    let code = first_of_lem is_label "cCI" (drop 1 commanded) x w in
    let name = first_of_lem is_label "n" (drop 2 commanded) x code.1 in
    let order = first_of_lem is_label "cO" (drop 3 commanded) x name.1 in
    let value = first_of_lem (λ s. is_some (integer_in s)) "v" [] x order.1 in
    ((code.0, name.0), value.0)

-- ---- its values
abbrev AtMost : ℕ → Option ℕ → Type 0
AtMost limit none = Unit {0}
AtMost limit (some n) = n ≤ limit

number_most : (limit : ℕ) (s : Bytes) → AtMost limit (number_in limit s)
number_most limit s =
    picked (AtMost limit) (both (leb (says 0 s) limit) (same_bytes s (digits (says 0 s)))) _ none
    (λ e. leb-true (says 0 s) limit (both_first (leb (says 0 s) limit) _ e)) (λ e. tt)

abbrev SignedIf : Option ℤ → Type 0
SignedIf none = Unit {0}
SignedIf (some v) = Signed32 v

below_signed : (o : Option ℕ) → AtMost 2147483648 o → SignedIf (below o)
below_signed none h = tt
below_signed (some zero) h = tt
below_signed (some (suc n)) h = omega (arith, h)

above_signed : (o : Option ℕ) → AtMost 2147483647 o → SignedIf (maybe none (λ (n : ℕ). some (pos n)) o)
above_signed none h = tt
above_signed (some n) h = omega (arith, h)

integer_signed : (s : Bytes) → SignedIf (integer_in s)
integer_signed [] = tt
integer_signed (b ∷ s) =
    picked SignedIf (eqb b 45) _ _ (λ e. below_signed (number_in 2147483648 s) (number_most 2147483648 s))
    (λ e. above_signed (number_in 2147483647 (b ∷ s)) (number_most 2147483647 (b ∷ s)))

pub value_signed : (e : Json) → Signed32 (value_asked e)
value_signed e = go (integer_in (string_of "v" e)) (integer_signed (string_of "v" e))
  where
    go : (o : Option ℤ) → SignedIf o → Signed32 (or_else (pos 0) o)
    go none h = omega arith
    go (some v) h = h
