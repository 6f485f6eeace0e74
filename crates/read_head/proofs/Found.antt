-- The elements that are looked up in a text are those of its meaning.
-- Assumes nothing.
use Rattle.basis.proofs.Std.{◌≡◌, refl, fun_ext, Bool, true, false, List, [], ◌∷◌, ℕ, ◌≤◌, arith, eqb, ne_eqb, pick}
use Rattle.json_text.specs.Decoded.{Parsed}
use Rattle.json_text.specs.Decoded.Parsed.{ok, none}
use Rattle.json_text.proofs.Meaning as Strings
use Rattle.json_value.specs.Grammar.{Json, Members, Value, Pairs}
use Rattle.json_value.specs.Grammar.Json.{str}
use Rattle.json_value.specs.Reader.{skip_ws, read_start}
use Rattle.json_value.proofs.Complete as Complete
use Rattle.json_value.proofs.Shorter as Shorter
use Rattle.json_find.specs.Kinds.{is_str}
use Rattle.json_find.specs.Entries.{entries, inside_at, entries_at, first_named, member_at}
use Rattle.json_find.specs.Lookup as Lookup
use Rattle.json_find.specs.Lookup.{Found, members_in, member}
use Rattle.json_find.specs.Lookup.Found.{found, missing}
use Rattle.json_find.proofs.Meaning.{Pairing, pnil, pcons, pairing, name_string}
use Rattle.read_head.specs.Word.{said, said_of, word_in, word_here, word_behind, word_at}

-- the entries of an object's text are its members

no_inside : (b : ℕ) (t : List ℕ) → eqb b 0x7b ≡ false → entries_at 0x7b 0x7d (b ∷ t) ≡ []
unfolding entries_at inside_at
no_inside b t h = rw h

empty_inside : (t : List ℕ) {r : List ℕ} → skip_ws t ≡ 0x7d ∷ r → entries_at 0x7b 0x7d (0x7b ∷ t) ≡ []
unfolding entries_at inside_at
empty_inside t e = rw e

some_inside : (t : List ℕ) (b : ℕ) (u : List ℕ) → skip_ws t ≡ b ∷ u → eqb b 0x7d ≡ false → entries_at 0x7b 0x7d (0x7b ∷ t) ≡ entries 0x7d t
unfolding entries_at inside_at
some_inside t b u e h = rw (e, h)

object_inside : {l : ℕ} {t r : List ℕ} {ms : Members} → Pairs l t r ms → entries_at 0x7b 0x7d (0x7b ∷ t) ≡ entries 0x7d t
object_inside {t = t} i = go (skip_ws t) refl (Complete.pairs_begin i)
  where
    go : (u : List ℕ) → skip_ws t ≡ u → Complete.Quoted u → entries_at 0x7b 0x7d (0x7b ∷ t) ≡ entries 0x7d t
    go [] e h = absurd h
    go (b ∷ u) e h = some_inside t b u e (rw h)

value_pairing : {l : ℕ} {t r : List ℕ} {j : Json} → l ≤ 8 → Value l t r j → Pairing (entries_at 0x7b 0x7d t) (members_in j)
value_pairing h (Value.vnull {r = r}) = rw (no_inside 0x6e (0x75 ∷ 0x6c ∷ 0x6c ∷ r) refl) pnil
value_pairing h (Value.vtrue {r = r}) = rw (no_inside 0x74 (0x72 ∷ 0x75 ∷ 0x65 ∷ r) refl) pnil
value_pairing h (Value.vfalse {r = r}) = rw (no_inside 0x66 (0x61 ∷ 0x6c ∷ 0x73 ∷ 0x65 ∷ r) refl) pnil
value_pairing h (Value.vnum n e d) = let b = Shorter.begun n in rw (b.is, no_inside b.first b.rest (ne_eqb b.first 0x7b (λ x. omega (arith, b.high)))) pnil
value_pairing h (Value.vstr {t = t} c) = rw (no_inside 0x22 t refl) pnil
value_pairing h (Value.varr₀ {t = t} w) = rw (no_inside 0x5b t refl) pnil
value_pairing h (Value.varr {t = t} i) = rw (no_inside 0x5b t refl) pnil
value_pairing h (Value.vobj₀ {t = t} w) = rw (empty_inside t (Complete.skip w refl)) pnil
value_pairing h (Value.vobj i) = rw (object_inside i) (pairing (omega arith) i)

-- a value that is read

word_value : {l : ℕ} {t r : List ℕ} {j : Json} → Value l t r j → word_here t ≡ said j
unfolding word_here
word_value Value.vnull = refl
word_value Value.vtrue = refl
word_value Value.vfalse = refl
word_value (Value.vnum n e d) = let b = Shorter.begun n in rw (b.is, ne_eqb b.first 0x22 (λ x. omega (arith, b.low)))
word_value (Value.vstr c) = rw (Strings.complete c)
word_value (Value.varr₀ w) = refl
word_value (Value.varr i) = refl
word_value (Value.vobj₀ w) = refl
word_value (Value.vobj i) = refl

-- what a reading of a place leads to
pub data Leads : Parsed (List ℕ) → Found → Type 0 where
  to : {d u r : List ℕ} {j : Json} → Value 7 u r j → Leads (ok d u) (found j)
  nowhere : Leads none missing

first_named_lem : (name : List ℕ) {ts : List (List ℕ)} {ms : Members} → Pairing ts ms → Leads (first_named name ts) (Lookup.named name ms)
first_named_lem name pnil = nowhere
first_named_lem name (pcons {t = t} {u = u} {d = d} {ts = ts} {j = j} {ms = ms} a x i) =
    rw (name_string name a) (go (first_named_lem name i) (is_str name (str d)))
  where
    go : Leads (first_named name ts) (Lookup.named name ms) → (q : Bool) → Leads (pick q (read_start 0x7d t) (first_named name ts)) (pick q (found j) (Lookup.named name ms))
    go ih true = rw (Complete.start_name a (Complete.solid u (Complete.begins x))) (to x)
    go ih false = ih

-- the member of a name
pub leads : {l : ℕ} {t r : List ℕ} {j : Json} → l ≤ 8 → Value l t r j → (name : List ℕ) → Leads (member_at name t) (member name j)
unfolding member_at
leads h v name = first_named_lem name (value_pairing h v)

word_leads : {p : Parsed (List ℕ)} {f : Found} → Leads p f → word_behind p ≡ said_of f
word_leads (to v) = word_value v
word_leads nowhere = refl

-- the words of a text are those of its meaning
pub words_agree : {l : ℕ} {t r : List ℕ} {j : Json} → l ≤ 8 → Value l t r j → word_at t ≡ word_in j
unfolding word_at word_in
words_agree h v = fun_ext (λ name. word_leads (leads h v name))
