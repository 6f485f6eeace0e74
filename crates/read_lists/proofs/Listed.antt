-- The lists that are looked up in a text are those of its meaning.
-- Assumes nothing.
use Rattle.basis.proofs.Std.{◌≡◌, refl, ap, ap₂, fun_ext, ◌∙◌, true, false, List, [], ◌∷◌, ℕ, ◌≤◌, arith, eqb, ne_eqb}
use Rattle.json_text.specs.Decoded.{Parsed}
use Rattle.json_text.specs.Decoded.Parsed.{ok}
use Rattle.json_value.specs.Grammar.{Json, Jsons, Ws, Value, Elements}
use Rattle.json_value.specs.Reader.{skip_ws, Named, named, read_entry, read_value}
use Rattle.json_value.proofs.Complete as Complete
use Rattle.json_value.proofs.Shorter as Shorter
use Rattle.json_value.proofs.Deeper as Deeper
use Rattle.json_find.specs.Entries.{next_entry, entries, inside_at, entries_at}
use Rattle.json_find.specs.Lookup.{Found}
use Rattle.json_find.proofs.Walks.{unroll}
use Rattle.json_packet.specs.Packet.{is_object}
use Rattle.read_head.proofs.Found.{Leads, to, nowhere, leads, words_agree}
use Rattle.read_lists.specs.Items.{Item, items, flagged, flag_of, flag_in, item_in, items_in, listed, list_of, list_in, begins, flag_here, flag_behind, flag_at, item_at, items_at, list_here, list_behind, list_at}

-- the entries of an array's text are its elements

entries_end : (t r : List ℕ) (x : Named) → read_entry 0x5d (λ v. read_value 7 v) t ≡ ok (record { item = x; last = true }) r → entries 0x5d t ≡ t ∷ []
unfolding next_entry
entries_end t r x e = unroll 0x5d t ∙ rw e

entries_on : (t r : List ℕ) (x : Named) → read_entry 0x5d (λ v. read_value 7 v) t ≡ ok (record { item = x; last = false }) r → entries 0x5d t ≡ t ∷ entries 0x5d r
unfolding next_entry
entries_on t r x e = unroll 0x5d t ∙ rw e

empty_inside : (t : List ℕ) {r : List ℕ} → skip_ws t ≡ 0x5d ∷ r → entries_at 0x5b 0x5d (0x5b ∷ t) ≡ []
unfolding entries_at inside_at
empty_inside t e = rw e

some_inside : (t : List ℕ) (b : ℕ) (u : List ℕ) → skip_ws t ≡ b ∷ u → eqb b 0x5d ≡ false → entries_at 0x5b 0x5d (0x5b ∷ t) ≡ entries 0x5d t
unfolding entries_at inside_at
some_inside t b u e h = rw (e, h)

array_inside : {l : ℕ} {t r : List ℕ} {js : Jsons} → Elements l t r js → entries_at 0x5b 0x5d (0x5b ∷ t) ≡ entries 0x5d t
array_inside {t = t} i = go (skip_ws t) refl (Complete.elements_begin i)
  where
    go : (u : List ℕ) → skip_ws t ≡ u → Complete.Begins u → entries_at 0x5b 0x5d (0x5b ∷ t) ≡ entries 0x5d t
    go [] e h = absurd h
    go (b ∷ u) e h = some_inside t b u e h.1

-- a value: its first byte, whether it is a boolean, and as an item

object_value : {l : ℕ} {t r : List ℕ} {j : Json} → Value l t r j → begins 0x7b t ≡ is_object j
unfolding begins
object_value Value.vnull = refl
object_value Value.vtrue = refl
object_value Value.vfalse = refl
object_value (Value.vnum n e d) = let b = Shorter.begun n in rw (b.is, ne_eqb b.first 0x7b (λ x. omega (arith, b.high)))
object_value (Value.vstr c) = refl
object_value (Value.varr₀ w) = refl
object_value (Value.varr i) = refl
object_value (Value.vobj₀ w) = refl
object_value (Value.vobj i) = refl

flag_value : {l : ℕ} {t r : List ℕ} {j : Json} → Value l t r j → flag_here t ≡ flagged j
unfolding flag_here begins
flag_value Value.vnull = refl
flag_value Value.vtrue = refl
flag_value Value.vfalse = refl
flag_value (Value.vnum n e d) = let b = Shorter.begun n in rw (b.is, ne_eqb b.first 0x74 (λ x. omega (arith, b.high)), ne_eqb b.first 0x66 (λ x. omega (arith, b.high)))
flag_value (Value.vstr c) = refl
flag_value (Value.varr₀ w) = refl
flag_value (Value.varr i) = refl
flag_value (Value.vobj₀ w) = refl
flag_value (Value.vobj i) = refl

flag_leads : {p : Parsed (List ℕ)} {f : Found} → Leads p f → flag_behind p ≡ flag_of f
flag_leads (to v) = flag_value v
flag_leads nowhere = refl

flags_agree : {l : ℕ} {t r : List ℕ} {j : Json} → l ≤ 8 → Value l t r j → flag_at t ≡ flag_in j
unfolding flag_at flag_in
flags_agree h v = fun_ext (λ name. flag_leads (leads h v name))

item_value : {l : ℕ} {t r : List ℕ} {j : Json} → l ≤ 8 → Value l t r j → item_at t ≡ item_in j
item_value {t = t} {j = j} h v = rw (object_value v, words_agree h v, flags_agree h v)

item_at_lem : {l : ℕ} {t u r : List ℕ} {j : Json} → l ≤ 8 → Ws t u → Value l u r j → item_at (skip_ws t) ≡ item_in j
item_at_lem {u = u} h w v = ap item_at (Complete.skip w (Complete.solid u (Complete.begins v))) ∙ item_value h v

elements_items : {l : ℕ} {t r : List ℕ} {js : Jsons} → l ≤ 7 → Elements l t r js → items_at (entries 0x5d t) ≡ items_in js
elements_items h (Elements.elast {t = t} {u = u} {v = v} {r = r} {j = j} a x b) =
    let y = Deeper.value 7 h x in
    rw (entries_end t r (named [] j) (Complete.entry_read 0x5d 7 t u v r [] j (Complete.start_value a (Complete.begins y)) (Complete.value y) true (Complete.close_array b)))
    (ap (λ (k : Item). k ∷ []) (item_at_lem (omega arith) a x))
elements_items h (Elements.enext {t = t} {u = u} {v = v} {w = w} {j = j} a x b i) =
    let y = Deeper.value 7 h x in
    rw (entries_on t w (named [] j) (Complete.entry_read 0x5d 7 t u v w [] j (Complete.start_value a (Complete.begins y)) (Complete.value y) false (Complete.comma_array b)))
    (ap₂ (λ (k : Item) (ks : List Item). k ∷ ks) (item_at_lem (omega arith) a x) (elements_items h i))

list_value : {l : ℕ} {t r : List ℕ} {j : Json} → l ≤ 8 → Value l t r j → list_here t ≡ listed j
unfolding list_here begins
list_value h Value.vnull = refl
list_value h Value.vtrue = refl
list_value h Value.vfalse = refl
list_value h (Value.vnum n e d) = let b = Shorter.begun n in rw (b.is, ne_eqb b.first 0x5b (λ x. omega (arith, b.high)))
list_value h (Value.vstr c) = refl
list_value h (Value.varr₀ {t = t} w) = rw (empty_inside t (Complete.skip w refl))
list_value h (Value.varr i) = rw (array_inside i) (ap items (elements_items (omega arith) i))
list_value h (Value.vobj₀ w) = refl
list_value h (Value.vobj i) = refl

list_leads : {p : Parsed (List ℕ)} {f : Found} → Leads p f → list_behind p ≡ list_of f
list_leads (to v) = list_value (omega arith) v
list_leads nowhere = refl

-- the lists of a text are those of its meaning
pub lists_agree : {l : ℕ} {t r : List ℕ} {j : Json} → l ≤ 8 → Value l t r j → list_at t ≡ list_in j
unfolding list_at list_in
lists_agree h v = fun_ext (λ name. list_leads (leads h v name))
