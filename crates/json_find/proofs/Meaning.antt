-- The entries of an object beside what they mean, and a name's string.
-- Assumes nothing.
use Rattle.basis.proofs.Std.{ℕ, ◌≤◌, ◌≡◌, refl, ◌∙◌, true, false, List, [], ◌∷◌}
use Rattle.json_text.specs.Decoded.Parsed.{ok}
use Rattle.json_text.proofs.Meaning as Strings
use Rattle.json_value.specs.Grammar.{Json, Members, Name, Value, Pairs}
use Rattle.json_value.specs.Grammar.Json.{str}
use Rattle.json_value.specs.Grammar.Members.{mnil, mcons}
use Rattle.json_value.specs.Reader.{skip_ws, Named, named, read_entry, read_value}
use Rattle.json_value.proofs.Complete as Complete
use Rattle.json_value.proofs.Deeper as Deeper
use Rattle.json_find.specs.Kinds.{string_at, is_str}
use Rattle.json_find.specs.Entries.{next_entry, entries}
use Rattle.json_find.proofs.Walks.{unroll}

-- entries of an object: their texts beside what they mean
pub data Pairing : List (List ℕ) → Members → Type 0 where
  pnil : Pairing [] mnil
  pcons : {t u r d : List ℕ} {ts : List (List ℕ)} {j : Json} {ms : Members} → Name t u d → Value 7 u r j → Pairing ts ms → Pairing (t ∷ ts) (mcons d j ms)

-- where an entry is read, the entries after it are those of the rest
entries_end : (close : ℕ) (t r : List ℕ) (x : Named) → read_entry close (λ v. read_value 7 v) t ≡ ok (record { item = x; last = true }) r → entries close t ≡ t ∷ []
unfolding next_entry
entries_end close t r x e = unroll close t ∙ rw e

entries_on : (close : ℕ) (t r : List ℕ) (x : Named) → read_entry close (λ v. read_value 7 v) t ≡ ok (record { item = x; last = false }) r → entries close t ≡ t ∷ entries close r
unfolding next_entry
entries_on close t r x e = unroll close t ∙ rw e

pub pairing : {l : ℕ} {t r : List ℕ} {ms : Members} → l ≤ 7 → Pairs l t r ms → Pairing (entries 0x7d t) ms
pairing h (Pairs.plast {t = t} {u = u} {v = v} {r = r} {d = d} {j = j} a x b) =
    let y = Deeper.value 7 h x in
    rw (entries_end 0x7d t r (named d j) (Complete.entry_read 0x7d 7 t u v r d j (Complete.start_name a (Complete.solid u (Complete.begins y))) (Complete.value y) true (Complete.close_object b)))
    (pcons a y pnil)
pairing h (Pairs.pnext {t = t} {u = u} {v = v} {w = w} {d = d} {j = j} a x b i) =
    let y = Deeper.value 7 h x in
    rw (entries_on 0x7d t w (named d j) (Complete.entry_read 0x7d 7 t u v w d j (Complete.start_name a (Complete.solid u (Complete.begins y))) (Complete.value y) false (Complete.comma_object b)))
    (pcons a y (pairing h i))

-- a name's string is the fixed one exactly when the name is
pub name_string : (fixed : List ℕ) {t u d : List ℕ} → Name t u d → string_at fixed (skip_ws t) ≡ is_str fixed (str d)
unfolding string_at
name_string fixed (Name.name a c b e) = rw (Complete.skip a refl, Strings.complete c)
