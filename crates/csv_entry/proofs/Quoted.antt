-- What texts come to as they stand, they come to without their quotes.
-- Assumes nothing.
use Rattle.basis.proofs.Std.{ℕ, suc, ◌≡◌, refl, sym, ap, ap₂, subst, ◌∙◌, Bool, false, List, [], ◌∷◌, map, arith, eqb, ne_eqb, both, get_or, length, length-map}
use Rattle.csv_field.specs.Marks.{unquoted}
use Rattle.csv_field.specs.Places.{texts_of, Noted}
use Rattle.csv_field.specs.declared.Notes.{Notes}
use Rattle.csv_entry.specs.Judged.{Judged, differ, has_column, present_from, Judges, other_count, no_kind, not_present, no_record, a_record}
use Rattle.csv_entry.proofs.Simple.{AllSimple, same_text, text_same}
use Rattle.csv_entry.proofs.Shape.{word_simple, fields_simple}
use Rattle.csv_entry.proofs.Twelve.{meant_raws}

abbrev meant : List (List ℕ) → List (List ℕ)
meant ts = map (unquoted false) ts

nothing : unquoted false [] ≡ []
unfolding unquoted
nothing = refl

second : (ts : List (List ℕ)) → get_or (meant ts) 1 [] ≡ unquoted false (get_or ts 1 [])
second [] = sym nothing
second (t ∷ []) = sym nothing
second (t ∷ u ∷ ts) = refl

empty_same : (t : List ℕ) → eqb (length (unquoted false t)) 0 ≡ eqb (length t) 0
unfolding unquoted
empty_same [] = refl
empty_same (b ∷ t) = ne_eqb (suc (length (unquoted (eqb b 34) t))) 0 (λ q. omega arith) ∙ sym (ne_eqb (suc (length t)) 0 (λ q. omega arith))

present_same : (k j : ℕ) (ts : List (List ℕ)) → present_from k j (map length (meant ts)) ≡ present_from k j (map length ts)
unfolding present_from
present_same k j [] = refl
present_same k j (t ∷ ts) = ap₂ (λ (b c : Bool). both (differ b (has_column k j)) c) (empty_same t) (present_same k (suc j) ts)

pub simple_meant : {ws : List (List ℕ)} → AllSimple ws → meant ws ≡ ws
simple_meant AllSimple.none = refl
simple_meant (AllSimple.next x y) = ap₂ (λ (w : List ℕ) (l : List (List ℕ)). w ∷ l) (text_same x) (simple_meant y)

pub meant_simple : (ts : List (List ℕ)) {ws : List (List ℕ)} → AllSimple ws → meant ts ≡ ws → ts ≡ ws
meant_simple [] AllSimple.none e = refl
meant_simple [] (AllSimple.next x y) e = absurd (let z : ◌≡◌ {A = ℕ} 0 1 = cc in omega arith)
meant_simple (t ∷ ts) AllSimple.none e = absurd (let z : ◌≡◌ {A = ℕ} 0 1 = cc in omega arith)
meant_simple (t ∷ ts) (AllSimple.next {d} {ds} x y) e =
    let f : unquoted false t ≡ d = cc in
    let g : meant ts ≡ ds = cc in
    ap₂ (λ (w : List ℕ) (l : List (List ℕ)). w ∷ l) (same_text t x f) (meant_simple ts y g)

quoted : {ts : List (List ℕ)} {r : Judged} → Judges ts r → Judges (meant ts) r
quoted {ts} (other_count n) = other_count (λ l. n (sym (length-map ts (unquoted false)) ∙ l))
quoted {ts} (no_kind l n) = no_kind (length-map ts (unquoted false) ∙ l) (λ k h q. n k h (same_text (get_or ts 1 []) (word_simple k) (sym (second ts) ∙ q)))
quoted {ts} (not_present k l h q p) =
    not_present k (length-map ts (unquoted false) ∙ l) h (second ts ∙ ap (unquoted false) q ∙ text_same (word_simple k)) (present_same k 0 ts ∙ p)
quoted {ts} (no_record k l h q p n) =
    no_record k (length-map ts (unquoted false) ∙ l) h (second ts ∙ ap (unquoted false) q ∙ text_same (word_simple k)) (present_same k 0 ts ∙ p)
    (λ e v f. n e v (sym (meant_simple ts (fields_simple e) (sym f))))
quoted {ts} (a_record {e} v f) = a_record v (sym (simple_meant (fields_simple e)) ∙ ap meant f)

-- twelve fields that were noted
pub noted_judged : {n : Notes} {ds : List (List ℕ)} {r : Judged} → Noted n ds → length ds ≡ 12 → Judges (texts_of n.texts) r → Judges ds r
noted_judged {r = r} k h j = subst (λ (l : List (List ℕ)). Judges l r) (meant_raws k h) (quoted j)
