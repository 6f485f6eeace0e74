-- What twelve texts come to, from the record that is guessed of them; and that there is one answer.
-- Assumes nothing.
use Rattle.basis.proofs.Std.{ℕ, ◌≤◌, ◌<◌, ◌≡◌, refl, sym, ap, subst, ◌∙◌, Bool, true, false, List, [], arith, ltb, ltb-true, ltb-false, pick, not_both, get_or, length}
use Rattle.entry.specs.declared.Entry.{Entry}
use Rattle.entry.specs.Valid.{Valid}
use Rattle.csv_words.specs.Words.{kind_word}
use Rattle.csv_entry.specs.Fields.{fields_of}
use Rattle.csv_entry.specs.Guess.{kind_in, kind_named, guess_of}
use Rattle.csv_entry.specs.Judged.{Judged, present, Judges, other_count, no_kind, not_present, no_record, a_record, Holds}
use Rattle.std.specs.Prelude.{Result, Ok, Err, Some, None, ok_or}
use Rattle.csv_entry.specs.declared.Reason.{Reason}
use Rattle.csv_entry.specs.declared.Reason.TheVariants.{Kind, Presence, Contents}
use Rattle.csv_entry.proofs.Shape.{three, twelve}
use Rattle.csv_entry.proofs.Back.{named, guessed, one_line, has_them}
use Rattle.csv_entry.proofs.Back as Back

-- the kind of a record is the one that its fields name
kind_is : {e : Entry} {ds : List (List ℕ)} → Valid e → fields_of e ≡ ds → (k : ℕ) → k < 3 → get_or ds 1 [] ≡ kind_word k → e.kind ≡ k
kind_is {e} v f k h n =
    let a = named v.of_kind in
    sym (three e.kind a.1).0 ∙ ap kind_in (sym a.0 ∙ ap (λ (l : List (List ℕ)). get_or l 1 []) f ∙ n) ∙ (three k h).0

module _ {ds : List (List ℕ)} (e : Entry) (v : Valid e) (f : fields_of e ≡ ds) where
  is_twelve : length ds ≡ 12
  is_twelve = ap length (sym f) ∙ twelve e

  has_kind : ((k : ℕ) → k < 3 → get_or ds 1 [] ≡ kind_word k → ⊥) → ⊥
  has_kind n = let a = named v.of_kind in n e.kind a.1 (ap (λ (l : List (List ℕ)). get_or l 1 []) (sym f) ∙ a.0)

  is_present : (k : ℕ) → k < 3 → get_or ds 1 [] ≡ kind_word k → present k ds ≡ true
  is_present k h n = subst (λ (l : List (List ℕ)). present k l ≡ true) f (subst (λ (m : ℕ). present m (fields_of e) ≡ true) (kind_is v f k h n) (has_them v.of_kind))

-- the two kinds that one text names are one
same_kind : (f : List ℕ) (k m : ℕ) → k < 3 → m < 3 → f ≡ kind_word k → f ≡ kind_word m → k ≡ m
same_kind f k m h g a b = sym (three k h).0 ∙ ap kind_in (sym a ∙ b) ∙ (three m g).0

pub one_answer : {ds : List (List ℕ)} {a b : Judged} → Judges ds a → Judges ds b → a ≡ b
one_answer (other_count n) (other_count m) = refl
one_answer (other_count n) (no_kind l m) = absurd (n l)
one_answer (other_count n) (not_present k l h q p) = absurd (n l)
one_answer (other_count n) (no_record k l h q p m) = absurd (n l)
one_answer (other_count n) (a_record {e} v f) = absurd (n (is_twelve e v f))
one_answer (no_kind l m) (other_count n) = absurd (n l)
one_answer (no_kind l m) (no_kind l' m') = refl
one_answer (no_kind l m) (not_present k l' h q p) = absurd (m k h q)
one_answer (no_kind l m) (no_record k l' h q p n) = absurd (m k h q)
one_answer (no_kind l m) (a_record {e} v f) = absurd (has_kind e v f m)
one_answer (not_present k l h q p) (other_count n) = absurd (n l)
one_answer (not_present k l h q p) (no_kind l' m) = absurd (m k h q)
one_answer (not_present k l h q p) (not_present k' l' h' q' p') = refl
one_answer {ds} (not_present k l h q p) (no_record k' l' h' q' p' n) = absurd (not_both p' (subst (λ (m : ℕ). present m ds ≡ false) (same_kind (get_or ds 1 []) k k' h h' q q') p))
one_answer (not_present k l h q p) (a_record {e} v f) = absurd (not_both (is_present e v f k h q) p)
one_answer (no_record k l h q p m) (other_count n) = absurd (n l)
one_answer (no_record k l h q p m) (no_kind l' n) = absurd (n k h q)
one_answer {ds} (no_record k l h q p m) (not_present k' l' h' q' p') = absurd (not_both p (subst (λ (x : ℕ). present x ds ≡ false) (same_kind (get_or ds 1 []) k' k h' h q' q) p'))
one_answer (no_record k l h q p m) (no_record k' l' h' q' p' m') = refl
one_answer (no_record k l h q p m) (a_record {e} v f) = absurd (m e v f)
one_answer (a_record {e} v f) (other_count n) = absurd (n (is_twelve e v f))
one_answer (a_record {e} v f) (no_kind l m) = absurd (has_kind e v f m)
one_answer (a_record {e} v f) (not_present k l h q p) = absurd (not_both (is_present e v f k h q) p)
one_answer (a_record {e} v f) (no_record k l h q p m) = absurd (m e v f)
one_answer (a_record {e} v f) (a_record {e = g} w h) = ap Ok (one_line v w (f ∙ sym h))

-- as the code goes

module _ (k : ℕ) (ds : List (List ℕ)) (g : Entry) (is : g ≡ guess_of k ds) where
  guess_is : (e : Entry) → Valid e → e.kind ≡ k → fields_of e ≡ ds → g ≡ e
  guess_is e v h f = is ∙ ap (λ (m : ℕ). guess_of m ds) (sym h) ∙ ap (guess_of e.kind) (sym f) ∙ guessed v

  pub not_valid : (Valid g → ⊥) → Holds k ds (Err Contents)
  not_valid n = Holds.none (λ e v h f. n (subst Valid (sym (guess_is e v h f)) v))

  pub not_its : (fields_of g ≡ ds → ⊥) → Holds k ds (Err Contents)
  not_its n = Holds.none (λ e v h f. n (ap fields_of (guess_is e v h f) ∙ f))

-- the kind as the code takes it
abbrev Taken : List ℕ → Result ℕ Reason
Taken f = ok_or (kind_named f) Kind

module _ (f : List ℕ) where
  pub kind_none : {e : Reason} → Taken f ≡ Err e → (3 ≤ kind_in f) × (e ≡ Kind)
  kind_none {e} = go (ltb (kind_in f) 3) refl
    where
      go : (b : Bool) → ltb (kind_in f) 3 ≡ b → ok_or (pick b (Some (kind_in f)) None) Kind ≡ Err e → (3 ≤ kind_in f) × (e ≡ Kind)
      go true q h = absurd (let z : ◌≡◌ {A = ℕ} 0 1 = cc in omega arith)
      go false q h = (omega (arith, ltb-false (kind_in f) 3 q), cc)

  pub kind_some : {k : ℕ} → Taken f ≡ Ok k → (k ≡ kind_in f) × (k < 3)
  kind_some {k} = go (ltb (kind_in f) 3) refl
    where
      go : (b : Bool) → ltb (kind_in f) 3 ≡ b → ok_or (pick b (Some (kind_in f)) None) Kind ≡ Ok k → (k ≡ kind_in f) × (k < 3)
      go true q h = let z : kind_in f ≡ k = cc in (sym z, omega (arith, ltb-true (kind_in f) 3 q))
      go false q h = absurd (let z : ◌≡◌ {A = ℕ} 0 1 = cc in omega arith)

pub unnamed : (ds : List (List ℕ)) (k : ℕ) → length ds ≡ 12 → k ≡ kind_in (get_or ds 1 []) → 3 ≤ k → Judges ds (Err Kind)
unnamed ds k l e h = no_kind l (λ m g q. omega (arith, e ∙ ap kind_in q ∙ (three m g).0))

pub absent : (ds : List (List ℕ)) (k : ℕ) → length ds ≡ 12 → k ≡ kind_in (get_or ds 1 []) → k < 3 → present k ds ≡ false → Judges ds (Err Presence)
absent ds k l e h p = not_present k l h (Back.kind_named (get_or ds 1 []) (omega (arith, e)) ∙ ap kind_word (sym e)) p

pub held : (ds : List (List ℕ)) (k : ℕ) → length ds ≡ 12 → k ≡ kind_in (get_or ds 1 []) → k < 3 → present k ds ≡ true → {r : Judged} → Holds k ds r → Judges ds r
held ds k l e h p (Holds.none n) =
    let q = Back.kind_named (get_or ds 1 []) (omega (arith, e)) ∙ ap kind_word (sym e) in
    no_record k l h q p (λ x v f. n x v (kind_is v f k h q) f)
held ds k l e h p (Holds.one v f) = a_record v f
