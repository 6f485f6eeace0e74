-- What a line comes to whose texts were noted, as the code goes.
-- Assumes nothing.
use Rattle.basis.proofs.Std.{ℕ, ◌≤◌, ◌<◌, ◌≡◌, refl, sym, ap, subst, ◌∙◌, Bool, false, List, [], map, arith, not_both, le_or_lt, ⊎_elim, length, get_or, get_or-append-add, ◌++◌, drop}
use Rattle.std.specs.Prelude.{Option, Some, None, Ok, Err, ok_or}
use Rattle.csv_entry.specs.declared.Reason.{Reason}
use Rattle.entry.specs.Valid.{Decides}
use Rattle.csv_field.specs.Grammar.{Parts}
use Rattle.csv_field.specs.Marks.{unquoted}
use Rattle.csv_field.specs.Split.{Split, split, fields, faulty}
use Rattle.csv_field.specs.Places.{texts_of, Noted, Splits, splits, spoilt}
use Rattle.csv_field.specs.declared.Notes.{Notes}
use Rattle.csv_field.specs.declared.Line.{Line}
use Rattle.csv_field.proofs.Meaning as Meaning
use Rattle.csv_words.specs.Words.{kinds, events, columns, column_word}
use Rattle.csv_entry.specs.Judged.{Judged, Judges, other_count}
use Rattle.csv_entry.specs.declared.Reason.TheVariants.{Quoting, Count}
use Rattle.csv_entry.proofs.Simple.{AllSimple}
use Rattle.csv_entry.proofs.Shape.{word_simple}
use Rattle.csv_entry.proofs.Twelve.{meant_raws}
use Rattle.csv_entry.proofs.Quoted.{noted_judged, simple_meant, meant_simple}
use Rattle.csv_line.specs.Reading.{ReadsLine, HasHeader, TellsHeader, JudgesLine}

pub columns_simple : AllSimple columns
columns_simple =
    AllSimple.next (word_simple 6) (AllSimple.next (word_simple 7) (AllSimple.next (word_simple 8) (AllSimple.next (word_simple 9)
    (AllSimple.next (word_simple 10) (AllSimple.next (word_simple 11) (AllSimple.next (word_simple 12) (AllSimple.next (word_simple 13)
    (AllSimple.next (word_simple 14) (AllSimple.next (word_simple 15) (AllSimple.next (word_simple 16) (AllSimple.next (word_simple 17) AllSimple.none)))))))))))

pub column_is : (j : ℕ) → j < 12 → get_or columns j [] ≡ column_word j
column_is j h = sym (get_or-append-add (kinds ++ events) columns j [])

module _ {n : Notes} {ds : List (List ℕ)} (k : Noted n ds) where
  counted : n.count ≡ 12 → length ds ≡ 12
  counted h = ⊎_elim (λ (l : length ds ≤ 12). omega (arith, k.count l, h)) (λ (l : 12 < length ds). absurd (omega (arith, k.more l, h))) (le_or_lt (length ds) 12)

  not_counted : (n.count ≡ 12 → ⊥) → length ds ≡ 12 → ⊥
  not_counted h e = h (k.count (omega (arith, e)) ∙ e)

  pub columns_told : n.count ≡ 12 → {r : Bool} → Decides r (texts_of n.texts ≡ columns) → Decides r (ds ≡ columns)
  columns_told c d =
      let m = meant_raws k (counted c) in
      record {
        yes = λ q. sym m ∙ ap (λ (l : List (List ℕ)). map (unquoted false) l) (d.yes q) ∙ simple_meant columns_simple;
        only = λ e. d.only (meant_simple (texts_of n.texts) columns_simple (m ∙ e));
      }

  pub twelve_judged : n.count ≡ 12 → {r : Judged} → Judges (texts_of n.texts) r → Judges ds r
  twelve_judged h j = noted_judged k (counted h) j

  pub not_twelve : (n.count ≡ 12 → ⊥) → Judges ds (Err Count)
  not_twelve h = other_count (not_counted h)

-- as the code goes, from the notes that it has

ok_some : {A : Type 0} (o : Option A) {a : A} → ok_or o Quoting ≡ Ok a → o ≡ Some a
ok_some (Some x) {a} h = let z : x ≡ a = cc in ap Some z
ok_some None h = absurd (let z : ◌≡◌ {A = ℕ} 0 1 = cc in omega arith)

no_some : {A : Type 0} (o : Option A) {e : Reason} → ok_or o Quoting ≡ Err e → o ≡ None
no_some (Some x) h = absurd (let z : ◌≡◌ {A = ℕ} 0 1 = cc in omega arith)
no_some None h = refl

module _ {l : Line} where
  pub header_noted : {n : Notes} → l.notes ≡ Some n → n.count ≡ 12 → {r : Bool} → Decides r (texts_of n.texts ≡ columns) → TellsHeader l r
  header_noted {n} i c d =
      record {
        spoilt = λ e. absurd (let z : ◌≡◌ {A = ℕ} 0 1 = cc in omega arith);
        noted = λ m e ds k. let z : m ≡ n = cc in columns_told (subst (λ (o : Notes). Noted o ds) z k) c d;
      }

  pub line_judged : {n : Notes} → ok_or l.notes Quoting ≡ Ok n → n.count ≡ 12 → {r : Judged} → Judges (texts_of n.texts) r → JudgesLine l r
  line_judged {n} i c j = JudgesLine.judged n (ok_some l.notes i) (λ ds k. twelve_judged k c j)

  pub line_counted : {n : Notes} → ok_or l.notes Quoting ≡ Ok n → (n.count ≡ 12 → ⊥) → JudgesLine l (Err Count)
  line_counted {n} i h = JudgesLine.judged n (ok_some l.notes i) (λ ds k. not_twelve k h)

  pub line_spoilt : {e : Reason} → ok_or l.notes Quoting ≡ Err e → JudgesLine l (Err Quoting)
  line_spoilt i = JudgesLine.spoilt (no_some l.notes i)

-- what the code says of a line holds of the text that it was taken from

pub line_reads : {s : List ℕ} {at : ℕ} {l : Line} {r : Judged} (t : List ℕ) → Splits s at (split t) l → JudgesLine l r → ReadsLine t r (drop l.next s)
line_reads {s} {at} {l} t p j = go refl p j
  where
    go : {x : Split} {r : Judged} → split t ≡ x → Splits s at x l → JudgesLine l r → ReadsLine t r (drop l.next s)
    go e (splits {ds} l n is k a b) (JudgesLine.judged m i f) = let z : n ≡ m = cc in ReadsLine.judged (Meaning.sound t (drop l.next s) ds e) (f ds (subst (λ (o : Notes). Noted o ds) z k))
    go e (splits {ds} l n is k a b) (JudgesLine.spoilt i) = absurd (let z : ◌≡◌ {A = ℕ} 0 1 = cc in omega arith)
    go e (spoilt l is a b) (JudgesLine.judged m i f) = absurd (let z : ◌≡◌ {A = ℕ} 0 1 = cc in omega arith)
    go e (spoilt l is a b) (JudgesLine.spoilt i) = ReadsLine.spoilt (Meaning.spoilt t (drop l.next s) e)

pub header_decided : {s : List ℕ} {at : ℕ} {l : Line} {r : Bool} → Splits s at (split s) l → TellsHeader l r → Decides r (HasHeader s l)
header_decided {s} {at} {l} {r} p h = go refl p
  where
    go : {x : Split} → split s ≡ x → Splits s at x l → Decides r (HasHeader s l)
    go e (splits {ds} l n is k a b) =
        let d = h.noted n is ds k in
        record {
          yes = λ q. subst (λ (fs : List (List ℕ)). Parts s fs (drop l.next s)) (d.yes q) (Meaning.sound s (drop l.next s) ds e);
          only = λ q. let f : fields ds (drop l.next s) ≡ fields columns (drop l.next s) = sym e ∙ Meaning.complete q in d.only cc;
        }
    go e (spoilt l is a b) =
        record {
          yes = λ q. absurd (not_both q (h.spoilt is));
          only = λ q. let f : faulty (drop l.next s) ≡ fields columns (drop l.next s) = sym e ∙ Meaning.complete q in absurd (let z : ◌≡◌ {A = ℕ} 0 1 = cc in omega arith);
        }
