-- Twelve texts as noted: as they stand there, and without their quotes.
-- Assumes nothing.
use Rattle.basis.proofs.Std.{ℕ, false, zero, suc, ◌<◌, ◌≡◌, sym, ◌∙◌, List, [], map, arith, get_or, get_or-map, length, length-map, ext_get_or}
use Rattle.std.specs.Borrow.{Bor}
use Rattle.csv_field.specs.Marks.{unquoted}
use Rattle.csv_field.specs.Places.{texts_of, Noted}
use Rattle.csv_field.specs.declared.Notes.{Notes}
use Rattle.csv_entry.proofs.Simple.{Simple, AllSimple, same_text}

abbrev pub no_text : Bor (List ℕ)
no_text = record { ref_ptr = (0, 0); now = [] }

pub text_at : (ts : List (Bor (List ℕ))) (j : ℕ) → get_or (texts_of ts) j [] ≡ (get_or ts j no_text).now
text_at ts j = get_or-map (λ (t : Bor (List ℕ)). t.now) ts j no_text

pub texts_length : (ts : List (Bor (List ℕ))) → length (texts_of ts) ≡ length ts
texts_length ts = length-map ts (λ (t : Bor (List ℕ)). t.now)

-- two lists of twelve are one where each text of one is that of the other
pub twelve_same : (ts us : List (List ℕ)) → length ts ≡ 12 → length us ≡ 12 → ((j : ℕ) → j < 12 → get_or ts j [] ≡ get_or us j []) → ts ≡ us
twelve_same ts us a b h = ext_get_or [] ts us (a ∙ sym b) (λ j g. h j (omega (arith, a)))

simple_at : {ds : List (List ℕ)} → AllSimple ds → (j : ℕ) → Simple (get_or ds j [])
simple_at AllSimple.none j = Simple.none
simple_at (AllSimple.next x y) zero = x
simple_at (AllSimple.next x y) (suc j) = simple_at y j

module _ {n : Notes} {ds : List (List ℕ)} (k : Noted n ds) (h : length ds ≡ 12) where
  raws_twelve : length (texts_of n.texts) ≡ 12
  raws_twelve = texts_length n.texts ∙ k.room

  -- twelve simple fields stand in the text as they are
  pub simple_raws : AllSimple ds → texts_of n.texts ≡ ds
  simple_raws a = twelve_same (texts_of n.texts) ds raws_twelve h (λ j g. same_text (get_or (texts_of n.texts) j []) (simple_at a j) (sym (k.each j g (omega arith))))

  -- and any twelve without their quotes are the fields
  pub meant_raws : map (unquoted false) (texts_of n.texts) ≡ ds
  unfolding unquoted
  meant_raws = twelve_same (map (unquoted false) (texts_of n.texts)) ds (length-map (texts_of n.texts) (unquoted false) ∙ raws_twelve) h
      (λ j g. get_or-map (unquoted false) (texts_of n.texts) j [] ∙ sym (k.each j g (omega arith)))
