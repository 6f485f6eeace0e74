-- What is behind a text stays behind it.
-- Assumes nothing.
use Rattle.basis.proofs.Std.{ℕ, ◌≡◌, refl, ap, ◌∙◌, true, false, List, [], ◌∷◌, ◌++◌, append_assoc}
use Rattle.json_value.specs.Grammar.{Json, Jsons, Members}
use Rattle.json_value.specs.Grammar.Json.{null, bool, num, str, arr, obj}
use Rattle.json_value.specs.Grammar.Jsons.{jnil, jcons}
use Rattle.json_value.specs.Grammar.Members.{mnil, mcons}
use Rattle.json_write.specs.Text.{quoted, text_onto, elements_onto, members_onto, text_of}

quoted_behind : (d r s : List ℕ) → quoted d (r ++ s) ≡ quoted d r ++ s
quoted_behind d r s = ap (λ (l : List ℕ). 0x22 ∷ l) (append_assoc_back d (0x22 ∷ r) s)
  where
    append_assoc_back : (a b c : List ℕ) → a ++ (b ++ c) ≡ (a ++ b) ++ c
    append_assoc_back a b c = rw append_assoc

mutual
  pub text_behind : (j : Json) (r s : List ℕ) → text_onto j (r ++ s) ≡ text_onto j r ++ s
  text_behind null r s = refl
  text_behind (bool true) r s = refl
  text_behind (bool false) r s = refl
  text_behind (num d) r s = rw append_assoc
  text_behind (str d) r s = quoted_behind d r s
  text_behind (arr js) r s = ap (λ (l : List ℕ). 0x5b ∷ l) (elements_behind js (0x5d ∷ r) s)
  text_behind (obj ms) r s = ap (λ (l : List ℕ). 0x7b ∷ l) (members_behind ms (0x7d ∷ r) s)

  elements_behind : (js : Jsons) (r s : List ℕ) → elements_onto js (r ++ s) ≡ elements_onto js r ++ s
  elements_behind jnil r s = refl
  elements_behind (jcons j jnil) r s = text_behind j r s
  elements_behind (jcons j (jcons k js)) r s =
      ap (λ (l : List ℕ). text_onto j (0x2c ∷ l)) (elements_behind (jcons k js) r s) ∙ text_behind j (0x2c ∷ elements_onto (jcons k js) r) s

  members_behind : (ms : Members) (r s : List ℕ) → members_onto ms (r ++ s) ≡ members_onto ms r ++ s
  members_behind mnil r s = refl
  members_behind (mcons d j mnil) r s = ap (λ (l : List ℕ). quoted d (0x3a ∷ l)) (text_behind j r s) ∙ quoted_behind d (0x3a ∷ text_onto j r) s
  members_behind (mcons d j (mcons e k ms)) r s =
      ap (λ (l : List ℕ). quoted d (0x3a ∷ text_onto j (0x2c ∷ l))) (members_behind (mcons e k ms) r s)
      ∙ ap (λ (l : List ℕ). quoted d (0x3a ∷ l)) (text_behind j (0x2c ∷ members_onto (mcons e k ms) r) s)
      ∙ quoted_behind d (0x3a ∷ text_onto j (0x2c ∷ members_onto (mcons e k ms) r)) s

-- a text with something behind it
pub behind : (j : Json) (s : List ℕ) → text_onto j s ≡ text_of j ++ s
behind j s = text_behind j [] s
