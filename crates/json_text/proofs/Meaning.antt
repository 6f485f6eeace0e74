-- The grammar and the definition that the code equals read the same, so a text has one meaning.
-- Assumes nothing.
use Rattle.basis.proofs.Std.{ℕ, zero, suc, ◌+◌, ◌≡◌, refl, sym, subst, ap, ◌∙◌, true, List, ◌∷◌, arith, T, length, drop, same_true, same_self}
use Rattle.json_character.specs.declared.Char.{Char}
use Rattle.json_character.specs.declared.Char.TheVariants.{One, Close, Bad}
use Rattle.json_character.specs.Char.{char_of}
use Rattle.json_text.specs.Decoded.{Parsed, push, by_char, read_chars, decoded, is_text, same_text}
use Rattle.json_text.specs.Decoded.Parsed.{ok, none}
use Rattle.json_character.specs.Grammar.{Character}
use Rattle.json_text.specs.Grammar.{Chars}
use Rattle.json_character.proofs.Sound.{Says, char_says}
use Rattle.json_character.proofs.Complete.{char_reads, quotation_mark}
use Rattle.json_text.proofs.Texts.{unroll}

pub complete : {t r d : List ℕ} → Chars t r d → decoded t ≡ ok d r
complete (Chars.close {r = r}) = unroll (0x22 ∷ r) ∙ rw (quotation_mark r)
complete (Chars.more {t = t} x y) = let k = char_reads x in unroll t ∙ rw (k.says, k.rest, complete y)

abbrev CharsIf : List ℕ → Parsed (List ℕ) → Type 0
CharsIf t (ok d r) = Chars t r d
CharsIf t none = Unit {0}

sound_within : (n : ℕ) (t : List ℕ) → CharsIf t (read_chars n t)
unfolding read_chars
sound_within zero t = tt
sound_within (suc n) t = go (λ u. sound_within n u) (char_of t) (char_says t)
  where
    then : (c w : ℕ) → Character t (drop (1 + w) t) c → (p : Parsed (List ℕ)) → CharsIf (drop (1 + w) t) p → CharsIf t (push c p)
    then c w x (ok d r) y = Chars.more x y
    then c w x none y = tt

    go : ((u : List ℕ) → CharsIf u (read_chars n u)) → (ch : Char) → Says t ch → CharsIf t (by_char (λ u. read_chars n u) ch t)
    go more (One c w) h = then c w h.1 (read_chars n (drop (1 + w) t)) (more (drop (1 + w) t))
    go more Close h = rw h Chars.close
    go more Bad h = tt

pub sound : (t r d : List ℕ) → decoded t ≡ ok d r → Chars t r d
unfolding decoded
sound t r d e = subst (λ (p : Parsed (List ℕ)). CharsIf t p) e (sound_within (length t) t)

-- a text has one meaning
pub once : {t r d r' d' : List ℕ} → Chars t r d → Chars t r' d' → (r ≡ r') × (d ≡ d')
once {t} {r} {d} {r'} {d'} x y =
    let e : ok d r ≡ ok d' r' = sym (complete x) ∙ complete y in
    (cc, cc)

-- a text that is not read has none
pub refused : {t r d : List ℕ} → decoded t ≡ none → Chars t r d → ⊥
refused {t} {r} {d} e x =
    let f : ok d r ≡ none = sym (complete x) ∙ e in
    let z : ◌≡◌ {A = ℕ} 0 1 = cc in
    omega arith

-- what the two comparisons say
pub named : (t n : List ℕ) → is_text (decoded t) n ≡ true → (r : List ℕ) × Chars t r n
named t n = go (decoded t) refl
  where
    go : (p : Parsed (List ℕ)) → decoded t ≡ p → is_text p n ≡ true → (r : List ℕ) × Chars t r n
    go (ok d r) e h = (r, sound t r n (e ∙ ap (λ (x : List ℕ). ok x r) (same_true d n h)))
    go none e h = absurd (subst T (sym h) tt)

pub named' : {t r n : List ℕ} → Chars t r n → is_text (decoded t) n ≡ true
named' {n = n} x = rw (complete x) (same_self n)

pub alike : (t u : List ℕ) → same_text (decoded t) (decoded u) ≡ true → (d r r' : List ℕ) × Chars t r d × Chars u r' d
alike t u = go (decoded t) refl
  where
    go : (p : Parsed (List ℕ)) → decoded t ≡ p → same_text p (decoded u) ≡ true → (d r r' : List ℕ) × Chars t r d × Chars u r' d
    go (ok d r) e h = let k = named u d h in (d, r, k.0, sound t r d e, k.1)
    go none e h = absurd (subst T (sym h) tt)

pub alike' : {t u r r' d : List ℕ} → Chars t r d → Chars u r' d → same_text (decoded t) (decoded u) ≡ true
alike' x y = rw (complete x) (named' y)
