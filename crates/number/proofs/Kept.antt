-- The claims about the strings that are used are kept.
-- Assumes nothing.
use Rattle.basis.proofs.Std.{◌≡◌, refl, true, not, List, [], ◌∷◌, ℕ, zero, suc, ◌<◌, arith, leb, eqb, length, get_or, le-leb, leb-true, ne_eqb, eqb-false, both_true}
use Rattle.number.specs.Alphabet.{in_alphabet, all_in_alphabet, is_label}
use Rattle.number.specs.Claims.{OfAlphabet, Used, Claims}
use Rattle.number.proofs.Alphabet.{not_taken, label}

byte_of : (b : ℕ) → in_alphabet b ≡ true → OfAlphabet b
byte_of b e =
    let low = both_true (leb 0x20 b) _ e in
    let high = both_true (leb b 0x7E) _ low.1 in
    let marks = both_true (not (eqb b 34)) _ high.1 in
    record {
      least = leb-true 0x20 b low.0;
      most = leb-true b 0x7E high.0;
      no_quote = λ q. eqb-false b 34 (not_taken (eqb b 34) marks.0) (cc);
      no_backslash = λ q. eqb-false b 92 (not_taken (eqb b 92) marks.1) (cc);
    }

byte_in : (b : ℕ) → OfAlphabet b → in_alphabet b ≡ true
byte_in b o =
    rw (le-leb 0x20 b o.least, le-leb b 0x7E o.most, ne_eqb b 34 (λ e. o.no_quote (cc)), ne_eqb b 92 (λ e. o.no_backslash (cc)))

each_of : (s : List ℕ) → all_in_alphabet s ≡ true → (i : ℕ) → i < length s → OfAlphabet (get_or s i 0)
each_of [] e i h = absurd (omega arith)
each_of (b ∷ s) e zero h = byte_of b (both_true (in_alphabet b) (all_in_alphabet s) e).0
each_of (b ∷ s) e (suc i) h = each_of s (both_true (in_alphabet b) (all_in_alphabet s) e).1 i (omega arith)

all_in : (s : List ℕ) → ((i : ℕ) → i < length s → OfAlphabet (get_or s i 0)) → all_in_alphabet s ≡ true
all_in [] f = refl
all_in (b ∷ s) f = rw (byte_in b (f 0 (omega arith))) (all_in s (λ i h. f (suc i) (omega arith)))

used : (s : List ℕ) → is_label s ≡ true → Used s
used s e =
    let some = both_true (leb 1 (length s)) _ e in
    let short = both_true (leb (length s) 32) (all_in_alphabet s) some.1 in
    record { some = leb-true 1 (length s) some.0; short = leb-true (length s) 32 short.0; each = each_of s short.1 }

pub kept : Claims
kept = record { used = used; label = λ s u. label s u.some u.short (all_in s u.each) }
