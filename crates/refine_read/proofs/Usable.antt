-- The strings that pass the tests of document 01 are ASCII and no longer than 36.
-- Assumes nothing.
use Rattle.basis.proofs.Std.{ℕ, ◌≤◌, ◌<◌, arith, ◌≡◌, refl, true, [], ◌∷◌, ◌++◌, leb, ltb, length, lt-ltb, le-leb, leb-true, both_true}
use Rattle.number.specs.Alphabet.{in_alphabet, all_in_alphabet, is_label}
use Rattle.json_text.specs.Copied.{ascii}
use Rattle.machine.specs.Words.{Bytes}
use Rattle.refine_read.proofs.Words.{usable, Sure}

in_ascii : (b : ℕ) → in_alphabet b ≡ true → b < 128
in_ascii b e = let p = both_true (leb 0x20 b) _ e in let q = both_true (leb b 0x7E) _ p.1 in omega (arith, leb-true b 0x7E q.0)

pub alphabet_ascii : (d : Bytes) → all_in_alphabet d ≡ true → ascii d ≡ true
unfolding ascii
alphabet_ascii [] e = refl
alphabet_ascii (b ∷ d) e = let p = both_true (in_alphabet b) (all_in_alphabet d) e in rw (lt-ltb b 128 (in_ascii b p.0)) (alphabet_ascii d p.1)

pub ascii_append : (d e : Bytes) → ascii d ≡ true → ascii e ≡ true → ascii (d ++ e) ≡ true
unfolding ascii
ascii_append [] e p q = q
ascii_append (b ∷ d) e p q = let r = both_true (ltb b 128) (ascii d) p in rw r.0 (ascii_append d e r.1 q)

pub usable_of : (d : Bytes) → length d ≤ 36 → ascii d ≡ true → usable d ≡ true
usable_of d h e = rw (le-leb (length d) 36 h, e)

pub label_sure : Sure is_label
label_sure d e =
    let p = both_true (leb 1 (length d)) _ e in
    let q = both_true (leb (length d) 32) (all_in_alphabet d) p.1 in
    usable_of d (omega (arith, leb-true (length d) 32 q.0)) (alphabet_ascii d q.1)
