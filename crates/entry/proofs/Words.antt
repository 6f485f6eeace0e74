-- A record's bytes are those of its two words.
-- Assumes nothing.
use Rattle.basis.proofs.Std.{◌≡◌, refl, sym, ap, ap₂, subst, ◌∙◌, List, [], ◌∷◌, ◌++◌, ℕ, ◌+◌, ◌-◌, ◌*◌, ◌/◌, ◌%◌, ◌^◌, ◌<◌, mod-eq_of_lt, arith, length, take, drop, get_or, replicate, take-append-drop, length-drop, take_all, length-take-le}
use lib.Pow.{shr-shr}
use Rattle.bits.specs.Fields.{pushed, field_of, total, joined, split, bytes_of as bytes_in, number_of}
use Rattle.bits.proofs.Fields.{split_two, joined_behind, joined_lt}
use Rattle.bits.proofs.Bytes.{number_two, number_lt}
use Rattle.entry.specs.declared.Entry.{Entry}
use Rattle.entry.specs.Layout.{bytes_of, entry_of, widths}

abbrev first_widths : List ℕ
first_widths = 3 ∷ 2 ∷ 6 ∷ 6 ∷ 47 ∷ []

abbrev last_widths : List ℕ
last_widths = 1 ∷ 32 ∷ 31 ∷ []

abbrev first_word : Entry → ℕ
first_word e = joined 0 first_widths (e.link ∷ e.kind ∷ e.item ∷ e.flags ∷ e.time / 2 ∷ [])

abbrev last_word : Entry → ℕ
last_word e = joined 0 last_widths (e.time ∷ e.value ∷ e.sequence ∷ [])

-- the time stands in both: all but its last bit, and that bit
halves : (n t : ℕ) → pushed n 48 t ≡ pushed (pushed n 47 (t / 2)) 1 t
halves n t = omega arith

abbrev head : Entry → ℕ
head e = joined 0 (3 ∷ 2 ∷ 6 ∷ 6 ∷ []) (e.link ∷ e.kind ∷ e.item ∷ e.flags ∷ [])

pub entry_bytes : (e : Entry) → bytes_of e ≡ bytes_in 8 (first_word e) ++ bytes_in 8 (last_word e)
unfolding bytes_of
entry_bytes e =
    let behind = e.time ∷ e.value ∷ e.sequence ∷ [] in
    ap (λ (n : ℕ). bytes_in 16 (joined n (32 ∷ 31 ∷ []) (e.value ∷ e.sequence ∷ []))) (halves (head e) e.time)
    ∙ ap (bytes_in 16) (joined_behind last_widths behind refl (first_word e))
    ∙ split_two (replicate 8 8) (replicate 8 8) (first_word e) (last_word e) (joined_lt last_widths behind refl)

-- the seven fields, where the time is in two parts
abbrev whole : List ℕ → List ℕ
whole vs = get_or vs 0 0 ∷ get_or vs 1 0 ∷ get_or vs 2 0 ∷ get_or vs 3 0 ∷ (get_or vs 4 0 * 2 + get_or vs 5 0) ∷ get_or vs 6 0 ∷ get_or vs 7 0 ∷ []

apart : (x : ℕ) → x % 2 ^ 48 ≡ x / 2 % 2 ^ 47 * 2 + x % 2
apart x = omega arith

time_parts : (n : ℕ) → field_of n 63 48 ≡ field_of n 64 47 * 2 + field_of n 63 1
time_parts n = apart (n / 2 ^ 63) ∙ ap (λ (x : ℕ). x % 2 ^ 47 * 2 + n / 2 ^ 63 % 2) (shr-shr n 63 1)

two_words : (h l : ℕ) → l < 2 ^ 64 → split widths (h * 2 ^ 64 + l) ≡ whole (split first_widths h ++ split last_widths l)
two_words h l f =
    let n = h * 2 ^ 64 + l in
    ap (λ (x : ℕ). field_of n 125 3 ∷ field_of n 123 2 ∷ field_of n 117 6 ∷ field_of n 111 6 ∷ x ∷ field_of n 31 32 ∷ field_of n 0 31 ∷ []) (time_parts n)
    ∙ ap whole (split_two first_widths last_widths h l f)

-- the record of the fields that stand in two words
pub from_words : (h l : ℕ) {link kind item flags time value sequence : ℕ} → l < 2 ^ 64
    → link ≡ field_of h 61 3 → kind ≡ field_of h 59 2 → item ≡ field_of h 53 6 → flags ≡ field_of h 47 6 → time ≡ field_of h 0 47 * 2 + field_of l 63 1
    → value ≡ field_of l 31 32 → sequence ≡ field_of l 0 31
    → ◌≡◌ {A = Entry} (record { link = link; kind = kind; item = item; flags = flags; time = time; value = value; sequence = sequence }) (entry_of (split widths (h * 2 ^ 64 + l)))
from_words h l f p q r s t u v =
    (λ j. record { link = p j; kind = q j; item = r j; flags = s j; time = t j; value = u j; sequence = v j })
    ∙ ap entry_of (sym (two_words h l f))

-- sixteen bytes say two words side by side
pub sixteen : (b : List ℕ) → length b ≡ 16 → number_of b ≡ number_of (take 8 b) % 2 ^ 64 * 2 ^ 64 + number_of (take 8 (drop 8 b)) % 2 ^ 64
sixteen b e =
    let l : length (drop 8 b) ≡ 8 = length-drop 8 b ∙ ap (λ (n : ℕ). n - 8) e in
    let k : length (take 8 b) ≡ 8 = length-take-le 8 b (omega arith) in
    let t : take 8 (drop 8 b) ≡ drop 8 b = take_all 8 (drop 8 b) (omega arith) in
    ap number_of (sym (take-append-drop 8 b))
    ∙ number_two (take 8 b) (drop 8 b)
    ∙ ap (λ (n : ℕ). number_of (take 8 b) * 2 ^ total (replicate n 8) + number_of (drop 8 b)) l
    ∙ ap₂ (λ (x y : ℕ). x * 2 ^ 64 + y) (sym (eight (take 8 b) k)) (sym (eight (drop 8 b) l) ∙ ap (λ (s : List ℕ). number_of s % 2 ^ 64) (sym t))
  where
    eight : (s : List ℕ) → length s ≡ 8 → number_of s % 2 ^ 64 ≡ number_of s
    eight s h = mod-eq_of_lt (subst (λ (n : ℕ). number_of s < 2 ^ total (replicate n 8)) h (number_lt s))
