-- The pieces of a status are its line, and those of all statuses their lines.
-- Assumes nothing.
use Rattle.basis.proofs.Std.{◌≡◌, refl, sym, ap, ◌∙◌, List, [], ◌∷◌, ◌++◌, append_assoc, append-nil, map, ℕ, suc, ◌+◌, ◌*◌, ◌/◌, ◌^◌, ◌<◌, add-zero, zero-add, arith, ne_eqb, ℤ, sub_ℕ, length, get_or, length-map, bool_cases}
use Rattle.label.specs.Label.{text_of}
use Rattle.number.specs.Decimal.{digits, decimal_of}
use Rattle.output.specs.Put.{concat}
use Rattle.week_count.specs.declared.Figures.{Figures}
use Rattle.week_count.specs.Values.{is_of, values_of}
use Rattle.week_count.specs.Figures.{figures_of, no_figures}
use Rattle.week_count.specs.Middle.{middle_of}
use Rattle.week_count.proofs.Starts.{count_is}
use Rattle.week_tally.specs.Tally.{Status as Kept}
use Rattle.week_tally.specs.Noted.{no_status}
use Rattle.week_text.specs.Pieces.{difference_pieces, figure_pieces, line_pieces, lines_to}
use Rattle.week_promise.specs.Tally.{Status}
use Rattle.week_promise.specs.Figures.{sum}
use Rattle.week_promise.specs.Report.{line_of, lines_of}
use Rattle.week_promise.proofs.Integers.{lowered, difference_text}
use Rattle.week_promise.proofs.Folds.{least_of, most_of, sum_of, middle_of_lem}

pub concat_append : (bs cs : List (List ℕ)) → concat (bs ++ cs) ≡ concat bs ++ concat cs
concat_append [] cs = refl
concat_append (b ∷ bs) cs = ap (λ (l : List ℕ). b ++ l) (concat_append bs cs) ∙ sym (append_assoc b (concat bs) (concat cs))

-- a status that is kept, with these values
abbrev pub plain : Kept → List ℤ → Status
plain f zs = record { component = text_of f.component; code = text_of f.code; name = text_of f.name; values = zs; nulls = f.nulls }

abbrev tail : ℤ → ℤ → ℤ → ℤ → List ℕ
tail a b c d = 9 ∷ (decimal_of a ++ (9 ∷ (decimal_of b ++ (9 ∷ (decimal_of c ++ (9 ∷ (decimal_of d ++ (10 ∷ []))))))))

tail_alike : {a b c d x y z u : ℤ} → a ≡ x → b ≡ y → c ≡ z → d ≡ u → tail a b c d ≡ tail x y z u
tail_alike p q r s = rw (p, q, r, s)

joined : (p q r s : List ℕ) → ((9 ∷ p) ++ (9 ∷ q)) ++ (((9 ∷ r) ++ (9 ∷ s)) ++ (10 ∷ [])) ≡ 9 ∷ (p ++ (9 ∷ (q ++ (9 ∷ (r ++ (9 ∷ (s ++ (10 ∷ []))))))))
joined p q r s =
    ap (λ (l : List ℕ). 9 ∷ l)
    (append_assoc p (9 ∷ q) (9 ∷ ((r ++ (9 ∷ s)) ++ (10 ∷ []))) ∙ ap (λ (l : List ℕ). p ++ (9 ∷ (q ++ (9 ∷ l)))) (append_assoc r (9 ∷ s) (10 ∷ [])))

parts : {a b c d p q r s : List ℕ} → a ≡ p → b ≡ q → c ≡ r → d ≡ s → (a ++ b) ++ ((c ++ d) ++ (10 ∷ [])) ≡ (p ++ q) ++ ((r ++ s) ++ (10 ∷ []))
parts e f g h = rw (e, f, g, h)

both_parts : {p q x y : List ℕ} → p ≡ x → q ≡ y → p ++ q ≡ x ++ y
both_parts e f = rw (e, f)

four_texts : (a b c d : List (List ℕ)) → concat ((a ++ b) ++ ((c ++ d) ++ ((10 ∷ []) ∷ []))) ≡ (concat a ++ concat b) ++ ((concat c ++ concat d) ++ (10 ∷ []))
four_texts a b c d =
    concat_append (a ++ b) ((c ++ d) ++ ((10 ∷ []) ∷ []))
    ∙ both_parts (concat_append a b) (concat_append (c ++ d) ((10 ∷ []) ∷ []) ∙ ap (λ (l : List ℕ). l ++ (10 ∷ [])) (concat_append c d))

figures_text : (f : Figures) (m : ℕ) → (f.count ≡ 0 → ⊥)
    → concat (figure_pieces f m) ≡ tail (lowered f.least) (lowered f.most) (sub_ℕ f.sum (f.count * 2 ^ 31)) (lowered m)
unfolding figure_pieces
figures_text f m n =
    rw (ne_eqb f.count 0 n)
    (four_texts (difference_pieces f.least (2 ^ 31)) (difference_pieces f.most (2 ^ 31)) (difference_pieces f.sum (f.count * 2 ^ 31)) (difference_pieces m (2 ^ 31))
    ∙ parts (difference_text f.least (2 ^ 31)) (difference_text f.most (2 ^ 31)) (difference_text f.sum (f.count * 2 ^ 31)) (difference_text m (2 ^ 31))
    ∙ joined (decimal_of (lowered f.least)) (decimal_of (lowered f.most)) (decimal_of (sub_ℕ f.sum (f.count * 2 ^ 31))) (decimal_of (lowered m)))

abbrev shape : Kept → List ℕ → List ℕ → List ℕ
shape s n t = text_of s.component ++ (9 ∷ (text_of s.code ++ (9 ∷ (text_of s.name ++ (9 ∷ (n ++ (9 ∷ (digits s.nulls ++ t))))))))

line_text : (s : Kept) (bs : List ℕ) → get_or bs 0 0 < 2 ^ 32 → concat (line_pieces s bs) ≡ line_of (plain s (map lowered bs))
unfolding line_pieces figure_pieces figures_of line_of
line_text s [] h = refl
line_text s (b ∷ bs) h =
    let f = figures_of no_figures (b ∷ bs) in
    let n : f.count ≡ suc (length bs) = omega (arith, count_is no_figures (b ∷ bs)) in
    let k : f.count ≡ length (map lowered (b ∷ bs)) = n ∙ sym (length-map (b ∷ bs) lowered) in
    let m = middle_of ((f.count + 1) / 2) (b ∷ bs) in
    ap (λ (i : ℕ). shape s (digits i) (concat (figure_pieces f m))) k
    ∙ ap (shape s (digits (length (map lowered (b ∷ bs)))))
    (figures_text f m (λ q. omega (arith, q, n))
    ∙ tail_alike (least_of b bs h) (most_of b bs h) (sum_of (b ∷ bs)) (middle_of_lem b bs ((f.count + 1) / 2) (ap (λ (i : ℕ). (i + 1) / 2) n)))

head_small : (p : ℕ) (vs : List ℕ) → get_or (values_of p vs) 0 0 < 2 ^ 32
unfolding values_of
head_small p [] = omega arith
head_small p (v ∷ vs) =
    bool_cases (is_of p v)
    (λ e. rw e (omega arith))
    (λ e. rw e (head_small p vs))

-- the statuses from place p on, each with its values
unfoldable pub grouped_from : ℕ → List Kept → List ℕ → List Status
grouped_from p [] vs = []
grouped_from p (f ∷ fs) vs = plain f (map lowered (values_of p vs)) ∷ grouped_from (suc p) fs vs

lines_from : (gs : List Kept) (vs : List ℕ) (fs : List Kept) (p : ℕ) → ((i : ℕ) → get_or gs (p + i) no_status ≡ get_or fs i no_status)
    → concat (lines_to gs vs (p + length fs)) ≡ concat (lines_to gs vs p) ++ lines_of (grouped_from p fs vs)
unfolding lines_to lines_of grouped_from
lines_from gs vs [] p h = ap (λ (n : ℕ). concat (lines_to gs vs n)) (add-zero p) ∙ sym (append-nil (concat (lines_to gs vs p)))
lines_from gs vs (f ∷ fs) p h =
    let e : p + suc (length fs) ≡ suc p + length fs = omega arith in
    let here : get_or gs p no_status ≡ f = ap (λ (n : ℕ). get_or gs n no_status) (sym (add-zero p)) ∙ h 0 in
    let z = plain f (map lowered (values_of p vs)) in
    let one : concat (lines_to gs vs (suc p)) ≡ concat (lines_to gs vs p) ++ line_of z =
    concat_append (lines_to gs vs p) (line_pieces (get_or gs p no_status) (values_of p vs))
    ∙ ap (λ (g : Kept). concat (lines_to gs vs p) ++ concat (line_pieces g (values_of p vs))) here
    ∙ ap (λ (l : List ℕ). concat (lines_to gs vs p) ++ l) (line_text f (values_of p vs) (head_small p vs)) in
    ap (λ (n : ℕ). concat (lines_to gs vs n)) e
    ∙ lines_from gs vs fs (suc p) (λ i. ap (λ (n : ℕ). get_or gs n no_status) (omega arith) ∙ h (suc i))
    ∙ ap (λ (l : List ℕ). l ++ lines_of (grouped_from (suc p) fs vs)) one
    ∙ append_assoc (concat (lines_to gs vs p)) (line_of z) (lines_of (grouped_from (suc p) fs vs))

pub lines_text : (fs : List Kept) (vs : List ℕ) → concat (lines_to fs vs (length fs)) ≡ lines_of (grouped_from 0 fs vs)
unfolding lines_to
lines_text fs vs =
    ap (λ (n : ℕ). concat (lines_to fs vs n)) (sym (zero-add (length fs)))
    ∙ lines_from fs vs fs 0 (λ i. ap (λ (n : ℕ). get_or fs n no_status) (zero-add i))
