-- How long a report can be.
-- Assumes nothing.
use Rattle.basis.proofs.Std.{◌≡◌, ap, ◌∙◌, Bool, true, false, ⊎_elim, List, [], ◌∷◌, ◌++◌, append-nil, ℕ, zero, suc, ◌+◌, ◌-◌, ◌*◌, ◌/◌, ◌^◌, ◌≤◌, ◌<◌, arith, le-leb, lt-leb, eq-eqb, ne_eqb, ltb, length, get_or, drop, length-append, length-take, get_or-take, get_or-drop, pick, bool_cases, lt_or_ge, eq_or_ne}
use Rattle.label.specs.Label.{text_of}
use Rattle.number.specs.Decimal.{digits}
use Rattle.number.proofs.Digits.{digits_length}
use Rattle.output.specs.Put.{concat}
use Rattle.week_words.specs.Packed.{label_from}
use Rattle.week_count.specs.declared.Figures.{Figures}
use Rattle.week_count.specs.Values.{is_of, value_in, values_of}
use Rattle.week_count.specs.Figures.{figures_of, no_figures, with_value}
use Rattle.week_count.specs.Middle.{middle_of, has_rank, first_such}
use Rattle.week_count.proofs.Starts.{count_is, values_most}
use Rattle.week_tally.specs.Tally.{Status}
use Rattle.week_tally.specs.Words.{status_in, row_in, statuses_in, values_in, tally_of}
use Rattle.week_tally.specs.Noted.{no_status}
use Rattle.week_tally.proofs.Stores.{tally_of_lem, tally_over, statuses_count, values_count, status_at_lem}
use Rattle.week_text.specs.Pieces.{difference_pieces, end_pieces, rest_pieces, figure_pieces, line_pieces, lines_to, report_pieces}
use Rattle.week_promise.proofs.Lines.{concat_append}

abbrev long : List (List ℕ) → ℕ
long ps = length (concat ps)

long_append : (bs cs : List (List ℕ)) → long (bs ++ cs) ≡ long bs + long cs
long_append bs cs = ap length (concat_append bs cs) ∙ length-append (concat bs) (concat cs)

difference_long : (a b : ℕ) → a < 10 ^ 20 → b < 10 ^ 20 → long (difference_pieces a b) ≤ 22
unfolding difference_pieces
difference_long a b g h =
    ⊎_elim
    (λ (l : a < b). rw (lt-leb b a l, append-nil (digits (b - a))) (omega (arith, digits_length 19 (b - a) (omega arith))))
    (λ (l : b ≤ a). rw (le-leb b a l, append-nil (digits (a - b))) (omega (arith, digits_length 19 (a - b) (omega arith))))
    (lt_or_ge a b)

data Small : List ℕ → Type 0 where
  none : Small []
  more : {v : ℕ} {vs : List ℕ} → v < 2 ^ 32 → Small vs → Small (v ∷ vs)

small_values : (p : ℕ) (ws : List ℕ) → Small (values_of p ws)
unfolding values_of
small_values p [] = none
small_values p (w ∷ ws) =
    bool_cases (is_of p w)
    (λ e. rw e (more {v = value_in w} (omega arith) (small_values p ws)))
    (λ e. rw e (small_values p ws))

pick_less : (b : Bool) {x y n : ℕ} → x < n → y < n → pick b x y < n
pick_less true g h = g
pick_less false g h = h

least_less : (f : Figures) {vs : List ℕ} → Small vs → f.least < 2 ^ 32 → (figures_of f vs).least < 2 ^ 32
unfolding figures_of
least_less f none h = h
least_less f (more {v} g s) h = least_less (with_value f v) s (pick_less (ltb v f.least) g h)

most_less : (f : Figures) {vs : List ℕ} → Small vs → f.most < 2 ^ 32 → (figures_of f vs).most < 2 ^ 32
unfolding figures_of
most_less f none h = h
most_less f (more {v} g s) h = most_less (with_value f v) s (pick_less (ltb f.most v) g h)

sum_less : (f : Figures) {vs : List ℕ} → Small vs → (figures_of f vs).sum ≤ f.sum + length vs * 2 ^ 32
unfolding figures_of
sum_less f none = omega arith
sum_less f (more {v} {vs} g s) = omega (arith, sum_less (with_value f v) s)

first_less : (f : ℕ → Bool) (z : ℕ) {vs : List ℕ} → z < 2 ^ 32 → Small vs → first_such f z vs < 2 ^ 32
unfolding first_such
first_less f z h none = h
first_less f z h (more {v} g s) = pick_less (f v) g (first_less f z h s)

head_less : {vs : List ℕ} → Small vs → get_or vs 0 0 < 2 ^ 32
head_less none = omega arith
head_less (more g s) = g

middle_less : (k : ℕ) {vs : List ℕ} → Small vs → middle_of k vs < 2 ^ 32
unfolding middle_of
middle_less k {vs} s = first_less (has_rank k vs) (get_or vs 0 0) (head_less s) s

figures_long : (f : Figures) (m : ℕ) → f.least < 2 ^ 32 → f.most < 2 ^ 32 → f.sum < 10 ^ 20 → f.count ≤ 4000 → m < 2 ^ 32 → long (figure_pieces f m) ≤ 89
unfolding figure_pieces
figures_long f m a b c d e =
    ⊎_elim
    (λ (h : f.count ≡ 0). rw (eq-eqb f.count 0 h) (omega arith))
    (λ (h : f.count ≡ 0 → ⊥).
    rw (ne_eqb f.count 0 h)
    (omega (
      arith,
      long_append (end_pieces f) (rest_pieces f m),
      long_append (difference_pieces f.least (2 ^ 31)) (difference_pieces f.most (2 ^ 31)),
      long_append (difference_pieces f.sum (f.count * 2 ^ 31) ++ difference_pieces m (2 ^ 31)) ((10 ∷ []) ∷ []),
      long_append (difference_pieces f.sum (f.count * 2 ^ 31)) (difference_pieces m (2 ^ 31)),
      difference_long f.least (2 ^ 31) (omega arith) (omega arith),
      difference_long f.most (2 ^ 31) (omega arith) (omega arith),
      difference_long f.sum (f.count * 2 ^ 31) c (omega arith),
      difference_long m (2 ^ 31) (omega arith) (omega arith),
    )))
    (eq_or_ne f.count 0)

label_long : (a b c d n : ℕ) → length (text_of (label_from a b c d n)) ≤ 32
label_long a b c d n = simp length-take (omega arith)

record Short (s : Status) : Type 0 where
  component : length (text_of s.component) ≤ 32
  code : length (text_of s.code) ≤ 32
  name : length (text_of s.name) ≤ 32
  nulls : s.nulls < 2 ^ 64

six : (a b c d e : List ℕ) (ps : List (List ℕ)) → length a ≤ 32 → length b ≤ 32 → length c ≤ 32 → length d ≤ 20 → length e ≤ 20 → long ps ≤ 89
    → length (a ++ (9 ∷ (b ++ (9 ∷ (c ++ (9 ∷ (d ++ (9 ∷ (e ++ concat ps))))))))) ≤ 229
six a b c d e ps f g h i j k = simp length-append (omega arith)

line_long : (s : Status) (vs : List ℕ) → Short s → Small vs → length vs ≤ 4000 → long (line_pieces s vs) ≤ 229
unfolding line_pieces
line_long s vs h k l =
    let f = figures_of no_figures vs in
    let m = middle_of ((f.count + 1) / 2) vs in
    let n = count_is no_figures vs in
    let q = figures_long f m (least_less no_figures k (omega arith)) (most_less no_figures k (omega arith)) (omega (arith, sum_less no_figures k)) (omega (arith, n)) (middle_less ((f.count + 1) / 2) k) in
    six (text_of s.component) (text_of s.code) (text_of s.name) (digits f.count) (digits s.nulls) (figure_pieces f m)
    h.component h.code h.name (digits_length 19 f.count (omega (arith, n))) (digits_length 19 s.nulls (omega (arith, h.nulls))) q

lines_long : (ss : List Status) (vs : List ℕ) (n : ℕ) → ((i : ℕ) → i < n → Short (get_or ss i no_status)) → length vs ≤ 4000 → long (lines_to ss vs n) ≤ n * 229
unfolding lines_to
lines_long ss vs zero h l = omega arith
lines_long ss vs (suc n) h l =
    omega (
      arith,
      long_append (lines_to ss vs n) (line_pieces (get_or ss n no_status) (values_of n vs)),
      lines_long ss vs n (λ i g. h i (omega arith)) l,
      line_long (get_or ss n no_status) (values_of n vs) (h n (omega arith)) (small_values n vs) (omega (arith, values_most n vs)),
    )

module _ (ws : List ℕ) (e : length ws ≡ 5027) (w : (i : ℕ) → get_or ws i 0 < 2 ^ 64) where
  status_short : (p : ℕ) → Short (status_in ws p)
  status_short p =
      let row = row_in ws p in
      let n : get_or row 15 0 ≡ get_or ws (3 + 16 * p + 15) 0 = get_or-take 16 (drop (3 + 16 * p) ws) 15 0 (omega arith) ∙ get_or-drop (3 + 16 * p) ws 15 0 in
      record {
        component = label_long (get_or row 0 0) (get_or row 1 0) (get_or row 2 0) (get_or row 3 0) (get_or row 4 0);
        code = label_long (get_or row 5 0) (get_or row 6 0) (get_or row 7 0) (get_or row 8 0) (get_or row 9 0);
        name = label_long (get_or row 10 0) (get_or row 11 0) (get_or row 12 0) (get_or row 13 0) (get_or row 14 0);
        nulls = rw n (w (3 + 16 * p + 15));
      }

  kept_short : (i : ℕ) → i < length (statuses_in ws) → Short (get_or (statuses_in ws) i no_status)
  kept_short i h = rw (status_at_lem ws i no_status (omega (arith, statuses_count ws))) (status_short i)

  pub room : long (report_pieces (tally_of ws)) ≤ 16384
  unfolding report_pieces
  room =
      ⊎_elim
      (λ (h : 0 < get_or ws 0 0). rw (tally_over ws h) (omega arith))
      (λ (h : get_or ws 0 0 ≤ 0).
      let z : get_or ws 0 0 ≡ 0 = omega arith in
      rw (tally_of_lem ws z)
      (omega (
        arith,
        statuses_count ws,
        lines_long (statuses_in ws) (values_in ws) (length (statuses_in ws)) kept_short (omega (arith, values_count ws e)),
      )))
      (lt_or_ge 0 (get_or ws 0 0))
