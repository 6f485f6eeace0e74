-- The head that is read stands there with its counts within their limits; such a head that stands there is read.
-- Assumes nothing.
use Rattle.basis.proofs.Std.{◌≡◌, refl, sym, ap, ◌∙◌, true, false, List, [], ◌∷◌, ◌++◌, ℕ, ◌+◌, ◌≤◌, ◌<◌, arith, eqb, leb, lit<, length, get_or, take, drop, take-append-drop, eqb-true, leb-true, eq-eqb, le-leb, pick, both_true, both_of}
use Rattle.bits.specs.Fields.{field_of, joined, split, Within, bytes_of, number_of}
use Rattle.bits.specs.Fields.Within.{none, next}
use Rattle.label.proofs.Stands.{Stands}
use Rattle.table_row.specs.declared.Head.{Head}
use Rattle.table_row.specs.Head.{good_counts, good_first, good_second, no_head, first_head, head_of}
use Rattle.table_row.proofs.Heads.{first_bad, head_first, head_second, second_good}
use Rattle.table_whole.specs.Bytes.{head_bytes, count_widths}
use Rattle.table_whole.proofs.Fields.{first_sound, first_complete}

abbrev first_widths : List ℕ
first_widths = 4 ∷ 4 ∷ 6 ∷ 6 ∷ 4 ∷ []

abbrev second_widths : List ℕ
second_widths = 4 ∷ 4 ∷ 6 ∷ 6 ∷ 5 ∷ 7 ∷ []

-- the head of these counts, behind so many bytes
abbrev pub head_with : ℕ → ℕ → ℕ → ℕ → ℕ → Head
head_with size c a t k = record { components = c; alarms = a; statuses = t; commands = k; next = size }

abbrev pub size_of : ℕ → ℕ
size_of edition = pick (eqb edition 1) 3 4

abbrev pub bytes_with : ℕ → ℕ → ℕ → ℕ → ℕ → List ℕ
bytes_with edition c a t k =
    pick (eqb edition 1) (head_bytes 1 count_widths (c ∷ a ∷ t ∷ []) 4) (head_bytes 2 (count_widths ++ (5 ∷ [])) ((c ∷ a ∷ t ∷ []) ++ (k ∷ [])) 7)

-- the limits of the counts
pub record Limits (c a t k : ℕ) : Type 0 where
  pub fewest_components : 1 ≤ c
  pub most_components : c ≤ 8
  pub most_alarms : a ≤ 32
  pub most_statuses : t ≤ 32
  pub most_commands : k ≤ 16

-- edition 1 counts no commands
pub data Counts (k : ℕ) : ℕ → Type 0 where
  first : k ≡ 0 → Counts k 1
  second : Counts k 2

pub size_is : {k edition : ℕ} → Counts k edition → (c a t : ℕ) → length (bytes_with edition c a t k) ≡ size_of edition
size_is (first e) c a t = refl
size_is second c a t = refl

module _ (behind n : ℕ) where
  abbrev LimitsIn : ℕ → Type 0
  LimitsIn k = Limits (field_of n (behind + 12) 4) (field_of n (behind + 6) 6) (field_of n behind 6) k

  counts_check : (k : ℕ) → k ≤ 16 → good_counts behind n ≡ true → LimitsIn k
  unfolding good_counts
  counts_check k h e =
      let p3 = both_true (leb 1 (field_of n (behind + 12) 4)) _ e in
      let p4 = both_true (leb (field_of n (behind + 12) 4) 8) _ p3.1 in
      let p5 = both_true (leb (field_of n (behind + 6) 6) 32) _ p4.1 in
      record {
        fewest_components = leb-true 1 (field_of n (behind + 12) 4) p3.0;
        most_components = leb-true (field_of n (behind + 12) 4) 8 p4.0;
        most_alarms = leb-true (field_of n (behind + 6) 6) 32 p5.0;
        most_statuses = leb-true (field_of n behind 6) 32 p5.1;
        most_commands = h;
      }

  counts_pass : {k : ℕ} → LimitsIn k → good_counts behind n ≡ true
  unfolding good_counts
  counts_pass l =
      both_of (le-leb 1 (field_of n (behind + 12) 4) l.fewest_components)
      (both_of (le-leb (field_of n (behind + 12) 4) 8 l.most_components)
      (both_of (le-leb (field_of n (behind + 6) 6) 32 l.most_alarms)
      (le-leb (field_of n behind 6) 32 l.most_statuses)))

record First (n : ℕ) : Type 0 where
  edition : field_of n 20 4 ≡ 1
  zeros : field_of n 0 4 ≡ 0
  limits : LimitsIn 4 n 0

first_check : (n : ℕ) → good_first n ≡ true → First n
unfolding good_first
first_check n e =
    let p1 = both_true (eqb (field_of n 20 4) 1) _ e in
    let p2 = both_true (eqb (field_of n 0 4) 0) _ p1.1 in
    record {
      edition = eqb-true (field_of n 20 4) 1 p1.0;
      zeros = eqb-true (field_of n 0 4) 0 p2.0;
      limits = counts_check 4 n 0 (omega arith) p2.1;
    }

first_pass : (n : ℕ) → field_of n 20 4 ≡ 1 → field_of n 0 4 ≡ 0 → LimitsIn 4 n 0 → good_first n ≡ true
unfolding good_first
first_pass n e z l = both_of (eq-eqb (field_of n 20 4) 1 e) (both_of (eq-eqb (field_of n 0 4) 0 z) (counts_pass 4 n l))

-- another edition is not the first
first_not : (n : ℕ) → field_of n 20 4 ≡ 2 → good_first n ≡ false
unfolding good_first
first_not n e = simp e

record Second (n : ℕ) : Type 0 where
  edition : field_of n 28 4 ≡ 2
  zeros : field_of n 0 7 ≡ 0
  limits : LimitsIn 12 n (field_of n 7 5)

second_check : (n : ℕ) → good_second n ≡ true → Second n
unfolding good_second
second_check n e =
    let p1 = both_true (eqb (field_of n 28 4) 2) _ e in
    let p2 = both_true (eqb (field_of n 0 7) 0) _ p1.1 in
    let p3 = both_true (leb (field_of n 7 5) 16) _ p2.1 in
    record {
      edition = eqb-true (field_of n 28 4) 2 p1.0;
      zeros = eqb-true (field_of n 0 7) 0 p2.0;
      limits = counts_check 12 n (field_of n 7 5) (leb-true (field_of n 7 5) 16 p3.0) p3.1;
    }

second_pass : (n : ℕ) → field_of n 28 4 ≡ 2 → field_of n 0 7 ≡ 0 → LimitsIn 12 n (field_of n 7 5) → good_second n ≡ true
unfolding good_second
second_pass n e z l =
    both_of (eq-eqb (field_of n 28 4) 2 e)
    (both_of (eq-eqb (field_of n 0 7) 0 z)
    (both_of (le-leb (field_of n 7 5) 16 l.most_commands) (counts_pass 12 n l)))

-- a head was read
pub record HeadRead (s : List ℕ) : Type 0 where
  pub edition : ℕ
  pub components : ℕ
  pub alarms : ℕ
  pub statuses : ℕ
  pub commands : ℕ
  pub counts : Counts commands edition
  pub limits : Limits components alarms statuses commands
  pub stands : Stands s 0 (bytes_with edition components alarms statuses commands)
  pub is : head_of s ≡ head_with (size_of edition) components alarms statuses commands

module _ (s : List ℕ) (b : (i : ℕ) → get_or s i 0 < 256) where
  starting : (k : ℕ) (bs : List ℕ) → bs ≡ take k s → Stands s 0 bs
  starting k bs e = record { rest = drop k s; parts = sym (take-append-drop k s) ∙ ap (λ (l : List ℕ). l ++ drop k s) (sym e) }

  pub first_sound_head : 3 ≤ length s → good_first (number_of (take 3 s)) ≡ true → HeadRead s
  first_sound_head h g =
      let n = number_of (take 3 s) in
      let ok = first_check n g in
      let values : bytes_with 1 (field_of n 16 4) (field_of n 10 6) (field_of n 4 6) 0 ≡ bytes_of 3 (joined 0 first_widths (split first_widths n)) =
      (λ i. bytes_of 3 (joined 0 first_widths (sym ok.edition i ∷ field_of n 16 4 ∷ field_of n 10 6 ∷ field_of n 4 6 ∷ sym ok.zeros i ∷ []))) in
      record {
        edition = 1;
        components = field_of n 16 4;
        alarms = field_of n 10 6;
        statuses = field_of n 4 6;
        commands = 0;
        counts = first refl;
        limits = ok.limits;
        stands = starting 3 _ (values ∙ first_sound 3 first_widths refl s b h);
        is = head_first s h g;
      }

  pub second_sound_head : first_head s ≡ no_head → 4 ≤ length s → good_second (number_of (take 4 s)) ≡ true → HeadRead s
  second_sound_head bare h g =
      let n = number_of (take 4 s) in
      let ok = second_check n g in
      let values : bytes_with 2 (field_of n 24 4) (field_of n 18 6) (field_of n 12 6) (field_of n 7 5) ≡ bytes_of 4 (joined 0 second_widths (split second_widths n)) =
      (λ i. bytes_of 4 (joined 0 second_widths (sym ok.edition i ∷ field_of n 24 4 ∷ field_of n 18 6 ∷ field_of n 12 6 ∷ field_of n 7 5 ∷ sym ok.zeros i ∷ []))) in
      record {
        edition = 2;
        components = field_of n 24 4;
        alarms = field_of n 18 6;
        statuses = field_of n 12 6;
        commands = field_of n 7 5;
        counts = second;
        limits = ok.limits;
        stands = starting 4 _ (values ∙ first_sound 4 second_widths refl s b h);
        is = head_second s bare ∙ second_good s h g;
      }

-- the edition stands in the first bits of four bytes as of three
top : (s : List ℕ) → 4 ≤ length s → field_of (number_of (take 3 s)) 20 4 ≡ field_of (number_of (take 4 s)) 28 4
top [] h = absurd (omega arith)
top (x ∷ []) h = absurd (omega arith)
top (x ∷ y ∷ []) h = absurd (omega arith)
top (x ∷ y ∷ z ∷ []) h = absurd (omega arith)
top (x ∷ y ∷ z ∷ w ∷ s) h = omega arith

-- counts that fields are
limits_in : {c a t k : ℕ} (behind n : ℕ) → field_of n (behind + 12) 4 ≡ c → field_of n (behind + 6) 6 ≡ a → field_of n behind 6 ≡ t → Limits c a t k → LimitsIn behind n k
limits_in behind n ec ea et l =
    record {
      fewest_components = omega (arith, ec, l.fewest_components);
      most_components = omega (arith, ec, l.most_components);
      most_alarms = omega (arith, ea, l.most_alarms);
      most_statuses = omega (arith, et, l.most_statuses);
      most_commands = l.most_commands;
    }

module _ (s : List ℕ) (c a t : ℕ) where
  first_complete_head : Limits c a t 0 → Stands s 0 (bytes_with 1 c a t 0) → head_of s ≡ head_with 3 c a t 0
  first_complete_head l st =
      let h : 3 ≤ length s = omega (arith, ap length st.parts) in
      let l1 = l.most_components in
      let l2 = l.most_alarms in
      let l3 = l.most_statuses in
      let wc : c < 16 = omega arith in
      let wa : a < 64 = omega arith in
      let wt : t < 64 = omega arith in
      let w : Within first_widths (1 ∷ c ∷ a ∷ t ∷ 0 ∷ []) = next (lit< tt) (next wc (next wa (next wt (next (lit< tt) none)))) in
      let e = first_complete 3 first_widths refl s (1 ∷ c ∷ a ∷ t ∷ 0 ∷ []) w (ap (take 3) st.parts) in
      let n = number_of (take 3 s) in
      let ec : field_of n 16 4 ≡ c = ap (λ (x : List ℕ). get_or x 1 0) e in
      let ea : field_of n 10 6 ≡ a = ap (λ (x : List ℕ). get_or x 2 0) e in
      let et : field_of n 4 6 ≡ t = ap (λ (x : List ℕ). get_or x 3 0) e in
      head_first s h (first_pass n (ap (λ (x : List ℕ). get_or x 0 0) e) (ap (λ (x : List ℕ). get_or x 4 0) e) (limits_in 4 n ec ea et l))
      ∙ (λ i. head_with 3 (ec i) (ea i) (et i) 0)

  second_complete_head : (k : ℕ) → Limits c a t k → Stands s 0 (bytes_with 2 c a t k) → head_of s ≡ head_with 4 c a t k
  second_complete_head k l st =
      let h : 4 ≤ length s = omega (arith, ap length st.parts) in
      let l1 = l.most_components in
      let l2 = l.most_alarms in
      let l3 = l.most_statuses in
      let l4 = l.most_commands in
      let wc : c < 16 = omega arith in
      let wa : a < 64 = omega arith in
      let wt : t < 64 = omega arith in
      let wk : k < 32 = omega arith in
      let w : Within second_widths (2 ∷ c ∷ a ∷ t ∷ k ∷ 0 ∷ []) = next (lit< tt) (next wc (next wa (next wt (next wk (next (lit< tt) none))))) in
      let e = first_complete 4 second_widths refl s (2 ∷ c ∷ a ∷ t ∷ k ∷ 0 ∷ []) w (ap (take 4) st.parts) in
      let n = number_of (take 4 s) in
      let ee : field_of n 28 4 ≡ 2 = ap (λ (x : List ℕ). get_or x 0 0) e in
      let ec : field_of n 24 4 ≡ c = ap (λ (x : List ℕ). get_or x 1 0) e in
      let ea : field_of n 18 6 ≡ a = ap (λ (x : List ℕ). get_or x 2 0) e in
      let et : field_of n 12 6 ≡ t = ap (λ (x : List ℕ). get_or x 3 0) e in
      let ek : field_of n 7 5 ≡ k = ap (λ (x : List ℕ). get_or x 4 0) e in
      let three : field_of (number_of (take 3 s)) 20 4 ≡ 2 = top s h ∙ ee in
      let not : first_head s ≡ no_head = first_bad s (omega arith) (first_not (number_of (take 3 s)) three) in
      let lim : LimitsIn 12 n (field_of n 7 5) = limits_in 12 n ec ea et (record {
        fewest_components = l.fewest_components;
        most_components = l.most_components;
        most_alarms = l.most_alarms;
        most_statuses = l.most_statuses;
        most_commands = omega (arith, ek, l.most_commands);
      }) in
      head_second s not
      ∙ second_good s h (second_pass n ee (ap (λ (x : List ℕ). get_or x 5 0) e) lim)
      ∙ (λ i. head_with 4 (ec i) (ea i) (et i) (ek i))

pub head_complete : (s : List ℕ) {edition : ℕ} (c a t k : ℕ) → Counts k edition → Limits c a t k → Stands s 0 (bytes_with edition c a t k)
    → head_of s ≡ head_with (size_of edition) c a t k
head_complete s c a t k second l st = second_complete_head s c a t k l st
head_complete s c a t k (first e) l st =
    first_complete_head s c a t (record {
      fewest_components = l.fewest_components;
      most_components = l.most_components;
      most_alarms = l.most_alarms;
      most_statuses = l.most_statuses;
      most_commands = omega arith;
    }) st
    ∙ (λ i. head_with 3 c a t (sym e i))
