-- The reader accepts exactly the bytes of an allowed table and gives that table; equal tables exactly for equal bytes.
-- Assumes nothing.
use Rattle.basis.proofs.Std.{◌≡◌, refl, sym, ap, ap₂, subst, ◌∙◌, Bool, true, false, true≢false, List, [], ◌∷◌, map, ℕ, ◌-◌, ◌<◌, ltb, eqb, lit<, length, get_or, take, replicate, length-map, take_at, ltb-true, eqb-true, lt-ltb, eq-eqb, pick, bool_cases, both_true, both_of}
use Rattle.number.specs.Signed.{Signed16}
use Rattle.number.proofs.RoundTrip.{signed_word_16}
use Rattle.label.specs.Padded.{padded}
use Rattle.label.specs.Label.{label_of, no_label, text_of}
use Rattle.label.specs.Reading.{far}
use Rattle.table_item.specs.Item.{no_item}
use Rattle.table_whole.specs.declared.Laid.{Laid}
use Rattle.table_whole.specs.declared.TableRead.{TableRead}
use Rattle.table_whole.specs.declared.Verdict.TheVariants.{Accepted}
use Rattle.table_whole.specs.Table.{Row, Table}
use Rattle.table_whole.specs.Bytes.{table_bytes}
use Rattle.table_whole.specs.Allowed.{Every, NoRange, Allowed}
use Rattle.table_whole.specs.Allowed.Every.{none, more}
use Rattle.table_whole.specs.Memory.{item_of, row_of, memory_of, table_of}
use Rattle.table_whole.specs.Reading.{laid_out, own_names, is_whole, refused, read_table}
use Rattle.table_whole.specs.Reads.{Reads}
use Rattle.table_whole.specs.Reads.Reads.{reads, refuses}
use Rattle.table_whole.proofs.Sound.{sound}
use Rattle.table_whole.proofs.Complete.{laid_is, short, own_is}
use Rattle.table_whole.proofs.Kept.{text_label}

abbrev test : List ℕ → Bool
test s = is_whole (laid_out s).table (laid_out s).next (length s)

-- the bytes of an allowed table pass
passes : {edition : ℕ} (t : Table) → Allowed edition t → (s : List ℕ) → table_bytes edition t ≡ s → test s ≡ true
unfolding is_whole
passes t v s e =
    let l = laid_is t v s e in
    both_of (lt-ltb (length s) far (short t v s e))
    (both_of (eq-eqb (laid_out s).next (length s) (ap (λ (d : Laid). d.next) l)) (ap (λ (d : Laid). own_names d.table) l ∙ own_is t v))

accepted : (s : List ℕ) → test s ≡ true → read_table s ≡ record { table = (laid_out s).table; verdict = Accepted }
unfolding read_table
accepted s e = ap (λ (b : Bool). pick b (record { table = (laid_out s).table; verdict = Accepted }) refused) e

not_accepted : (s : List ℕ) → test s ≡ false → read_table s ≡ refused
unfolding read_table
not_accepted s e = ap (λ (b : Bool). pick b (record { table = (laid_out s).table; verdict = Accepted }) refused) e

pub reads_table : (s : List ℕ) → ((i : ℕ) → get_or s i 0 < 256) → Reads s (read_table s)
unfolding is_whole
reads_table s b =
    bool_cases (test s)
    (λ e.
    let p = both_true (ltb (length s) far) _ e in
    let q = both_true (eqb (laid_out s).next (length s)) _ p.1 in
    let r = sound s b (ltb-true (length s) far p.0) (eqb-true (laid_out s).next (length s) q.0) q.1 in
    let is : read_table s ≡ record { table = memory_of r.table; verdict = Accepted } =
    accepted s e ∙ (λ i. record { table = r.kept i; verdict = Accepted }) in
    subst (Reads s) (sym is) (reads r.allowed r.bytes))
    (λ e. subst (Reads s) (sym (not_accepted s e)) (refuses (λ edition t v w. true≢false (sym (passes t v s w) ∙ e))))

-- the same of the parts as they are laid out
pub reads_whole : (s : List ℕ) → ((i : ℕ) → get_or s i 0 < 256) → test s ≡ true → Reads s (record { table = (laid_out s).table; verdict = Accepted })
reads_whole s b e = subst (Reads s) (accepted s e) (reads_table s b)

pub reads_none : (s : List ℕ) → ((i : ℕ) → get_or s i 0 < 256) → test s ≡ false → Reads s refused
reads_none s b e = subst (Reads s) (not_accepted s e) (reads_table s b)

same_memory : {m n : ℕ} (t u : Table) → Allowed m t → Allowed n u → (s : List ℕ) → table_bytes m t ≡ s → table_bytes n u ≡ s → memory_of t ≡ memory_of u
same_memory t u v w s p q = ap (λ (d : Laid). d.table) (sym (laid_is t v s p) ∙ laid_is u w s q)

-- one result for each input
pub once : {s : List ℕ} {r q : TableRead} → Reads s r → Reads s q → r ≡ q
once {s} (reads {t = t} v p) (reads {t = u} w q) = λ i. record { table = same_memory t u v w s p q i; verdict = Accepted }
once (reads {edition = m} {t = t} v p) (refuses n) = absurd (n m t v p)
once (refuses n) (reads {edition = m} {t = t} v p) = absurd (n m t v p)
once (refuses n) (refuses m) = refl

row_back : (r : Row) → Signed16 r.lowest → Signed16 r.highest → row_of (item_of r) ≡ r
row_back r low high = λ i. record {
  component = r.component;
  priority = r.priority;
  category = r.category;
  code = text_label r.code i;
  name = text_label r.name i;
  lowest = signed_word_16 r.lowest low i;
  highest = signed_word_16 r.highest high i;
}

plain_back : (r : Row) → NoRange r → row_of (item_of r) ≡ r
plain_back r z = row_back r (subst Signed16 (sym z.lowest) (lit< tt)) (subst Signed16 (sym z.highest) (lit< tt))

-- a list that is kept, taken out again
taken_back : {A X : Type 0} {P : A → Type 0} (f : A → X) (g : X → A) → ((x : A) → P x → g (f x) ≡ x) → (n : ℕ) (z : X) (xs : List A) → Every P xs
    → map g (take (length xs) (padded n z (map f xs))) ≡ xs
taken_back {A} {X} {P} f g h n z xs v = ap (map g) (take_at (map f xs) (replicate (n - length (map f xs)) z) (length xs) (length-map xs f)) ∙ all xs v
  where
    all : (xs : List A) → Every P xs → map g (map f xs) ≡ xs
    all [] none = refl
    all (x ∷ xs) (more p ps) = ap₂ (λ (y : A) (l : List A). y ∷ l) (h x p) (all xs ps)

-- the table that is kept is the table
pub kept_table : {edition : ℕ} (t : Table) → Allowed edition t → table_of (memory_of t) ≡ t
kept_table t v = λ i. record {
  site = text_label t.site i;
  sxl = text_label t.sxl i;
  components = taken_back label_of text_of (λ x h. text_label x) 8 no_label t.components v.components i;
  alarms = taken_back item_of row_of (λ r h. plain_back r h.no_range) 32 no_item t.alarms v.alarms i;
  statuses = taken_back item_of row_of (λ r h. plain_back r h.no_range) 32 no_item t.statuses v.statuses i;
  commands = taken_back item_of row_of (λ r h. row_back r h.lowest h.highest) 16 no_item t.commands v.commands i;
}

-- two allowed tables of the same bytes are the same table
pub same_table : {m n : ℕ} (t u : Table) → Allowed m t → Allowed n u → table_bytes m t ≡ table_bytes n u → t ≡ u
same_table {m} {n} t u v w e = sym (kept_table t v) ∙ ap table_of (same_memory t u v w (table_bytes n u) e refl) ∙ kept_table u w
