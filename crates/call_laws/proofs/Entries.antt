-- The fields of a StatusRequest that is not refused: labels, and 16 entries at most; and the entries told.
-- Assumes nothing.
use Rattle.basis.proofs.Std.{ℕ, zero, suc, ◌+◌, ◌≤◌, ◌<◌, ◌≡◌, refl, sym, ◌∙◌, ap, subst, true, List, [], ◌∷◌, ◌++◌, ◌⊎◌, inl, inr, arith, ltb-true, ltb, eqb, length, get_or, set, length-set, length-append, length-replicate, get_or-set_same, get_or-set_other, text, picked, eq_or_ne}
use Rattle.number.specs.Alphabet.{is_label}
use Rattle.label.specs.Label.{label_of, text_of}
use Rattle.json_value.specs.Reader.{skip_ws}
use Rattle.read_head.specs.declared.Verdict.{Verdict}
use Rattle.read_head.specs.declared.Verdict.TheVariants.{Good, Missing, Bad}
use Rattle.read_head.specs.declared.GotLabel.{GotLabel}
use Rattle.read_head.specs.Word.{Word, absent, other, word, word_at}
use Rattle.read_head.specs.Values.{worst, no_text, got_label}
use Rattle.read_lists.specs.declared.Flag.{Flag}
use Rattle.read_lists.specs.declared.Flag.TheVariants.{Is as IsFlag}
use Rattle.read_lists.specs.declared.GotNumber.{GotNumber}
use Rattle.read_lists.specs.declared.StatusEntry.{StatusEntry}
use Rattle.read_lists.specs.declared.GotEntry.{GotEntry}
use Rattle.read_lists.specs.declared.StatusList.{StatusList}
use Rattle.read_lists.specs.declared.StatusFields.{StatusFields}
use Rattle.read_lists.specs.Items.{Item, Items, absent as no_list, other as no_such_list, items, list_at}
use Rattle.read_lists.specs.Gather.{gather}
use Rattle.read_lists.specs.declared.Asking.{Asking}
use Rattle.read_lists.specs.declared.Asking.TheVariants.{Plain, Full, Older}
use Rattle.read_lists.specs.Status.{changed, entry_of, no_entry, got_seconds, entry_by, entry_of_item, no_statuses, push_entry, statuses_of, status_from, status_at}
use Rattle.packet_lookup.specs.declared.Sought.{Sought}
use Rattle.packet_lookup.specs.declared.Sought.TheVariants.{Is, Nothing}
use Rattle.packet_lookup.specs.Sought.{status_sought, entry_at}
use Rattle.write_message.specs.Message.{Status}
use Rattle.write_laws.specs.Formed.{Label, FormedValue, FormedStatus, FormedStatuses}
use Rattle.write_laws.specs.Formed.FormedValue.{undefined}
use Rattle.write_laws.specs.Formed.FormedStatuses.{none, more}
use Rattle.site.specs.declared.Site.{Site}
use Rattle.site.specs.Parts.{status_at as status_in}
use Rattle.packet_status.specs.StatusReply.{value_of, value_in, told_of, told_to}
use Rattle.call_laws.specs.Sound.{SoundAt}
use Rattle.call_laws.proofs.Rows.{label_text}
use Rattle.call_laws.proofs.Tells.{value_formed}

abbrev pub which : Verdict → ℕ
which Good = 0
which Missing = 1
which Bad = 2

-- of two verdicts the worse one is good where both are
pub worst_left : (a b : Verdict) → worst a b ≡ Good → a ≡ Good
worst_left Good b e = refl
worst_left Missing b e = absurd (omega (arith, ap which e))
worst_left Bad Missing e = absurd (omega (arith, ap which e))
worst_left Bad Bad e = absurd (omega (arith, ap which e))
worst_left Bad Good e = absurd (omega (arith, ap which e))

pub worst_right : (a b : Verdict) → worst a b ≡ Good → b ≡ Good
worst_right Good b e = e
worst_right Missing b e = absurd (omega (arith, ap which e))
worst_right Bad Missing e = absurd (omega (arith, ap which e))
worst_right Bad Bad e = absurd (omega (arith, ap which e))
worst_right Bad Good e = refl

-- a good string is a label
abbrev pub GoodLabel : GotLabel → Type 0
GoodLabel g = g.verdict ≡ Good → Label (text_of g.label)

pub got_label_lem : (w : Word) → GoodLabel (got_label w)
got_label_lem absent = λ e. absurd (omega (arith, ap which e))
got_label_lem other = λ e. absurd (omega (arith, ap which e))
got_label_lem (word d) =
    picked GoodLabel (is_label d) (record { verdict = Good; label = label_of d }) (no_text Bad) (λ e. λ g. label_text d e) (λ e. λ g. absurd (omega (arith, ap which g)))

pub record Labelled (e : StatusEntry) : Type 0 where
  pub code : Label (text_of e.code)
  pub name : Label (text_of e.name)

abbrev GoodEntry : GotEntry → Type 0
GoodEntry g = g.verdict ≡ Good → Labelled g.entry

entry_good : (c n : GotLabel) (u : GotNumber) (o : Flag) → GoodLabel c → GoodLabel n → GoodEntry (entry_of c n u o)
entry_good c n u o a b e =
    let both = worst_left (worst c.verdict n.verdict) (worst u.verdict (changed u.number o)) e in
    record { code = a (worst_left c.verdict n.verdict both); name = b (worst_right c.verdict n.verdict both) }

module _ (f : List ℕ → Word) where
  found_good : (u : GotNumber) (o : Flag) → GoodEntry (entry_of (got_label (f (text "sCI"))) (got_label (f (text "n"))) u o)
  found_good u o = entry_good (got_label (f (text "sCI"))) (got_label (f (text "n"))) u o (got_label_lem (f (text "sCI"))) (got_label_lem (f (text "n")))

  by_asking : (asking : Asking) (g : List ℕ → Flag) → GoodEntry (entry_by asking f g)
  by_asking Plain g = found_good (record { verdict = Good; number = 0 }) (IsFlag true)
  by_asking Full g = found_good (got_seconds (f (text "uRt"))) (g (text "sOc"))
  by_asking Older g = found_good (got_seconds (f (text "uRt"))) (IsFlag (eqb (got_seconds (f (text "uRt"))).number 0))

item_good : (asking : Asking) (x : Item) → GoodEntry (entry_of_item asking x)
item_good asking x =
    picked GoodEntry x.object _ _ (λ e. by_asking x.words asking x.flags) (λ e. λ g. absurd (omega (arith, ap which g)))

pub record Listed (l : StatusList) : Type 0 where
  pub few : l.count ≤ 16
  pub many : length l.entries ≡ 16
  pub good : l.verdict ≡ Good → (i : ℕ) → i < l.count → Labelled (get_or l.entries i no_entry)

nothing_listed : (v : Verdict) → Listed (no_statuses v)
nothing_listed v = record { few = omega arith; many = length-replicate 16 no_entry; good = λ e i h. absurd (omega (arith, h)) }

push_listed : (l : StatusList) (g : GotEntry) → Listed l → GoodEntry g → Listed (push_entry l g)
unfolding push_entry
push_listed l g h p =
    picked Listed (ltb l.count 16) _ _
    (λ t. record {
      few = omega (arith, ltb-true l.count 16 t);
      many = length-set l.entries l.count g.entry ∙ h.many;
      good = λ e i j. at e i j (eq_or_ne i l.count) (ltb-true l.count 16 t);
    })
    (λ t. record {
      few = h.few;
      many = h.many;
      good = λ e. absurd (omega (arith, ap which (worst_right (worst l.verdict g.verdict) Bad e)));
    })
  where
    at : worst l.verdict g.verdict ≡ Good → (i : ℕ) → i < l.count + 1 → (i ≡ l.count) ⊎ (i ≡ l.count → ⊥) → l.count < 16
        → Labelled (get_or (set l.entries l.count g.entry) i no_entry)
    at e i j (inl s) room =
        subst Labelled
        (sym (ap (λ (k : ℕ). get_or (set l.entries l.count g.entry) k no_entry) s
        ∙ get_or-set_same l.entries l.count g.entry no_entry (omega (arith, h.many, room))))
        (p (worst_right l.verdict g.verdict e))
    at e i j (inr s) room =
        subst Labelled (sym (get_or-set_other l.entries l.count i g.entry no_entry s)) (h.good (worst_left l.verdict g.verdict e) i (omega (arith, j, s)))

gather_listed : (asking : Asking) (l : StatusList) (xs : List Item) → Listed l → Listed (gather (λ (a : StatusList) (x : Item). push_entry a (entry_of_item asking x)) l xs)
unfolding gather
gather_listed asking l [] h = h
gather_listed asking l (x ∷ xs) h = gather_listed asking (push_entry l (entry_of_item asking x)) xs (push_listed l (entry_of_item asking x) h (item_good asking x))

statuses_listed : (asking : Asking) (i : Items) → Listed (statuses_of asking i)
statuses_listed asking no_list = nothing_listed Missing
statuses_listed asking no_such_list = nothing_listed Bad
statuses_listed asking (items xs) = gather_listed asking (no_statuses Good) xs (nothing_listed Good)

-- the fields of a packet that names a component and its entries well
pub record GoodFields (f : StatusFields) : Type 0 where
  pub few : f.count ≤ 16
  pub component : f.verdict ≡ Good → Label (text_of f.component)
  pub entries : f.verdict ≡ Good → (i : ℕ) → i < f.count → Labelled (get_or f.entries i no_entry)

fields_from : (c : GotLabel) (l : StatusList) → GoodLabel c → Listed l → GoodFields (status_from c l)
fields_from c l a h =
    record {
      few = h.few;
      component = λ e. a (worst_left c.verdict l.verdict e);
      entries = λ e. h.good (worst_right c.verdict l.verdict e);
    }

pub fields_good : (asking : Asking) (packet : List ℕ) → GoodFields (status_at asking packet)
unfolding status_at
fields_good asking packet =
    fields_from (got_label (word_at (skip_ws packet) (text "cId"))) (statuses_of asking (list_at (skip_ws packet) (text "sS")))
    (got_label_lem (word_at (skip_ws packet) (text "cId"))) (statuses_listed asking (list_at (skip_ws packet) (text "sS")))

-- ---- the entries told
pub formed_behind : (xs : List Status) (x : Status) → FormedStatuses xs → FormedStatus x → FormedStatuses (xs ++ (x ∷ []))
formed_behind [] x f g = more g none
formed_behind (y ∷ xs) x (more a f) g = more a (formed_behind xs x f g)

module _ (now : ℕ) (s : Site) (h : SoundAt now s) (component : Sought) where
  value_of_lem : (k : Sought) → FormedValue (value_of s k)
  value_of_lem (Is k) = value_formed (status_in s k) (h.statuses.each k)
  value_of_lem Nothing = undefined

  value_in_lem : (c : Sought) (e : StatusEntry) → FormedValue (value_in s c e)
  value_in_lem (Is c) e = value_of_lem (status_sought s.table c e)
  value_in_lem Nothing e = undefined

  told_formed : (e : StatusEntry) → Labelled e → FormedStatus (told_of s component e)
  unfolding told_of
  told_formed e l = record { code = l.code; name = l.name; value = value_in_lem component e }

  pub told_to_lem : (es : List StatusEntry) (n : ℕ) → ((i : ℕ) → i < n → Labelled (get_or es i no_entry)) → FormedStatuses (told_to s component es n)
  told_to_lem es zero l = none
  told_to_lem es (suc n) l = formed_behind (told_to s component es n) (told_of s component (entry_at es n)) (told_to_lem es n (λ i j. l i (omega arith))) (told_formed (entry_at es n) (l n (omega arith)))

  pub told_length : (es : List StatusEntry) (n : ℕ) → length (told_to s component es n) ≡ n
  told_length es zero = refl
  told_length es (suc n) =
      omega (arith, length-append (told_to s component es n) (told_of s component (entry_at es n) ∷ []), told_length es n)
