-- What the reader accepts is the bytes of an allowed table, and what it keeps is that table.
-- Assumes nothing.
use Rattle.basis.proofs.Std.{◌≡◌, refl, sym, ap, subst, ◌∙◌, true, List, [], ◌∷◌, ◌++◌, map, ⊎_elim, ℕ, ◌+◌, ◌≤◌, ◌<◌, zero-add, arith, length, get_or, take, length-append, length-map, bool_cases, le_or_lt, both_true}
use Rattle.bits.specs.Fields.{number_of}
use Rattle.label.specs.declared.LabelRead.{LabelRead}
use Rattle.label.specs.Label.{string, label_of, no_label}
use Rattle.label.specs.Reading.{far, read_at}
use Rattle.label.proofs.Stands.{Stands, joined, whole}
use Rattle.label.proofs.Reading.{Got, read_sound}
use Rattle.table_item.specs.Item.{no_item}
use Rattle.table_item.specs.Find.{own_labels, own_items}
use Rattle.table_row.specs.declared.Head.{Head}
use Rattle.table_row.specs.declared.Kind.TheVariants.{Alarm, Status, Command}
use Rattle.table_row.specs.declared.LabelsRead.{LabelsRead}
use Rattle.table_row.specs.declared.ItemsRead.{ItemsRead}
use Rattle.table_row.specs.Head.{good_first, good_second, head_of, no_head, first_head}
use Rattle.table_row.specs.Rows.{labels_to, items_to}
use Rattle.table_row.proofs.Heads.{first_short, first_bad, second_short, second_bad, head_second}
use Rattle.table_whole.specs.declared.Laid.{Laid}
use Rattle.table_whole.specs.Table.{Table}
use Rattle.table_whole.specs.Bytes.{in_turn, alarm_bytes, status_bytes, command_bytes, table_head, table_bytes}
use Rattle.table_whole.specs.Allowed.{Every, IsString, IsAlarm, IsStatus, IsCommand, EditionOf, Allowed}
use Rattle.table_whole.specs.Allowed.EditionOf.{first as in_first, second as in_second}
use Rattle.table_whole.specs.Memory.{item_of, memory_of}
use Rattle.table_whole.specs.Reading.{site_at, sxl_at, components_at, alarms_at, statuses_at, commands_at, laid_from, laid_out, own_names}
use Rattle.table_whole.proofs.Turns.{Counted, turns_sound, place_to, kept_to}
use Rattle.table_whole.proofs.RowLaws.{starts, alarm_item, alarm_next, status_item, status_next, alarm_sound, status_sound}
use Rattle.table_whole.proofs.HeadLaws.{HeadRead, Limits, Counts, head_with, bytes_with, size_of, size_is, first_sound_head, second_sound_head}
use Rattle.table_whole.proofs.HeadLaws.Counts.{first, second}
use Rattle.table_whole.proofs.CommandLaws.{command_item, command_next, command_sound}
use Rattle.table_whole.proofs.Parts.{label_value, label_next, label_one, labels_turns, items_turns}
use Rattle.table_whole.proofs.Kept.{labels_once, items_once, narrow}

-- nothing is read behind a head that was not read
nothing_behind : (s : List ℕ) → length s < far → (laid_from s no_head).next ≡ length s → ⊥
unfolding site_at sxl_at components_at alarms_at statuses_at commands_at labels_to items_to
nothing_behind s f e =
    let sxl = read_sound s (read_at s far).next f (omega arith) in
    let site = read_sound s far f (starts s (read_at s far).next sxl.text sxl.stands) in
    let l : far ≤ length s = starts s far site.text site.stands in
    omega arith

-- the first edition's head was not read, and the second's neither
second_read : (s : List ℕ) → ((i : ℕ) → get_or s i 0 < 256) → (head_of s ≡ no_head → ⊥) → first_head s ≡ no_head → HeadRead s
second_read s b unread e =
    ⊎_elim
    (λ (h : 4 ≤ length s).
    bool_cases (good_second (number_of (take 4 s)))
    (λ g. second_sound_head s b e h g)
    (λ g. absurd (unread (head_second s e ∙ second_bad s h g))))
    (λ (h : length s < 4). absurd (unread (head_second s e ∙ second_short s h)))
    (le_or_lt 4 (length s))

head_read : (s : List ℕ) → ((i : ℕ) → get_or s i 0 < 256) → length s < far → (laid_out s).next ≡ length s → HeadRead s
unfolding laid_out
head_read s b f e =
    let unread : head_of s ≡ no_head → ⊥ = λ x. nothing_behind s f (ap (λ (d : Head). (laid_from s d).next) (sym x) ∙ e) in
    ⊎_elim
    (λ (h : 3 ≤ length s).
    bool_cases (good_first (number_of (take 3 s))) (λ g. first_sound_head s b h g) (λ g. second_read s b unread (first_bad s h g)))
    (λ (h : length s < 3). second_read s b unread (first_short s h))
    (le_or_lt 3 (length s))

-- a piece behind another
link : (s : List ℕ) (p q : ℕ) (b c : List ℕ) → q ≡ p + length b → Stands s p b → Stands s q c → Stands s p (b ++ c)
link s p q b c e h k = joined s p b c h (subst (λ (m : ℕ). Stands s m c) e k)

-- the parts behind a head of these counts
pub record Behind (s : List ℕ) (size c a t k : ℕ) : Type 0 where
  pub site : Got s size
  pub sxl : Got s (site_at s (head_with size c a t k)).next
  pub components : Counted label_of no_label string IsString (label_value s) (label_next s) s 8 (sxl_at s (head_with size c a t k)).next c
  pub alarms : Counted item_of no_item alarm_bytes (IsAlarm c) (alarm_item s c) (alarm_next s c) s 32 (components_at s (head_with size c a t k)).next a
  pub statuses : Counted item_of no_item status_bytes (IsStatus c) (status_item s c) (status_next s c) s 32 (alarms_at s (head_with size c a t k)).next t
  pub commands : Counted item_of no_item command_bytes (IsCommand c) (command_item s c) (command_next s c) s 32 (statuses_at s (head_with size c a t k)).next k

nothing : {A : Type 0} (xs : List A) → length xs ≡ 0 → xs ≡ []
nothing [] e = refl
nothing (x ∷ xs) e = absurd (omega arith)

edition_found : {k edition : ℕ} → Counts k edition → (t : Table) → length t.commands ≡ k → EditionOf t edition
edition_found (first z) t e = in_first (nothing t.commands (e ∙ z))
edition_found second t e = in_second

module _ (s : List ℕ) (b : (i : ℕ) → get_or s i 0 < 256) (f : length s < far) (size c a t k : ℕ) (l : Limits c a t k) where
  abbrev h : Head
  h = head_with size c a t k

  components_next : (components_at s h).next ≡ place_to (label_next s) (sxl_at s h).next c
  unfolding components_at
  components_next = ap (λ (r : LabelsRead). r.next) (labels_turns s (sxl_at s h).next c)

  alarms_next : (alarms_at s h).next ≡ place_to (alarm_next s c) (components_at s h).next a
  unfolding alarms_at
  alarms_next = ap (λ (r : ItemsRead). r.next) (items_turns s Alarm c (components_at s h).next a)

  statuses_next : (statuses_at s h).next ≡ place_to (status_next s c) (alarms_at s h).next t
  unfolding statuses_at
  statuses_next = ap (λ (r : ItemsRead). r.next) (items_turns s Status c (alarms_at s h).next t)

  commands_next : (commands_at s h).next ≡ place_to (command_next s c) (statuses_at s h).next k
  unfolding commands_at
  commands_next = ap (λ (r : ItemsRead). r.next) (items_turns s Command c (statuses_at s h).next k)

  -- the first place is within where the last is
  before : {A X : Type 0} {keep : A → X} {z : X} {bytes : A → List ℕ} {Valid : A → Type 0} {value : ℕ → X} {next : ℕ → ℕ} {n at i : ℕ}
      → Counted keep z bytes Valid value next s n at i → place_to next at i ≤ length s → at ≤ length s
  before {next = next} {at = at} p e =
      let q = ap (place_to next at) p.count in
      let r = p.some.place_is in
      omega (arith, q, r)

  behind_head : (laid_from s h).next ≤ length s → Behind s size c a t k
  unfolding site_at sxl_at
  behind_head e =
      let most : k ≤ 32 = omega (arith, l.most_commands) in
      let kt : place_to (command_next s c) (statuses_at s h).next k ≤ length s = subst (λ (m : ℕ). m ≤ length s) commands_next e in
      let K = turns_sound item_of no_item command_bytes (IsCommand c) (command_item s c) (command_next s c) s 32 (command_sound s c b f) (statuses_at s h).next k most kt in
      let st : place_to (status_next s c) (alarms_at s h).next t ≤ length s = subst (λ (m : ℕ). m ≤ length s) statuses_next (before K kt) in
      let S = turns_sound item_of no_item status_bytes (IsStatus c) (status_item s c) (status_next s c) s 32 (status_sound s c b f) (alarms_at s h).next t l.most_statuses st in
      let at : place_to (alarm_next s c) (components_at s h).next a ≤ length s = subst (λ (m : ℕ). m ≤ length s) alarms_next (before S st) in
      let A = turns_sound item_of no_item alarm_bytes (IsAlarm c) (alarm_item s c) (alarm_next s c) s 32 (alarm_sound s c b f) (components_at s h).next a l.most_alarms at in
      let ct : place_to (label_next s) (sxl_at s h).next c ≤ length s = subst (λ (m : ℕ). m ≤ length s) components_next (before A at) in
      let C = turns_sound label_of no_label string IsString (label_value s) (label_next s) s 8 (label_one s f) (sxl_at s h).next c l.most_components ct in
      let sxl = read_sound s (site_at s h).next f (before C ct) in
      let site = read_sound s size f (starts s (site_at s h).next sxl.text sxl.stands) in
      record { site = site; sxl = sxl; components = C; alarms = A; statuses = S; commands = K }

  module _ (p : Behind s size c a t k) where
    abbrev found : Table
    found =
        record {
          site = p.site.text;
          sxl = p.sxl.text;
          components = p.components.things;
          alarms = p.alarms.things;
          statuses = p.statuses.things;
          commands = p.commands.things;
        }

    labels_kept : (components_at s h).labels ≡ (memory_of found).components
    unfolding components_at
    labels_kept =
        ap (λ (r : LabelsRead). r.labels) (labels_turns s (sxl_at s h).next c)
        ∙ ap (kept_to 8 no_label (label_value s) (label_next s) (sxl_at s h).next) (sym p.components.count)
        ∙ p.components.some.kept_is

    alarms_kept : (alarms_at s h).items ≡ (memory_of found).alarms
    unfolding alarms_at
    alarms_kept =
        ap (λ (r : ItemsRead). r.items) (items_turns s Alarm c (components_at s h).next a)
        ∙ ap (kept_to 32 no_item (alarm_item s c) (alarm_next s c) (components_at s h).next) (sym p.alarms.count)
        ∙ p.alarms.some.kept_is

    statuses_kept : (statuses_at s h).items ≡ (memory_of found).statuses
    unfolding statuses_at
    statuses_kept =
        ap (λ (r : ItemsRead). r.items) (items_turns s Status c (alarms_at s h).next t)
        ∙ ap (kept_to 32 no_item (status_item s c) (status_next s c) (alarms_at s h).next) (sym p.statuses.count)
        ∙ p.statuses.some.kept_is

    few : length found.commands ≤ 16
    few = omega (arith, p.commands.count, l.most_commands)

    commands_kept : take 16 (commands_at s h).items ≡ (memory_of found).commands
    unfolding commands_at
    commands_kept =
        ap (λ (r : ItemsRead). take 16 r.items) (items_turns s Command c (statuses_at s h).next k)
        ∙ ap (λ (m : ℕ). take 16 (kept_to 32 no_item (command_item s c) (command_next s c) (statuses_at s h).next m)) (sym p.commands.count)
        ∙ ap (take 16) p.commands.some.kept_is
        ∙ narrow no_item (map item_of found.commands) (simp length-map few)

    found_kept : (laid_from s h).table ≡ memory_of found
    unfolding site_at sxl_at
    found_kept = λ i. record {
      componentcount = sym p.components.count i;
      alarmcount = sym p.alarms.count i;
      statuscount = sym p.statuses.count i;
      commandcount = sym p.commands.count i;
      site = ap (λ (r : LabelRead). r.label) p.site.is i;
      sxl = ap (λ (r : LabelRead). r.label) p.sxl.is i;
      components = labels_kept i;
      alarms = alarms_kept i;
      statuses = statuses_kept i;
      commands = commands_kept i;
    }

    found_allowed : {edition : ℕ} → Counts k edition → own_names (laid_from s h).table ≡ true → Allowed edition found
    unfolding own_names
    found_allowed ed e =
        let o = ap own_names (sym found_kept) ∙ e in
        let o1 = both_true (own_labels (memory_of found).components (memory_of found).componentcount) _ o in
        let o2 = both_true (own_items (memory_of found).alarms (memory_of found).alarmcount) _ o1.1 in
        let o3 = both_true (own_items (memory_of found).statuses (memory_of found).statuscount) _ o2.1 in
        record {
          edition_of = edition_found ed found p.commands.count;
          fewest_components = omega (arith, p.components.count, l.fewest_components);
          most_components = omega (arith, p.components.count, l.most_components);
          most_alarms = omega (arith, p.alarms.count, l.most_alarms);
          most_statuses = omega (arith, p.statuses.count, l.most_statuses);
          most_commands = few;
          site = p.site.label;
          sxl = p.sxl.label;
          components = p.components.some.valid;
          alarms = subst (λ (m : ℕ). Every (IsAlarm m) p.alarms.things) (sym p.components.count) p.alarms.some.valid;
          statuses = subst (λ (m : ℕ). Every (IsStatus m) p.statuses.things) (sym p.components.count) p.statuses.some.valid;
          commands = subst (λ (m : ℕ). Every (IsCommand m) p.commands.things) (sym p.components.count) p.commands.some.valid;
          no_component_twice = labels_once p.components.things o1.0;
          no_alarm_twice = items_once 32 p.alarms.things o2.0;
          no_status_twice = items_once 32 p.statuses.things o3.0;
          no_command_twice = items_once 16 p.commands.things o3.1;
        }

    -- the place behind each part
    site_end : (site_at s h).next ≡ size + length (string found.site)
    unfolding site_at
    site_end = ap (λ (r : LabelRead). r.next) p.site.is

    sxl_end : (sxl_at s h).next ≡ (site_at s h).next + length (string found.sxl)
    unfolding sxl_at
    sxl_end = ap (λ (r : LabelRead). r.next) p.sxl.is

    components_end : (components_at s h).next ≡ (sxl_at s h).next + length (in_turn string found.components)
    components_end = components_next ∙ ap (place_to (label_next s) (sxl_at s h).next) (sym p.components.count) ∙ p.components.some.place_is

    alarms_end : (alarms_at s h).next ≡ (components_at s h).next + length (in_turn alarm_bytes found.alarms)
    alarms_end = alarms_next ∙ ap (place_to (alarm_next s c) (components_at s h).next) (sym p.alarms.count) ∙ p.alarms.some.place_is

    statuses_end : (statuses_at s h).next ≡ (alarms_at s h).next + length (in_turn status_bytes found.statuses)
    statuses_end = statuses_next ∙ ap (place_to (status_next s c) (alarms_at s h).next) (sym p.statuses.count) ∙ p.statuses.some.place_is

    commands_end : (commands_at s h).next ≡ (statuses_at s h).next + length (in_turn command_bytes found.commands)
    commands_end = commands_next ∙ ap (place_to (command_next s c) (statuses_at s h).next) (sym p.commands.count) ∙ p.commands.some.place_is

    module _ {edition : ℕ} (ed : Counts k edition) (type_size : size_of edition ≡ size) where
      head_same : bytes_with edition c a t k ≡ table_head edition found
      unfolding table_head
      head_same = λ i. bytes_with edition (sym p.components.count i) (sym p.alarms.count i) (sym p.statuses.count i) (sym p.commands.count i)

      head_long : length (table_head edition found) ≡ size
      head_long = ap length (sym head_same) ∙ size_is ed c a t ∙ type_size

      found_stands : Stands s 0 (bytes_with edition c a t k) → Stands s 0 (table_bytes edition found)
      unfolding table_bytes
      found_stands st =
          link s 0 size _ _ (sym (zero-add _ ∙ head_long)) (subst (Stands s 0) head_same st)
          (link s size (site_at s h).next _ _ site_end p.site.stands
          (link s (site_at s h).next (sxl_at s h).next _ _ sxl_end p.sxl.stands
          (link s (sxl_at s h).next (components_at s h).next _ _ components_end p.components.some.stands
          (link s (components_at s h).next (alarms_at s h).next _ _ alarms_end p.alarms.some.stands
          (link s (alarms_at s h).next (statuses_at s h).next _ _ statuses_end p.statuses.some.stands
          p.commands.some.stands)))))

      found_length : length (table_bytes edition found) ≡ (commands_at s h).next
      unfolding table_bytes
      found_length =
          let x = in_turn string found.components in
          let y = in_turn alarm_bytes found.alarms in
          let z = in_turn status_bytes found.statuses in
          let w = in_turn command_bytes found.commands in
          let e0 = length-append (table_head edition found) (string found.site ++ (string found.sxl ++ (x ++ (y ++ (z ++ w))))) in
          let e1 = length-append (string found.site) (string found.sxl ++ (x ++ (y ++ (z ++ w)))) in
          let e2 = length-append (string found.sxl) (x ++ (y ++ (z ++ w))) in
          let e3 = length-append x (y ++ (z ++ w)) in
          let e4 = length-append y (z ++ w) in
          let e5 = length-append z w in
          omega (arith, head_long, site_end, sxl_end, components_end, alarms_end, statuses_end, commands_end, e0, e1, e2, e3, e4, e5)

      found_bytes : Stands s 0 (bytes_with edition c a t k) → (commands_at s h).next ≡ length s → table_bytes edition found ≡ s
      found_bytes st e = whole (found_stands st) (found_length ∙ e)

-- an allowed table whose bytes these are, and which is kept
pub record Sound (s : List ℕ) : Type 0 where
  pub edition : ℕ
  pub table : Table
  pub allowed : Allowed edition table
  pub bytes : table_bytes edition table ≡ s
  pub kept : (laid_out s).table ≡ memory_of table

pub sound : (s : List ℕ) → ((i : ℕ) → get_or s i 0 < 256) → length s < far → (laid_out s).next ≡ length s → own_names (laid_out s).table ≡ true → Sound s
unfolding laid_out
sound s b f e o =
    let hd = head_read s b f e in
    let size = size_of hd.edition in
    let c = hd.components in
    let a = hd.alarms in
    let t = hd.statuses in
    let k = hd.commands in
    let is : laid_from s (head_of s) ≡ laid_from s (head_with size c a t k) = ap (laid_from s) hd.is in
    let end : (laid_from s (head_with size c a t k)).next ≡ length s = ap (λ (d : Laid). d.next) (sym is) ∙ e in
    let p = behind_head s b f size c a t k hd.limits (omega (arith, end)) in
    record {
      edition = hd.edition;
      table = found s b f size c a t k hd.limits p;
      allowed = found_allowed s b f size c a t k hd.limits p hd.counts (ap (λ (d : Laid). own_names d.table) (sym is) ∙ o);
      bytes = found_bytes s b f size c a t k hd.limits p hd.counts refl hd.stands end;
      kept = ap (λ (d : Laid). d.table) is ∙ found_kept s b f size c a t k hd.limits p;
    }
