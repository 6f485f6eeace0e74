-- The bytes of every allowed table are read, and what is kept is that table. They are at most 4,702.
-- Assumes nothing.
use Rattle.basis.proofs.Std.{◌≡◌, ap, subst, ◌∙◌, true, List, [], ◌∷◌, ◌++◌, map, ℕ, ◌+◌, ◌*◌, ◌≤◌, ◌<◌, zero-add, arith, length, take, length-append, length-map, both_of}
use Rattle.label.specs.declared.LabelRead.{LabelRead}
use Rattle.label.specs.Padded.{padded}
use Rattle.label.specs.Label.{string, label_of, no_label}
use Rattle.label.specs.Reading.{far, read_at}
use Rattle.label.proofs.Stands.{Stands, first, second, itself}
use Rattle.label.proofs.Reading.{labelled, read_complete, label_short}
use Rattle.table_item.specs.Item.{no_item}
use Rattle.table_row.specs.declared.Head.{Head}
use Rattle.table_row.specs.declared.Kind.TheVariants.{Alarm, Status, Command}
use Rattle.table_row.specs.declared.LabelsRead.{LabelsRead}
use Rattle.table_row.specs.declared.ItemsRead.{ItemsRead}
use Rattle.table_row.specs.Head.{head_of}
use Rattle.table_row.specs.Rows.{labels_to, items_to}
use Rattle.table_whole.specs.Table.{Row, Table}
use Rattle.table_whole.specs.Bytes.{in_turn, alarm_bytes, status_bytes, command_bytes, table_head, table_bytes}
use Rattle.table_whole.specs.Allowed.{Every, IsString, IsAlarm, IsStatus, IsCommand, EditionOf, Allowed}
use Rattle.table_whole.specs.Allowed.EditionOf.{first as in_first, second as in_second}
use Rattle.table_whole.specs.Allowed.Every.{none, more}
use Rattle.table_whole.specs.Memory.{item_of, memory_of}
use Rattle.table_whole.specs.Reading.{site_at, sxl_at, components_at, alarms_at, statuses_at, commands_at, laid_from, laid_out, own_names}
use Rattle.table_whole.proofs.Turns.{Some, turns_complete}
use Rattle.table_whole.proofs.RowLaws.{alarm_item, alarm_next, status_item, status_next, alarm_complete, status_complete}
use Rattle.table_whole.proofs.HeadLaws.{Counts, head_with, bytes_with, size_of, size_is, head_complete}
use Rattle.table_whole.proofs.HeadLaws.Counts.{first as no_commands_lem, second as some_commands}
use Rattle.table_whole.proofs.CommandLaws.{command_item, command_next, range_bytes, command_complete}
use Rattle.table_whole.proofs.Parts.{label_value, label_next, label_known, labels_turns, items_turns}
use Rattle.table_whole.proofs.Kept.{once_labels, once_items, narrow}

-- how long things in turn are
turn_length : {A : Type 0} {P : A → Type 0} (f : A → List ℕ) (k : ℕ) → ((x : A) → P x → length (f x) ≤ k) → (xs : List A) → Every P xs → length (in_turn f xs) ≤ k * length xs
turn_length f k h [] none = omega arith
turn_length f k h (x ∷ xs) (more p ps) =
    let a = h x p in
    let b = turn_length f k h xs ps in
    omega (arith, length-append (f x) (in_turn f xs))

alarm_length : (n : ℕ) (r : Row) → IsAlarm n r → length (alarm_bytes r) ≤ 34
alarm_length n r v = omega (arith, label_short r.code v.code)

status_length : (n : ℕ) (r : Row) → IsStatus n r → length (status_bytes r) ≤ 67
status_length n r v = omega (arith, label_short r.code v.code, label_short r.name v.name, length-append r.code (string r.name))

string_length : (x : List ℕ) → IsString x → length (string x) ≤ 33
string_length x v = omega (arith, label_short x v)

command_length : (n : ℕ) (r : Row) → IsCommand n r → length (command_bytes r) ≤ 71
command_length n r v =
    omega (
      arith,
      label_short r.code v.code,
      label_short r.name v.name,
      length-append r.code (string r.name),
      length-append (status_bytes r) (range_bytes r.lowest r.highest),
    )

counts_of : {edition : ℕ} (t : Table) → EditionOf t edition → Counts (length t.commands) edition
counts_of t (in_first e) = no_commands_lem (ap length e)
counts_of t in_second = some_commands

size_most : {k edition : ℕ} → Counts k edition → size_of edition ≤ 4
size_most (no_commands_lem e) = omega arith
size_most some_commands = omega arith

head_long : {edition : ℕ} (t : Table) → EditionOf t edition → length (table_head edition t) ≡ size_of edition
unfolding table_head
head_long t e = size_is (counts_of t e) (length t.components) (length t.alarms) (length t.statuses)

-- how long each part is
length_is : (edition : ℕ) (t : Table)
    → length (table_bytes edition t)
    ≡ length (table_head edition t)
    + (length (string t.site)
    + (length (string t.sxl)
    + (length (in_turn string t.components)
    + (length (in_turn alarm_bytes t.alarms)
    + (length (in_turn status_bytes t.statuses)
    + length (in_turn command_bytes t.commands))))))
unfolding table_bytes
length_is edition t = simp length-append

pub longest : {edition : ℕ} (t : Table) → Allowed edition t → length (table_bytes edition t) ≤ 4702
longest {edition} t v =
    let c = length t.components in
    let lx = turn_length string 33 string_length t.components v.components in
    let ly = turn_length alarm_bytes 34 (alarm_length c) t.alarms v.alarms in
    let lz = turn_length status_bytes 67 (status_length c) t.statuses v.statuses in
    let lw = turn_length command_bytes 71 (command_length c) t.commands v.commands in
    let n1 = v.most_components in
    let n2 = v.most_alarms in
    let n3 = v.most_statuses in
    let n4 = v.most_commands in
    let ls = string_length t.site v.site in
    let lv = string_length t.sxl v.sxl in
    let lh = head_long t v.edition_of in
    let lm = size_most (counts_of t v.edition_of) in
    omega (arith, length_is edition t)

module _ {edition : ℕ} (t : Table) (v : Allowed edition t) (s : List ℕ) (e : table_bytes edition t ≡ s) where
  abbrev size : ℕ
  size = size_of edition

  abbrev c : ℕ
  c = length t.components

  abbrev a : ℕ
  a = length t.alarms

  abbrev n : ℕ
  n = length t.statuses

  abbrev k : ℕ
  k = length t.commands

  abbrev h : Head
  h = head_with size c a n k

  abbrev xs : List ℕ
  xs = in_turn string t.components

  abbrev ys : List ℕ
  ys = in_turn alarm_bytes t.alarms

  abbrev zs : List ℕ
  zs = in_turn status_bytes t.statuses

  abbrev ws : List ℕ
  ws = in_turn command_bytes t.commands

  -- the places of the parts
  abbrev p2 : ℕ
  p2 = size + length (string t.site)

  abbrev p3 : ℕ
  p3 = p2 + length (string t.sxl)

  abbrev p4 : ℕ
  p4 = p3 + length xs

  abbrev p5 : ℕ
  p5 = p4 + length ys

  abbrev p6 : ℕ
  p6 = p5 + length zs

  stands : Stands s 0 (table_head edition t ++ (string t.site ++ (string t.sxl ++ (xs ++ (ys ++ (zs ++ ws))))))
  unfolding table_bytes
  stands = subst (λ (l : List ℕ). Stands l 0 (table_bytes edition t)) e (itself (table_bytes edition t))

  stands1 : Stands s size (string t.site ++ (string t.sxl ++ (xs ++ (ys ++ (zs ++ ws)))))
  stands1 =
      subst (λ (m : ℕ). Stands s m (string t.site ++ (string t.sxl ++ (xs ++ (ys ++ (zs ++ ws))))))
      (zero-add (length (table_head edition t)) ∙ head_long t v.edition_of)
      (second s 0 (table_head edition t) _ stands)

  stands2 : Stands s p2 (string t.sxl ++ (xs ++ (ys ++ (zs ++ ws))))
  stands2 = second s size (string t.site) _ stands1

  stands3 : Stands s p3 (xs ++ (ys ++ (zs ++ ws)))
  stands3 = second s p2 (string t.sxl) _ stands2

  stands4 : Stands s p4 (ys ++ (zs ++ ws))
  stands4 = second s p3 xs (ys ++ (zs ++ ws)) stands3

  stands5 : Stands s p5 (zs ++ ws)
  stands5 = second s p4 ys (zs ++ ws) stands4

  stands6 : Stands s p6 ws
  stands6 = second s p5 zs ws stands5

  head_is : head_of s ≡ h
  unfolding table_head
  head_is =
      head_complete s c a n k (counts_of t v.edition_of)
      (record {
        fewest_components = v.fewest_components;
        most_components = v.most_components;
        most_alarms = v.most_alarms;
        most_statuses = v.most_statuses;
        most_commands = v.most_commands;
      })
      (first s 0 (bytes_with edition c a n k) _ stands)

  site_is : site_at s h ≡ labelled size t.site
  unfolding site_at
  site_is = read_complete {s = s} {at = size} t.site v.site (first s size (string t.site) _ stands1)

  sxl_is : sxl_at s h ≡ labelled p2 t.sxl
  unfolding sxl_at
  sxl_is =
      ap (λ (r : LabelRead). read_at s r.next) site_is
      ∙ read_complete {s = s} {at = p2} t.sxl v.sxl (first s p2 (string t.sxl) _ stands2)

  some_labels : Some label_of no_label string IsString (label_value s) (label_next s) s 8 p3 t.components
  some_labels =
      turns_complete label_of no_label string IsString (label_value s) (label_next s) s 8 (label_known s) p3 t.components
      v.most_components v.components (first s p3 xs (ys ++ (zs ++ ws)) stands3)

  components_is : components_at s h ≡ record { labels = (memory_of t).components; next = p4 }
  unfolding components_at
  components_is =
      ap (λ (r : LabelRead). labels_to s r.next c) sxl_is
      ∙ labels_turns s p3 c
      ∙ (λ i. record { labels = some_labels.kept_is i; next = some_labels.place_is i })

  some_alarms : Some item_of no_item alarm_bytes (IsAlarm c) (alarm_item s c) (alarm_next s c) s 32 p4 t.alarms
  some_alarms =
      turns_complete item_of no_item alarm_bytes (IsAlarm c) (alarm_item s c) (alarm_next s c) s 32 (alarm_complete s c v.most_components) p4 t.alarms
      v.most_alarms v.alarms (first s p4 ys (zs ++ ws) stands4)

  alarms_is : alarms_at s h ≡ record { items = (memory_of t).alarms; next = p5 }
  unfolding alarms_at
  alarms_is =
      ap (λ (r : LabelsRead). items_to s Alarm c r.next a) components_is
      ∙ items_turns s Alarm c p4 a
      ∙ (λ i. record { items = some_alarms.kept_is i; next = some_alarms.place_is i })

  some_statuses : Some item_of no_item status_bytes (IsStatus c) (status_item s c) (status_next s c) s 32 p5 t.statuses
  some_statuses =
      turns_complete item_of no_item status_bytes (IsStatus c) (status_item s c) (status_next s c) s 32 (status_complete s c v.most_components) p5 t.statuses
      v.most_statuses v.statuses (first s p5 zs ws stands5)

  statuses_is : statuses_at s h ≡ record { items = (memory_of t).statuses; next = p6 }
  unfolding statuses_at
  statuses_is =
      ap (λ (r : ItemsRead). items_to s Status c r.next n) alarms_is
      ∙ items_turns s Status c p5 n
      ∙ (λ i. record { items = some_statuses.kept_is i; next = some_statuses.place_is i })

  some_commands_read : Some item_of no_item command_bytes (IsCommand c) (command_item s c) (command_next s c) s 32 p6 t.commands
  some_commands_read =
      let most : k ≤ 32 = omega (arith, v.most_commands) in
      turns_complete item_of no_item command_bytes (IsCommand c) (command_item s c) (command_next s c) s 32 (command_complete s c v.most_components) p6 t.commands
      most v.commands stands6

  kept_commands : ItemsRead
  kept_commands = record { items = padded 32 no_item (map item_of t.commands); next = p6 + length ws }

  commands_is : commands_at s h ≡ kept_commands
  unfolding commands_at kept_commands
  commands_is =
      ap (λ (r : ItemsRead). items_to s Command c r.next k) statuses_is
      ∙ items_turns s Command c p6 k
      ∙ (λ i. record { items = some_commands_read.kept_is i; next = some_commands_read.place_is i })

  commands_kept : take 16 (commands_at s h).items ≡ (memory_of t).commands
  unfolding kept_commands
  commands_kept =
      ap (λ (r : ItemsRead). take 16 r.items) commands_is
      ∙ narrow no_item (map item_of t.commands) (simp length-map v.most_commands)

  end_is : p6 + length ws ≡ length s
  end_is = let lh = head_long t v.edition_of in omega (arith, ap length e, length_is edition t)

  pub laid_is : laid_out s ≡ record { table = memory_of t; next = length s }
  unfolding laid_out kept_commands
  laid_is =
      ap (laid_from s) head_is
      ∙ (λ i. record {
        table = record {
          componentcount = c;
          alarmcount = a;
          statuscount = n;
          commandcount = k;
          site = (site_is i).label;
          sxl = (sxl_is i).label;
          components = (components_is i).labels;
          alarms = (alarms_is i).items;
          statuses = (statuses_is i).items;
          commands = commands_kept i;
        };
        next = (ap (λ (r : ItemsRead). r.next) commands_is ∙ end_is) i;
      })

  pub short : length s < far
  short = omega (arith, longest t v, ap length e)

pub own_is : {edition : ℕ} (t : Table) → Allowed edition t → own_names (memory_of t) ≡ true
unfolding own_names
own_is t v =
    both_of (once_labels t.components v.no_component_twice)
    (both_of (once_items 32 t.alarms v.no_alarm_twice)
    (both_of (once_items 32 t.statuses v.no_status_twice) (once_items 16 t.commands v.no_command_twice)))
