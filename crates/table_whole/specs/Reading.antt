-- The table reader, step by step; what it comes to is said in Reads.
-- Assumes nothing.
use Rattle.std.specs.Prelude.{ℕ, Bool, List, ltb, eqb, length, take}
use Rattle.basis.specs.Pick.{pick, both}
use Rattle.answer.specs.declared.Refusal.TheVariants.{NotAccepted}
use Rattle.label.specs.declared.LabelRead.{LabelRead}
use Rattle.label.specs.Reading.{far, read_at}
use Rattle.table_item.specs.Find.{own_labels, own_items}
use Rattle.table_row.specs.declared.Kind.TheVariants.{Alarm, Status, Command}
use Rattle.table_row.specs.declared.LabelsRead.{LabelsRead}
use Rattle.table_row.specs.declared.ItemsRead.{ItemsRead}
use Rattle.table_row.specs.declared.Head.{Head}
use Rattle.table_row.specs.Head.{head_of}
use Rattle.table_row.specs.Rows.{labels_to, items_to}
use Rattle.table_whole.specs.declared.SiteTable.{SiteTable}
use Rattle.table_whole.specs.declared.Laid.{Laid}
use Rattle.table_whole.specs.declared.TableRead.{TableRead}
use Rattle.table_whole.specs.declared.Verdict.TheVariants.{Accepted, Refused}
use Rattle.table_whole.specs.Memory.{no_table}

-- behind a head
module _ (s : List ℕ) (h : Head) where
  unfoldable pub site_at : LabelRead
  site_at = read_at s h.next

  unfoldable pub sxl_at : LabelRead
  sxl_at = read_at s site_at.next

  unfoldable pub components_at : LabelsRead
  components_at = labels_to s sxl_at.next h.components

  unfoldable pub alarms_at : ItemsRead
  alarms_at = items_to s Alarm h.components components_at.next h.alarms

  unfoldable pub statuses_at : ItemsRead
  statuses_at = items_to s Status h.components alarms_at.next h.statuses

  unfoldable pub commands_at : ItemsRead
  commands_at = items_to s Command h.components statuses_at.next h.commands

  -- one part behind the other
  abbrev pub laid_from : Laid
  laid_from =
      record {
        table = record {
          componentcount = h.components;
          alarmcount = h.alarms;
          statuscount = h.statuses;
          commandcount = h.commands;
          site = site_at.label;
          sxl = sxl_at.label;
          components = components_at.labels;
          alarms = alarms_at.items;
          statuses = statuses_at.items;
          commands = take 16 commands_at.items;
        };
        next = commands_at.next;
      }

unfoldable pub laid_out : List ℕ → Laid
laid_out s = laid_from s (head_of s)

-- no component id, no alarm, no status and no command twice
unfoldable pub own_names : SiteTable → Bool
own_names m =
    both (own_labels m.components m.componentcount)
    (both (own_items m.alarms m.alarmcount)
    (both (own_items m.statuses m.statuscount) (own_items m.commands m.commandcount)))

abbrev pub refused : TableRead
refused = record { table = no_table; verdict = Refused NotAccepted }

-- nothing left over, and nothing twice
unfoldable pub is_whole : SiteTable → ℕ → ℕ → Bool
is_whole m next size = both (ltb size far) (both (eqb next size) (own_names m))

unfoldable pub read_table : List ℕ → TableRead
read_table s =
    pick (is_whole (laid_out s).table (laid_out s).next (length s))
    (record { table = (laid_out s).table; verdict = Accepted })
    refused
