-- A table as the site keeps it: each list in its place, with zeros behind it.
-- Assumes nothing.
use Rattle.std.specs.Prelude.{map, length, replicate, take}
use Rattle.number.specs.Signed.{word16_of, signed16_of}
use Rattle.label.specs.Padded.{padded}
use Rattle.label.specs.Label.{label_of, no_label, text_of}
use Rattle.table_item.specs.declared.Item.{Item}
use Rattle.table_item.specs.Item.{no_item}
use Rattle.table_whole.specs.declared.SiteTable.{SiteTable}
use Rattle.table_whole.specs.Table.{Row, Table}

abbrev pub item_of : Row → Item
item_of r =
    record {
      code = label_of r.code;
      name = label_of r.name;
      component = r.component;
      priority = r.priority;
      category = r.category;
      lowest = word16_of r.lowest;
      highest = word16_of r.highest;
    }

abbrev pub memory_of : Table → SiteTable
memory_of t =
    record {
      componentcount = length t.components;
      alarmcount = length t.alarms;
      statuscount = length t.statuses;
      commandcount = length t.commands;
      site = label_of t.site;
      sxl = label_of t.sxl;
      components = padded 8 no_label (map label_of t.components);
      alarms = padded 32 no_item (map item_of t.alarms);
      statuses = padded 32 no_item (map item_of t.statuses);
      commands = padded 16 no_item (map item_of t.commands);
    }

abbrev pub no_table : SiteTable
no_table =
    record {
      componentcount = 0;
      alarmcount = 0;
      statuscount = 0;
      commandcount = 0;
      site = no_label;
      sxl = no_label;
      components = replicate 8 no_label;
      alarms = replicate 32 no_item;
      statuses = replicate 32 no_item;
      commands = replicate 16 no_item;
    }

abbrev pub row_of : Item → Row
row_of i =
    record {
      component = i.component;
      priority = i.priority;
      category = i.category;
      code = text_of i.code;
      name = text_of i.name;
      lowest = signed16_of i.lowest;
      highest = signed16_of i.highest;
    }

-- the table that is kept
abbrev pub table_of : SiteTable → Table
table_of m =
    record {
      site = text_of m.site;
      sxl = text_of m.sxl;
      components = map text_of (take m.componentcount m.components);
      alarms = map row_of (take m.alarmcount m.alarms);
      statuses = map row_of (take m.statuscount m.statuses);
      commands = map row_of (take m.commandcount m.commands);
    }
