-- The claims about lines and files are kept.
-- Assumes nothing.
use Rattle.csv_entry.proofs.Room.{room}
use Rattle.csv_line.specs.Claims.{Claims}
use Rattle.csv_line.proofs.Laws as Laws

pub kept : Claims
kept =
    record {
      read_written = Laws.read_written;
      written_read = Laws.written_read;
      one_line = Laws.one_line;
      room = room;
      one_result = Laws.one_result;
      file_back = Laws.file_back;
      every_text = Laws.every_text;
    }
