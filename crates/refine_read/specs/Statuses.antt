-- The fields of the three status types, in the machine's words; proofs/Kept.antt proves it.
-- Assumes nothing.
use Rattle.std.specs.Prelude.{ℕ, ◌≤◌, ◌<◌, ◌≡◌, Bool, true, false, map, length, take, get_or}
use Rattle.std.proofs.Math.Option.{some}
use Rattle.label.specs.Label.{label_of}
use Rattle.json_value.specs.Grammar.{Json}
use Rattle.json_value.specs.Grammar.Json.{null}
use Rattle.read_head.specs.declared.Verdict.TheVariants.{Good}
use Rattle.read_lists.specs.declared.Asking.{Asking}
use Rattle.read_lists.specs.declared.Asking.TheVariants.{Plain, Full, Older}
use Rattle.read_lists.specs.declared.StatusEntry.{StatusEntry}
use Rattle.read_lists.specs.declared.StatusFields.{StatusFields}
use Rattle.read_lists.specs.Status.{no_entry, status_at}
use Rattle.machine.specs.Words.{Bytes, if'◌then◌else◌, ◌or◌, or_else}
use Rattle.machine.specs.Json.{read_packet, string_of, entries_of, is_type, asks_for}
use Rattle.machine.specs.Answers.{interval, asks_change}
use Rattle.refine_read.specs.Verdicts.{verdict_in}

-- how a subscription is read on a link of the edition before, and on any other; all else is read plainly
abbrev pub asking_for : Bool → Bool → Asking
asking_for false older = Plain
asking_for true false = Full
asking_for true true = Older

abbrev pub is_read : Bool → Json → Bool
is_read true j = is_type "StatusSubscribe" j
is_read false j = asks_for "StatusRequest" j or is_type "StatusUnsubscribe" j

-- "each entry sCI, n; to subscribe also uRt, sOc"; request 07: "a subscription has no sOc" on a link of the edition before
abbrev pub entry_of : Bool → Bool → Json → StatusEntry
entry_of subscribing older e =
    record {
      code = label_of (string_of "sCI" e);
      name = label_of (string_of "n" e);
      seconds = if' subscribing then or_else 0 (interval e) else 0;
      onchange = if' subscribing then asks_change older e else true;
    }

pub record StatusReads (subscribing older : Bool) (j : Json) (f : StatusFields) : Type 0 where
  pub verdict : is_read subscribing j ≡ true → f.verdict ≡ verdict_in older j
  pub component : f.verdict ≡ Good → f.component ≡ label_of (string_of "cId" j)
  -- all entries, in order, "at most 16"
  pub entries : f.verdict ≡ Good → take f.count f.entries ≡ map (entry_of subscribing older) (entries_of "sS" j)
  pub at : f.verdict ≡ Good → (i : ℕ) → i < f.count → get_or f.entries i no_entry ≡ entry_of subscribing older (get_or (entries_of "sS" j) i null)
  pub count : f.verdict ≡ Good → f.count ≡ length (entries_of "sS" j)
  pub most : f.verdict ≡ Good → f.count ≤ 16

pub record Claims : Type 0 where
  pub statuses : (subscribing older : Bool) (s : Bytes) (j : Json) → read_packet s ≡ some j → StatusReads subscribing older j (status_at (asking_for subscribing older) s)
