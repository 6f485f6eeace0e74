-- Their CommandRequest, by either type, is the machine's.
-- Assumes nothing.
use Rattle.basis.proofs.Std.{ℕ, ◌^◌, ◌<◌, String, ◌≡◌, refl, sym, ap, ap₂, subst, ◌∙◌, Bool, true, false, not, List, [], ◌∷◌, ◌++◌, map, Option, some, none, lit<, ℤ, pos, length, get_or, arith, pick, both}
use Rattle.number.specs.Signed.{Signed32}
use Rattle.number.specs.Reading.{ReadsInt, is_int}
use Rattle.identity.specs.declared.Identity.{Identity}
use Rattle.identity.specs.Read.{SixteenBytes}
use Rattle.label.specs.Label.{text_of}
use Rattle.table_item.specs.Item.{no_item}
use Rattle.table_whole.specs.declared.SiteTable.{SiteTable}
use Rattle.table_whole.specs.Memory.{memory_of}
use Rattle.json_value.specs.Grammar.{Json}
use Rattle.json_value.specs.Grammar.Json.{null}
use Rattle.write_message.specs.declared.Value.TheVariants.{Recent, Undefined}
use Rattle.write_message.specs.declared.Told.TheVariants.{Command as CommandResponse}
use Rattle.write_message.specs.Message.{Status, status}
use Rattle.read_versions.proofs.Numerals.{integer}
use Rattle.read_head.specs.declared.Verdict.{Verdict}
use Rattle.read_head.specs.declared.Verdict.TheVariants.{Good}
use Rattle.read_commands.specs.declared.CommandEntry.{CommandEntry}
use Rattle.read_commands.specs.declared.CommandFields.{CommandFields}
use Rattle.read_commands.specs.Command.{command_at}
use Rattle.packet_lookup.specs.declared.Sought.{Sought}
use Rattle.packet_lookup.specs.Sought.{component_sought, command_sought, is_sought}
use Rattle.site.specs.declared.Site.{Site}
use Rattle.site.specs.Call.{Command}
use Rattle.packet_answer.specs.Taken.{Taken, not_acked, answering, bad_value, unknown_command}
use Rattle.packet_command.specs.Commanding.{entry_at, in_range, within, all_within, all_commands, passes, value_in, told_of, told_to, told, number_of, commands_to, commands_of, ordered_of, command_taken}
use Rattle.machine.specs.Words.{Bytes, maybe, is_some, or_else, any}
use Rattle.machine.specs.State.{Machine, life_at}
use Rattle.machine.specs.Life.{is_older}
use Rattle.machine.specs.Json.{string_at, string_of, entries_of, asks_for, integer_in}
use Rattle.machine.specs.Table.{command_number, command_row}
use Rattle.machine.specs.Answers.{component_asked, command_asked, value_asked, in_range as in_range_of}
use Rattle.machine.specs.Items.{command_of_entry, commands_asked, commands}
use Rattle.machine.specs.Messages.{command_entries}
use Rattle.machine.specs.Effects.{carried_out}
use Rattle.refine_parts.specs.Same.{Beside}
use Rattle.refine_read.specs.Verdicts.{verdict_in}
use Rattle.refine_read.specs.Head.{type_name}
use Rattle.refine_read.specs.Reasons.{by_verdict as reason_by, further_reason, busy_if, any_unknown_command, any_out_of_range}
use Rattle.refine_read.proofs.Kept as Reads
use Rattle.refine_read.specs.Commands.{command_of, CommandReads}
use Rattle.refine_read.proofs.Commands.{said_integer, integer_is}
use Rattle.refine_read.proofs.CommandsKept as Lists
use Rattle.refine_read.proofs.Indexed.{by_places}
use Rattle.refine_calls.specs.Abstracts.{Abstracts}
use Rattle.refine_calls.specs.Calls.{SameCommands}
use Rattle.refine_calls.specs.Calls.SameCommands.{no_command, one_command}
use Rattle.refine_packet.specs.Lookups.{sought_for, Lookups}
use Rattle.refine_packet.proofs.Lookups.{same_lookups}
use Rattle.refine_packet.specs.Taken.{SameTaken, question_on}
use Rattle.refine_packet.proofs.Refused.{reasons, by_verdict_lem}
use Rattle.refine_packet.specs.Ordered.{IsUp}
use Rattle.refine_packet.proofs.Replied.{Asks, answer as answering_so}
use Rattle.refine_packet.proofs.Entries.{is_sought_lem, all_pass, each_behind, named_component}
use Rattle.refine_packet.specs.Commands.{SameCommandRequest}

is_request : (j : Json) (n : Bool) → string_at "type" j ≡ some (type_name "CommandRequest" n) → asks_for "CommandRequest" j ≡ true
is_request j false ty = rw ty
is_request j true ty = rw ty

asks : (m : Machine) (l t : ℕ) (id : Bytes) (j : Json) (n : Bool) → string_at "type" j ≡ some (type_name "CommandRequest" n)
    → Asks m l t id j n CommandResponse (command_entries m j) (commands_asked m j)
unfolding carried_out commands
asks m l t id j false ty = record { at_once = rw ty; replies = rw ty; does = rw ty; told = rw ty }
asks m l t id j true ty = record { at_once = rw ty; replies = rw ty; does = rw ty; told = rw ty }

-- a value that is asked for has 32 bits
read_range : (d : Bytes) (o : Option ℤ) → ReadsInt d (said_integer o) → Signed32 (or_else (pos 0) o)
read_range d none r = lit< tt
read_range d (some v) (is_int w s e) = s

value_range : (e : Json) → Signed32 (value_asked e)
value_range e =
    read_range (string_of "v" e) (integer_in (string_of "v" e)) (subst (ReadsInt (string_of "v" e)) (integer_is (string_of "v" e)) (integer (string_of "v" e)))

number_is : (o : Option ℕ) → number_of (sought_for o) ≡ or_else 0 o
number_is none = refl
number_is (some k) = refl

any_same : {A : Type 0} (p q : A → Bool) → ((a : A) → p a ≡ q a) → (xs : List A) → any p xs ≡ any q xs
any_same p q e [] = refl
any_same p q e (x ∷ xs) = ap₂ (λ (b c : Bool). pick b true c) (e x) (any_same p q e xs)

not_maybe : {A : Type 0} (p : A → Bool) (o : Option A) → not (maybe true p o) ≡ maybe false (λ a. not (p a)) o
not_maybe p none = refl
not_maybe p (some a) = refl

module _ {beside : Beside} (s : Site) (m : Machine) (h : Abstracts beside s m) (j : Json) (f : CommandFields) (r : CommandReads j f) (g : f.verdict ≡ Good) where
  abbrev entry : ℕ → Json
  entry i = get_or (entries_of "arg" j) i null

  lookups : Lookups m.setup.table
  lookups = same_lookups h.items.setup.edition m.setup.table h.items.setup.allowed

  at : (i : ℕ) → i < length (entries_of "arg" j) → entry_at f.entries i ≡ command_of (entry i)
  at i b = r.at g i (omega (arith, r.count g, b))

  value_at : (i : ℕ) → i < length (entries_of "arg" j) → (entry_at f.entries i).value ≡ value_asked (entry i)
  value_at i b = ap (λ (x : CommandEntry). x.value) (at i b)

  -- ---- of a component that is known
  module _ (c : ℕ) (asked : component_asked m j ≡ some c) where
    entry_sought : (e : Json) → command_sought (memory_of m.setup.table) c (command_of e) ≡ sought_for (command_asked m j e)
    entry_sought e =
        lookups.command c (command_of e)
        ∙ ap₂ (λ (x y : Bytes). sought_for (command_number m.setup.table c x y)) ((Reads.kept).kept (string_of "cCI" e)) ((Reads.kept).kept (string_of "n" e))
        ∙ sym (ap (λ (o : Option ℕ). sought_for (maybe none (λ (x : ℕ). command_number m.setup.table x (string_of "cCI" e) (string_of "n" e)) o)) asked)

    sought_at : (i : ℕ) → i < length (entries_of "arg" j) → command_sought s.table c (entry_at f.entries i) ≡ sought_for (command_asked m j (entry i))
    sought_at i b =
        ap (λ (x : SiteTable). command_sought x c (entry_at f.entries i)) h.items.setup.table
        ∙ ap (command_sought (memory_of m.setup.table) c) (at i b)
        ∙ entry_sought (entry i)

    -- its number is that of a command
    there : (e : Json) (k : ℕ) → command_asked m j e ≡ some k → k < length m.setup.table.commands
    there e k q =
        lookups.command_there c (string_of "cCI" e) (string_of "n" e) k
        (sym (ap (maybe none (λ (x : ℕ). command_number m.setup.table x (string_of "cCI" e) (string_of "n" e))) asked) ∙ q)

    all_there : all_commands s.table c f.entries f.count ≡ not (any_unknown_command m j)
    all_there =
        ap (all_commands s.table c f.entries) (r.count g)
        ∙ by_places (λ (y : Bool) (e : Json). both y (is_some (command_asked m j e))) null (entries_of "arg" j) (all_commands s.table c f.entries)
        (λ i b. ap (both (all_commands s.table c f.entries i)) (ap is_sought (sought_at i b) ∙ is_sought_lem (command_asked m j (entry i))))
        ∙ all_pass (λ (e : Json). is_some (command_asked m j e)) true (entries_of "arg" j)

    -- ---- ranges
    abbrev in_its : Json → Bool
    in_its e = maybe true (λ i. in_range_of (command_row m.setup.table i) (value_asked e)) (command_asked m j e)

    range_of : (e : Json) (o : Option ℕ) → command_asked m j e ≡ o
        → within s.table (sought_for o) (value_asked e) ≡ maybe true (λ i. in_range_of (command_row m.setup.table i) (value_asked e)) o
    range_of e none q = refl
    range_of e (some k) q =
        ap (λ (x : SiteTable). in_range (get_or x.commands k no_item) (value_asked e)) h.items.setup.table ∙ lookups.range k (there e k q) (value_asked e)

    within_at : (i : ℕ) → i < length (entries_of "arg" j)
        → within s.table (command_sought s.table c (entry_at f.entries i)) (entry_at f.entries i).value ≡ in_its (entry i)
    within_at i b = ap₂ (within s.table) (sought_at i b) (value_at i b) ∙ range_of (entry i) (command_asked m j (entry i)) refl

    all_within_lem : all_within s.table c f.entries f.count ≡ not (any_out_of_range m j)
    all_within_lem =
        ap (all_within s.table c f.entries) (r.count g)
        ∙ by_places (λ (y : Bool) (e : Json). both y (in_its e)) null (entries_of "arg" j) (all_within s.table c f.entries)
        (λ i b. ap (both (all_within s.table c f.entries i)) (within_at i b))
        ∙ all_pass in_its true (entries_of "arg" j)
        ∙ ap not (any_same (λ (e : Json). not (in_its e)) (λ (e : Json). maybe false (λ i. not (in_range_of (command_row m.setup.table i) (value_asked e))) (command_asked m j e))
        (λ e. not_maybe (λ (i : ℕ). in_range_of (command_row m.setup.table i) (value_asked e)) (command_asked m j e)) (entries_of "arg" j))

    -- ---- what is handed over
    abbrev handed : ℕ → ℤ → Command
    handed number value = record { number = number; value = value }

    abbrev handed_for : Json → Command
    handed_for e = handed (or_else 0 (command_asked m j e)) (value_asked e)

    handed_all : commands_to s.table c f.entries f.count ≡ map handed_for (entries_of "arg" j)
    handed_all =
        ap (commands_to s.table c f.entries) (r.count g)
        ∙ by_places (λ (zs : List Command) (e : Json). zs ++ (handed_for e ∷ [])) null (entries_of "arg" j) (commands_to s.table c f.entries)
        (λ i b. ap (λ (x : Command). commands_to s.table c f.entries i ++ (x ∷ []))
        (ap₂ handed (ap number_of (sought_at i b) ∙ number_is (command_asked m j (entry i))) (value_at i b)))
        ∙ each_behind handed_for [] (entries_of "arg" j)

    number_range : (e : Json) (o : Option ℕ) → command_asked m j e ≡ o → or_else 0 o < 2 ^ 32
    number_range e none q = lit< tt
    number_range e (some k) q = omega (arith, there e k q, h.items.setup.allowed.most_commands)

    same_commands : (es : List Json) → SameCommands (map handed_for es) (map (command_of_entry m j) es)
    same_commands [] = no_command
    same_commands (e ∷ es) = one_command (number_range e (command_asked m j e) refl) (value_range e) (same_commands es)

  handed_so : (o : Option ℕ) → component_asked m j ≡ o → SameCommands (commands_of s.table f (sought_for o)) (commands_asked m j)
  handed_so none a = rw a no_command
  handed_so (some c) a =
      subst (λ (q : Option ℕ). SameCommands (commands_to s.table c f.entries f.count) (pick (is_some q) (map (command_of_entry m j) (entries_of "arg" j)) [])) (sym a)
      (subst (λ (cs : List Command). SameCommands cs (map (command_of_entry m j) (entries_of "arg" j))) (sym (handed_all c a)) (same_commands c a (entries_of "arg" j)))

  -- ---- the entries told
  abbrev told_for : Option ℕ → Json → Status
  told_for o e = status (string_of "cCI" e) (string_of "n" e) (maybe Undefined (λ c. Recent (value_asked e)) o)

  value_so : (o : Option ℕ) (e : Json) → value_in (sought_for o) (command_of e) ≡ maybe Undefined (λ c. Recent (value_asked e)) o
  value_so none e = refl
  value_so (some c) e = refl

  told_at : (o : Option ℕ) (i : ℕ) → i < length (entries_of "arg" j) → told_of (sought_for o) (entry_at f.entries i) ≡ told_for o (entry i)
  unfolding told_of
  told_at o i b =
      ap (told_of (sought_for o)) (at i b)
      ∙ ap₂ (λ (c n : Bytes). status c n (value_in (sought_for o) (command_of (entry i)))) ((Reads.kept).kept (string_of "cCI" (entry i))) ((Reads.kept).kept (string_of "n" (entry i)))
      ∙ ap (status (string_of "cCI" (entry i)) (string_of "n" (entry i))) (value_so o (entry i))

  told_all : (o : Option ℕ) → told_to (sought_for o) f.entries f.count ≡ map (told_for o) (entries_of "arg" j)
  told_all o =
      ap (told_to (sought_for o) f.entries) (r.count g)
      ∙ by_places (λ (zs : List Status) (e : Json). zs ++ (told_for o e ∷ [])) null (entries_of "arg" j) (told_to (sought_for o) f.entries)
      (λ i b. ap (λ (x : Status). told_to (sought_for o) f.entries i ++ (x ∷ [])) (told_at o i b))
      ∙ each_behind (told_for o) [] (entries_of "arg" j)

  told_so : (o : Option ℕ) → component_asked m j ≡ o → told (sought_for o) f ≡ command_entries m j
  unfolding told
  told_so o a = told_all o ∙ ap (λ (q : Option ℕ). map (told_for q) (entries_of "arg" j)) (sym a)

module _ {beside : Beside} (s : Site) (m : Machine) (h : Abstracts beside s m) (l : ℕ) (b : l < m.setup.links) (up : IsUp (life_at m l)) (t : ℕ) (id : Identity) (v : SixteenBytes id.bytes) (j : Json) (n : Bool) (ty : string_at "type" j ≡ some (type_name "CommandRequest" n)) (f : CommandFields) (r : CommandReads j f) where
  module _ (g : f.verdict ≡ Good) where
    abbrev answer : Option ℕ → Taken
    answer o = answering s (question_on l t id j) CommandResponse (text_of f.component) (told (sought_for o) f) (commands_of s.table f (sought_for o))

    answered : (o : Option ℕ) → component_asked m j ≡ o → SameTaken beside s m l t id j (answer o) (busy_if m l (not n))
    answered o a =
        answering_so s m h l b up t id v j n CommandResponse (text_of f.component) (told (sought_for o) f) (command_entries m j) (commands_of s.table f (sought_for o)) (commands_asked m j)
        (asks m l t id.bytes j n ty) (ap text_of (r.component g) ∙ (Reads.kept).kept (string_of "cId" j)) (told_so s m h j f r g o a) (handed_so s m h j f r g o a)

    abbrev judged : Bool → Bool → Option ℕ → Taken
    judged keeps knows o =
        pick keeps (pick knows (answer o) (not_acked s (question_on l t id j) unknown_command)) (not_acked s (question_on l t id j) bad_value)

    abbrev reason_for : Bool → Bool → Option String
    reason_for outside unknown = pick outside (some "Bad value") (pick unknown (some "Unknown command") (busy_if m l (not n)))

    by_known : (c : ℕ) → component_asked m j ≡ some c → (outside unknown : Bool)
        → SameTaken beside s m l t id j (judged (not outside) (not unknown) (some c)) (reason_for outside unknown)
    by_known c a true unknown = (reasons s m h l b t id j).bad_value_lem
    by_known c a false true = (reasons s m h l b t id j).unknown_command_lem
    by_known c a false false = answered (some c) a

    abbrev reason_behind : Option ℕ → Option String
    reason_behind o = pick (is_some o) (reason_for (any_out_of_range m j) (any_unknown_command m j)) (busy_if m l (not n))

    by_component : (o : Option ℕ) → component_asked m j ≡ o → SameTaken beside s m l t id j (ordered_of s (question_on l t id j) f (sought_for o)) (reason_behind o)
    by_component none a = answered none a
    by_component (some c) a =
        subst (λ (x : Bool). SameTaken beside s m l t id j (judged x (passes s.table f (sought_for (some c))) (some c)) (reason_behind (some c))) (sym (all_within_lem s m h j f r g c a))
        (subst (λ (x : Bool). SameTaken beside s m l t id j (judged (not (any_out_of_range m j)) x (some c)) (reason_behind (some c))) (sym (all_there s m h j f r g c a))
        (by_known c a (any_out_of_range m j) (any_unknown_command m j)))

    good : SameTaken beside s m l t id j (ordered_of s (question_on l t id j) f (component_sought s.table f.component)) (reason_behind (component_asked m j))
    good =
        subst (λ (x : Sought). SameTaken beside s m l t id j (ordered_of s (question_on l t id j) f x) (reason_behind (component_asked m j)))
        (sym (named_component s m h j f.component (r.component g))) (by_component (component_asked m j) refl)

  abbrev reason : Option String
  reason =
      pick (is_some (component_asked m j))
      (pick (any_out_of_range m j) (some "Bad value") (pick (any_unknown_command m j) (some "Unknown command") (busy_if m l (not n)))) (busy_if m l (not n))

  taken : SameTaken beside s m l t id j (command_taken s (question_on l t id j) f) (reason_by (verdict_in (is_older (life_at m l)) j) (further_reason m l j))
  unfolding command_taken
  taken =
      subst (λ (x : Verdict). SameTaken beside s m l t id j (command_taken s (question_on l t id j) f) (reason_by x (further_reason m l j))) (r.verdict (is_older (life_at m l)) (is_request j n ty))
      (subst (λ (x : Option String). SameTaken beside s m l t id j (command_taken s (question_on l t id j) f) (reason_by f.verdict x))
      (sym (((Reads.kept).further m l j).command_request n ty))
      (by_verdict_lem s m h l b t id j f.verdict (ordered_of s (question_on l t id j) f (component_sought s.table f.component)) reason good))

pub same_command : SameCommandRequest
same_command n beside s m h l b up t id v p j read ty = taken s m h l b up t id v j n ty (command_at p) ((Lists.kept).commands p j read)
