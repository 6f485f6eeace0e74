-- The fields of a CommandRequest that is not refused: labels, values of 32 bits, and 16 entries at most; and the entries told.
-- Assumes nothing.
use Rattle.basis.proofs.Std.{ℕ, zero, suc, ◌+◌, ◌≤◌, ◌<◌, ◌≡◌, refl, sym, ◌∙◌, ap, subst, List, [], ◌∷◌, ◌⊎◌, inl, inr, arith, ltb-true, ltb, length, get_or, set, length-set, length-append, length-replicate, get_or-set_same, get_or-set_other, text, picked, eq_or_ne}
use Rattle.number.specs.Signed.{Signed32}
use Rattle.number.specs.declared.Int.{Int}
use Rattle.number.specs.declared.Int.TheVariants.{Is as IsInt, No as NoInt}
use Rattle.number.specs.Reading.{ReadsInt, is_int, no_int}
use Rattle.label.specs.Label.{text_of}
use Rattle.json_value.specs.Reader.{skip_ws}
use Rattle.read_versions.specs.Numeral.{int_in}
use Rattle.read_versions.proofs.Numerals.{integer}
use Rattle.read_head.specs.declared.Verdict.{Verdict}
use Rattle.read_head.specs.declared.Verdict.TheVariants.{Good, Missing, Bad}
use Rattle.read_head.specs.declared.GotLabel.{GotLabel}
use Rattle.read_head.specs.Word.{Word, absent, other, word, word_at}
use Rattle.read_head.specs.Values.{worst, got_label}
use Rattle.read_lists.specs.Items.{Item, Items, absent as no_list, other as no_such_list, items, list_at}
use Rattle.read_lists.specs.Gather.{gather}
use Rattle.read_commands.specs.declared.GotValue.{GotValue}
use Rattle.read_commands.specs.declared.CommandEntry.{CommandEntry}
use Rattle.read_commands.specs.declared.GotCommand.{GotCommand}
use Rattle.read_commands.specs.declared.CommandList.{CommandList}
use Rattle.read_commands.specs.declared.CommandFields.{CommandFields}
use Rattle.read_commands.specs.Command.{valued, got_value, command_of, no_command, command_by, command_of_item, no_commands, push_command, commands_of, command_from, command_at}
use Rattle.packet_lookup.specs.declared.Sought.{Sought}
use Rattle.packet_lookup.specs.declared.Sought.TheVariants.{Is, Nothing}
use Rattle.packet_command.specs.Commanding.{entry_at, value_in, told_of, told_to}
use Rattle.write_laws.specs.Formed.{Label, FormedValue, FormedStatus, FormedStatuses}
use Rattle.write_laws.specs.Formed.FormedValue.{recent, undefined}
use Rattle.write_laws.specs.Formed.FormedStatuses.{none}
use Rattle.call_laws.proofs.Entries.{which, worst_left, worst_right, GoodLabel, got_label_lem, formed_behind}

-- a good value has 32 bits
abbrev GoodValue : GotValue → Type 0
GoodValue g = g.verdict ≡ Good → Signed32 g.value

valued_good : (d : List ℕ) (r : Int) → ReadsInt d r → GoodValue (valued r)
valued_good d (IsInt v) (is_int w s e) = λ g. s
valued_good d NoInt (no_int n) = λ g. absurd (omega (arith, ap which g))

got_value_lem : (w : Word) → GoodValue (got_value w)
got_value_lem absent = λ g. absurd (omega (arith, ap which g))
got_value_lem other = λ g. absurd (omega (arith, ap which g))
got_value_lem (word d) = valued_good d (int_in d) (integer d)

pub record Labelled (e : CommandEntry) : Type 0 where
  pub code : Label (text_of e.code)
  pub name : Label (text_of e.name)
  pub value : Signed32 e.value

abbrev GoodCommand : GotCommand → Type 0
GoodCommand g = g.verdict ≡ Good → Labelled g.entry

command_good : (c n o : GotLabel) (v : GotValue) → GoodLabel c → GoodLabel n → GoodValue v → GoodCommand (command_of c n o v)
command_good c n o v a b d e =
    let both = worst_left (worst c.verdict n.verdict) (worst o.verdict v.verdict) e in
    record {
      code = a (worst_left c.verdict n.verdict both);
      name = b (worst_right c.verdict n.verdict both);
      value = d (worst_right o.verdict v.verdict (worst_right (worst c.verdict n.verdict) (worst o.verdict v.verdict) e));
    }

item_good : (x : Item) → GoodCommand (command_of_item x)
item_good x =
    picked GoodCommand x.object (command_by x.words) (record { verdict = Bad; entry = no_command })
    (λ t. command_good (got_label (x.words (text "cCI"))) (got_label (x.words (text "n"))) (got_label (x.words (text "cO"))) (got_value (x.words (text "v")))
    (got_label_lem (x.words (text "cCI"))) (got_label_lem (x.words (text "n"))) (got_value_lem (x.words (text "v"))))
    (λ t. λ g. absurd (omega (arith, ap which g)))

record Listed (l : CommandList) : Type 0 where
  few : l.count ≤ 16
  many : length l.entries ≡ 16
  good : l.verdict ≡ Good → (i : ℕ) → i < l.count → Labelled (get_or l.entries i no_command)

nothing_listed : (v : Verdict) → Listed (no_commands v)
nothing_listed v = record { few = omega arith; many = length-replicate 16 no_command; good = λ e i h. absurd (omega (arith, h)) }

push_listed : (l : CommandList) (g : GotCommand) → Listed l → GoodCommand g → Listed (push_command l g)
unfolding push_command
push_listed l g h p =
    picked Listed (ltb l.count 16) _ _
    (λ t. record {
      few = omega (arith, ltb-true l.count 16 t);
      many = length-set l.entries l.count g.entry ∙ h.many;
      good = λ e i j. at e i j (eq_or_ne i l.count) (ltb-true l.count 16 t);
    })
    (λ t. record {
      few = h.few;
      many = h.many;
      good = λ e. absurd (omega (arith, ap which (worst_right (worst l.verdict g.verdict) Bad e)));
    })
  where
    at : worst l.verdict g.verdict ≡ Good → (i : ℕ) → i < l.count + 1 → (i ≡ l.count) ⊎ (i ≡ l.count → ⊥) → l.count < 16
        → Labelled (get_or (set l.entries l.count g.entry) i no_command)
    at e i j (inl s) room =
        subst Labelled
        (sym (ap (λ (k : ℕ). get_or (set l.entries l.count g.entry) k no_command) s
        ∙ get_or-set_same l.entries l.count g.entry no_command (omega (arith, h.many, room))))
        (p (worst_right l.verdict g.verdict e))
    at e i j (inr s) room =
        subst Labelled (sym (get_or-set_other l.entries l.count i g.entry no_command s)) (h.good (worst_left l.verdict g.verdict e) i (omega (arith, j, s)))

gather_listed : (l : CommandList) (xs : List Item) → Listed l → Listed (gather (λ (a : CommandList) (x : Item). push_command a (command_of_item x)) l xs)
unfolding gather
gather_listed l [] h = h
gather_listed l (x ∷ xs) h = gather_listed (push_command l (command_of_item x)) xs (push_listed l (command_of_item x) h (item_good x))

commands_listed : (i : Items) → Listed (commands_of i)
commands_listed no_list = nothing_listed Missing
commands_listed no_such_list = nothing_listed Bad
commands_listed (items xs) = gather_listed (no_commands Good) xs (nothing_listed Good)

-- the fields of a packet that names a component and its entries well
pub record GoodCommands (f : CommandFields) : Type 0 where
  pub few : f.count ≤ 16
  pub component : f.verdict ≡ Good → Label (text_of f.component)
  pub entries : f.verdict ≡ Good → (i : ℕ) → i < f.count → Labelled (get_or f.entries i no_command)

fields_from : (c : GotLabel) (l : CommandList) → GoodLabel c → Listed l → GoodCommands (command_from c l)
fields_from c l a h =
    record {
      few = h.few;
      component = λ e. a (worst_left c.verdict l.verdict e);
      entries = λ e. h.good (worst_right c.verdict l.verdict e);
    }

pub commands_good : (packet : List ℕ) → GoodCommands (command_at packet)
unfolding command_at
commands_good packet =
    fields_from (got_label (word_at (skip_ws packet) (text "cId"))) (commands_of (list_at (skip_ws packet) (text "arg")))
    (got_label_lem (word_at (skip_ws packet) (text "cId"))) (commands_listed (list_at (skip_ws packet) (text "arg")))

-- ---- the entries told
module _ (component : Sought) where
  value_in_lem : (c : Sought) (e : CommandEntry) → Labelled e → FormedValue (value_in c e)
  value_in_lem (Is c) e l = recent l.value
  value_in_lem Nothing e l = undefined

  told_formed : (e : CommandEntry) → Labelled e → FormedStatus (told_of component e)
  unfolding told_of
  told_formed e l = record { code = l.code; name = l.name; value = value_in_lem component e l }

  pub told_commands_lem : (es : List CommandEntry) (n : ℕ) → ((i : ℕ) → i < n → Labelled (get_or es i no_command)) → FormedStatuses (told_to component es n)
  told_commands_lem es zero l = none
  told_commands_lem es (suc n) l =
      formed_behind (told_to component es n) (told_of component (entry_at es n)) (told_commands_lem es n (λ i j. l i (omega arith))) (told_formed (entry_at es n) (l n (omega arith)))

  pub commands_length : (es : List CommandEntry) (n : ℕ) → length (told_to component es n) ≡ n
  commands_length es zero = refl
  commands_length es (suc n) =
      omega (arith, length-append (told_to component es n) (told_of component (entry_at es n) ∷ []), commands_length es n)
