-- The pieces of a message are, together, its bytes.
-- Assumes nothing.
use Rattle.basis.proofs.Std.{ℕ, ◌≡◌, refl, ap, ◌∙◌, Bool, true, false, List, [], ◌∷◌, ◌++◌, append_assoc, pick, text}
use Rattle.output.specs.Put.{concat}
use Rattle.json_value.specs.Grammar.Json.{bool}
use Rattle.json_value.specs.Grammar.Jsons.{jcons}
use Rattle.json_value.specs.Grammar.Members.{mnil}
use Rattle.json_write.specs.Text.{text_onto, elements_onto, members_onto}
use Rattle.write_message.specs.declared.Value.{Value}
use Rattle.write_message.specs.declared.Value.TheVariants.{Recent, Old, Unknown, Undefined}
use Rattle.write_message.specs.declared.Told.{Told}
use Rattle.write_message.specs.declared.Told.TheVariants.{Response, Update, Command}
use Rattle.write_message.specs.Message.{Message, Status, status}
use Rattle.write_message.specs.Message.Message.{version, watchdog, ack, not_ack, alarm, aggregated, statuses, included}
use Rattle.write_message.specs.Listing.{element, said, code_name, value_name, quality_name, value_json, quality_text, json_of, bytes_of, status_json, statuses_json}
use Rattle.write_message.specs.Pieces.{head_pieces, own_pieces, component_pieces, about_pieces, state_pieces, rest_pieces, high_pieces, low_pieces, by_kind, told_pieces, status_head, included_head, entry_start, value_pieces, entry_pieces, entries_pieces, status_tail, pieces}
use Rattle.write_message.proofs.Onto.{behind}

flag_text : (b : Bool) (r : List ℕ) → pick b (text "true,") (text "false,") ++ r ≡ text_onto (bool b) (0x2c ∷ r)
flag_text true r = refl
flag_text false r = refl

last_flag_text : (b : Bool) (r : List ℕ) → pick b (text "true]}\u{c}") (text "false]}\u{c}") ++ r ≡ text_onto (bool b) (text "]}\u{c}" ++ r)
last_flag_text true r = refl
last_flag_text false r = refl

event_text : (a b : Bool) (r : List ℕ)
    → pick a (text "\",\"xACId\":\"\",\"xNACId\":\"\",\"aSp\":\"Issue") (pick b (text "\",\"xACId\":\"\",\"xNACId\":\"\",\"aSp\":\"Acknowledge") (text "\",\"xACId\":\"\",\"xNACId\":\"\",\"aSp\":\"Suspend")) ++ r
    ≡ text "\",\"xACId\":\"\",\"xNACId\":\"\",\"aSp\":\"" ++ (pick a (text "Issue") (pick b (text "Acknowledge") (text "Suspend")) ++ r)
event_text true b r = refl
event_text false true r = refl
event_text false false r = refl

acknowledged_text : (b : Bool) (r : List ℕ)
    → pick b (text "\",\"ack\":\"Acknowledged") (text "\",\"ack\":\"notAcknowledged") ++ r ≡ text "\",\"ack\":\"" ++ (pick b (text "Acknowledged") (text "notAcknowledged") ++ r)
acknowledged_text true r = refl
acknowledged_text false r = refl

active_text : (b : Bool) (r : List ℕ) → pick b (text "\",\"aS\":\"Active") (text "\",\"aS\":\"inActive") ++ r ≡ text "\",\"aS\":\"" ++ (pick b (text "Active") (text "inActive") ++ r)
active_text true r = refl
active_text false r = refl

suspended_text : (b : Bool) (r : List ℕ)
    → pick b (text "\",\"sS\":\"Suspended") (text "\",\"sS\":\"notSuspended") ++ r ≡ text "\",\"sS\":\"" ++ (pick b (text "Suspended") (text "notSuspended") ++ r)
suspended_text true r = refl
suspended_text false r = refl

category_text : (b : Bool) (r : List ℕ)
    → pick b (text "\",\"cat\":\"T\",\"pri\":\"") (text "\",\"cat\":\"D\",\"pri\":\"") ++ r ≡ text "\",\"cat\":\"" ++ (pick b (text "T") (text "D") ++ (text "\",\"pri\":\"" ++ r))
category_text true r = refl
category_text false r = refl

-- how an entry begins, with a comma where it is not the first
start_text : (kind : Told) (first : Bool) (r : List ℕ)
    → entry_start kind first ++ r ≡ pick first [] (text ",") ++ (text "{\"" ++ (text (code_name kind) ++ (text "\":\"" ++ r)))
unfolding by_kind
start_text Response true r = refl
start_text Update true r = refl
start_text Command true r = refl
start_text Response false r = refl
start_text Update false r = refl
start_text Command false r = refl

-- how it ends, from the quote behind its name on
value_text : (kind : Told) (v : Value) (more : List (List ℕ))
    → concat (value_pieces kind v ++ more)
    ≡ text "\"," ++ members_onto (element (value_name kind) (value_json v) (said (quality_name kind) (quality_text v) mnil)) (text "}" ++ concat more)
unfolding by_kind value_pieces
value_text Response (Recent v) more = refl
value_text Response (Old v) more = refl
value_text Response Unknown more = refl
value_text Response Undefined more = refl
value_text Update (Recent v) more = refl
value_text Update (Old v) more = refl
value_text Update Unknown more = refl
value_text Update Undefined more = refl
value_text Command (Recent v) more = refl
value_text Command (Old v) more = refl
value_text Command Unknown more = refl
value_text Command Undefined more = refl

-- an entry, with a comma before it where it is not the first
entry_text : (kind : Told) (first : Bool) (code name : List ℕ) (v : Value) (more : List (List ℕ))
    → concat (entry_pieces kind first (status code name v) ++ more) ≡ pick first [] (text ",") ++ text_onto (status_json kind (status code name v)) (concat more)
unfolding entry_pieces
entry_text kind first code name v more =
    start_text kind first (code ++ (text "\",\"n\":\"" ++ (name ++ concat (value_pieces kind v ++ more))))
    ∙ ap (λ (l : List ℕ). pick first [] (text ",") ++ (text "{\"" ++ (text (code_name kind) ++ (text "\":\"" ++ (code ++ (text "\",\"n\":\"" ++ (name ++ l))))))) (value_text kind v more)

-- entries, a comma before each
others : Told → List Status → List ℕ → List ℕ
others kind [] r = r
others kind (s ∷ ss) r = 0x2c ∷ text_onto (status_json kind s) (others kind ss r)

others_are : (kind : Told) (s : Status) (ss : List Status) (r : List ℕ) → text_onto (status_json kind s) (others kind ss r) ≡ elements_onto (jcons (status_json kind s) (statuses_json kind ss)) r
unfolding others
others_are kind s [] r = refl
others_are kind s (t ∷ ss) r = ap (λ (l : List ℕ). text_onto (status_json kind s) (0x2c ∷ l)) (others_are kind t ss r)

others_text : (kind : Told) (ss : List Status) (more : List (List ℕ)) → concat (entries_pieces kind false ss ++ more) ≡ others kind ss (concat more)
unfolding others entries_pieces
others_text kind [] more = refl
others_text kind (s ∷ ss) more =
    ap concat (append_assoc (entry_pieces kind false s) (entries_pieces kind false ss) more)
    ∙ entry_text kind false s.code s.name s.value (entries_pieces kind false ss ++ more)
    ∙ ap (λ (l : List ℕ). 0x2c ∷ text_onto (status_json kind s) l) (others_text kind ss more)

pub entries_text : (kind : Told) (ss : List Status) (more : List (List ℕ)) → concat (entries_pieces kind true ss ++ more) ≡ elements_onto (statuses_json kind ss) (concat more)
unfolding entries_pieces
entries_text kind [] more = refl
entries_text kind (s ∷ ss) more =
    ap concat (append_assoc (entry_pieces kind true s) (entries_pieces kind false ss) more)
    ∙ entry_text kind true s.code s.name s.value (entries_pieces kind false ss ++ more)
    ∙ ap (text_onto (status_json kind s)) (others_text kind ss more)
    ∙ others_are kind s ss (concat more)

onto : (m : Message) → concat (pieces m) ≡ text_onto (json_of m) (text "\u{c}")
unfolding head_pieces own_pieces component_pieces about_pieces state_pieces rest_pieces high_pieces low_pieces by_kind told_pieces status_head included_head pieces
onto (version id site sxl) = refl
onto (watchdog id time) = refl
onto (ack received) = refl
onto (not_ack received reason) = refl
onto (alarm id component code s) = simp (event_text, acknowledged_text, active_text, suspended_text, category_text)
onto (aggregated id component time value) = simp (flag_text, last_flag_text)
onto (statuses Response id component time entries) = rw (entries_text Response entries status_tail)
onto (statuses Update id component time entries) = rw (entries_text Update entries status_tail)
onto (statuses Command id component time entries) = rw (entries_text Command entries status_tail)
onto (included Response received component time entries) = rw (entries_text Response entries status_tail)
onto (included Update received component time entries) = rw (entries_text Update entries status_tail)
onto (included Command received component time entries) = rw (entries_text Command entries status_tail)

pub whole : (m : Message) → concat (pieces m) ≡ bytes_of m
whole m = onto m ∙ behind (json_of m) (text "\u{c}")
