-- Their StatusRequest, by either type, is the machine's.
-- Assumes nothing.
use Rattle.basis.proofs.Std.{ℕ, ◌<◌, String, ◌≡◌, refl, sym, ap, ap₂, subst, ◌∙◌, Bool, true, false, not, List, [], ◌∷◌, ◌++◌, map, Option, some, none, ℤ, length, get_or, arith, pick, both, untrue}
use Rattle.number.specs.Signed.{Signed32}
use Rattle.number.proofs.RoundTrip.{signed_word}
use Rattle.identity.specs.declared.Identity.{Identity}
use Rattle.identity.specs.Read.{SixteenBytes}
use Rattle.label.specs.Label.{text_of}
use Rattle.json_value.specs.Grammar.{Json}
use Rattle.json_value.specs.Grammar.Json.{null}
use Rattle.write_message.specs.declared.Value.{Value}
use Rattle.write_message.specs.declared.Value.TheVariants.{Recent, Undefined}
use Rattle.write_message.specs.declared.Told.TheVariants.{Response}
use Rattle.write_message.specs.Message.{Status, status}
use Rattle.read_head.specs.declared.Verdict.{Verdict}
use Rattle.read_head.specs.declared.Verdict.TheVariants.{Good}
use Rattle.read_lists.specs.declared.StatusEntry.{StatusEntry}
use Rattle.read_lists.specs.declared.StatusFields.{StatusFields}
use Rattle.read_lists.specs.declared.Asking.TheVariants.{Plain}
use Rattle.read_lists.specs.Status.{status_at}
use Rattle.packet_lookup.specs.declared.Sought.{Sought}
use Rattle.packet_lookup.specs.Sought.{component_sought, entry_at}
use Rattle.send_message.specs.Sending.{status_value}
use Rattle.site.specs.declared.Site.{Site}
use Rattle.packet_answer.specs.Taken.{Taken, not_acked, answering, unknown_status}
use Rattle.packet_status.specs.StatusReply.{value_of, told_of, told_to, told, passes, requested_of, status_taken}
use Rattle.machine.specs.Words.{Bytes, maybe, is_some, or_else, any}
use Rattle.machine.specs.State.{Machine, life_at, value_at}
use Rattle.machine.specs.Life.{is_older}
use Rattle.machine.specs.Json.{string_at, string_of, entries_of}
use Rattle.machine.specs.Messages.{value_of as value_in, answer_entries}
use Rattle.machine.specs.Answers.{component_asked, status_asked}
use Rattle.machine.specs.Items.{number_asked}
use Rattle.machine.specs.Effects.{carried_out}
use Rattle.refine_read.specs.Verdicts.{verdict_in}
use Rattle.refine_read.specs.Head.{type_name}
use Rattle.refine_read.specs.Reasons.{by_verdict as reason_by, further_reason, busy_if, any_unknown}
use Rattle.refine_read.proofs.Kept as Reads
use Rattle.refine_read.specs.Statuses.{is_read, StatusReads}
use Rattle.refine_read.proofs.ListsKept as Lists
use Rattle.refine_read.proofs.Indexed.{by_places}
use Rattle.refine_parts.specs.Same.{Beside}
use Rattle.refine_parts.specs.Items.{status_for}
use Rattle.refine_calls.specs.Abstracts.{Abstracts}
use Rattle.refine_calls.specs.Calls.SameCommands.{no_command}
use Rattle.refine_packet.specs.Lookups.{sought_for}
use Rattle.refine_packet.specs.Taken.{SameTaken, question_on}
use Rattle.refine_packet.proofs.Refused.{reasons, by_verdict_lem}
use Rattle.refine_packet.specs.Ordered.{IsUp}
use Rattle.refine_packet.proofs.Replied.{Asks, answer as answering_so}
use Rattle.refine_packet.specs.Statuses.{SameStatusRequest}
use Rattle.refine_packet.proofs.Entries.{each_behind, component_sought_lem, sought_at, all_known, there, first_known}

is_list : (j : Json) (n : Bool) → string_at "type" j ≡ some (type_name "StatusRequest" n) → is_read false j ≡ true
is_list j false ty = rw ty
is_list j true ty = rw ty

asks : (m : Machine) (l t : ℕ) (id : Bytes) (j : Json) (n : Bool) → string_at "type" j ≡ some (type_name "StatusRequest" n) → Asks m l t id j n Response (answer_entries m j) []
unfolding carried_out
asks m l t id j false ty = record { at_once = rw ty; replies = rw ty; does = rw ty; told = rw ty }
asks m l t id j true ty = record { at_once = rw ty; replies = rw ty; does = rw ty; told = rw ty }

-- a status' value as it is
value_same : (o : Option ℤ) → ((v : ℤ) → o ≡ some v → Signed32 v) → status_value (status_for o) ≡ value_in false o
value_same none f = refl
value_same (some v) f = ap Recent (signed_word v (f v refl))

map_known : {A B : Type 0} (q : A → Bool) (k n : A → B) → ((a : A) → q a ≡ true → k a ≡ n a) → (xs : List A) → any (λ a. not (q a)) xs ≡ false → map k xs ≡ map n xs
map_known q k n e [] u = refl
map_known {B = B} q k n e (x ∷ xs) u =
    ap₂ (λ (y : B) (ys : List B). y ∷ ys) (e x (first_known q x xs u).0) (map_known q k n e xs (first_known q x xs u).1)

module _ {beside : Beside} (s : Site) (m : Machine) (h : Abstracts beside s m) (l : ℕ) (b : l < m.setup.links) (up : IsUp (life_at m l)) (t : ℕ) (id : Identity) (v : SixteenBytes id.bytes) (j : Json) (n : Bool) (ty : string_at "type" j ≡ some (type_name "StatusRequest" n)) (f : StatusFields) (r : StatusReads false (is_older (life_at m l)) j f) where
  -- an entry with a value
  abbrev entry_with : (Json → Value) → Json → Status
  entry_with value e = status (string_of "sCI" e) (string_of "n" e) (value e)

  module _ (g : f.verdict ≡ Good) where
    texts_so : (i : ℕ) → i < length (entries_of "sS" j) → (x y : Value) → x ≡ y
        → status (text_of (entry_at f.entries i).code) (text_of (entry_at f.entries i).name) x
        ≡ status (string_of "sCI" (get_or (entries_of "sS" j) i null)) (string_of "n" (get_or (entries_of "sS" j) i null)) y
    texts_so i a x y e =
        ap (λ (w : StatusEntry). status (text_of w.code) (text_of w.name) x) (r.at g i (omega (arith, r.count g, a)))
        ∙ ap₂ (λ (c n : Bytes). status c n x) ((Reads.kept).kept (string_of "sCI" (get_or (entries_of "sS" j) i null))) ((Reads.kept).kept (string_of "n" (get_or (entries_of "sS" j) i null)))
        ∙ ap (status (string_of "sCI" (get_or (entries_of "sS" j) i null)) (string_of "n" (get_or (entries_of "sS" j) i null))) e

    -- the values of the entries, as the code looks them up
    abbrev value_for : Option ℕ → Json → Value
    value_for none e = Undefined
    value_for (some c) e = value_of s (sought_for (status_asked m j e))

    told_at : (o : Option ℕ) → component_asked m j ≡ o → (i : ℕ) → i < length (entries_of "sS" j)
        → told_of s (sought_for o) (entry_at f.entries i) ≡ entry_with (value_for o) (get_or (entries_of "sS" j) i null)
    unfolding told_of
    told_at none a i e = texts_so i e _ _ refl
    told_at (some c) a i e = texts_so i e _ _ (ap (value_of s) (sought_at s m h false (is_older (life_at m l)) j f r g c a i e))

    told_all : (o : Option ℕ) → component_asked m j ≡ o → told_to s (sought_for o) f.entries f.count ≡ map (entry_with (value_for o)) (entries_of "sS" j)
    told_all o a =
        ap (told_to s (sought_for o) f.entries) (r.count g)
        ∙ by_places (λ (zs : List Status) (e : Json). zs ++ (entry_with (value_for o) e ∷ [])) null (entries_of "sS" j) (told_to s (sought_for o) f.entries)
        (λ i e. ap (λ (x : Status). told_to s (sought_for o) f.entries i ++ (x ∷ [])) (told_at o a i e))
        ∙ each_behind (entry_with (value_for o)) [] (entries_of "sS" j)

    value_so : (c : ℕ) → component_asked m j ≡ some c → (e : Json) (o : Option ℕ) → status_asked m j e ≡ o → is_some o ≡ true
        → value_of s (sought_for o) ≡ value_in false (value_at m (or_else 0 o))
    value_so c a e (some k) q y =
        ap status_value (h.items.statuses k (there s m h false (is_older (life_at m l)) j f r g c a e k q)) ∙ value_same (value_at m k) (h.items.values k)
    value_so c a e none q y = untrue y

    abbrev answer_by : Option ℕ → Json → Status
    answer_by o e = entry_with (λ x. maybe Undefined (λ (c : ℕ). value_in false (value_at m (number_asked m j x))) o) e

    entries_so : (o : Option ℕ) → component_asked m j ≡ o → both (is_some o) (any_unknown m j) ≡ false
        → map (entry_with (value_for o)) (entries_of "sS" j) ≡ map (answer_by o) (entries_of "sS" j)
    entries_so none a u = refl
    entries_so (some c) a u =
        map_known (λ (e : Json). is_some (status_asked m j e)) (entry_with (value_for (some c))) (answer_by (some c))
        (λ e y. ap (status (string_of "sCI" e) (string_of "n" e)) (value_so c a e (status_asked m j e) refl y))
        (entries_of "sS" j) u

    told_so : (o : Option ℕ) → component_asked m j ≡ o → both (is_some o) (any_unknown m j) ≡ false → told s (sought_for o) f ≡ answer_entries m j
    unfolding told
    told_so o a u = told_all o a ∙ entries_so o a u ∙ ap (λ (q : Option ℕ). map (answer_by q) (entries_of "sS" j)) (sym a)

    passes_so : (o : Option ℕ) → component_asked m j ≡ o → passes s f (sought_for o) ≡ not (both (is_some o) (any_unknown m j))
    passes_so none a = refl
    passes_so (some c) a = all_known s m h false (is_older (life_at m l)) j f r g c a

    abbrev answer : Option ℕ → Taken
    answer o = answering s (question_on l t id j) Response (text_of f.component) (told s (sought_for o) f) []

    by_known : (o : Option ℕ) → component_asked m j ≡ o → (z : Bool) → both (is_some o) (any_unknown m j) ≡ z
        → SameTaken beside s m l t id j (pick (not z) (answer o) (not_acked s (question_on l t id j) unknown_status)) (pick z (some "Unknown status") (busy_if m l (not n)))
    by_known o a true u = (reasons s m h l b t id j).unknown_status_lem
    by_known o a false u =
        answering_so s m h l b up t id v j n Response (text_of f.component) (told s (sought_for o) f) (answer_entries m j) [] [] (asks m l t id.bytes j n ty)
        (ap text_of (r.component g) ∙ (Reads.kept).kept (string_of "cId" j)) (told_so o a u) no_command

    by_component : (o : Option ℕ) → component_asked m j ≡ o
        → SameTaken beside s m l t id j (requested_of s (question_on l t id j) f (sought_for o)) (pick (both (is_some o) (any_unknown m j)) (some "Unknown status") (busy_if m l (not n)))
    by_component o a =
        subst (λ (x : Bool). SameTaken beside s m l t id j (pick x (answer o) (not_acked s (question_on l t id j) unknown_status)) (pick (both (is_some o) (any_unknown m j)) (some "Unknown status") (busy_if m l (not n))))
        (sym (passes_so o a)) (by_known o a (both (is_some o) (any_unknown m j)) refl)

  abbrev reason : Option String
  reason = pick (both (is_some (component_asked m j)) (any_unknown m j)) (some "Unknown status") (busy_if m l (not n))

  good : f.verdict ≡ Good → SameTaken beside s m l t id j (requested_of s (question_on l t id j) f (component_sought s.table f.component)) reason
  good g =
      subst (λ (x : Sought). SameTaken beside s m l t id j (requested_of s (question_on l t id j) f x) reason) (sym (component_sought_lem s m h false (is_older (life_at m l)) j f r g))
      (by_component g (component_asked m j) refl)

  taken : SameTaken beside s m l t id j (status_taken s (question_on l t id j) f) (reason_by (verdict_in (is_older (life_at m l)) j) (further_reason m l j))
  unfolding status_taken
  taken =
      subst (λ (x : Verdict). SameTaken beside s m l t id j (status_taken s (question_on l t id j) f) (reason_by x (further_reason m l j))) (r.verdict (is_list j n ty))
      (subst (λ (x : Option String). SameTaken beside s m l t id j (status_taken s (question_on l t id j) f) (reason_by f.verdict x))
      (sym (((Reads.kept).further m l j).status_request n ty))
      (by_verdict_lem s m h l b t id j f.verdict (requested_of s (question_on l t id j) f (component_sought s.table f.component)) reason good))

pub same_request : SameStatusRequest
same_request n beside s m h l b up t id v p j read ty = taken s m h l b up t id v j n ty (status_at Plain p) ((Lists.kept).statuses false (is_older (life_at m l)) p j read)
