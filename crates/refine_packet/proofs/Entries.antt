-- The entries of a packet, one by one: which statuses of a known component they name.
-- Assumes nothing.
use Rattle.basis.proofs.Std.{ℕ, ◌<◌, ◌≡◌, refl, sym, ap, ap₂, ◌∙◌, Bool, true, false, not, List, [], ◌∷◌, ◌++◌, map, Option, some, none, length, get_or, arith, pick, both, untrue}
use Rattle.label.specs.declared.Label.{Label}
use Rattle.label.specs.Label.{label_of}
use Rattle.table_whole.specs.declared.SiteTable.{SiteTable}
use Rattle.table_whole.specs.Memory.{memory_of}
use Rattle.json_value.specs.Grammar.{Json}
use Rattle.json_value.specs.Grammar.Json.{null}
use Rattle.read_head.specs.declared.Verdict.TheVariants.{Good}
use Rattle.read_lists.specs.declared.StatusFields.{StatusFields}
use Rattle.packet_lookup.specs.Sought.{component_sought, status_sought, entry_at, is_sought, all_statuses}
use Rattle.site.specs.declared.Site.{Site}
use Rattle.machine.specs.Words.{Bytes, maybe, is_some, any}
use Rattle.machine.specs.State.{Machine}
use Rattle.machine.specs.Json.{string_of, entries_of}
use Rattle.machine.specs.Table.{status_number}
use Rattle.machine.specs.Answers.{component_asked, status_asked}
use Rattle.refine_read.specs.Reasons.{any_unknown}
use Rattle.refine_read.proofs.Kept as Reads
use Rattle.refine_read.specs.Statuses.{entry_of, StatusReads}
use Rattle.refine_read.proofs.Indexed.{done, by_places}
use Rattle.refine_parts.specs.Same.{Beside}
use Rattle.refine_parts.proofs.ItemLists.{append-nil, append_assoc}
use Rattle.refine_calls.specs.Abstracts.{Abstracts}
use Rattle.refine_packet.specs.Lookups.{sought_for}
use Rattle.refine_packet.proofs.Lookups.{same_lookups}

pub is_sought_lem : (o : Option ℕ) → is_sought (sought_for o) ≡ is_some o
is_sought_lem none = refl
is_sought_lem (some k) = refl

-- all pass where none fails
pub all_pass : {A : Type 0} (q : A → Bool) (x : Bool) (xs : List A) → done (λ y a. both y (q a)) x xs ≡ both x (not (any (λ a. not (q a)) xs))
all_pass q true [] = refl
all_pass q false [] = refl
all_pass q x (a ∷ xs) = all_pass q (both x (q a)) xs ∙ by x (q a)
  where
    by : (y z : Bool) → both (both y z) (not (any (λ b. not (q b)) xs)) ≡ both y (not (pick (not z) true (any (λ b. not (q b)) xs)))
    by true true = refl
    by true false = refl
    by false z = refl

-- entry after entry, each behind the ones before
pub each_behind : {A B : Type 0} (k : A → B) (ys : List B) (xs : List A) → done (λ zs a. zs ++ (k a ∷ [])) ys xs ≡ ys ++ map k xs
each_behind k ys [] = sym (append-nil ys)
each_behind k ys (x ∷ xs) = each_behind k (ys ++ (k x ∷ [])) xs ∙ append_assoc ys (k x ∷ []) (map k xs)

-- the component that a packet names
pub named_component : {beside : Beside} (s : Site) (m : Machine) → Abstracts beside s m → (j : Json) (id : Label) → id ≡ label_of (string_of "cId" j) → component_sought s.table id ≡ sought_for (component_asked m j)
named_component s m h j id e =
    ap (λ (x : SiteTable). component_sought x id) h.items.setup.table
    ∙ ap (component_sought (memory_of m.setup.table)) e
    ∙ (same_lookups h.items.setup.edition m.setup.table h.items.setup.allowed).component (string_of "cId" j)

module _ {beside : Beside} (s : Site) (m : Machine) (h : Abstracts beside s m) (subscribing older : Bool) (j : Json) (f : StatusFields) (r : StatusReads subscribing older j f) (g : f.verdict ≡ Good) where
  pub component_sought_lem : component_sought s.table f.component ≡ sought_for (component_asked m j)
  component_sought_lem = named_component s m h j f.component (r.component g)

  module _ (c : ℕ) (asked : component_asked m j ≡ some c) where
    pub entry_sought : (e : Json) → status_sought (memory_of m.setup.table) c (entry_of subscribing older e) ≡ sought_for (status_asked m j e)
    entry_sought e =
        (same_lookups h.items.setup.edition m.setup.table h.items.setup.allowed).status c (entry_of subscribing older e)
        ∙ ap₂ (λ (x y : Bytes). sought_for (status_number m.setup.table c x y)) ((Reads.kept).kept (string_of "sCI" e)) ((Reads.kept).kept (string_of "n" e))
        ∙ sym (ap (λ (o : Option ℕ). sought_for (maybe none (λ (x : ℕ). status_number m.setup.table x (string_of "sCI" e) (string_of "n" e)) o)) asked)

    pub sought_at : (i : ℕ) → i < length (entries_of "sS" j)
        → status_sought s.table c (entry_at f.entries i) ≡ sought_for (status_asked m j (get_or (entries_of "sS" j) i null))
    sought_at i b =
        ap (λ (x : SiteTable). status_sought x c (entry_at f.entries i)) h.items.setup.table
        ∙ ap (status_sought (memory_of m.setup.table) c) (r.at g i (omega (arith, r.count g, b)))
        ∙ entry_sought (get_or (entries_of "sS" j) i null)

    pub all_known : all_statuses s.table c f.entries f.count ≡ not (any_unknown m j)
    all_known =
        ap (all_statuses s.table c f.entries) (r.count g)
        ∙ by_places (λ (y : Bool) (e : Json). both y (is_some (status_asked m j e))) null (entries_of "sS" j) (all_statuses s.table c f.entries)
        (λ i b. ap (both (all_statuses s.table c f.entries i)) (ap is_sought (sought_at i b) ∙ is_sought_lem (status_asked m j (get_or (entries_of "sS" j) i null))))
        ∙ all_pass (λ (e : Json). is_some (status_asked m j e)) true (entries_of "sS" j)

    -- its number is that of a status
    pub there : (e : Json) (k : ℕ) → status_asked m j e ≡ some k → k < length m.statuses
    there e k q =
        omega (
          arith,
          (same_lookups h.items.setup.edition m.setup.table h.items.setup.allowed).status_there c (string_of "sCI" e) (string_of "n" e) k
              (sym (ap (maybe none (λ (x : ℕ). status_number m.setup.table x (string_of "sCI" e) (string_of "n" e))) asked) ∙ q),
          h.items.status_count,
        )

-- where no entry is unknown, the first is known and no other is unknown
pub first_known : {A : Type 0} (q : A → Bool) (a : A) (xs : List A) → any (λ b. not (q b)) (a ∷ xs) ≡ false → (q a ≡ true) × (any (λ b. not (q b)) xs ≡ false)
first_known q a xs = by (q a)
  where
    by : (z : Bool) → pick (not z) true (any (λ b. not (q b)) xs) ≡ false → (z ≡ true) × (any (λ b. not (q b)) xs ≡ false)
    by true e = (refl, e)
    by false e = untrue (sym e)
