-- The aggregated value, and its records.
-- Assumes nothing.
use Rattle.basis.proofs.Std.{ℕ, zero, suc, ◌<◌, ◌≡◌, refl, sym, ap, ap₂, ◌∙◌, true, false, List, [], ◌∷◌, ◌++◌, map, mod-eq_of_lt, eqb, eqb-true, eqb-false, eq-eqb, ne_eqb, bool_cases}
use Rattle.entry.specs.declared.Entry.{Entry}
use Rattle.aggregated.specs.declared.Aggregated.{Aggregated}
use Rattle.aggregated.specs.Aggregated.{set_of}
use Rattle.aggregated.specs.Issued.{issued_of}
use Rattle.pool_laws.specs.Upwards.{entries_to, entry_if}
use Rattle.pool_laws.proofs.Entries.{none_to}
use Rattle.call_input.specs.Inputs.{aggregated_plan}
use Rattle.site.specs.declared.Site.{Site}
use Rattle.site.specs.Site.{with_aggregated as with_value, owner}
use Rattle.machine.specs.Words.{up_to}
use Rattle.machine.specs.State.{Issued, issued_for, Machine, with_aggregated}
use Rattle.machine.specs.State.Content.{of_aggregated}
use Rattle.machine.specs.Items.{aggregates}
use Rattle.demand_held.proofs.Lists.{each_of}
use Rattle.demand_held.proofs.Lists.Each.{no_more}
use Rattle.refine_parts.specs.Record.{unnumbered}
use Rattle.refine_parts.proofs.Entries.{contents}
use Rattle.refine_parts.specs.Items.{SameItems, SameEffect}
use Rattle.refine_parts.proofs.Setup.{moved}
use Rattle.refine_parts.proofs.ItemLists.{map-append}

abbrev valued : ℕ → ℕ → Aggregated
valued v t = record { time = t; value = v }

abbrev issued_to : ℕ → ℕ → ℕ → Issued
issued_to v t l = issued_for l (of_aggregated v t)

one_record : (k v t l : ℕ) → v < 256 → issued_of (valued v t) (owner k l) ≡ unnumbered k (issued_to v t l)
one_record k v t l b = rw (mod-eq_of_lt b)

all_records : (k v t : ℕ) → v < 256 → (n : ℕ) → entries_to (λ l. entry_if true (issued_of (valued v t) (owner k l))) n ≡ map (unnumbered k) (map (issued_to v t) (up_to n))
all_records k v t b zero = refl
all_records k v t b (suc n) =
    ap₂ (λ (a c : List Entry). a ++ c) (all_records k v t b n) (ap (λ (e : Entry). e ∷ []) (one_record k v t n b))
    ∙ sym (ap (map (unnumbered k)) (map-append (issued_to v t) (up_to n) (n ∷ [])) ∙ map-append (unnumbered k) (map (issued_to v t) (up_to n)) (issued_to v t n ∷ []))

unchanged : (a : Aggregated) (v t : ℕ) → eqb a.value v ≡ true → set_of a v t ≡ record { aggregated = a; changed = false }
unfolding set_of
unchanged a v t e = rw e

changes : (a : Aggregated) (v t : ℕ) → eqb a.value v ≡ false → set_of a v t ≡ record { aggregated = valued v t; changed = true }
unfolding set_of
changes a v t e = rw e

module _ (s : Site) (m : Machine) (h : SameItems s m) (v t : ℕ) where
  value_set : v < 256 → SameItems (with_value s (valued v t)) (with_aggregated v t m)
  value_set b =
      record {
        setup = moved h.setup;
        alarms = h.alarms;
        alarm_count = h.alarm_count;
        alarm_places = h.alarm_places;
        statuses = h.statuses;
        values = h.values;
        status_count = h.status_count;
        status_places = h.status_places;
        aggregated = refl;
        byte = b;
        subscriptions = h.subscriptions;
        one_each = h.one_each;
        within = λ x e. record { link = (h.within x e).link; status = (h.within x e).status };
        subscription_places = h.subscription_places;
      }

  pub same_aggregated : v < 256 → SameEffect (aggregated_plan s v t) (aggregates m v t)
  unfolding aggregates
  same_aggregated b =
      let q : s.aggregated.value ≡ m.aggregated = ap (λ (a : Aggregated). a.value) h.aggregated in
      bool_cases (eqb v m.aggregated)
      (λ e. rw (unchanged s.aggregated v t (eq-eqb s.aggregated.value v (q ∙ sym (eqb-true v m.aggregated e))), e)
      (record {
        items = h;
        records = record { issued = none_to (λ l. []) s.linkcount (λ i g. refl); told = no_more };
      }))
      (λ e. rw (changes s.aggregated v t (ne_eqb s.aggregated.value v (λ z. eqb-false v m.aggregated e (sym z ∙ q))), e)
      (record {
        items = value_set b;
        records = record {
          issued = rw h.setup.links (all_records s.site v t b m.setup.links);
          told = each_of (issued_to v t) (λ l. contents.aggregated v t b) (up_to m.setup.links);
        };
      }))
