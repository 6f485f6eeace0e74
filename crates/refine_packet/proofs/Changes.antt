-- What the entries of StatusSubscribe and StatusUnsubscribe change, one by one, and the records that are issued.
-- Assumes nothing.
use Rattle.basis.proofs.Std.{ℕ, ◌<◌, ◌≡◌, refl, sym, ap, ap₂, subst, ◌∙◌, Bool, true, false, not, List, [], ◌∷◌, ◌++◌, map, Option, some, none, arith, untrue}
use Rattle.entry.specs.declared.Entry.{Entry}
use Rattle.subscription.specs.declared.Subscription.{Subscription as Slot}
use Rattle.json_value.specs.Grammar.{Json}
use Rattle.json_value.specs.Grammar.Json.{null}
use Rattle.read_head.specs.declared.Verdict.TheVariants.{Good}
use Rattle.read_lists.specs.declared.StatusEntry.{StatusEntry}
use Rattle.read_lists.specs.declared.StatusFields.{StatusFields}
use Rattle.packet_lookup.specs.declared.Sought.{Sought}
use Rattle.site.specs.declared.Site.{Site}
use Rattle.site.specs.Parts.{with_subscription}
use Rattle.packet_subscribe.specs.Subscribing.{wanted, replaced_at, replaced, record_of, records}
use Rattle.machine.specs.Words.{is_some, or_else, any}
use Rattle.machine.specs.State.{Subscription, Issued, Machine, with_subscriptions, life_at}
use Rattle.machine.specs.Life.{is_older}
use Rattle.machine.specs.Json.{entries_of}
use Rattle.machine.specs.Answers.{component_asked, status_asked}
use Rattle.machine.specs.Items.{update, number_asked, without, subscribing as subscribing_to, subscribe_all, end_all}
use Rattle.demand_held.proofs.Lists.{Each, each_append}
use Rattle.demand_held.proofs.Lists.Each.{no_more}
use Rattle.refine_parts.specs.Same.{Beside}
use Rattle.refine_parts.specs.Record.{unnumbered, IsTold}
use Rattle.refine_read.specs.Statuses.{entry_of, StatusReads}
use Rattle.refine_read.proofs.Indexed.{done, by_places}
use Rattle.refine_parts.specs.Items.{SameItems}
use Rattle.refine_parts.proofs.ItemLists.{append-nil, append_assoc}
use Rattle.refine_parts.proofs.ItemActs.{item_acts}
use Rattle.refine_calls.specs.Abstracts.{Abstracts}
use Rattle.refine_calls.proofs.Inputs.{same_up}
use Rattle.refine_packet.specs.Lookups.{sought_for}
use Rattle.refine_packet.proofs.Entries.{sought_at, there, first_known}

module _ {beside : Beside} (s : Site) (m : Machine) (h : Abstracts beside s m) (l : ℕ) (b : l < m.setup.links) (t : ℕ) (subscribing : Bool) (j : Json) (f : StatusFields) (r : StatusReads subscribing (is_older (life_at m l)) j f) (g : f.verdict ≡ Good) (c : ℕ) (asked : component_asked m j ≡ some c) where
  abbrev unknown : List Json → Bool
  unknown es = any (λ e. not (is_some (status_asked m j e))) es

  -- ---- the subscriptions
  abbrev pub one_by : Bool → ℕ → Json → List Subscription → List Subscription
  one_by true i e subs = subscribing_to (is_older (life_at m l)) t l i e subs
  one_by false i e subs = without l i subs

  abbrev pub all_by : Bool → List Json → List Subscription → List Subscription
  all_by true es subs = subscribe_all m t l j es subs
  all_by false es subs = end_all m l j es subs

  abbrev replacing : Bool → Site → Json → Site
  replacing z now e = replaced_at now l (wanted z (entry_of z (is_older (life_at m l)) e) t) (sought_for (status_asked m j e))

  -- as it stands after some entries
  pub record Now (now : Site) (subs : List Subscription) : Type 0 where
    pub same : Abstracts beside now (with_subscriptions subs m)
    pub next : now.next ≡ s.next
    pub site : now.site ≡ s.site

  with_items : (now : Site) (subs news : List Subscription) → Now now subs → (i : ℕ) (x : Slot)
      → SameItems (with_subscription now i x) (with_subscriptions news m) → Now (with_subscription now i x) news
  with_items now subs news n i x e =
      record {
        same = record {
          items = e;
          last = n.same.last;
          link_places = n.same.link_places;
          life_count = n.same.life_count;
          lives = n.same.lives;
          pool = n.same.pool;
        };
        next = n.next;
        site = n.site;
      }

  one_done : (z : Bool) (now : Site) (subs : List Subscription) → Now now subs → (e : Json) (o : Option ℕ) → status_asked m j e ≡ o → is_some o ≡ true
      → Now (replaced_at now l (wanted z (entry_of z (is_older (life_at m l)) e) t) (sought_for o)) (one_by z (or_else 0 o) e subs)
  one_done true now subs n e (some k) q y =
      with_items now subs _ n _ _ (((item_acts.acts now (with_subscriptions subs m) n.same.items).subscribing l k b (there s m h subscribing (is_older (life_at m l)) j f r g c asked e k q)).subscribe _ _ t)
  one_done false now subs n e (some k) q y =
      with_items now subs _ n _ _ ((item_acts.acts now (with_subscriptions subs m) n.same.items).subscribing l k b (there s m h subscribing (is_older (life_at m l)) j f r g c asked e k q)).end
  one_done z now subs n e none q y = untrue y

  known_first : (e : Json) (es : List Json) → unknown (e ∷ es) ≡ false → (is_some (status_asked m j e) ≡ true) × (unknown es ≡ false)
  known_first e es k = first_known (λ (x : Json). is_some (status_asked m j x)) e es k

  all_done : (z : Bool) (es : List Json) → unknown es ≡ false → (now : Site) (subs : List Subscription) → Now now subs
      → Now (done (replacing z) now es) (all_by z es subs)
  all_done true [] k now subs n = n
  all_done false [] k now subs n = n
  all_done true (e ∷ es) k now subs n =
      all_done true es (known_first e es k).1 _ _ (one_done true now subs n e (status_asked m j e) refl (known_first e es k).0)
  all_done false (e ∷ es) k now subs n =
      all_done false es (known_first e es k).1 _ _ (one_done false now subs n e (status_asked m j e) refl (known_first e es k).0)

  replaced_so : replaced subscribing s l t c f.entries f.count ≡ done (replacing subscribing) s (entries_of "sS" j)
  replaced_so =
      ap (replaced subscribing s l t c f.entries) (r.count g)
      ∙ by_places (replacing subscribing) null (entries_of "sS" j) (replaced subscribing s l t c f.entries)
      (λ i a. ap₂ (λ (x : StatusEntry) (y : Sought). replaced_at (replaced subscribing s l t c f.entries i) l (wanted subscribing x t) y)
      (r.at g i (omega (arith, r.count g, a))) (sought_at s m h subscribing (is_older (life_at m l)) j f r g c asked i a))

  pub subscriptions_so : unknown (entries_of "sS" j) ≡ false
      → Now (replaced subscribing s l t c f.entries f.count) (all_by subscribing (entries_of "sS" j) m.subscriptions)
  subscriptions_so k =
      subst (λ (x : Site). Now x (all_by subscribing (entries_of "sS" j) m.subscriptions)) (sym replaced_so)
      (all_done subscribing (entries_of "sS" j) k s m.subscriptions (record { same = h; next = refl; site = refl }))

  -- ---- the records
  abbrev pub told_of : Json → Issued
  told_of e = update m t l (number_asked m j e)

  abbrev adding : List Entry → Json → List Entry
  adding rs e = rs ++ record_of s l t (sought_for (status_asked m j e))

  record_so : (e : Json) (o : Option ℕ) → status_asked m j e ≡ o → is_some o ≡ true → record_of s l t (sought_for o) ≡ unnumbered s.site (update m t l (or_else 0 o)) ∷ []
  record_so e (some k) q y =
      (((item_acts.acts s m h.items).subscribing l k b (there s m h subscribing (is_older (life_at m l)) j f r g c asked e k q)).at_once t (same_up s m h)).issued
  record_so e none q y = untrue y

  told_so : (e : Json) (o : Option ℕ) → status_asked m j e ≡ o → is_some o ≡ true → Each (λ (i : Issued). IsTold i.content) (update m t l (or_else 0 o) ∷ [])
  told_so e (some k) q y =
      (((item_acts.acts s m h.items).subscribing l k b (there s m h subscribing (is_older (life_at m l)) j f r g c asked e k q)).at_once t (same_up s m h)).told
  told_so e none q y = untrue y

  all_added : (es : List Json) → unknown es ≡ false → (rs : List Entry) → done adding rs es ≡ rs ++ map (unnumbered s.site) (map told_of es)
  all_added [] k rs = sym (append-nil rs)
  all_added (e ∷ es) k rs =
      all_added es (known_first e es k).1 (adding rs e)
      ∙ append_assoc rs (record_of s l t (sought_for (status_asked m j e))) (map (unnumbered s.site) (map told_of es))
      ∙ ap (λ (x : List Entry). rs ++ (x ++ map (unnumbered s.site) (map told_of es))) (record_so e (status_asked m j e) refl (known_first e es k).0)

  pub all_told : (es : List Json) → unknown es ≡ false → Each (λ (i : Issued). IsTold i.content) (map told_of es)
  all_told [] k = no_more
  all_told (e ∷ es) k = each_append (told_so e (status_asked m j e) refl (known_first e es k).0) (all_told es (known_first e es k).1)

  pub records_so : unknown (entries_of "sS" j) ≡ false → records s l t c f.entries f.count ≡ map (unnumbered s.site) (map told_of (entries_of "sS" j))
  records_so k =
      ap (records s l t c f.entries) (r.count g)
      ∙ by_places adding null (entries_of "sS" j) (records s l t c f.entries)
      (λ i a. ap (λ (y : Sought). records s l t c f.entries i ++ record_of s l t y) (sought_at s m h subscribing (is_older (life_at m l)) j f r g c asked i a))
      ∙ all_added (entries_of "sS" j) k []
