-- A status' value, and its records.
-- Assumes nothing.
use Rattle.basis.proofs.Std.{ℕ, suc, ◌+◌, ◌-◌, ◌*◌, ◌^◌, ◌<◌, ◌≡◌, refl, sym, ap, ◌∙◌, subst, Bool, true, false, not, List, [], ◌∷◌, map, Option, some, none, ◌⊎◌, inl, inr, arith, eqb, ℤ, pos, negsuc, length, length-set, get_or-set_same, get_or-set_other, eqb-true, eqb-false, eq-eqb, ne_eqb, pick, both, bool_cases, eq_or_ne}
use Rattle.number.specs.Signed.{Signed32, word_of}
use Rattle.link.specs.Phase.{phase_of, is_up as up_in}
use Rattle.status.specs.declared.Status.{Status}
use Rattle.status.specs.Status.{unknown, holding, news}
use Rattle.status.specs.Issued.{issued_of}
use Rattle.subscription.specs.declared.Subscription.{Subscription as Slot}
use Rattle.subscription.specs.Subscription.{issues_on}
use Rattle.site.specs.declared.Site.{Site}
use Rattle.site.specs.Site.{link_at, owner_of}
use Rattle.site.specs.Parts.{status_at, subscription_at, with_status as with_value}
use Rattle.site.specs.Records.{status_record}
use Rattle.pool_laws.specs.Upwards.{entries_to, entry_if}
use Rattle.pool_laws.proofs.Entries.{none_to}
use Rattle.call_input.proofs.Lists.{set_same}
use Rattle.call_input.specs.Inputs.{status_plan}
use Rattle.machine.specs.Words.{keep, flat, up_to}
use Rattle.machine.specs.State.{Subscription, Issued, Machine, with_status, life_at, value_at}
use Rattle.machine.specs.Life.{is_up}
use Rattle.machine.specs.Items.{is_of, status_for as record_for, upwards, same_value, is_new, becomes}
use Rattle.demand_held.proofs.Lists.{each_of, length_changed}
use Rattle.demand_held.proofs.Lists.Each.{no_more}
use Rattle.refine_parts.specs.Record.{unnumbered}
use Rattle.refine_parts.proofs.Entries.{contents}
use Rattle.refine_parts.specs.Items.{status_for, SameItems, SameUp, SameEffect}
use Rattle.refine_parts.proofs.Setup.{moved}
use Rattle.refine_parts.proofs.ItemLists.{get_d_changed_same, get_d_changed_other, keep_none, flat_same, flat_only, map_flat, entries_flat}
use Rattle.refine_parts.proofs.Subscriptions.{its_link, its_status, at_place}

-- ---- two values are the same where their words are
eqb_as : (a b c d : ℕ) → (a ≡ b → c ≡ d) → (c ≡ d → a ≡ b) → eqb a b ≡ eqb c d
eqb_as a b c d f g =
    bool_cases (eqb c d)
    (λ t. eq-eqb a b (g (eqb-true c d t)) ∙ sym t)
    (λ t. ne_eqb a b (λ e. eqb-false c d t (f e)) ∙ sym t)

same_word : (v w : ℤ) → Signed32 v → Signed32 w → eqb (word_of w) (word_of v) ≡ same_value v w
same_word (pos a) (pos b) p q = eqb_as b a a b sym sym
same_word (pos a) (negsuc b) p q = ne_eqb (2 ^ 32 - suc b) a (λ e. absurd (omega arith))
same_word (negsuc a) (pos b) p q = ne_eqb b (2 ^ 32 - suc a) (λ e. absurd (omega arith))
same_word (negsuc a) (negsuc b) p q = eqb_as (2 ^ 32 - suc b) (2 ^ 32 - suc a) a b (λ e. omega arith) (λ e. omega arith)

same_holding : (v w : ℤ) → Signed32 v → Signed32 w → same_value v w ≡ true → word_of w ≡ word_of v
same_holding v w p q e = eqb-true (word_of w) (word_of v) (same_word v w p q ∙ e)

module _ (s : Site) (m : Machine) (h : SameItems s m) (i : ℕ) (b : i < length m.statuses) (v : ℤ) (range : Signed32 v) (t : ℕ) (up : SameUp s m) where
  is_news_lem : news (status_at s i) (word_of v) ≡ is_new v (value_at m i)
  is_news_lem = ap (λ (k : Status). news k (word_of v)) (h.statuses i b) ∙ by (value_at m i) (h.values i)
    where
      by : (o : Option ℤ) → ((w : ℤ) → o ≡ some w → Signed32 w) → news (status_for o) (word_of v) ≡ is_new v o
      by none f = refl
      by (some w) f = ap not (same_word v w range (f w refl))

  -- ---- the value
  placed : i < length s.statuses
  placed = omega (arith, h.status_places, h.status_count, b, h.setup.allowed.most_statuses)

  value_set : SameItems (with_value s i (holding (word_of v))) (with_status i v m)
  value_set =
      record {
        setup = moved h.setup;
        alarms = h.alarms;
        alarm_count = h.alarm_count;
        alarm_places = h.alarm_places;
        statuses = λ j e. at j e (eq_or_ne j i);
        values = λ j w e. within j w e (eq_or_ne j i);
        status_count = length_changed i (λ x. some v) m.statuses ∙ h.status_count;
        status_places = length-set s.statuses i (holding (word_of v)) ∙ h.status_places;
        aggregated = h.aggregated;
        byte = h.byte;
        subscriptions = h.subscriptions;
        one_each = h.one_each;
        within = λ x e. record { link = (h.within x e).link; status = subst (λ (n : ℕ). x.status < n) (sym (length_changed i (λ (o : Option ℤ). some v) m.statuses)) (h.within x e).status };
        subscription_places = h.subscription_places;
      }
    where
      here : value_at (with_status i v m) i ≡ some v
      here = get_d_changed_same (λ (o : Option ℤ). some v) none m.statuses i b

      there : (j : ℕ) → (j ≡ i → ⊥) → value_at (with_status i v m) j ≡ value_at m j
      there j q = get_d_changed_other (λ (o : Option ℤ). some v) none m.statuses i j q

      at : (j : ℕ) → j < length (with_status i v m).statuses → (j ≡ i) ⊎ (j ≡ i → ⊥)
          → status_at (with_value s i (holding (word_of v))) j ≡ status_for (value_at (with_status i v m) j)
      at j e (inl q) = rw q (get_or-set_same s.statuses i (holding (word_of v)) unknown placed ∙ sym (ap status_for here))
      at j e (inr q) =
          get_or-set_other s.statuses i j (holding (word_of v)) unknown q
          ∙ h.statuses j (subst (λ (n : ℕ). j < n) (length_changed i (λ (o : Option ℤ). some v) m.statuses) e)
          ∙ sym (ap status_for (there j q))

      same : (w u : ℤ) → some w ≡ some u → w ≡ u
      same w u e = cc

      within : (j : ℕ) (w : ℤ) → value_at (with_status i v m) j ≡ some w → (j ≡ i) ⊎ (j ≡ i → ⊥) → Signed32 w
      within j w e (inl q) = subst Signed32 (same v w (sym here ∙ ap (λ (n : ℕ). value_at (with_status i v m) n) (sym q) ∙ e)) range
      within j w e (inr q) = h.values j w (sym (there j q) ∙ e)

  value_kept : is_new v (value_at m i) ≡ false → SameItems (with_value s i (holding (word_of v))) m
  value_kept e = rw (set_same s.statuses i (holding (word_of v)) unknown (h.statuses i b ∙ by (value_at m i) (h.values i) e)) h
    where
      not_not : (b : Bool) → not b ≡ false → b ≡ true
      not_not true e = refl
      not_not false e = sym e

      by : (o : Option ℤ) → ((w : ℤ) → o ≡ some w → Signed32 w) → is_new v o ≡ false → status_for o ≡ holding (word_of v)
      by none f e = absurd (let z : ◌≡◌ {A = ℕ} 0 1 = cc in omega arith)
      by (some w) f e = rw (same_holding v w range (f w refl) (not_not (same_value v w) e))

  -- ---- the records
  abbrev asks : Subscription → Bool
  asks x = both (eqb x.status i) x.on_change

  abbrev given : Subscription → Issued
  given x = record_for m t x.link (some v) i

  of_link : (l : ℕ) → l < m.setup.links
      → entry_if (issues_on (subscription_at s (l * 32 + i)) true) (status_record (link_at s l) (holding (word_of v)) (owner_of s l) i t)
      ≡ map (unnumbered s.site) (map given (flat (λ j. keep (λ x. both (is_of l j x) (asks x)) m.subscriptions) (up_to (length m.statuses))))
  of_link l lb =
      at_place s m h l i (omega (arith, lb, h.setup.few)) (omega (arith, b, h.status_count, h.setup.allowed.most_statuses)) asks given
      (λ (k : Slot). entry_if (issues_on k true) (status_record (link_at s l) (holding (word_of v)) (owner_of s l) i t)) refl
      (λ x e a. by x x.on_change (its_link l i x e) (eq-eqb x.status i (its_status l i x e)) (up_in (phase_of (link_at s l))) (up l))
      ∙ sym (ap (λ (xs : List Subscription). map (unnumbered s.site) (map given xs))
      (flat_only (λ j. keep (λ x. both (is_of l j x) (asks x)) m.subscriptions) i (length m.statuses) b
      (λ j jb n. keep_none (λ x. both (is_of l j x) (asks x)) (none_else j n) m.subscriptions)))
    where
      by : (x : Subscription) (soc : Bool) → x.link ≡ l → eqb x.status i ≡ true → (u : Bool) → u ≡ is_up (life_at m l)
          → entry_if (both true (eqb (pick soc 2 1) 2)) (issued_of (holding (word_of v)) (owner_of s l) i t (not u)) ≡ map (unnumbered s.site) (map given (pick (both (eqb x.status i) soc) (x ∷ []) []))
      by x true q e u same = rw (e, q, same)
      by x false q e u same = rw e

      none_else : (j : ℕ) → (j ≡ i → ⊥) → (x : Subscription) → both (is_of l j x) (asks x) ≡ false
      none_else j n x =
          bool_cases (is_of l j x)
          (λ e. rw (e, ne_eqb x.status i (λ q. n (sym (its_status l j x e) ∙ q))))
          (λ e. rw e)

  all_links : is_new v (value_at m i) ≡ true
      → entries_to (λ l. entry_if (both (news (status_at s i) (word_of v)) (eqb (subscription_at s (l * 32 + i)).state 2)) (status_record (link_at s l) (holding (word_of v)) (owner_of s l) i t)) s.linkcount
      ≡ map (unnumbered s.site) (map given (upwards m asks))
  all_links e =
      rw (is_news_lem ∙ e, h.setup.links)
      (entries_flat (λ l. entry_if (issues_on (subscription_at s (l * 32 + i)) true) (status_record (link_at s l) (holding (word_of v)) (owner_of s l) i t)) m.setup.links
      ∙ flat_same (λ l. entry_if (issues_on (subscription_at s (l * 32 + i)) true) (status_record (link_at s l) (holding (word_of v)) (owner_of s l) i t))
      (λ l. map (unnumbered s.site) (map given (flat (λ j. keep (λ x. both (is_of l j x) (asks x)) m.subscriptions) (up_to (length m.statuses)))))
      m.setup.links of_link
      ∙ sym (ap (map (unnumbered s.site)) (map_flat given (λ l. flat (λ j. keep (λ x. both (is_of l j x) (asks x)) m.subscriptions) (up_to (length m.statuses))) (up_to m.setup.links))
      ∙ map_flat (unnumbered s.site) (λ l. map given (flat (λ j. keep (λ x. both (is_of l j x) (asks x)) m.subscriptions) (up_to (length m.statuses)))) (up_to m.setup.links)))

  no_links : is_new v (value_at m i) ≡ false
      → entries_to (λ l. entry_if (both (news (status_at s i) (word_of v)) (eqb (subscription_at s (l * 32 + i)).state 2)) (status_record (link_at s l) (holding (word_of v)) (owner_of s l) i t)) s.linkcount ≡ []
  no_links e = rw (is_news_lem ∙ e) (none_to (λ l. []) s.linkcount (λ l g. refl))

  pub same_status : SameEffect (status_plan s i v t) (becomes m i v t)
  unfolding becomes
  same_status =
      bool_cases (is_new v (value_at m i))
      (λ e. rw e (record { items = value_set; records = record { issued = all_links e; told = each_of given (λ x. contents.value i v (not (is_up (life_at m x.link))) t range) (upwards m asks) } }))
      (λ e. rw e (record { items = value_kept e; records = record { issued = no_links e; told = no_more } }))
