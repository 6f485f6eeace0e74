-- A call that issues records and changes nothing else but items: what it leaves, what it lays down, and number 10.
-- Assumes nothing.
use Rattle.basis.proofs.Std.{ℕ, ◌≡◌, refl, sym, ap, ◌∙◌, List, [], Option, some, none, eqb, ℤ, length, picked}
use Rattle.entry.specs.declared.Entry.{Entry}
use Rattle.alarm.specs.declared.Alarm.{Alarm as AlarmWord}
use Rattle.status.specs.declared.Status.{Status}
use Rattle.subscription.specs.declared.Subscription.{Subscription as Slot}
use Rattle.aggregated.specs.declared.Aggregated.{Aggregated}
use Rattle.site.specs.declared.Site.{Site}
use Rattle.site.specs.Site.{site}
use Rattle.site.specs.Call.{Plan, issues, batch_of}
use Rattle.machine.specs.State.{Setup, Alarm, Issued, Life, Machine, value_at, Effect, effect}
use Rattle.machine.specs.Items.{is_new, happens, intervals, becomes, aggregates}
use Rattle.machine.specs.Step.{sequence_ends}
use Rattle.demand_held.proofs.Lists.{Each}
use Rattle.demand_held.proofs.Issue.{For}
use Rattle.refine_parts.specs.Same.{Beside}
use Rattle.refine_parts.proofs.Same.{same_answers}
use Rattle.refine_parts.specs.Items.{SameItems, SameIssued, SameEffect}
use Rattle.refine_calls.specs.Abstracts.{Abstracts}
use Rattle.refine_calls.specs.Calls.{SamePlan}
use Rattle.refine_calls.specs.Calls.SameCommands.{no_command}

-- number 10: the records are counted on from the number that the call finds
pub same_spent : {beside : Beside} (s : Site) (m : Machine) → Abstracts beside s m → (p : Plan) (e : Effect) → p.site.next ≡ s.next → p.site.site ≡ s.site → SameIssued p e.issues
    → (batch_of p).spent ≡ sequence_ends m e
same_spent s m h p e n i r = rw (n, r.issued, i) ((same_answers m h.pool).spent p.site.pool e)

-- nothing but the items is other than before
pub record OfItems (m : Machine) (e : Effect) : Type 0 where
  pub setup : e.leaves.setup ≡ m.setup
  pub last : e.leaves.last ≡ m.last
  pub lives : e.leaves.lives ≡ m.lives
  pub pool : e.leaves.pool ≡ m.pool
  pub messages : e.messages ≡ []
  pub closed : e.closed ≡ []
  pub hint : e.hint ≡ none
  pub commands : e.commands ≡ []

with_items : (m n : Machine) (is : List Issued) → n.setup ≡ m.setup → n.last ≡ m.last → n.lives ≡ m.lives → n.pool ≡ m.pool
    → OfItems m (effect n is [] [] none)
with_items m n is u t ls p = record { setup = u; last = t; lives = ls; pool = p; messages = refl; closed = refl; hint = refl; commands = refl }

pub of_happens : (m : Machine) (i : ℕ) (o : Option Alarm) → OfItems m (happens m i o)
unfolding happens
of_happens m i none = with_items m _ _ refl refl refl refl
of_happens m i (some a) = with_items m _ _ refl refl refl refl

pub of_becomes : (m : Machine) (i : ℕ) (v : ℤ) (t : ℕ) → OfItems m (becomes m i v t)
unfolding becomes
of_becomes m i v t =
    picked (OfItems m) (is_new v (value_at m i)) _ _
    (λ e. with_items m _ _ refl refl refl refl)
    (λ e. with_items m _ _ refl refl refl refl)

pub of_aggregates : (m : Machine) (v t : ℕ) → OfItems m (aggregates m v t)
unfolding aggregates
of_aggregates m v t =
    picked (OfItems m) (eqb v m.aggregated) _ _
    (λ e. with_items m _ _ refl refl refl refl)
    (λ e. with_items m _ _ refl refl refl refl)

pub of_intervals : (t : ℕ) (m : Machine) → OfItems m (intervals t m)
unfolding intervals
of_intervals t m = with_items m _ _ refl refl refl refl

module _ {beside : Beside} (s : Site) (m : Machine) (h : Abstracts beside s m) (xs : List Slot) (vs : List AlarmWord) (ks : List Status) (g : Aggregated) where
  abbrev changed : Site
  changed = site s s.pool s.links xs vs ks g s.next s.last

  pub items_changed : (e : Effect) → OfItems m e → SameItems changed e.leaves → Abstracts beside changed e.leaves
  items_changed e o i =
      record {
        items = i;
        last = h.last ∙ sym o.last;
        link_places = h.link_places;
        life_count = ap (length {A = Life}) o.lives ∙ h.life_count ∙ ap (λ (u : Setup). u.links) (sym o.setup);
        lives = λ l. rw o.lives (h.lives l);
        pool = rw (o.setup, o.pool) h.pool;
      }

  pub items_plan : (es : List Entry) (e : Effect) → OfItems m e → Each (For m.setup.links) e.issues → SameEffect (issues changed es) e → SamePlan beside (issues changed es) e
  items_plan es e o f q =
      record {
        leaves = items_changed e o q.items;
        issued = q.records;
        for_links = rw o.setup f;
        messages = sym o.messages;
        closed = rw o.closed;
        hint = rw o.hint;
        commands = rw o.commands no_command;
      }
