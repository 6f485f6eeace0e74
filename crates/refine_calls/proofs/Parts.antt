-- What a call changes of a site and of its machine, part by part: a life, a closed link, the records and the time.
-- Assumes nothing.
use Rattle.basis.proofs.Std.{ℕ, ◌<◌, ◌≡◌, refl, ◌∙◌, false, List, ◌⊎◌, inl, inr, arith, get_or, set, length-set, get_or-set_same, get_or-set_other, eq_or_ne}
use Rattle.pool.specs.declared.Pool.{Pool}
use Rattle.pool_laws.specs.declared.Batch.{Batch}
use Rattle.link.specs.declared.Link.{Link}
use Rattle.link.specs.Fields.{closed_link}
use Rattle.site.specs.declared.Site.{Site}
use Rattle.site.specs.Site.{site, with_issued, with_link, close_at}
use Rattle.machine.specs.Words.{changed}
use Rattle.machine.specs.State.{Pool as Listed, Life, fresh, Machine, machine, with_life, at_end}
use Rattle.machine.specs.Life.{close}
use Rattle.demand_held.proofs.Lists.{length_changed}
use Rattle.refine_parts.specs.Same.{Beside, SamePool}
use Rattle.refine_parts.proofs.Same.{same_acts}
use Rattle.refine_parts.specs.Life.{SameLife}
use Rattle.refine_parts.proofs.LifeActs.{no_life}
use Rattle.refine_parts.specs.Items.{SameItems}
use Rattle.refine_parts.proofs.Setup.{moved}
use Rattle.refine_parts.proofs.ItemLists.{get_d_changed_same, get_d_changed_other}
use Rattle.refine_calls.specs.Abstracts.{Abstracts}

-- the items say nothing of links, records and times
pub items_moved : {s : Site} {m : Machine} {p : Pool} {ls : List Link} {n t u : ℕ} {xs : List Life} {q : Listed} → SameItems s m
    → SameItems (site s p ls s.subscriptions s.alarms s.statuses s.aggregated n t)
    (machine m.setup u m.alarms m.statuses m.aggregated m.aggregated_time m.subscriptions xs q)
items_moved h =
    record {
      setup = moved h.setup;
      alarms = h.alarms;
      alarm_count = h.alarm_count;
      alarm_places = h.alarm_places;
      statuses = h.statuses;
      values = h.values;
      status_count = h.status_count;
      status_places = h.status_places;
      aggregated = h.aggregated;
      byte = h.byte;
      subscriptions = h.subscriptions;
      one_each = h.one_each;
      within = λ x e. record { link = (h.within x e).link; status = (h.within x e).status };
      subscription_places = h.subscription_places;
    }

module _ {beside : Beside} (s : Site) (m : Machine) (h : Abstracts beside s m) where
  module _ (l : ℕ) (b : l < m.setup.links) (k : Link) (x : Life) (same : SameLife k x) where
    lives_set : (j : ℕ) → SameLife (get_or (set s.links l k) j closed_link) (get_or (changed l (λ (y : Life). x) m.lives) j (fresh false))
    lives_set j = by (eq_or_ne j l)
      where
        by : (j ≡ l) ⊎ (j ≡ l → ⊥) → SameLife (get_or (set s.links l k) j closed_link) (get_or (changed l (λ (y : Life). x) m.lives) j (fresh false))
        by (inl e) =
            rw (
              e,
              get_or-set_same s.links l k closed_link (omega (arith, h.link_places, b, h.items.setup.few)),
              get_d_changed_same (λ (y : Life). x) (fresh false) m.lives l (omega (arith, h.life_count, b)),
            )
            same
        by (inr n) =
            rw (get_or-set_other s.links l j k closed_link n, get_d_changed_other (λ (y : Life). x) (fresh false) m.lives l j n) (h.lives j)

    pub with_life_lem : Abstracts beside (with_link s l k) (with_life l x m)
    with_life_lem =
        record {
          items = items_moved h.items;
          last = h.last;
          link_places = length-set s.links l k ∙ h.link_places;
          life_count = length_changed l (λ (y : Life). x) m.lives ∙ h.life_count;
          lives = lives_set;
          pool = h.pool;
        }

  -- "Closing (also disconnect) leaves the link Down, nothing awaited, no record of it marked sent; records and subscriptions stay."
  pub closed : (l : ℕ) → l < m.setup.links → Abstracts beside (close_at s l) (close l m)
  unfolding close
  closed l b =
      record {
        items = items_moved h.items;
        last = h.last;
        link_places = length-set s.links l closed_link ∙ h.link_places;
        life_count = length_changed l (λ (y : Life). fresh false) m.lives ∙ h.life_count;
        lives = lives_set l b closed_link (fresh false) no_life;
        pool = (same_acts m.setup.links beside s.site).unmark s.pool s.next m h.pool l;
      }

  -- the records are issued, and the call's time is the last
  pub ended : (b : Batch) (q : Listed) (t : ℕ) → SamePool m.setup.links beside s.site b.pool b.next q → Abstracts beside (with_issued s b t) (at_end t q m)
  ended b q t p =
      record {
        items = items_moved h.items;
        last = refl;
        link_places = h.link_places;
        life_count = h.life_count;
        lives = h.lives;
        pool = p;
      }
