-- Two sites over one pool that are the machines of a box: what a call and a start of one leave of both.
-- Assumes nothing.
use Rattle.basis.proofs.Std.{ℕ, zero, suc, ◌+◌, ◌<◌, ◌≡◌, refl, sym, ap, ap₂, ◌∙◌, subst, List, [], ◌∷◌, Option, some, none, arith, length, get_or}
use Rattle.pool.specs.declared.Pool.{Pool}
use Rattle.pool.specs.Pool.{empty_of}
use Rattle.site.specs.declared.Site.{Site}
use Rattle.site.specs.Site.{with_pool}
use Rattle.call_laws.specs.Sound.{Sound}
use Rattle.call_laws.specs.Calls.{Call, step_by}
use Rattle.call_laws.specs.Calls.Call.{connect, disconnect, packet, alarm, status, aggregated, tick, pump}
use Rattle.call_laws.specs.Typed.{Typed}
use Rattle.call_laws.specs.Sequences.{Beside as BesideIt, Since}
use Rattle.call_laws.specs.Sequences.Since.{first, own, other, begun}
use Rattle.call_laws.proofs.SequencesKept.{kept as sequences_kept}
use Rattle.machine.specs.Words.{maybe}
use Rattle.machine.specs.State.{Held, Share, share_of, no_share, Pool as Listed, shared_pool, own_of, Machine}
use Rattle.machine.specs.Step.{step}
use Rattle.machine.specs.Box.{finds, found_by, begins_beside}
use Rattle.demand_held.proofs.Lists.{Each}
use Rattle.demand_held.proofs.Lists.Each.{no_more, one_more}
use Rattle.demand_held.proofs.Good.{Below, GoodShare}
use Rattle.refine_parts.specs.Same.{Beside, beside_of, nobody, SamePool}
use Rattle.refine_parts.specs.Items.{SameItems}
use Rattle.refine_parts.specs.Claims.{Rest, Mirrors}
use Rattle.refine_parts.proofs.Beside.{same_beside}
use Rattle.refine_calls.specs.Abstracts.{Abstracts}
use Rattle.refine_calls.specs.Calls.{call_for, SameFor, SameStep}
use Rattle.refine_calls.proofs.Steps.{steps}

-- a packet is bytes
abbrev pub BytesIn : Call → Type 0
BytesIn (connect l t) = Unit {0}
BytesIn (disconnect l t) = Unit {0}
BytesIn (packet l t random received out) = (k : ℕ) → get_or received k 0 < 256
BytesIn (alarm i active t) = Unit {0}
BytesIn (status i v t) = Unit {0}
BytesIn (aggregated v t) = Unit {0}
BytesIn (tick t) = Unit {0}
BytesIn (pump l t random out) = Unit {0}

-- s is site k, t site j, if they have begun; where neither has, the pool is empty
pub data Stands (k j : ℕ) (s t : Site) : Option Machine → Option Machine → Type 0 where
  no_site : s.pool ≡ empty_of 8 → Stands k j s t none none
  the_one : {m : Machine} → Abstracts nobody s m → Sound s → s.site ≡ k → Stands k j s t (some m) none
  the_other : {o : Machine} → Abstracts nobody t o → Sound t → t.site ≡ j → Stands k j s t none (some o)
  both_ones : {m o : Machine} → Abstracts (beside_of o.setup.links t.next) s m → Abstracts (beside_of m.setup.links s.next) t o → Sound s → Sound t
      → s.site ≡ k → t.site ≡ j → Mirrors m.pool o.pool → Stands k j s t (some m) (some o)

turned_round : {p q : Listed} → Mirrors p q → Mirrors q p
turned_round n = record { two = omega (arith, n.two); beside = n.own; own = n.beside }

pub round : {k j : ℕ} {s t : Site} {a o : Option Machine} → t.pool ≡ s.pool → Stands k j s t a o → Stands j k t s o a
round e (no_site h) = no_site (e ∙ h)
round e (the_one h v g) = the_other h v g
round e (the_other h v g) = the_one h v g
round e (both_ones h i v w g f n) = both_ones i h w v f g (turned_round n)

-- ---- where the other site has not begun nothing stands beside
none_below : (hs : List Held) → Each (Below 0) hs → hs ≡ []
none_below [] no_more = refl
none_below (h ∷ hs) (one_more b r) = absurd (omega (arith, b))

nil : (xs : List ℕ) → length xs ≡ 0 → xs ≡ []
nil [] e = refl
nil (x ∷ xs) e = absurd (omega (arith, e))

empty_share : (s : Share) → length s.lost ≡ 0 → Each (Below (length s.lost)) s.held → s ≡ no_share
empty_share s e g = ap₂ share_of (none_below s.held (subst (λ (n : ℕ). Each (Below n) s.held) e g)) (nil s.lost e)

pub beside_nobody : {s : Site} {m : Machine} → Abstracts nobody s m → m.pool.beside ≡ no_share
beside_nobody {m = m} h = empty_share m.pool.beside h.pool.configured_beside h.pool.beside.links

-- ---- the other site finds the pool as one left it
same_items : {t : Site} {o : Machine} (p : Pool) (m : Machine) → SameItems t o → SameItems (with_pool t p) (finds m o)
same_items p m h =
    record {
      setup = record {
        edition = h.setup.edition;
        allowed = h.setup.allowed;
        table = h.setup.table;
        links = h.setup.links;
        few = h.setup.few;
        primary = h.setup.primary;
        its_link = h.setup.its_link;
        period = h.setup.period;
      };
      alarms = h.alarms;
      alarm_count = h.alarm_count;
      alarm_places = h.alarm_places;
      statuses = h.statuses;
      values = h.values;
      status_count = h.status_count;
      status_places = h.status_places;
      aggregated = h.aggregated;
      byte = h.byte;
      subscriptions = h.subscriptions;
      one_each = h.one_each;
      within = λ x i. record { link = (h.within x i).link; status = (h.within x i).status };
      subscription_places = h.subscription_places;
    }

pub mirrored : (m o : Machine) → m.pool.site + o.pool.site ≡ 1 → Mirrors m.pool (finds m o).pool
mirrored m o two = record { two = two; beside = refl; own = refl }

pub found : {x : Beside} {s t : Site} {m o : Machine} → Abstracts (beside_of o.setup.links t.next) s m → Abstracts x t o → m.pool.site + o.pool.site ≡ 1
    → Abstracts (beside_of m.setup.links s.next) (with_pool t s.pool) (finds m o)
found {s = s} {t = t} {m = m} {o = o} h i two =
    record {
      items = same_items s.pool m i.items;
      last = i.last;
      link_places = i.link_places;
      life_count = i.life_count;
      lives = i.lives;
      pool = subst (λ (k : ℕ). SamePool o.setup.links (beside_of m.setup.links s.next) k s.pool t.next (finds m o).pool) i.pool.site
          (same_beside.turns h.pool (finds m o).pool (mirrored m o two) i.pool.next);
    }

-- ---- a call of one of them
pub record Turned (k j : ℕ) (s t : Site) (m : Machine) (o : Option Machine) (c : Call) : Type 0 where
  pub beside : Beside
  pub abstracts : Abstracts beside s m
  pub same : SameStep beside s m c
  pub sound : Sound s
  pub stands : Stands k j (step_by s c).site (with_pool t (step_by s c).site.pool) (some (step m (call_for c)).1) (found_by (step m (call_for c)).1 o)

-- of every call the code's and the machine's are the same
abbrev pub AllCalls : Type 0
AllCalls = SameFor BytesIn

module _ (all : AllCalls) (k j : ℕ) (two : k + j ≡ 1) (s t : Site) (pools : t.pool ≡ s.pool) (c : Call) (typed : Typed c) (bytes : BytesIn c) where
  own_sound : Sound s → Sound (step_by s c).site
  own_sound v = sequences_kept.sound s (step_by s c).site v (own c typed first)

  other_sound : Sound s → Sound t → s.site ≡ k → t.site ≡ j → Sound (with_pool t (step_by s c).site.pool)
  other_sound v w g f =
      sequences_kept.sound t (with_pool t (step_by s c).site.pool) w
      (other s v (record { pool = sym pools; apart = λ e. let z : k ≡ j = sym g ∙ e ∙ f in omega (arith, two, z) }) c typed first)

  stays : Sound s → s.site ≡ k → (step_by s c).site.site ≡ k
  stays v g = sequences_kept.number s v c typed ∙ g

  pub own_call : {m : Machine} {o : Option Machine} → Stands k j s t (some m) o → Turned k j s t m o c
  own_call {m = m} (the_one h v g) =
      let st : SameStep nobody s m c = steps _ s m h c (all _ s m h c bytes typed) in
      record { beside = nobody; abstracts = h; same = st; sound = v; stands = the_one st.leaves (own_sound v) (stays v g) }
  own_call {m = m} (both_ones {o = o} h i v w g f n) =
      let st : SameStep (beside_of o.setup.links t.next) s m c = steps _ s m h c (all _ s m h c bytes typed) in
      let m' : Machine = (step m (call_for c)).1 in
      let sites : m'.pool.site + o.pool.site ≡ 1 = rw (st.leaves.pool.site, stays v g, i.pool.site, f) two in
      record {
        beside = beside_of o.setup.links t.next;
        abstracts = h;
        same = st;
        sound = v;
        stands = both_ones st.leaves (found st.leaves i sites) (own_sound v) (other_sound v w g f) (stays v g) f (mirrored m' o sites);
      }

-- ---- what the other site has in the pool, if it has begun
abbrev pub beside_for : Option Machine → Site → Beside
beside_for none t = nobody
beside_for (some o) t = beside_of o.setup.links t.next

abbrev pub beside_share : Option Machine → Share
beside_share o = maybe no_share (λ x. own_of x.pool) o

pub rest_of : {k j : ℕ} {s t : Site} {a o : Option Machine} → k + j ≡ 1 → t.pool ≡ s.pool → Stands k j s t a o → Rest k (beside_for o t) s.pool (beside_share o)
rest_of {k = k} two pools (no_site e) = subst (λ (p : Pool). Rest k nobody p no_share) (sym e) (same_beside.empty k)
rest_of {s = s} two pools (the_one h v g) =
    subst (λ (i : ℕ). Rest i nobody s.pool no_share) g (subst (λ (x : Share). Rest s.site nobody s.pool x) (beside_nobody h) (same_beside.rest h.pool))
rest_of {k = k} {t = t} two pools (the_other {o = o} h v g) =
    let sites : o.pool.site + k ≡ 1 = rw (h.pool.site, g) (omega (arith, two)) in
    subst (λ (p : Pool). Rest k (beside_of o.setup.links t.next) p (own_of o.pool)) pools
    (same_beside.rest (same_beside.turns h.pool (shared_pool k 0 [] [] (own_of o.pool)) (record { two = sites; beside = beside_nobody h; own = refl }) refl))
rest_of {s = s} {t = t} two pools (both_ones {o = o} h i v w g f n) =
    subst (λ (e : ℕ). Rest e (beside_of o.setup.links t.next) s.pool (own_of o.pool)) g
    (subst (λ (x : Share). Rest s.site (beside_of o.setup.links t.next) s.pool x) n.beside (same_beside.rest h.pool))
