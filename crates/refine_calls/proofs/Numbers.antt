-- What is due is the same, and pump's numbers are the machine's.
-- Assumes nothing.
use Rattle.basis.proofs.Std.{ℕ, ◌<◌, ◌≡◌, refl, sym, ap, ◌∙◌, Bool, true, false, not, List, Option, some, none, arith, eqb, length, ne_eqb, leb-false, pick, bool_cases}
use Rattle.answer.specs.Order.{in_order}
use Rattle.identity.specs.declared.Identity.{Identity}
use Rattle.identity.specs.Version.{identity_of}
use Rattle.pool.specs.declared.Pool.{Pool}
use Rattle.pool_laws.specs.Batch.{beginning}
use Rattle.link.specs.declared.Link.{Link}
use Rattle.link.specs.declared.Role.{Role}
use Rattle.link.specs.declared.Role.TheVariants.{Primary, Secondary}
use Rattle.link.specs.Due.{due_of}
use Rattle.table_whole.specs.declared.SiteTable.{SiteTable}
use Rattle.site.specs.declared.Site.{Site}
use Rattle.site.specs.Site.{role_of, link_at, owner_of}
use Rattle.site.specs.Call.{issuing}
use Rattle.call_pump.specs.Pump.{is_held, due_at, is_nothing, pump_refuses}
use Rattle.call_laws.specs.Calls.Call.{pump}
use Rattle.machine.specs.Words.{is_some, is_number, or_else}
use Rattle.machine.specs.State.{Held, Machine, life_at}
use Rattle.machine.specs.Life.{Due, oldest_unsent as oldest_unsent_of, due}
use Rattle.machine.specs.Life.Due.{the_version, the_watchdog, the_aggregated, the_alarm, the_held}
use Rattle.machine.specs.Step.{no_such_link, conditions, number_of}
use Rattle.refine_parts.specs.Same.{Beside}
use Rattle.refine_parts.specs.Questions.{role_in, kind_of}
use Rattle.refine_parts.proofs.Questions.{questions}
use Rattle.refine_parts.specs.Record.{found}
use Rattle.refine_parts.proofs.Same.{same_answers}
use Rattle.refine_calls.specs.Abstracts.{Abstracts}
use Rattle.refine_calls.specs.Calls.{call_for, first_refused}
use Rattle.refine_calls.proofs.Links.{same_link, same_time, same_down}

due_by : (k : Link) (t : ℕ) {p q : ℕ} {r r' : Role} {n n' : ℕ} {u u' : Bool} → p ≡ q → r ≡ r' → n ≡ n' → u ≡ u' → due_of k t p r n u ≡ due_of k t q r' n' u'
due_by k t a b c d = rw (a, b, c, d)

is_nothing_lem : (o : Option Due) → is_nothing (kind_of o) ≡ not (is_some o)
is_nothing_lem none = refl
is_nothing_lem (some the_version) = refl
is_nothing_lem (some the_watchdog) = refl
is_nothing_lem (some the_aggregated) = refl
is_nothing_lem (some (the_alarm i)) = refl
is_nothing_lem (some (the_held h)) = refl

is_held_lem : (k : ℕ) (o : Option Held) → is_held (found k o) ≡ is_some o
is_held_lem k none = refl
is_held_lem k (some x) = refl

module _ {beside : Beside} (s : Site) (m : Machine) (h : Abstracts beside s m) (l : ℕ) where
  -- the site keeps 65535 where there is no primary; a configured link is below 4
  same_role : l < m.setup.links → role_of s l ≡ role_in m l
  same_role b = ap (λ (p : ℕ). pick (eqb l p) Primary Secondary) h.items.setup.primary ∙ by m.setup.primary
    where
      by : (p : Option ℕ) → pick (eqb l (or_else 65535 p)) Primary Secondary ≡ pick (is_number l p) Primary Secondary
      by none = rw (ne_eqb l 65535 (λ e. absurd (omega (arith, b, h.items.setup.few, e))))
      by (some p) = refl

  pub due_same : l < m.setup.links → (t : ℕ) → due_at s l t ≡ kind_of (due m l t)
  due_same b t =
      due_by (link_at s l) t h.items.setup.period (same_role b)
      (ap (λ (x : SiteTable). x.alarmcount) h.items.setup.table ∙ sym h.items.alarm_count)
      (ap is_held ((same_answers m h.pool).oldest_unsent_lem l) ∙ is_held_lem (owner_of s l) (oldest_unsent_of m l))
      ∙ questions.dues (link_at s l) m l (h.lives l) t

  -- of whatever pool and next number, since nothing is issued
  pub number_same : (t : ℕ) (random : Identity) (out : List ℕ) (p : Pool) (q : ℕ)
      → first_refused (issuing (beginning p q) (pump_refuses s l t (identity_of random) (length out))) in_order ≡ number_of m (call_for (pump l t random out))
  unfolding conditions
  number_same t random out p q =
      bool_cases (no_such_link m l)
      (λ e. rw (same_link s m h l, e))
      (λ e. rw (
        same_link s m h l,
        same_time s m h t,
        same_down s m h l,
        due_same (leb-false m.setup.links l e) t,
        is_nothing_lem (due m l t),
        (questions.waits (link_at s l) (life_at m l) (h.lives l)).crowded,
        (questions.waits (link_at s l) (life_at m l) (h.lives l)).is_awaited_lem (identity_of random),
      ))

-- ---- where none applies
split : (a : Bool) (n : ℕ) (r : Option ℕ) → pick a (some n) r ≡ none → (a ≡ false) × (r ≡ none)
split true n r e = absurd (let z : ◌≡◌ {A = ℕ} 0 1 = cc in omega arith)
split false n r e = (refl, e)

not-false : (b : Bool) → not b ≡ false → b ≡ true
not-false true e = refl
not-false false e = sym e

pub record Passes (link due crowded awaited : Bool) : Type 0 where
  pub configured : link ≡ false
  pub something : due ≡ true
  pub few : crowded ≡ false
  pub unawaited : awaited ≡ false

pub passes : (a b c d e f g : Bool)
    → pick {A = Option ℕ} a (some 2) (pick b (some 4) (pick c (some 5) (pick d (some 6) (pick (not e) (some 7) (pick f (some 8) (pick g (some 9) none)))))) ≡ none
    → Passes a e f g
passes a b c d e f g q =
    let q2 = split a 2 _ q in
    let q4 = split b 4 _ q2.1 in
    let q5 = split c 5 _ q4.1 in
    let q6 = split d 6 _ q5.1 in
    let q7 = split (not e) 7 _ q6.1 in
    let q8 = split f 8 _ q7.1 in
    let q9 = split g 9 none q8.1 in
    record { configured = q2.0; something = not-false e q7.0; few = q8.0; unawaited = q9.0 }
