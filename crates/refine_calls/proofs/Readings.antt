-- Each reading is the machine's.
-- Assumes nothing.
use Rattle.basis.proofs.Std.{ℕ, ◌≤◌, ◌≡◌, refl, sym, ap, ◌∙◌, Bool, true, false, not, List, [], map, arith, length, get_or-eq_default, le-ltb, leb-true, ne_eqb, pick, count, bool_cases}
use Rattle.link.specs.declared.Phase.TheVariants.{Down, Greeting, Beating, Up}
use Rattle.site.specs.declared.Site.{Site}
use Rattle.site.specs.Site.{no_link_at, link_at}
use Rattle.site.proofs.Checks.{link_below}
use Rattle.call_read.specs.Readings.{phase_number, no_reading}
use Rattle.machine.specs.Words.{keep}
use Rattle.machine.specs.State.{Held, Life, fresh, Machine, life_at}
use Rattle.machine.specs.Pool.{is_for}
use Rattle.machine.specs.Life.{is_greeting, is_beating}
use Rattle.machine.specs.Readings.{record_bytes, reading}
use Rattle.demand_held.proofs.Lists.{Each, bit_false}
use Rattle.demand_held.proofs.Lists.Each.{no_more, one_more}
use Rattle.demand_held.proofs.Good.{Below}
use Rattle.refine_parts.specs.Same.{Beside}
use Rattle.refine_parts.specs.Record.{reading_at}
use Rattle.refine_parts.proofs.Same.{same_answers}
use Rattle.refine_parts.specs.Life.{shown}
use Rattle.refine_parts.proofs.Questions.{same_phase}
use Rattle.refine_calls.specs.Abstracts.{Abstracts}
use Rattle.refine_calls.proofs.Links.{same_link}
use Rattle.refine_calls.specs.Readings.{SameReadings, Reading}

-- of a link that is not configured nothing is held
none_kept : {n : ℕ} (l : ℕ) → n ≤ l → {hs : List Held} → Each (Below n) hs → keep (is_for l) hs ≡ []
none_kept l f no_more = refl
none_kept l f (one_more {x = h} b r) = rw (ne_eqb h.link l (λ e. omega arith)) (none_kept l f r)

none_counted : {n : ℕ} (l : ℕ) → n ≤ l → {hs : List Held} → Each (Below n) hs → count (is_for l) hs ≡ 0
none_counted l f no_more = refl
none_counted l f (one_more {x = h} b r) = omega (arith, bit_false (is_for l h) (ne_eqb h.link l (λ e. omega arith)), none_counted l f r)

nothing_read : (r : ℕ) → no_reading ≡ reading_at r []
nothing_read r = rw (le-ltb r 0 (omega arith))

phase_read : (c g b : Bool) → phase_number (pick (not c) Down (pick g Greeting (pick b Beating Up))) ≡ pick (not c) 0 (pick g 1 (pick b 2 3))
phase_read true true b = refl
phase_read true false true = refl
phase_read true false false = refl
phase_read false g b = refl

module _ {beside : Beside} (s : Site) (m : Machine) (h : Abstracts beside s m) (l : ℕ) where
  configured : no_link_at s l ≡ false → SameReadings s m l
  unfolding reading
  configured e =
      let answers = same_answers m h.pool in
      record {
        held = rw e (answers.held l);
        lost = rw e (answers.lost l (link_below s l e));
        phase = rw e (ap phase_number (same_phase (link_at s l) (life_at m l) (h.lives l)).phase
            ∙ phase_read (life_at m l).connected (is_greeting (life_at m l)) (is_beating (life_at m l)));
        version = rw e (h.lives l).version;
        records = λ r. rw e (answers.records l r);
      }

  not_configured : no_link_at s l ≡ true → SameReadings s m l
  unfolding reading
  not_configured e =
      record {
        held = rw e (sym (none_counted l past h.pool.good.own.links));
        lost = rw e (sym (get_or-eq_default m.pool.lost 0 past));
        phase = rw e (sym (ap (λ (x : Life). pick (not x.connected) 0 (pick (is_greeting x) 1 (pick (is_beating x) 2 3))) down));
        version = rw e (sym (ap (λ (x : Life). shown x.version) down));
        records = λ r. rw e (nothing_read r ∙ sym (ap (λ (hs : List Held). reading_at r (map (record_bytes m.pool.site) hs)) (none_kept l past h.pool.good.own.links)));
      }
    where
      beyond : m.setup.links ≤ l
      beyond = leb-true m.setup.links l (sym (same_link s m h l) ∙ e)

      past : length m.pool.lost ≤ l
      past = omega (arith, beyond, h.pool.configured)

      down : life_at m l ≡ fresh false
      down = get_or-eq_default m.lives (fresh false) (omega (arith, beyond, h.life_count))

pub readings : Reading
readings beside s m h l = bool_cases (no_link_at s l) (not_configured s m h l) (configured s m h l)
