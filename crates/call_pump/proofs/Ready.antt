-- The checks are the seven conditions, both ways.
-- Assumes nothing.
use Rattle.basis.proofs.Std.{ℕ, ◌<◌, ◌≡◌, refl, sym, ap, ◌∙◌, Bool, true, false, ltb, leb, lt-ltb, le-ltb, lt-leb, ltb-false, leb-false, pick, untrue, not_both}
use Rattle.answer.specs.declared.Report.{Report}
use Rattle.answer.specs.declared.Answer.{Answer}
use Rattle.answer.specs.declared.Answer.TheVariants.{Done}
use Rattle.answer.specs.Order.{in_order, judged}
use Rattle.answer.specs.Times.{last_time}
use Rattle.identity.specs.declared.Identity.{Identity}
use Rattle.awaited.specs.declared.Found.{Found}
use Rattle.awaited.specs.declared.Found.TheVariants.{For, Nothing as NotAwaited}
use Rattle.awaited.specs.Awaited.{find_of, how_many_of, is_awaited}
use Rattle.pool_laws.specs.declared.Batch.{Batch}
use Rattle.link.specs.declared.Link.{Link}
use Rattle.link.specs.declared.Phase.{Phase}
use Rattle.link.specs.declared.Phase.TheVariants.{Down, Greeting, Beating, Up}
use Rattle.link.specs.declared.Due.{Due}
use Rattle.link.specs.declared.Due.TheVariants.{Nothing, Version, Watchdog, Aggregated, Alarm, Entry}
use Rattle.link.specs.Phase.{phase_of}
use Rattle.link.specs.Steps.{crowded_of}
use Rattle.site.specs.declared.Site.{Site}
use Rattle.site.specs.Site.{no_link_at, bad_time_at, link_at, is_down, down_at}
use Rattle.site.specs.Call.{issuing, nothing_of}
use Rattle.site.proofs.Checks.{link_below}
use Rattle.call_pump.specs.Pump.{due_at, is_nothing, pump_refuses, verdict_of}
use Rattle.call_pump.specs.Claims.{Ready}
use Rattle.call_pump.proofs.Laws.{seven, first, not_done}

-- all of seven tests fail
pub record Clear (a b c d e f g : Bool) : Type 0 where
  pub link : a ≡ false
  pub room : b ≡ false
  pub time : c ≡ false
  pub phase : d ≡ false
  pub due : e ≡ false
  pub few : f ≡ false
  pub fresh : g ≡ false

pub passes : (a b c d e f g : Bool) → Clear a b c d e f g → first a b c d e f g ≡ Done nothing_of
passes a b c d e f g h = rw (h.link, h.room, h.time, h.phase, h.due, h.few, h.fresh) refl

pub passed : (a b c d e f g : Bool) (w : Batch) (o : Answer) (q : Report) → judged (issuing w (seven a b c d e f g)) in_order o ≡ Done q → Clear a b c d e f g
passed true b c d e f g w o q h = not_done h
passed false true c d e f g w o q h = not_done h
passed false false true d e f g w o q h = not_done h
passed false false false true e f g w o q h = not_done h
passed false false false false true f g w o q h = not_done h
passed false false false false false true g w o q h = not_done h
passed false false false false false false true w o q h = not_done h
passed false false false false false false false w o q h =
    record { link = refl; room = refl; time = refl; phase = refl; due = refl; few = refl; fresh = refl }

is_up_lem : (f : Phase) → (f ≡ Down → ⊥) → is_down f ≡ false
is_up_lem Down n = absurd (n refl)
is_up_lem Greeting n = refl
is_up_lem Beating n = refl
is_up_lem Up n = refl

is_due : (d : Due) → (d ≡ Nothing → ⊥) → is_nothing d ≡ false
is_due Nothing n = absurd (n refl)
is_due Version n = refl
is_due Watchdog n = refl
is_due Aggregated n = refl
is_due (Alarm k) n = refl
is_due Entry n = refl

is_fresh : (f : Found) → is_awaited f ≡ false → f ≡ NotAwaited
is_fresh (For p) e = untrue (sym e)
is_fresh NotAwaited e = refl

neither : (a b : Bool) → pick a true b ≡ false → (a ≡ false) × (b ≡ false)
neither true b e = untrue (sym e)
neither false b e = (refl, e)

crowded_eight : (k : Link) → crowded_of k ≡ leb 8 (how_many_of k.awaited)
unfolding crowded_of
crowded_eight k = refl

module _ (s : Site) (l time : ℕ) (id : Identity) (room : ℕ) where
  abbrev pub Checked : Type 0
  Checked =
      Clear (no_link_at s l) (ltb room 4096) (bad_time_at s time) (down_at s l) (is_nothing (due_at s l time)) (crowded_of (link_at s l)) (is_awaited (find_of (link_at s l).awaited id))

  pub checked : Ready s l time id room → Checked
  checked h =
      record {
        link = rw (lt-ltb l 4 h.four, lt-leb s.linkcount l h.configured) refl;
        room = le-ltb room 4096 h.enough;
        time = rw (le-ltb time s.last h.later, le-ltb last_time time h.years) refl;
        phase = is_up_lem (phase_of (link_at s l)) h.not_down;
        due = is_due (due_at s l time) h.due;
        few = crowded_eight (link_at s l) ∙ lt-leb 8 (how_many_of (link_at s l).awaited) h.few;
        fresh = ap is_awaited h.fresh;
      }

  configured : l < 4 → no_link_at s l ≡ false → l < s.linkcount
  configured h e = let k : leb s.linkcount l ≡ false = rw (lt-ltb l 4 h) at e in leb-false s.linkcount l k

  pub ready : Checked → Ready s l time id room
  ready h =
      let four = link_below s l h.link in
      let times = neither (ltb time s.last) (ltb last_time time) h.time in
      record {
        four = four;
        configured = configured four h.link;
        enough = ltb-false room 4096 h.room;
        later = ltb-false time s.last times.0;
        years = ltb-false last_time time times.1;
        not_down = λ (e : phase_of (link_at s l) ≡ Down). not_both (ap is_down e) h.phase;
        due = λ (e : due_at s l time ≡ Nothing). not_both (ap is_nothing e) h.due;
        few = leb-false 8 (how_many_of (link_at s l).awaited) (sym (crowded_eight (link_at s l)) ∙ h.few);
        fresh = is_fresh (find_of (link_at s l).awaited id) h.fresh;
      }

  pub verdict_ready : Ready s l time id room → verdict_of s l time id room ≡ Done nothing_of
  verdict_ready h =
      passes (no_link_at s l) (ltb room 4096) (bad_time_at s time) (down_at s l) (is_nothing (due_at s l time)) (crowded_of (link_at s l)) (is_awaited (find_of (link_at s l).awaited id)) (checked h)

  pub answer_ready : (w : Batch) (o : Answer) (q : Report) → judged (issuing w (pump_refuses s l time id room)) in_order o ≡ Done q → Ready s l time id room
  answer_ready w o q e =
      ready (passed (no_link_at s l) (ltb room 4096) (bad_time_at s time) (down_at s l) (is_nothing (due_at s l time)) (crowded_of (link_at s l)) (is_awaited (find_of (link_at s l).awaited id)) w o q e)
