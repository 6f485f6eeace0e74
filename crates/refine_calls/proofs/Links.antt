-- Connect and disconnect are the machine's.
-- Assumes nothing.
use Rattle.basis.proofs.Std.{ℕ, ◌≡◌, refl, sym, ap, ◌∙◌, Bool, true, false, not, Option, some, none, arith, ltb, ltb-false, leb-false, le-leb, pick, bool_cases}
use Rattle.link.specs.declared.Phase.TheVariants.{Down, Greeting, Beating, Up}
use Rattle.link.specs.Steps.{connect_of}
use Rattle.site.specs.declared.Site.{Site}
use Rattle.site.specs.Site.{no_link_at, bad_time_at, link_at, is_down, down_at}
use Rattle.call_laws.specs.Calls.Call.{connect, disconnect}
use Rattle.machine.specs.State.{Machine, fresh, life_at}
use Rattle.machine.specs.Life.{is_greeting, is_beating}
use Rattle.machine.specs.Effects.{connects as connecting, closes as closing, effect_of}
use Rattle.machine.specs.Step.{no_such_link, bad_time, is_down_at, conditions}
use Rattle.demand_held.proofs.Lists.Each.{no_more}
use Rattle.refine_parts.specs.Same.{Beside}
use Rattle.refine_parts.proofs.Questions.{same_phase}
use Rattle.refine_parts.proofs.LifeActs.{acts}
use Rattle.refine_calls.specs.Abstracts.{Abstracts}
use Rattle.refine_calls.specs.Calls.{SameCall}
use Rattle.refine_calls.specs.Calls.SameCommands.{no_command}
use Rattle.refine_calls.specs.Links.{LinkCalls}
use Rattle.refine_calls.specs.Links.OfLink.{connects, disconnects}
use Rattle.refine_calls.proofs.Parts.{with_life_lem, closed}

-- ---- numbers 2, 5 and 6
module _ {beside : Beside} (s : Site) (m : Machine) (h : Abstracts beside s m) where
  pub same_link : (l : ℕ) → no_link_at s l ≡ no_such_link m l
  same_link l =
      bool_cases (ltb l 4)
      (λ e. rw (e, h.items.setup.links))
      (λ e. rw e (sym (le-leb m.setup.links l (omega (arith, ltb-false l 4 e, h.items.setup.few)))))

  pub same_time : (t : ℕ) → bad_time_at s t ≡ bad_time m t
  same_time t = rw h.last

  pub same_down : (l : ℕ) → down_at s l ≡ is_down_at m l
  same_down l = ap is_down (same_phase (link_at s l) (life_at m l) (h.lives l)).phase ∙ by (life_at m l).connected (is_greeting (life_at m l)) (is_beating (life_at m l))
    where
      by : (c g b : Bool) → is_down (pick (not c) Down (pick g Greeting (pick b Beating Up))) ≡ not c
      by true true b = refl
      by true false true = refl
      by true false false = refl
      by false g b = refl

-- what passes where none of the three applies
none_of : (a b d : Bool) → pick {A = Option ℕ} a (some 2) (pick b (some 5) (pick d (some 6) none)) ≡ none → (a ≡ false) × (d ≡ false)
none_of true b d e = absurd (let z : ◌≡◌ {A = ℕ} 0 1 = cc in omega arith)
none_of false true d e = absurd (let z : ◌≡◌ {A = ℕ} 0 1 = cc in omega arith)
none_of false false true e = absurd (let z : ◌≡◌ {A = ℕ} 0 1 = cc in omega arith)
none_of false false false e = (refl, refl)

not_not : (c : Bool) → not (not c) ≡ false → c ≡ false
not_not true e = e
not_not false e = refl

module _ {beside : Beside} (s : Site) (m : Machine) (h : Abstracts beside s m) (l t : ℕ) where
  connect_same : SameCall beside s m (connect l t)
  unfolding conditions effect_of connecting
  connect_same =
      record {
        number = rw (same_link s m h l, same_time s m h t, same_down s m h l) (by (no_such_link m l) (bad_time m t) (is_down_at m l));
        plan = λ e.
            let ok : (no_such_link m l ≡ false) × (not (is_down_at m l) ≡ false) = none_of (no_such_link m l) (bad_time m t) (not (is_down_at m l)) e in
            record {
              leaves = with_life_lem s m h l (leb-false m.setup.links l ok.0) (connect_of (link_at s l)) (fresh true)
                  ((acts.acts (link_at s l) (life_at m l) (h.lives l)).connect (not_not (life_at m l).connected ok.1));
              issued = record { issued = refl; told = no_more };
              for_links = no_more;
              messages = refl;
              closed = refl;
              hint = refl;
              commands = no_command;
            };
      }
    where
      by : (a b d : Bool) → pick {A = Option ℕ} a (some 2) (pick b (some 5) (pick (pick d false true) (some 6) none)) ≡ pick a (some 2) (pick b (some 5) (pick (not d) (some 6) none))
      by a b true = refl
      by a b false = refl

  disconnect_same : SameCall beside s m (disconnect l t)
  unfolding conditions effect_of closing
  disconnect_same =
      record {
        number = rw (same_link s m h l, same_time s m h t, same_down s m h l);
        plan = λ e.
            let ok : (no_such_link m l ≡ false) × (is_down_at m l ≡ false) = none_of (no_such_link m l) (bad_time m t) (is_down_at m l) e in
            record {
              leaves = closed s m h l (leb-false m.setup.links l ok.0);
              issued = record { issued = refl; told = no_more };
              for_links = no_more;
              messages = refl;
              closed = omega arith;
              hint = refl;
              commands = no_command;
            };
      }

pub link_calls : LinkCalls
link_calls beside s m h c (connects l t) u = connect_same s m h l t
link_calls beside s m h c (disconnects l t) u = disconnect_same s m h l t
