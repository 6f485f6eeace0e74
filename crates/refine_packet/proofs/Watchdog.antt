-- Their Watchdog is the machine's.
-- Assumes nothing.
use Rattle.basis.proofs.Std.{ℕ, ◌<◌, String, ◌≡◌, refl, sym, subst, Bool, true, false, [], Option, some, none, leb, pick, text}
use Rattle.answer.specs.Given.Hint.{none as no_hint, clock}
use Rattle.identity.specs.declared.Identity.{Identity}
use Rattle.link.specs.declared.Role.TheVariants.{Primary, Secondary}
use Rattle.link.specs.Steps.{watchdog_taken_of}
use Rattle.json_value.specs.Grammar.{Json}
use Rattle.read_head.specs.declared.GotTime.{GotTime}
use Rattle.read_head.specs.declared.Verdict.{Verdict}
use Rattle.read_head.specs.declared.Verdict.TheVariants.{Good}
use Rattle.read_head.specs.Small.{watchdog_at}
use Rattle.site.specs.declared.Site.{Site}
use Rattle.site.specs.Site.{link_at, role_of}
use Rattle.packet_greet.specs.Watchdog.{hint_from, beaten, beat, watchdog_taken}
use Rattle.machine.specs.Words.{Bytes}
use Rattle.machine.specs.State.{Machine, life_at}
use Rattle.machine.specs.Json.{read_packet, string_at, string_of, is_type, hint_in}
use Rattle.machine.specs.Life.{is_older, is_primary, now_taken, with_watchdogs}
use Rattle.machine.specs.Answers.{wants_reply}
use Rattle.machine.specs.Effects.{carried_out, watchdog_taken as watchdog_in}
use Rattle.demand_held.proofs.Lists.Each.{no_more}
use Rattle.refine_read.specs.Verdicts.{verdict_in}
use Rattle.refine_read.specs.Reasons.{by_verdict as reason_by, further_reason}
use Rattle.refine_read.proofs.Kept as Reads
use Rattle.refine_parts.specs.Same.{Beside}
use Rattle.refine_parts.proofs.LifeActs.{acts}
use Rattle.refine_calls.specs.Abstracts.{Abstracts}
use Rattle.refine_calls.specs.Calls.{hint_for}
use Rattle.refine_calls.specs.Calls.SameCommands.{no_command}
use Rattle.refine_calls.proofs.Parts.{with_life_lem}
use Rattle.refine_packet.specs.Taken.{SameTaken, question_on}
use Rattle.refine_packet.proofs.Refused.{by_verdict_lem}
use Rattle.refine_packet.specs.Greeted.{Beats, SameWatchdog}
use Rattle.refine_packet.proofs.Acked.{same_role, only_acked}

module _ (j : Json) (ty : string_at "type" j ≡ some (text "Watchdog")) where
  is_watchdog : is_type "Watchdog" j ≡ true
  is_watchdog = rw ty

  no_reply : (m : Machine) (l : ℕ) → wants_reply m l j ≡ false
  no_reply m l = rw ty

  done_so : (l t : ℕ) (m : Machine) → carried_out l t j m ≡ watchdog_in l j m
  unfolding carried_out
  done_so l t m = rw ty

module _ {beside : Beside} (s : Site) (m : Machine) (h : Abstracts beside s m) (l : ℕ) (b : l < m.setup.links) (beats : Beats (life_at m l)) (t : ℕ) (id : Identity) (p : Bytes) (j : Json) (read : read_packet p ≡ some j) (ty : string_at "type" j ≡ some (text "Watchdog")) where
  abbrev f : GotTime
  f = watchdog_at p

  same_hint : f.verdict ≡ Good → hint_from (role_of s l) f ≡ hint_for (pick (is_primary m l) (hint_in (string_of "wTs" j)) none)
  same_hint g = rw (same_role s m h l b, ((Reads.kept).watchdog p j read).time g) (by (is_primary m l))
    where
      given : (y : Bool) → pick y (clock f.time) no_hint ≡ hint_for (pick y (some f.time) none)
      given true = refl
      given false = refl

      by : (x : Bool) → hint_from (pick x Primary Secondary) f ≡ hint_for (pick x (pick (leb 3 f.decimals) (some f.time) none) none)
      by true = given (leb 3 f.decimals)
      by false = refl

  same_beat : f.verdict ≡ Good → SameTaken beside s m l t id j (beat s (question_on l t id j) f) none
  same_beat g =
      only_acked s m l t id j (beaten s l) [] (hint_from (role_of s l) f) (watchdog_in l j m) (done_so j ty l t m) (rw ty)
      (no_reply j ty m l) (no_reply j ty (watchdog_in l j m).leaves l) refl refl
      (record {
        leaves = with_life_lem s m h l b (watchdog_taken_of (link_at s l)) (with_watchdogs (now_taken (life_at m l).watchdogs) (life_at m l))
            ((acts.acts (link_at s l) (life_at m l) (h.lives l)).takes beats);
        issued = record { issued = refl; told = no_more };
        for_links = no_more;
        messages = refl;
        closed = refl;
        hint = same_hint g;
        commands = no_command;
      })

  taken : SameTaken beside s m l t id j (watchdog_taken s (question_on l t id j) f) (reason_by (verdict_in (is_older (life_at m l)) j) (further_reason m l j))
  taken =
      subst (λ (v : Verdict). SameTaken beside s m l t id j (watchdog_taken s (question_on l t id j) f) (reason_by v (further_reason m l j)))
      (((Reads.kept).watchdog p j read).verdict (is_older (life_at m l)) (is_watchdog j ty))
      (subst (λ (r : Option String). SameTaken beside s m l t id j (watchdog_taken s (question_on l t id j) f) (reason_by f.verdict r))
      (sym (((Reads.kept).further m l j).watchdog (is_watchdog j ty)))
      (by_verdict_lem s m h l b t id j f.verdict (beat s (question_on l t id j) f) none same_beat))

pub same_watchdog : SameWatchdog
same_watchdog beside s m h l b beats t id v p j read ty = taken s m h l b beats t id p j read ty
