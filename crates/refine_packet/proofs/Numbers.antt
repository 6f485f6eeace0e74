-- The numbers of packet are the machine's, where what it comes to is.
-- Assumes nothing.
use Rattle.basis.proofs.Std.{ℕ, ◌<◌, ◌≡◌, refl, sym, ◌∙◌, Bool, true, false, List, Option, some, none, arith, ltb, length, leb-false, pick, both}
use Rattle.identity.specs.declared.Identity.{Identity}
use Rattle.identity.specs.Version.{version4_of, identity_of}
use Rattle.awaited.specs.Awaited.{find_of, is_awaited as is_found}
use Rattle.site.specs.declared.Site.{Site}
use Rattle.site.specs.Site.{link_at}
use Rattle.site.specs.Call.{batch_of}
use Rattle.call_packet.specs.Packet.{packet_taken}
use Rattle.call_laws.specs.Calls.Call.{packet}
use Rattle.machine.specs.Words.{maybe}
use Rattle.machine.specs.State.{Machine, life_at, Effect, only}
use Rattle.machine.specs.Json.{read_packet}
use Rattle.machine.specs.Answers.{is_ignored}
use Rattle.machine.specs.Effects.{receives, effect_of}
use Rattle.machine.specs.Step.{no_such_link, bad_time, is_down_at, is_replied, identity_awaited, sequence_ends, conditions}
use Rattle.refine_parts.specs.Same.{Beside}
use Rattle.refine_parts.proofs.Questions.{questions}
use Rattle.refine_parts.proofs.Same.{same_answers}
use Rattle.refine_calls.specs.Abstracts.{Abstracts}
use Rattle.refine_calls.specs.Calls.{SameCall, SamePlan}
use Rattle.refine_calls.proofs.Links.{same_link, same_time, same_down}
use Rattle.refine_packet.specs.Heard.{SameHeard}
use Rattle.refine_packet.proofs.Ignored.{same_ignored}

-- 2, 4, 12, 5, 6, 1, 9 and 10
abbrev numbers : Bool → Bool → Bool → Bool → Bool → Bool → Bool → Bool → Option ℕ
numbers link room long time down ignored awaited spent =
    pick link (some 2) (pick room (some 4) (pick long (some 12) (pick time (some 5) (pick down (some 6) (pick ignored (some 1) (pick awaited (some 9) (pick spent (some 10) none)))))))

-- the last two need be the same only where the link is there and not Down, and the packet is not ignored
same_numbers : (a b c d e i : Bool) {u u2 v v2 : Bool} → (a ≡ false → e ≡ false → i ≡ false → (u ≡ u2) × (u2 ≡ false → v ≡ v2))
    → numbers a b c d e i u v ≡ numbers a b c d e i u2 v2
same_numbers true b c d e i f = refl
same_numbers false true c d e i f = refl
same_numbers false false true d e i f = refl
same_numbers false false false true e i f = refl
same_numbers false false false false true i f = refl
same_numbers false false false false false true f = refl
same_numbers false false false false false false {u} {u2} {v} {v2} f = rw (f refl refl refl).0 (by u2 (f refl refl refl).1)
  where
    by : (z : Bool) → (z ≡ false → v ≡ v2) → pick {A = Option ℕ} z (some 9) (pick v (some 10) none) ≡ pick z (some 9) (pick v2 (some 10) none)
    by true g = refl
    by false g = rw (g refl)

split : (a : Bool) (n : ℕ) (r : Option ℕ) → pick a (some n) r ≡ none → (a ≡ false) × (r ≡ none)
split true n r e = absurd (let z : ◌≡◌ {A = ℕ} 0 1 = cc in omega arith)
split false n r e = (refl, e)

-- where none applies
record Passes (link down ignored awaited : Bool) : Type 0 where
  configured : link ≡ false
  connected : down ≡ false
  heard : ignored ≡ false
  unawaited : awaited ≡ false

passes : (a b c d e i u v : Bool) → numbers a b c d e i u v ≡ none → Passes a e i u
passes a b c d e i u v q =
    let q2 = split a 2 _ q in
    let q4 = split b 4 _ q2.1 in
    let q12 = split c 12 _ q4.1 in
    let q5 = split d 5 _ q12.1 in
    let q6 = split e 6 _ q5.1 in
    let q1 = split i 1 _ q6.1 in
    let q9 = split u 9 _ q1.1 in
    record { configured = q2.0; connected = q6.0; heard = q1.0; unawaited = q9.0 }

both_true : (a b : Bool) → both a b ≡ false → a ≡ true → b ≡ false
both_true true b e f = e
both_true false b e f = absurd (let z : ◌≡◌ {A = ℕ} 0 1 = cc in omega arith)

module _ {beside : Beside} (s : Site) (m : Machine) (h : Abstracts beside s m) (l t : ℕ) (random : Identity) (p out : List ℕ) where
  abbrev heard_as : Type 0
  heard_as = SameHeard beside s m l t (identity_of random) (packet_taken s l t (identity_of random) p) (read_packet p)

  abbrev replies : Bool
  replies = maybe false (is_replied m l) (read_packet p)

  abbrev awaits : Bool
  awaits = identity_awaited m l random.bytes

  abbrev effects : Effect
  effects = maybe (only m) (receives l t (version4_of random.bytes) m) (read_packet p)

  awaited_same : heard_as → both (packet_taken s l t (identity_of random) p).replies (is_found (find_of (link_at s l).awaited (identity_of random))) ≡ both replies awaits
  awaited_same x = rw (x.replies, (questions.waits (link_at s l) (life_at m l) (h.lives l)).is_awaited_lem (identity_of random))

  plan_same : heard_as → both replies awaits ≡ false → SamePlan beside (packet_taken s l t (identity_of random) p).plan effects
  plan_same x e = x.plan (λ r. both_true replies awaits e (sym x.replies ∙ r))

  spent_same : heard_as → both replies awaits ≡ false → (batch_of (packet_taken s l t (identity_of random) p).plan).spent ≡ sequence_ends m effects
  spent_same x e = rw (x.next, (plan_same x e).issued.issued, x.site) ((same_answers m h.pool).spent (packet_taken s l t (identity_of random) p).plan.site.pool effects)

  abbrev Hears : Type 0
  Hears = l < m.setup.links → is_down_at m l ≡ false → is_ignored (life_at m l) (read_packet p) ≡ false → heard_as

  pub packet_same : Hears → SameCall beside s m (packet l t random p out)
  unfolding conditions effect_of
  packet_same hears =
      record {
        number =
            rw (same_link s m h l, same_time s m h t, same_down s m h l, same_ignored (link_at s l) (life_at m l) (h.lives l) p)
            (same_numbers (no_such_link m l) (ltb (length out) 4096) (ltb 4096 (length p)) (bad_time m t) (is_down_at m l) (is_ignored (life_at m l) (read_packet p))
            (λ a e i. let x = hears (leb-false m.setup.links l a) e i in (awaited_same x, spent_same x)));
        plan = λ e.
            let q =
            passes (no_such_link m l) (ltb (length out) 4096) (ltb 4096 (length p)) (bad_time m t) (is_down_at m l) (is_ignored (life_at m l) (read_packet p)) (both replies awaits)
            (sequence_ends m effects) e in
            plan_same (hears (leb-false m.setup.links l q.configured) q.connected q.heard) q.unawaited;
      }
