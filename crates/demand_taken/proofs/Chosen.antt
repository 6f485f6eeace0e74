-- The version that a link has is the one that was chosen from the Version that was accepted in its life.
-- Assumes nothing.
use Rattle.basis.proofs.Std.{ℕ, ◌≡◌, refl, subst, Bool, true, false, not, List, [], ◌∷◌, some, none, ◌⊎◌, inl, inr, arith, both, not_both}
use Rattle.basis.specs.Lists.Among.{first, later}
use Rattle.json_value.specs.Grammar.{Json}
use Rattle.write_message.specs.Message.{Message}
use Rattle.write_message.specs.Message.Message.{ack}
use Rattle.machine.specs.Words.{Bytes, or_else}
use Rattle.machine.specs.State.{Sent, Life, fresh, Start, Machine, life_at, Act}
use Rattle.machine.specs.State.Sent.{own_version, own_watchdog, no_record, the_record}
use Rattle.machine.specs.State.Act.{connect, packet}
use Rattle.machine.specs.Json.{read_packet, string_of, is_type}
use Rattle.machine.specs.Life.{common, Due}
use Rattle.machine.specs.Life.Due.{the_version, the_watchdog, the_aggregated, the_alarm, the_held}
use Rattle.machine.specs.Answers.{is_taken, reasons, reason_of}
use Rattle.machine.specs.Effects.{acknowledges, after_sending}
use Rattle.machine.specs.Run.{Past, Run}
use Rattle.demand_told.specs.Demand.{messages_of}
use Rattle.demand_told.specs.Life.{going_on, this_life}
use Rattle.demand_told.specs.Greeted.{Within, Came, Answered, IsGoodVersion}
use Rattle.demand_told.specs.Greeted.Came.{came}
use Rattle.demand_told.specs.Greeted.Answered.{answered}
use Rattle.demand_told.proofs.Tests.{neither}
use Rattle.demand_told.proofs.Replies.{nobody, none_at}
use Rattle.demand_told.proofs.Checks.{one_chosen}
use Rattle.demand_told.proofs.Goes.{checked}
use Rattle.demand_taken.proofs.Acked.{not_acked_lem}
use Rattle.demand_taken.proofs.Moves.{Turned}
use Rattle.demand_taken.proofs.Moves.Turned.{sent, answered_by, turned_down, accepted, beaten, taken, replied, responded}
use Rattle.demand_taken.proofs.Lived.{Elsewhere, Goes, by_life}
use Rattle.demand_taken.proofs.Said.{came_elsewhere, its_value, no_packet, nothing_within, within_cases, first_within}

when_both : (a b : Bool) → a ≡ true → both a b ≡ false → b ≡ false
when_both true b p e = e
when_both false b p e = not_both p refl

-- a Version is accepted once in a life, after ours went out
pub sent_not_taken : (m : Machine) (l : ℕ) (j : Json) → reason_of m l j ≡ none → is_type "Version" j ≡ true
    → (not (life_at m l).versions.sent ≡ false) × ((life_at m l).versions.taken ≡ false)
unfolding reasons
sent_not_taken m l j unrefused is =
    let expected = (neither (not (is_taken j)) _ (none_at (reasons m l j) unrefused (later (later first)))).1 in
    neither (not (life_at m l).versions.sent) (life_at m l).versions.taken (when_both (is_type "Version" j) _ is expected)

module _ (u : Machine) (l : ℕ) where
  abbrev Accepted : List ℕ → Past → List Past → Type 0
  Accepted v p before = Answered l (IsGoodVersion u v) p before

  abbrev Has : Life → List ℕ → Type 0
  Has k v = (k.versions.taken ≡ true) × (k.version ≡ v)

  abbrev Chooses : Life → List Past → Type 0
  Chooses k life = (v : List ℕ) → Within (Accepted v) life → Has k v

  connect_brings_none : (p : Past) (j : Json) → p.call.act ≡ connect l → Came l j p → ⊥
  connect_brings_none p j is (came f r g) = let z : ◌≡◌ {A = ℕ} 0 1 = cc in omega arith

  opened : (p : Past) → p.call.act ≡ connect l → messages_of p.gave ≡ [] → Chooses (fresh true) (p ∷ [])
  opened p is gave v w = go (first_within p w)
    where
      go : Accepted v p [] → Has (fresh true) v
      go (answered {j} good c marked a) = absurd (connect_brings_none p j is c)

  elsewhere : (k : Life) (life : List Past) (p : Past) → Elsewhere l p → Chooses k life → Chooses k (going_on p life)
  elsewhere k life p e holds v w = go (within_cases p life w)
    where
      go : Accepted v p life ⊎ Within (Accepted v) life → Has k v
      go (inl (answered good c marked a)) = absurd (came_elsewhere e c)
      go (inr r) = holds v r

  module _ (m : Machine) (p : Past) (life : List Past) (holds : Chooses (life_at m l) life) (v : List ℕ) where
    sent_same : (t : ℕ) (d : Due) → Has (life_at m l) v → Has (after_sending t d (life_at m l)) v
    sent_same t the_version e = e
    sent_same t the_watchdog e = e
    sent_same t the_aggregated e = e
    sent_same t (the_alarm i) e = e
    sent_same t (the_held h) e = e

    acked_same : (is_ack : Bool) (message : Sent) → Has (life_at m l) v → Has (acknowledges is_ack message (life_at m l)) v
    acked_same true own_version e = e
    acked_same false own_version e = e
    acked_same true own_watchdog e = e
    acked_same false own_watchdog e = e
    acked_same is_ack no_record e = e
    acked_same is_ack (the_record n) e = e

    abbrev Either : Type 0
    Either = Accepted v p life ⊎ Within (Accepted v) life

    -- no Version of theirs
    other : (room : ℕ) (random bytes : Bytes) (j : Json) → p.call.act ≡ packet l random bytes room → read_packet bytes ≡ some j → is_type "Version" j ≡ false → Either → Has (life_at m l) v
    other room random bytes j is read no_version (inl (answered {j = i} good c marked a)) = not_both good.typed (rw (its_value is read c) no_version)
    other room random bytes j is read no_version (inr r) = holds v r

    turns : (act : Act) (ms : List Message) (x : Life) → Turned m p.call.time l act ms x → p.call.act ≡ act → messages_of p.gave ≡ ms → Either → Has x v
    turns act ms x (sent {d = d} e) is gave (inl (answered good c marked a)) = absurd (no_packet is c)
    turns act ms x (sent {d = d} e) is gave (inr r) = sent_same p.call.time d (holds v r)
    turns act ms x (answered_by {a = a} read e f) is gave (inl (answered good c marked i)) = absurd (nobody (rw gave at i))
    turns act ms x (answered_by {j = j} {a = a} read e f) is gave (inr r) = acked_same _ a.message (holds v r)
    turns act ms x (turned_down reason read) is gave (inl (answered {j = i} good c marked a)) = absurd (not_acked_lem (ack (string_of "mId" i)) _ _ (rw gave at a) refl)
    turns act ms x (turned_down reason read) is gave (inr r) = holds v r
    turns act ms x (accepted {j = j} read unrefused typed) is gave (inl (answered {j = i} good c marked a)) =
        (refl, one_chosen j (or_else [] (common j)) v (checked m m refl l j unrefused typed).version (subst (λ (q : Json). IsGoodVersion u v q) (its_value is read c) good).version)
    turns act ms x (accepted {j = j} read unrefused typed) is gave (inr r) = not_both (holds v r).0 (sent_not_taken m l j unrefused typed).1
    turns act ms x (beaten {random} {bytes} {room} {j} read no_version) is gave q = other room random bytes j is read no_version q
    turns act ms x (taken {random} {bytes} {room} {j} read no_version) is gave q = other room random bytes j is read no_version q
    turns act ms x (replied {random} {bytes} {room} {j} n read no_version up) is gave q = other room random bytes j is read no_version q
    turns act ms x (responded {random} {bytes} {room} {j} n read no_version) is gave q = other room random bytes j is read no_version q

  goes : (s : Start) (h : List Past) (m : Machine) (p : Past) (x : Life) → Goes s l h m p x → Chooses (life_at m l) (this_life l h) → Chooses x (going_on p (this_life l h))
  goes s h m p x g holds v w = turns m p (this_life l h) holds v p.call.act (messages_of p.gave) x g.turned refl refl (within_cases p (this_life l h) w)

  pub run_chooses : {s : Start} {h : List Past} {m : Machine} → Run s h m → (v : List ℕ) → Within (Answered l (IsGoodVersion u v)) (this_life l h)
      → ((life_at m l).versions.taken ≡ true) × ((life_at m l).version ≡ v)
  run_chooses {s} r = by_life s l Chooses (λ v w. absurd (nothing_within w refl)) opened elsewhere (goes s) r
