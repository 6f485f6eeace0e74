-- What the tests of the kinds say of a record.
-- Assumes nothing.
use Rattle.basis.proofs.Std.{◌≡◌, refl, sym, ap, ◌∙◌, Bool, true, false, ℕ, ◌%◌, ◌^◌, ◌≤◌, ◌<◌, arith, eqb, eqb-true, eq-eqb}
use Rattle.entry.specs.declared.Entry.{Entry}
use Rattle.entry.specs.Flags.{event_of, is_acknowledged, is_active, is_suspended, is_known, is_old}
use Rattle.entry.specs.Valid.{Alarm, Status, Aggregated, OfKind, an_alarm, a_status, an_aggregated, Decides}
use Rattle.entry.proofs.FlagLaws.{alarm_flags_lt, alarm_flags_even, alarm_flags_again, known_back, status_flags_lt, status_flags_zeros, status_flags_again, known_high, unknown_low}

pub holds : {P : Type 0} → P → Decides true P
holds p = record { yes = λ e. p; only = λ q. refl }

pub fails : {P : Type 0} → (P → ⊥) → Decides false P
fails f = record { yes = λ e. absurd (let z : ◌≡◌ {A = ℕ} 0 1 = cc in omega arith); only = λ p. absurd (f p) }

pub alarm_flags_lem : {e : Entry} → Alarm e → (e.flags < 48) × (e.flags % 2 ≡ 0)
alarm_flags_lem a =
    let lt = alarm_flags_lt a.event a.acknowledged a.active a.suspended a.event_is in
    let even = alarm_flags_even a.event a.acknowledged a.active a.suspended in
    (omega (arith, a.flags), ap (λ (n : ℕ). n % 2) a.flags ∙ even)

pub an_alarm_of : (e : Entry) → e.kind ≡ 0 → e.item < 32 → e.flags < 48 → e.flags % 2 ≡ 0 → e.value ≡ 0 → Alarm e
an_alarm_of e k i f even v = record {
  kind = k;
  item = i;
  event = event_of e.flags;
  acknowledged = is_acknowledged e.flags;
  active = is_active e.flags;
  suspended = is_suspended e.flags;
  event_is = omega arith;
  flags = alarm_flags_again e.flags (omega arith) even;
  value = v;
}

pub alarm_test : (e : Entry) → e.kind ≡ 0 → e.item < 32 → e.flags < 48 → e.flags % 2 ≡ 0 → Decides (eqb e.value 0) (Alarm e)
alarm_test e k i f even = record { yes = λ t. an_alarm_of e k i f even (eqb-true e.value 0 t); only = λ a. eq-eqb e.value 0 a.value }

pub status_flags_lem : {e : Entry} → Status e → (e.flags < 64) × (e.flags % 16 ≡ 0)
status_flags_lem s =
    let lt = status_flags_lt s.known s.old in
    let zeros = status_flags_zeros s.known s.old in
    (omega (arith, s.flags), ap (λ (n : ℕ). n % 16) s.flags ∙ zeros)

-- without the first flag there is no value
pub no_value_lem : {e : Entry} → Status e → e.flags < 32 → e.value ≡ 0
no_value_lem {e} s h = s.unknown (sym (ap is_known s.flags ∙ known_back s.known s.old) ∙ unknown_low e.flags h)

a_status_of : (e : Entry) → e.kind ≡ 1 → e.item < 32 → e.flags < 64 → e.flags % 16 ≡ 0 → e.value < 2 ^ 32 → (is_known e.flags ≡ false → e.value ≡ 0) → Status e
a_status_of e k i f zeros v u = record {
  kind = k;
  item = i;
  known = is_known e.flags;
  old = is_old e.flags;
  flags = status_flags_again e.flags f zeros;
  value = v;
  unknown = u;
}

pub a_known : (e : Entry) → e.kind ≡ 1 → e.item < 32 → 32 ≤ e.flags → e.flags < 64 → e.flags % 16 ≡ 0 → e.value < 2 ^ 32 → Status e
a_known e k i l f zeros v = a_status_of e k i f zeros v (λ u. absurd (let t = known_high e.flags l f in let z : ◌≡◌ {A = ℕ} 0 1 = cc in omega arith))

pub status_test : (e : Entry) → e.kind ≡ 1 → e.item < 32 → e.flags < 32 → e.flags % 16 ≡ 0 → Decides (eqb e.value 0) (Status e)
status_test e k i f zeros = record {
  yes = λ t. let v = eqb-true e.value 0 t in a_status_of e k i (omega arith) zeros (omega (arith, v)) (λ u. v);
  only = λ s. eq-eqb e.value 0 (no_value_lem s f);
}

-- a test that was false
pub not_held : {P : Type 0} {r : Bool} → Decides r P → r ≡ false → P → ⊥
not_held d f p = let e = d.only p in let z : ◌≡◌ {A = ℕ} 0 1 = cc in omega arith

pub of_no_kind : {e : Entry} → (Alarm e → ⊥) → (Status e → ⊥) → (Aggregated e → ⊥) → OfKind e → ⊥
of_no_kind a s g (an_alarm x) = a x
of_no_kind a s g (a_status x) = s x
of_no_kind a s g (an_aggregated x) = g x
