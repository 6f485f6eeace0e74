-- A row that is read stands there and is allowed; an allowed row that stands there is read.
-- Assumes nothing.
use Rattle.basis.proofs.Std.{◌≡◌, refl, sym, ap, ap₂, subst, ◌∙◌, true, List, [], ◌∷◌, ◌++◌, ⊎_elim, ℕ, suc, ◌+◌, ◌-◌, ◌≤◌, ◌<◌, add-zero, arith, eqb, leb, pos, length, get_or, drop, length-drop, length-append, drop-cons, get_or-drop, eqb-true, leb-true, ltb-true, eq-eqb, le-leb, lt-ltb, bool_cases, le_or_lt, both_true, both_of}
use Rattle.bits.specs.Fields.{field_of}
use Rattle.number.specs.Signed.{word16_of}
use Rattle.label.specs.declared.LabelRead.{LabelRead}
use Rattle.label.specs.Label.{string, label_of}
use Rattle.label.specs.Reading.{far, read_at}
use Rattle.label.proofs.Stands.{Stands, first, second, joined}
use Rattle.label.proofs.Reading.{Got, labelled, read_sound, read_complete}
use Rattle.table_item.specs.declared.Item.{Item}
use Rattle.table_item.specs.Item.{no_item}
use Rattle.table_row.specs.declared.ItemRead.{ItemRead}
use Rattle.table_row.specs.Rows.{good_alarm, good_status, missed_item, alarm_with, status_with, alarm_at, status_at}
use Rattle.table_row.proofs.Rows.{alarm_behind, alarm_bad, alarm_good, status_behind, status_bad, status_good}
use Rattle.table_whole.specs.Table.{Row}
use Rattle.table_whole.specs.Bytes.{alarm_bytes, status_bytes}
use Rattle.table_whole.specs.Allowed.{IsAlarm, IsStatus}
use Rattle.table_whole.specs.Memory.{item_of}
use Rattle.table_whole.proofs.Prefix.{byte_of, alarm_widths, status_widths, alarm_prefix, status_prefix, alarm_byte, status_byte}
use Rattle.table_whole.proofs.Turns.{One}

-- what the test of a first byte shows, and what passes it
pub alarm_checks : (n b : ℕ) → good_alarm n b ≡ true → (field_of b 0 2 ≡ 0) × ((1 ≤ field_of b 3 2) × (field_of b 5 3 < n))
unfolding good_alarm
alarm_checks n b e =
    let p = both_true (eqb (field_of b 0 2) 0) _ e in
    let q = both_true (leb 1 (field_of b 3 2)) _ p.1 in
    (eqb-true _ _ p.0, (leb-true 1 (field_of b 3 2) q.0, ltb-true (field_of b 5 3) n q.1))

pub alarm_passes : (n b : ℕ) → field_of b 0 2 ≡ 0 → 1 ≤ field_of b 3 2 → field_of b 5 3 < n → good_alarm n b ≡ true
unfolding good_alarm
alarm_passes n b z p c = both_of (eq-eqb (field_of b 0 2) 0 z) (both_of (le-leb 1 (field_of b 3 2) p) (lt-ltb (field_of b 5 3) n c))

pub status_checks : (n b : ℕ) → good_status n b ≡ true → (field_of b 0 5 ≡ 0) × (field_of b 5 3 < n)
unfolding good_status
status_checks n b e =
    let p = both_true (eqb (field_of b 0 5) 0) _ e in
    (eqb-true _ _ p.0, ltb-true (field_of b 5 3) n p.1)

pub status_passes : (n b : ℕ) → field_of b 0 5 ≡ 0 → field_of b 5 3 < n → good_status n b ≡ true
unfolding good_status
status_passes n b z c = both_of (eq-eqb (field_of b 0 5) 0 z) (lt-ltb (field_of b 5 3) n c)

module _ (s : List ℕ) where
  byte_stands : (at : ℕ) → at < length s → Stands s at (get_or s at 0 ∷ [])
  byte_stands at h = record { rest = drop (suc at) s; parts = drop-cons s at 0 h }

  -- a byte that stands there
  byte_there : (at b : ℕ) (bs : List ℕ) → Stands s at (b ∷ bs) → (at < length s) × (get_or s at 0 ≡ b)
  byte_there at b bs h =
      let n : length s - at ≡ suc (length (bs ++ h.rest)) = sym (length-drop at s) ∙ ap length h.parts in
      (omega arith, sym (get_or-drop at s 0 0 ∙ ap (λ (m : ℕ). get_or s m 0) (add-zero at)) ∙ ap (λ (d : List ℕ). get_or d 0 0) h.parts)

  -- where a string stands, the slice goes on
  pub starts : (at : ℕ) (text : List ℕ) → Stands s at (string text) → at ≤ length s
  starts at text h =
      let n : length s - at ≡ suc (length (text ++ h.rest)) = sym (length-drop at s) ∙ ap length h.parts in
      omega arith

  pub not_missed : {P : Type 0} (r : ItemRead) → length s < far → r.next ≤ length s → r ≡ missed_item → P
  not_missed r f h e = absurd (let z : r.next ≡ far = ap (λ (q : ItemRead). q.next) e in omega arith)

  module _ (n : ℕ) where
    abbrev pub alarm_item : ℕ → Item
    alarm_item at = (alarm_at s n at).item

    abbrev pub alarm_next : ℕ → ℕ
    alarm_next at = (alarm_at s n at).next

    abbrev pub AlarmOne : ℕ → Type 0
    AlarmOne = One item_of no_item alarm_bytes (IsAlarm n) alarm_item alarm_next s 32

    module _ (bytes : (i : ℕ) → get_or s i 0 < 256) (f : length s < far) where
      alarm_got : (at : ℕ) (h : at < length s) → good_alarm n (get_or s at 0) ≡ true → Got s (at + 1) → AlarmOne at
      alarm_got at h g code =
          let b = get_or s at 0 in
          let ok = alarm_checks n b g in
          let text = code.text in
          let e : alarm_at s n at ≡ alarm_with b (labelled (at + 1) text) = alarm_good s n at h g ∙ ap (alarm_with b) code.is in
          record {
            thing = record { component = field_of b 5 3; priority = field_of b 3 2; category = field_of b 2 1; code = text; name = []; lowest = pos 0; highest = pos 0 };
            valid = record {
              component = ok.1.1;
              lowest = ok.1.0;
              highest = omega arith;
              category = omega arith;
              code = code.label;
              name = refl;
              no_range = record { lowest = refl; highest = refl };
            };
            stands =
                subst (λ (p : List ℕ). Stands s at (p ++ string text)) (sym (alarm_prefix b (bytes at) ok.0))
                (joined s at (b ∷ []) (string text) (byte_stands at h) code.stands);
            value_is = ap (λ (r : ItemRead). r.item) e;
            next_is = ap (λ (r : ItemRead). r.next) e ∙ omega arith;
            within = omega arith;
          }

      pub alarm_sound : (at : ℕ) → alarm_next at ≤ length s → AlarmOne at
      alarm_sound at h =
          ⊎_elim
          (λ (a : length s ≤ at). not_missed (alarm_at s n at) f h (alarm_behind s n at a))
          (λ (a : at < length s).
          bool_cases (good_alarm n (get_or s at 0))
          (λ g. alarm_got at a g (read_sound s (at + 1) f (subst (λ (r : ItemRead). r.next ≤ length s) (alarm_good s n at a g) h)))
          (λ g. not_missed (alarm_at s n at) f h (alarm_bad s n at a g)))
          (le_or_lt (length s) at)

    pub alarm_complete : n ≤ 8 → (at : ℕ) (r : Row) → IsAlarm n r → Stands s at (alarm_bytes r)
        → (alarm_item at ≡ item_of r) × (alarm_next at ≡ at + length (alarm_bytes r))
    alarm_complete n8 at r v st =
        let b = byte_of alarm_widths (r.component ∷ r.priority ∷ r.category ∷ 0 ∷ []) in
        let c = v.component in
        let p = v.highest in
        let k = v.category in
        let ab = alarm_byte r.component r.priority r.category (omega arith) (omega arith) (omega arith) in
        let there = byte_there at b (string r.code) st in
        let code = read_complete {s = s} {at = at + 1} r.code v.code (second s at (b ∷ []) (string r.code) st) in
        let low : 1 ≤ field_of b 3 2 = omega (arith, ab.priority_is, v.lowest) in
        let few : field_of b 5 3 < n = omega (arith, ab.component_is, v.component) in
        let g : good_alarm n (get_or s at 0) ≡ true = ap (good_alarm n) there.1 ∙ alarm_passes n b ab.zeros low few in
        let e : alarm_at s n at ≡ alarm_with b (labelled (at + 1) r.code) = alarm_good s n at there.0 g ∙ ap₂ alarm_with there.1 code in (
          ap (λ (q : ItemRead). q.item) e
              ∙ (λ i. record {
                code = label_of r.code;
                name = label_of (sym v.name i);
                component = ab.component_is i;
                priority = ab.priority_is i;
                category = ab.category_is i;
                lowest = word16_of (sym v.no_range.lowest i);
                highest = word16_of (sym v.no_range.highest i);
              }),
          ap (λ (q : ItemRead). q.next) e ∙ omega arith,
        )

    abbrev pub status_item : ℕ → Item
    status_item at = (status_at s n at).item

    abbrev pub status_next : ℕ → ℕ
    status_next at = (status_at s n at).next

    abbrev pub StatusOne : ℕ → Type 0
    StatusOne = One item_of no_item status_bytes (IsStatus n) status_item status_next s 32

    module _ (bytes : (i : ℕ) → get_or s i 0 < 256) (f : length s < far) where
      status_got : (at : ℕ) (h : at < length s) → good_status n (get_or s at 0) ≡ true → (code : Got s (at + 1))
          → Got s (at + 1 + length (string code.text)) → StatusOne at
      status_got at h g code name =
          let b = get_or s at 0 in
          let ok = status_checks n b g in
          let text = code.text in
          let second_is : read_at s (read_at s (at + 1)).next ≡ labelled (at + 1 + length (string text)) name.text =
          ap (λ (r : LabelRead). read_at s r.next) code.is ∙ name.is in
          let e : status_at s n at ≡ status_with b (labelled (at + 1) text) (labelled (at + 1 + length (string text)) name.text) =
          status_good s n at h g ∙ ap₂ (status_with b) code.is second_is in
          record {
            thing = record { component = field_of b 5 3; priority = 0; category = 0; code = text; name = name.text; lowest = pos 0; highest = pos 0 };
            valid = record {
              component = ok.1;
              priority = refl;
              category = refl;
              code = code.label;
              name = name.label;
              no_range = record { lowest = refl; highest = refl };
            };
            stands =
                subst (λ (p : List ℕ). Stands s at (p ++ (string text ++ string name.text))) (sym (status_prefix b (bytes at) ok.0))
                (joined s at (b ∷ []) (string text ++ string name.text) (byte_stands at h)
                (joined s (at + 1) (string text) (string name.text) code.stands name.stands));
            value_is = ap (λ (r : ItemRead). r.item) e;
            next_is = ap (λ (r : ItemRead). r.next) e ∙ omega (arith, length-append text (string name.text));
            within = omega arith;
          }

      -- the code was read, since the name behind it was
      status_read : (at : ℕ) (h : at < length s) → good_status n (get_or s at 0) ≡ true → (read_at s (read_at s (at + 1)).next).next ≤ length s → StatusOne at
      status_read at h g l =
          let name = read_sound s (read_at s (at + 1)).next f l in
          let code = read_sound s (at + 1) f (starts (read_at s (at + 1)).next name.text name.stands) in
          status_got at h g code (subst (Got s) (ap (λ (r : LabelRead). r.next) code.is) name)

      pub status_sound : (at : ℕ) → status_next at ≤ length s → StatusOne at
      status_sound at h =
          ⊎_elim
          (λ (a : length s ≤ at). not_missed (status_at s n at) f h (status_behind s n at a))
          (λ (a : at < length s).
          bool_cases (good_status n (get_or s at 0))
          (λ g. status_read at a g (subst (λ (r : ItemRead). r.next ≤ length s) (status_good s n at a g) h))
          (λ g. not_missed (status_at s n at) f h (status_bad s n at a g)))
          (le_or_lt (length s) at)

    pub status_complete : n ≤ 8 → (at : ℕ) (r : Row) → IsStatus n r → Stands s at (status_bytes r)
        → (status_item at ≡ item_of r) × (status_next at ≡ at + length (status_bytes r))
    status_complete n8 at r v st =
        let b = byte_of status_widths (r.component ∷ 0 ∷ []) in
        let c = v.component in
        let sb = status_byte r.component (omega arith) in
        let there = byte_there at b (string r.code ++ string r.name) st in
        let both = second s at (b ∷ []) (string r.code ++ string r.name) st in
        let code = read_complete {s = s} {at = at + 1} r.code v.code (first s (at + 1) (string r.code) (string r.name) both) in
        let name = read_complete {s = s} {at = at + 1 + length (string r.code)} r.name v.name (second s (at + 1) (string r.code) (string r.name) both) in
        let name_is : read_at s (read_at s (at + 1)).next ≡ labelled (at + 1 + length (string r.code)) r.name =
        ap (λ (q : LabelRead). read_at s q.next) code ∙ name in
        let few : field_of b 5 3 < n = omega (arith, sb.component_is, v.component) in
        let g : good_status n (get_or s at 0) ≡ true = ap (good_status n) there.1 ∙ status_passes n b sb.zeros few in
        let e : status_at s n at ≡ status_with b (labelled (at + 1) r.code) (labelled (at + 1 + length (string r.code)) r.name) =
        status_good s n at there.0 g
        ∙ ap (λ (m : ℕ). status_with m (read_at s (at + 1)) (read_at s (read_at s (at + 1)).next)) there.1
        ∙ ap₂ (status_with b) code name_is in (
          ap (λ (q : ItemRead). q.item) e
              ∙ (λ i. record {
                code = label_of r.code;
                name = label_of r.name;
                component = sb.component_is i;
                priority = sym v.priority i;
                category = sym v.category i;
                lowest = word16_of (sym v.no_range.lowest i);
                highest = word16_of (sym v.no_range.highest i);
              }),
          ap (λ (q : ItemRead). q.next) e ∙ omega (arith, length-append r.code (string r.name)),
        )
