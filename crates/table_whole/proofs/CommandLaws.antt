-- A command that is read stands there and is allowed; an allowed command that stands there is read.
-- Assumes nothing.
use Rattle.basis.proofs.Std.{◌≡◌, refl, sym, ap, subst, ◌∙◌, true, List, [], ◌∷◌, ◌++◌, ⊎_elim, ℕ, ◌+◌, ◌≤◌, ◌<◌, mod-lt, arith, ℤ, pos, length, get_or, take, drop, take-append-drop, length-drop, length-append, get_or-drop, bool_cases, le_or_lt}
use lib.Pow.{pow_pos}
use Rattle.bits.specs.Fields.{field_of, joined, split, Within, bytes_of}
use Rattle.bits.specs.Fields.Within.{none, next}
use Rattle.number.specs.Signed.{word16_of, signed16_of, at_most}
use Rattle.number.proofs.RoundTrip.{signed_word_16, word_lt_16, word_signed_16, signed_range_16}
use Rattle.label.specs.Reading.{far}
use Rattle.label.proofs.Stands.{Stands, first, second, joined as one_behind}
use Rattle.table_item.specs.declared.Item.{Item}
use Rattle.table_item.specs.Item.{no_item}
use Rattle.table_row.specs.declared.ItemRead.{ItemRead}
use Rattle.table_row.specs.Rows.{status_at, range_at, ranged, good_range, with_range, command_at}
use Rattle.table_row.proofs.Rows.{range_behind, range_bad, range_good}
use Rattle.table_whole.specs.Table.{Row}
use Rattle.table_whole.specs.Bytes.{fields, status_bytes, command_bytes}
use Rattle.table_whole.specs.Allowed.{IsStatus, IsCommand}
use Rattle.table_whole.specs.Memory.{item_of}
use Rattle.table_whole.proofs.Fields.{first_sound, first_complete}
use Rattle.table_whole.proofs.RowLaws.{not_missed, StatusOne, status_sound, status_complete}
use Rattle.table_whole.proofs.Turns.{One}

abbrev range_widths : List ℕ
range_widths = 16 ∷ 16 ∷ []

abbrev pub range_bytes : ℤ → ℤ → List ℕ
range_bytes low high = fields range_widths (word16_of low ∷ word16_of high ∷ [])

-- a row with this range
abbrev between : Row → ℤ → ℤ → Row
between r low high =
    record { component = r.component; priority = r.priority; category = r.category; code = r.code; name = r.name; lowest = low; highest = high }

low_is : (n : ℕ) → word16_of (signed16_of (field_of n 16 16)) ≡ field_of n 16 16
low_is n = word_signed_16 (field_of n 16 16) (mod-lt _ (pow_pos 16))

high_is : (n : ℕ) → word16_of (signed16_of (field_of n 0 16)) ≡ field_of n 0 16
high_is n = word_signed_16 (field_of n 0 16) (mod-lt _ (pow_pos 16))

module _ (s : List ℕ) where
  -- the bytes at a place as a range
  range_stands : ((i : ℕ) → get_or s i 0 < 256) → (at : ℕ) → at + 4 ≤ length s
      → Stands s at (range_bytes (signed16_of (field_of (range_at s at) 16 16)) (signed16_of (field_of (range_at s at) 0 16)))
  range_stands b at h =
      let d = drop at s in
      let n = range_at s at in
      let l : 4 ≤ length d = simp length-drop (omega arith) in
      let e : range_bytes (signed16_of (field_of n 16 16)) (signed16_of (field_of n 0 16)) ≡ take 4 d =
      (λ i. bytes_of 4 (joined 0 range_widths (low_is n i ∷ high_is n i ∷ [])))
      ∙ first_sound 4 range_widths refl d (λ i. rw get_or-drop (b (at + i))) l in
      record { rest = drop 4 d; parts = sym (take-append-drop 4 d) ∙ ap (λ (l : List ℕ). l ++ drop 4 d) (sym e) }

  module _ (n : ℕ) where
    abbrev pub command_item : ℕ → Item
    command_item at = (command_at s n at).item

    abbrev pub command_next : ℕ → ℕ
    command_next at = (command_at s n at).next

    abbrev pub CommandOne : ℕ → Type 0
    CommandOne = One item_of no_item command_bytes (IsCommand n) command_item command_next s 32

    module _ (bytes : (i : ℕ) → get_or s i 0 < 256) (f : length s < far) where
      command_got : (at : ℕ) → (status_at s n at).next + 4 ≤ length s → good_range (range_at s (status_at s n at).next) ≡ true → StatusOne s n at → CommandOne at
      unfolding command_at good_range
      command_got at h g o =
          let r = o.thing in
          let v = o.valid in
          let p = (status_at s n at).next in
          let m = range_at s p in
          let low = signed16_of (field_of m 16 16) in
          let high = signed16_of (field_of m 0 16) in
          let e : with_range s (status_at s n at) ≡ record { item = ranged (status_at s n at).item m; next = p + 4 } = range_good s (status_at s n at) h g in
          record {
            thing = between r low high;
            valid = record {
              component = v.component;
              priority = v.priority;
              category = v.category;
              code = v.code;
              name = v.name;
              lowest = signed_range_16 (field_of m 16 16) (mod-lt _ (pow_pos 16));
              highest = signed_range_16 (field_of m 0 16) (mod-lt _ (pow_pos 16));
              range = g;
            };
            stands = one_behind s at (status_bytes r) (range_bytes low high) o.stands
                (subst (λ (q : ℕ). Stands s q (range_bytes low high)) o.next_is (range_stands bytes p h));
            value_is =
                ap (λ (q : ItemRead). q.item) e
                ∙ ap (λ (i : Item). ranged i m) o.value_is
                ∙ (λ i. record {
                  code = (item_of r).code;
                  name = (item_of r).name;
                  component = r.component;
                  priority = r.priority;
                  category = r.category;
                  lowest = sym (low_is m) i;
                  highest = sym (high_is m) i;
                });
            next_is = ap (λ (q : ItemRead). q.next) e ∙ omega (arith, o.next_is, length-append (status_bytes r) (range_bytes low high));
            within = o.within;
          }

      pub command_sound : (at : ℕ) → command_next at ≤ length s → CommandOne at
      unfolding command_at
      command_sound at h =
          let q = status_at s n at in
          ⊎_elim
          (λ (a : q.next + 4 ≤ length s).
          bool_cases (good_range (range_at s q.next))
          (λ g. command_got at a g (status_sound s n bytes f at (omega arith)))
          (λ g. not_missed s (command_at s n at) f h (range_bad s q a g)))
          (λ (a : length s < q.next + 4). not_missed s (command_at s n at) f h (range_behind s q a))
          (le_or_lt (q.next + 4) (length s))

    pub command_complete : n ≤ 8 → (at : ℕ) (r : Row) → IsCommand n r → Stands s at (command_bytes r)
        → (command_item at ≡ item_of r) × (command_next at ≡ at + length (command_bytes r))
    unfolding command_at good_range
    command_complete n8 at r v st =
        let z = between r (pos 0) (pos 0) in
        let vz : IsStatus n z = record {
          component = v.component;
          priority = v.priority;
          category = v.category;
          code = v.code;
          name = v.name;
          no_range = record { lowest = refl; highest = refl };
        } in
        let range = range_bytes r.lowest r.highest in
        let known = status_complete s n n8 at z vz (first s at (status_bytes r) range st) in
        let p = at + length (status_bytes r) in
        let q : ItemRead = record { item = item_of z; next = p } in
        let status : status_at s n at ≡ q = (λ i. record { item = known.0 i; next = known.1 i }) in
        let sr = second s at (status_bytes r) range st in
        let m = range_at s p in
        let w : Within range_widths (word16_of r.lowest ∷ word16_of r.highest ∷ []) = next (word_lt_16 r.lowest v.lowest) (next (word_lt_16 r.highest v.highest) none) in
        let e : split range_widths m ≡ word16_of r.lowest ∷ word16_of r.highest ∷ [] = first_complete 4 range_widths refl (drop p s) _ w (ap (take 4) sr.parts) in
        let el : field_of m 16 16 ≡ word16_of r.lowest = ap (λ (x : List ℕ). get_or x 0 0) e in
        let eh : field_of m 0 16 ≡ word16_of r.highest = ap (λ (x : List ℕ). get_or x 1 0) e in
        let h : p + 4 ≤ length s = omega (arith, length-drop p s, ap length sr.parts) in
        let low : signed16_of (field_of m 16 16) ≡ r.lowest = ap signed16_of el ∙ signed_word_16 r.lowest v.lowest in
        let high : signed16_of (field_of m 0 16) ≡ r.highest = ap signed16_of eh ∙ signed_word_16 r.highest v.highest in
        let g : good_range m ≡ true = (λ i. at_most (low i) (high i)) ∙ v.range in
        let c : with_range s (status_at s n at) ≡ record { item = ranged (item_of z) m; next = p + 4 } = ap (with_range s) status ∙ range_good s q h g in (
          ap (λ (x : ItemRead). x.item) c
              ∙ (λ i. record {
                code = (item_of r).code;
                name = (item_of r).name;
                component = r.component;
                priority = r.priority;
                category = r.category;
                lowest = el i;
                highest = eh i;
              }),
          ap (λ (x : ItemRead). x.next) c ∙ omega (arith, length-append (status_bytes r) range),
        )
