-- Packed and unpacked: the same record; unpacked and packed: the same bytes; and the reader has one result.
-- Assumes nothing.
use Rattle.basis.proofs.Std.{◌≡◌, refl, sym, ap, subst, ◌∙◌, List, ℕ, ◌^◌, ◌<◌, div-eq_of_lt, arith, length, get_or, replicate}
use Rattle.bits.specs.Fields.{total, joined, split, Within, none, next, bytes_of as bytes_in, number_of}
use Rattle.bits.proofs.Fields.{joined_lt, joined_split, split_joined}
use Rattle.bits.proofs.Bytes.{number_bytes, number_lt, bytes_number, bytes_within}
use Rattle.entry.specs.declared.Entry.{Entry}
use Rattle.entry.specs.declared.Unpacked.{Unpacked}
use Rattle.entry.specs.declared.Unpacked.TheVariants.{Accepted}
use Rattle.entry.specs.Layout.{bytes_of, entry_of, widths, values_of}
use Rattle.entry.specs.Valid.{Valid, OfKind, an_alarm, a_status, an_aggregated}
use Rattle.entry.specs.Reading.{Reads, reads, refuses}
use Rattle.entry.proofs.ValidLaws.{alarm_flags_lem, status_flags_lem}

-- the fields of each kind fit their widths
pub record Narrow (e : Entry) : Type 0 where
  pub kind : e.kind < 4
  pub item : e.item < 64
  pub flags : e.flags < 64
  pub value : e.value < 2 ^ 32

narrow : {e : Entry} → OfKind e → Narrow e
narrow (an_alarm a) = let f = alarm_flags_lem a in record { kind = omega (arith, a.kind); item = omega (arith, a.item); flags = omega (arith, f.0); value = omega (arith, a.value) }
narrow (a_status s) = let f = status_flags_lem s in record { kind = omega (arith, s.kind); item = omega (arith, s.item); flags = f.0; value = s.value }
narrow (an_aggregated g) = record { kind = omega (arith, g.kind); item = omega (arith, g.item); flags = omega (arith, g.flags); value = omega (arith, g.value) }

pub within : {e : Entry} → Valid e → Within widths (values_of e)
within {e} v =
    let n = narrow v.of_kind in
    let t : e.time < 2 ^ 48 = omega (arith, v.time) in
    next v.link (next n.kind (next n.item (next n.flags (next t (next n.value (next v.sequence none))))))

-- the fields that stand in a valid record's bytes are its own
pub back : {e : Entry} → Valid e → (b : List ℕ) → bytes_of e ≡ b → entry_of (split widths (number_of b)) ≡ e
unfolding bytes_of
back {e} v b p =
    let n = joined 0 widths (values_of e) in
    ap (λ (m : ℕ). entry_of (split widths m)) (ap number_of (sym p) ∙ number_bytes 16 n (joined_lt widths (values_of e) refl))
    ∙ ap entry_of (split_joined (within v) 0)

-- the bytes of the fields that stand in sixteen bytes are those bytes
pub forth : (b : List ℕ) → length b ≡ 16 → ((i : ℕ) → get_or b i 0 < 256) → bytes_of (entry_of (split widths (number_of b))) ≡ b
unfolding bytes_of
forth b l h =
    let n = number_of b in
    let f : n < 2 ^ 128 = subst (λ (k : ℕ). n < 2 ^ total (replicate k 8)) l (number_lt b) in
    ap (bytes_in 16) (ap (λ (m : ℕ). joined m widths (split widths n)) (sym (div-eq_of_lt f)) ∙ joined_split widths n)
    ∙ ap (λ (k : ℕ). bytes_in k n) (sym l)
    ∙ bytes_number b (bytes_within b h)

-- two results of the reader on the same bytes are equal
pub one_result : {b : List ℕ} {r s : Unpacked} → Reads b r → Reads b s → r ≡ s
one_result {b} (reads v p) (reads w q) = ap Accepted (sym (back v b p) ∙ back w b q)
one_result (reads {e} v p) (refuses n) = absurd (n e v p)
one_result (refuses n) (reads {e} v p) = absurd (n e v p)
one_result (refuses m) (refuses n) = refl

-- what was packed is read as itself
pub round_trip : {e : Entry} {r : Unpacked} → Valid e → Reads (bytes_of e) r → r ≡ Accepted e
round_trip v r = one_result r (reads v refl)
