-- What holds of the records of every place holds of all of them; a record under another number is as sound.
-- Assumes nothing.
use Rattle.basis.proofs.Std.{ℕ, zero, suc, ◌^◌, ◌≤◌, ◌<◌, ◌≡◌, refl, ap, Bool, true, false, List, [], ◌∷◌, ◌++◌, arith, eqb, lit<, mod-lt, pick, picked}
use Rattle.entry.specs.declared.Entry.{Entry}
use Rattle.entry.specs.Valid.{OfKind, Valid, last_time}
use Rattle.entry.specs.Valid.OfKind.{an_alarm, a_status, an_aggregated}
use Rattle.status.specs.declared.Status.{Status}
use Rattle.status.specs.Issued.{issued_of as status_record}
use Rattle.aggregated.specs.declared.Aggregated.{Aggregated}
use Rattle.aggregated.specs.Issued.{issued_of as aggregated_record}
use Rattle.pool_laws.specs.Batch.{renumbered}
use Rattle.pool_laws.specs.Upwards.{entries_to, entry_if}
use Rattle.table_whole.specs.declared.SiteTable.{SiteTable}
use Rattle.call_laws.specs.Sound.{Each, SoundEntry}

module _ (P : Entry → Type 0) where
  pub each_append : (xs ys : List Entry) → Each P xs → Each P ys → Each P (xs ++ ys)
  each_append [] ys a b = b
  each_append (x ∷ xs) ys a b = (a.0, each_append xs ys a.1 b)

  pub each_if : (t : Bool) (e : Entry) → (t ≡ true → P e) → Each P (entry_if t e)
  each_if true e h = (h refl, tt)
  each_if false e h = tt

  pub each_to : (f : ℕ → List Entry) (k : ℕ) → ((i : ℕ) → i < k → Each P (f i)) → Each P (entries_to f k)
  each_to f zero h = tt
  each_to f (suc k) h = each_append (entries_to f k) (f k) (each_to f k (λ i g. h i (omega arith))) (h k (omega arith))

-- what follows from it holds too
pub each_so : (P Q : Entry → Type 0) → ((e : Entry) → P e → Q e) → (es : List Entry) → Each P es → Each Q es
each_so P Q f [] a = a
each_so P Q f (e ∷ es) (b, a) = (f e b, each_so P Q f es a)

-- the records of a status' value and of the aggregated value are ones that the record reader accepts
pub status_valid : (x : Status) (o number time : ℕ) (old : Bool) → x.value < 2 ^ 32 → o < 8 → number < 32 → time ≤ last_time → Valid (status_record x o number time old)
status_valid x o number time old v l n t =
    record {
      link = l;
      time = t;
      sequence = lit< tt;
      of_kind = a_status (record {
        kind = refl;
        item = n;
        known = eqb x.known 1;
        old = old;
        flags = refl;
        value = picked (λ (w : ℕ). w < 2 ^ 32) (eqb x.known 1) x.value 0 (λ e. v) (λ e. lit< tt);
        unknown = λ e. ap (λ (b : Bool). pick b x.value 0) e;
      });
    }

pub aggregated_valid : (a : Aggregated) (o : ℕ) → o < 8 → a.time ≤ last_time → Valid (aggregated_record a o)
aggregated_valid a o l t =
    record {
      link = l;
      time = t;
      sequence = lit< tt;
      of_kind = an_aggregated (record { kind = refl; item = refl; flags = refl; value = mod-lt a.value (lit< tt) });
    }

of_kind_too : (e : Entry) (q : ℕ) → OfKind e → OfKind (renumbered e q)
of_kind_too e q (an_alarm a) =
    an_alarm (record {
      kind = a.kind;
      item = a.item;
      event = a.event;
      acknowledged = a.acknowledged;
      active = a.active;
      suspended = a.suspended;
      event_is = a.event_is;
      flags = a.flags;
      value = a.value;
    })
of_kind_too e q (a_status a) =
    a_status (record { kind = a.kind; item = a.item; known = a.known; old = a.old; flags = a.flags; value = a.value; unknown = a.unknown })
of_kind_too e q (an_aggregated a) = an_aggregated (record { kind = a.kind; item = a.item; flags = a.flags; value = a.value })

module _ (site links primary : ℕ) (t : SiteTable) where
  pub renumbered_too : (now : ℕ) (e : Entry) (q : ℕ) → q < 2147483648 → SoundEntry site links primary t now e → SoundEntry site links primary t now (renumbered e q)
  renumbered_too now e q h s =
      record {
        valid = record { link = s.valid.link; time = s.valid.time; sequence = omega (arith, h); of_kind = of_kind_too e q s.valid.of_kind };
        of_site = s.of_site;
        link = s.link;
        item = s.item;
        time = s.time;
        for_primary = s.for_primary;
      }

  pub later_entry : (now then : ℕ) → now ≤ then → (e : Entry) → SoundEntry site links primary t now e → SoundEntry site links primary t then e
  later_entry now then h e s =
      let before : e.time ≤ now = s.time in
      record { valid = s.valid; of_site = s.of_site; link = s.link; item = s.item; time = omega (arith, before, h); for_primary = s.for_primary }
