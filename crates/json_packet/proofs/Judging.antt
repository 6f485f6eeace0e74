-- From what the object's reader leaves to the judgement of a slice.
-- Assumes nothing.
use Rattle.basis.proofs.Std.{ℕ, ◌+◌, ◌<◌, ◌≡◌, refl, sym, ap, ◌∙◌, Bool, true, false, List, [], length, get_or, take, drop, arith, eq-eqb, untrue}
use Rattle.json_character.proofs.Lists.{next}
use Rattle.json_value.specs.Reader.{skip_ws, read_value, inside_of}
use Rattle.json_value.specs.Answers.{Skipped}
use Rattle.json_value.specs.Means.{depth}
use Rattle.json_value.proofs.Nesting as Nesting
use Rattle.json_find.specs.Entries.{inside_at, entries_at, first_named, member_at}
use Rattle.json_find.specs.Index.{texts_at}
use Rattle.json_sure.specs.declared.Judged.{Judged}
use Rattle.json_sure.specs.Judges.{Judges, place_of}
use Rattle.json_sure.specs.declared.Listed.TheVariants as Listed
use Rattle.json_sure.specs.Lists.{all_or_none, entries_in, Finds}
use Rattle.json_packet.specs.Packet.{is_packet}
use Rattle.json_packet.specs.Notes.{Notes}

pub refused : (s places : List ℕ) → false ≡ is_packet s → Notes s places (record { packet = false; count = 0 })
refused s places h = record { packet = h; within = omega arith; indexed = record { finds = λ g. absurd (g refl) }; all = λ e. untrue e }

module _ (s : List ℕ) (i : ℕ) (h : i < length s) (b : get_or s i 0 ≡ 0x7b) where
  pub value_judged : {key : ℕ} (r : Judged) → Judges key s (i + 1) (inside_of 0x7d depth (drop (i + 1) s)) r → Judges key s i (read_value depth (drop i s)) r
  value_judged r x = record { place = Nesting.value_object s depth i h (place_of r) b x.place; says = λ j u k. x.says j u (rw (next s i h, Nesting.value_cons depth (get_or s i 0) (drop (i + 1) s), b) at k) }

  module _ (ws : Skipped s 0 i) where
    of_object : (name : List ℕ) → member_at name (skip_ws s) ≡ first_named name (entries_in (drop (i + 1) s))
    unfolding member_at entries_at inside_at
    of_object name = rw (ws.rest, next s i h, eq-eqb _ _ b)

    its_entries : entries_at 0x7b 0x7d (skip_ws s) ≡ entries_in (drop (i + 1) s)
    unfolding entries_at inside_at
    its_entries = rw (ws.rest, next s i h, eq-eqb _ _ b)

    pub taken : (places : List ℕ) (e : ℕ) (sure : Bool) (n : ℕ) → Finds s (i + 1) places (Listed.End e sure n) → true ≡ is_packet s → Notes s places (record { packet = true; count = n })
    taken places e sure n x p =
        record {
          packet = p;
          within = x.within;
          indexed = record { finds = found };
          all = λ _. x.all e sure n refl ∙ ap (λ (ts : List (List ℕ)). all_or_none (length ts) (length places)) (sym its_entries);
        }
      where
        found : ¬ (take n places ≡ []) → (name : List ℕ) → first_named name (texts_at s (take n places)) ≡ member_at name (skip_ws s)
        found g name = x.finds (λ e. g (ap (λ (k : ℕ). take k places) e)) name ∙ sym (of_object name)
