-- What is read of an entry: its name, whose mark stands at its place, and its value.
-- Assumes nothing.
use Rattle.basis.proofs.Std.{ℕ, ◌≡◌, refl, sym, ap, subst, ◌∙◌, Bool, true, false, List, [], ◌∷◌, arith, eqb, drop, pick}
use Rattle.json_text.specs.Decoded.{Parsed, decoded}
use Rattle.json_text.specs.Decoded.Parsed.{ok, none}
use Rattle.json_text.specs.declared.Read.TheVariants as Read
use Rattle.json_text.specs.Ends.{Ends}
use Rattle.json_value.specs.declared.Mark.{Mark}
use Rattle.json_value.specs.Grammar.{Json}
use Rattle.json_value.specs.Reader.{skip_ws, colon_at, colon, read_name, unnamed, read_start, read_mark, Named, named, Entry, marked, after_value, after_start, read_entry}
use Rattle.json_value.specs.Answers.{Marks}
use Rattle.json_value.proofs.Places.{ended}
use Rattle.json_value.proofs.Nesting as Nesting
use Rattle.json_sure.specs.declared.Judged.TheVariants as Judged
use Rattle.json_sure.specs.declared.Entered.TheVariants as Entered
use Rattle.json_sure.specs.Sure.{mark, mark_from, mark_read, name_mark, mark_at, sure_in, sure_entry}
use Rattle.json_sure.specs.Judges.{followed_of, mark_of, SaysEntry, JudgesIn, EntersIn}

pub no_parsed : {A : Type 0} {a : A} {r : List ℕ} → none ≡ ok a r → ⊥
no_parsed h = let z : ◌≡◌ {A = ℕ} 0 1 = cc in omega arith

-- the mark of a name, and of an array's entry
abbrev pub mark_for : ℕ → Bool → List ℕ → ℕ
mark_for key b d = pick b (mark key d) 4294967296

module _ (key : ℕ) (d r : List ℕ) where
  colon_at_lem : (e u : List ℕ) → colon_at e u ≡ ok d r → e ≡ d
  colon_at_lem e [] h = absurd (no_parsed h)
  colon_at_lem e (c ∷ t) h = go (eqb c 0x3a) h
    where
      go : (q : Bool) → pick q (ok e (skip_ws t)) none ≡ ok d r → e ≡ d
      go true h = cc
      go false h = absurd (no_parsed h)

  colon_mark : (p : Parsed (List ℕ)) → colon p ≡ ok d r → mark_read key 1 p ≡ mark key d
  colon_mark (ok e u) h = ap (mark_from key 1) (colon_at_lem e (skip_ws u) h)
  colon_mark none h = absurd (no_parsed h)

  name_mark_lem : (u : List ℕ) → read_name u ≡ ok d r → name_mark key u ≡ mark key d
  unfolding read_name
  name_mark_lem [] h = absurd (no_parsed h)
  name_mark_lem (b ∷ t) h = go (eqb b 0x22) h
    where
      go : (q : Bool) → pick q (colon (decoded t)) none ≡ ok d r → mark_read key 1 (decoded t) ≡ mark key d
      go true h = colon_mark (decoded t) h
      go false h = absurd (no_parsed h)

  start_mark : (close : ℕ) (t : List ℕ) → read_start close t ≡ ok d r → mark_at key (eqb close 0x7d) t ≡ mark_for key (eqb close 0x7d) d
  unfolding read_start mark_at
  start_mark close t h = go (eqb close 0x7d) h
    where
      go : (b : Bool) → pick b (read_name (skip_ws t)) (unnamed (skip_ws t)) ≡ ok d r → pick b (name_mark key (skip_ws t)) 4294967296 ≡ mark_for key b d
      go true h = name_mark_lem (skip_ws t) h
      go false h = refl

record Parts (close : ℕ) (value : List ℕ → Parsed Json) (t : List ℕ) (e : Entry) : Type 0 where
  called : List ℕ
  rest : List ℕ
  starts : read_start close t ≡ ok called rest
  meant : Json
  after : List ℕ
  means : value rest ≡ ok meant after
  is : e.item ≡ named called meant

parts : (close : ℕ) (value : List ℕ → Parsed Json) (t : List ℕ) (e : Entry) (u : List ℕ) → read_entry close value t ≡ ok e u → Parts close value t e
unfolding read_entry
parts close value t e u h = start (read_start close t) refl h
  where
    mark_of_lem : (d r : List ℕ) → read_start close t ≡ ok d r → (j : Json) (v : List ℕ) → value r ≡ ok j v → (m : Parsed Bool) → marked (named d j) m ≡ ok e u → Parts close value t e
    mark_of_lem d r a j v b (ok l w) h = record { called = d; rest = r; starts = a; meant = j; after = v; means = b; is = ap (λ (x : Entry). x.item) (let z : e ≡ record { item = named d j; last = l } = cc in z) }
    mark_of_lem d r a j v b none h = absurd (no_parsed h)

    value_of_lem : (d r : List ℕ) → read_start close t ≡ ok d r → (p : Parsed Json) → value r ≡ p → after_value close d p ≡ ok e u → Parts close value t e
    value_of_lem d r a (ok j v) b h = mark_of_lem d r a j v b (read_mark close v) h
    value_of_lem d r a none b h = absurd (no_parsed h)

    start : (p : Parsed (List ℕ)) → read_start close t ≡ p → after_start close value p ≡ ok e u → Parts close value t e
    start (ok d r) a h = value_of_lem d r a (value r) refl h
    start none a h = absurd (no_parsed h)

-- the mark of an entry that is read
pub entry_mark : (key close : ℕ) (value : List ℕ → Parsed Json) (t : List ℕ) (e : Entry) (u : List ℕ) → read_entry close value t ≡ ok e u → mark_at key (eqb close 0x7d) t ≡ mark_for key (eqb close 0x7d) e.item.called
entry_mark key close value t e u h =
    let p = parts close value t e u h in
    start_mark key p.called p.rest close t p.starts ∙ ap (λ (x : Named). mark_for key (eqb close 0x7d) x.called) (sym p.is)

follow : {s : List ℕ} {i : ℕ} {p : Parsed Bool} (q : Bool) (m : Mark) → Marks s i p m → Marks s i p (mark_of (followed_of m q))
follow q (Mark.Close n) x = x
follow q (Mark.Comma n) x = x
follow q Mark.Neither x = x

say : (q b : Bool) (m : Mark) → q ≡ b → SaysEntry (followed_of m q) b
say q b (Mark.Close n) h = h
say q b (Mark.Comma n) h = h
say q b Mark.Neither h = tt

module _ (key room : ℕ) (s : List ℕ) (close : ℕ) (value : List ℕ → Parsed Json) (i : ℕ) where
  pub enters_none : Ends s i (read_start close (drop i s)) Read.Bad → EntersIn key room s i (read_entry close value (drop i s)) Entered.Neither
  enters_none x = record { place = Nesting.entry_none s close value i x; says = λ e u h. tt }

  module _ (v : ℕ) (x : Ends s i (read_start close (drop i s)) (Read.End v)) where
    pub enters_bad : JudgesIn key room s v (value (drop v s)) Judged.Bad → EntersIn key room s i (read_entry close value (drop i s)) Entered.Neither
    enters_bad y = record { place = Nesting.entry_bad s close value i v x y.place; says = λ e u h. tt }

    pub enters : (e : ℕ) (q : Bool) → JudgesIn key room s v (value (drop v s)) (Judged.End e q) → (m : Mark) → Marks s e (read_mark close (drop e s)) m → EntersIn key room s i (read_entry close value (drop i s)) (followed_of m q)
    enters e q y m z = record { place = follow q m (Nesting.entry_mark s close value i v x e y.place m z); says = λ n u h. say q (sure_entry key room n) m (told n u h) }
      where
        told : (n : Entry) (u : List ℕ) → read_entry close value (drop i s) ≡ ok n u → q ≡ sure_entry key room n
        told n u h =
            let p = parts close value (drop i s) n u h in
            let a : ok p.called p.rest ≡ ok (ended x).what (drop v s) = sym p.starts ∙ (ended x).reads in
            let b : p.rest ≡ drop v s = cc in
            y.says p.meant p.after (subst (λ (t : List ℕ). value t ≡ ok p.meant p.after) b p.means)
            ∙ ap (λ (w : Named). sure_in key room w.value) (sym p.is)
