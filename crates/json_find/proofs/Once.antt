-- Four names in one walk: what one entry adds to what was found before it, and the object's end by its entries.
-- Assumes nothing.
use Rattle.basis.proofs.Std.{ℕ, zero, suc, ◌<◌, ◌≤◌, ◌≡◌, refl, sym, ap, ◌∙◌, Bool, true, false, List, [], ◌∷◌, eqb, length, drop, length-drop, arith, eqb-true, pick}
use Rattle.json_text.specs.Decoded.{Parsed}
use Rattle.json_text.specs.Decoded.Parsed.{ok, none}
use Rattle.json_text.specs.declared.Read.{Read}
use Rattle.json_text.specs.Ends.{Ends}
use Rattle.json_text.specs.Ends.Ends.{ends, fails}
use Rattle.json_value.specs.declared.Mark.{Mark}
use Rattle.json_value.specs.Grammar.{Json}
use Rattle.json_value.specs.Reader.{skip_ws, read_name, read_start, read_mark, Named, after_start, read_entry, after_entry, read_items, whole, whole_of, opened, read_inside, read_value, inside_of}
use Rattle.json_value.specs.Answers.{Marks, last_of}
use Rattle.json_value.proofs.Places.{from, ended}
use Rattle.json_value.proofs.Nesting.{ItemsAt, items_last, items_next, entry_none, entry_bad, entry_mark, value_cons, comma_after, comma_in}
use Rattle.json_value.proofs.Complete as Complete
use Rattle.json_value.proofs.Deeper as Deeper
use Rattle.json_value.proofs.Kept as Values
use Rattle.json_find.specs.declared.FourFound.{FourFound}
use Rattle.json_find.specs.declared.Turn.{Turn}
use Rattle.json_find.specs.Kinds.{string_at}
use Rattle.json_find.specs.Entries.{next_entry, entries, unless_closed, inside_at, first_named, member_at}
use Rattle.json_find.specs.Four.{or_else, here, with_entry, nothing, next_by, Follows, TurnAt, FindsFour}
use Rattle.json_find.specs.Four.Follows.{after_none, after_end}
use Rattle.json_find.specs.Four.TurnAt.{last, next, stop}
use Rattle.json_find.proofs.Walks.{ends_here, goes_on_lem, step_comma, step_close, step_neither}
use Rattle.json_find.proofs.Steps.{member_some}

-- a value that is read with some levels is read alike with more

more_levels : (l m : ℕ) → l ≤ m → (s : List ℕ) (v e : ℕ) → Ends s v (read_value l (drop v s)) (Read.End e) → Ends s v (read_value m (drop v s)) (Read.End e)
more_levels l m h s v e x =
    let y = ended x in
    rw (Complete.value (Deeper.value m h (Values.sound l (drop v s) (drop e s) y.what y.reads))) (ends e y.on y.inside)

module _ (s : List ℕ) (i v e : ℕ) (x : Ends s i (read_start 0x7d (drop i s)) (Read.End v)) (y : Ends s v (read_value 6 (drop v s)) (Read.End e)) where
  marked_with : (m : Mark) → Marks s e (read_mark 0x7d (drop e s)) m → (l : ℕ) → 6 ≤ l → Marks s i (last_of (read_entry 0x7d (λ u. read_value l u) (drop i s))) m
  marked_with m z l h = entry_mark s 0x7d (λ u. read_value l u) i v x e (more_levels 6 l h s v e y) m z

  pub turn_last : (n : ℕ) → Marks s e (read_mark 0x7d (drop e s)) (Mark.Close n) → TurnAt s i (Turn.Last v n)
  turn_last n z = last v n x (marked_with (Mark.Close n) z)

  pub turn_next : (n : ℕ) → Marks s e (read_mark 0x7d (drop e s)) (Mark.Comma n) → TurnAt s i (Turn.Next v n)
  turn_next n z = next v n x (marked_with (Mark.Comma n) z)

  pub turn_neither : Marks s e (read_mark 0x7d (drop e s)) Mark.Neither → TurnAt s i Turn.Stop
  turn_neither z = stop (entry_mark s 0x7d (λ u. read_value 6 u) i v x e y Mark.Neither z)

pub turn_unstarted : (s : List ℕ) (i : ℕ) → Ends s i (read_start 0x7d (drop i s)) Read.Bad → TurnAt s i Turn.Stop
turn_unstarted s i x = stop (entry_none s 0x7d (λ u. read_value 6 u) i x)

pub turn_unread : (s : List ℕ) (i v : ℕ) → Ends s i (read_start 0x7d (drop i s)) (Read.End v) → Ends s v (read_value 6 (drop v s)) Read.Bad → TurnAt s i Turn.Stop
turn_unread s i v x y = stop (entry_bad s 0x7d (λ u. read_value 6 u) i v x y)

-- the entry after one whose value's end is known

module _ (s : List ℕ) (close i v : ℕ) (x : Ends s i (read_start close (drop i s)) (Read.End v)) where
  marked_next : (m : Mark) → Marks s i (last_of (read_entry close (λ u. read_value 7 u) (drop i s))) m → Ends s i (next_entry close (drop i s)) (next_by m)
  marked_next (Mark.Comma n) z = step_comma s i close n z
  marked_next (Mark.Close n) z = step_close s i close n z
  marked_next Mark.Neither z = step_neither s i close z

  pub next_from : (end r : Read) → Ends s v (read_value 7 (drop v s)) end → Follows s close end r → Ends s i (next_entry close (drop i s)) r
  next_from _ _ y after_none = step_neither s i close (entry_bad s close (λ u. read_value 7 u) i v x y)
  next_from _ _ y (after_end e m z) = marked_next m (entry_mark s close (λ u. read_value 7 u) i v x e y m z)

-- the end of an object by its entries

start_after : (t : List ℕ) → read_start 0x7d (skip_ws t) ≡ read_start 0x7d t
unfolding read_start
start_after t = ap read_name (Complete.skip_twice t)

items_after : (value : List ℕ → Parsed Json) (n : ℕ) (t : List ℕ) → read_items 0x7d value n (skip_ws t) ≡ read_items 0x7d value n t
unfolding read_items read_entry
items_after value zero t = refl
items_after value (suc n) t = ap (λ (p : Parsed (List ℕ)). after_entry (λ u. read_items 0x7d value n u) (after_start 0x7d value p)) (start_after t)

never : {A : Type 0} {a : A} {r : List ℕ} → none ≡ ok a r → ⊥
never h = let z : ◌≡◌ {A = ℕ} 0 1 = cc in omega arith

opened_of : (value : List ℕ → Parsed Json) (t x u w : List ℕ) → skip_ws t ≡ w → unless_closed 0x7d t w ≡ ok x u → opened 0x7d value (length t) w ≡ whole_of 0x7d (read_items 0x7d value (length u) u)
opened_of value t x u [] e h = absurd (never h)
opened_of value t x u (c ∷ w) e h = go (eqb c 0x7d) h
  where
    go : (q : Bool) → pick q none (ok [] t) ≡ ok x u → pick q (ok (whole 0x7d []) w) (whole_of 0x7d (read_items 0x7d value (length t) (c ∷ w))) ≡ whole_of 0x7d (read_items 0x7d value (length u) u)
    go true g = absurd (never g)
    go false g =
        let z : t ≡ u = cc in
        ap (λ (v : List ℕ). whole_of 0x7d (read_items 0x7d value (length t) v)) (sym e)
        ∙ ap (whole_of 0x7d) (items_after value (length t) t)
        ∙ ap (λ (v : List ℕ). whole_of 0x7d (read_items 0x7d value (length v) v)) z

object_opened : (b : ℕ) (t : List ℕ) → eqb b 0x7b ≡ true → read_value 7 (b ∷ t) ≡ opened 0x7d (λ v. read_value 6 v) (length t) (skip_ws t)
unfolding inside_of read_inside
object_opened b t h = rw (value_cons 7 b t, eqb-true b 0x7b h)

-- the object's value, where it has an entry
whole_of_lem : (t x u : List ℕ) → inside_at 0x7b 0x7d t ≡ ok x u → read_value 7 t ≡ whole_of 0x7d (read_items 0x7d (λ v. read_value 6 v) (length u) u)
unfolding inside_at
whole_of_lem [] x u h = absurd (never h)
whole_of_lem (b ∷ t) x u h = go (eqb b 0x7b) refl h
  where
    go : (q : Bool) → eqb b 0x7b ≡ q → pick q (unless_closed 0x7d t (skip_ws t)) none ≡ ok x u → read_value 7 (b ∷ t) ≡ whole_of 0x7d (read_items 0x7d (λ v. read_value 6 v) (length u) u)
    go true e g = object_opened b t e ∙ opened_of (λ v. read_value 6 v) t x u (skip_ws t) refl g
    go false e g = absurd (never g)

module _ (s : List ℕ) (at i : ℕ) (x : Ends s at (inside_at 0x7b 0x7d (drop at s)) (Read.End i)) where
  wholed : {p : Parsed (List Named)} {r : Read} → Ends s i p r → Ends s at (whole_of 0x7d p) r
  wholed (ends e a b) = ends e (omega (arith, (ended x).on)) b
  wholed fails = fails

  pub object_ends : (r : Read) → ItemsAt s 0x7d 6 i r → Ends s at (read_value 7 (drop at s)) r
  object_ends r y = rw (whole_of_lem (drop at s) (ended x).what (drop i s) (ended x).reads) (wholed (y (length (drop i s)) (omega (arith, length-drop i s))))

-- one name after one entry

-- what answers from i on answers from the object's place, unless an answer was found before
abbrev pub Seeks : List ℕ → ℕ → ℕ → List ℕ → Read → Type 0
Seeks s at i name q = (r : Read) → Ends s i (first_named name (entries 0x7d (drop i s))) r → Ends s at (member_at name (drop at s)) (or_else q r)

picks : {A : Type 0} {s : List ℕ} {i : ℕ} {p o : Parsed A} {q r : Read} (b : Bool) → Ends s i p q → Ends s i o r → Ends s i (pick b p o) (pick b q r)
picks true x y = x
picks false x y = y

found_first : (q : Read) (b : Bool) (v : ℕ) (r : Read) → or_else q (pick b (Read.End v) r) ≡ or_else (or_else q (pick b (Read.End v) Read.Bad)) r
found_first (Read.End e) b v r = refl
found_first Read.Bad true v r = refl
found_first Read.Bad false v r = refl

module _ (s : List ℕ) (at i v e : ℕ) (x : Ends s i (read_start 0x7d (drop i s)) (Read.End v)) (name : List ℕ) (q : Read) (z : Seeks s at i name q) where
  seeks_last : Ends s i (next_entry 0x7d (drop i s)) Read.Bad → Ends s at (member_at name (drop at s)) (or_else q (here (drop i s) name v))
  seeks_last y = z (here (drop i s) name v) (rw (ends_here s i 0x7d y) (picks (string_at name (skip_ws (drop i s))) x fails))

  seeks_next : Ends s i (next_entry 0x7d (drop i s)) (Read.End e) → Seeks s at e name (or_else q (here (drop i s) name v))
  seeks_next y r w =
      let b = string_at name (skip_ws (drop i s)) in
      rw (← found_first q b v r) (z (pick b (Read.End v) r) (rw (goes_on_lem s i 0x7d e y) (picks b x (from (ended y).on w))))

-- all four, and the end

pub record Walked (s : List ℕ) (at i : ℕ) (first second third fourth : List ℕ) (found : FourFound) : Type 0 where
  pub one : Seeks s at i first found.first
  pub two : Seeks s at i second found.second
  pub three : Seeks s at i third found.third
  pub four : Seeks s at i fourth found.fourth
  pub whole : (r : Read) → ItemsAt s 0x7d 6 i r → Ends s at (read_value 7 (drop at s)) r

module _ (s : List ℕ) (at i : ℕ) (first second third fourth : List ℕ) where
  pub walk_begins : Ends s at (inside_at 0x7b 0x7d (drop at s)) (Read.End i) → Walked s at i first second third fourth nothing
  walk_begins x =
      record {
        one = member_some s at first i x;
        two = member_some s at second i x;
        three = member_some s at third i x;
        four = member_some s at fourth i x;
        whole = object_ends s at i x;
      }

  module _ (found : FourFound) (w : Walked s at i first second third fourth found) (v e : ℕ) where
    pub walk_ends : TurnAt s i (Turn.Last v e) → FindsFour s at first second third fourth (with_entry found (drop i s) v first second third fourth (Read.End e))
    walk_ends (last v e x m) =
        let y = step_close s i 0x7d e (m 7 (omega arith)) in
        record {
          one = seeks_last s at i v e x first found.first w.one y;
          two = seeks_last s at i v e x second found.second w.two y;
          three = seeks_last s at i v e x third found.third w.three y;
          four = seeks_last s at i v e x fourth found.fourth w.four y;
          whole = w.whole (Read.End e) (items_last s 0x7d 6 i e (m 6 (omega arith)));
        }

    pub walk_goes_on : TurnAt s i (Turn.Next v e) → Walked s at e first second third fourth (with_entry found (drop i s) v first second third fourth Read.Bad)
    walk_goes_on (next v e x m) =
        let y = step_comma s i 0x7d e (m 7 (omega arith)) in
        record {
          one = seeks_next s at i v e x first found.first w.one y;
          two = seeks_next s at i v e x second found.second w.two y;
          three = seeks_next s at i v e x third found.third w.three y;
          four = seeks_next s at i v e x fourth found.fourth w.four y;
          whole = λ r z. w.whole r (items_next s 0x7d 6 i e (m 6 (omega arith)) r z);
        }

pub next_after : {s : List ℕ} {i v e : ℕ} → TurnAt s i (Turn.Next v e) → i < e
next_after (next v e x m) = comma_after (m 6 (omega arith))

pub next_in : {s : List ℕ} {i v e : ℕ} → TurnAt s i (Turn.Next v e) → e ≤ length s
next_in (next v e x m) = comma_in (m 6 (omega arith))

pub ruleset after_steps = (after_none, after_end)

pub ruleset turn_steps = (turn_unstarted, turn_unread, turn_last, turn_next, turn_neither)

pub ruleset walk_steps = (next_after, next_in)
