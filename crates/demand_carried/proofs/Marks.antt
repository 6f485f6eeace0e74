-- Marks and awaited identities say the same: what sets a life, closes a link, sends, answers and issues keeps this.
-- Assumes nothing.
use Rattle.basis.proofs.Std.{ℕ, zero, suc, ◌%◌, ◌≤◌, ◌<◌, ◌≡◌, refl, sym, ◌∙◌, ap, subst, Bool, true, false, not, List, [], ◌∷◌, ◌++◌, map, some, none, ◌⊎◌, inl, inr, eqb, leb, ltb, get_or, arith, eqb-true, eq-eqb, ne_eqb, pick, both, Among, bool_cases, picked, eq_or_ne, not_both, untrue}
use Rattle.basis.specs.Lists.Among.{first, later}
use Rattle.basis.proofs.Among.{among_none, among_one, among_left, among_either}
use Rattle.machine.specs.Words.{first_that, but_first, changed}
use Rattle.machine.specs.State.{Issued, Held, held_as, Share, share_of, Pool, with_own, with_beside, Sent, Awaited, Life, fresh}
use Rattle.machine.specs.State.Sent.{the_record}
use Rattle.machine.specs.Life.{unsent}
use Rattle.machine.specs.Pool.{is_for, holds, is_full, is_own, fullest, lose, lose_of, make_room, issue, issue_all, settled, marked}
use Rattle.machine.specs.Effects.{carried}
use Rattle.demand_held.proofs.Lists.{each_kept, among_last, among_but_first, among_kept, among_mapped}
use Rattle.demand_held.proofs.Good.{Rising}
use Rattle.demand_held.proofs.Good.Rising.{rises}
use Rattle.demand_held.proofs.Rising.{rising_below}
use Rattle.demand_told.proofs.Lives.{set_there, set_other}
use Rattle.demand_carried.specs.Marked.{Awaits}
use Rattle.demand_carried.specs.Marked.Awaits.{awaits}
use Rattle.demand_carried.proofs.Lists.{each_among}

-- ---- numbers stand once
rising_from : {b a : ℕ} {x : Held} {hs : List Held} → Rising b a hs → Among x hs → a ≤ x.sequence
rising_from {b = b} (Rattle.demand_held.proofs.Good.ends {a = a} _) x8 = elim x8 [ ]
rising_from (rises f r) first = f
rising_from (rises {h = y} f r) (later i) = omega (arith, rising_from r i)

pub one_number : {b a : ℕ} {x y : Held} {hs : List Held} → Rising b a hs → Among x hs → Among y hs → x.sequence ≡ y.sequence → x ≡ y
one_number {b = b} {y = y} (Rattle.demand_held.proofs.Good.ends {a = a} _) x14 _ e = elim x14 [ ]
one_number (rises f r) first first e = refl
one_number (rises f r) first (later j) e = absurd (omega (arith, rising_from r j))
one_number (rises f r) (later i) first e = absurd (omega (arith, rising_from r i))
one_number (rises f r) (later i) (later j) e = one_number r i j e

-- ---- awaited identities
pub awaits_none : {n : ℕ} {P : Type 0} → Awaits n [] → P
awaits_none (awaits i e) = among_none i

carries_not : {n : ℕ} {P : Type 0} (x : Sent) → carried x ≡ none → x ≡ the_record n → P
carries_not {n} x e f = absurd (let g : carried x ≡ some n = rw f in let z : ◌≡◌ {A = ℕ} 0 1 = cc in omega arith)

pub awaits_more : {n : ℕ} {ids : List Awaited} (more : List Awaited) → Awaits n ids → Awaits n (ids ++ more)
awaits_more more (awaits i e) = awaits (among_left more i) e

-- one more that carries none
pub awaits_old : {n : ℕ} (ids : List Awaited) (a : Awaited) → carried a.message ≡ none → Awaits n (ids ++ (a ∷ [])) → Awaits n ids
awaits_old {n} ids a none-carried (awaits {a = b} i e) = go (among_either ids (a ∷ []) i)
  where
    go : Among b ids ⊎ Among b (a ∷ []) → Awaits n ids
    go (inl j) = awaits j e
    go (inr j) = carries_not a.message none-carried (subst (λ (x : Awaited). x.message ≡ the_record n) (among_one (λ (x : Awaited). x ≡ a) b a refl j) e)

pub awaits_left : {n : ℕ} (f : Awaited → Bool) (ids : List Awaited) → Awaits n (but_first f ids) → Awaits n ids
awaits_left f ids (awaits i e) = awaits (among_but_first f ids i) e

-- all but the first that passes are left
at_first : {A : Type 0} {b a x : A} {xs : List A} → x ≡ a → Among b (x ∷ xs) → (b ≡ a) ⊎ Among b xs
at_first same first = inl same
at_first same (later j) = inr j

behind : {A : Type 0} {b a x : A} {ys : List A} → (b ≡ a) ⊎ Among b ys → (b ≡ a) ⊎ Among b (x ∷ ys)
behind (inl e) = inl e
behind (inr j) = inr (later j)

past_first : {A : Type 0} {b a x : A} {xs ys : List A} → Among b (x ∷ xs) → (Among b xs → (b ≡ a) ⊎ Among b ys) → (b ≡ a) ⊎ Among b (x ∷ ys)
past_first first r = inr first
past_first (later j) r = behind (r j)

left : {A : Type 0} (f : A → Bool) {b a : A} (xs : List A) → first_that f xs ≡ some a → Among b xs → (b ≡ a) ⊎ Among b (but_first f xs)
left f [] e i = among_none i
left {A} f {b} {a} (x ∷ xs) e i = go (f x) refl e (left f xs)
  where
    go : (t : Bool) → f x ≡ t → pick t (some x) (first_that f xs) ≡ some a → (first_that f xs ≡ some a → Among b xs → (b ≡ a) ⊎ Among b (but_first f xs))
        → (b ≡ a) ⊎ Among b (pick t xs (x ∷ but_first f xs))
    go true g q r = let same : x ≡ a = cc in at_first same i
    go false g q r = past_first i (r q)

pub awaits_but : {n : ℕ} (f : Awaited → Bool) (ids : List Awaited) (a : Awaited) → first_that f ids ≡ some a → Awaits n ids
    → (a.message ≡ the_record n) ⊎ Awaits n (but_first f ids)
awaits_but {n} f ids a found (awaits {a = b} i e) = go (left f ids found i)
  where
    go : (b ≡ a) ⊎ Among b (but_first f ids) → (a.message ≡ the_record n) ⊎ Awaits n (but_first f ids)
    go (inl same) = inl (subst (λ (x : Awaited). x.message ≡ the_record n) same e)
    go (inr j) = inr (awaits j e)

same_number : {n i : ℕ} → the_record n ≡ the_record i → n ≡ i
same_number e = cc

-- ---- the invariant
abbrev pub life_in : List Life → ℕ → Life
life_in ls l = get_or ls l (fresh false)

pub record Marks (ls : List Life) (p : Pool) : Type 0 where
  pub up : (x : Held) → Among x p.held → x.sent ≡ true → Awaits x.sequence (life_in ls x.link).awaited
  pub below : (l n : ℕ) → Awaits n (life_in ls l).awaited → n < p.next
  pub down : (l : ℕ) (x : Held) → Among x p.held → Awaits x.sequence (life_in ls l).awaited → (l ≡ x.link) × (x.sent ≡ true)
  pub quiet : (l n : ℕ) → (life_in ls l).connected ≡ false → Awaits n (life_in ls l).awaited → ⊥

of_map : (g : Held → Held) (P : Held → Type 0) {hs : List Held} → ((x : Held) → Among x hs → P (g x)) → (y : Held) → Among y (map g hs) → P y
of_map g P {hs} f y i = let r = among_mapped g hs i in subst P r.is (f r.of r.among)

-- what is set for link l is there, or the list ends before
set_or : (l : ℕ) (k : Life) (ls : List Life) → (life_in (changed l (λ y. k) ls) l ≡ k) ⊎ (life_in (changed l (λ y. k) ls) l ≡ life_in ls l)
set_or l k [] = inr refl
set_or zero k (x ∷ ls) = inl refl
set_or (suc l) k (x ∷ ls) = set_or l k ls

pub set_got : (l : ℕ) (k : Life) (ls : List Life) → (life_in ls l).connected ≡ true → life_in (changed l (λ y. k) ls) l ≡ k
set_got l k [] e = untrue e
set_got zero k (x ∷ ls) e = refl
set_got (suc l) k (x ∷ ls) e = set_got l k ls e

pub life_cases : (P : Life → Type 0) (l : ℕ) (k : Life) (ls : List Life) (j : ℕ) → (l ≡ j → P k) → P (life_in ls j) → P (life_in (changed l (λ y. k) ls) j)
life_cases P l k ls j own other = go (eq_or_ne l j)
  where
    set : l ≡ j → (life_in (changed l (λ y. k) ls) l ≡ k) ⊎ (life_in (changed l (λ y. k) ls) l ≡ life_in ls l) → P (life_in (changed l (λ y. k) ls) l)
    set e (inl q) = rw q (own e)
    set e (inr q) = rw (q, e) other

    go : (l ≡ j) ⊎ (l ≡ j → ⊥) → P (life_in (changed l (λ y. k) ls) j)
    go (inl e) = subst (λ (i : ℕ). P (life_in (changed l (λ y. k) ls) i)) e (set e (set_or l k ls))
    go (inr n) = rw (set_other (fresh false) l j k ls n) other

module _ {ls : List Life} {p : Pool} (a : Marks ls p) where
  -- a life that awaits the same records
  pub marks_life : (l : ℕ) (k : Life) → k.connected ≡ (life_in ls l).connected → ((n : ℕ) → Awaits n k.awaited → Awaits n (life_in ls l).awaited)
      → ((n : ℕ) → Awaits n (life_in ls l).awaited → Awaits n k.awaited) → Marks (changed l (λ y. k) ls) p
  marks_life l k same back on =
      record {
        up = λ x i e. life_cases (λ (y : Life). Awaits x.sequence y.awaited) l k ls x.link (λ q. on x.sequence (rw q (a.up x i e))) (a.up x i e);
        below = λ j n w. a.below j n (was j n w);
        down = λ j x i w. a.down j x i (was j x.sequence w);
        quiet = λ j n. life_cases (λ (y : Life). y.connected ≡ false → Awaits n y.awaited → ⊥) l k ls j
            (λ q c w. a.quiet l n (sym same ∙ c) (back n w)) (a.quiet j n);
      }
    where
      was : (j n : ℕ) → Awaits n (life_in (changed l (λ y. k) ls) j).awaited → Awaits n (life_in ls j).awaited
      was j n = life_cases (λ (y : Life). Awaits n y.awaited → Awaits n (life_in ls j).awaited) l k ls j (λ q w. rw (← q) (back n w)) (λ w. w)

  -- "Connect: Greeting", of a link that is Down
  pub marks_opened : (l : ℕ) → (life_in ls l).connected ≡ false → Marks (changed l (λ y. fresh true) ls) p
  marks_opened l c =
      record {
        up = λ x i e. life_cases (λ (y : Life). Awaits x.sequence y.awaited) l (fresh true) ls x.link
            (λ q. absurd (a.quiet l x.sequence c (rw q (a.up x i e)))) (a.up x i e);
        below = λ j n w. a.below j n (was j n w);
        down = λ j x i w. a.down j x i (was j x.sequence w);
        quiet = λ j n. life_cases (λ (y : Life). y.connected ≡ false → Awaits n y.awaited → ⊥) l (fresh true) ls j (λ q e. not_both refl e) (a.quiet j n);
      }
    where
      was : (j n : ℕ) → Awaits n (life_in (changed l (λ y. fresh true) ls) j).awaited → Awaits n (life_in ls j).awaited
      was j n = life_cases (λ (y : Life). Awaits n y.awaited → Awaits n (life_in ls j).awaited) l (fresh true) ls j (λ q. awaits_none) (λ w. w)

  -- closing
  module _ (l : ℕ) where
    still_awaits : (j n : ℕ) → Awaits n (life_in (changed l (λ y. fresh false) ls) j).awaited → (l ≡ j → ⊥) × Awaits n (life_in ls j).awaited
    still_awaits j n w = go (eq_or_ne l j)
      where
        go : (l ≡ j) ⊎ (l ≡ j → ⊥) → (l ≡ j → ⊥) × Awaits n (life_in ls j).awaited
        go (inl e) = absurd (set_there (fresh false) (λ (k : Life). Awaits n k.awaited → ⊥) l (fresh false) ls awaits_none awaits_none
            (subst (λ (i : ℕ). Awaits n (life_in (changed l (λ y. fresh false) ls) i).awaited) (sym e) w))
        go (inr d) = (d, rw (set_other (fresh false) l j (fresh false) ls d) at w)

    still_marked : (x : Held) → (unsent l x).sent ≡ true → (l ≡ x.link → ⊥) × (x.sent ≡ true)
    still_marked x e =
        bool_cases (eqb x.link l)
        (λ f. untrue (rw f at e))
        (λ f. ((λ q. not_both (eq-eqb x.link l (sym q)) f), rw f at e))

    pub marks_closed : Marks (changed l (λ y. fresh false) ls) (with_own (share_of (map (unsent l) p.held) p.lost) p)
    marks_closed =
        record {
          up = of_map (unsent l) (λ (x : Held). x.sent ≡ true → Awaits x.sequence (life_in (changed l (λ y. fresh false) ls) x.link).awaited) up;
          below = λ j n w. a.below j n (still_awaits j n w).1;
          down = λ j. of_map (unsent l) (λ (x : Held). Awaits x.sequence (life_in (changed l (λ y. fresh false) ls) j).awaited → (j ≡ x.link) × (x.sent ≡ true)) (down j);
          quiet = λ j n. life_cases (λ (y : Life). y.connected ≡ false → Awaits n y.awaited → ⊥) l (fresh false) ls j (λ q e. awaits_none) (a.quiet j n);
        }
      where
        up : (x : Held) → Among x p.held → (unsent l x).sent ≡ true → Awaits x.sequence (life_in (changed l (λ y. fresh false) ls) x.link).awaited
        up x i e = let f = still_marked x e in rw (set_other (fresh false) l x.link (fresh false) ls f.0) (a.up x i f.1)

        down : (j : ℕ) (x : Held) → Among x p.held → Awaits x.sequence (life_in (changed l (λ y. fresh false) ls) j).awaited → (j ≡ x.link) × ((unsent l x).sent ≡ true)
        down j x i w =
            let f = still_awaits j x.sequence w in
            let g = a.down j x i f.1 in
            (g.0, rw (ne_eqb x.link l (λ e. f.0 (sym e ∙ sym g.0))) g.1)

  -- a message that carries record n goes out on link l
  module _ (l n : ℕ) (k : Life) (b : Awaited) (connected : (life_in ls l).connected ≡ true) (still-connected : k.connected ≡ true)
      (ids : k.awaited ≡ (life_in ls l).awaited ++ (b ∷ [])) (is : b.message ≡ the_record n)
      (y : Held) (there : Among y p.held) (own : y.link ≡ l) (number : y.sequence ≡ n) (rising : Rising p.next 0 p.held) where
    abbrev New : List Life
    New = changed l (λ z. k) ls

    this_one : (x : Held) → Among x p.held → x.sequence ≡ n → l ≡ x.link
    this_one x i e = sym own ∙ ap (λ (z : Held). z.link) (one_number rising there i (number ∙ sym e))

    was_or : (j i : ℕ) → Awaits i (life_in New j).awaited → Awaits i (life_in ls j).awaited ⊎ ((l ≡ j) × (i ≡ n))
    was_or j i = life_cases (λ (z : Life). Awaits i z.awaited → Awaits i (life_in ls j).awaited ⊎ ((l ≡ j) × (i ≡ n))) l k ls j (λ q w. go q (rw ids at w)) inl
      where
        of_new : l ≡ j → {c : Awaited} → Among c (life_in ls l).awaited ⊎ Among c (b ∷ []) → c.message ≡ the_record i → Awaits i (life_in ls j).awaited ⊎ ((l ≡ j) × (i ≡ n))
        of_new q (inl r) e = inl (rw (← q) (awaits r e))
        of_new q {c} (inr r) e =
            let same : c ≡ b = among_one (λ (x : Awaited). x ≡ b) c b refl r in
            inr (q, same_number (sym e ∙ ap (λ (x : Awaited). x.message) same ∙ is))

        go : l ≡ j → Awaits i ((life_in ls l).awaited ++ (b ∷ [])) → Awaits i (life_in ls j).awaited ⊎ ((l ≡ j) × (i ≡ n))
        go q (awaits r e) = of_new q (among_either (life_in ls l).awaited (b ∷ []) r) e

    pub marks_sent : Marks New (with_own (share_of (map (marked n) p.held) p.lost) p)
    marks_sent =
        record {
          up = of_map (marked n) (λ (x : Held). x.sent ≡ true → Awaits x.sequence (life_in New x.link).awaited) up;
          below = λ j i w. below j i (was_or j i w);
          down = λ j. of_map (marked n) (λ (x : Held). Awaits x.sequence (life_in New j).awaited → (j ≡ x.link) × (x.sent ≡ true)) (down j);
          quiet = λ j i. life_cases (λ (z : Life). z.connected ≡ false → Awaits i z.awaited → ⊥) l k ls j (λ q e. not_both still-connected e) (a.quiet j i);
        }
      where
        now : (x : Held) → x.sequence ≡ n → Awaits x.sequence (life_in New l).awaited
        now x e = rw (set_got l k ls connected, ids) (awaits (among_last (life_in ls l).awaited b) (is ∙ ap the_record (sym e)))

        before : (x : Held) → Among x p.held → x.sent ≡ true → Awaits x.sequence (life_in New x.link).awaited
        before x i e =
            life_cases (λ (z : Life). Awaits x.sequence z.awaited) l k ls x.link (λ q. rw ids (awaits_more {ids = (life_in ls l).awaited} (b ∷ []) (rw q (a.up x i e)))) (a.up x i e)

        up : (x : Held) → Among x p.held → (marked n x).sent ≡ true → Awaits x.sequence (life_in New x.link).awaited
        up x i e =
            bool_cases (eqb x.sequence n)
            (λ f. subst (λ (j : ℕ). Awaits x.sequence (life_in New j).awaited) (this_one x i (eqb-true x.sequence n f)) (now x (eqb-true x.sequence n f)))
            (λ f. before x i (rw f at e))

        below : (j i : ℕ) → Awaits i (life_in ls j).awaited ⊎ ((l ≡ j) × (i ≡ n)) → i < p.next
        below j i (inl w) = a.below j i w
        below j i (inr q) = omega (arith, q.1, number, rising_below rising there)

        kept_mark : (x : Held) → x.sent ≡ true → (marked n x).sent ≡ true
        kept_mark x e = picked (λ (c : Bool). c ≡ true) (eqb x.sequence n) true x.sent (λ f. refl) (λ f. e)

        downs : (j : ℕ) (x : Held) → Among x p.held → Awaits x.sequence (life_in ls j).awaited ⊎ ((l ≡ j) × (x.sequence ≡ n)) → (j ≡ x.link) × ((marked n x).sent ≡ true)
        downs j x i (inl w) = let g = a.down j x i w in (g.0, kept_mark x g.1)
        downs j x i (inr q) = (sym q.0 ∙ this_one x i q.1, rw (eq-eqb x.sequence n q.1))

        down : (j : ℕ) (x : Held) → Among x p.held → Awaits x.sequence (life_in New j).awaited → (j ≡ x.link) × ((marked n x).sent ≡ true)
        down j x i w = downs j x i (was_or j x.sequence w)

  -- an answer to a message that carried record n comes on link l
  module _ (l n : ℕ) (k : Life) (b : Awaited) (f : Awaited → Bool) (same : k.connected ≡ (life_in ls l).connected) (found : first_that f (life_in ls l).awaited ≡ some b)
      (is : b.message ≡ the_record n) (ids : k.awaited ≡ but_first f (life_in ls l).awaited) where
    abbrev stays : Held → Bool
    stays x = not (both (is_for l x) (eqb x.sequence n))

    was_awaited : (j i : ℕ) → Awaits i (life_in (changed l (λ z. k) ls) j).awaited → Awaits i (life_in ls j).awaited
    was_awaited j i =
        life_cases (λ (z : Life). Awaits i z.awaited → Awaits i (life_in ls j).awaited) l k ls j (λ q w. rw (← q) (awaits_left f (life_in ls l).awaited (rw ids at w))) (λ w. w)

    pub marks_settled : Marks (changed l (λ z. k) ls) (with_own (share_of (settled l n p.held) p.lost) p)
    marks_settled =
        record {
          up = λ x i e. up x (among_kept stays p.held i) (each_among (each_kept stays (λ x e. e) p.held) i) (a.up x (among_kept stays p.held i) e);
          below = λ j i w. a.below j i (was_awaited j i w);
          down = λ j x i w. a.down j x (among_kept stays p.held i) (was_awaited j x.sequence w);
          quiet = λ j i. life_cases (λ (z : Life). z.connected ≡ false → Awaits i z.awaited → ⊥) l k ls j
              (λ q c w. a.quiet l i (sym same ∙ c) (awaits_left f (life_in ls l).awaited (rw ids at w))) (a.quiet j i);
        }
      where
        gone : {P : Type 0} (x : Held) → stays x ≡ true → l ≡ x.link → x.sequence ≡ n → P
        gone x s q e = untrue (rw (eq-eqb x.link l (sym q), eq-eqb x.sequence n e) at s)

        own : (x : Held) → stays x ≡ true → l ≡ x.link → (b.message ≡ the_record x.sequence) ⊎ Awaits x.sequence (but_first f (life_in ls l).awaited) → Awaits x.sequence k.awaited
        own x s q (inl e) = gone x s q (same_number (sym e ∙ is))
        own x s q (inr w) = rw ids w

        up : (x : Held) → Among x p.held → stays x ≡ true → Awaits x.sequence (life_in ls x.link).awaited → Awaits x.sequence (life_in (changed l (λ z. k) ls) x.link).awaited
        up x i s w =
            life_cases (λ (z : Life). Awaits x.sequence z.awaited) l k ls x.link (λ q. own x s q (awaits_but f (life_in ls l).awaited b found (rw q w))) w

-- ---- issuing
lose_among : (l : ℕ) (p : Pool) {x : Held} → Among x (lose l p).held → Among x p.held
unfolding lose
lose_among l p i = among_but_first (is_for l) p.held i

lose_next : (l : ℕ) (p : Pool) → (lose l p).next ≡ p.next
unfolding lose
lose_next l p = refl

-- room is the pool, or the pool but for the oldest of a link, of this site or of the other
room_cases : (P : Pool → Type 0) (l : ℕ) (p : Pool) → P p → ((j : ℕ) → P (lose j p)) → ((x : Share) → P (with_beside x p)) → P (make_room l p)
unfolding make_room lose_of
room_cases P l p same less other =
    picked P (leb 64 (holds p l)) _ _ (λ e. less l)
    (λ e. picked P (not (is_full p)) _ _ (λ f. same)
    (λ f. picked P (ltb (holds p l) 16) _ _ (λ g. picked P (is_own p (fullest p)) _ _ (λ h. less (fullest p % 4)) (λ h. other _)) (λ g. less l)))

marks_issue : {ls : List Life} (i : Issued) (p : Pool) → Marks ls p → Marks ls (issue i p)
unfolding issue
marks_issue {ls} i p a =
    record {
      up = λ x j e. up x (among_either (make_room i.link p).held (new ∷ []) j) e;
      below = λ l n w. omega (arith, a.below l n w, next);
      down = λ l x j w. down l x (among_either (make_room i.link p).held (new ∷ []) j) w;
      quiet = a.quiet;
    }
  where
    new : Held
    new = held_as i.link i.content (make_room i.link p).next false

    next : (make_room i.link p).next ≡ p.next
    next = room_cases (λ (q : Pool). q.next ≡ p.next) i.link p refl (λ j. lose_next j p) (λ x. refl)

    old : (x : Held) → Among x (make_room i.link p).held → Among x p.held
    old x = room_cases (λ (q : Pool). Among x q.held → Among x p.held) i.link p (λ j. j) (λ l. lose_among l p) (λ s j. j)

    is_new : (x : Held) → Among x (new ∷ []) → x ≡ new
    is_new x = among_one (λ (y : Held). y ≡ new) x new refl

    up : (x : Held) → Among x (make_room i.link p).held ⊎ Among x (new ∷ []) → x.sent ≡ true → Awaits x.sequence (life_in ls x.link).awaited
    up x (inl j) e = a.up x (old x j) e
    up x (inr j) e = not_both e (ap (λ (y : Held). y.sent) (is_new x j))

    down : (l : ℕ) (x : Held) → Among x (make_room i.link p).held ⊎ Among x (new ∷ []) → Awaits x.sequence (life_in ls l).awaited → (l ≡ x.link) × (x.sent ≡ true)
    down l x (inl j) w = a.down l x (old x j) w
    down l x (inr j) w = absurd (omega (arith, a.below l x.sequence w, ap (λ (y : Held). y.sequence) (is_new x j), next))

pub marks_issued : {ls : List Life} (is : List Issued) (p : Pool) → Marks ls p → Marks ls (issue_all is p)
marks_issued [] p a = a
marks_issued (i ∷ is) p a = marks_issued is (issue i p) (marks_issue i p a)
