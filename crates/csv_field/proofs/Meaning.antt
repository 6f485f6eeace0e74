-- The grammar and the definition that the code equals take the same lines apart, in the same way.
-- Assumes nothing.
use Rattle.basis.proofs.Std.{ℕ, zero, suc, add-one, ◌⊎◌, inl, inr, picked, lt-ltb, le-ltb, ◌<◌, ◌≤◌, ◌≡◌, refl, sym, ap, subst, ◌∙◌, Bool, true, false, List, [], ◌∷◌, arith, bool_cases, untrue, not_both, eqb, eqb-true, eqb-false, ne_eqb, pick, both_first, both_second, length, take, drop}
use Rattle.csv_field.specs.Grammar.{Stop, Unquoted, Quoted, Open, Plain, Field, Fault, Behind, Parts, Faulty}
use Rattle.csv_field.specs.Marks.{is_quote, is_comma, is_break, is_stop, plain_run, quoted_run, line_run, unquoted}
use Rattle.csv_field.specs.Split.{Took, field, fault, quoted_by, field_of, Split, fields, faulty, push, on_field, split}
use Rattle.csv_field.proofs.Runs.{quoted_more, quoted_closed}
use Rattle.csv_field.proofs.Lines.{Sure, sure, plain_stops, unroll}

-- the marks

quote_is : (t : List ℕ) → is_quote t ≡ true → t ≡ 34 ∷ drop 1 t
quote_is [] e = untrue e
quote_is (b ∷ t) e = ap (λ (x : ℕ). x ∷ t) (eqb-true b 34 e)

no_quote : (t : List ℕ) → is_quote t ≡ false → Unquoted t
no_quote t e u q = not_both (ap is_quote q) e

no_quote' : (t : List ℕ) → Unquoted t → is_quote t ≡ false
no_quote' t f = bool_cases (is_quote t) (λ e. absurd (f (drop 1 t) (quote_is t e))) (λ e. e)

break_is : (t : List ℕ) → is_break t ≡ true → t ≡ 13 ∷ 10 ∷ drop 2 t
break_is [] e = untrue e
break_is (b ∷ []) e = untrue (both_second (eqb b 13) false e)
break_is (b ∷ c ∷ t) e = let x = eqb-true b 13 (both_first (eqb b 13) (eqb c 10) e) in let y = eqb-true c 10 (both_second (eqb b 13) (eqb c 10) e) in rw (x, y)

stop_is : (t : List ℕ) → is_stop t ≡ true → Stop t
stop_is [] e = Stop.end
stop_is (b ∷ t) e = go (eqb b 44) refl e
  where
    go : (q : Bool) → eqb b 44 ≡ q → pick q true (is_break (b ∷ t)) ≡ true → Stop (b ∷ t)
    go true f g = subst (λ (x : ℕ). Stop (x ∷ t)) (sym (eqb-true b 44 f)) Stop.comma
    go false f g = subst Stop (sym (break_is (b ∷ t) g)) Stop.line

is_stop_lem : {t : List ℕ} → Stop t → is_stop t ≡ true
is_stop_lem Stop.comma = refl
is_stop_lem Stop.line = refl
is_stop_lem Stop.end = refl

no_stop : (t : List ℕ) → is_stop t ≡ false → Stop t → ⊥
no_stop t e s = not_both (is_stop_lem s) e

no_stop' : (t : List ℕ) → (Stop t → ⊥) → is_stop t ≡ false
no_stop' t f = bool_cases (is_stop t) (λ e. absurd (f (stop_is t e))) (λ e. e)

stop_unquoted : {t : List ℕ} → Stop t → is_quote t ≡ false
stop_unquoted Stop.comma = refl
stop_unquoted Stop.line = refl
stop_unquoted Stop.end = refl

-- without quotes: what stands before the mark, and the mark

plain_run_lem : (t : List ℕ) → Plain t (drop (plain_run t) t) (take (plain_run t) t)
unfolding plain_run
plain_run_lem [] = Plain.stop Stop.end
plain_run_lem (b ∷ t) = go (plain_run_lem t) (eqb b 34) refl (is_stop (b ∷ t)) refl
  where
    go : Plain t (drop (plain_run t) t) (take (plain_run t) t) → (q : Bool) → eqb b 34 ≡ q → (z : Bool) → is_stop (b ∷ t) ≡ z → Plain (b ∷ t) (drop (pick q 0 (pick z 0 (suc (plain_run t)))) (b ∷ t)) (take (pick q 0 (pick z 0 (suc (plain_run t)))) (b ∷ t))
    go ih true e z f = subst (λ (x : ℕ). Plain (x ∷ t) (x ∷ t) []) (sym (eqb-true b 34 e)) Plain.quote
    go ih false e true f = Plain.stop (stop_is (b ∷ t) f)
    go ih false e false f = Plain.more (eqb-false b 34 e) (no_stop (b ∷ t) f) ih

abbrev Ran : List ℕ → List ℕ → List ℕ → Type 0
Ran t r d = (drop (plain_run t) t ≡ r) × (take (plain_run t) t ≡ d)

ran : {t r d : List ℕ} → Plain t r d → Ran t r d
unfolding plain_run
ran Plain.quote = (refl, refl)
ran (Plain.stop {t = t} s) = stopped t s
  where
    stopped : (t : List ℕ) → Stop t → Ran t t []
    stopped [] s = (refl, refl)
    stopped (b ∷ t) s = rw (stop_unquoted s, is_stop_lem s) (refl, refl)
ran (Plain.more {b} {t} n m x) = let h = ran x in rw (ne_eqb b 34 n, no_stop' (b ∷ t) m) (h.0, ap (λ (l : List ℕ). b ∷ l) h.1)

-- within quotes: what stands before the closing quote, and behind it

abbrev Found : List ℕ → ℕ → Type 0
Found t n = ((n < length t) × Quoted t (drop (suc n) t) (unquoted false (take n t))) ⊎ ((length t ≤ n) × Open t)

found : (t : List ℕ) → Found t (quoted_run false t)
unfolding quoted_run unquoted
found [] = inr (omega arith, Open.end)
found (b ∷ []) = go (eqb b 34) refl
  where
    go : (q : Bool) → eqb b 34 ≡ q → Found (b ∷ []) (quoted_run false (b ∷ []))
    go true e = rw e (inl (omega arith, subst (λ (x : ℕ). Quoted (x ∷ []) [] []) (sym (eqb-true b 34 e)) (Quoted.close (no_quote [] refl))))
    go false e = rw e (inr (omega arith, Open.other (eqb-false b 34 e) Open.end))
found (b ∷ c ∷ t) = go (found t) (found (c ∷ t)) (eqb b 34) refl (eqb c 34) refl
  where
    two : Found t (quoted_run false t) → b ≡ 34 → c ≡ 34 → eqb b 34 ≡ true → Found (b ∷ c ∷ t) (suc (suc (quoted_run false t)))
    two (inl x) e f g = inl (omega (arith, x.0), rw (g, e, f) (Quoted.twice x.1))
    two (inr x) e f g = inr (omega (arith, x.0), rw (e, f) (Open.twice x.1))

    one : Found (c ∷ t) (quoted_run false (c ∷ t)) → eqb b 34 ≡ false → Found (b ∷ c ∷ t) (suc (quoted_run false (c ∷ t)))
    one (inl x) e = inl (omega (arith, x.0), rw e (Quoted.other (eqb-false b 34 e) x.1))
    one (inr x) e = inr (omega (arith, x.0), Open.other (eqb-false b 34 e) x.1)

    go : Found t (quoted_run false t) → Found (c ∷ t) (quoted_run false (c ∷ t)) → (q : Bool) → eqb b 34 ≡ q → (z : Bool) → eqb c 34 ≡ z → Found (b ∷ c ∷ t) (quoted_run false (b ∷ c ∷ t))
    go ih jh true e true f = rw (e, f) (two ih (eqb-true b 34 e) (eqb-true c 34 f) e)
    go ih jh true e false f = rw (e, f) (inl (omega arith, subst (λ (x : ℕ). Quoted (x ∷ c ∷ t) (c ∷ t) []) (sym (eqb-true b 34 e)) (Quoted.close (no_quote (c ∷ t) f))))
    go ih jh false e z f = subst (Found (b ∷ c ∷ t)) (sym (quoted_more b (c ∷ t) e)) (one jh e)

abbrev Got : List ℕ → List ℕ → List ℕ → Type 0
Got t r d = (quoted_run false t < length t) × (drop (suc (quoted_run false t)) t ≡ r) × (unquoted false (take (quoted_run false t) t) ≡ d)

got : {t r d : List ℕ} → Quoted t r d → Got t r d
unfolding quoted_run unquoted
got (Quoted.close {r} u) = rw (quoted_closed r (no_quote' r u)) (omega arith, refl, refl)
got (Quoted.twice x) = let h = got x in (omega (arith, h.0), h.1, ap (λ (l : List ℕ). 34 ∷ l) h.2)
got (Quoted.other {b} n x) = let h = got x in rw (ne_eqb b 34 n) (omega (arith, h.0), h.1, rw (ne_eqb b 34 n) (ap (λ (l : List ℕ). b ∷ l) h.2))

opened : {t : List ℕ} → Open t → length t ≤ quoted_run false t
unfolding quoted_run
opened Open.end = omega arith
opened (Open.twice x) = omega (arith, opened x)
opened (Open.other {b} n x) = rw (ne_eqb b 34 n) (omega (arith, opened x))

-- one field

abbrev TookIs : List ℕ → Took → Type 0
TookIs t (field d r) = Field t r d
TookIs t (fault r) = Fault t r

quoted_is : (u : List ℕ) → TookIs (34 ∷ u) (quoted_by (quoted_run false u) u)
quoted_is u = go (found u)
  where
    n : ℕ
    n = quoted_run false u

    go : Found u n → TookIs (34 ∷ u) (quoted_by n u)
    go (inl x) =
        rw (lt-ltb n (length u) x.0, add-one n)
        (picked (TookIs (34 ∷ u)) (is_stop (drop (suc n) u)) _ _ (λ e. Field.quoted x.1 (stop_is (drop (suc n) u) e)) (λ e. Fault.behind x.1 (no_stop (drop (suc n) u) e)))
    go (inr x) = rw (le-ltb n (length u) x.0) (Fault.not_closed x.1)

took_is : (t : List ℕ) → TookIs t (field_of t)
unfolding field_of
took_is t = picked (TookIs t) (is_quote t) _ _
    (λ e. subst (λ (u : List ℕ). TookIs u (quoted_by (quoted_run false (drop 1 t)) (drop 1 t))) (sym (quote_is t e)) (quoted_is (drop 1 t)))
    (λ e. picked (TookIs t) (is_quote (drop (plain_run t) t)) _ _
    (λ f. let q = quote_is (drop (plain_run t) t) f in rw q (Fault.inside (no_quote t e) (subst (λ (r : List ℕ). Plain t r (take (plain_run t) t)) q (plain_run_lem t))))
    (λ f. Field.plain (no_quote t e) (plain_run_lem t) (stop_is (drop (plain_run t) t) (plain_stops t f))))

field_is : {t r d : List ℕ} → Field t r d → field_of t ≡ field d r
unfolding field_of
field_is (Field.quoted {t} x s) = let h = got x in rw (lt-ltb (quoted_run false t) (length t) h.0, add-one (quoted_run false t), h.1, h.2, is_stop_lem s)
field_is (Field.plain {t} u x s) = let h = ran x in rw (no_quote' t u, h.0, h.1, stop_unquoted s)

fault_is : {t r : List ℕ} → Fault t r → field_of t ≡ fault r
unfolding field_of
fault_is (Fault.inside {t} u x) = let h = ran x in rw (no_quote' t u, h.0)
fault_is (Fault.behind {t} {r} x s) = let h = got x in rw (lt-ltb (quoted_run false t) (length t) h.0, add-one (quoted_run false t), h.1, no_stop' r s)
fault_is (Fault.not_closed {t} o) = rw (le-ltb (quoted_run false t) (length t) (opened o))

-- to the first CRLF

behind_run : (t : List ℕ) → Behind t (drop (line_run t) t)
unfolding line_run
behind_run [] = Behind.end
behind_run (b ∷ t) = go (behind_run t) (is_break (b ∷ t)) refl
  where
    go : Behind t (drop (line_run t) t) → (z : Bool) → is_break (b ∷ t) ≡ z → Behind (b ∷ t) (drop (pick z 2 (suc (line_run t))) (b ∷ t))
    go ih true e = subst (λ (u : List ℕ). Behind u (drop 2 (b ∷ t))) (sym (break_is (b ∷ t) e)) Behind.line
    go ih false e = Behind.more (λ u q. not_both (ap is_break q) e) ih

behind_is : {t r : List ℕ} → Behind t r → drop (line_run t) t ≡ r
unfolding line_run
behind_is Behind.line = refl
behind_is Behind.end = refl
behind_is (Behind.more {b} {t} n x) =
    let e : is_break (b ∷ t) ≡ false = bool_cases (is_break (b ∷ t)) (λ q. absurd (n (drop 2 (b ∷ t)) (break_is (b ∷ t) q))) (λ q. q) in
    rw e (behind_is x)

-- the whole line

abbrev SplitIs : List ℕ → Split → Type 0
SplitIs s (fields ds r) = Parts s ds r
SplitIs s (faulty r) = Faulty s r

comma_is : (t : List ℕ) → is_comma t ≡ true → t ≡ 44 ∷ drop 1 t
comma_is [] e = untrue e
comma_is (b ∷ t) e = ap (λ (x : ℕ). x ∷ t) (eqb-true b 44 e)

pushed : {s t d : List ℕ} → Field s (44 ∷ t) d → (p : Split) → SplitIs t p → SplitIs s (push d p)
pushed f (fields ds r) x = Parts.more f x
pushed f (faulty r) x = Faulty.later f x

at_last : {s d : List ℕ} (r : List ℕ) → Field s r d → is_stop r ≡ true → is_comma r ≡ false → Parts s (d ∷ []) (drop 2 r)
at_last [] f h e = Parts.end f
at_last {s} {d} (b ∷ r) f h e =
    let g : is_break (b ∷ r) ≡ true = rw e at h in
    Parts.last (subst (λ (u : List ℕ). Field s u d) (break_is (b ∷ r) g) f)

one_field : (s : List ℕ) → ((u : List ℕ) → length u < length s → SplitIs u (split u)) → (p : Took) → TookIs s p → Sure (length s) p → SplitIs s (on_field (λ t. split t) p)
one_field s ih (field d r) x k = bool_cases (is_comma r)
    (λ e. rw e (pushed (subst (λ (u : List ℕ). Field s u d) (comma_is r e) x) (split (drop 1 r)) (ih (drop 1 r) (omega (arith, k.0, ap length (comma_is r e))))))
    (λ e. rw e (at_last r x k.1 e))
one_field s ih (fault r) x k = Faulty.here x (behind_run r)

split_is : (n : ℕ) (s : List ℕ) → length s < n → SplitIs s (split s)
split_is zero s h = absurd (omega arith)
split_is (suc n) s h = subst (SplitIs s) (sym (unroll s)) (one_field s (λ u k. split_is n u (omega arith)) (field_of s) (took_is s) (sure s))

pub sound : (s r : List ℕ) (ds : List (List ℕ)) → split s ≡ fields ds r → Parts s ds r
sound s r ds e = subst (SplitIs s) e (split_is (suc (length s)) s (omega arith))

pub spoilt : (s r : List ℕ) → split s ≡ faulty r → Faulty s r
spoilt s r e = subst (SplitIs s) e (split_is (suc (length s)) s (omega arith))

pub complete : {s r : List ℕ} {ds : List (List ℕ)} → Parts s ds r → split s ≡ fields ds r
complete (Parts.last {s} f) = unroll s ∙ ap (on_field (λ t. split t)) (field_is f)
complete (Parts.end {s} f) = unroll s ∙ ap (on_field (λ t. split t)) (field_is f)
complete (Parts.more {s} {d = d} f x) = unroll s ∙ ap (on_field (λ t. split t)) (field_is f) ∙ ap (push d) (complete x)

pub spoilt' : {s r : List ℕ} → Faulty s r → split s ≡ faulty r
spoilt' (Faulty.here {s} f x) = unroll s ∙ ap (on_field (λ t. split t)) (fault_is f) ∙ ap faulty (behind_is x)
spoilt' (Faulty.later {s} {d = d} f x) = unroll s ∙ ap (on_field (λ t. split t)) (field_is f) ∙ ap (push d) (spoilt' x)
