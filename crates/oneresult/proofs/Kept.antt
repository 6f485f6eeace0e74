-- Each relation allows one result.
-- Assumes nothing.
use Rattle.basis.proofs.Std.{ℕ, ◌<◌, ◌≡◌, refl, sym, ap, ◌∙◌, subst, Bool, true, false, List, [], ◌∷◌, ◌⊎◌, inl, inr, arith, length, eq_or_ne}
use Rattle.answer.specs.declared.Refusal.{Refusal}
use Rattle.answer.specs.declared.Answer.{Answer}
use Rattle.answer.specs.declared.Answer.TheVariants.{Done, Refused}
use Rattle.answer.specs.Number.{is_done}
use Rattle.answer.proofs.Numbers.{range as refusal_range}
use Rattle.output.specs.Put.{Out}
use Rattle.output.proofs.Laws.{puts_once}
use Rattle.number.proofs.Reading.{reads_once, reads_int_once}
use Rattle.entry.specs.Valid.{Decides}
use Rattle.entry.proofs.RoundTrip.{one_result}
use Rattle.table_whole.specs.declared.SiteTable.{SiteTable}
use Rattle.table_whole.specs.Memory.{no_table}
use Rattle.table_whole.proofs.Whole.{once as one_table}
use Rattle.site.specs.declared.Site.{Site}
use Rattle.site.specs.declared.Step.{Step}
use Rattle.site.specs.Call.{Command, Plan, Gives, out_after}
use Rattle.store_site.specs.Layout.{pool_in, site_of, pool_words, site_words}
use Rattle.store_site.proofs.SiteLaws.{pool_of}
use Rattle.store_site.specs.Turns.{Plain}
use Rattle.store_whole.specs.Image.{pool_words_of, words_of, Wide}
use Rattle.store_whole.proofs.Back.{pool_back, words_back}
use Rattle.call_start.proofs.Whole.{once as one_start}
use Rattle.write_message.specs.Message.{Message}
use Rattle.write_message.specs.Message.Message.{ack}
use Rattle.sitec.specs.declared.Outcome.{Outcome}
use Rattle.sitec.specs.Outcome.{outcome_of}
use Rattle.sitec.specs.Lent.{Words, WordsAndTable, Called, Told, Handed, Made, Started}
use Rattle.oneresult.specs.Once.{Once}
use Rattle.oneresult.proofs.Readers.{ends_once, marks_once, judges_once, skipped_once, finds_four_once, follows_once}

-- an output that is told by an answer
by_answer : (xs : List ℕ) (ms : List Message) {ys zs : List ℕ} {r q : Step} → r ≡ q → ys ≡ out_after xs ms r.answer → zs ≡ out_after xs ms q.answer → ys ≡ zs
by_answer xs ms e a b = a ∙ ap (λ (t : Step). out_after xs ms t.answer) e ∙ sym b

gives_once : {s : Site} {time : ℕ} {refuses : Refusal → Bool} {p : Plan} {xs ys zs : List ℕ} {r q : Step}
    → Gives s time refuses p xs ys r → Gives s time refuses p xs zs q → (r ≡ q) × (ys ≡ zs)
gives_once {p = p} {xs = xs} a b = let e = a.step ∙ sym b.step in (e, by_answer xs p.messages e a.out b.out)

-- words that stand for one pool are the same, and those that stand for one site
same_pool : {qs os : List ℕ} → length qs ≡ pool_words → length os ≡ pool_words → Wide qs → Wide os → pool_in qs ≡ pool_in os → qs ≡ os
same_pool {qs} {os} a b v u e = sym (pool_back qs v a) ∙ ap pool_words_of e ∙ pool_back os u b

same_words : (t : SiteTable) (qs os vs us : List ℕ) → length vs ≡ site_words → length us ≡ site_words → Plain vs → Plain us → Wide vs → Wide us → site_of qs vs t ≡ site_of os us t → vs ≡ us
same_words t qs os vs us a b p q v u e = sym (words_back vs v qs t a p) ∙ ap words_of e ∙ words_back us u os t b q

called_once : {Fits : Type 0} {t : SiteTable} {x : Step} {ps qs os ws vs us : List ℕ} {r q : Outcome} → Fits → Words ps ws → Plain ws → Wide qs → Wide os → Wide vs → Wide us
    → Called Fits t x ps qs ws vs r → Called Fits t x ps os ws us q → (r ≡ q) × (qs ≡ os) × (vs ≡ us)
called_once {t = t} {qs = qs} {os = os} {vs = vs} {us = us} f n p y z v u a b =
    let e = a.site f ∙ sym (b.site f) in
    let pool = sym (pool_of qs vs t) ∙ ap (λ (s : Site). s.pool) e ∙ pool_of os us t in (
      a.outcome f ∙ sym (b.outcome f),
      same_pool (a.pool_sized ∙ n.0) (b.pool_sized ∙ n.0) y z pool,
      same_words t qs os vs us (a.sized ∙ n.1) (b.sized ∙ n.1) (a.plain p) (b.plain p) v u e,
    )

told_once : {Fits : Type 0} {t : SiteTable} {time : ℕ} {refuses : Refusal → Bool} {p : Plan} {ps qs os ws vs us xs ys zs : List ℕ} {r q : Outcome} → Fits → Words ps ws → Plain ws → Wide qs → Wide os → Wide vs → Wide us
    → Told Fits t time refuses p ps qs ws vs xs ys r → Told Fits t time refuses p ps os ws us xs zs q → (r ≡ q) × (qs ≡ os) × (vs ≡ us) × (ys ≡ zs)
told_once f n p y z v u a b = let e = called_once f n p y z v u a.called b.called in (e.0, e.1, e.2, a.out f ∙ sym (b.out f))

-- the words lent for commands are told by the outcome
words_handed : {Fits : Type 0} {commands : List Command} {cs ds es : List ℕ} {r q : Outcome} → Fits → r ≡ q → Handed Fits commands cs ds r → Handed Fits commands cs es q → ds ≡ es
words_handed {ds = ds} {es = es} {r = r} {q = q} f e a b = by (eq_or_ne r.number 0)
  where
    also : r.number ≡ q.number
    also = ap (λ (o : Outcome). o.number) e

    by : (r.number ≡ 0) ⊎ (r.number ≡ 0 → ⊥) → ds ≡ es
    by (inl z) = a.handed f z ∙ sym (b.handed f (sym also ∙ z))
    by (inr n) = a.unhanded (omega (arith, n)) ∙ sym (b.unhanded (omega (arith, n, also)))

handed_once : {Fits : Type 0} {t : SiteTable} {time : ℕ} {refuses : Refusal → Bool} {p : Plan} {ps qs os ws vs us xs ys zs cs ds es : List ℕ} {r q : Outcome} → Fits → Words ps ws → Plain ws → Wide qs → Wide os → Wide vs → Wide us
    → Told Fits t time refuses p ps qs ws vs xs ys r × Handed Fits p.commands cs ds r → Told Fits t time refuses p ps os ws us xs zs q × Handed Fits p.commands cs es q
    → (r ≡ q) × (qs ≡ os) × (vs ≡ us) × (ys ≡ zs) × (ds ≡ es)
handed_once f n p y z v u a b = let e = told_once f n p y z v u a.0 b.0 in (e.0, e.1, e.2, e.3, words_handed f e.0 a.1 b.1)

module _ {b : List ℕ} {site links primary period first time : ℕ} {ps qs os ws vs us xs ys zs : List ℕ} {r q : Outcome}
    (s : Started b site links primary period first time ps qs ws vs xs ys r) (t : Started b site links primary period first time ps os ws us xs zs q)
    (long : length ps ≡ pool_words) (y : Wide qs) (z : Wide os) where
  by_step : (x : Step) → Made x qs vs ys r → Made x os us zs q
      → (a : Answer) → x.answer ≡ a → (0 < r.number → 0 < q.number) → (is_done a ≡ false → 0 < r.number) → (qs ≡ os) × (vs ≡ us) × (ys ≡ zs)
  by_step x m n (Done d) e f g = (
    same_pool (s.pool_sized ∙ long) (t.pool_sized ∙ long) y z (m.pool (ap is_done e) ∙ sym (n.pool (ap is_done e))),
    m.words (ap is_done e) ∙ sym (n.words (ap is_done e)),
    m.bytes (ap is_done e) ∙ sym (n.bytes (ap is_done e)),
  )
  by_step x m n (Refused d) e f g = (
    s.pool_kept (g refl) ∙ sym (t.pool_kept (f (g refl))),
    s.kept (g refl) ∙ sym (t.kept (f (g refl))),
    s.table_kept (g refl) ∙ sym (t.table_kept (f (g refl))),
  )

refused_number : (a : Answer) (r : Outcome) → r ≡ outcome_of a → is_done a ≡ false → 0 < r.number
refused_number (Done d) r e h = absurd (let z : ◌≡◌ {A = ℕ} 0 1 = cc in omega arith)
refused_number (Refused x) r e h = rw e (refusal_range x).0

started_once : {b : List ℕ} {site links primary period first time : ℕ} {ps qs os ws vs us xs ys zs : List ℕ} {r q : Outcome} → WordsAndTable ps ws xs → Wide qs → Wide os
    → Started b site links primary period first time ps qs ws vs xs ys r → Started b site links primary period first time ps os ws us xs zs q → (r ≡ q) × (qs ≡ os) × (vs ≡ us) × (ys ≡ zs)
started_once {site = k} {links = l} {primary = m} {period = n} {first = f} {time = t} {ps = ps} {os = os} {us = us} {zs = zs} {r = r} {q = q} fits v u a c =
    let x = a.made fits in
    let y = c.made fits in
    let same : x.0 ≡ y.0 = one_start (pool_in ps) k l m n f t x.1 y.1 in
    let mine : Made x.0 os us zs q = subst (λ (z : Step). Made z os us zs q) (sym same) y.2 in
    let out : r ≡ q = x.2.outcome ∙ sym mine.outcome in
    let rest = by_step a c fits.0 v u x.0 x.2 mine x.0.answer refl (λ h. subst (λ (o : Outcome). 0 < o.number) out h) (refused_number x.0.answer r x.2.outcome) in
    (out, rest.0, rest.1, rest.2)

decides_once : {P : Type 0} (r q : Bool) → Decides r P → Decides q P → r ≡ q
decides_once true q a b = sym (b.only (a.yes refl))
decides_once false true a b = a.only (b.yes refl)
decides_once false false a b = refl

pub kept : Once
kept =
    record {
      called = λ {Fits} {t} {x} {ps} {qs} {os} {ws} {vs} {us} {r} {q} f n p y z v u a b. called_once f n p y z v u a b;
      told = λ {Fits} {t} {time} {refuses} {p} {ps} {qs} {os} {ws} {vs} {us} {xs} {ys} {zs} {r} {q} f n h y z v u a b. told_once f n h y z v u a b;
      handed = λ {Fits} {t} {time} {refuses} {p} {ps} {qs} {os} {ws} {vs} {us} {xs} {ys} {zs} {cs} {ds} {es} {r} {q} f n h y z v u a b. handed_once {p = p} f n h y z v u a b;
      started = λ {b} {site} {links} {primary} {period} {first} {time} {ps} {qs} {os} {ws} {vs} {us} {xs} {ys} {zs} {r} {q} f v u a c. started_once f v u a c;
      read = λ {A} {f} {none} {ps} {ws} {r} {q} h a b. a.reads h no_table ∙ sym (b.reads h no_table);
      starts = λ {b} {p} {site} {links} {primary} {period} {first} {time} {r} {q} x y. one_start p site links primary period first time x y;
      gives = λ {s} {time} {refuses} {p} {xs} {ys} {zs} {r} {q} a b. gives_once {s = s} {time = time} {refuses = refuses} {p = p} a b;
      acks = λ {s} {after} {b} {time} {hint} {hinted} {received} {xs} {ys} {zs} {r} {q} x y. let e = x.step ∙ sym y.step in (e, by_answer xs (ack received ∷ []) e x.out y.out);
      sends = λ a b. (a.step ∙ sym b.step, a.out ∙ sym b.out);
      wrote = puts_once;
      wrote_time = λ a b. let e = a.all ∙ sym b.all in (ap (λ (o : Out). o.bytes) e, ap (λ (o : Out). o.end) e);
      decimal = reads_once;
      integer = reads_int_once;
      identity = λ a b. a.equals ∙ sym b.equals;
      time = λ a b. a.equals ∙ sym b.equals;
      entry = one_result;
      decides = λ {P} {r} {q} a b. decides_once r q a b;
      table = one_table;
      ends = ends_once;
      marks = marks_once;
      judges = judges_once;
      finds_four = finds_four_once;
      follows = follows_once;
      skipped = skipped_once;
    }
