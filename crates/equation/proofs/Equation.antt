-- The equation, from each call's.
-- Assumes nothing.
use Rattle.basis.proofs.Std.{ℕ, zero, suc, ◌+◌, ◌<◌, ◌≡◌, refl, sym, ap, ap₂, ◌∙◌, subst, true, true≢false, List, [], ◌∷◌, map, Option, some, none, arith, length, replicate}
use Rattle.answer.specs.declared.Answer.TheVariants.{Done}
use Rattle.answer.specs.Number.{is_done}
use Rattle.pool.specs.declared.Pool.{Pool}
use Rattle.pool.specs.declared.Reading.{Reading}
use Rattle.pool.specs.Pool.{empty_of}
use Rattle.table_whole.specs.declared.SiteTable.{SiteTable}
use Rattle.site.specs.declared.Site.{Site}
use Rattle.site.specs.declared.Step.{Step}
use Rattle.site.specs.Site.{with_pool}
use Rattle.site.specs.Call.{nothing_of}
use Rattle.call_start.specs.Fresh.{alone}
use Rattle.call_start.specs.Starts.{Starts as Starts-so}
use Rattle.sitec.specs.declared.Outcome.{Outcome}
use Rattle.store_words.specs.Words.{elements}
use Rattle.store_site.specs.Rows.{place_from}
use Rattle.store_site.specs.Layout.{lost_in, places_in, pool_in, site_of, pool_words, site_words}
use Rattle.store_site.proofs.SiteLaws.{pool_of as pool_at}
use Rattle.store_table.specs.Layout.{table_of, table_bytes}
use Rattle.call_start.proofs.Again.{site_again}
use Rattle.sitec.specs.Outcome.{outcome_of}
use Rattle.sitec.specs.Lent.{Made, Started}
use Rattle.call_laws.specs.Sound.{Sound}
use Rattle.call_laws.specs.Calls.{step_by}
use Rattle.call_laws.specs.Sequences.Since.{first as since_then, begun}
use Rattle.call_laws.proofs.SequencesKept.{kept as sequences_kept}
use Rattle.machine.specs.State.{Start, Machine, Call as MachineCall}
use Rattle.machine.specs.Table.{Begins}
use Rattle.machine.specs.Table.Begins.{begins as begins_so}
use Rattle.machine.specs.Step.{step}
use Rattle.machine.specs.Readings.{reading}
use Rattle.machine.specs.Box.{Box, box, empty_box, site_of as machine_at, other_of, finds, found_by, begins_beside, turned}
use Rattle.machine.specs.Box.Turn.{starts as a_start, calls as a_call}
use Rattle.refine_parts.specs.Life.{shown as shown_so}
use Rattle.refine_parts.specs.Same.{Beside, beside_of, nobody}
use Rattle.refine_parts.specs.Claims.{Rest}
use Rattle.refine_calls.specs.Abstracts.{Abstracts}
use Rattle.refine_calls.specs.Calls.{call_for}
use Rattle.refine_calls.specs.Start.{answer_for, SameBeginning}
use Rattle.refine_calls.proofs.Start.{starting}
use Rattle.refine_calls.proofs.Readings.{readings}
use Rattle.equation.specs.Seen.{Ask, Asking, Seen, start_for, numbered, tells, shown, shows, next, shows_all, start_shows, box_after, BoxShows, TypedAct, Typed, AllTyped}
use Rattle.equation.specs.Seen.Ask.{call, held, lost, phase, version, record_of}
use Rattle.equation.specs.Seen.Asking.{start_of, ask_of}
use Rattle.equation.specs.Seen.Seen.{told, count, numbers, entry}
use Rattle.equation.specs.Seen.BoxShows.{no_more, start_shows_lem, ask_shows}
use Rattle.equation.specs.Allows.{outcome_seen, Starts, Allows, Memory, part_of, leaving, Run, Free}
use Rattle.equation.specs.Allows.Starts.{starts}
use Rattle.equation.specs.Allows.Allows.{reads_held, reads_lost, reads_phase, reads_version, reads_record}
use Rattle.equation.specs.Allows.Run.{ends, asks, begins}
use Rattle.equation.specs.Equation.{start_number, Begun, WordsFit, Fits, BoxFits, SeesBox, Equation}
use Rattle.equation.proofs.Told.{told_same}
use Rattle.equation.proofs.Asked.{opened}
use Rattle.equation.proofs.Fitting.{above, fitting}
use Rattle.equation.proofs.Lawful.{lawful, misfit}
use Rattle.equation.proofs.Closed.{closed_links}
use Rattle.equation.proofs.Handed.{unhanded, behind, commands_misfit}
use Rattle.equation.proofs.Boxed.{Stands, round, found, mirrored, AllCalls, Turned, own_call, beside_for, beside_share, rest_of}
use Rattle.equation.proofs.Boxed.Stands.{no_site, the_one, the_other, both_ones}

same_shown : (v : List ℕ) → shown_so v ≡ shown v
same_shown [] = refl
same_shown (x ∷ xs) = refl

-- ---- the sites of a memory
abbrev site_in : ℕ → Memory → Site
site_in k m = site_of m.pool (part_of k m).words (table_of (part_of k m).table)

other_at : (ps qs ws : List ℕ) (t : SiteTable) (p : Pool) → pool_in qs ≡ p → site_of qs ws t ≡ with_pool (site_of ps ws t) p
unfolding site_of
other_at ps qs ws t p e = rw e

-- the other site of two
abbrev other_one : ℕ → ℕ
other_one zero = 1
other_one (suc k) = 0

record Ready (m : Memory) (b : Box) : Type 0 where
  fits : BoxFits m
  stands : Stands 0 1 (site_in 0 m) (site_in 1 m) b.north b.south

one_pool : (k j : ℕ) (m : Memory) → (site_in j m).pool ≡ (site_in k m).pool
one_pool k j m = pool_at m.pool (part_of j m).words (table_of (part_of j m).table) ∙ sym (pool_at m.pool (part_of k m).words (table_of (part_of k m).table))

abstracts_of : {k j : ℕ} {s t : Site} {m : Machine} {o : Option Machine} → Stands k j s t (some m) o → (x : Beside) × Abstracts x s m
abstracts_of (the_one h v g) = (nobody, h)
abstracts_of (both_ones h i v w g f n) = (_, h)

fits_at : (k : ℕ) (m : Memory) → BoxFits m → Fits m.pool (part_of k m).words (part_of k m).table
fits_at zero m h = h.north
fits_at (suc k) m h = h.south

still_fits : (k : ℕ) (m : Memory) (qs vs us : List ℕ) → BoxFits m → length qs ≡ pool_words → length vs ≡ site_words → length us ≡ table_bytes → BoxFits (leaving k qs vs us m)
still_fits zero m qs vs us h p w t =
    record { north = record { words = record { pool = p; words = w }; table = t }; south = record { words = record { pool = p; words = h.south.words.words }; table = h.south.table } }
still_fits (suc k) m qs vs us h p w t =
    record { north = record { words = record { pool = p; words = h.north.words.words }; table = h.north.table }; south = record { words = record { pool = p; words = w }; table = t } }

-- ---- an ask of one of them
abbrev found_after : Machine → Ask → Option Machine → Option Machine
found_after m (call c output) o = found_by (step m c).1 o
found_after m (held l) o = o
found_after m (lost l) o = o
found_after m (phase l) o = o
found_after m (version l) o = o
found_after m (record_of l r) o = o

-- ws and ts are site k's; the other's words and its table stay
record One (k j : ℕ) (ts ws2 ts2 : List ℕ) (m : Machine) (o : Option Machine) (a : Ask) (x : Seen) (qs vs : List ℕ) : Type 0 where
  seen : x ≡ shows m a
  stands : Stands k j (site_of qs vs (table_of ts)) (site_of qs ws2 (table_of ts2)) (some (next m a)) (found_after m a o)
  pool_sized : length qs ≡ pool_words
  sized : length vs ≡ site_words

module _ (all : AllCalls) (k j : ℕ) (two : k + j ≡ 1) (ws2 ts2 : List ℕ) where
  abbrev other_in : List ℕ → Site
  other_in ps = site_of ps ws2 (table_of ts2)

  one_call : (ps ws ts : List ℕ) → Fits ps ws ts → {m : Machine} {o : Option Machine} → Stands k j (site_of ps ws (table_of ts)) (other_in ps) (some m) o → (c : MachineCall) (output : List ℕ)
      → TypedAct c.act → (x : Seen) (qs vs : List ℕ) → Allows ts ps ws (call c output) x qs vs → One k j ts ws2 ts2 m o (call c output) x qs vs
  one_call ps ws ts fit {m = m} {o = o} st c output typed x qs vs p =
      let s : Site = site_of ps ws (table_of ts) in
      let q = opened ts ps ws fit.words.pool fit.words.words fit.table c output x qs vs p in
      let ok = q.typed typed in
      let u : Turned k j s (other_in ps) m o q.code =
      own_call all k j two s (other_in ps) (pool_at ps ws2 (table_of ts2) ∙ sym (pool_at ps ws (table_of ts))) q.code ok.0 ok.1 st in
      let left : pool_in qs ≡ (step_by s q.code).site.pool = sym (pool_at qs vs (table_of ts)) ∙ ap (λ (z : Site). z.pool) q.after_it in
      let found-so = other_at ps qs ws2 (table_of ts2) (step_by s q.code).site.pool left in
      let its : Machine = (step m (call_for q.code)).1 in
      record {
        seen = q.seen
            ∙ told_same s u.sound q.code ok.0 q.words q.handed _ _ (closed_links m u.abstracts.items.setup.few (call_for q.code)) refl u.same.outcome
            ∙ ap₂ (λ (d : MachineCall) (ys : List ℕ). tells ys (step m d).0) q.same_call q.same_output;
        stands = subst (λ (d : MachineCall). Stands k j (site_of qs vs (table_of ts)) (site_of qs ws2 (table_of ts2)) (some (step m d).1) (found_by (step m d).1 o)) q.same_call
            (subst (λ (y : Site). Stands k j (site_of qs vs (table_of ts)) y (some its) (found_by its o)) (sym found-so)
            (subst (λ (y : Site). Stands k j y (with_pool (other_in ps) (step_by s q.code).site.pool) (some its) (found_by its o)) (sym q.after_it) u.stands));
        pool_sized = q.pool_sized;
        sized = q.sized;
      }

  as_read : (ps ws ts : List ℕ) → Fits ps ws ts → {m : Machine} {o : Option Machine} → Stands k j (site_of ps ws (table_of ts)) (other_in ps) (some m) o
      → {a : Ask} {x : Seen} → next m a ≡ m → found_after m a o ≡ o → x ≡ shows m a → One k j ts ws2 ts2 m o a x ps ws
  as_read ps ws ts fit st e f seen = record { seen = seen; stands = rw (e, f) st; pool_sized = fit.words.pool; sized = fit.words.words }

  one_ask : (ps ws ts : List ℕ) → Fits ps ws ts → {m : Machine} {o : Option Machine} → Stands k j (site_of ps ws (table_of ts)) (other_in ps) (some m) o → (a : Ask) → Typed a
      → (x : Seen) (qs vs : List ℕ) → Allows ts ps ws a x qs vs → One k j ts ws2 ts2 m o a x qs vs
  one_ask ps ws ts fit st (call c output) typed x qs vs p = one_call ps ws ts fit st c output typed x qs vs p
  one_ask ps ws ts fit {m = m} st (held l) typed x qs vs (reads_held κs y w i n e p) =
      as_read ps ws ts fit st refl refl (ap count (p.reads (fit.words.pool, fit.words.words) (table_of ts) ∙ (readings _ (site_of ps ws (table_of ts)) m (abstracts_of st).1 l).held))
  one_ask ps ws ts fit {m = m} st (lost l) typed x qs vs (reads_lost κs y w i n e p) =
      as_read ps ws ts fit st refl refl (ap count (p.reads (fit.words.pool, fit.words.words) (table_of ts) ∙ (readings _ (site_of ps ws (table_of ts)) m (abstracts_of st).1 l).lost))
  one_ask ps ws ts fit {m = m} st (phase l) typed x qs vs (reads_phase κs y w i n e p) =
      as_read ps ws ts fit st refl refl (ap count (p.reads (fit.words.pool, fit.words.words) (table_of ts) ∙ (readings _ (site_of ps ws (table_of ts)) m (abstracts_of st).1 l).phase))
  one_ask ps ws ts fit {m = m} st (version l) typed x qs vs (reads_version κs y w i v e p) =
      as_read ps ws ts fit st refl refl
      (ap (λ w. numbers (w.major ∷ w.minor ∷ w.patch ∷ [])) (p.reads (fit.words.pool, fit.words.words) (table_of ts))
      ∙ ap numbers ((readings _ (site_of ps ws (table_of ts)) m (abstracts_of st).1 l).version ∙ same_shown (reading m l).version))
  one_ask ps ws ts fit {m = m} st (record_of l r) typed x qs vs (reads_record κs y w i n z e p) =
      as_read ps ws ts fit st refl refl
      (ap (λ (y : Reading). entry y.found y.bytes) (p.reads (fit.words.pool, fit.words.words) (table_of ts) ∙ (readings _ (site_of ps ws (table_of ts)) m (abstracts_of st).1 l).records r))

-- the box after it: the site that was asked, and the other
after_own : (k : ℕ) (b : Box) (m : Machine) (a : Ask) → k < 2 → machine_at k b ≡ some m → machine_at k (box_after k a b) ≡ some (next m a)
unfolding turned
after_own zero b m (call c output) low e = rw e
after_own (suc zero) b m (call c output) low e = rw e
after_own (suc (suc k)) b m (call c output) low e = absurd (omega (arith, low))
after_own k b m (held l) low e = e
after_own k b m (lost l) low e = e
after_own k b m (phase l) low e = e
after_own k b m (version l) low e = e
after_own k b m (record_of l r) low e = e

after_other : (k : ℕ) (b : Box) (m : Machine) (a : Ask) → k < 2 → machine_at k b ≡ some m → other_of k (box_after k a b) ≡ found_after m a (other_of k b)
unfolding turned
after_other zero b m (call c output) low e = rw e
after_other (suc zero) b m (call c output) low e = rw e
after_other (suc (suc k)) b m (call c output) low e = absurd (omega (arith, low))
after_other k b m (held l) low e = refl
after_other k b m (lost l) low e = refl
after_other k b m (phase l) low e = refl
after_other k b m (version l) low e = refl
after_other k b m (record_of l r) low e = refl

-- Ready, from either site
ready_from : (k : ℕ) → k < 2 → (m : Memory) (b : Box) → BoxFits m → Stands k (other_one k) (site_in k m) (site_in (other_one k) m) (machine_at k b) (other_of k b) → Ready m b
ready_from zero low m b fit st = record { fits = fit; stands = st }
ready_from (suc zero) low m b fit st = record { fits = fit; stands = round (one_pool 1 0 m) st }
ready_from (suc (suc k)) low m b fit st = absurd (omega (arith, low))

stands_from : (k : ℕ) → k < 2 → (m : Memory) (b : Box) → Ready m b → Stands k (other_one k) (site_in k m) (site_in (other_one k) m) (machine_at k b) (other_of k b)
stands_from zero low m b r = r.stands
stands_from (suc zero) low m b r = round (one_pool 0 1 m) r.stands
stands_from (suc (suc k)) low m b r = absurd (omega (arith, low))

sum_one : (k : ℕ) → k < 2 → k + other_one k ≡ 1
sum_one zero low = refl
sum_one (suc zero) low = refl
sum_one (suc (suc k)) low = absurd (omega (arith, low))

-- what site k leaves: its own part, and of the other's only the pool
left_own : (k : ℕ) → k < 2 → (m : Memory) (qs vs us : List ℕ) → site_in k (leaving k qs vs us m) ≡ site_of qs vs (table_of us)
left_own zero low m qs vs us = refl
left_own (suc k) low m qs vs us = refl

left_other : (k : ℕ) → k < 2 → (m : Memory) (qs vs us : List ℕ)
    → site_in (other_one k) (leaving k qs vs us m) ≡ site_of qs (part_of (other_one k) m).words (table_of (part_of (other_one k) m).table)
left_other zero low m qs vs us = refl
left_other (suc k) low m qs vs us = refl

left_ready : (k : ℕ) → k < 2 → (m : Memory) (b : Box) (qs vs us : List ℕ) → BoxFits m → length qs ≡ pool_words → length vs ≡ site_words → length us ≡ table_bytes
    → {x y : Option Machine} → Stands k (other_one k) (site_of qs vs (table_of us)) (site_of qs (part_of (other_one k) m).words (table_of (part_of (other_one k) m).table)) x y
    → machine_at k b ≡ x → other_of k b ≡ y → Ready (leaving k qs vs us m) b
left_ready k low m b qs vs us fit p w t {x = x} {y = y} st e f =
    ready_from k low (leaving k qs vs us m) b (still_fits k m qs vs us fit p w t)
    (rw (left_own k low m qs vs us, left_other k low m qs vs us, e, f) st)

asked : AllCalls → (k : ℕ) → k < 2 → (m : Memory) (b : Box) → Ready m b → (n : Machine) → machine_at k b ≡ some n → (a : Ask) → Typed a → (x : Seen) (qs vs : List ℕ)
    → Allows (part_of k m).table m.pool (part_of k m).words a x qs vs → (x ≡ shows n a) × Ready (leaving k qs vs (part_of k m).table m) (box_after k a b)
asked all k low m b r n e a typed x qs vs p =
    let fit = fits_at k m r.fits in
    let st = subst (λ (z : Option Machine). Stands k (other_one k) (site_in k m) (site_in (other_one k) m) z (other_of k b)) e (stands_from k low m b r) in
    let o = one_ask all k (other_one k) (sum_one k low) (part_of (other_one k) m).words (part_of (other_one k) m).table m.pool (part_of k m).words (part_of k m).table fit st a typed x qs vs p in
    (o.seen, left_ready k low m (box_after k a b) qs vs (part_of k m).table r.fits o.pool_sized o.sized fit.table o.stands (after_own k b n a low e) (after_other k b n a low e))

-- ---- a start of one of them
contract_of : {ps ws ts table : List ℕ} {site links primary period first time : ℕ} {o : Outcome} {qs vs us : List ℕ} → Starts ps ws ts table site links primary period first time o qs vs us
    → Started table site links primary period first time ps qs ws vs ts us o
contract_of (starts κs pw w t bs c d f h i q oo e p) = p

site_begun : (s : Start) (m : Machine) → Begins s (some m) → m.pool.site ≡ s.site
site_begun s m (begins_so v e g) = refl

-- the memory that a done start leaves stands for its site
module _ (b : List ℕ) (site links primary period first time : ℕ) (x : Step) (ps qs vs us : List ℕ) (o : Outcome) where
  stands_for : Starts-so b (pool_in ps) site links primary period first time x → Made x qs vs us o → is_done x.answer ≡ true → site_of qs vs (table_of us) ≡ x.site
  stands_for st m d =
      site_again {ps = ps} {qs = qs} {ws = vs} {vs = vs} {xs = us} {ys = us} (record {
        step = x;
        starts = st;
        begun = record { answer = refl; pool = m.pool; words = m.words; bytes = m.bytes; pool_kept = λ h. absurd (true≢false (sym d ∙ h)); words_kept = λ h. refl; bytes_kept = λ h. refl };
      }) d

module _ (k j : ℕ) (two : k + j ≡ 1) (ps ws ts ws2 ts2 table : List ℕ) (links primary period first time : ℕ) (x : Step)
    (p : Starts-so table (pool_in ps) k links primary period first time x) where
  not_alone : k ≡ alone → ⊥
  not_alone e = omega (arith, two, e)

  module _ (m : Machine) (g : Begins (start_for k table links primary period first time) (some m)) (done : x.answer ≡ Done nothing_of) where
    begun_sound : Sound x.site
    begun_sound = sequences_kept.started table (pool_in ps) k links primary period first time x nothing_of p done

    beside_sound : Sound (site_of ps ws2 (table_of ts2)) → Sound (with_pool (site_of ps ws2 (table_of ts2)) x.site.pool)
    beside_sound w =
        sequences_kept.sound (site_of ps ws2 (table_of ts2)) (with_pool (site_of ps ws2 (table_of ts2)) x.site.pool) w
        (begun table k links primary period first time x nothing_of
        (subst (λ (y : Pool). Starts-so table y k links primary period first time x) (sym (pool_at ps ws2 (table_of ts2))) p) done since_then)

    begun_as : {a o : Option Machine} → Stands k j (site_of ps ws (table_of ts)) (site_of ps ws2 (table_of ts2)) a o
        → Abstracts (beside_for o (site_of ps ws2 (table_of ts2))) x.site (begins_beside o m)
    begun_as {o = o} st =
        starting.stands table (pool_in ps) k links primary period first time x p not_alone m g
        (subst (λ (y : Pool). Rest k (beside_for o (site_of ps ws2 (table_of ts2))) y (beside_share o)) (pool_at ps ws (table_of ts))
        (rest_of two (pool_at ps ws2 (table_of ts2) ∙ sym (pool_at ps ws (table_of ts))) st))

    begun_at : (o : Option Machine) {y : Beside} → Abstracts y x.site (begins_beside o m) → x.site.site ≡ k
    begun_at o h = sym h.pool.site ∙ site_begun (start_for k table links primary period first time) m g

    beside_another : {y : Beside} {z : Machine} → Abstracts (beside_of z.setup.links (site_of ps ws2 (table_of ts2)).next) x.site (begins_beside (some z) m)
        → Abstracts y (site_of ps ws2 (table_of ts2)) z → Sound (site_of ps ws2 (table_of ts2)) → (site_of ps ws2 (table_of ts2)).site ≡ j
        → Stands k j x.site (with_pool (site_of ps ws2 (table_of ts2)) x.site.pool) (some (begins_beside (some z) m)) (some (finds (begins_beside (some z) m) z))
    beside_another {z = z} h i w f =
        let sites : m.pool.site + z.pool.site ≡ 1 = rw (site_begun (start_for k table links primary period first time) m g, i.pool.site, f) two in
        both_ones h (found h i sites) begun_sound (beside_sound w) (begun_at (some z) h) f (mirrored (begins_beside (some z) m) z sites)

    begun_stands : {a o : Option Machine} → Stands k j (site_of ps ws (table_of ts)) (site_of ps ws2 (table_of ts2)) a o
        → Stands k j x.site (with_pool (site_of ps ws2 (table_of ts2)) x.site.pool) (some (begins_beside o m)) (found_by (begins_beside o m) o)
    begun_stands (no_site e) = let h = begun_as (no_site e) in the_one h begun_sound (begun_at none h)
    begun_stands (the_one i v f) = let h = begun_as (the_one i v f) in the_one h begun_sound (begun_at none h)
    begun_stands (the_other i w f) = beside_another (begun_as (the_other i w f)) i w f
    begun_stands (both_ones l i v w e f n) = beside_another (begun_as (both_ones l i v w e f n)) i w f

after_start_own : (k : ℕ) (b : Box) (m : Machine) → k < 2 → machine_at k (turned (a_start k (some m)) b) ≡ some (begins_beside (other_of k b) m)
unfolding turned
after_start_own zero b m low = refl
after_start_own (suc zero) b m low = refl
after_start_own (suc (suc k)) b m low = absurd (omega (arith, low))

after_start_other : (k : ℕ) (b : Box) (m : Machine) → k < 2 → other_of k (turned (a_start k (some m)) b) ≡ found_by (begins_beside (other_of k b) m) (other_of k b)
unfolding turned
after_start_other zero b m low = refl
after_start_other (suc zero) b m low = refl
after_start_other (suc (suc k)) b m low = absurd (omega (arith, low))

not_turned : (k : ℕ) (b : Box) → turned (a_start k none) b ≡ b
unfolding turned
not_turned k b = refl

number_for : (o : Option Machine) → outcome_of (answer_for o) ≡ start_number o
number_for none = refl
number_for (some m) = refl

shown_for : (o : Option Machine) → outcome_seen [] (start_number o) ≡ start_shows o
shown_for none = refl
shown_for (some m) = refl

module _ (k : ℕ) (low : k < 2) (m : Memory) (b : Box) (r : Ready m b) (table : List ℕ) (links primary period first time : ℕ) (o : Outcome) (qs vs us : List ℕ)
    (p : Started table k links primary period first time m.pool qs (part_of k m).words vs (part_of k m).table us o) where
  abbrev its : Start
  its = start_for k table links primary period first time

  abbrev lent_fits : Fits m.pool (part_of k m).words (part_of k m).table
  lent_fits = fits_at k m r.fits

  abbrev made : (x : Step) × Starts-so table (pool_in m.pool) k links primary period first time x × Made x qs vs us o
  made = p.made (lent_fits.words.pool, lent_fits.words.words, lent_fits.table)

  answers_so : (n : Option Machine) → Begins its n → made.0.answer ≡ answer_for n
  answers_so n g =
      let s : SameBeginning its made.0 = starting.begins table (pool_in m.pool) k links primary period first time made.0 made.1 (λ e. omega (arith, low, e)) in
      s.answer ∙ ap answer_for (sym (s.only n g))

  number_so : (n : Option Machine) → Begins its n → o ≡ start_number n
  number_so n g = made.2.outcome ∙ ap outcome_of (answers_so n g) ∙ number_for n

  started_ready : (n : Option Machine) → Begins its n → Ready (leaving k qs vs us m) (turned (a_start k n) b)
  started_ready none g =
      let number : o.number ≡ 11 = ap (λ (q : Outcome). q.number) (number_so none g) in
      let more : 0 < o.number = omega (arith, number) in
      subst (Ready (leaving k qs vs us m)) (sym (not_turned k b))
      (left_ready k low m b qs vs us r.fits (p.pool_sized ∙ lent_fits.words.pool) (p.sized ∙ lent_fits.words.words) (p.table_sized ∙ lent_fits.table)
      (rw (p.pool_kept more, p.kept more, p.table_kept more) (stands_from k low m b r)) refl refl)
  started_ready (some n) g =
      let x : Step = made.0 in
      let done = answers_so (some n) g in
      let site = stands_for table k links primary period first time x m.pool qs vs us o made.1 made.2 (ap is_done done) in
      let beside = other_at m.pool qs (part_of (other_one k) m).words (table_of (part_of (other_one k) m).table) x.site.pool (made.2.pool (ap is_done done)) in
      let st = begun_stands k (other_one k) (sum_one k low) m.pool (part_of k m).words (part_of k m).table (part_of (other_one k) m).words (part_of (other_one k) m).table
      table links primary period first time x made.1 n g done (stands_from k low m b r) in
      left_ready k low m (turned (a_start k (some n)) b) qs vs us r.fits (p.pool_sized ∙ lent_fits.words.pool) (p.sized ∙ lent_fits.words.words) (p.table_sized ∙ lent_fits.table)
      (rw (site, beside) st) (after_start_own k b n low) (after_start_other k b n low)

-- ---- ask after ask
module _ (all : AllCalls) where
  sees_all : (m : Memory) (b : Box) → Ready m b → SeesBox m b
  sees_all m b r [] typed xs seen no_more ends = refl
  sees_all m b r (ask_of k a ∷ more) typed xs seen (ask_shows {m = n} {xs = zs} e rest) (asks {qs = qs} {vs = vs} {x = x} {xs = ys} low p run) =
      let o = asked all k low m b r n e a typed.0 x qs vs p in
      ap₂ (λ (y : Seen) (l : List Seen). y ∷ l) o.0 (sees_all (leaving k qs vs (part_of k m).table m) (box_after k a b) o.1 more typed.1 zs ys rest run)
  sees_all m b r (start_of s ∷ more) typed xs seen (start_shows_lem {o = n} {xs = zs} g rest)
      (begins {k = k} {table = table} {links = links} {primary = primary} {period = period} {first = first} {time = time} {o = o} {qs = qs} {vs = vs} {us = us} {xs = ys} low st run) =
      let p = contract_of st in
      ap₂ (λ (y : Seen) (l : List Seen). y ∷ l)
      (ap (outcome_seen []) (number_so k low m b r table links primary period first time o qs vs us p n g) ∙ shown_for n)
      (sees_all (leaving k qs vs us m) (turned (a_start k n) b) (started_ready k low m b r table links primary period first time o qs vs us p n g) more typed zs ys rest run)

  -- a pool of zeros is the empty pool
  zeros_empty : pool_in (replicate 520 0) ≡ empty_of 8
  unfolding empty_of lost_in places_in place_from elements
  zeros_empty = refl

  from_zeros : (m : Memory) → BoxFits m → m.pool ≡ replicate 520 0 → SeesBox m empty_box
  from_zeros m fit e =
      sees_all m empty_box (record { fits = fit; stands = no_site (pool_at m.pool m.north.words (table_of m.north.table) ∙ ap pool_in e ∙ zeros_empty) })

  from_alone : (m : Memory) → BoxFits m → (table : List ℕ) (links primary period first time : ℕ) (o : Outcome) (qs vs us : List ℕ)
      → Starts m.pool m.north.words m.north.table table 4294967295 links primary period first time o qs vs us
      → (x : Machine) → Begins (start_for 0 table links primary period first time) (some x) → SeesBox (leaving 0 qs vs us m) (box (some x) none)
  from_alone m fit table links primary period first time o qs vs us st n g =
      let p = contract_of st in
      let made = p.made (fit.north.words.pool, fit.north.words.words, fit.north.table) in
      let x : Step = made.0 in
      let s : SameBeginning (start_for 0 table links primary period first time) x = starting.begins_alone table (pool_in m.pool) links primary period first time x made.1 in
      let done : x.answer ≡ Done nothing_of = s.answer ∙ ap answer_for (sym (s.only (some n) g)) in
      let h = starting.stands_alone table (pool_in m.pool) links primary period first time x made.1 n g in
      let sound = sequences_kept.started table (pool_in m.pool) alone links primary period first time x nothing_of made.1 done in
      let site = stands_for table alone links primary period first time x m.pool qs vs us o made.1 made.2 (ap is_done done) in
      sees_all (leaving 0 qs vs us m) (box (some n) none)
      (record {
        fits = still_fits 0 m qs vs us fit (p.pool_sized ∙ fit.north.words.pool) (p.sized ∙ fit.north.words.words) (p.table_sized ∙ fit.north.table);
        stands = rw site (the_one h sound (sym h.pool.site ∙ site_begun (start_for 0 table links primary period first time) n g));
      })

begun_of : (start : Start) (x : Step) (o : Outcome) → SameBeginning start x → o ≡ outcome_of x.answer → Begun start o
begun_of start x o s e = record { machine = s.machine; begins = s.begins; only = s.only; number = e ∙ ap outcome_of s.answer ∙ number_for s.machine }

started_one : (ps ws ts table : List ℕ) (site links primary period first time : ℕ) (o : Outcome) (qs vs us : List ℕ) → Fits ps ws ts → (site ≡ 4294967295 → ⊥)
    → Starts ps ws ts table site links primary period first time o qs vs us → Begun (start_for site table links primary period first time) o
started_one ps ws ts table site links primary period first time o qs vs us fit other st =
    let made = (contract_of st).made (fit.words.pool, fit.words.words, fit.table) in
    begun_of (start_for site table links primary period first time) made.0 o
    (starting.begins table (pool_in ps) site links primary period first time made.0 made.1 other) made.2.outcome

started_alone : (ps ws ts table : List ℕ) (links primary period first time : ℕ) (o : Outcome) (qs vs us : List ℕ) → Fits ps ws ts
    → Starts ps ws ts table 4294967295 links primary period first time o qs vs us → Begun (start_for 0 table links primary period first time) o
started_alone ps ws ts table links primary period first time o qs vs us fit st =
    let made = (contract_of st).made (fit.words.pool, fit.words.words, fit.table) in
    begun_of (start_for 0 table links primary period first time) made.0 o
    (starting.begins_alone table (pool_in ps) links primary period first time made.0 made.1) made.2.outcome

one_site : (x : Machine) (more : List Ask) → BoxShows (box (some x) none) (map (ask_of 0) more) (shows_all x more)
unfolding turned
one_site x [] = no_more
one_site x (call c output ∷ more) = ask_shows refl (one_site (step x c).1 more)
one_site x (held l ∷ more) = ask_shows refl (one_site x more)
one_site x (lost l ∷ more) = ask_shows refl (one_site x more)
one_site x (phase l ∷ more) = ask_shows refl (one_site x more)
one_site x (version l ∷ more) = ask_shows refl (one_site x more)
one_site x (record_of l r ∷ more) = ask_shows refl (one_site x more)

not_started : (ps ws ts table : List ℕ) (site links primary period first time : ℕ) (o : Outcome) (qs vs us : List ℕ) → Starts ps ws ts table site links primary period first time o qs vs us
    → (o.number ≡ 0 → ⊥) → (qs ≡ ps) × (vs ≡ ws) × (us ≡ ts)
not_started ps ws ts table site links primary period first time o qs vs us st wrong =
    let p = contract_of st in
    let more = above o.number wrong in (p.pool_kept more, p.kept more, p.table_kept more)

start_misfit : (ps ws ts table : List ℕ) (site links primary period first time : ℕ) (o : Outcome) (qs vs us : List ℕ) → Starts ps ws ts table site links primary period first time o qs vs us
    → (Fits ps ws ts → ⊥) → o ≡ numbered 14
start_misfit ps ws ts table site links primary period first time o qs vs us st wrong = (contract_of st).other (λ z. wrong (fitting ps ws ts z))

free : Free
free =
    record {
      start = λ κs given. tt;
      connect = λ κs given. tt;
      disconnect = λ κs given. tt;
      packet = λ κs given. tt;
      alarm = λ κs given. tt;
      status = λ κs given. tt;
      aggregated = λ κs given. tt;
      tick = λ κs given. tt;
      pump = λ κs given. tt;
      held = λ κs given. tt;
      lost = λ κs given. tt;
      phase = λ κs given. tt;
      version = λ κs given. tt;
      record_of = λ κs given. tt;
    }

pub from_calls : AllCalls → Equation
from_calls all =
    record {
      free = free;
      start = λ ps ws ts table site links primary period first time o qs vs us. started_one ps ws ts table site links primary period first time o qs vs us;
      start_alone = started_alone;
      from_zeros = from_zeros all;
      from_alone = from_alone all;
      one_site = one_site;
      refused = λ ts ps ws c output o ys commands qs vs p wrong.
          let l = lawful ts ps ws c output (told o ys commands) qs vs p in (l.same_pool wrong, l.same_words wrong, l.number_only wrong);
      not_started = not_started;
      only_counted = λ ts ps ws c output o ys commands qs vs p short. (lawful ts ps ws c output (told o ys commands) qs vs p).only_counted short;
      misfit = misfit;
      unhanded = unhanded;
      behind = behind;
      commands_misfit = commands_misfit;
      start_misfit = start_misfit;
    }
