-- The claims about StatusSubscribe and StatusUnsubscribe are kept.
-- Assumes nothing.
use Rattle.basis.proofs.Std.{ℕ, zero, suc, ◌+◌, ◌*◌, ◌/◌, ◌<◌, ◌≡◌, refl, ap₂, ◌∙◌, Bool, true, false, List, [], ◌∷◌, ◌++◌, add-one, arith, length, length-append, both_true, lt-ltb, eq-eqb}
use Rattle.entry.specs.declared.Entry.{Entry}
use Rattle.pool_laws.specs.BatchLaws.{Owned}
use Rattle.read_head.specs.declared.Verdict.{Verdict}
use Rattle.read_head.specs.declared.Verdict.TheVariants.{Good, Missing, Bad}
use Rattle.read_lists.specs.declared.StatusEntry.{StatusEntry}
use Rattle.read_lists.specs.declared.StatusFields.{StatusFields}
use Rattle.packet_lookup.specs.declared.Sought.{Sought}
use Rattle.packet_lookup.specs.declared.Sought.TheVariants.{Is, Nothing}
use Rattle.packet_lookup.specs.Sought.{component_sought, status_sought, entry_at, is_sought, all_statuses}
use Rattle.site.specs.declared.Site.{Site}
use Rattle.site.specs.Site.{owner, owner_of, owned_by}
use Rattle.packet_answer.specs.declared.Question.{Question}
use Rattle.packet_answer.specs.Taken.{Taken, by_verdict}
use Rattle.packet_subscribe.specs.Subscribing.{record_of, records, changed, judged, asked, subscribing_taken}
use Rattle.packet_subscribe.specs.Claims.{Claims}

one : (s : Site) (l time : ℕ) (x : Sought) → is_sought x ≡ true → length (record_of s l time x) ≡ 1
one s l time (Is k) e = refl
one s l time Nothing e = absurd (let w : ◌≡◌ {A = ℕ} 0 1 = cc in omega arith)

one_each : (s : Site) (l time c : ℕ) (es : List StatusEntry) (n : ℕ) → all_statuses s.table c es n ≡ true → length (records s l time c es n) ≡ n
one_each s l time c es zero e = refl
one_each s l time c es (suc n) e =
    let h = both_true (all_statuses s.table c es n) (is_sought (status_sought s.table c (entry_at es n))) e in
    length-append (records s l time c es n) (record_of s l time (status_sought s.table c (entry_at es n)))
    ∙ ap₂ (λ (a b : ℕ). a + b) (one_each s l time c es n h.0) (one s l time (status_sought s.table c (entry_at es n)) h.1)
    ∙ add-one n

owned_append : (own : ℕ → Bool) (xs ys : List Entry) → Owned 8 own xs → Owned 8 own ys → Owned 8 own (xs ++ ys)
owned_append own [] ys g h = h
owned_append own (x ∷ xs) ys g h = (g.0, (g.1.0, owned_append own xs ys g.1.1 h))

module _ (s : Site) (l : ℕ) (site : s.site < 2) (link : l < 4) where
  owner_is : owner_of s l ≡ 4 * s.site + l
  unfolding owner
  owner_is = rw (lt-ltb l 4 link) refl

  owner_below : owner_of s l < 8
  owner_below = omega (arith, owner_is)

  owner_own : owned_by s (owner_of s l) ≡ true
  owner_own = eq-eqb (owner_of s l / 4) s.site (omega (arith, owner_is))

  owned_one : (time : ℕ) (x : Sought) → Owned 8 (owned_by s) (record_of s l time x)
  owned_one time (Is k) = (owner_below, (owner_own, tt))
  owned_one time Nothing = tt

  owned : (time c : ℕ) (es : List StatusEntry) (n : ℕ) → Owned 8 (owned_by s) (records s l time c es n)
  owned time c es zero = tt
  owned time c es (suc n) =
      owned_append (owned_by s) (records s l time c es n) _ (owned time c es n) (owned_one time (status_sought s.table c (entry_at es n)))

-- what holds of an answer with a reason and of what the packet asks for holds of what it comes to
ends_judged : (s : Site) (q : Question) (f : StatusFields) (c : ℕ) (b : Bool)
    → all_statuses s.table c f.entries f.count ≡ b
    → (judged false s q f c).plan.issued ≡ []
unfolding judged changed
ends_judged s q f c true e = rw e refl
ends_judged s q f c false e = rw e refl

ends_asked : (s : Site) (q : Question) (f : StatusFields) (x : Sought) → (asked false s q f x).plan.issued ≡ []
ends_asked s q f (Is c) = ends_judged s q f c _ refl
ends_asked s q f Nothing = refl

ends_by : (v : Verdict) (s : Site) (q : Question) (t : Taken) → t.plan.issued ≡ [] → (by_verdict v s q t).plan.issued ≡ []
ends_by Good s q t e = e
ends_by Missing s q t e = refl
ends_by Bad s q t e = refl

ends : (s : Site) (q : Question) (f : StatusFields) → (subscribing_taken false s q f).plan.issued ≡ []
unfolding subscribing_taken
ends s q f =
    ends_by f.verdict s q (asked false s q f (component_sought s.table f.component))
    (ends_asked s q f (component_sought s.table f.component))

silent_judged : (subscribing : Bool) (s : Site) (q : Question) (f : StatusFields) (c : ℕ) (b : Bool)
    → all_statuses s.table c f.entries f.count ≡ b
    → (judged subscribing s q f c).replies ≡ false
unfolding judged changed
silent_judged subscribing s q f c true e = rw e refl
silent_judged subscribing s q f c false e = rw e refl

silent_asked : (subscribing : Bool) (s : Site) (q : Question) (f : StatusFields) (x : Sought)
    → (asked subscribing s q f x).replies ≡ false
silent_asked subscribing s q f (Is c) = silent_judged subscribing s q f c _ refl
silent_asked subscribing s q f Nothing = refl

silent_by : (v : Verdict) (s : Site) (q : Question) (t : Taken) → t.replies ≡ false → (by_verdict v s q t).replies ≡ false
silent_by Good s q t e = e
silent_by Missing s q t e = refl
silent_by Bad s q t e = refl

only_answered : (subscribing : Bool) (s : Site) (q : Question) (f : StatusFields)
    → (subscribing_taken subscribing s q f).replies ≡ false
unfolding subscribing_taken
only_answered subscribing s q f =
    silent_by f.verdict s q (asked subscribing s q f (component_sought s.table f.component))
    (silent_asked subscribing s q f (component_sought s.table f.component))

pub kept : Claims
kept = record { one_each = one_each; owned = λ s l time c es n site link. owned s l site link time c es n; ends = ends; only_answered = only_answered }
