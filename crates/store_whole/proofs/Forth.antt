-- A site is read back from its own words.
-- Assumes nothing.
use Rattle.basis.proofs.Std.{◌≡◌, refl, sym, ap, ap₂, subst, ◌∙◌, ℕ, zero, suc, ◌+◌, ◌-◌, ◌*◌, ◌%◌, ◌^◌, ◌<◌, add-zero, mod-eq_of_lt, arith, List, [], ◌∷◌, ◌++◌, length, get_or, take, drop, replicate, length-append, length-drop, length-take-le}
use Rattle.bits.specs.Fields.{total, number_of}
use Rattle.bits.proofs.Bytes.{number_lt}
use Rattle.identity.specs.declared.Identity.{Identity}
use Rattle.awaited.specs.declared.Slot.{Slot}
use Rattle.awaited.specs.Slot.{free_slot}
use Rattle.link.specs.declared.Link.{Link}
use Rattle.link.specs.Fields.{closed_link}
use Rattle.pool.specs.declared.Place.{Place}
use Rattle.pool.specs.declared.Pool.{Pool}
use Rattle.pool.specs.Places.{no_place}
use Rattle.subscription.specs.declared.Subscription.{Subscription}
use Rattle.subscription.specs.Subscription.{none as no_subscription}
use Rattle.alarm.specs.declared.Alarm.{Alarm}
use Rattle.alarm.specs.Alarm.{beginning}
use Rattle.status.specs.declared.Status.{Status}
use Rattle.status.specs.Status.{unknown}
use Rattle.site.specs.declared.Site.{Site}
use Rattle.site.specs.Site.{link_at}
use Rattle.site.specs.Parts.{subscription_at, alarm_at, status_at}
use Rattle.store_words.specs.Words.{word, flag}
use Rattle.store_words.specs.Narrow.{identity_from}
use Rattle.store_words.proofs.Elements.{list_is}
use Rattle.store_words.proofs.Joined.{upper_pair, lower_pair, quad_0, quad_1, quad_2, quad_3, flag_bit, bit_small, halves}
use Rattle.store_link.specs.Rows.{slot_from, slot_in, awaited_in, link_in, PlainAt}
use Rattle.store_site.specs.Rows.{place_from, place_in, subscription_from, subscription_in, alarm_from, alarm_in, status_from, status_in}
use Rattle.store_site.specs.Layout.{lost_in, places_in, pool_in, links_in, subscriptions_in, alarms_in, statuses_in, site_of}
use Rattle.store_site.specs.Turns.{Plain}
use Rattle.store_whole.specs.Image.{flat, slot_words, link_head, link_words, place_words, subscription_words, alarm_words, status_words, head_words, pool_words_of, words_of}
use Rattle.store_whole.specs.Range.{SlotFits, LinkFits, PlaceFits, SubscriptionFits, AlarmFits, StatusFits, PoolInRange, InRange}
use Rattle.store_whole.proofs.Spans.{skip, keep}
use Rattle.store_whole.proofs.ListLaws.{four_0, four_1, four_2, four_3}

-- element k of elements whose words stand one behind the other, at `at k`
module _ {A : Type 0} (f : A → List ℕ) (at : ℕ → ℕ) (w : ℕ) (start : at 0 ≡ 0) (grow : (n : ℕ) → at (suc n) ≡ w + at n) (d : A) where
  pub flat_at : (l : List A) → ((k : ℕ) → k < length l → length (f (get_or l k d)) ≡ w) → (k j : ℕ) → k < length l → j < w
      → word (flat f l) (at k + j) ≡ word (f (get_or l k d)) j
  unfolding flat
  flat_at [] e k j g h = absurd (omega arith)
  flat_at (x ∷ l) e zero j g h =
      let z : at 0 + j ≡ j = omega (arith, start) in
      let n : length (f x) ≡ w = e 0 (omega arith) in
      ap (λ (m : ℕ). word (f x ++ flat f l) m) z ∙ keep (f x) (flat f l) j (omega arith)
  flat_at (x ∷ l) e (suc k) j g h =
      skip (f x) (flat f l) w (at (suc k) + j) (at k + j) (e 0 (omega arith)) (omega (arith, grow k))
      ∙ flat_at l (λ i q. e (suc i) (omega arith)) k j (omega arith) h

  pub flat_length : (l : List A) → ((k : ℕ) → k < length l → length (f (get_or l k d)) ≡ w) → length (flat f l) ≡ at (length l)
  unfolding flat
  flat_length [] e = sym start
  flat_length (x ∷ l) e =
      let n : length (f x) ≡ w = e 0 (omega arith) in
      length-append (f x) (flat f l) ∙ ap₂ (λ (a b : ℕ). a + b) n (flat_length l (λ i q. e (suc i) (omega arith))) ∙ sym (grow (length l))

-- the words i, i + 1, .. are those of a row
abbrev Holds : List ℕ → ℕ → ℕ → List ℕ → Type 0
Holds ws i n row = (j : ℕ) → j < n → word ws (i + j) ≡ word row j

first_of_lem : (ws : List ℕ) (i n : ℕ) (row : List ℕ) → 0 < n → Holds ws i n row → word ws i ≡ word row 0
first_of_lem ws i n row h e = ap (word ws) (sym (add-zero i)) ∙ e 0 h

small : (s : List ℕ) → length s ≡ 8 → number_of s % 2 ^ 64 ≡ number_of s
small s e = mod-eq_of_lt (subst (λ (n : ℕ). number_of s < 2 ^ total (replicate n 8)) e (number_lt s))

identity_forth : (x : Identity) → length x.bytes ≡ 16 → ((i : ℕ) → get_or x.bytes i 0 < 256)
    → identity_from (number_of (take 8 x.bytes)) (number_of (take 8 (drop 8 x.bytes))) ≡ x
identity_forth x e h =
    let s = x.bytes in
    let n : length (drop 8 s) ≡ 8 = length-drop 8 s ∙ ap (λ (k : ℕ). k - 8) e in
    ap₂ identity_from (sym (small (take 8 s) (length-take-le 8 s (omega arith)))) (sym (small (take 8 (drop 8 s)) (length-take-le 8 (drop 8 s) (omega arith))))
    ∙ halves x e h

module _ (ws : List ℕ) (i : ℕ) where
  slot_forth : (x : Slot) → SlotFits x → Holds ws i 4 (slot_words x) → slot_in ws i ≡ x
  unfolding slot_words slot_from
  slot_forth x r h =
      rw (
        first_of_lem ws i 4 (slot_words x) (omega arith) h,
        h 1 (omega arith),
        h 2 (omega arith),
        h 3 (omega arith),
        upper_pair x.sequence x.purpose r.sequence r.purpose,
        lower_pair x.sequence x.purpose r.sequence r.purpose,
        identity_forth x.id r.sixteen r.byte,
      )

  place_forth : (x : Place) → PlaceFits x → Holds ws i 4 (place_words x) → place_in ws i ≡ x
  unfolding place_words place_from
  place_forth x r h =
      let y = x.entry in
      rw (
        first_of_lem ws i 4 (place_words x) (omega arith) h,
        h 1 (omega arith),
        h 2 (omega arith),
        h 3 (omega arith),
        upper_pair y.value y.sequence r.value r.sequence,
        lower_pair y.value y.sequence r.value r.sequence,
        quad_0 y.link y.kind y.item y.flags r.link r.kind r.item r.flags,
        quad_1 y.link y.kind y.item y.flags r.link r.kind r.item r.flags,
        quad_2 y.link y.kind y.item y.flags r.link r.kind r.item r.flags,
        quad_3 y.link y.kind y.item y.flags r.link r.kind r.item r.flags,
      )

  subscription_forth : (x : Subscription) → SubscriptionFits x → Holds ws i 2 (subscription_words x) → subscription_in ws i ≡ x
  unfolding subscription_words subscription_from
  subscription_forth x r h =
      rw (
        first_of_lem ws i 2 (subscription_words x) (omega arith) h,
        h 1 (omega arith),
        upper_pair x.seconds x.state r.seconds r.state,
        lower_pair x.seconds x.state r.seconds r.state,
      )

  alarm_forth : (x : Alarm) → AlarmFits x → Holds ws i 2 (alarm_words x) → alarm_in ws i ≡ x
  unfolding alarm_words alarm_from
  alarm_forth x r h =
      rw (
        first_of_lem ws i 2 (alarm_words x) (omega arith) h,
        h 1 (omega arith),
        quad_0 x.event x.acknowledged x.active x.suspended r.event r.acknowledged r.active r.suspended,
        quad_1 x.event x.acknowledged x.active x.suspended r.event r.acknowledged r.active r.suspended,
        quad_2 x.event x.acknowledged x.active x.suspended r.event r.acknowledged r.active r.suspended,
        quad_3 x.event x.acknowledged x.active x.suspended r.event r.acknowledged r.active r.suspended,
      )

  status_forth : (x : Status) → StatusFits x → Holds ws i 1 (status_words x) → status_in ws i ≡ x
  unfolding status_words status_from
  status_forth x r h =
      rw (
        first_of_lem ws i 1 (status_words x) (omega arith) h,
        upper_pair x.value x.known r.value r.known,
        lower_pair x.value x.known r.value r.known,
      )

slot_long : (x : Slot) → length (slot_words x) ≡ 4
unfolding slot_words
slot_long x = refl

place_long : (x : Place) → length (place_words x) ≡ 4
unfolding place_words
place_long x = refl

subscription_long : (x : Subscription) → length (subscription_words x) ≡ 2
unfolding subscription_words
subscription_long x = refl

alarm_long : (x : Alarm) → length (alarm_words x) ≡ 2
unfolding alarm_words
alarm_long x = refl

status_long : (x : Status) → length (status_words x) ≡ 1
unfolding status_words
status_long x = refl

link_head_long : (k : Link) → length (link_head k) ≡ 11
unfolding link_head
link_head_long k = refl

-- a link's words: eleven, and sixteen times four
module _ (k : Link) (r : LinkFits k) where
  abbrev slots : List Slot
  slots = k.awaited.slots

  slots_long : length (flat slot_words slots) ≡ 64
  slots_long = flat_length slot_words (λ (n : ℕ). 4 * n) 4 refl (λ n. omega arith) free_slot slots (λ j h. slot_long (get_or slots j free_slot)) ∙ ap (λ (n : ℕ). 4 * n) r.sixteen

  link_long : length (link_words k) ≡ 75
  unfolding link_words
  link_long = length-append (link_head k) (flat slot_words slots) ∙ ap₂ (λ (a b : ℕ). a + b) (link_head_long k) slots_long

  module _ (ws : List ℕ) (i : ℕ) (h : Holds ws i 75 (link_words k)) where
    in_head : Holds ws i 11 (link_head k)
    unfolding link_words
    in_head j g = h j (omega arith) ∙ keep (link_head k) (flat slot_words slots) j (omega (arith, link_head_long k))

    in_slots : (j : ℕ) → j < 64 → word ws (i + 11 + j) ≡ word (flat slot_words slots) j
    unfolding link_words
    in_slots j g =
        let z : i + 11 + j ≡ i + (11 + j) = omega arith in
        ap (word ws) z ∙ h (11 + j) (omega arith) ∙ skip (link_head k) (flat slot_words slots) 11 (11 + j) j (link_head_long k) refl

    in_slot : (q : ℕ) → q < 16 → Holds ws (i + 11 + 4 * q) 4 (slot_words (get_or slots q free_slot))
    in_slot q g j f =
        let z : i + 11 + 4 * q + j ≡ i + 11 + (4 * q + j) = omega arith in
        ap (word ws) z ∙ in_slots (4 * q + j) (omega arith)
        ∙ flat_at slot_words (λ (n : ℕ). 4 * n) 4 refl (λ n. omega arith) free_slot slots (λ m p. slot_long (get_or slots m free_slot)) q j (omega (arith, r.sixteen)) f

    awaited_forth : awaited_in ws (i + 11) ≡ k.awaited
    unfolding awaited_in
    awaited_forth =
        ap (λ (l : List Slot). record { slots = l })
        (sym (list_is (λ (q : ℕ). slot_in ws (i + 11 + 4 * q)) 16 slots free_slot r.sixteen
        (λ q g. sym (slot_forth ws (i + 11 + 4 * q) (get_or slots q free_slot) (r.slot q g) (in_slot q g)))))

    link_forth : link_in ws i ≡ k
    unfolding link_in link_head
    link_forth =
        rw (
          awaited_forth,
          first_of_lem ws i 11 (link_head k) (omega arith) in_head,
          in_head 1 (omega arith),
          in_head 2 (omega arith),
          upper_pair k.alarm k.major r.alarm r.major,
          lower_pair k.alarm k.major r.alarm r.major,
          upper_pair k.minor k.patch r.minor r.patch,
          lower_pair k.minor k.patch r.minor r.patch,
          ap flag (in_head 3 (omega arith)) ∙ flag_bit k.connected,
          ap flag (in_head 4 (omega arith)) ∙ flag_bit k.versionout,
          ap flag (in_head 5 (omega arith)) ∙ flag_bit k.versionacked,
          ap flag (in_head 6 (omega arith)) ∙ flag_bit k.versiontaken,
          ap flag (in_head 7 (omega arith)) ∙ flag_bit k.watchdogout,
          ap flag (in_head 8 (omega arith)) ∙ flag_bit k.watchdogacked,
          ap flag (in_head 9 (omega arith)) ∙ flag_bit k.watchdogtaken,
          ap flag (in_head 10 (omega arith)) ∙ flag_bit k.aggregatedout,
        )

    link_plain : PlainAt ws i
    unfolding link_head
    link_plain zero g = rw (in_head 3 (omega arith)) (bit_small k.connected)
    link_plain (suc zero) g = rw (in_head 4 (omega arith)) (bit_small k.versionout)
    link_plain (suc (suc zero)) g = rw (in_head 5 (omega arith)) (bit_small k.versionacked)
    link_plain (suc (suc (suc zero))) g = rw (in_head 6 (omega arith)) (bit_small k.versiontaken)
    link_plain (suc (suc (suc (suc zero)))) g = rw (in_head 7 (omega arith)) (bit_small k.watchdogout)
    link_plain (suc (suc (suc (suc (suc zero))))) g = rw (in_head 8 (omega arith)) (bit_small k.watchdogacked)
    link_plain (suc (suc (suc (suc (suc (suc zero)))))) g = rw (in_head 9 (omega arith)) (bit_small k.watchdogtaken)
    link_plain (suc (suc (suc (suc (suc (suc (suc zero))))))) g = rw (in_head 10 (omega arith)) (bit_small k.aggregatedout)
    link_plain (suc (suc (suc (suc (suc (suc (suc (suc m)))))))) g = absurd (omega arith)

-- a pool within its fields' ranges is read back from its words
module _ (p : Pool) (r : PoolInRange p) where
  abbrev held : List ℕ
  held = flat place_words p.places

  in_lost : (m : ℕ) → m < 8 → word (pool_words_of p) m ≡ word p.lost m
  unfolding pool_words_of
  in_lost m h = keep p.lost held m (omega (arith, r.lost))

  behind_lost : (m : ℕ) → word (pool_words_of p) (8 + m) ≡ word held m
  unfolding pool_words_of
  behind_lost m = skip p.lost held 8 (8 + m) m r.lost refl

  lost_forth : lost_in (pool_words_of p) ≡ p.lost
  unfolding lost_in
  lost_forth = sym (list_is (word (pool_words_of p)) 8 p.lost 0 r.lost (λ l h. sym (in_lost l h)))

  places_forth : places_in (pool_words_of p) ≡ p.places
  unfolding places_in
  places_forth =
      sym (list_is (λ (k : ℕ). place_in (pool_words_of p) (8 + 4 * k)) 128 p.places no_place r.places
      (λ k h. sym (place_forth (pool_words_of p) (8 + 4 * k) (get_or p.places k no_place) (r.place k h) (holds k h))))
    where
      holds : (k : ℕ) → k < 128 → Holds (pool_words_of p) (8 + 4 * k) 4 (place_words (get_or p.places k no_place))
      holds k h j f =
          let z : 8 + 4 * k + j ≡ 8 + (4 * k + j) = omega arith in
          ap (word (pool_words_of p)) z ∙ behind_lost (4 * k + j)
          ∙ flat_at place_words (λ (n : ℕ). 4 * n) 4 refl (λ n. omega arith) no_place p.places (λ m q. place_long (get_or p.places m no_place)) k j (omega (arith, r.places)) f

  pub pool_forth : pool_in (pool_words_of p) ≡ p
  pool_forth = rw (lost_forth, places_forth) refl

head_long : (s : Site) → length (head_words s) ≡ 5
unfolding head_words
head_long s = refl

module _ (s : Site) (r : InRange s) where
  abbrev ws : List ℕ
  ws = words_of s

  abbrev links : List ℕ
  links = flat link_words s.links

  abbrev subscriptions : List ℕ
  subscriptions = flat subscription_words s.subscriptions

  abbrev alarms : List ℕ
  alarms = flat alarm_words s.alarms

  abbrev statuses : List ℕ
  statuses = flat status_words s.statuses

  abbrev five : List ℕ
  five = flat alarm_words s.alarms ++ flat status_words s.statuses

  abbrev four : List ℕ
  four = flat subscription_words s.subscriptions ++ (flat alarm_words s.alarms ++ flat status_words s.statuses)

  links_fit : (j : ℕ) → j < length s.links → length (link_words (link_at s j)) ≡ 75
  links_fit j h = link_long (link_at s j) (r.link j (omega (arith, r.links)))

  links_long : length links ≡ 300
  links_long = flat_length link_words (λ (n : ℕ). 75 * n) 75 refl (λ n. omega arith) closed_link s.links links_fit ∙ ap (λ (n : ℕ). 75 * n) r.links

  subscriptions_long : length subscriptions ≡ 256
  subscriptions_long = flat_length subscription_words (λ (n : ℕ). 2 * n) 2 refl (λ n. omega arith) no_subscription s.subscriptions (λ j h. subscription_long (subscription_at s j)) ∙ ap (λ (n : ℕ). 2 * n) r.subscriptions

  alarms_long : length alarms ≡ 64
  alarms_long = flat_length alarm_words (λ (n : ℕ). 2 * n) 2 refl (λ n. omega arith) (beginning 0) s.alarms (λ j h. alarm_long (alarm_at s j)) ∙ ap (λ (n : ℕ). 2 * n) r.alarms

  -- behind the head, the links, ..
  in_first : (m : ℕ) → m < 5 → word ws m ≡ word (head_words s) m
  unfolding words_of
  in_first m h = keep (head_words s) (links ++ four) m (omega (arith, head_long s))

  behind_head : (m : ℕ) → word ws (5 + m) ≡ word (links ++ four) m
  unfolding words_of
  behind_head m = skip (head_words s) (links ++ four) 5 (5 + m) m (head_long s) refl

  in_links : (m : ℕ) → m < 300 → word ws (5 + m) ≡ word links m
  in_links m h = behind_head m ∙ keep links four m (omega (arith, links_long))

  behind_links : (m : ℕ) → word ws (305 + m) ≡ word four m
  behind_links m =
      let z : 305 + m ≡ 5 + (300 + m) = omega arith in
      ap (word ws) z ∙ behind_head (300 + m) ∙ skip links four 300 (300 + m) m links_long refl

  in_subscriptions : (m : ℕ) → m < 256 → word ws (305 + m) ≡ word subscriptions m
  in_subscriptions m h = behind_links m ∙ keep subscriptions five m (omega (arith, subscriptions_long))

  behind_subscriptions : (m : ℕ) → word ws (561 + m) ≡ word five m
  behind_subscriptions m =
      let z : 561 + m ≡ 305 + (256 + m) = omega arith in
      ap (word ws) z ∙ behind_links (256 + m) ∙ skip subscriptions five 256 (256 + m) m subscriptions_long refl

  in_alarms : (m : ℕ) → m < 64 → word ws (561 + m) ≡ word alarms m
  in_alarms m h = behind_subscriptions m ∙ keep alarms statuses m (omega (arith, alarms_long))

  in_statuses : (m : ℕ) → word ws (625 + m) ≡ word statuses m
  in_statuses m =
      let z : 625 + m ≡ 561 + (64 + m) = omega arith in
      ap (word ws) z ∙ behind_subscriptions (64 + m) ∙ skip alarms statuses 64 (64 + m) m alarms_long refl

  -- each part read back
  link_holds : (k : ℕ) → k < 4 → Holds ws (5 + 75 * k) 75 (link_words (link_at s k))
  link_holds k h j f =
      let z : 5 + 75 * k + j ≡ 5 + (75 * k + j) = omega arith in
      ap (word ws) z ∙ in_links (75 * k + j) (omega arith)
      ∙ flat_at link_words (λ (n : ℕ). 75 * n) 75 refl (λ n. omega arith) closed_link s.links links_fit k j (omega (arith, r.links)) f

  links_forth : links_in ws ≡ s.links
  unfolding links_in
  links_forth =
      sym (list_is (λ (k : ℕ). link_in ws (5 + 75 * k)) 4 s.links closed_link r.links
      (λ k h. sym (link_forth (link_at s k) (r.link k h) ws (5 + 75 * k) (link_holds k h))))

  subscriptions_forth : subscriptions_in ws ≡ s.subscriptions
  unfolding subscriptions_in
  subscriptions_forth =
      sym (list_is (λ (k : ℕ). subscription_in ws (305 + 2 * k)) 128 s.subscriptions no_subscription r.subscriptions
      (λ k h. sym (subscription_forth ws (305 + 2 * k) (subscription_at s k) (r.subscription k h) (holds k h))))
    where
      holds : (k : ℕ) → k < 128 → Holds ws (305 + 2 * k) 2 (subscription_words (subscription_at s k))
      holds k h j f =
          let z : 305 + 2 * k + j ≡ 305 + (2 * k + j) = omega arith in
          ap (word ws) z ∙ in_subscriptions (2 * k + j) (omega arith)
          ∙ flat_at subscription_words (λ (n : ℕ). 2 * n) 2 refl (λ n. omega arith) no_subscription s.subscriptions (λ m p. subscription_long (subscription_at s m)) k j (omega (arith, r.subscriptions)) f

  alarms_forth : alarms_in ws ≡ s.alarms
  unfolding alarms_in
  alarms_forth =
      sym (list_is (λ (k : ℕ). alarm_in ws (561 + 2 * k)) 32 s.alarms (beginning 0) r.alarms
      (λ k h. sym (alarm_forth ws (561 + 2 * k) (alarm_at s k) (r.alarm k h) (holds k h))))
    where
      holds : (k : ℕ) → k < 32 → Holds ws (561 + 2 * k) 2 (alarm_words (alarm_at s k))
      holds k h j f =
          let z : 561 + 2 * k + j ≡ 561 + (2 * k + j) = omega arith in
          ap (word ws) z ∙ in_alarms (2 * k + j) (omega arith)
          ∙ flat_at alarm_words (λ (n : ℕ). 2 * n) 2 refl (λ n. omega arith) (beginning 0) s.alarms (λ m p. alarm_long (alarm_at s m)) k j (omega (arith, r.alarms)) f

  statuses_forth : statuses_in ws ≡ s.statuses
  unfolding statuses_in
  statuses_forth =
      sym (list_is (λ (k : ℕ). status_in ws (625 + k)) 32 s.statuses unknown r.statuses
      (λ k h. sym (status_forth ws (625 + k) (status_at s k) (r.status k h) (holds k h))))
    where
      holds : (k : ℕ) → k < 32 → Holds ws (625 + k) 1 (status_words (status_at s k))
      holds k h j f =
          let z : 625 + k + j ≡ 625 + (k + j) = omega arith in
          ap (word ws) z ∙ in_statuses (k + j)
          ∙ flat_at status_words (λ (n : ℕ). n) 1 refl (λ n. omega arith) unknown s.statuses (λ m p. status_long (status_at s m)) k j (omega (arith, r.statuses)) f

  -- every site within its fields' ranges is read back from its own words and its pool's
  pub site_forth : (ps : List ℕ) → pool_in ps ≡ s.pool → site_of ps ws s.table ≡ s
  unfolding site_of head_words
  site_forth ps e =
      rw (
        ap (λ (p : Pool). p.places) e,
        ap (λ (p : Pool). p.lost) e,
        links_forth,
        subscriptions_forth,
        alarms_forth,
        statuses_forth,
        in_first 0 (omega arith),
        in_first 1 (omega arith),
        in_first 2 (omega arith),
        in_first 3 (omega arith),
        in_first 4 (omega arith),
        four_0 s.site s.period s.linkcount s.primary r.site r.period r.linkcount r.primary,
        four_1 s.site s.period s.linkcount s.primary r.site r.period r.linkcount r.primary,
        four_2 s.site s.period s.linkcount s.primary r.site r.period r.linkcount r.primary,
        four_3 s.site s.period s.linkcount s.primary r.site r.period r.linkcount r.primary,
      )

  pub plain_forth : Plain ws
  plain_forth k h = link_plain (link_at s k) (r.link k h) ws (5 + 75 * k) (link_holds k h)
