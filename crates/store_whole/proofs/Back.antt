-- Words that stand for a pool are that pool's words; words that stand for a site are that site's, where what has happened on a link is 0 or 1.
-- Assumes nothing.
use Rattle.basis.proofs.Std.{◌≡◌, refl, sym, ap, ap₂, ◌∙◌, ℕ, zero, suc, ◌+◌, ◌*◌, ◌^◌, ◌<◌, zero-add, add-zero, div-eq_of_lt, arith, List, [], ◌∷◌, ◌++◌, length, bit}
use Rattle.bits.specs.Fields.{field_of, joined, split, total}
use Rattle.bits.proofs.Fields.{joined_split}
use Rattle.bits.proofs.Bytes.{number_bytes}
use Rattle.table_whole.specs.declared.SiteTable.{SiteTable}
use Rattle.store_words.specs.Words.{word, flag, elements}
use Rattle.store_words.specs.Narrow.{upper, lower, pair, quad, identity_from}
use Rattle.store_words.proofs.Elements.{list_same}
use Rattle.store_link.specs.Rows.{slot_from, slot_in, awaited_in, link_in, PlainAt}
use Rattle.store_site.specs.Rows.{place_from, place_in, subscription_from, subscription_in, alarm_from, alarm_in, status_from, status_in}
use Rattle.store_site.specs.Layout.{lost_in, places_in, pool_in, links_in, subscriptions_in, alarms_in, statuses_in, site_of, pool_words, site_words}
use Rattle.store_site.specs.Turns.{Plain}
use Rattle.store_whole.specs.Image.{flat, slot_words, link_head, link_words, place_words, subscription_words, alarm_words, status_words, head_words, pool_words_of, words_of, Wide}
use Rattle.store_whole.proofs.Spans.{span, span_append, span_whole, flat_span}

-- a word is the one that its fields are joined to
joined_back : (ks : List ℕ) (x : ℕ) → x < 2 ^ total ks → joined 0 ks (split ks x) ≡ x
joined_back ks x h =
    ap (λ (n : ℕ). joined n ks (split ks x)) (sym (div-eq_of_lt h)) ∙ joined_split ks x

pair_back : (x : ℕ) → x < 18446744073709551616 → pair (upper x) (lower x) ≡ x
pair_back x h = joined_back (32 ∷ 32 ∷ []) x h

quad_back : (x : ℕ) → x < 18446744073709551616 → quad (field_of x 48 16) (field_of x 32 16) (field_of x 16 16) (field_of x 0 16) ≡ x
quad_back x h = joined_back (16 ∷ 16 ∷ 16 ∷ 16 ∷ []) x h

flag_back : (x : ℕ) → x < 2 → bit (flag x) ≡ x
flag_back zero h = refl
flag_back (suc zero) h = refl
flag_back (suc (suc x)) h = absurd (omega arith)

module _ (ws : List ℕ) (wide : Wide ws) where
  slot_back : (i : ℕ) → slot_words (slot_in ws i) ≡ span ws i 4
  unfolding slot_words slot_from identity_from elements
  slot_back i =
      rw (
        add-zero i,
        pair_back (word ws (i + 1)) (wide (i + 1)),
        number_bytes 8 (word ws (i + 2)) (wide (i + 2)),
        number_bytes 8 (word ws (i + 3)) (wide (i + 3)),
      )

  place_back : (i : ℕ) → place_words (place_in ws i) ≡ span ws i 4
  unfolding place_words place_from elements
  place_back i = rw (add-zero i, pair_back (word ws (i + 1)) (wide (i + 1)), quad_back (word ws (i + 2)) (wide (i + 2)))

  subscription_back : (i : ℕ) → subscription_words (subscription_in ws i) ≡ span ws i 2
  unfolding subscription_words subscription_from elements
  subscription_back i = rw (add-zero i, pair_back (word ws (i + 1)) (wide (i + 1)))

  alarm_back : (i : ℕ) → alarm_words (alarm_in ws i) ≡ span ws i 2
  unfolding alarm_words alarm_from elements
  alarm_back i = rw (add-zero i, quad_back (word ws (i + 1)) (wide (i + 1)))

  status_back : (i : ℕ) → status_words (status_in ws i) ≡ span ws i 1
  unfolding status_words status_from elements
  status_back i = rw (add-zero i, pair_back (word ws i) (wide i))

  slots_back : (i : ℕ) → flat slot_words (awaited_in ws i).slots ≡ span ws i 64
  unfolding awaited_in
  slots_back i =
      flat_span slot_words (λ (k : ℕ). slot_in ws (i + 4 * k)) (λ (k : ℕ). i + 4 * k) (λ (n : ℕ). 4 * n) 4 16 ws
      (λ k. omega arith) refl (λ n. omega arith) (λ k h. slot_back (i + 4 * k))
      ∙ ap (λ (m : ℕ). span ws m 64) (add-zero i)

  link_head_back : (i : ℕ) → PlainAt ws i → link_head (link_in ws i) ≡ span ws i 11
  unfolding link_head link_in elements
  link_head_back i p =
      rw (
        add-zero i,
        pair_back (word ws (i + 1)) (wide (i + 1)),
        pair_back (word ws (i + 2)) (wide (i + 2)),
        flag_back (word ws (i + 3)) (p 0 (omega arith)),
        flag_back (word ws (i + 4)) (p 1 (omega arith)),
        flag_back (word ws (i + 5)) (p 2 (omega arith)),
        flag_back (word ws (i + 6)) (p 3 (omega arith)),
        flag_back (word ws (i + 7)) (p 4 (omega arith)),
        flag_back (word ws (i + 8)) (p 5 (omega arith)),
        flag_back (word ws (i + 9)) (p 6 (omega arith)),
        flag_back (word ws (i + 10)) (p 7 (omega arith)),
      )

  awaited_of : (i : ℕ) → (link_in ws i).awaited ≡ awaited_in ws (i + 11)
  unfolding link_in
  awaited_of i = refl

  link_back : (i : ℕ) → PlainAt ws i → link_words (link_in ws i) ≡ span ws i 75
  unfolding link_words
  link_back i p =
      ap₂ (λ (x y : List ℕ). x ++ y) (link_head_back i p) (rw (awaited_of i) (slots_back (i + 11)))
      ∙ span_append ws i 11 64 (i + 11) 75 refl refl

  head_back : (ps : List ℕ) (t : SiteTable) → head_words (site_of ps ws t) ≡ span ws 0 5
  unfolding head_words site_of elements
  head_back ps t = rw (joined_back (1 ∷ 31 ∷ 16 ∷ 16 ∷ []) (word ws 2) (wide 2))

  lost_back : lost_in ws ≡ span ws 0 8
  unfolding lost_in
  lost_back = list_same (λ (l : ℕ). word ws (0 + l)) (word ws) 8 (λ l h. ap (word ws) (sym (zero-add l)))

  places_back : flat place_words (places_in ws) ≡ span ws 8 512
  unfolding places_in
  places_back =
      flat_span place_words (λ (k : ℕ). place_in ws (8 + 4 * k)) (λ (k : ℕ). 8 + 4 * k) (λ (n : ℕ). 4 * n) 4 128 ws
      (λ k. omega arith) refl (λ n. omega arith) (λ k h. place_back (8 + 4 * k))

  links_back : Plain ws → flat link_words (links_in ws) ≡ span ws 5 300
  unfolding links_in
  links_back p =
      flat_span link_words (λ (k : ℕ). link_in ws (5 + 75 * k)) (λ (k : ℕ). 5 + 75 * k) (λ (n : ℕ). 75 * n) 75 4 ws
      (λ k. omega arith) refl (λ n. omega arith) (λ k h. link_back (5 + 75 * k) (p k h))

  subscriptions_back : flat subscription_words (subscriptions_in ws) ≡ span ws 305 256
  unfolding subscriptions_in
  subscriptions_back =
      flat_span subscription_words (λ (k : ℕ). subscription_in ws (305 + 2 * k)) (λ (k : ℕ). 305 + 2 * k) (λ (n : ℕ). 2 * n) 2 128 ws
      (λ k. omega arith) refl (λ n. omega arith) (λ k h. subscription_back (305 + 2 * k))

  alarms_back : flat alarm_words (alarms_in ws) ≡ span ws 561 64
  unfolding alarms_in
  alarms_back =
      flat_span alarm_words (λ (k : ℕ). alarm_in ws (561 + 2 * k)) (λ (k : ℕ). 561 + 2 * k) (λ (n : ℕ). 2 * n) 2 32 ws
      (λ k. omega arith) refl (λ n. omega arith) (λ k h. alarm_back (561 + 2 * k))

  statuses_back : flat status_words (statuses_in ws) ≡ span ws 625 32
  unfolding statuses_in
  statuses_back =
      flat_span status_words (λ (k : ℕ). status_in ws (625 + k)) (λ (k : ℕ). 625 + k) (λ (n : ℕ). n) 1 32 ws
      (λ k. omega arith) refl (λ n. omega arith) (λ k h. status_back (625 + k))

  -- the pool's two parts, and the site's five, one behind the other
  two : pool_words_of (pool_in ws) ≡ span ws 0 8 ++ span ws 8 512
  unfolding pool_words_of
  two = rw (lost_back, places_back) refl

  pub pool_back : length ws ≡ pool_words → pool_words_of (pool_in ws) ≡ ws
  pool_back e = two ∙ span_append ws 0 8 512 8 pool_words refl refl ∙ sym (span_whole ws pool_words e)

  parts : span ws 0 5 ++ (span ws 5 300 ++ (span ws 305 256 ++ (span ws 561 64 ++ span ws 625 32))) ≡ span ws 0 site_words
  parts =
      ap (λ (x : List ℕ). span ws 0 5 ++ x)
      (ap (λ (x : List ℕ). span ws 5 300 ++ x)
      (ap (λ (x : List ℕ). span ws 305 256 ++ x) (span_append ws 561 64 32 625 96 refl refl) ∙ span_append ws 305 256 96 561 352 refl refl)
      ∙ span_append ws 5 300 352 305 652 refl refl)
      ∙ span_append ws 0 5 652 5 site_words refl refl

  five : (ps : List ℕ) (t : SiteTable) → Plain ws → words_of (site_of ps ws t) ≡ span ws 0 5 ++ (span ws 5 300 ++ (span ws 305 256 ++ (span ws 561 64 ++ span ws 625 32)))
  unfolding words_of site_of
  five ps t p = rw (head_back ps t, links_back p, subscriptions_back, alarms_back, statuses_back) refl

  pub words_back : (ps : List ℕ) (t : SiteTable) → length ws ≡ site_words → Plain ws → words_of (site_of ps ws t) ≡ ws
  words_back ps t e p = five ps t p ∙ parts ∙ sym (span_whole ws site_words e)
