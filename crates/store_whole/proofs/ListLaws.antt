-- Each list of the site, and what stands once.
-- Assumes nothing.
use Rattle.basis.proofs.Std.{◌≡◌, refl, ap, ◌∙◌, ◌⊎◌, inl, inr, eq_or_ne, ℕ, ◌+◌, ◌*◌, ◌<◌, arith, List, [], ◌∷◌, lit≤, length, get_or, set}
use Rattle.bits.specs.Fields.{field_of, joined, split}
use Rattle.bits.specs.Fields.Within.{none as none_field, next as next_field}
use Rattle.bits.proofs.Fields.{split_joined}
use Rattle.link.specs.declared.Link.{Link}
use Rattle.aggregated.specs.declared.Aggregated.{Aggregated}
use Rattle.site.specs.declared.Site.{Site}
use Rattle.site.specs.Site.{with_links, with_subscriptions, with_alarms, with_statuses}
use Rattle.store_words.specs.Words.{word}
use Rattle.store_words.proofs.Elements.{list_length}
use Rattle.store_words.proofs.Stores.{stored, first, next, above}
use Rattle.store_link.specs.Rows.{link_in, PlainAt, PutLink}
use Rattle.store_site.specs.Rows.{subscription_in, alarm_in, status_in}
use Rattle.store_site.specs.Layout.{links_in, subscriptions_in, alarms_in, statuses_in, site_of, site_words}
use Rattle.store_site.specs.Turns.{Turns}
use Rattle.store_site.proofs.SiteLaws.{links_same, subscriptions_same, alarms_same, statuses_same, plain_before}
use Rattle.store_whole.specs.Filled.{with_head}
use Rattle.store_whole.proofs.FillLaws.{Part}

pub links_length : (ws : List ℕ) → length (links_in ws) ≡ 4
unfolding links_in
links_length ws = list_length (λ (k : ℕ). link_in ws (5 + 75 * k)) 4

pub subscriptions_length : (ws : List ℕ) → length (subscriptions_in ws) ≡ 128
unfolding subscriptions_in
subscriptions_length ws = list_length (λ (k : ℕ). subscription_in ws (305 + 2 * k)) 128

pub alarms_length : (ws : List ℕ) → length (alarms_in ws) ≡ 32
unfolding alarms_in
alarms_length ws = list_length (λ (k : ℕ). alarm_in ws (561 + 2 * k)) 32

pub statuses_length : (ws : List ℕ) → length (statuses_in ws) ≡ 32
unfolding statuses_in
statuses_length ws = list_length (λ (k : ℕ). status_in ws (625 + k)) 32

pub links_part : Part links_in (λ (s : Site). s.links) with_links 4
unfolding site_of
links_part = record { reads = λ ps ws t. refl; again = λ s l m. refl; same = λ s. refl; back = λ s l. refl; long = links_length }

pub subscriptions_part : Part subscriptions_in (λ (s : Site). s.subscriptions) with_subscriptions 128
unfolding site_of
subscriptions_part = record { reads = λ ps ws t. refl; again = λ s l m. refl; same = λ s. refl; back = λ s l. refl; long = subscriptions_length }

pub alarms_part : Part alarms_in (λ (s : Site). s.alarms) with_alarms 32
unfolding site_of
alarms_part = record { reads = λ ps ws t. refl; again = λ s l m. refl; same = λ s. refl; back = λ s l. refl; long = alarms_length }

pub statuses_part : Part statuses_in (λ (s : Site). s.statuses) with_statuses 32
unfolding site_of
statuses_part = record { reads = λ ps ws t. refl; again = λ s l m. refl; same = λ s. refl; back = λ s l. refl; long = statuses_length }

-- one more link stored: what has happened on it is 0 or 1
pub plain_next : (vs us : List ℕ) (k : ℕ) (x : Link) → PutLink vs us (5 + 75 * k) x → ((j : ℕ) → j < k → PlainAt vs (5 + 75 * j)) → (j : ℕ) → j < k + 1 → PlainAt us (5 + 75 * j)
plain_next vs us k x p h j g m f = by (eq_or_ne j k)
  where
    by : (j ≡ k) ⊎ (j ≡ k → ⊥) → word us (5 + 75 * j + (3 + m)) < 2
    by (inl z) = rw z (p.plain m f)
    by (inr z) = rw (p.put.kept.before (5 + 75 * j + (3 + m)) (omega (arith, z))) (h j (omega (arith, z)) m f)

-- a word of four numbers, read back
module _ (a b c d : ℕ) (e : a < 2) (f : b < 2147483648) (g : c < 65536) (h : d < 65536) where
  abbrev four : ℕ
  four = joined 0 (1 ∷ 31 ∷ 16 ∷ 16 ∷ []) (a ∷ b ∷ c ∷ d ∷ [])

  all : split (1 ∷ 31 ∷ 16 ∷ 16 ∷ []) four ≡ a ∷ b ∷ c ∷ d ∷ []
  all = split_joined (next_field {k = 1} e (next_field {k = 31} f (next_field {k = 16} g (next_field {k = 16} h none_field)))) 0

  pub four_0 : field_of four 63 1 ≡ a
  four_0 = ap (λ (l : List ℕ). get_or l 0 0) all

  pub four_1 : field_of four 32 31 ≡ b
  four_1 = ap (λ (l : List ℕ). get_or l 1 0) all

  pub four_2 : field_of four 16 16 ≡ c
  four_2 = ap (λ (l : List ℕ). get_or l 2 0) all

  pub four_3 : field_of four 0 16 ≡ d
  four_3 = ap (λ (l : List ℕ). get_or l 3 0) all

module _ (ws : List ℕ) (a b o c d e : ℕ) (x : Aggregated) {n : ℕ} (h : length ws ≡ site_words) (z : o < 2) (f : c < 2147483648) (g : d < 65536) (k : e < 65536)
    (q : n ≡ joined 0 (1 ∷ 31 ∷ 16 ∷ 16 ∷ []) (o ∷ c ∷ d ∷ e ∷ [])) where
  abbrev others : List ℕ
  others = b ∷ n ∷ x.time ∷ x.value ∷ []

  pub head_turns : Turns (λ (s : Site). with_head s a b o c d e x) ws (set (set (set (set (set ws 0 a) 1 b) 2 n) 3 x.time) 4 x.value)
  unfolding site_of
  head_turns =
      let vs = set (set (set (set (set ws 0 a) 1 b) 2 n) 3 x.time) 4 x.value in
      let s = stored ws 0 a others (omega arith) in
      record {
        site = λ ps t.
            rw (
              first ws 0 a others (omega arith),
              next ws 0 a others (omega arith) 1 (lit≤ tt) (lit≤ tt),
              next ws 0 a others (omega arith) 2 (lit≤ tt) (lit≤ tt) ∙ q,
              next ws 0 a others (omega arith) 3 (lit≤ tt) (lit≤ tt),
              next ws 0 a others (omega arith) 4 (lit≤ tt) (lit≤ tt),
              four_0 o c d e z f g k,
              four_1 o c d e z f g k,
              four_2 o c d e z f g k,
              four_3 o c d e z f g k,
              links_same ws vs (above 5 300 s (omega arith)),
              subscriptions_same ws vs (above 305 256 s (omega arith)),
              alarms_same ws vs (above 561 64 s (omega arith)),
              statuses_same ws vs (above 625 32 s (omega arith)),
            );
        plain = plain_before s (omega arith);
      }
