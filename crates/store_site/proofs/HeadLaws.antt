-- What every call asks of the site, and what a link says, from the words.
-- Assumes nothing.
use Rattle.basis.proofs.Std.{◌≡◌, refl, sym, ap, ◌∙◌, Bool, true, ℕ, ◌+◌, ◌*◌, ◌/◌, ◌^◌, ◌<◌, ◌≤◌, arith, mod-lt, List, ltb, leb, lt-ltb, le-ltb, pick, both}
use Rattle.answer.specs.Times.{last_time}
use Rattle.bits.specs.Fields.{field_of}
use Rattle.link.specs.declared.Link.{Link}
use Rattle.link.specs.declared.Phase.{Phase}
use Rattle.link.specs.declared.Phase.TheVariants.{Down, Greeting, Beating, Up}
use Rattle.link.specs.Phase.{greeted, beaten, phase_of}
use Rattle.table_whole.specs.declared.SiteTable.{SiteTable}
use Rattle.site.specs.Site.{no_link_at, bad_time_at, link_at, owner, owner_of}
use Rattle.store_words.specs.Words.{word, flag}
use Rattle.store_link.specs.Rows.{link_in}
use Rattle.store_site.specs.Layout.{site_of}
use Rattle.store_site.proofs.SiteLaws.{link_read}

module _ (ps ws : List ℕ) (t : SiteTable) (l : ℕ) where
  pub no_link_low : {n : ℕ} → n ≡ field_of (word ws 2) 16 16 → l < 4 → leb n l ≡ no_link_at (site_of ps ws t) l
  unfolding site_of
  no_link_low e h = rw (lt-ltb l 4 h, e)

  pub time_early : l < word ws 1 → true ≡ bad_time_at (site_of ps ws t) l
  unfolding site_of
  time_early h = rw (lt-ltb l (word ws 1) h)

  pub time_late : word ws 1 ≤ l → ltb last_time l ≡ bad_time_at (site_of ps ws t) l
  unfolding site_of
  time_late h = rw (le-ltb l (word ws 1) h)

-- the site's bit is 0 or 1, and its links' owners are the first four or the second
module _ (ps ws : List ℕ) (t : SiteTable) (l : ℕ) {k : ℕ} (e : k ≡ field_of (word ws 2) 63 1) where
  one_bit : field_of (word ws 2) 63 1 < 2
  one_bit = mod-lt (word ws 2 / 2 ^ 63) (omega arith)

  pub owner_first : l < 4 → k ≡ 0 → l ≡ owner_of (site_of ps ws t) l
  unfolding site_of owner
  owner_first h z = rw (lt-ltb l 4 h, ← e, z) (omega arith)

  pub owner_second : l < 4 → (k ≡ 0 → ⊥) → 4 + l ≡ owner_of (site_of ps ws t) l
  unfolding site_of owner
  owner_second h z =
      let o : k ≡ 1 = omega (arith, z, one_bit) in
      rw (lt-ltb l 4 h, ← e, o) refl

pub owner_none : (ps ws : List ℕ) (t : SiteTable) (l : ℕ) → 4 ≤ l → 8 ≡ owner_of (site_of ps ws t) l
unfolding owner
owner_none ps ws t l h = rw (le-ltb l 4 h) refl

-- three words of what has happened
abbrev pub three : ℕ → ℕ → ℕ → Bool
three a b c = both (flag a) (both (flag b) (flag c))

abbrev phase_from : Bool → Bool → Bool → Phase
phase_from a b c = pick a (pick b (pick c Up Beating) Greeting) Down

phase_from_lem : (ws : List ℕ) (i : ℕ)
    → phase_of (link_in ws i) ≡ phase_from (flag (word ws (i + 3))) (three (word ws (i + 4)) (word ws (i + 5)) (word ws (i + 6))) (three (word ws (i + 7)) (word ws (i + 8)) (word ws (i + 9)))
unfolding phase_of greeted beaten link_in
phase_from_lem ws i = refl

module _ (ps ws : List ℕ) (t : SiteTable) (l : ℕ) (h : l < 4) {a b c : Bool}
    (e : flag (word ws (5 + 75 * l + 3)) ≡ a)
    (f : three (word ws (5 + 75 * l + 4)) (word ws (5 + 75 * l + 5)) (word ws (5 + 75 * l + 6)) ≡ b)
    (g : three (word ws (5 + 75 * l + 7)) (word ws (5 + 75 * l + 8)) (word ws (5 + 75 * l + 9)) ≡ c) where
  pub phase_is : phase_from a b c ≡ phase_of (link_at (site_of ps ws t) l)
  phase_is = rw (← e, ← f, ← g) (sym (phase_from_lem ws (5 + 75 * l)) ∙ ap phase_of (link_read ps ws t l h))

-- any reading of a link
pub link_says : {A : Type 0} (f : Link → A) (ps ws : List ℕ) (t : SiteTable) (l : ℕ) → l < 4 → {x : A} → x ≡ f (link_in ws (5 + 75 * l)) → x ≡ f (link_at (site_of ps ws t) l)
link_says f ps ws t l h e = e ∙ ap f (link_read ps ws t l h)
