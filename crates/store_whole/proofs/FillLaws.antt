-- A list of the site filled, one element after the other.
-- Assumes nothing.
use Rattle.basis.proofs.Std.{◌≡◌, refl, sym, ap, ◌∙◌, ℕ, zero, suc, ◌+◌, ◌*◌, ◌<◌, ◌≤◌, arith, List, [], ◌∷◌, ◌++◌, ◌-◌, drop, length, get_or, set, ext_get_or, get_or-append, get_or-append-add, get_or-drop}
use Rattle.table_whole.specs.declared.SiteTable.{SiteTable}
use Rattle.table_whole.specs.Memory.{no_table}
use Rattle.site.specs.declared.Site.{Site}
use Rattle.pool.specs.declared.Place.{Place}
use Rattle.pool.specs.Places.{no_place}
use Rattle.store_words.specs.Words.{word, Stored, Put}
use Rattle.store_words.proofs.Elements.{fill_next, list_is}
use Rattle.store_words.proofs.Stores.{above}
use Rattle.store_site.specs.Rows.{place_in}
use Rattle.store_site.proofs.SiteLaws.{places_put, places_same, places_length}
use Rattle.store_whole.specs.Filled.{PutLost}
use Rattle.store_site.specs.Layout.{lost_in, places_in, site_of}
use Rattle.store_site.specs.Turns.{Plain, Turns}

-- a list that has the elements of another
pub filled : {A : Type 0} (d : A) (l m : List A) (n k : ℕ) → length l ≡ n → length m ≡ n → n ≤ k → ((j : ℕ) → j < k → get_or l j d ≡ get_or m j d) → l ≡ m
filled d l m n k e f h g = ext_get_or d l m (e ∙ sym f) (λ j q. g j (omega arith))

-- within the list it does not matter what stands behind it
pub inside : {A : Type 0} (l : List A) (k : ℕ) (d e : A) → k < length l → get_or l k d ≡ get_or l k e
inside [] k d e h = absurd (omega arith)
inside (x ∷ l) zero d e h = refl
inside (x ∷ l) (suc k) d e h = inside l k d e (omega arith)

-- the first k elements of a list of the site are these, and nothing else differs
pub record Upto {A : Type 0} (get : List ℕ → List A) (put : Site → List A → Site) (d : A) (ws vs : List ℕ) (xs : List A) (k : ℕ) : Type 0 where
  pub site : (ps : List ℕ) (t : SiteTable) → site_of ps vs t ≡ put (site_of ps ws t) (get vs)
  pub there : (j : ℕ) → j < k → get_or (get vs) j d ≡ get_or xs j d
  pub plain : Plain ws → Plain vs

-- a list of the site: where it stands in the words, and the site with another one
pub record Part {A : Type 0} (get : List ℕ → List A) (of : Site → List A) (put : Site → List A → Site) (n : ℕ) : Type 0 where
  pub reads : (ps ws : List ℕ) (t : SiteTable) → of (site_of ps ws t) ≡ get ws
  pub again : (s : Site) (l m : List A) → put (put s l) m ≡ put s m
  pub same : (s : Site) → s ≡ put s (of s)
  pub back : (s : Site) (l : List A) → of (put s l) ≡ l
  pub long : (ws : List ℕ) → length (get ws) ≡ n

module _ {A : Type 0} {get : List ℕ → List A} {of : Site → List A} {put : Site → List A → Site} {n : ℕ} (p : Part get of put n) (d : A) where
  pub upto_none : (ws : List ℕ) (xs : List A) → Upto get put d ws ws xs 0
  upto_none ws xs =
      record {
        site = λ ps t. p.same (site_of ps ws t) ∙ ap (put (site_of ps ws t)) (p.reads ps ws t);
        there = λ j h. absurd (omega arith);
        plain = λ q. q;
      }

  module _ (ws vs us : List ℕ) (xs : List A) (k : ℕ) (u : Upto get put d ws vs xs k) (h : k < n) (e : length xs ≡ n) (x : A) (q : x ≡ get_or xs k d)
      (t : Turns (λ (s : Site). put s (set (of s) k x)) vs us) where
    changed : get us ≡ set (get vs) k x
    changed =
        sym (p.reads [] us no_table) ∙ ap of (t.site [] no_table) ∙ p.back (site_of [] vs no_table) (set (of (site_of [] vs no_table)) k x)
        ∙ ap (λ (l : List A). set l k x) (p.reads [] vs no_table)

    pub upto_next : Upto get put d ws us xs (k + 1)
    upto_next =
        record {
          site = λ ps s.
              t.site ps s
              ∙ ap (λ (l : List A). put (site_of ps vs s) l) (ap (λ (l : List A). set l k x) (p.reads ps vs s) ∙ sym changed)
              ∙ ap (λ (y : Site). put y (get us)) (u.site ps s)
              ∙ p.again (site_of ps ws s) (get vs) (get us);
          there = λ j g.
              ap (λ (l : List A). get_or l j d) changed
              ∙ fill_next (λ (i : ℕ). get_or xs i d) (get vs) k d x (omega (arith, p.long vs)) u.there q j g;
          plain = λ y. t.plain (u.plain y);
        }

  pub upto_all : (ws vs : List ℕ) (xs : List A) (k : ℕ) → n ≤ k → length xs ≡ n → Upto get put d ws vs xs k → Turns (λ (s : Site). put s xs) ws vs
  upto_all ws vs xs k h e u =
      record {
        site = λ ps t. u.site ps t ∙ ap (put (site_of ps ws t)) (filled d (get vs) xs n k (p.long vs) e h u.there);
        plain = u.plain;
      }

-- the first k places of the pool are these
abbrev pub PlacesTo : List ℕ → List Place → ℕ → Type 0
PlacesTo ps xs k = (j : ℕ) → j < k → get_or (places_in ps) j no_place ≡ get_or xs j no_place

pub places_next : (ps qs : List ℕ) (xs : List Place) (k : ℕ) (x : Place) → k < 128 → PlacesTo ps xs k → x ≡ get_or xs k no_place → Put place_in 4 ps qs (8 + 4 * k) x → PlacesTo qs xs (k + 1)
places_next ps qs xs k x h e q p j g =
    ap (λ (l : List Place). get_or l j no_place) (places_put ps qs k x h p)
    ∙ fill_next (λ (i : ℕ). get_or xs i no_place) (places_in ps) k no_place x (omega (arith, places_length ps)) e q j g

pub places_all : (ps : List ℕ) (xs : List Place) (k : ℕ) → 128 ≤ k → length xs ≡ 128 → PlacesTo ps xs k → places_in ps ≡ xs
places_all ps xs k h e g = filled no_place (places_in ps) xs 128 k (places_length ps) e h g

-- the lost counts stored in front of what stands behind them
pub lost_put : (ps xs : List ℕ) → length xs ≡ 8 → 8 ≤ length ps → PutLost ps (xs ++ drop 8 ps) xs
unfolding lost_in
lost_put ps xs e h =
    let qs = xs ++ drop 8 ps in
    let behind : (j : ℕ) → 8 ≤ j → word qs j ≡ word ps j = λ j g.
    let r : j ≡ length xs + (j - 8) = omega arith in
    let s : 8 + (j - 8) ≡ j = omega arith in
    ap (word qs) r ∙ get_or-append-add xs (drop 8 ps) (j - 8) 0 ∙ get_or-drop 8 ps (j - 8) 0 ∙ ap (word ps) s in
    let kept : Stored ps qs 0 8 = record { before = λ j g. absurd (omega arith); behind = behind } in
    record {
      counts = sym (list_is (word qs) 8 xs 0 e (λ j g. sym (get_or-append xs (drop 8 ps) 0 j (omega arith))));
      places = places_same ps qs (above 8 512 kept (omega arith));
    }
