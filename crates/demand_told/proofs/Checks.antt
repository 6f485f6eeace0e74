-- The three checks of their Version, as the packets tell them and as the machine makes them; the version that it chooses.
-- Assumes nothing.
use Rattle.basis.proofs.Std.{ℕ, ◌≡◌, refl, sym, ◌∙◌, ap, Bool, true, false, List, [], ◌∷◌, Option, some, none, ◌⊎◌, inl, inr, eqb, ltb, arith, eq-eqb, eqb-true, ltb-true, pick, text, same_bytes, Among, not_both, same_true, same_self}
use Rattle.basis.specs.Lists.Among.{first, later}
use Rattle.number.specs.Decimal.{digits, digits_below}
use Rattle.json_value.specs.Grammar.{Json}
use Rattle.machine.specs.Words.{Bytes, maybe, is_some, or_else, any, first_that}
use Rattle.machine.specs.State.{Machine}
use Rattle.machine.specs.Json.{string_of, entries_of, is_type, version_in}
use Rattle.machine.specs.Life.{ours as our_versions, offers, common, names_site, equal_sxl}
use Rattle.demand_held.proofs.Lists.{Each}
use Rattle.demand_held.proofs.Lists.Each.{no_more, one_more}
use Rattle.demand_told.specs.Greeted.{Ours, Theirs, not_later, Chosen, NamesSite, IsGoodVersion}
use Rattle.demand_told.specs.VersionDemand.{Falls}
use Rattle.demand_told.specs.VersionDemand.Falls.{ends, falls}
use Rattle.demand_told.specs.Greeted.Ours.{ours}
use Rattle.demand_told.specs.Greeted.Theirs.{theirs}
use Rattle.demand_told.specs.Greeted.NamesSite.{names}

-- ---- one of a list passes
pub record Passing {A : Type 0} (f : A → Bool) (xs : List A) : Type 0 where
  pub one : A
  pub among : Among one xs
  pub passes : f one ≡ true

pub passing : {A : Type 0} (f : A → Bool) (xs : List A) → any f xs ≡ true → Passing f xs
passing f [] e = not_both e refl
passing f (x ∷ xs) e = go (f x) refl e (passing f xs)
  where
    go : (b : Bool) → f x ≡ b → pick b true (any f xs) ≡ true → (any f xs ≡ true → Passing f xs) → Passing f (x ∷ xs)
    go true g q r = record { one = x; among = first; passes = g }
    go false g q r = let p = r q in record { one = p.one; among = later p.among; passes = p.passes }

pub some_passes : {A : Type 0} (f : A → Bool) {x : A} {xs : List A} → Among x xs → f x ≡ true → any f xs ≡ true
some_passes f first e = rw e
some_passes f (later {y} {xs} a) e = go (f y) (some_passes f a e)
  where
    go : (b : Bool) → any f xs ≡ true → pick b true (any f xs) ≡ true
    go true r = refl
    go false r = r

-- ---- the first of a list that falls is the latest that passes
not_after_itself : (v : List ℕ) → not_later v v ≡ true
not_after_itself [] = refl
not_after_itself (n ∷ v) = rw (eq-eqb n n refl) (not_after_itself v)

each_of : {A : Type 0} {P : A → Type 0} {x : A} {xs : List A} → Each P xs → Among x xs → P x
each_of {A = A} {P = P} no_more x4 = elim x4 [ ]
each_of (one_more p r) first = p
each_of (one_more p r) (later a) = each_of r a

first_or : {A : Type 0} {w x : A} {xs : List A} → Among w (x ∷ xs) → (x ≡ w) ⊎ Among w xs
first_or first = inl refl
first_or (later a) = inr a

pub first_latest : (f : List ℕ → Bool) (vs : List (List ℕ)) (v : List ℕ) → Falls vs → first_that f vs ≡ some v → (w : List ℕ) → Among w vs → f w ≡ true → not_later w v ≡ true
first_latest f [] v ends e w a p = absurd (let z : ◌≡◌ {A = ℕ} 0 1 = cc in omega arith)
first_latest f (x ∷ vs) v (falls each rest) e w a p = go (f x) refl e (first_or a) (first_latest f vs v rest)
  where
    go : (b : Bool) → f x ≡ b → pick b (some x) (first_that f vs) ≡ some v → (x ≡ w) ⊎ Among w vs
        → (first_that f vs ≡ some v → (w : List ℕ) → Among w vs → f w ≡ true → not_later w v ≡ true) → not_later w v ≡ true
    go true g q (inl own) r = let same : w ≡ v = cc in rw same (not_after_itself v)
    go true g q (inr i) r = let same : x ≡ v = cc in rw (← same) (each w i)
    go false g q (inl own) r = not_both p (rw (← own) g)
    go false g q (inr i) r = r q w i p

pub first_of_lem : {A : Type 0} (f : A → Bool) (xs : List A) (x : A) → first_that f xs ≡ some x → Among x xs × (f x ≡ true)
first_of_lem f [] x e = absurd (let z : ◌≡◌ {A = ℕ} 0 1 = cc in omega arith)
first_of_lem {A} f (y ∷ xs) x e = go (f y) refl e (first_of_lem f xs x)
  where
    go : (b : Bool) → f y ≡ b → pick b (some y) (first_that f xs) ≡ some x → (first_that f xs ≡ some x → Among x xs × (f x ≡ true)) → Among x (y ∷ xs) × (f x ≡ true)
    go true g q r = let same : y ≡ x = cc in rw (← same) (first, g)
    go false g q r = let p = r q in (later p.0, p.1)

pub there_is : {A : Type 0} (f : A → Bool) {x : A} {xs : List A} → Among x xs → f x ≡ true → is_some (first_that f xs) ≡ true
there_is f first e = rw e
there_is f (later {y} {xs} a) e = go (f y) (there_is f a e)
  where
    go : (b : Bool) → is_some (first_that f xs) ≡ true → is_some (pick b (some y) (first_that f xs)) ≡ true
    go true r = refl
    go false r = r

-- ---- the versions of ours
pub ours_fall : Falls our_versions
ours_fall =
    falls (λ w a. each_of {P = λ (x : List ℕ). not_later x (3 ∷ 2 ∷ 0 ∷ []) ≡ true} (one_more refl (one_more refl no_more)) a)
    (falls (λ w a. each_of {P = λ (x : List ℕ). not_later x (3 ∷ 1 ∷ 5 ∷ []) ≡ true} (one_more refl no_more) a)
    (falls (λ w a. each_of {P = λ (x : List ℕ). not_later x (3 ∷ 1 ∷ 4 ∷ []) ≡ true} no_more a) ends))

says_314 : version_in (text "3.1.4") ≡ some (3 ∷ 1 ∷ 4 ∷ [])
unfolding version_in digits digits_below
says_314 = refl

says_315 : version_in (text "3.1.5") ≡ some (3 ∷ 1 ∷ 5 ∷ [])
unfolding version_in digits digits_below
says_315 = refl

says_32 : version_in (text "3.2") ≡ some (3 ∷ 2 ∷ 0 ∷ [])
unfolding version_in digits digits_below
says_32 = refl

of_ours : (v : List ℕ) → Among v our_versions → Ours v
of_ours v a = each_of {P = Ours} (one_more (ours (later (later first)) says_32) (one_more (ours (later first) says_315) (one_more (ours first says_314) no_more))) a

same_some : (v w : List ℕ) → some v ≡ some w → v ≡ w
same_some v w e = cc

ours_of : (v : List ℕ) → Ours v → Among v our_versions
ours_of v (ours {s} a e) =
    each_of {P = λ (s : Bytes). version_in s ≡ some v → Among v our_versions}
    (one_more (λ e. rw (← same_some _ v (sym says_314 ∙ e)) (later (later first)))
    (one_more (λ e. rw (← same_some _ v (sym says_315 ∙ e)) (later first))
    (one_more (λ e. rw (← same_some _ v (sym says_32 ∙ e)) first) no_more))) a e

-- ---- and of theirs
pub theirs_of : (j : Json) (v : List ℕ) → offers j v ≡ true → Theirs j v
theirs_of j v e =
    let p = passing (λ (x : Json). maybe false (same_bytes v) (version_in (string_of "vers" x))) (entries_of "RSMP" j) e in
    theirs p.among (go (version_in (string_of "vers" p.one)) p.passes)
  where
    go : (o : Option (List ℕ)) → maybe false (same_bytes v) o ≡ true → o ≡ some v
    go none f = not_both f refl
    go (some w) f = ap some (sym (same_true v w f))

pub offers_of : (j : Json) (v : List ℕ) → Theirs j v → offers j v ≡ true
offers_of j v (theirs a e) = some_passes (λ (x : Json). maybe false (same_bytes v) (version_in (string_of "vers" x))) a (rw e (same_self v))

-- ---- the checks
pub chosen : (j : Json) (v : List ℕ) → common j ≡ some v → Chosen j v
chosen j v e =
    let p = first_of_lem (offers j) our_versions v e in
    record {
      by_us = of_ours v p.0;
      by_them = theirs_of j v p.1;
      latest = λ w a b. first_latest (offers j) our_versions v ours_fall e w (ours_of w a) (offers_of j w b);
    }

pub has_common : (j : Json) (v : List ℕ) → Ours v → Theirs j v → is_some (common j) ≡ true
has_common j v a b = there_is (offers j) (ours_of v a) (offers_of j v b)

pub site_named : (m : Machine) (j : Json) → NamesSite m.setup.table.site j → names_site m j ≡ true
site_named m j (names a e) = some_passes (λ (x : Json). same_bytes (string_of "sId" x) m.setup.table.site) a (rw e (same_self m.setup.table.site))

pub names_site_lem : (m : Machine) (j : Json) → names_site m j ≡ true → NamesSite m.setup.table.site j
names_site_lem m j e =
    let p = passing (λ (x : Json). same_bytes (string_of "sId" x) m.setup.table.site) (entries_of "siteId" j) e in
    names p.among (same_true (string_of "sId" p.one) m.setup.table.site p.passes)

pub sxl_equal : (m : Machine) (j : Json) → string_of "SXL" j ≡ m.setup.table.sxl → equal_sxl m j ≡ true
sxl_equal m j e = rw e (same_self m.setup.table.sxl)

pub good_version : (m : Machine) (j : Json) → is_type "Version" j ≡ true → is_some (common j) ≡ true → names_site m j ≡ true → equal_sxl m j ≡ true
    → IsGoodVersion m (or_else [] (common j)) j
good_version m j typed is site sxl =
    record {
      typed = typed;
      version = go (common j) refl is;
      site = names_site_lem m j site;
      sxl = same_true (string_of "SXL" j) m.setup.table.sxl sxl;
    }
  where
    go : (o : Option (List ℕ)) → common j ≡ o → is_some o ≡ true → Chosen j (or_else [] o)
    go none e f = not_both f refl
    go (some v) e f = chosen j v e

-- ---- one version is chosen
one_latest : (v w : List ℕ) → not_later v w ≡ true → not_later w v ≡ true → v ≡ w
one_latest [] [] e f = refl
one_latest [] (y ∷ w) e f = not_both f refl
one_latest (x ∷ v) [] e f = not_both e refl
one_latest (x ∷ v) (y ∷ w) e f = go (eqb x y) (eqb y x) refl refl e f (one_latest v w)
  where
    go : (a b : Bool) → eqb x y ≡ a → eqb y x ≡ b → pick a (not_later v w) (ltb x y) ≡ true → pick b (not_later w v) (ltb y x) ≡ true
        → (not_later v w ≡ true → not_later w v ≡ true → v ≡ w) → x ∷ v ≡ y ∷ w
    go true true g h p q r = λ i. eqb-true x y g i ∷ r p q i
    go true false g h p q r = not_both (eq-eqb y x (sym (eqb-true x y g))) h
    go false true g h p q r = not_both (eq-eqb x y (sym (eqb-true y x h))) g
    go false false g h p q r = absurd (omega (arith, ltb-true x y p, ltb-true y x q))

pub one_chosen : (j : Json) (v w : List ℕ) → Chosen j v → Chosen j w → v ≡ w
one_chosen j v w a b = one_latest v w (b.latest v a.by_us a.by_them) (a.latest w b.by_us b.by_them)
