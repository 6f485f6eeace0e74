-- The three checks, on the entries that both read.
-- Assumes nothing.
use Rattle.basis.proofs.Std.{ℕ, ◌≤◌, ◌<◌, arith, ◌≡◌, refl, sym, ap, ap₂, subst, ◌∙◌, Bool, true, false, List, [], ◌∷◌, map, Option, some, eqb, ltb, eqb-true, eq-eqb, ne_eqb, le-ltb, pick, same_bytes, same_is, same_true, same_self}
use Rattle.number.specs.declared.Number.{Number}
use Rattle.number.specs.declared.Number.TheVariants.{Is, No}
use Rattle.label.specs.declared.Label.{Label}
use Rattle.label.specs.Label.{text_of}
use Rattle.json_value.specs.Grammar.{Json}
use Rattle.read_versions.specs.Version.{version}
use Rattle.read_versions.specs.Judge.{has, later, latest, lists, meet}
use Rattle.machine.specs.Words.{Bytes, ◌or◌, maybe, any, first_that}
use Rattle.machine.specs.Json.{string_of, version_in}
use Rattle.machine.specs.Life.{ours}
use Rattle.refine_read.proofs.Words.{or_false}
use Rattle.refine_read.proofs.Fields.{kept_text}
use Rattle.refine_read.specs.Versions.{number_of, numbered}
use Rattle.refine_read.proofs.Text.{Alike, a_version, no_version, alike}
use Rattle.refine_read.proofs.Lists.{version_at, site_at}

pub same_swap : (a b : Bytes) → same_bytes a b ≡ same_bytes b a
same_swap a b = same_is b a (same_bytes a b) (λ e. sym (same_true a b e)) (λ e. ap (same_bytes a) e ∙ same_self a)

-- ---- a version that an entry offers
module _ (p q t : ℕ) (high : p ≤ 255) (mid : q ≤ 255) (low : t ≤ 255) (more : 0 < version p q t) where
  abbrev wanted : List ℕ
  wanted = p ∷ q ∷ t ∷ []

  same_number : (a b c : ℕ) → a ≤ 255 → b ≤ 255 → c ≤ 255 → eqb (version a b c) (version p q t) ≡ same_bytes wanted (a ∷ b ∷ c ∷ [])
  same_number a b c h k l = same_is wanted (a ∷ b ∷ c ∷ []) (eqb (version a b c) (version p q t))
      (λ e.
      let n = eqb-true (version a b c) (version p q t) e in
      let x : p ≡ a = omega arith in
      let y : q ≡ b = omega arith in
      let z : t ≡ c = omega arith in
      λ i. x i ∷ y i ∷ z i ∷ [])
      (λ e.
      let x : p ≡ a = cc in
      let y : q ≡ b = cc in
      let z : t ≡ c = cc in
      eq-eqb (version a b c) (version p q t) (omega arith))

  number_same : {o : Option (List ℕ)} {r : Number} → Alike o r → eqb (maybe 0 number_of o) (version p q t) ≡ maybe false (same_bytes wanted) o
  number_same (a_version a b c h k l) = same_number a b c h k l
  number_same no_version = ne_eqb 0 (version p q t) (λ e. omega arith)

  offered : (xs : List Json) → has (map version_at xs) (version p q t) ≡ any (λ e. maybe false (same_bytes wanted) (version_in (string_of "vers" e))) xs
  unfolding has
  offered [] = refl
  offered (x ∷ xs) = ap₂ ◌or◌ (number_same (alike (string_of "vers" x))) (offered xs)

-- ---- the latest of ours that they have, of any list of ours that falls
-- all of these are earlier
pub data Under (n : ℕ) : List (List ℕ) → Type 0 where
  none_under : Under n []
  one_under : {v : List ℕ} {vs : List (List ℕ)} → number_of v < n → Under n vs → Under n (v ∷ vs)

pub data Falling : List (List ℕ) → Type 0 where
  ends : Falling []
  falls : (p q t : ℕ) → p ≤ 255 → q ≤ 255 → t ≤ 255 → 0 < version p q t → {vs : List (List ℕ)} → Under (version p q t) vs → Falling vs
      → Falling ((p ∷ q ∷ t ∷ []) ∷ vs)

data Less (n : ℕ) : Number → Type 0 where
  no_number : Less n No
  a_number : {w : ℕ} → w < n → Less n (Is w)

later_less : (n : ℕ) {a b : Number} → Less n a → Less n b → Less n (later a b)
later_less n no_number r = r
later_less n (a_number h) no_number = a_number h
later_less n (a_number {w} h) (a_number {w = x} k) = by (ltb w x)
  where
    by : (z : Bool) → Less n (Is (pick z x w))
    by true = a_number k
    by false = a_number h

latest_less : (n : ℕ) (ys : List ℕ) {vs : List (List ℕ)} → Under n vs → Less n (latest (map number_of vs) ys)
unfolding latest
latest_less n ys none_under = no_number
latest_less n ys (one_under {v} h u) = later_less n (by (has ys (number_of v))) (latest_less n ys u)
  where
    by : (z : Bool) → Less n (pick z (Is (number_of v)) No)
    by true = a_number h
    by false = no_number

first_latest : (n : ℕ) {r : Number} → Less n r → later (Is n) r ≡ Is n
first_latest n no_number = refl
first_latest n (a_number {w} h) = rw (le-ltb n w (omega arith))

abbrev offered_in : List Json → List ℕ → Bool
offered_in xs v = any (λ e. maybe false (same_bytes v) (version_in (string_of "vers" e))) xs

choice_of : (xs : List Json) {mine : List (List ℕ)} → Falling mine → latest (map number_of mine) (map version_at xs) ≡ numbered (first_that (offered_in xs) mine)
unfolding latest
choice_of xs ends = refl
choice_of xs (falls p q t h k l more {vs} u f) =
    ap (λ (z : Bool). later (pick z (Is (version p q t)) No) (latest (map number_of vs) (map version_at xs))) (offered p q t h k l more xs)
    ∙ by (choice_of xs f) (offered_in xs (p ∷ q ∷ t ∷ []))
  where
    by : latest (map number_of vs) (map version_at xs) ≡ numbered (first_that (offered_in xs) vs) → (z : Bool)
        → later (pick z (Is (version p q t)) No) (latest (map number_of vs) (map version_at xs)) ≡ numbered (pick z (some (p ∷ q ∷ t ∷ [])) (first_that (offered_in xs) vs))
    by rest true = first_latest (version p q t) (latest_less (version p q t) (map version_at xs) u)
    by rest false = rest

pub ours_fall : Falling ours
ours_fall =
    falls 3 2 0 (omega arith) (omega arith) (omega arith) (omega arith) (one_under {v = 3 ∷ 1 ∷ 5 ∷ []} (omega arith) (one_under {v = 3 ∷ 1 ∷ 4 ∷ []} (omega arith) none_under))
    (falls 3 1 5 (omega arith) (omega arith) (omega arith) (omega arith) (one_under {v = 3 ∷ 1 ∷ 4 ∷ []} (omega arith) none_under)
    (falls 3 1 4 (omega arith) (omega arith) (omega arith) (omega arith) none_under ends))

pub choice : (xs : List Json) → latest (map number_of ours) (map version_at xs) ≡ numbered (first_that (offered_in xs) ours)
choice xs = choice_of xs ours_fall

-- what is chosen has three parts, each in a byte
pub data Parts : List ℕ → Type 0 where
  three : (p q t : ℕ) → p ≤ 255 → q ≤ 255 → t ≤ 255 → Parts (p ∷ q ∷ t ∷ [])

pub chosen_parts : (f : List ℕ → Bool) {mine : List (List ℕ)} → Falling mine → (v : List ℕ) → first_that f mine ≡ some v → Parts v
chosen_parts f ends v e = absurd (let z : ◌≡◌ {A = ℕ} 0 1 = cc in omega arith)
chosen_parts f (falls p q t h k l more {vs} u g) v e = by (chosen_parts f g v) (f (p ∷ q ∷ t ∷ [])) e
  where
    by : (first_that f vs ≡ some v → Parts v) → (z : Bool) → pick z (some (p ∷ q ∷ t ∷ [])) (first_that f vs) ≡ some v → Parts v
    by rest true e = subst Parts (let z : p ∷ q ∷ t ∷ [] ≡ v = cc in z) (three p q t h k l)
    by rest false e = rest e

-- ---- our site id in their list
named : (site : Label) (xs : List Json) → lists (map site_at xs) site ≡ any (λ e. same_bytes (string_of "sId" e) (text_of site)) xs
unfolding lists
named site [] = refl
named site (x ∷ xs) = ap₂ ◌or◌ (ap (λ (s : Bytes). same_bytes s (text_of site)) (kept_text (string_of "sId" x))) (named site xs)

pub met : (site : Label) (xs : List Json) → meet (site ∷ []) (map site_at xs) ≡ any (λ e. same_bytes (string_of "sId" e) (text_of site)) xs
unfolding meet
met site xs = or_false (lists (map site_at xs) site) ∙ named site xs
