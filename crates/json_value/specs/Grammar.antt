-- RFC 8259 over bytes, production by production. A relation `X t r ..`: the text t begins with an X, and r is what follows it.
-- Numbers are those of jsonnum's Number.antt, the characters of a string those of text's Grammar.antt.
-- Assumes nothing.
use Rattle.std.specs.Prelude.{ℕ, suc, ◌≡◌, Bool, true, false, List, ◌∷◌, ◌++◌}
use Rattle.json_text.specs.Grammar.{Chars}
use Rattle.json_number.specs.Number.{Number, Ended}

-- the meaning of a text: a number is its bytes, a string its code points with escapes resolved
mutual
  pub data Json : Type 0 where
    null : Json
    bool : Bool → Json
    num : List ℕ → Json
    str : List ℕ → Json
    arr : Jsons → Json
    obj : Members → Json

  pub data Jsons : Type 0 where
    jnil : Jsons
    jcons : Json → Jsons → Jsons

  -- the members of an object, in order
  pub data Members : Type 0 where
    mnil : Members
    mcons : List ℕ → Json → Members → Members

-- ws = *( %x20 / %x09 / %x0A / %x0D )
pub data Space : ℕ → Type 0 where
  blank : Space 0x20
  tab : Space 0x09
  line : Space 0x0a
  return : Space 0x0d

pub data Ws : List ℕ → List ℕ → Type 0 where
  none : {t : List ℕ} → Ws t t
  more : {b : ℕ} {t r : List ℕ} → Space b → Ws t r → Ws (b ∷ t) r

-- ws string ws name-separator ws
pub data Name : List ℕ → List ℕ → List ℕ → Type 0 where
  name : {t u v w r d : List ℕ} → Ws t (0x22 ∷ u) → Chars u v d → Ws v (0x3a ∷ w) → Ws w r → Name t r d

-- value = false / null / true / object / array / number / string, with at most so many levels of arrays and objects
mutual
  pub data Value : ℕ → List ℕ → List ℕ → Json → Type 0 where
    vnull : {l : ℕ} {r : List ℕ} → Value l (0x6e ∷ 0x75 ∷ 0x6c ∷ 0x6c ∷ r) r null
    vtrue : {l : ℕ} {r : List ℕ} → Value l (0x74 ∷ 0x72 ∷ 0x75 ∷ 0x65 ∷ r) r (bool true)
    vfalse : {l : ℕ} {r : List ℕ} → Value l (0x66 ∷ 0x61 ∷ 0x6c ∷ 0x73 ∷ 0x65 ∷ r) r (bool false)
    vnum : {l : ℕ} {t r d : List ℕ} → Number t r → Ended r → t ≡ d ++ r → Value l t r (num d)
    vstr : {l : ℕ} {t r d : List ℕ} → Chars t r d → Value l (0x22 ∷ t) r (str d)
    varr₀ : {l : ℕ} {t r : List ℕ} → Ws t (0x5d ∷ r) → Value (suc l) (0x5b ∷ t) r (arr jnil)
    varr : {l : ℕ} {t r : List ℕ} {js : Jsons} → Elements l t r js → Value (suc l) (0x5b ∷ t) r (arr js)
    vobj₀ : {l : ℕ} {t r : List ℕ} → Ws t (0x7d ∷ r) → Value (suc l) (0x7b ∷ t) r (obj mnil)
    vobj : {l : ℕ} {t r : List ℕ} {ms : Members} → Pairs l t r ms → Value (suc l) (0x7b ∷ t) r (obj ms)

  -- ws value ws, then the closing bracket, or a comma and more
  pub data Elements : ℕ → List ℕ → List ℕ → Jsons → Type 0 where
    elast : {l : ℕ} {t u v r : List ℕ} {j : Json} → Ws t u → Value l u v j → Ws v (0x5d ∷ r) → Elements l t r (jcons j jnil)
    enext : {l : ℕ} {t u v w r : List ℕ} {j : Json} {js : Jsons} → Ws t u → Value l u v j → Ws v (0x2c ∷ w) → Elements l w r js → Elements l t r (jcons j js)

  -- a name, value ws, then the closing brace, or a comma and more
  pub data Pairs : ℕ → List ℕ → List ℕ → Members → Type 0 where
    plast : {l : ℕ} {t u v r d : List ℕ} {j : Json} → Name t u d → Value l u v j → Ws v (0x7d ∷ r) → Pairs l t r (mcons d j mnil)
    pnext : {l : ℕ} {t u v w r d : List ℕ} {j : Json} {ms : Members} → Name t u d → Value l u v j → Ws v (0x2c ∷ w) → Pairs l w r ms → Pairs l t r (mcons d j ms)
