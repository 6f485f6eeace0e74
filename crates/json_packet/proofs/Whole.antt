-- From the readers' answers on a whole slice to whether it is a packet; and what `is_packet` says in the grammar's terms.
-- Assumes nothing.
use Rattle.basis.proofs.Std.{ℕ, ◌+◌, ◌<◌, ◌≤◌, ◌≡◌, refl, sym, subst, ap, ◌∙◌, Bool, true, false, false≢true, List, [], ◌∷◌, eqb, length, get_or, drop, arith, ne_eqb, eq-eqb, both, both_first, both_second}
use Rattle.json_text.specs.Decoded.{Parsed}
use Rattle.json_text.specs.Decoded.Parsed.{ok, none}
use Rattle.json_text.specs.declared.Read.{Read}
use Rattle.json_text.specs.Ends.{Ends}
use Rattle.json_value.specs.Grammar.{Json, Ws, Value}
use Rattle.json_value.specs.Grammar.Json.{null, bool, num, str, arr, obj}
use Rattle.json_value.specs.Reader.{skip_ws, read_value}
use Rattle.json_value.specs.Answers.{Skipped}
use Rattle.json_value.specs.Means.{Means, depth}
use Rattle.json_character.proofs.Lists.{next, past}
use Rattle.json_text.proofs.Endings.{failed}
use Rattle.json_value.proofs.Places.{ended}
use Rattle.json_value.proofs.Sound as Sound
use Rattle.json_value.proofs.Complete as Complete
use Rattle.json_value.proofs.Shorter as Shorter
use Rattle.json_packet.specs.Names.{no_twice}
use Rattle.json_packet.specs.Scan.{scan}
use Rattle.json_packet.specs.Packet.{Packet, is_object, is_empty, accepted, is_packet, json_of, meaning_of}
use Rattle.json_packet.proofs.Scans.{scan_nil}
use Rattle.json_sure.specs.Sure.{sure}
use Rattle.json_packet.proofs.Sures.{sure_once_lem}
use Rattle.json_packet.proofs.Twice as Twice

-- a value is an object exactly when it begins with a brace
brace : {l : ℕ} {t r : List ℕ} {j : Json} (b : ℕ) (u : List ℕ) → t ≡ b ∷ u → Value l t r j → is_object j ≡ eqb b 0x7b
brace b u q (Value.vnull {r = r}) = let e : b ≡ 0x6e = cc in rw e
brace b u q Value.vtrue = let e : b ≡ 0x74 = cc in rw e
brace b u q Value.vfalse = let e : b ≡ 0x66 = cc in rw e
brace b u q (Value.vnum n x d) =
    let f = Shorter.begun n in
    let p : f.first ∷ f.rest ≡ b ∷ u = sym f.is ∙ q in
    let e : b ≡ f.first = cc in
    sym (ne_eqb b 0x7b (λ z. omega (arith, f.high)))
brace b u q (Value.vstr c) = let e : b ≡ 0x22 = cc in rw e
brace b u q (Value.varr₀ w) = let e : b ≡ 0x5b = cc in rw e
brace b u q (Value.varr i) = let e : b ≡ 0x5b = cc in rw e
brace b u q (Value.vobj₀ w) = let e : b ≡ 0x7b = cc in rw e
brace b u q (Value.vobj i) = let e : b ≡ 0x7b = cc in rw e

module _ (s : List ℕ) (i : ℕ) (ws : Skipped s 0 i) where
  read : is_packet s ≡ accepted (read_value depth (drop i s))
  unfolding is_packet
  read = ap (λ (u : List ℕ). accepted (read_value depth u)) ws.rest

  pub none_there : length s ≤ i → false ≡ is_packet s
  none_there h = sym (read ∙ ap (λ (u : List ℕ). accepted (read_value depth u)) (past s i h) ∙ nothing)
    where
      nothing : accepted (read_value depth []) ≡ false
      nothing = nil (read_value depth []) (Sound.value depth [])
        where
          nil : (p : Parsed Json) → Sound.ValueIf depth [] p → accepted p ≡ false
          nil none h = refl
          nil (ok j r) h = absurd (omega (arith, Complete.value_length h))

  pub no_object : i < length s → ¬ (get_or s i 0 ≡ 0x7b) → false ≡ is_packet s
  no_object h e = sym (read ∙ go (read_value depth (drop i s)) (Sound.value depth (drop i s)))
    where
      go : (p : Parsed Json) → Sound.ValueIf depth (drop i s) p → accepted p ≡ false
      go none v = refl
      go (ok j r) v = rw (brace (get_or s i 0) (drop (i + 1) s) (next s i h) v, ne_eqb _ _ e)

  pub no_value_lem : Ends s i (read_value depth (drop i s)) Read.Bad → false ≡ is_packet s
  no_value_lem x = sym (read ∙ ap accepted (failed x))

  module _ (h : i < length s) (b : get_or s i 0 ≡ 0x7b) (e : ℕ) (x : Ends s i (read_value depth (drop i s)) (Read.End e)) (k : ℕ) (w : Skipped s e k) where
    meaning : Json
    meaning = (ended x).what

    stands : Value depth (drop i s) (drop e s) meaning
    unfolding meaning
    stands = subst (Sound.ValueIf depth (drop i s)) (ended x).reads (Sound.value depth (drop i s))

    object : is_object meaning ≡ true
    object = brace (get_or s i 0) (drop (i + 1) s) (next s i h) stands ∙ eq-eqb _ _ b

    judged : is_packet s ≡ both (is_empty (drop k s)) (no_twice meaning)
    unfolding meaning
    judged =
        read ∙ ap accepted (ended x).reads ∙ ap (λ (q : Bool). both q (both (is_empty (skip_ws (drop e s))) (no_twice (ended x).what))) object
        ∙ ap (λ (u : List ℕ). both (is_empty u) (no_twice (ended x).what)) w.rest

    pub more_follows : k < length s → false ≡ is_packet s
    more_follows g = sym (judged ∙ ap (λ (u : List ℕ). both (is_empty u) (no_twice meaning)) (next s k g))

    pub by_marks : (key : ℕ) → length s ≤ k → ((j : Json) (u : List ℕ) → read_value depth (drop i s) ≡ ok j u → sure key j ≡ true) → true ≡ is_packet s
    unfolding meaning
    by_marks key g f = sym (judged ∙ ap (λ (u : List ℕ). both (is_empty u) (no_twice (ended x).what)) (past s k g) ∙ sure_once_lem key 820 (ended x).what (f (ended x).what (drop e s) (ended x).reads))

    pub by_names : length s ≤ k → (q : Bool) → q ≡ scan s → q ≡ is_packet s
    by_names g q n = n ∙ scanned ∙ sym (judged ∙ ap (λ (u : List ℕ). both (is_empty u) (no_twice meaning)) (past s k g))
      where
        all : skip_ws (drop e s) ≡ []
        all = w.rest ∙ past s k g

        front : Ws s (drop i s)
        front = subst (λ (u : List ℕ). Ws s u) ws.rest (Sound.ws s)

        back : Ws (drop e s) []
        back = subst (λ (u : List ℕ). Ws (drop e s) u) all (Sound.ws (drop e s))

        right : (a : Bool) → both a true ≡ a
        right true = refl
        right false = refl

        scanned : scan s ≡ no_twice meaning
        scanned =
            Twice.skip_ws_lem front ∙ Twice.value (omega arith) stands (rw all tt)
            ∙ ap (both (no_twice meaning)) (Twice.skip_ws_lem back ∙ scan_nil) ∙ right (no_twice meaning)

-- accepted texts are packets

made : (s u v : List ℕ) (j : Json) → Ws s u → Value depth u v j → Ws v [] → is_object j ≡ true → no_twice j ≡ true → Packet s j
made s u v null a x b o n = absurd (false≢true o)
made s u v (bool q) a x b o n = absurd (false≢true o)
made s u v (num d) a x b o n = absurd (false≢true o)
made s u v (str d) a x b o n = absurd (false≢true o)
made s u v (arr js) a x b o n = absurd (false≢true o)
made s u v (obj ms) a x b o n = Packet.packet a x b n

empty : (u : List ℕ) → is_empty u ≡ true → u ≡ []
empty [] h = refl
empty (b ∷ u) h = absurd (false≢true h)

-- a slice that is accepted is a packet, and means `meaning_of` it
pub sound : (s : List ℕ) → is_packet s ≡ true → Packet s (meaning_of s)
unfolding is_packet meaning_of
sound s h = go (read_value depth (skip_ws s)) (Sound.value depth (skip_ws s)) h
  where
    go : (p : Parsed Json) → Sound.ValueIf depth (skip_ws s) p → accepted p ≡ true → Packet s (json_of p)
    go none v h = absurd (false≢true h)
    go (ok j r) v h =
        let o = both_first (is_object j) (both (is_empty (skip_ws r)) (no_twice j)) h in
        let m = both_second (is_object j) (both (is_empty (skip_ws r)) (no_twice j)) h in
        let e = empty (skip_ws r) (both_first (is_empty (skip_ws r)) (no_twice j) m) in
        made s (skip_ws s) r j (Sound.ws s) v (subst (λ (u : List ℕ). Ws r u) e (Sound.ws r)) o (both_second (is_empty (skip_ws r)) (no_twice j) m)

-- a packet is accepted
pub complete : {s : List ℕ} {j : Json} → Packet s j → (is_packet s ≡ true) × (meaning_of s ≡ j)
unfolding is_packet meaning_of
complete (Packet.packet {s = s} {u = u} {v = v} {ms = ms} a x b n) =
    let r : read_value depth (skip_ws s) ≡ ok (obj ms) v = ap (read_value depth) (Complete.skip a (Complete.solid u (Complete.begins x))) ∙ Complete.value x in
    (rw (r, Complete.skip b tt, n), rw r)

-- a packet has one meaning
pub meaning_once : {s : List ℕ} {j k : Json} → Packet s j → Packet s k → j ≡ k
meaning_once p q = sym (complete p).1 ∙ (complete q).1

-- the place after white space means what the packet means
pub means : {s : List ℕ} {i : ℕ} → is_packet s ≡ true → Skipped s 0 i → Means s i (meaning_of s)
means {s} {i} h ws = go (sound s h)
  where
    go : {j : Json} → Packet s j → Means s i j
    go (Packet.packet {u = u} {v = v} {ms = ms} a x b n) =
        record { rest = v; stands = subst (λ (t : List ℕ). Value depth t v (obj ms)) (sym (Complete.skip a (Complete.solid u (Complete.begins x))) ∙ ws.rest) x }
