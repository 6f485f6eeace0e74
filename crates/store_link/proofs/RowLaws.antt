-- Each part read back from the words that it was stored in.
-- Assumes nothing.
use Rattle.basis.proofs.Std.{◌≡◌, sym, ap, ◌∙◌, ◌⊎◌, inl, inr, eq_or_ne, ℕ, zero, suc, ◌+◌, ◌*◌, ◌%◌, ◌^◌, ◌<◌, ◌≤◌, arith, List, [], ◌∷◌, lit≤, length, get_or, set, take, drop, Bool, bit}
use Rattle.bits.specs.Fields.{number_of}
use Rattle.awaited.specs.declared.Slot.{Slot}
use Rattle.awaited.specs.declared.Awaited.{Awaited}
use Rattle.awaited.specs.Slot.{free_slot}
use Rattle.link.specs.declared.Link.{Link}
use Rattle.store_words.specs.Words.{word, flag, stores, Stored, Put}
use Rattle.store_words.specs.Narrow.{upper, lower, pair}
use Rattle.store_link.specs.Rows.{slot_from, slot_in, awaited_in, link_in, PutHead, PutMarks, PlainAt, PutLink}
use Rattle.store_words.proofs.Stores.{stored, first, next, wider, then, Same, below}
use Rattle.store_words.proofs.Elements.{list_is, list_same}
use Rattle.store_words.proofs.Joined.{upper_pair, lower_pair, halves, flag_bit, bit_small}

pub slot_put : (ws : List ℕ) (i : ℕ) (x : Slot) {n a b : ℕ} → i + 4 ≤ length ws
    → x.sequence < 4294967296 → x.purpose < 4294967296 → length x.id.bytes ≡ 16 → ((j : ℕ) → get_or x.id.bytes j 0 < 256)
    → n ≡ pair x.sequence x.purpose → a ≡ number_of (take 8 x.id.bytes) % 2 ^ 64 → b ≡ number_of (take 8 (drop 8 x.id.bytes)) % 2 ^ 64
    → Put slot_in 4 ws (stores (set ws i x.time) i 1 (n ∷ a ∷ b ∷ [])) i x
unfolding slot_from
slot_put ws i x {n} {a} {b} h p q l y e f g =
    let vs = n ∷ a ∷ b ∷ [] in
    record {
      there =
          rw (
            first ws i x.time vs h,
            next ws i x.time vs h 1 (lit≤ tt) (lit≤ tt),
            next ws i x.time vs h 2 (lit≤ tt) (lit≤ tt),
            next ws i x.time vs h 3 (lit≤ tt) (lit≤ tt),
            e,
            f,
            g,
            upper_pair x.sequence x.purpose p q,
            lower_pair x.sequence x.purpose p q,
            halves x.id l y,
          );
      kept = stored ws i x.time vs h;
    }

pub slot_same : (ws vs : List ℕ) (i : ℕ) → Same ws vs i 4 → slot_in vs i ≡ slot_in ws i
slot_same ws vs i h = rw (h i (omega arith) (omega arith), h (i + 1) (omega arith) (omega arith), h (i + 2) (omega arith) (omega arith), h (i + 3) (omega arith) (omega arith))

pub awaited_same : (ws vs : List ℕ) (i : ℕ) → Same ws vs i 64 → awaited_in vs i ≡ awaited_in ws i
unfolding awaited_in
awaited_same ws vs i h =
    ap (λ (l : List Slot). record { slots = l })
    (list_same (λ (k : ℕ). slot_in ws (i + 4 * k)) (λ (k : ℕ). slot_in vs (i + 4 * k)) 16
    (λ k g. slot_same ws vs (i + 4 * k) (λ j e f. h j (omega arith) (omega arith))))

-- what a read past the end of an array of places gives
abbrev pub no_slot : Slot
no_slot = record { time = 0; sequence = 0; purpose = 0; id = record { bytes = [] } }

-- sixteen stored, k of them so far
pub record Sofar (ws vs : List ℕ) (i : ℕ) (l : List Slot) (k : ℕ) : Type 0 where
  pub there : (j : ℕ) → j < k → slot_in vs (i + 4 * j) ≡ get_or l j no_slot
  pub kept : Stored ws vs i 64

pub slots_next : (ws vs us : List ℕ) (i : ℕ) (l : List Slot) (k : ℕ) → k < 16 → Sofar ws vs i l k → Put slot_in 4 vs us (i + 4 * k) (get_or l k no_slot) → Sofar ws us i l (k + 1)
slots_next ws vs us i l k h s p =
    record {
      there = λ j g. by j g (eq_or_ne j k);
      kept = then s.kept (wider i 64 p.kept (omega arith) (omega arith));
    }
  where
    by : (j : ℕ) → j < k + 1 → (j ≡ k) ⊎ (j ≡ k → ⊥) → slot_in us (i + 4 * j) ≡ get_or l j no_slot
    by j g (inl z) = rw z p.there
    by j g (inr z) = slot_same vs us (i + 4 * j) (below (i + 4 * j) 4 p.kept (omega (arith, z))) ∙ s.there j (omega (arith, z))

pub awaited_put : (ws vs : List ℕ) (i : ℕ) (l : List Slot) (k : ℕ) → 16 ≤ k → length l ≡ 16 → Sofar ws vs i l k → Put awaited_in 64 ws vs i (record { slots = l })
unfolding awaited_in
awaited_put ws vs i l k h e s =
    record {
      there =
          ap (λ (m : List Slot). record { slots = m })
          (sym (list_is (λ (j : ℕ). slot_in vs (i + 4 * j)) 16 l no_slot e (λ j g. sym (s.there j (omega arith)))));
      kept = s.kept;
    }

pub awaited_get : (ws : List ℕ) (i : ℕ) (l : List Slot) (k : ℕ) → 16 ≤ k → length l ≡ 16 → ((j : ℕ) → j < k → get_or l j free_slot ≡ slot_in ws (i + 4 * j))
    → record { slots = l } ≡ awaited_in ws i
unfolding awaited_in
awaited_get ws i l k h e f =
    ap (λ (m : List Slot). record { slots = m }) (list_is (λ (j : ℕ). slot_in ws (i + 4 * j)) 16 l free_slot e (λ j g. f j (omega arith)))

pub head_put : (ws : List ℕ) (i a b c d e : ℕ) {p q : ℕ} → i + 3 ≤ length ws → b < 4294967296 → c < 4294967296 → d < 4294967296 → e < 4294967296
    → p ≡ pair b c → q ≡ pair d e → PutHead ws (stores (set ws i a) i 1 (p ∷ q ∷ [])) i a b c d e
head_put ws i a b c d e {p} {q} h lb lc ld le f g =
    let vs = p ∷ q ∷ [] in
    let one = next ws i a vs h 1 (lit≤ tt) (lit≤ tt) ∙ f in
    let two = next ws i a vs h 2 (lit≤ tt) (lit≤ tt) ∙ g in
    record {
      beat = first ws i a vs h;
      alarm = rw one (upper_pair b c lb lc);
      major = rw one (lower_pair b c lb lc);
      minor = rw two (upper_pair d e ld le);
      patch = rw two (lower_pair d e ld le);
      kept = stored ws i a vs h;
    }

pub marks_put : (ws : List ℕ) (i : ℕ) (a b c d : Bool) {p q r s : ℕ} → i + 4 ≤ length ws → p ≡ bit a → q ≡ bit b → r ≡ bit c → s ≡ bit d
    → PutMarks ws (stores (set ws i p) i 1 (q ∷ r ∷ s ∷ [])) i a b c d
marks_put ws i a b c d {p} {q} {r} {s} h e f g k =
    let vs = q ∷ r ∷ s ∷ [] in
    record {
      first = first ws i p vs h ∙ e;
      second = next ws i p vs h 1 (lit≤ tt) (lit≤ tt) ∙ f;
      third = next ws i p vs h 2 (lit≤ tt) (lit≤ tt) ∙ g;
      fourth = next ws i p vs h 3 (lit≤ tt) (lit≤ tt) ∙ k;
      kept = stored ws i p vs h;
    }

pub link_same : (ws vs : List ℕ) (i : ℕ) → Same ws vs i 75 → link_in vs i ≡ link_in ws i
unfolding link_in
link_same ws vs i h =
    rw (
      awaited_same ws vs (i + 11) (λ j e f. h j (omega arith) (omega arith)),
      h i (omega arith) (omega arith),
      h (i + 1) (omega arith) (omega arith),
      h (i + 2) (omega arith) (omega arith),
      h (i + 3) (omega arith) (omega arith),
      h (i + 4) (omega arith) (omega arith),
      h (i + 5) (omega arith) (omega arith),
      h (i + 6) (omega arith) (omega arith),
      h (i + 7) (omega arith) (omega arith),
      h (i + 8) (omega arith) (omega arith),
      h (i + 9) (omega arith) (omega arith),
      h (i + 10) (omega arith) (omega arith),
    )

pub link_get : (ws : List ℕ) (i : ℕ) {w : Awaited} {a b c d : ℕ} → w ≡ awaited_in ws (i + 11)
    → a ≡ upper (word ws (i + 1)) → b ≡ lower (word ws (i + 1)) → c ≡ upper (word ws (i + 2)) → d ≡ lower (word ws (i + 2))
    → ◌≡◌ {A = Link} (record {
      awaited = w;
      beat = word ws i;
      alarm = a;
      major = b;
      minor = c;
      patch = d;
      connected = flag (word ws (i + 3));
      versionout = flag (word ws (i + 4));
      versionacked = flag (word ws (i + 5));
      versiontaken = flag (word ws (i + 6));
      watchdogout = flag (word ws (i + 7));
      watchdogacked = flag (word ws (i + 8));
      watchdogtaken = flag (word ws (i + 9));
      aggregatedout = flag (word ws (i + 10));
    }) (link_in ws i)
unfolding link_in
link_get ws i e f g h k = rw (e, f, g, h, k)

-- a link's four parts, one store behind the other
module _ (ws vs us ts rs : List ℕ) (i : ℕ) (x : Link)
    (h : PutHead ws vs i x.beat x.alarm x.major x.minor x.patch)
    (m : PutMarks vs us (i + 3) x.connected x.versionout x.versionacked x.versiontaken)
    (n : PutMarks us ts (i + 7) x.watchdogout x.watchdogacked x.watchdogtaken x.aggregatedout)
    (a : Put awaited_in 64 ts rs (i + 11) x.awaited) where
  third : (j : ℕ) → j < i + 11 → word rs j ≡ word ts j
  third j g = a.kept.before j g

  second : (j : ℕ) → j < i + 7 → word rs j ≡ word us j
  second j g = third j (omega arith) ∙ n.kept.before j g

  head : (j : ℕ) → j < i + 3 → word rs j ≡ word vs j
  head j g = second j (omega arith) ∙ m.kept.before j g

  -- the eight words of what has happened
  w3 : word rs (i + 3) ≡ bit x.connected
  w3 = second (i + 3) (omega arith) ∙ m.first

  w4 : word rs (i + 4) ≡ bit x.versionout
  w4 = let p : i + 3 + 1 ≡ i + 4 = omega arith in second (i + 4) (omega arith) ∙ rw p at m.second

  w5 : word rs (i + 5) ≡ bit x.versionacked
  w5 = let p : i + 3 + 2 ≡ i + 5 = omega arith in second (i + 5) (omega arith) ∙ rw p at m.third

  w6 : word rs (i + 6) ≡ bit x.versiontaken
  w6 = let p : i + 3 + 3 ≡ i + 6 = omega arith in second (i + 6) (omega arith) ∙ rw p at m.fourth

  w7 : word rs (i + 7) ≡ bit x.watchdogout
  w7 = third (i + 7) (omega arith) ∙ n.first

  w8 : word rs (i + 8) ≡ bit x.watchdogacked
  w8 = let p : i + 7 + 1 ≡ i + 8 = omega arith in third (i + 8) (omega arith) ∙ rw p at n.second

  w9 : word rs (i + 9) ≡ bit x.watchdogtaken
  w9 = let p : i + 7 + 2 ≡ i + 9 = omega arith in third (i + 9) (omega arith) ∙ rw p at n.third

  w10 : word rs (i + 10) ≡ bit x.aggregatedout
  w10 = let p : i + 7 + 3 ≡ i + 10 = omega arith in third (i + 10) (omega arith) ∙ rw p at n.fourth

  whole : link_in rs i ≡ x
  unfolding link_in
  whole =
      rw (
        a.there,
        head i (omega arith),
        head (i + 1) (omega arith),
        head (i + 2) (omega arith),
        h.beat,
        h.alarm,
        h.major,
        h.minor,
        h.patch,
        ap flag w3 ∙ flag_bit x.connected,
        ap flag w4 ∙ flag_bit x.versionout,
        ap flag w5 ∙ flag_bit x.versionacked,
        ap flag w6 ∙ flag_bit x.versiontaken,
        ap flag w7 ∙ flag_bit x.watchdogout,
        ap flag w8 ∙ flag_bit x.watchdogacked,
        ap flag w9 ∙ flag_bit x.watchdogtaken,
        ap flag w10 ∙ flag_bit x.aggregatedout,
      )

  plain : PlainAt rs i
  plain zero g = rw w3 (bit_small x.connected)
  plain (suc zero) g = rw w4 (bit_small x.versionout)
  plain (suc (suc zero)) g = rw w5 (bit_small x.versionacked)
  plain (suc (suc (suc zero))) g = rw w6 (bit_small x.versiontaken)
  plain (suc (suc (suc (suc zero)))) g = rw w7 (bit_small x.watchdogout)
  plain (suc (suc (suc (suc (suc zero))))) g = rw w8 (bit_small x.watchdogacked)
  plain (suc (suc (suc (suc (suc (suc zero)))))) g = rw w9 (bit_small x.watchdogtaken)
  plain (suc (suc (suc (suc (suc (suc (suc zero))))))) g = rw w10 (bit_small x.aggregatedout)
  plain (suc (suc (suc (suc (suc (suc (suc (suc k)))))))) g = absurd (omega arith)

  pub link_put : PutLink ws rs i x
  link_put =
      record {
        put = record {
          there = whole;
          kept =
              then (then (then (wider i 75 h.kept (omega arith) (omega arith)) (wider i 75 m.kept (omega arith) (omega arith)))
              (wider i 75 n.kept (omega arith) (omega arith))) (wider i 75 a.kept (omega arith) (omega arith));
        };
        plain = plain;
      }
