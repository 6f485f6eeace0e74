-- "Two results that one statement allows are shown equal": each relation that a public contract is made of, where it is no plain equation.
-- Statements only: their proof is `kept`.
-- Assumes nothing.
use Rattle.std.specs.Prelude.{ℕ, ◌≤◌, ◌≡◌, Bool, List, length}
use Rattle.answer.specs.declared.Refusal.{Refusal}
use Rattle.output.specs.Put.{Wrote}
use Rattle.number.specs.declared.Number.{Number}
use Rattle.number.specs.declared.Int.{Int}
use Rattle.number.specs.Reading.{Reads, ReadsInt}
use Rattle.identity.specs.declared.ReadIdentity.{ReadIdentity}
use Rattle.identity.specs.Read.{IdentityRead}
use Rattle.calendar.specs.declared.Time.{Time}
use Rattle.calendar.specs.Put.{WroteTime}
use Rattle.calendar.specs.Read.{TimeRead}
use Rattle.entry.specs.declared.Unpacked.{Unpacked}
use Rattle.entry.specs.Reading.{Reads as ReadsEntry}
use Rattle.entry.specs.Valid.{Decides}
use Rattle.json_text.specs.Decoded.{Parsed}
use Rattle.json_text.specs.declared.Read.{Read}
use Rattle.json_text.specs.Ends.{Ends}
use Rattle.json_value.specs.Grammar.{Json}
use Rattle.json_value.specs.declared.Mark.{Mark}
use Rattle.json_value.specs.Answers.{Skipped, Marks}
use Rattle.json_find.specs.declared.FourFound.{FourFound}
use Rattle.json_find.specs.Four.{FindsFour, Follows}
use Rattle.json_sure.specs.declared.Judged.{Judged}
use Rattle.json_sure.specs.Judges.{Judges}
use Rattle.table_whole.specs.declared.TableRead.{TableRead}
use Rattle.table_whole.specs.Reads.{Reads as ReadsTable}
use Rattle.pool.specs.declared.Pool.{Pool}
use Rattle.pool_laws.specs.declared.Batch.{Batch}
use Rattle.site.specs.declared.Site.{Site}
use Rattle.site.specs.declared.Step.{Step}
use Rattle.site.specs.Call.{Plan, Gives}
use Rattle.call_start.specs.Starts.{Starts}
use Rattle.packet_answer.specs.Ending.{Acks}
use Rattle.call_pump.specs.Pump.{Sends}
use Rattle.sitec.specs.declared.Outcome.{Outcome}
use Rattle.sitec.specs.Lent.{Words, WordsAndTable, Called, Told, Handed, Started, Read as ReadOut}
use Rattle.table_whole.specs.declared.SiteTable.{SiteTable}
use Rattle.store_site.specs.Turns.{Plain}
use Rattle.store_whole.specs.Image.{Wide}

pub record Once : Type 1 where
  -- ---- what is exported: the outcome, the words and the bytes of a lent output. A pool's words are told to the last bit; so are a site's, where what has happened on a
  -- link is 0 or 1 (start leaves such, and every call keeps them so); a word has 64
  pub called : {Fits : Type 0} {t : SiteTable} {x : Step} {ps qs os ws vs us : List ℕ} {r q : Outcome} → Fits → Words ps ws → Plain ws → Wide qs → Wide os → Wide vs → Wide us
      → Called Fits t x ps qs ws vs r → Called Fits t x ps os ws us q → (r ≡ q) × (qs ≡ os) × (vs ≡ us)
  pub told : {Fits : Type 0} {t : SiteTable} {time : ℕ} {refuses : Refusal → Bool} {p : Plan} {ps qs os ws vs us xs ys zs : List ℕ} {r q : Outcome} → Fits → Words ps ws → Plain ws → Wide qs → Wide os → Wide vs → Wide us
      → Told Fits t time refuses p ps qs ws vs xs ys r → Told Fits t time refuses p ps os ws us xs zs q → (r ≡ q) × (qs ≡ os) × (vs ≡ us) × (ys ≡ zs)
  -- a packet call, with the words lent for its commands
  pub handed : {Fits : Type 0} {t : SiteTable} {time : ℕ} {refuses : Refusal → Bool} {p : Plan} {ps qs os ws vs us xs ys zs cs ds es : List ℕ} {r q : Outcome} → Fits → Words ps ws → Plain ws → Wide qs → Wide os → Wide vs → Wide us
      → Told Fits t time refuses p ps qs ws vs xs ys r × Handed Fits p.commands cs ds r → Told Fits t time refuses p ps os ws us xs zs q × Handed Fits p.commands cs es q
      → (r ≡ q) × (qs ≡ os) × (vs ≡ us) × (ys ≡ zs) × (ds ≡ es)
  pub started : {b : List ℕ} {site links primary period first time : ℕ} {ps qs os ws vs us xs ys zs : List ℕ} {r q : Outcome} → WordsAndTable ps ws xs → Wide qs → Wide os
      → Started b site links primary period first time ps qs ws vs xs ys r → Started b site links primary period first time ps os ws us xs zs q → (r ≡ q) × (qs ≡ os) × (vs ≡ us) × (ys ≡ zs)
  pub read : {A : Type 0} {f : Site → A} {none : A} {ps ws : List ℕ} {r q : A} → Words ps ws → ReadOut f none ps ws r → ReadOut f none ps ws q → r ≡ q
  -- ---- the calls
  pub starts : {b : List ℕ} {p : Pool} {site links primary period first time : ℕ} {r q : Step}
      → Starts b p site links primary period first time r → Starts b p site links primary period first time q → r ≡ q
  pub gives : {s : Site} {time : ℕ} {refuses : Refusal → Bool} {p : Plan} {xs ys zs : List ℕ} {r q : Step}
      → Gives s time refuses p xs ys r → Gives s time refuses p xs zs q → (r ≡ q) × (ys ≡ zs)
  pub acks : {s after : Site} {b : Batch} {time hint hinted : ℕ} {received xs ys zs : List ℕ} {r q : Step}
      → Acks s after b time hint hinted received xs ys r → Acks s after b time hint hinted received xs zs q → (r ≡ q) × (ys ≡ zs)
  pub sends : {time : ℕ} {p : Plan} {xs ys zs : List ℕ} {r q : Step} → Sends time p xs ys r → Sends time p xs zs q → (r ≡ q) × (ys ≡ zs)
  -- ---- what is written: the bytes and where they end
  pub wrote : {xs : List ℕ} {at : ℕ} {pieces : List (List ℕ)} {ys zs : List ℕ} {r q : ℕ}
      → Wrote xs at pieces ys r → Wrote xs at pieces zs q → (ys ≡ zs) × (r ≡ q)
  pub wrote_time : {xs : List ℕ} {at ms : ℕ} {ys zs : List ℕ} {r q : ℕ} → WroteTime xs at ms ys r → WroteTime xs at ms zs q → (ys ≡ zs) × (r ≡ q)
  -- ---- what is read
  pub decimal : {limit : ℕ} {s : List ℕ} {r q : Number} → Reads limit s r → Reads limit s q → r ≡ q
  pub integer : {s : List ℕ} {r q : Int} → ReadsInt s r → ReadsInt s q → r ≡ q
  pub identity : {s : List ℕ} {r q : ReadIdentity} → IdentityRead s r → IdentityRead s q → r ≡ q
  pub time : {s : List ℕ} {r q : Time} → TimeRead s r → TimeRead s q → r ≡ q
  pub entry : {b : List ℕ} {r q : Unpacked} → ReadsEntry b r → ReadsEntry b q → r ≡ q
  pub decides : {P : Type 0} {r q : Bool} → Decides r P → Decides q P → r ≡ q
  pub table : {b : List ℕ} {r q : TableRead} → ReadsTable b r → ReadsTable b q → r ≡ q
  -- ---- where a reading of the text s from `at` ends
  pub ends : {A : Type 0} {s : List ℕ} {at : ℕ} {p : Parsed A} {r q : Read} → Ends s at p r → Ends s at p q → r ≡ q
  pub marks : {s : List ℕ} {at : ℕ} {p : Parsed Bool} {r q : Mark} → Marks s at p r → Marks s at p q → r ≡ q
  pub judges : {key : ℕ} {s : List ℕ} {at : ℕ} {p : Parsed Json} {r q : Judged} → Judges key s at p r → Judges key s at p q → r ≡ q
  -- of four names and the end of an object; of what follows a value's end
  pub finds_four : {s : List ℕ} {at : ℕ} {a b c d : List ℕ} {r q : FourFound} → FindsFour s at a b c d r → FindsFour s at a b c d q → r ≡ q
  pub follows : {s : List ℕ} {close : ℕ} {end r q : Read} → Follows s close end r → Follows s close end q → r ≡ q
  -- of a place in the text; past its end there is nothing to pass over
  pub skipped : {s : List ℕ} {at r q : ℕ} → at ≤ length s → Skipped s at r → Skipped s at q → r ≡ q
