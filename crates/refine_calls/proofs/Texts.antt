-- The site table as it is kept says what the table says.
-- Assumes nothing.
use Rattle.basis.proofs.Std.{ℕ, zero, suc, ◌-◌, ◌≡◌, refl, ap, ◌∙◌, List, [], ◌∷◌, ◌++◌, map, length, get_or, replicate}
use Rattle.label.specs.Label.{label_of, no_label, text_of}
use Rattle.table_item.specs.Item.{no_item}
use Rattle.table_whole.specs.declared.SiteTable.{SiteTable}
use Rattle.table_whole.specs.Table.{no_row}
use Rattle.table_whole.specs.Memory.{item_of}
use Rattle.table_whole.proofs.Kept.{text_label}
use Rattle.site.specs.declared.Site.{Site}
use Rattle.machine.specs.State.{Setup}
use Rattle.refine_parts.specs.Setup.{SameSetup}
use Rattle.refine_calls.specs.Messages.{SameTexts}

none_there : {A : Type 0} (z : A) (n i : ℕ) → get_or (replicate n z) i z ≡ z
none_there z zero i = refl
none_there z (suc n) zero = refl
none_there z (suc n) (suc i) = none_there z n i

-- each element is kept, and behind them is what stands for none
kept_all : {A X : Type 0} (f : A → X) (d : A) (n : ℕ) (xs : List A) (i : ℕ) → get_or (map f xs ++ replicate n (f d)) i (f d) ≡ f (get_or xs i d)
kept_all f d n [] i = none_there (f d) n i
kept_all f d n (x ∷ xs) zero = refl
kept_all f d n (x ∷ xs) (suc i) = kept_all f d n xs i

pub same_texts : (s : Site) (u : Setup) → SameSetup s u → SameTexts s u
same_texts s u h =
    record {
      site = ap (λ (x : SiteTable). text_of x.site) h.table ∙ text_label u.table.site;
      sxl = ap (λ (x : SiteTable). text_of x.sxl) h.table ∙ text_label u.table.sxl;
      component = λ c.
          ap (λ (x : SiteTable). text_of (get_or x.components c no_label)) h.table
          ∙ ap text_of (kept_all label_of [] (8 - length (map label_of u.table.components)) u.table.components c)
          ∙ text_label (get_or u.table.components c []);
      alarm = λ i.
          ap (λ (x : SiteTable). get_or x.alarms i no_item) h.table
          ∙ kept_all item_of no_row (32 - length (map item_of u.table.alarms)) u.table.alarms i;
      status = λ i.
          ap (λ (x : SiteTable). get_or x.statuses i no_item) h.table
          ∙ kept_all item_of no_row (32 - length (map item_of u.table.statuses)) u.table.statuses i;
    }
