-- The hint of a Watchdog, and that one with good fields beats.
-- Assumes nothing.
use Rattle.basis.proofs.Std.{ℕ, ◌≤◌, ◌<◌, ◌≡◌, refl, sym, subst, List, le-leb, lt-leb}
use Rattle.answer.specs.declared.Answer.{Answer}
use Rattle.answer.specs.Given.Hint.{none, clock}
use Rattle.link.specs.declared.Role.{Role}
use Rattle.link.specs.declared.Role.TheVariants.{Primary}
use Rattle.read_head.specs.declared.Verdict.{Verdict}
use Rattle.read_head.specs.declared.Verdict.TheVariants.{Good}
use Rattle.read_head.specs.declared.GotTime.{GotTime}
use Rattle.table_whole.specs.declared.SiteTable.{SiteTable}
use Rattle.site.specs.Call.{never}
use Rattle.store_site.specs.Layout.{site_of}
use Rattle.store_call.specs.Called.{GivesIn}
use Rattle.packet_answer.specs.declared.Question.{Question}
use Rattle.packet_answer.specs.Taken.{by_verdict}
use Rattle.packet_greet.specs.Watchdog.{hint_from, beat, watchdog_taken}

pub hints : (role : Role) (f : GotTime) → role ≡ Primary → 3 ≤ f.decimals → hint_from role f ≡ clock f.time
hints role f e h = rw (e, le-leb 3 f.decimals h) refl

pub withholds : (role : Role) (f : GotTime) → role ≡ Primary → f.decimals < 3 → hint_from role f ≡ none
withholds role f e h = rw (e, lt-leb 3 f.decimals h) refl

pub beats : (t : SiteTable) (q : Question) (f : GotTime) {ps qs ws vs xs ys : List ℕ} {r : Answer}
    → f.verdict ≡ Good
    → GivesIn t q.time never (beat (site_of ps ws t) q f).plan ps qs ws vs xs ys r
    → GivesIn t q.time never (watchdog_taken (site_of ps ws t) q f).plan ps qs ws vs xs ys r
beats t q f {ps} {qs} {ws} {vs} {xs} {ys} {r} e h =
    subst (λ (v : Verdict). GivesIn t q.time never (by_verdict v (site_of ps ws t) q (beat (site_of ps ws t) q f)).plan ps qs ws vs xs ys r) (sym e) h
