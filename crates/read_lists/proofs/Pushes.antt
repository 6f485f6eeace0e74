-- An entry pushed behind those that were read, as the loop over a list does it: in its place, or refused where there is none.
-- Assumes nothing.
use Rattle.basis.proofs.Std.{ℕ, ◌+◌, ◌<◌, ◌≤◌, ◌≡◌, List, set, lt-ltb, le-ltb}
use Rattle.read_head.specs.declared.Verdict.{Verdict}
use Rattle.read_head.specs.declared.Verdict.TheVariants.{Bad}
use Rattle.read_head.specs.Values.{worst}
use Rattle.read_lists.specs.declared.StatusEntry.{StatusEntry}
use Rattle.read_lists.specs.declared.StatusList.{StatusList}
use Rattle.read_lists.specs.declared.GotEntry.{GotEntry}
use Rattle.read_lists.specs.Status.{push_entry}

module _ (v : Verdict) (n : ℕ) (es : List StatusEntry) (g : GotEntry) where
  pub entry_taken : n < 16 → {w : Verdict} {m : ℕ} {fs : List StatusEntry} → w ≡ worst v g.verdict → m ≡ n + 1 → fs ≡ set es n g.entry → ◌≡◌ {A = StatusList} (record { verdict = w; count = m; entries = fs }) (push_entry (record { verdict = v; count = n; entries = es }) g)
  unfolding push_entry
  entry_taken h a b c = rw (lt-ltb n 16 h) (λ i. record { verdict = a i; count = b i; entries = c i })

  pub entry_left : 16 ≤ n → {w : Verdict} {m : ℕ} {fs : List StatusEntry} → w ≡ worst (worst v g.verdict) Bad → m ≡ n → fs ≡ es → ◌≡◌ {A = StatusList} (record { verdict = w; count = m; entries = fs }) (push_entry (record { verdict = v; count = n; entries = es }) g)
  unfolding push_entry
  entry_left h a b c = rw (le-ltb n 16 h) (λ i. record { verdict = a i; count = b i; entries = c i })
