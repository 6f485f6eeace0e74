-- Connect and disconnect, one condition after the other.
-- Assumes nothing.
use Rattle.basis.proofs.Std.{ℕ, ◌≡◌, refl, true, false}
use Rattle.pool_laws.specs.Batch.{beginning}
use Rattle.answer.specs.declared.Refusal.TheVariants.{NoSuchLink, BadTime, WrongPhase}
use Rattle.link.specs.Steps.{connect_of}
use Rattle.site.specs.declared.Site.{Site}
use Rattle.site.specs.Site.{no_link_at, bad_time_at, link_at, with_link, down_at, close_at, mask_of}
use Rattle.site.specs.Call.{refused, concluded, nothing_of}
use Rattle.call_link.specs.Connect.{connect_step, disconnect_step}

module _ (s : Site) (l time : ℕ) where
  pub connect_no_link : no_link_at s l ≡ true → refused s NoSuchLink ≡ connect_step s l time
  connect_no_link e = rw e refl

  pub disconnect_no_link : no_link_at s l ≡ true → refused s NoSuchLink ≡ disconnect_step s l time
  disconnect_no_link e = rw e refl

  pub connect_bad_time : no_link_at s l ≡ false → bad_time_at s time ≡ true → refused s BadTime ≡ connect_step s l time
  connect_bad_time e f = rw (e, f) refl

  pub disconnect_bad_time : no_link_at s l ≡ false → bad_time_at s time ≡ true → refused s BadTime ≡ disconnect_step s l time
  disconnect_bad_time e f = rw (e, f) refl

  pub connect_up : no_link_at s l ≡ false → bad_time_at s time ≡ false → down_at s l ≡ false → refused s WrongPhase ≡ connect_step s l time
  connect_up e f g = rw (e, f, g) refl

  pub disconnect_down : no_link_at s l ≡ false → bad_time_at s time ≡ false → down_at s l ≡ true → refused s WrongPhase ≡ disconnect_step s l time
  disconnect_down e f g = rw (e, f, g) refl

  pub connects : no_link_at s l ≡ false → bad_time_at s time ≡ false → down_at s l ≡ true
      → concluded s (with_link s l (connect_of (link_at s l))) (beginning s.pool s.next) time nothing_of ≡ connect_step s l time
  connects e f g = rw (e, f, g) refl

  pub disconnects : no_link_at s l ≡ false → bad_time_at s time ≡ false → down_at s l ≡ false
      → concluded s (close_at s l) (beginning (close_at s l).pool s.next) time (record { hint = 0; written = 0; closed = mask_of l; hinted = 0; commands = 0 })
      ≡ disconnect_step s l time
  disconnects e f g = rw (e, f, g) refl
