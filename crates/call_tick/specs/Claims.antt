-- The site with other records, links and subscriptions.
-- Assumes nothing.
use Rattle.std.specs.Prelude.{List}
use Rattle.link.specs.declared.Link.{Link}
use Rattle.pool.specs.declared.Pool.{Pool}
use Rattle.subscription.specs.declared.Subscription.{Subscription}
use Rattle.site.specs.declared.Site.{Site}
use Rattle.site.specs.Site.{with_pool, with_links, with_subscriptions}

-- the site with these in place of its records, its links and its subscriptions
abbrev pub except_for : Pool → List Link → List Subscription → Site → Site
except_for p ls xs s = with_subscriptions (with_links (with_pool s p) ls) xs
