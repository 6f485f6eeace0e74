-- `packet_greet::version_judged` meets its contract.
-- Assumes nothing.
use Rattle.packet_greet.proofs.version_judged.Goals as goal

pub returns-in-Chosen : goal.returns-in-Chosen
returns-in-Chosen c = λ t. rw c.in-Chosen.is (c.version_chosen.ensures c.args.p.now t)

pub returns-in-RsmpVersion : goal.returns-in-RsmpVersion
returns-in-RsmpVersion c = λ t. rw c.in-RsmpVersion.is (c.close.ensures t)

pub returns-in-SiteId : goal.returns-in-SiteId
returns-in-SiteId c = λ t. rw c.in-SiteId.is (c.close-in-SiteId.ensures t)

pub returns-in-SxlVersion : goal.returns-in-SxlVersion
returns-in-SxlVersion c = λ t. rw c.in-SxlVersion.is (c.close-in-SxlVersion.ensures t)
