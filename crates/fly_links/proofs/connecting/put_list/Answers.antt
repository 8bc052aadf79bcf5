use Rattle.std.proofs.Common.{◌∙◌}
use Rattle.std.specs.Ordering.{nat_cmp}
use Rattle.std.specs.Cmp.Lexicographic.{slice_cmp}
use Rattle.fly_links.proofs.ConnectLemmas.{put_is}
use Rattle.fly_links.proofs.connecting.put_list.Goals as goal

pub returns : goal.returns
returns c = c.in_ok-insert.ensures.entries ∙ put_is (slice_cmp nat_cmp) c.args.lists.now.entries c.args.id c.args.ids
