use Rattle.std.proofs.lemmas.List.{take-replicate}
use Rattle.mem_die.proofs.rows.blank_page.Goals as goal

pub returns : goal.returns
returns c = take-replicate c.args.size 1264 0 c.requires
