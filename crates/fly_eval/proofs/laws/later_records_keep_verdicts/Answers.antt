use Rattle.fly_eval.proofs.SeenKept.{evaluation-kept}
use Rattle.fly_eval.proofs.laws.later_records_keep_verdicts.Goals as goal

pub returns : goal.returns
returns c plan inputs results later_results hits later_hits more grows = evaluation-kept plan inputs results later_results hits later_hits more grows
