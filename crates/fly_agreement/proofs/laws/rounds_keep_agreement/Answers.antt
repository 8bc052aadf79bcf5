use Rattle.fly_agreement.proofs.FirstAgrees.{first-agrees}
use Rattle.fly_agreement.proofs.LaterAgrees.{later-agrees}
use Rattle.fly_agreement.proofs.RoundAgrees.{round-agrees}
use Rattle.fly_agreement.proofs.laws.rounds_keep_agreement.Goals as goal

pub returns : goal.returns
returns c = (
  first-agrees,
  λ plan inputs results later hits later_hits s uncached more grows h.
      later-agrees plan inputs results later hits later_hits s more grows uncached h,
  λ plan w inputs results hits v moves outer uncached of_plan retries cited known agrees.
      round-agrees plan w outer inputs results hits v of_plan retries uncached known agrees moves cited,
)
