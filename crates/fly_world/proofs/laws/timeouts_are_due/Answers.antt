use Rattle.fly_world.proofs.TimeoutLemmas.{expire-due, finish-due}
use Rattle.fly_world.proofs.laws.timeouts_are_due.Goals as goal

pub returns : goal.returns
returns c = record {
  expire = λ plan w new worker name s. expire-due plan w name new worker s;
  finish = λ plan w new worker name o s. finish-due plan w name new worker o s;
}
