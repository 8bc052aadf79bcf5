use Rattle.fly_generator.proofs.Answering.{ends-with}
use Rattle.fly_generator.proofs.adder.end_of.Goals as goal

pub returns-in_ok-outputs-in-Some-clause-is : goal.returns-in_ok-outputs-in-Some-clause-is
returns-in_ok-outputs-in-Some-clause-is c =
    ends-with c.args.inputs.now c.in-Some.x c.in-Some.y c.in_ok-outputs-in-Some.field-0 c.in-Some.ensures.there
    c.in-Some.ensures.only c.in_ok-outputs-in-Some.ensures.is

pub returns-in-None-clause-is : goal.returns-in-None-clause-is
returns-in-None-clause-is c = record {
  sum = λ x y is. let found = c.in-None.ensures.there x y is in cc;
  other = λ none. c.end_without.ensures;
}
