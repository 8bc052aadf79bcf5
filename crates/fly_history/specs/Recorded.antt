-- What a journal records of an execution, as evaluation takes it.
use Rattle.std.specs.Prelude.{List}
use Rattle.fly_types.specs.declared.text.Text.{Text}
use Rattle.fly_state.specs.declared.entries.Entry.{Entry}
use Rattle.fly_world.specs.ReadOff.{results_in, hits_in}
use Rattle.fly_eval.specs.declared.results.Results.{Results}
use Rattle.fly_eval.specs.declared.results.Hits.{Hits}

-- what its attempts came to
abbrev pub recorded_results : List Entry → Text → Results
recorded_results journal exec = record { list = results_in journal exec }

-- what the catalog answered for its nodes, as far as an accepted move cites it
abbrev pub recorded_hits : List Entry → Text → Hits
recorded_hits journal exec = record { list = hits_in journal exec }
