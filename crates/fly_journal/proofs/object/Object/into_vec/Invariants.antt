use Rattle.std.proofs.Common.{◌≡◌, ◌++◌}
use Rattle.fly_journal.specs.Texts.{rest_text, object_text, texts_of}
use Rattle.fly_journal.proofs.object.Object.into_vec.Given as goal

-- the text so far and that of the fields that are left are that of the object
abbrev pub invariant-loop-name : goal.invariant-loop-name
invariant-loop-name l = l.text.items ++ rest_text l.later l.name-iterator ≡ object_text (texts_of l.fn.self)
