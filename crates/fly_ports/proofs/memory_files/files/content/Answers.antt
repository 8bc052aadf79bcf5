use Rattle.std.proofs.Common.{sym, ap, ◌∙◌}
use Rattle.fly_ports.specs.declared.memory_files.MemFile.{MemFile}
use Rattle.fly_ports.proofs.MemFilesLemmas.{place-at, place-none, content_of-at, content_of-none}
use Rattle.fly_ports.proofs.memory_files.files.content.Goals as goal

pub returns-in-None : goal.returns-in-None
returns-in-None c = sym (content_of-none c.args.files.now c.args.path.now (place-none c.args.files.now c.args.path.now c.in-None.ensures.place))

pub returns-in-Some : goal.returns-in-Some
returns-in-Some c =
    let place_is = place-at c.args.files.now c.args.path.now c.in-Some.at c.in-Some.ensures.place in
    c.content.ensures
    ∙ ap (λ (file : MemFile). file.content) c.index-files-at.is
    ∙ sym (content_of-at c.args.files.now c.args.path.now c.in-Some.at c.index-files-at.result place_is.0 place_is.1)
