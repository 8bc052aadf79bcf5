use Rattle.std.proofs.Common.{sym, ◌∙◌, ap, set}
use Rattle.fly_ports.specs.MemFiles.{file_with}
use Rattle.fly_ports.specs.declared.memory_files.MemFile.{MemFile}
use Rattle.fly_ports.proofs.MemFilesLemmas.{place-at, place-none, files_with-at, files_with-none, has_room-at, has_room-none}
use Rattle.fly_ports.proofs.memory_files.files.add.Goals as goal

pub returns-in-None-clause-files : goal.returns-in-None-clause-files
returns-in-None-clause-files c =
    let place = rw c.deref.ensures.value at c.in-None.ensures.place in
    sym (files_with-none c.args.files.now.items c.args.path.now c.args.bytes.now (place-none c.args.files.now.items c.args.path.now place))

pub returns-in-None-clause-all : goal.returns-in-None-clause-all
returns-in-None-clause-all c =
    let place = rw c.deref.ensures.value at c.in-None.ensures.place in
    sym (has_room-none c.args.files.now.items c.args.path.now c.args.bytes.now (place-none c.args.files.now.items c.args.path.now place))

pub returns-in-Some-clause-files : goal.returns-in-Some-clause-files
returns-in-Some-clause-files c =
    let place = rw c.deref.ensures.value at c.in-Some.ensures.place in
    let place_is = place-at c.args.files.now.items c.args.path.now c.in-Some.at place in
    let longer = files_with-at c.args.files.now.items c.args.path.now c.args.bytes.now c.in-Some.at c.index_mut-file.result.now place_is.0 place_is.1 in
    let more = ap (λ (file : MemFile). file_with file c.args.bytes.now) c.index_mut-file.ensures.value in
    ap (λ (file : MemFile). set c.args.files.now.items c.in-Some.at file) (c.add.ensures.added ∙ more) ∙ sym longer

pub returns-in-Some-clause-all : goal.returns-in-Some-clause-all
returns-in-Some-clause-all c =
    let place = rw c.deref.ensures.value at c.in-Some.ensures.place in
    let place_is = place-at c.args.files.now.items c.args.path.now c.in-Some.at place in
    let all = has_room-at c.args.files.now.items c.args.path.now c.args.bytes.now c.in-Some.at c.index_mut-file.result.now place_is.0 place_is.1 in
    rw (all, ← c.index_mut-file.ensures.value) c.add.ensures.all
