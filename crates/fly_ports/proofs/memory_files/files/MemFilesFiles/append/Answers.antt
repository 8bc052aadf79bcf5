use Rattle.std.proofs.Common.{◌≡◌, ap, inl, refl, true, arith, rules}
use Rattle.fly_ports.specs.MemFiles.{FilesMemory, has_room}
use Rattle.fly_ports.proofs.MemFilesLemmas.{known_with-all, known_with-part}
use Rattle.fly_ports.proofs.memory_files.files.MemFilesFiles.append.Goals as goal
use Rattle.fly_ports.proofs.memory_files.files.MemFilesFiles.append.Goals.{else-not-is_bad-via-then-not-is_bad+else-add, else-not-is_bad-via-else-not-is_bad}

pub returns-then-add-clause-ok : goal.returns-then-add-clause-ok
returns-then-add-clause-ok c =
    let fits : has_room c.args.self.now.files c.args.path.now c.args.bytes.now ≡ true = grind arith in
    let same : c.self.inside.files.items ≡ c.args.self.now.files = ap (λ (m : FilesMemory). m.files) c.self.view_is in
    record {
      contents = rw (c.add.ensures.files, same) (known_with-all c.args.self.now.files c.args.path.now c.args.bytes.now fits);
      read_faults = search rules;
      append_faults = search rules;
    }

pub returns-else-not-is_bad-clause-err : goal.returns-else-not-is_bad-clause-err
returns-else-not-is_bad-clause-err c = elim c.else-not-is_bad.branch [
  | else-not-is_bad-via-then-not-is_bad+else-add w ↦
      let same : c.self.inside.files.items ≡ c.args.self.now.files = ap (λ (m : FilesMemory). m.files) c.self.view_is in
      let before : c.self.inside.append_faults ≡ c.args.self.now.append_faults = ap (λ (m : FilesMemory). m.append_faults) c.self.view_is in
      let kept : c.else-not-is_bad.self-inside.append_faults ≡ c.self.inside.append_faults = rw w.self-inside-is refl in
      record {
        part = rw (w.self-inside-is, w.add.ensures.files, same) (known_with-part c.args.self.now.files c.args.path.now c.args.bytes.now);
        read_faults = rw w.self-inside-is (ap (λ (m : FilesMemory). m.read_faults) c.self.view_is);
        append_faults = search rules;
      }
  | else-not-is_bad-via-else-not-is_bad w ↦
      let same : c.self.inside.files.items ≡ c.args.self.now.files = ap (λ (m : FilesMemory). m.files) c.self.view_is in
      let before : c.self.inside.append_faults ≡ c.args.self.now.append_faults = ap (λ (m : FilesMemory). m.append_faults) c.self.view_is in
      let kept : c.else-not-is_bad.self-inside.append_faults ≡ c.self.inside.append_faults = rw w.self-inside-is refl in
      record {
        part = rw (w.self-inside-is, same) (inl refl);
        read_faults = rw w.self-inside-is (ap (λ (m : FilesMemory). m.read_faults) c.self.view_is);
        append_faults = search rules;
      }
]
