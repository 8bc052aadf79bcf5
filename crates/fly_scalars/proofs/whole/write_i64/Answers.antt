use Rattle.std.proofs.Common.{ap, sym, ◌∙◌, arith, FitsSigned, w64}
use Rattle.std.proofs.lemmas.Int.{to_z-of_z}
use Rattle.fly_scalars.specs.Whole.{i64_of}
use Rattle.fly_scalars.proofs.WholeLemmas.{i64_reads_back}
use Rattle.fly_scalars.proofs.whole.write_i64.Goals as goal

pub returns-clause-reads_back : goal.returns-clause-reads_back
returns-clause-reads_back c =
    let range : FitsSigned w64 c.args.value = c.ranges.value in
    let text = simp to_z-of_z at c.in_ok-format.ensures.ok in
    ap i64_of text ∙ i64_reads_back c.args.value range
