use Rattle.std.proofs.Common.{rules, ◌↔◌, IsTrue, All, Bor, ℕ, List, map}
use Rattle.std.proofs.Math.ListN.{get_or-map}
use Rattle.std.proofs.lemmas.List.{length-map}
use Rattle.std.proofs.lemmas.List.Elements.{All-map}
use Rattle.fly_docs.specs.Names.{IsId}
use Rattle.fly_docs.proofs.naming.are_ids.Goals as goal

all_now : (ps : List (Bor (List ℕ))) → All IsId (map (λ p. p.now) ps) → All (λ (p : Bor (List ℕ)). IsId p.now) ps
all_now ps ids k d within =
    let now : Bor (List ℕ) → List ℕ = λ p. p.now in
    rw (← get_or-map now ps k d) (ids k d.now (rw length-map within))

pub returns : goal.returns
returns c =
    let each : IsTrue c.all.result ↔ All (λ (p : Bor (List ℕ)). IsId p.now) c.args.parts.now = search rules in
    (λ e. All-map IsId (λ (p : Bor (List ℕ)). p.now) _ (each.0 e), λ ids. each.1 (all_now c.args.parts.now ids))
