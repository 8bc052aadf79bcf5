use Rattle.std.proofs.Common.{refl, sym, subst, ◌∙◌, ap, arith}
use Rattle.std.proofs.lemmas.Bool.{true≢false}
use Rattle.fly_work.specs.Closing.{Claims}
use Rattle.fly_work.specs.Parts.{IsRoundOf}
use Rattle.fly_work.specs.Stages.{asking, claiming}
use Rattle.fly_work.proofs.ClosingLemmas.{any_turn, any_clock, closes-cut, closes-claim, closes-both}
use Rattle.fly_work.proofs.PassLemmas.{claim-due}
use Rattle.fly_work.proofs.closing.close.Goals.{then-not-is_empty+in_ok-write, else-not-is_empty}
use Rattle.fly_work.proofs.closing.close.Goals as goal

pub returns-in_err-write-clause-closes : goal.returns-in_err-write-clause-closes
returns-in_err-write-clause-closes g c = λ t clock v told worker round.
    closes-cut c.from_residual.result c.from_residual.ensures.0
    (c.write.ensures.writes t clock v told worker
    (subst (λ p. IsRoundOf p v told c.args.exec c.args.base c.args.moves) (sym c.requires.own) round)
    (λ none. true≢false (sym (c.is_empty.ensures.1 none) ∙ c.if-not-is_empty.true)))

pub claim-requires-clause-own : goal.claim-requires-clause-own
claim-requires-clause-own g c =
    let store = g.V.Service.store in
    let round = c.requires.round in
    elim c.if-not-is_empty.branch [
      | then-not-is_empty+in_ok-write w ↦
          let wrote = w.in_ok-write.ensures.writes (any_turn c.args.worker) any_clock round.0 round.1 refl
          (subst (λ p. IsRoundOf p round.0 round.1 c.args.exec c.args.base c.args.moves) (sym c.requires.own) round.2)
          (λ none. true≢false (sym (c.is_empty.ensures.1 none) ∙ w.if-not-is_empty.true)) in
          ap (λ s. (store s).plan) w.service-is ∙ wrote.part.acts.plan ∙ c.requires.own
      | else-not-is_empty w ↦ ap (λ s. (store s).plan) w.service-is ∙ c.requires.own
    ]

pub claim-requires-clause-room : goal.claim-requires-clause-room
claim-requires-clause-room g c =
    let store = g.V.Service.store in
    let round = c.requires.round in
    elim c.if-not-is_empty.branch [
      | then-not-is_empty+in_ok-write w ↦
          let wrote = w.in_ok-write.ensures.writes (any_turn c.args.worker) any_clock round.0 round.1 refl
          (subst (λ p. IsRoundOf p round.0 round.1 c.args.exec c.args.base c.args.moves) (sym c.requires.own) round.2)
          (λ none. true≢false (sym (c.is_empty.ensures.1 none) ∙ w.if-not-is_empty.true)) in
          omega (arith, ap (λ s. (store s).spare) w.service-is, wrote.part.acts.room, c.requires.room)
      | else-not-is_empty w ↦ omega (arith, ap (λ s. (store s).spare) w.service-is, c.requires.room)
    ]

pub returns-clause-closes : goal.returns-clause-closes
returns-clause-closes g c = λ t clock v told worker round.
    let S = g.V.Service in
    let args = c.args in
    let after = S.store c.claim.new.service in
    let made = c.claim.ensures.claims in
    elim c.if-not-is_empty.branch [
      | then-not-is_empty+in_ok-write w ↦
          let wrote = w.in_ok-write.ensures.writes t clock v told worker
          (subst (λ p. IsRoundOf p v told args.exec args.base args.moves) (sym c.requires.own) round)
          (λ none. true≢false (sym (c.is_empty.ensures.1 none) ∙ w.if-not-is_empty.true)) in
          closes-both w.write.ensures.alone wrote
          (subst (λ s. Claims (S.alone s) t claiming (S.store s) after clock c.claim.result) w.service-is
          (made t claiming clock worker tt))
      | else-not-is_empty w ↦
          closes-claim
          (subst (λ s. Claims (S.alone s) t (asking v told) (S.store s) after clock c.claim.result) w.service-is
          (made t (asking v told) clock worker
          (claim-due args.plan.now t v told args.exec args.base args.moves round
          (c.is_empty.ensures.0 w.if-not-is_empty.false))))
    ]
